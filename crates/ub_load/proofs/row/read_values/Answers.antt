use Rattle.std.proofs.Common.{rules, sym, refl, arith}
use Rattle.std.proofs.lemmas.Int.{to_z-of_z}
use Rattle.std.specs.Int.{w64, w128}
use Rattle.std.specs.Prelude.{FitsSigned}
use Rattle.std.proofs.lemmas.Result.{err_from_is_err_and}
use Rattle.csv.specs.Records.{fields_of}
use Rattle.ub_load.specs.Refusals.{field_refusal}
use Rattle.ub_load.proofs.RowFacts.{row_of_none, row_with_coordinate, row_with_measure, some_coordinate, told_coordinate}
use Rattle.ub_load.proofs.RefusalFacts.{each-more, each-refused, reads_refused}
use Rattle.ub_load.proofs.row.read_values.Goals as goal
use Rattle.ub_load.proofs.row.read_values.Goals.{then-place-axes, else-place-axes}

pub loop-place-init : goal.loop-place-init
loop-place-init c = record { row = sym (row_of_none c.args.axes c.args.number); accepted = refl }

pub returns-in_err-value : goal.returns-in_err-value
returns-in_err-value c =
    let p = err_from_is_err_and c.from_residual.result c.from_residual.ensures.1 in
    reads_refused p.1 p.2
    (each-refused (field_refusal c.args.axes c.args.number) (fields_of c.args.fields.now) c.loop-place.place c.field_at.result.now c.in_err-value.field-0.0 c.field_at.ensures
    c.loop-place.invariant.accepted c.in_err-value.ensures)

pub loop-place-preserved : goal.loop-place-preserved
loop-place-preserved c =
    let fs = fields_of c.args.fields.now in
    let value = c.in_ok-value.ensures.1 in
    let fit : FitsSigned w64 c.in_ok-value.value = search rules in
    let same = to_z-of_z w64 c.in_ok-value.value fit in
    record {
      row = elim c.if-place-axes.branch [
        | then-place-axes w ↦
            let wide = to_z-of_z w128 w.from.result (search rules) in
            let of = rw (wide, w.from.ensures, same) at w.coordinate_at.ensures in
            row_with_coordinate c.args.axes c.args.number c.loop-place.place fs c.field_at.result.now c.loop-place.row c.if-place-axes.row w.unwrap-coordinate.result c.field_at.ensures
            c.loop-place.invariant.row w.if-place-axes.true c.requires.few_dims
            (told_coordinate c.args.axes c.loop-place.place c.field_at.result.now c.in_ok-value.value w.coordinate_at.result w.unwrap-coordinate.result value of w.unwrap-coordinate.ensures) w.row-is
        | else-place-axes w ↦
            row_with_measure c.args.axes c.args.number c.loop-place.place fs c.field_at.result.now c.loop-place.row c.if-place-axes.row c.in_ok-value.value c.field_at.ensures
            c.loop-place.invariant.row w.if-place-axes.false (omega arith) value (rw same at w.row-is)
      ];
      accepted = each-more (field_refusal c.args.axes c.args.number) fs c.loop-place.place c.field_at.result.now c.field_at.ensures
          c.loop-place.invariant.accepted c.in_ok-value.ensures.0;
    }

pub unwrap-coordinate-requires : goal.unwrap-coordinate-requires
unwrap-coordinate-requires c =
    let fit : FitsSigned w64 c.in_ok-value.value = search rules in
    let same = to_z-of_z w64 c.in_ok-value.value fit in
    let wide = to_z-of_z w128 c.from.result (search rules) in
    let of = rw (wide, c.from.ensures, same) at c.coordinate_at.ensures in
    some_coordinate c.args.axes c.loop-place.place c.in_ok-value.value c.coordinate_at.result c.if-place-axes.true c.in_ok-value.ensures.2 of
