use Rattle.std.proofs.Common.{map, ◌∙◌, arith}
use Rattle.std.proofs.Math.ListN.{length-set}
use Rattle.std.proofs.lemmas.Result.{err_from_is_err_and}
use Rattle.csv.specs.Records.{fields_of}
use Rattle.ub_load.specs.Field.{trimmed}
use Rattle.ub_load.specs.Refusals.{name_refusal}
use Rattle.ub_load.proofs.HeaderFacts.{get-map, name_fine, name_refused, more_names}
use Rattle.ub_load.proofs.RefusalFacts.{each-more, each-refused, reads_refused}
use Rattle.ub_load.proofs.header.read_names.Goals as goal

pub returns-in_err-names : goal.returns-in_err-names
returns-in_err-names c =
    let all = map trimmed (fields_of c.args.header.now) in
    let at = get-map trimmed (fields_of c.args.header.now) c.loop-place.place c.field_at.result.now c.field_at.ensures in
    let p = err_from_is_err_and c.from_residual.result c.from_residual.ensures.1 in
    reads_refused p.1 p.2
    (each-refused (name_refusal all) all c.loop-place.place (trimmed c.field_at.result.now) c.in_err-names.field-0.0 at c.loop-place.invariant.accepted
    (name_refused all c.loop-place.place (trimmed c.field_at.result.now) _ c.in_err-names.field-0.0 c.loop-place.invariant.names c.in_err-names.ensures.refused c.in_err-names.ensures.column))

pub loop-place-preserved : goal.loop-place-preserved
loop-place-preserved c =
    let all = map trimmed (fields_of c.args.header.now) in
    let at = get-map trimmed (fields_of c.args.header.now) c.loop-place.place c.field_at.result.now c.field_at.ensures in
    record {
      long = length-set c.loop-place.names c.loop-place.place c.in_ok-names.field-0 ∙ c.loop-place.invariant.long;
      names = more_names c.loop-place.names all c.loop-place.place (trimmed c.field_at.result.now) c.in_ok-names.field-0 at c.in_ok-names.ensures.name (omega (arith, c.loop-place.invariant.long)) c.loop-place.invariant.names;
      accepted = each-more (name_refusal all) all c.loop-place.place (trimmed c.field_at.result.now) at c.loop-place.invariant.accepted
          (name_fine all c.loop-place.place (trimmed c.field_at.result.now) _ c.loop-place.invariant.names c.in_ok-names.ensures.accepted);
    }
