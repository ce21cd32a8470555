use Rattle.std.proofs.Common.{◌≡◌, ◌∙◌, ◌∷◌, ℕ, List, [], ap, arith, inr, length, refl, sym}
use Rattle.std.proofs.lemmas.List.{length-map}
use Rattle.std.proofs.lemmas.Result.{err_from_is_err_and}
use Rattle.csv.specs.Records.{fields_of}
use Rattle.ub_load.specs.Appending.{place_in}
use Rattle.ub_load.specs.declared.fault.LoadFault.TheVariants.{Memory}
use Rattle.ub_load.specs.Field.{trimmed}
use Rattle.ub_load.specs.LoadedTable.{columns_of}
use Rattle.ub_load.proofs.NamedFacts.{heading_few, places_inside}
use Rattle.ub_load.specs.inner.Records.{bytes_of}
use Rattle.ub_load.proofs.ReadingFacts.{read_none, read_one}
use Rattle.ub_load.proofs.RowsFacts.{all_read, reading_full, reading_none, reading_step, reading_unfit, unread}
use Rattle.ub_load.proofs.rows.take_rows.Goals as goal
use Rattle.ub_table.specs.declared.axes.Axes.{Axes}
use Rattle.ub_table.specs.declared.schema.Schema.{Schema}

pub loop-rows-init : goal.loop-rows-init
loop-rows-init c = reading_none c.args.reader.now (fields_of c.args.fields.now) c.args.schema.now c.args.next _ c.new-rows.ensures.items

pub read_placed-requires : goal.read_placed-requires
read_placed-requires c =
    let s : Schema = c.args.schema.now in
    let header = fields_of c.args.fields.now in
    let few = heading_few s.columns (columns_of header) c.requires.fine in
    let width = c.len-width.ensures ∙ sym (length-map header trimmed) in
    let few_dims = s.counts.few_dims in
    let covers = s.counts.covers_dims in
    let measures = s.counts.few_measures in
    let dims : c.axes-axes.result.dims ≡ s.dims = ap (λ (a : Axes). a.dims) c.axes-axes.ensures in
    let long : length c.args.places.now ≡ length s.columns = ap (λ (places : List ℕ). length places) c.requires.places ∙ length-map s.columns (place_in (columns_of header)) in
    record {
      few_dims = omega arith;
      covers_dims = omega arith;
      few_columns = omega arith;
      width = omega arith;
      inside = places_inside s.columns (columns_of header) c.args.places.now c.len-width.result c.requires.places width c.requires.fine;
    }

pub returns-in_err-row-clause-refused : goal.returns-in_err-row-clause-refused
returns-in_err-row-clause-refused c =
    let call = c.read_record in
    let r = fields_of call.new.fields in
    let header = fields_of c.args.fields.now in
    let read = read_one bytes_of c.loop-rows.reader call.new.reader c.in_ok-read_record.field-0 r c.in_ok-read_record.ensures.read c.if-branch.true in
    let width = c.len-width.ensures ∙ sym (length-map header trimmed) in
    let p = err_from_is_err_and c.from_residual-in_err-row.result c.from_residual-in_err-row.ensures.1 in
    rw (p.1, p.2) (reading_unfit c.loop-rows.invariant call.new.reader r read c.requires.fine c.axes-axes.result c.len-width.result c.args.places.now c.axes-axes.ensures width c.requires.places
    c.in_err-row.field-0.0 c.in_err-row.ensures.refused)

pub returns-then-left-number-clause-refused : goal.returns-then-left-number-clause-refused
returns-then-left-number-clause-refused c =
    let call = c.read_record in
    let r = fields_of call.new.fields in
    let header = fields_of c.args.fields.now in
    let read = read_one bytes_of c.loop-rows.reader call.new.reader c.in_ok-read_record.field-0 r c.in_ok-read_record.ensures.read c.if-branch.true in
    let width = c.len-width.ensures ∙ sym (length-map header trimmed) in
    reading_full c.loop-rows.invariant call.new.reader r read c.requires.fine c.axes-axes.result c.len-width.result c.args.places.now c.axes-axes.ensures width c.requires.places
    c.saturating_sub-left.result c.saturating_sub-left.ensures c.if-left-number.true c.in_ok-row.ensures.accepted

pub loop-rows-preserved : goal.loop-rows-preserved
loop-rows-preserved c =
    let call = c.read_record in
    let r = fields_of call.new.fields in
    let header = fields_of c.args.fields.now in
    let read = read_one bytes_of c.loop-rows.reader call.new.reader c.in_ok-read_record.field-0 r c.in_ok-read_record.ensures.read c.if-branch.true in
    let width = c.len-width.ensures ∙ sym (length-map header trimmed) in
    reading_step c.loop-rows.invariant call.new.reader r read c.requires.fine c.axes-axes.result c.len-width.result c.args.places.now c.axes-axes.ensures width c.requires.places
    c.saturating_sub-left.result c.saturating_sub-left.ensures c.in_ok-row.row _ c.if-left-number.false c.in_ok-row.ensures.accepted c.in_ok-row.ensures.row c.in_ok-row.ensures.suit c.in_ok-push.ensures.items

pub returns-clause-rows : goal.returns-clause-rows
returns-clause-rows c =
    let call = c.read_record in
    let r = fields_of call.new.fields in
    all_read c.loop-rows.invariant call.new.reader r (read_none bytes_of c.loop-rows.reader call.new.reader c.in_ok-read_record.field-0 r c.in_ok-read_record.ensures.read c.if-branch.false) c.requires.fine

pub returns-in_err-read_record-clause-refused : goal.returns-in_err-read_record-clause-refused
returns-in_err-read_record-clause-refused c =
    let p = err_from_is_err_and c.from_residual.result c.from_residual.ensures.1 in
    rw (p.1, p.2) (unread c.args.reader.now (fields_of c.args.fields.now ∷ []) c.args.schema.now c.args.next c.in_err-read_record.field-0.0 c.in_err-read_record.ensures.refused)

pub returns-in_err-push-clause-refused : goal.returns-in_err-push-clause-refused
returns-in_err-push-clause-refused c =
    let p = err_from_is_err_and c.from_residual-in_err-push.result c.from_residual-in_err-push.ensures.1 in
    rw (p.1, p.2) (unread c.args.reader.now (fields_of c.args.fields.now ∷ []) c.args.schema.now c.args.next Memory (inr refl))

pub returns-clause-suit : goal.returns-clause-suit
returns-clause-suit c = c.loop-rows.invariant.suit
