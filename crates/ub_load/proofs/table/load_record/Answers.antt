use Rattle.std.proofs.Common.{◌≡◌, ℕ, None, Some, List, length, ap, ◌∙◌}
use Rattle.std.proofs.lemmas.Result.{err_from_is_err_and}
use Rattle.csv.specs.Records.{fields_of}
use Rattle.ub_load.specs.LoadedTable.{row_of}
use Rattle.ub_load.specs.Refusals.{content_refusal}
use Rattle.ub_load.proofs.PutFacts.{accepted_row}
use Rattle.ub_load.proofs.RefusalFacts.{reads_refused, record_is_fine, record_past_last, record_with_bad_content}
use Rattle.ub_load.proofs.table.load_record.Goals as goal
use Rattle.ub_table.specs.Value.{axes_of}
use Rattle.ub_table.specs.declared.axes.Axes.{Axes}
use Rattle.ub_table.specs.declared.schema.Schema.{Schema}

pub read_row-requires-clause-few_dims : goal.read_row-requires-clause-few_dims
read_row-requires-clause-few_dims c =
    let s : Schema = c.args.schema.now in
    rw c.axes-axes.ensures s.counts.few_dims

pub read_row-requires-clause-few_columns : goal.read_row-requires-clause-few_columns
read_row-requires-clause-few_columns c =
    let s : Schema = c.args.schema.now in
    let width : length c.columns-width.result.now ≡ length s.columns = ap length c.columns-width.ensures.columns in
    rw (c.axes-axes.ensures, width) s.counts.few_measures

pub returns-in_err-row : goal.returns-in_err-row
returns-in_err-row c =
    let s : Schema = c.args.schema.now in
    let r : ℕ × List (List ℕ) = (c.args.number, fields_of c.args.fields.now) in
    let p = err_from_is_err_and c.from_residual.result c.from_residual.ensures.1 in
    let width : length c.columns-width.result.now ≡ length s.columns = ap length c.columns-width.ensures.columns in
    let bad : content_refusal (axes_of s) (length s.columns) r ≡ Some c.in_err-row.field-0.0 = rw (c.axes-axes.ensures, width) at c.in_err-row.ensures.refused in
    reads_refused p.1 p.2 (record_with_bad_content (axes_of s) (length s.columns) r c.in_err-row.field-0.0 bad)

pub returns-then-number-gt-MAX_ROW_NUMBER : goal.returns-then-number-gt-MAX_ROW_NUMBER
returns-then-number-gt-MAX_ROW_NUMBER c =
    let s : Schema = c.args.schema.now in
    let r : ℕ × List (List ℕ) = (c.args.number, fields_of c.args.fields.now) in
    let width : length c.columns-width.result.now ≡ length s.columns = ap length c.columns-width.ensures.columns in
    let good : content_refusal (axes_of s) (length s.columns) r ≡ None = rw (c.axes-axes.ensures, width) at c.in_ok-row.ensures.accepted in
    record { value = tt; accepted = tt; refused = record_past_last (axes_of s) (length s.columns) r c.if-number-gt-MAX_ROW_NUMBER.true good }

pub returns : goal.returns
returns c =
    let s : Schema = c.args.schema.now in
    let r : ℕ × List (List ℕ) = (c.args.number, fields_of c.args.fields.now) in
    let width : length c.columns-width.result.now ≡ length s.columns = ap length c.columns-width.ensures.columns in
    let good : content_refusal (axes_of s) (length s.columns) r ≡ None = rw (c.axes-axes.ensures, width) at c.in_ok-row.ensures.accepted in
    let last = c.if-number-gt-MAX_ROW_NUMBER.false in
    let is = c.in_ok-row.ensures.value ∙ ap (λ (a : Axes). row_of a r) c.axes-axes.ensures in
    record {
      value = (is, rw is (accepted_row (axes_of s) (length s.columns) c.args.number (fields_of c.args.fields.now) s.counts.few_dims s.counts.covers_dims s.counts.few_measures c.requires.0 last good));
      accepted = record_is_fine (axes_of s) (length s.columns) r last good;
      refused = tt;
    }
