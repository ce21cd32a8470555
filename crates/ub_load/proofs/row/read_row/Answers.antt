use Rattle.std.proofs.Common.{sym, ◌∙◌}
use Rattle.csv.specs.Records.{fields_of}
use Rattle.ub_load.proofs.RefusalFacts.{content_is_of_fields, record_of_other_length}
use Rattle.ub_load.proofs.row.read_row.Goals as goal

pub returns-then-len-width : goal.returns-then-len-width
returns-then-len-width c = record {
  value = tt;
  accepted = tt;
  refused = record_of_other_length c.args.axes c.args.width c.args.number (fields_of c.args.fields.now) (λ e. c.if-len-width.true (c.len.ensures ∙ e));
}

pub returns : goal.returns
returns c =
    rw (content_is_of_fields c.args.axes c.args.width c.args.number (fields_of c.args.fields.now) (sym c.len.ensures ∙ c.if-len-width.false))
    c.read_values.ensures
