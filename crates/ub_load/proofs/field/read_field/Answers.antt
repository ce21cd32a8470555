use Rattle.std.proofs.Common.{sym}
use Rattle.std.proofs.lemmas.Bool.{false≢true}
use Rattle.ub_load.proofs.FieldFacts.{out_of_range}
use Rattle.ub_load.proofs.field.read_field.Goals as goal

pub returns-in_default-2 : goal.returns-in_default-2
returns-in_default-2 c =
    let text = c.trim_spaces-text.ensures in
    let valid = rw text at c.in_default.ensures.valid in
    out_of_range c.args.axes c.args.row c.args.place c.args.field.now (rw text at (sym c.if-not-is_number.ensures)) (λ word. false≢true (valid.1 word))
