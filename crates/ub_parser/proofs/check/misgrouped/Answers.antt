-- Where the tests before it find nothing, what a test finds is the first misfit.
use Rattle.std.proofs.Common.{ap}
use Rattle.ub_lexer.specs.declared.token.Token.{Token}
use Rattle.ub_syntax.specs.Tree.{select_of}
use Rattle.ub_parser.proofs.MisfitFacts.{first_grouped, first_selected, no_grouped, no_misfit, no_selected}
use Rattle.ub_parser.proofs.check.misgrouped.Goals as goal

pub returns-in-Some : goal.returns-in-Some
returns-in-Some c =
    first_grouped c.args.source.now c.args.schema.now (select_of c.args.syntax.now) c.requires.named
    c.in-Some.token c.in-Some.ensures.0 c.in-Some.ensures.1

pub returns-in-Some-not_selected : goal.returns-in-Some-not_selected
returns-in-Some-not_selected c =
    let source = c.args.source.now in
    let schema = c.args.schema.now in
    let s = select_of c.args.syntax.now in
    first_selected source schema s c.requires.named (no_grouped source schema s c.in_default.ensures) c.in-Some-not_selected.key c.first_token.result.from
    c.in-Some-not_selected.ensures (ap (λ (t : Token). t.from) c.first_token.ensures)

pub returns : goal.returns
returns c =
    let source = c.args.source.now in
    let schema = c.args.schema.now in
    let s = select_of c.args.syntax.now in
    no_misfit source schema s c.requires.named (no_grouped source schema s c.in_default.ensures) (no_selected source schema s c.in_default-not_selected.ensures)
