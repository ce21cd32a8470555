-- Where the tests before it find nothing, what a test finds is the first misfit.
use Rattle.ub_syntax.specs.Tree.{select_of}
use Rattle.ub_parser.proofs.MisfitFacts.{all_known, named, no_many, no_table, no_column}
use Rattle.ub_parser.proofs.check.unknown_name.Goals as goal

pub returns-clause-first : goal.returns-clause-first
returns-clause-first c =
    let source = c.args.source.now in
    let schema = c.args.schema.now in
    let s = select_of c.args.syntax.now in
    named source schema s (no_many source schema s c.requires.few)
    (no_table source schema s c.is_unknown_table.result c.is_unknown_table.ensures c.if-is_unknown_table.false) (no_column source schema s c.in_default.ensures)

pub returns-clause-known : goal.returns-clause-known
returns-clause-known c = all_known c.args.source.now c.args.schema.now (select_of c.args.syntax.now) c.in_default.ensures
