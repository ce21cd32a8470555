use Rattle.ub_syntax.specs.Tree.{select_of}
use Rattle.ub_parser.proofs.GroupFacts.{ungrouped_iff}
use Rattle.ub_parser.proofs.grouping.is_ungrouped.Goals as goal

pub returns-in-Column : goal.returns-in-Column
returns-in-Column c =
    ungrouped_iff c.args.source.now (select_of c.args.syntax.now) c.args.item.now c.in-Column.name c.as_slice.result.now c.is_grouped.result c.in-Column.is c.as_slice.ensures c.is_grouped.ensures
