use Rattle.std.proofs.Common.{rules}
use Rattle.ub_answer.proofs.GroupedFacts.{was_none}
use Rattle.ub_answer.proofs.groups.add_to_group.Goals as goal

pub returns : goal.returns
returns c = record {
  before = c.tally_of_none-tally.result;
  after = c.add_row-2.new.tally;
  was = was_none c.args.items.now _ c.tally_of_none-tally.result c.in_default.ensures.value c.tally_of_none-tally.ensures;
  cells = c.add_row-2.ensures.cells;
  narrow = c.add_row-2.ensures.narrow;
  long = c.add_row-2.ensures.long;
  groups = λ key. let at = c.in_ok-insert.ensures.updates.0 key in let same = c.get_mut.follows.holds-at-none in search (rules, at, same);
}
