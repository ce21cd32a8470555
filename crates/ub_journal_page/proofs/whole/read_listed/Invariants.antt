use Rattle.std.proofs.Common.{◌≡◌, take, drop}
use Rattle.ub_store.specs.Facts.{IsHonest}
use Rattle.ub_journal.specs.Image.{numbers_of}
use Rattle.ub_journal_page.specs.Whole.{pages_in}
use Rattle.ub_journal_page.proofs.whole.read_listed.Given as goal

-- the first so many pages are those of the first so many numbers, and no call failed
abbrev pub invariant-loop-i : goal.invariant-loop-i
invariant-loop-i g l = record {
  facts : g.S.PageStore.facts l.store ≡ g.S.PageStore.facts l.fn.store;
  numbers : numbers_of l.changes.items ≡ take l.i l.numbers;
  read : IsHonest (g.S.PageStore.facts l.fn.store) → pages_in l.changes.items ≡ take l.i (drop l.from (g.S.PageStore.facts l.fn.store).pages);
}
