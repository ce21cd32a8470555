use Rattle.std.proofs.Common.{◌≡◌, ◌*◌, ℕ, List, min, length, take, drop}
use Rattle.ub_store.specs.Facts.{IsHonest}
use Rattle.ub_journal_page.specs.Whole.{number_pages}
use Rattle.ub_journal_page.specs.inner.Parts.{HasNumbers}
use Rattle.ub_journal_page.proofs.whole.read_numbers.Given as goal

-- the first so many pages are spelled of the numbers so far, and no call failed
abbrev pub invariant-loop-k : goal.invariant-loop-k
invariant-loop-k g l = record {
  facts : g.S.PageStore.facts l.store ≡ g.S.PageStore.facts l.fn.store;
  changes : l.changes ≡ l.fn.changes;
  count : length l.numbers.items ≡ min (1024 * l.k) l.changes;
  read : IsHonest (g.S.PageStore.facts l.fn.store) → take l.k (drop 3 (g.S.PageStore.facts l.fn.store).pages) ≡ number_pages l.k l.numbers.items;
  exact : IsHonest (g.S.PageStore.facts l.fn.store) → (ns : List ℕ) → HasNumbers l.changes (g.S.PageStore.facts l.fn.store).pages ns
      → l.numbers.items ≡ take (1024 * l.k) ns;
}
