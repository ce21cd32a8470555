use Rattle.std.proofs.Common.{◌≡◌, ◌*◌, ◌≤◌, ◌++◌, length, drop}
use Rattle.ub_store.specs.Facts.{IsHonest}
use Rattle.ub_journal_page.specs.Pages.{changes_bytes}
use Rattle.ub_journal_page.specs.inner.Parts.{IsRead, stream}
use Rattle.ub_journal_page.proofs.PackedFacts.{AreSound}
use Rattle.ub_journal_page.proofs.packed.read_packed.Given as goal

-- the first bytes are those of the changes so far, and no call failed
abbrev pub invariant-loop-n : goal.invariant-loop-n
invariant-loop-n g l = record {
  facts : g.S.PageStore.facts l.store ≡ g.S.PageStore.facts l.fn.store;
  pages : length (g.S.PageStore.facts l.fn.store).pages ≡ l.pages;
  count : length l.read.items ≡ l.n;
  few : l.cursor.place ≤ 4104 * l.n;
  sound : AreSound l.read.items;
  read : IsHonest (g.S.PageStore.facts l.fn.store) → IsRead (g.S.PageStore.facts l.fn.store).pages l.cursor.place l.cursor.page;
  bytes : IsHonest (g.S.PageStore.facts l.fn.store) → stream (g.S.PageStore.facts l.fn.store).pages ≡ changes_bytes l.read.items ++ drop l.cursor.place (stream (g.S.PageStore.facts l.fn.store).pages);
}
