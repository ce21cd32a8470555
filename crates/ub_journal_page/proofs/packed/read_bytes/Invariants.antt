use Rattle.std.proofs.Common.{◌≡◌, ◌+◌, ◌-◌, ◌≤◌, length, take, drop}
use Rattle.ub_store.specs.Facts.{IsHonest}
use Rattle.ub_journal_page.specs.inner.Parts.{IsRead, stream}
use Rattle.ub_journal_page.proofs.packed.read_bytes.Given as goal

-- the first so many bytes of the target are filled, and no call failed
abbrev pub invariant-loop-filled : goal.invariant-loop-filled
invariant-loop-filled g l = record {
  facts : g.S.PageStore.facts l.store ≡ g.S.PageStore.facts l.fn.store;
  within : l.filled ≤ length l.target;
  long : length l.target ≡ length l.fn.target;
  place : l.cursor.place ≡ l.fn.cursor.place + l.filled;
  read : IsHonest (g.S.PageStore.facts l.fn.store) → IsRead (g.S.PageStore.facts l.fn.store).pages l.cursor.place l.cursor.page;
  bytes : IsHonest (g.S.PageStore.facts l.fn.store) → take l.filled l.target ≡ take l.filled (drop l.fn.cursor.place (stream (g.S.PageStore.facts l.fn.store).pages));
}

-- how many bytes are left
abbrev pub decreases-loop-filled : goal.decreases-loop-filled
decreases-loop-filled g l = length l.target - l.filled
