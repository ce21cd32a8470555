use Rattle.std.proofs.Common.{◌≡◌, ◌≤◌, ◌<◌, max, ℕ, slice_get}
use Rattle.ub_upgrade.proofs.Common.{AddsPages, HasNotFailed, IsHonest, page_count}
use Rattle.ub_upgrade.proofs.copying.copy_pages.Given as goal

abbrev pub invariant-loop-n : goal.invariant-loop-n
invariant-loop-n g l = record {
  some : 1 ≤ l.n;
  end : l.n ≤ max 1 (page_count (g.O.PageStore.facts l.fn.old));
  count : page_count l.pager.store ≡ l.n;
  old : g.O.PageStore.facts l.old ≡ g.O.PageStore.facts l.fn.old;
  adds : AddsPages l.fn.pager l.pager;
  counts : HasNotFailed l.fn.pager.store l.pager.store;
  copied : IsHonest (g.O.PageStore.facts l.fn.old) → IsHonest l.fn.pager.store
      → (m : ℕ) → 1 ≤ m → m < l.n → slice_get l.pager.store.pages m ≡ slice_get (g.O.PageStore.facts l.fn.old).pages m;
}
