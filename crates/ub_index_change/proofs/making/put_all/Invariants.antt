use Rattle.std.proofs.Common.{◌≡◌, ℕ, take}
use Rattle.ub_index_change.proofs.Common.{AreIndexPages, AreOnce, IsHonest, KeepsChecked, PutsSheets, Stand}
use Rattle.ub_index_change.proofs.making.put_all.Given as goal

abbrev pub invariant-loop-sheet : goal.invariant-loop-sheet
invariant-loop-sheet g l = record {
  trace : l.pager.trace ≡ l.fn.pager.trace;
  kept : PutsSheets l.sheets l.fn.pager.store l.pager.store;
  stand : AreOnce l.sheets → IsHonest l.fn.pager.store → Stand l.pager.store.pages (take l.sheet-index l.sheets);
  checked : (last : ℕ) → AreIndexPages last l.sheets → KeepsChecked last l.fn.pager l.pager;
  same : l.pager.store ≡ record l.fn.pager.store { pages = l.pager.store.pages; synced = l.pager.store.synced };
}
