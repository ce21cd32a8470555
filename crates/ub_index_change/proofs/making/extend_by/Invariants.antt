use Rattle.std.proofs.Common.{◌≡◌, ◌≤◌, ◌+◌}
use Rattle.ub_index_change.proofs.Common.{Grows, page_count}
use Rattle.ub_index_change.proofs.making.extend_by.Given as goal

abbrev pub invariant-loop-left : goal.invariant-loop-left
invariant-loop-left g l = record {
  within : l.left ≤ l.fn.by;
  pages : page_count l.pager.store + l.left ≡ page_count l.fn.pager.store + l.fn.by;
  trace : l.pager.trace ≡ l.fn.pager.trace;
  cached : l.pager.cached ≡ l.fn.pager.cached;
  same : l.pager.store ≡ record l.fn.pager.store { pages = l.pager.store.pages; synced = l.pager.store.synced };
  grows : Grows l.fn.pager.store l.pager.store;
}

abbrev pub decreases-loop-left : goal.decreases-loop-left
decreases-loop-left g l = l.left
