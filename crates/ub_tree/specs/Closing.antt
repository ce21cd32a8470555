-- What closing a tree writes, and what it can answer.
use Rattle.std.specs.Prelude.{◌≡◌, false, IsTrue, Result, Err, IfErr, IfOk, IsErrAnd, IsOkAnd}
use Rattle.ub_tree.specs.Common.{AreSoundPages, Failed as HasFailed, Header, IsHonest, IsSound, page_count, region_count, Rejected, Store, StoreFacts}
use Rattle.ub_tree.specs.Common.{TreeFault, TreeView}
use Rattle.ub_tree.specs.Effects.{written_store}
use Rattle.ub_writing.specs.Closing.{IsClosed, IsSaved, IsUnclosed}
use Rattle.ub_store.specs.declared.fault.StoreFault.TheVariants as store

-- the header of a tree that is closed
abbrev pub header_of : TreeView → Header
header_of t = record {
  schema = t.schema;
  next = t.next;
  rows = t.rows;
  regions = region_count t;
  root = t.inner.index.root;
  levels = t.inner.index.levels;
  unclean = false;
}

-- what closing can answer: NoPage only where the store has no page for the header
abbrev pub IsCloseFault : TreeView → TreeFault → Type 0
IsCloseFault t HasFailed = IsTrue t.is_failed
IsCloseFault t (Store store.Device) = IsTrue t.store.can_fail
IsCloseFault t (Store store.NoPage) = page_count t.store ≡ 0
IsCloseFault t _ = ⊥

-- a tree was to be closed, and this was answered: its store; or why not, with the store, whose header is as it was unless all other pages last
pub record Closes {S : Type 0} (facts : S → StoreFacts) (old : TreeView) (result : Result S (Rejected S TreeFault)) : Type 0 where
  pub closed : IsSound old → IfOk result (λ s. IsHonest (facts s) × AreSoundPages (facts s).pages old.schema old.placed old.next)
  pub table : IsTrue old.is_changed → IfOk result (λ s. IsSaved old.store (facts s) × (IsHonest old.store → IsClosed (header_of old) old.store (facts s)))
  pub unchanged : old.is_changed ≡ false → old.is_failed ≡ false → IsOkAnd result (λ s. facts s ≡ old.store)
  pub failed : IsTrue old.is_failed → IsErrAnd result (λ refused. (refused.fault ≡ HasFailed) × (facts refused.store ≡ old.store))
  pub first : IsHonest old.store → IfErr result (λ refused. IsUnclosed old.store (facts refused.store))
  pub left : IfErr result (λ refused. facts refused.store ≡ written_store {A = S} (Err refused.fault) old.store (facts refused.store))
  pub refused : IfErr result (λ refused. IsCloseFault old refused.fault)
