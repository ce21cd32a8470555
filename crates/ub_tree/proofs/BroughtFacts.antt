-- What bringing a table over leaves of the two stores, and why it is refused, as the upgrade tells it.
use Rattle.std.proofs.Common.{rules, ◌≡◌, ◌∙◌, inl, inr, ℕ, Some, None, Option, Err, ap, slice_get, sym, subst}
use Rattle.ub_tree.proofs.Common.{AreLevels, BringsTable, HasOldHeader, index_of, IsBringFault, IsHeadFault, IsHonest, IsLeftBy, IsNewFault, IsNotTaken}
use Rattle.ub_tree.proofs.Common.{IsRootRefused, IsTableFault, IsUpgradeFault, IsUpgradePassing, numbers_of, OldHeader, page_in, PageFault, pager_view}
use Rattle.ub_tree.proofs.Common.{PagerView, StandsOver, StopsTree, StoreFacts, top, TreeView, untouched, upgrade_fault, written}
use Rattle.ub_tree.proofs.UpgradeFacts.{over}
use Rattle.ub_upgrade.specs.Building.{IsPassing}
use Rattle.ub_upgrade.specs.Effects.{CountsNew, counted_old}
use Rattle.ub_upgrade.specs.declared.fault.UpgradeFault.{UpgradeFault}
use Rattle.ub_store.specs.declared.fault.StoreFault.TheVariants as store
use Rattle.ub_upgrade.specs.declared.fault.UpgradeFault.TheVariants as upgrade

-- ---- what passes

pub pages_pass : (e : UpgradeFault) → IsPassing e → IsUpgradePassing (upgrade_fault e)
pages_pass e h = search rules

-- pages that weren't brought over
bring_left : (e : UpgradeFault) (from from_now old new : StoreFacts) → from_now ≡ record from { failed_reads = counted_old {A = UpgradeFault} (Err e) from.failed_reads } → new ≡ written old new
    → CountsNew {A = UpgradeFault} (Err e) old new → IsLeftBy (upgrade_fault e) from from_now old new
bring_left e from from_now old new h k j = search rules

pub table_refused : {U : Type 0} (e : UpgradeFault) (from from_now : StoreFacts) (old new : PagerView) → BringsTable {A = U} from from_now old new (Err e)
    → IsLeftBy (upgrade_fault e) from from_now old.store new.store
table_refused e from from_now old new h = bring_left e from from_now old.store new.store h.read (ap (λ (p : PagerView). p.store) h.same) h.counts

-- ---- why a table isn't brought over

head_fault : (e : UpgradeFault) (from new : StoreFacts) → IsHeadFault from e → IsUpgradeFault from new (upgrade_fault e)
head_fault e from new h = search rules

new_fault : (e : UpgradeFault) (from new : StoreFacts) → IsNewFault new e → IsUpgradeFault from new (upgrade_fault e)
new_fault e from new h = search rules

module _ (head : OldHeader) (from new : StoreFacts) (has : HasOldHeader from head) where
  bring_fault : (e : UpgradeFault) → IsBringFault head from new e → IsUpgradeFault from new (upgrade_fault e)
  bring_fault (upgrade.Page n fault) h = λ honest _. (h.1, h.2 honest, inr (head, has, inl (h.0, h.3)))
  bring_fault (upgrade.Old store.Device) h = inl h
  bring_fault (upgrade.Old store.NoPage) h = λ _ _. (h.1, h.2, inr (head, has, inl (h.0, h.3)))
  bring_fault (upgrade.Old store.BadSize) h = absurd h
  bring_fault (upgrade.New store.Device) h = inr h
  bring_fault (upgrade.New store.NoPage) h = absurd h
  bring_fault (upgrade.New store.BadSize) h = (head, has, h.0, h.1)
  bring_fault e h = tt

  -- in version 2 a tree stands over the old pages as they are
  abbrev t : TreeView
  t = over head (index_of head.header) (pager_view from untouched)

  module _ (second : head.version ≡ 2) where
    stands_there : IsHonest from → StandsOver from head t
    stands_there h = search rules

    levels_are : AreLevels 2 (numbers_of head.header)
    levels_are = subst (λ (n : ℕ). AreLevels n (numbers_of head.header)) second has.is.header.numbers.levels

    -- a check stops at the root, where that isn't taken
    stops_at_root : (fault : Option PageFault) → IsNotTaken t.inner.index.last from.pages head.header.levels (top head.header.root) None fault → StopsTree t head.header.root fault
    stops_at_root fault h = search rules

  root_refused : (e : UpgradeFault) → IsRootRefused head from new e → IsUpgradeFault from new (upgrade_fault e)
  root_refused (upgrade.Page n fault) h = λ honest new_honest.
      let r = h honest new_honest in (
        page_in from.pages head.header.root,
        ap (slice_get from.pages) r.1 ∙ r.2.0,
        inr (head, has, inr (t, stands_there r.0 honest, inl (subst (λ (m : ℕ). StopsTree t m (Some fault)) (sym r.1) (stops_at_root r.0 (Some fault) r.2)))),
      )
  root_refused (upgrade.New store.NoPage) h = λ honest new_honest.
      let r = h honest new_honest in (head.header.root, r.1, inr (head, has, inr (t, stands_there r.0 honest, stops_at_root r.0 None r.1)))
  root_refused e h = absurd h

pub table_fault : (e : UpgradeFault) (from new : StoreFacts) → IsTableFault from new e → IsUpgradeFault from new (upgrade_fault e)
table_fault e from new h = search (rules, bring_fault, head_fault, new_fault, root_refused)
