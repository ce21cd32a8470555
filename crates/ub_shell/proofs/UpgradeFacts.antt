-- The tree that is made anew in memory of a table file of an older version.
use Rattle.std.proofs.Common.{◌≡◌, ◌≤◌, ℕ, List, [], ◌∷◌, Some, length, slice_get, ap, arith, refl}
use Rattle.std.specs.Prelude.{IsTrue, is_some}
use Rattle.std.proofs.lemmas.Bool.{false≢true}
use Rattle.ub_shell.specs.Upgrading.{IsAfoot, IsTableAnew, IsUpgradeOf}
use Rattle.ub_store.specs.Facts.{StoreFacts, IsHonest, memory_facts}
use Rattle.ub_store.specs.declared.fault.StoreFault.TheVariants as store
use Rattle.ub_tree.proofs.ClosingFacts.{sound_some}
use Rattle.ub_tree.specs.Closing.{header_of, IsCloseFault}
use Rattle.ub_tree.specs.Stored.{AreSoundPages}
use Rattle.ub_tree.specs.Upgrade.{HasWorked, IsUpgraded}
use Rattle.ub_tree.specs.View.{TreeView, IsSound, region_count}
use Rattle.ub_tree.specs.declared.fault.TreeFault.{TreeFault}
use Rattle.ub_tree.specs.declared.fault.TreeFault.TheVariants as tree
use Rattle.ub_writing.specs.Closing.{IsClosed, IsSaved}

-- ---- the tree in memory

-- it counts as changed and works
pub afoot : (from from_now : StoreFacts) (held : List (List ℕ)) (t : TreeView) → IsUpgraded from (memory_facts held) t → HasWorked from from_now (memory_facts held) t.store → IsAfoot t
afoot from from_now held t is worked = record {
  changed = is.changed;
  working = is.working;
  honest = ap (λ (s : StoreFacts). s.honest) worked.new_is;
  unfailing = ap (λ (s : StoreFacts). s.can_fail) worked.new_is;
}

-- and it is sound, so closing it writes its header
pub closed_anew : (from : StoreFacts) (t : TreeView) (held : List (List ℕ)) (rows regions : ℕ) → IsUpgradeOf from t → IsAfoot t
    → (IsTrue t.is_changed → IsSaved t.store (memory_facts held) × (IsHonest t.store → IsClosed (header_of t) t.store (memory_facts held)))
    → (IsSound t → IsHonest (memory_facts held) × AreSoundPages held t.schema t.placed t.next) → rows ≡ t.rows → regions ≡ region_count t
    → IsTableAnew from rows regions held
closed_anew from t held rows regions is under table closed rows_are regions_are = record {
  tree = t;
  upgrade = is;
  headed = (table under.changed).1 under.honest;
  sound = is.upgraded.sound refl;
  closed = (closed (is.upgraded.sound refl)).1;
  rows_are = rows_are;
  regions_are = regions_are;
}

pub some_page : (held : List (List ℕ)) (page : List ℕ) → slice_get held 0 ≡ Some page → 1 ≤ length held
some_page [] page is = absurd (false≢true (ap is_some is))
some_page (first ∷ held) page is = omega arith

-- closing isn't refused
pub always_closed : (from : StoreFacts) (t : TreeView) (fault : TreeFault) → IsUpgradeOf from t → IsAfoot t → ¬ (IsCloseFault t fault)
always_closed from t tree.Memory is under refused = absurd refused
always_closed from t tree.Failed is under refused = let works = under.working in cc
always_closed from t (tree.Store store.Device) is under refused = let never = under.unfailing in cc
always_closed from t (tree.Store store.NoPage) is under refused = sound_some t (is.upgraded.sound refl) refused
always_closed from t (tree.Store store.BadSize) is under refused = absurd refused
always_closed from t (tree.Store store.Memory) is under refused = absurd refused
always_closed from t tree.Full is under refused = absurd refused
always_closed from t (tree.Page page fault) is under refused = absurd refused
