-- The check of a tree, by that of its table: what it comes to, and that its first fault is one.
use Rattle.std.proofs.Common.{rules, ◌≡◌, ◌<◌, ◌^◌, ◌⊎◌, inl, inr, ℕ, Bool, false, Result, Ok, Err, IfErr, OnOk, ap, refl, sym, ◌∙◌, subst}
use Rattle.ub_tree.proofs.Common.{Answers, Asked, asked_of, ChecksPages, Failed as HasFailed, Full, index_fault, IndexFault, IndexView, IsChecked, IsCheckFault}
use Rattle.ub_tree.proofs.Common.{IsErrAnd, IsFirst, IsFirstFault, IsHonest, IsPassing, IsWell, last_address, Memory, Page, PagerView, Schema, Store, told_of}
use Rattle.ub_tree.proofs.Common.{tree_view, TreeFault, TreeView, walk_taken}
use Rattle.ub_check.specs.Calls.{Checks, IsCheckFault as IsTableFault, asked_in}
use Rattle.ub_check.specs.Checking.{asked_for}
use Rattle.ub_check.specs.declared.checking.Told.{Told}
use Rattle.ub_tree.proofs.EffectFacts.{refused_none}
use Rattle.ub_tree.proofs.SearchFacts.{known_is}
use Rattle.ub_tree.proofs.WellFacts.{sound_well}
use Rattle.ub_check.proofs.OnceFacts as once
use Rattle.ub_index.specs.declared.fault.IndexFault.TheVariants as index
use Rattle.ub_store.specs.declared.fault.StoreFault.TheVariants as store

-- the first fault of a tree's check is one
module _ (t : TreeView) (small : t.inner.index.last < 2 ^ 128) where
  abbrev as_told : IndexFault → TreeFault
  as_told (index.Page n fault) = Page n fault
  as_told (index.Store fault) = Store fault
  as_told index.Full = Full

  told_once : (f g : IndexFault) → IsFirst (asked_of t) (told_of t) f → IsFirst (asked_of t) (told_of t) g → as_told f ≡ as_told g
  told_once f g h k = ap (λ (x : IndexFault). as_told x) (once.first_once (asked_of t) (told_of t) small f g h k)

  pub first_once : (f g : TreeFault) → IsFirstFault t f → IsFirstFault t g → f ≡ g
  first_once (Page n a) (Page m b) h k = told_once (index.Page n a) (index.Page m b) h k
  first_once (Page n a) (Store b) h k = told_once (index.Page n a) (index.Store b) h k
  first_once (Store a) (Page m b) h k = told_once (index.Store a) (index.Page m b) h k
  first_once (Store a) (Store b) h k = told_once (index.Store a) (index.Store b) h k
  first_once (Page n a) g h k = absurd k
  first_once (Store a) g h k = absurd k
  first_once f g h k = absurd h

  -- where the pages are well there is none
  pub well_first : IsWell t → (fault : TreeFault) → ¬ (IsFirstFault t fault)
  well_first well (Page n a) h = once.well_first (asked_of t) (told_of t) small t.placed well (index.Page n a) h
  well_first well (Store a) h = once.well_first (asked_of t) (told_of t) small t.placed well (index.Store a) h
  well_first well fault h = h

  -- and it is what the check answers, but for what passes
  fault_first : t.is_failed ≡ false → IsHonest t.store → (fault : TreeFault) → IsFirstFault t fault → (f : TreeFault) → IsCheckFault t f → (f ≡ fault) ⊎ IsPassing f
  fault_first h k fault j f l = search (rules, first_once)

  pub first_answered : {T : Type 0} (r : Result T TreeFault) → t.is_failed ≡ false → IsHonest t.store → IfErr r (IsCheckFault t) → OnOk r (IsWell t)
      → (fault : TreeFault) → IsFirstFault t fault → Answers r fault
  first_answered (Ok x) works honest faults well fault first = absurd (well_first well fault first)
  first_answered (Err f) works honest faults well fault first = fault_first works honest fault first f faults

  -- a tree whose pages are well is checked to its end
  well_fault : t.is_failed ≡ false → IsHonest t.store → IsWell t → (f : TreeFault) → IsCheckFault t f → IsPassing f
  well_fault works honest well HasFailed h = cc
  well_fault works honest well Memory h = inl refl
  well_fault works honest well (Page n fault) h = absurd (well_first well (Page n fault) (h honest))
  well_fault works honest well (Store store.Device) h = inr refl
  well_fault works honest well (Store store.NoPage) h = absurd (well_first well (Store store.NoPage) (h honest))
  well_fault works honest well f h = absurd h

  pub well_passes : {T : Type 0} (r : Result T TreeFault) → t.is_failed ≡ false → IsHonest t.store → IsWell t → IfErr r (IsCheckFault t) → IfErr r IsPassing
  well_passes (Ok x) works honest well faults = tt
  well_passes (Err f) works honest well faults = well_fault works honest well f faults

checked_by : {A : Type 0} (old new : TreeView) (result : Result A TreeFault) → old.is_failed ≡ false → old.inner.index.last < 2 ^ 128 → (IsHonest old.store → OnOk result (IsWell old))
    → ChecksPages old new result → IsChecked old new result
checked_by old new result working small well effect = record {
  well = well;
  exact = λ honest is works. well_passes old small result works honest is effect.faults;
  sound = λ sound. well_passes old small result sound.working sound.honest (sound_well old sound) effect.faults;
  stopped = λ fault honest works first. first_answered old small result works honest effect.faults (well honest) fault first;
  failed = λ failed. absurd (let works = working in let bad = failed in cc);
  effect = effect;
}

-- the check of a tree's table, as one of the tree
module _ (schema : Schema) (index_at : IndexView) (count next rows : ℕ) (changed failed : Bool) (old new : PagerView) (last_is : index_at.last ≡ last_address schema.dims)
    (small : index_at.last < 2 ^ 128) (working : failed ≡ false) (told : Told) where
  abbrev tree : TreeView
  tree = tree_view schema index_at count next rows changed failed old

  module _ (told_is : told ≡ told_of tree) where
    asked_is : asked_in schema told old.store ≡ asked_of tree
    asked_is = ap (λ (t : Told). asked_in schema t old.store) told_is ∙ ap (λ (n : ℕ). asked_for schema n count next old.store.pages) (sym last_is)

    first_is : (f : IndexFault) → IsFirst (asked_in schema told old.store) told f → IsFirst (asked_of tree) (told_of tree) f
    first_is f h = subst (λ (t : Told). IsFirst (asked_of tree) t f) told_is (subst (λ (a : Asked). IsFirst a told f) asked_is h)

    check_fault : (f : IndexFault) → IsTableFault schema told old.store f → IsCheckFault tree (index_fault f)
    check_fault (index.Page n fault) h = λ honest. first_is (index.Page n fault) (h honest)
    check_fault (index.Store store.Memory) h = tt
    check_fault (index.Store store.Device) h = h
    check_fault (index.Store store.NoPage) h = λ honest. first_is (index.Store store.NoPage) (h honest)
    check_fault f h = absurd h

    -- the table's check is refused
    run_refused : {T U : Type 0} (r : Result T TreeFault) (f : IndexFault) → IsErrAnd r (λ x. x ≡ index_fault f)
        → Checks {A = U} schema told old new (Err f) → ChecksPages tree (tree_view schema index_at count next rows changed failed new) r
    run_refused r f h k = search rules

    -- it isn't
    run_done : {T U : Type 0} (x : T) (y : U) → Checks {A = U} schema told old new (Ok y)
        → ChecksPages tree (tree_view schema index_at count next rows changed failed new) (Ok x)
    run_done x y h = search rules

    run_well : {U : Type 0} (y : U) → Checks {A = U} schema told old new (Ok y) → IsHonest old.store → IsWell tree
    run_well y h k = search (rules, asked_is, known_is, walk_taken)

    pub checked_refused : {T U : Type 0} (r : Result T TreeFault) (f : IndexFault) → IsErrAnd r (λ x. x ≡ index_fault f)
        → Checks {A = U} schema told old new (Err f) → IsChecked tree (tree_view schema index_at count next rows changed failed new) r
    checked_refused r f is h =
        checked_by tree (tree_view schema index_at count next rows changed failed new) r working small (λ honest. refused_none (IsWell tree) r (index_fault f) is) (run_refused r f is h)

    pub checked_done : {T U : Type 0} (x : T) (y : U) → Checks {A = U} schema told old new (Ok y)
        → IsChecked tree (tree_view schema index_at count next rows changed failed new) (Ok x)
    checked_done x y h = checked_by tree (tree_view schema index_at count next rows changed failed new) (Ok x) working small (run_well y h) (run_done x y h)
