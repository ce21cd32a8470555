-- What a call that only writes leaves of a tree.
use Rattle.std.proofs.Common.{rules, ◌≡◌, ◌≢◌, ◌∙◌, ℕ, Bool, true, List, [], ◌∷◌, Err, IsTrue, Result, sym, subst, refl}
use Rattle.ub_tree.proofs.Common.{AllByRecursion, Due, first_page, HasMark, HasStopped, header_page, IndexView, is_written, IsHonest, IsMarkedFirst, IsMarkOf}
use Rattle.ub_tree.proofs.Common.{IsOther, IsOutside, IsWriteFault, KeepsBut, KeepsOthers, KeepsUnless, Mark, Marks, PagerView, put_store, PutsMark, SameTrace}
use Rattle.ub_tree.proofs.Common.{Schema, Store, StoreFacts, StoreFault, tree_view, TreeFault, TreeView, Written, written_store}
use Rattle.ub_store.specs.declared.fault.StoreFault.TheVariants as store

pub put_is : (U V : Type 0) (fault : StoreFault) (old new : StoreFacts) → put_store {A = U} (Err fault) old new ≡ written_store {A = V} (Err (Store fault)) old new
put_is U V fault old new = search rules

-- a write fails with the device's fault alone, where the page is there
pub write_refused : (fault : StoreFault) (old new : TreeView) → fault ≡ store.Device → IsTrue old.store.can_fail → HasStopped (Store fault) old new → IsWriteFault old new (Store fault)
write_refused fault old new h k j = search rules

outside_other : (m : ℕ) (numbers : List ℕ) → IsOutside m numbers → IsOther m numbers
outside_other m [] h = tt
outside_other m (n ∷ numbers) h = (λ e. h.0 (sym e), outside_other m numbers h.1)

-- the pages that a write leaves as they are
pub others_written : (numbers : List ℕ) (old new : StoreFacts) → KeepsBut numbers old new → KeepsOthers numbers old new
others_written numbers old new h = search (rules, outside_other)

module _ (schema : Schema) (index : IndexView) (count next rows : ℕ) (changed now_changed failed now_failed : Bool) (old new : PagerView) where
  abbrev before : TreeView
  before = tree_view schema index count next rows changed failed old

  abbrev after : TreeView
  after = tree_view schema index count next rows now_changed now_failed new

  pub wrote_tree : {T : Type 0} (r : Result T TreeFault) → new.store ≡ written_store r old.store new.store → SameTrace old new
      → after ≡ record before { placed = after.placed; is_changed = now_changed; is_failed = now_failed; store = written_store r old.store new.store }
  wrote_tree r h k = search rules

  -- a write that failed
  pub ended_by : (U : Type 0) (fault : StoreFault) → now_failed ≡ true → new.store ≡ put_store {A = U} (Err fault) old.store new.store → SameTrace old new → HasStopped (Store fault) before after
  ended_by U fault h k j = search rules

  -- what a call did that marked the table, where it wasn't marked
  pub marks_first : (was now : Mark) (numbers : List ℕ) → changed ≡ is_written was → now_changed ≡ is_written now → IsMarkOf schema was → Marks numbers was now old.store new.store
      → (IsHonest old.store → AllByRecursion (λ n. n ≢ 0) numbers) → IsMarkedFirst before after
  marks_first was now numbers is now_is mark marks own = record {
    kept = subst (λ (b : Bool). KeepsUnless b old.store new.store) (sym now_is) marks.kept;
    marked = λ honest had e. by_mark was is mark had (marks.first honest (own honest) (sym now_is ∙ e));
  }
    where
      by_mark : (m : Mark) → changed ≡ is_written m → IsMarkOf schema m → (changed ≡ true → HasMark schema old.store.pages) → PutsMark (first_page m) old.store new.store
          → HasMark schema new.store.pages
      by_mark Written is mark had puts = let there = had is in (there.0, there.1, puts ∙ there.2)
      by_mark (Due header) is mark had puts = (header_page header, (header, mark, refl), puts)
