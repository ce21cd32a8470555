-- The check of a table: what its walk from the root comes to.
use Rattle.std.proofs.Common.{rules, ◌≡◌, ◌<◌, ◌+◌, ◌⊎◌, ◌↔◌, inl, ℕ, Bool, IsTrue, List, [], Some, None, Result, Ok, Err, min, subst}
use Rattle.ub_check.proofs.Common.{Asked, asked_by, BadCount, Entry, Full, HasTaken, IndexFault, IsErrAnd, IsHonest, IsWalkFault, KeepsChecked, last_address}
use Rattle.ub_check.proofs.Common.{Page, PagerView, Placed, same_store, Schema, StopsIn, Store, TakesAll, TakesOn, TakesTable, Told, top, Walk, Walks}
use Rattle.ub_check.specs.Calls.{Checks, IsCheckFault, asked_in}
use Rattle.ub_store.specs.declared.fault.StoreFault.TheVariants as store

module _ (schema : Schema) (told : Told) (old : PagerView) (last : ℕ) (walk : Walk) (last_is : last ≡ last_address schema.dims)
    (bound : walk.numbers.bound ≡ told.next) (has : HasTaken told.regions walk []) (entry : Entry) (entry_is : entry ≡ top told.root) where
  asked_is : asked_by schema last told.regions walk old.store ≡ asked_in schema told old.store
  asked_is = search rules

  walk_fault : (f : IndexFault) → IsWalkFault schema last told.levels (top told.root) None old.store walk f → IsCheckFault schema told old.store f
  walk_fault (Page n fault) h = λ honest. inl (subst (λ (a : Asked). StopsIn a told.levels (top told.root) None [] n (Some fault)) asked_is (h told.regions [] honest has))
  walk_fault (Store store.NoPage) h = λ honest.
      let stops = h told.regions [] honest has in
      (stops.0, subst (λ (a : Asked). StopsIn a told.levels (top told.root) None [] stops.0 None) asked_is stops.1)
  walk_fault fault h = h

  -- it isn't walked through
  pub run_refused : {T U : Type 0} (r : Result T IndexFault) (f : IndexFault) (new : PagerView) → IsErrAnd r (λ x. x ≡ f)
      → Walks {A = U} schema last told.levels entry None walk old new (Err f) → Checks schema told old new r
  run_refused r f new h k = search (rules, same_store, walk_fault)

  -- it is
  module _ (to : Walk) (takes : TakesOn schema last told.levels entry None old.store walk to) (new : PagerView) (same : new ≡ record old { cached = new.cached })
      (checked : KeepsChecked last old new) (all : Bool) (met_all : (met : ℕ) → to.rows ≡ min met 18446744073709551615 → IsTrue all ↔ ((to.left ≡ 0) × (told.rows ≡ met))) where
    run_taken : IsHonest old.store → (after : List Placed) × TakesTable (asked_in schema told old.store) told after × HasTaken told.regions to after
    run_taken honest =
        let h = (subst (λ (e : Entry). TakesOn schema last told.levels e None old.store walk to) entry_is takes) told.regions [] honest has in
        (h.0, subst (λ (a : Asked). TakesAll a told.levels (top told.root) None [] h.0) asked_is h.1, h.2)

    counts_differ : (left taken met : ℕ) → left + taken ≡ told.regions → ¬ ((left ≡ 0) × (told.rows ≡ met)) → (taken < told.regions) ⊎ ((taken ≡ told.regions) × (¬ (told.rows ≡ met)))
    counts_differ left taken met h k = search rules

    -- other regions are taken, or other rows, than are told
    pub run_ends : {T : Type 0} (f : IndexFault) → f ≡ Page 0 BadCount → ¬ (IsTrue all) → Checks {A = T} schema told old new (Err f)
    run_ends f h k = search (rules, counts_differ, run_taken)

    pub run_well : {T : Type 0} (x : T) → IsTrue all → Checks schema told old new (Ok x)
    run_well x h = search (rules, run_taken)
