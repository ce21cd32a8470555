-- What searches leave, one after the other.
use Rattle.std.proofs.Common.{rules, ◌≡◌, ◌≤◌, ◌<◌, IsTrue, ℕ, List, Option, Some, None, Result, Ok, Err, ◌∙◌, sym, ap, subst, refl}
use Rattle.ub_index.proofs.Common.{AreChecked, Entry, GoesDown, IndexFault, IndexView, IsErrAnd, IsHonest, IsStepFault, IsWayFault, Key, Page, page_count}
use Rattle.ub_index.proofs.Common.{PageFault, PagerView, StepsDown, Stops, StopsAt, Store, store_after, StoreFacts, Trace}
use Rattle.ub_index.proofs.HeldFacts.{both_on, Keeps}
use Rattle.ub_index.proofs.WayFacts.{stops_here}
use Rattle.ub_store.specs.declared.fault.StoreFault.TheVariants as store

pub err_is : {T : Type 0} (r : Result T IndexFault) (e : IndexFault) → IsErrAnd r (λ x. x ≡ e) → r ≡ Err e
err_is (Ok x) e h = absurd h
err_is (Err f) e h = ap (λ (x : IndexFault). Err x) h

abbrev pub failed : {T : Type 0} → IndexFault → Result T IndexFault
failed e = Err e

abbrev pub pager_with : StoreFacts → Trace → List (ℕ × List ℕ) → PagerView
pager_with store trace cached = record { store = store; trace = trace; cached = cached }

pub same_store : (T U : Type 0) (e : IndexFault) (s : StoreFacts) → store_after {A = U} (Err e) s ≡ store_after {A = T} (Err e) s
same_store T U (Store store.Device) s = refl
same_store T U fault s = refl

pub frame : {T : Type 0} (r : Result T IndexFault) (old mid new : PagerView) → mid.store ≡ old.store → mid.trace ≡ old.trace
    → new ≡ record mid { store = store_after r mid.store; cached = new.cached } → new ≡ record old { store = store_after r old.store; cached = new.cached }
frame r old mid new stores traces h =
    h ∙ (ap (λ (s : StoreFacts). pager_with (store_after r s) mid.trace new.cached) stores
    ∙ ap (λ (t : Trace). pager_with (store_after r old.store) t new.cached) traces)

-- what a step and a search leave of the pages that are held
pub step_keeps : {T : Type 0} {last level : ℕ} {entry : Entry} {end : Option Key} {old new : PagerView} {r : Result T IndexFault} → StepsDown last level entry end old new r → Keeps last old new
step_keeps h = (h.checked, h.more)

pub down_keeps : {T : Type 0} {Sought : Key → Type 0} {index : IndexView} {old new : PagerView} {r : Result T IndexFault} → GoesDown Sought index old new r → Keeps index.last old new
down_keeps h = (h.checked, h.more)

-- what is refused as a call was that came after others
refused_so : (T U : Type 0) (Sought : Key → Type 0) (index : IndexView) (old mid new : PagerView) → mid.store ≡ old.store → mid.trace ≡ old.trace → Keeps index.last old mid
    → (r : Result T IndexFault) (e : IndexFault) → IsErrAnd r (λ x. x ≡ e) → new ≡ record mid { store = store_after {A = U} (Err e) mid.store; cached = new.cached }
    → Keeps index.last mid new → (AreChecked index.last old → IsWayFault index old.store Sought e) → GoesDown Sought index old new r
refused_so T U Sought index old mid new stores traces kept r e is same keeps faults = search (rules, both_on, err_is, frame, same_store)

-- a step that is refused, after those before it
module _ (T U : Type 0) (Sought : Key → Type 0) (index : IndexView) (key : Key) (sought : Sought key) (level : ℕ) (some : 0 < level) (entry : Entry) (end : Option Key)
    (old mid new : PagerView) (stores : mid.store ≡ old.store) (traces : mid.trace ≡ old.trace) (kept : Keeps index.last old mid)
    (stops : IsHonest old.store → AreChecked index.last old → (n : ℕ) (fault : Option PageFault) → StopsAt index.last old.store.pages key level entry end n fault
    → Stops index old.store key n fault) where
  fault_of : (e : IndexFault) → AreChecked index.last old → IsStepFault index.last mid.store level entry end e → IsWayFault index old.store Sought e
  fault_of (Page n fault) sure h = λ honest.
      let there = stops honest sure entry.page (Some fault)
      (stops_here old.store mid.store stores index.last key level entry end (Some fault) some (h.1 (subst (λ (s : StoreFacts). IsHonest s) (sym stores) honest))) in
      (key, sought, subst (λ (m : ℕ). Stops index old.store key m (Some fault)) (sym h.0) there)
  fault_of (Store store.Memory) sure h = tt
  fault_of (Store store.Device) sure h = subst (λ (s : StoreFacts). IsTrue s.can_fail) stores h
  fault_of (Store store.NoPage) sure h =
      let far : page_count old.store ≤ entry.page = subst (λ (s : StoreFacts). page_count s ≤ entry.page) stores h in
      (entry.page, far, λ honest. (key, sought, stops honest sure entry.page None (stops_here old.store old.store refl index.last key level entry end None some far)))
  fault_of fault sure h = h

  pub step_refused : (r : Result T IndexFault) (e : IndexFault) → IsErrAnd r (λ x. x ≡ e) → StepsDown {A = U} index.last level entry end mid new (Err e) → GoesDown Sought index old new r
  step_refused r e is h =
      refused_so T U Sought index old mid new stores traces kept r e is h.same (step_keeps h) (λ sure. fault_of e sure (h.faults (kept.0 sure)))

-- a search that was refused as another one was, which went down to these keys among others, after some pages were read
module _ (T U : Type 0) (A B : Key → Type 0) (index : IndexView) (old mid new : PagerView) (wider : AreChecked index.last old → (k : Key) → A k → B k) (stores : mid.store ≡ old.store) (traces : mid.trace ≡ old.trace)
    (kept : Keeps index.last old mid) where
  wider_fault : (e : IndexFault) → AreChecked index.last old → IsWayFault index mid.store A e → IsWayFault index old.store B e
  wider_fault fault sure h = search rules

  pub search_refused : (r : Result T IndexFault) (e : IndexFault) → IsErrAnd r (λ x. x ≡ e) → GoesDown {A = U} A index mid new (Err e) → GoesDown B index old new r
  search_refused r e is h =
      refused_so T U B index old mid new stores traces kept r e is h.same (down_keeps h) (λ sure. wider_fault e sure (h.faults (kept.0 sure)))
