-- What a call leaves that brings a page, looks at it, and forgets it where it is refused.
use Rattle.std.proofs.Common.{rules, ◌≡◌, ℕ, List, Option, Some, None, Result, slice_get, Ok, Err, IfErr, ◌∙◌, sym, ap, subst}
use Rattle.ub_index.proofs.Common.{AreChecked, BringsFitting, Entry, Fits, GoesDown, Head, IndexFault, IndexView, IsBringFault, IsErrAnd, IsHonest, IsPage}
use Rattle.ub_index.proofs.Common.{IsStepFault, IsWayFault, Key, NamesFitting, NoneMoreBut, Page, page_at, PageFault, PagerView, ReadsIndex, Steps, StepsDown}
use Rattle.ub_index.proofs.Common.{StoreFacts, Trace}
use Rattle.ub_index.proofs.FitFacts.{is_refused, page_is}
use Rattle.ub_index.proofs.HeldFacts.{both_on, keeps_gone, more_gone, Keeps}
use Rattle.ub_index.proofs.SearchFacts.{err_is, pager_with, same_store}

pub if_err : {T E : Type 0} (P : E → Type 0) (r : Result T E) (e : E) → IsErrAnd r (λ x. x ≡ e) → P e → IfErr r P
if_err P (Ok x) e is h = tt
if_err P (Err f) e is h = subst P (sym is) h

pub pager_so : (old new : PagerView) (s : StoreFacts) → new.store ≡ s → new.trace ≡ old.trace → new ≡ record old { store = s; cached = new.cached }
pager_so old new s stores traces = ap (λ (x : StoreFacts). pager_with x new.trace new.cached) stores ∙ ap (λ (t : Trace). pager_with s t new.cached) traces

-- a page is forgotten that was brought
pub forgets : (old mid new : PagerView) → mid.store ≡ old.store → mid.trace ≡ old.trace → new ≡ record mid { cached = new.cached } → new ≡ record old { store = old.store; cached = new.cached }
forgets old mid new stores traces h =
    h ∙ (ap (λ (s : StoreFacts). pager_with s mid.trace new.cached) stores ∙ ap (λ (t : Trace). pager_with old.store t new.cached) traces)

-- a store of which a page was read is honest where it was before
pub honest_back : (old new : StoreFacts) (reads : ℕ) → new ≡ record old { failed_reads = reads } → IsHonest new → IsHonest old
honest_back old new reads same good = subst (λ (s : StoreFacts). IsHonest s) same good

pub same_honest : (old new : PagerView) → new ≡ record old { cached = new.cached } → IsHonest new.store → IsHonest old.store
same_honest old new same good = subst (λ (p : PagerView). IsHonest p.store) same good

-- what a step of a change leaves of the pages that are held
pub steps_keep : {T : Type 0} {last : ℕ} {F : IndexFault → Type 0} {old new : PagerView} {r : Result T IndexFault} → ReadsIndex last F old new r → Keeps last old new
steps_keep h = (h.checked, h.more)

pub stepped_down : {T : Type 0} (last : ℕ) (level : ℕ) (entry : Entry) (end : Option Key) (old new : PagerView) (x : T) → new.store ≡ old.store → new.trace ≡ old.trace
    → Keeps last old new → StepsDown last level entry end old new (Ok x)
stepped_down last level entry end old new x stores traces kept = record { same = pager_so old new old.store stores traces; checked = kept.0; more = kept.1; faults = λ sure. tt }

-- the page that stands there and fits is the one that is named
pub names_fitting : (pages : List (List ℕ)) (last level : ℕ) (entry : Entry) (end : Option Key) (page : List ℕ) → slice_get pages entry.page ≡ Some page → Fits last page level entry end
    → NamesFitting last pages level entry end
names_fitting pages last level entry end page at fits =
    let is = page_is pages entry.page page at in
    record { there = at ∙ ap (λ (p : List ℕ). Some p) (sym is); fits = subst (λ (p : List ℕ). Fits last p level entry end) (sym is) fits }

-- a search is refused after it was answered, and the page is forgotten for which it is
pub refused_after : (T U : Type 0) (Sought : Key → Type 0) (index : IndexView) (old mid new : PagerView) (x : T) (n : ℕ) (fault : PageFault) → GoesDown Sought index old mid (Ok x)
    → new ≡ record mid { cached = new.cached } → NoneMoreBut n mid.cached new.cached → page_at new.cached n ≡ None
    → (AreChecked index.last old → IsWayFault index old.store Sought (Page n fault)) → GoesDown {A = U} Sought index old new (Err (Page n fault))
refused_after T U Sought index old mid new x n fault h same others gone why = search (rules, both_on, keeps_gone, same_honest, more_gone, forgets)

-- what the pager holds under a number is one page
pub held_once : (held : List (ℕ × List ℕ)) (n : ℕ) (p q : List ℕ) → page_at held n ≡ Some p → page_at held n ≡ Some q → p ≡ q
held_once held n p q one two = cc

-- a step is made, or refused, as the page of its entry is brought
module _ (last level : ℕ) (entry : Entry) (end : Option Key) (old new : PagerView) where
  step_fault : (e : IndexFault) → IsBringFault last old.store level entry end e → IsStepFault last old.store level entry end e
  step_fault fault h = search (rules, is_refused, slice_get)

  pub step_misfits : {T : Type 0} (r : Result T IndexFault) (e : IndexFault) → IsErrAnd r (λ x. x ≡ e) → BringsFitting last level entry end old new (Err e) → Steps last level entry end old new r
  step_misfits {T = T} r e is h = subst (λ (x : Result T IndexFault). Steps last level entry end old new x) (sym (err_is r e is)) (record {
    same = h.same ∙ ap (λ (s : StoreFacts). pager_with s old.trace new.cached) (same_store T Head e old.store);
    checked = h.checked;
    more = h.more;
    faults = step_fault e h.faults;
  })

  -- and the page that is held then stood there
  pub brought_page : (head : Head) (page : List ℕ) → BringsFitting last level entry end old new (Ok head) → IsPage new.store entry.page page → IsPage old.store entry.page page
  brought_page head page h = subst (λ (s : StoreFacts). IsPage s entry.page page) (ap (λ (p : PagerView). p.store) h.same)
