-- What the ends of a page tell of it, and which pages are held that were checked.
use Rattle.std.proofs.Common.{rules, ◌≡◌, ◌<◌, ◌^◌, ◌⊎◌, inl, inr, ℕ, List, Option, Some, None, Result, Ok, Err, IfOk, IfErr, subst, refl, arith}
use Rattle.ub_index.proofs.Common.{BadCount, cases_eq, Entry, Fits, FitsAtEnds, HasHead, IsHonest, IsIndexKind, IsIndexPage, IsUnfit, IsUnfitAtEnds}
use Rattle.ub_index.proofs.Common.{KeepsChecked, Key, length-node_on, node_on, node_parts, NoneMore, NoneMoreBut, NoneMoreButIndex, number_at, OutOfRegion}
use Rattle.ub_index.proofs.Common.{page_at, PageFault, PagerView, WrongKind}
use Rattle.ub_index.proofs.FitFacts.{first_here, fits_so, last_ends}

-- a page of an index fits where its ends do, and then alone; and what is refused of its ends is refused of it
pub fits_of : (last : ℕ) (page : List ℕ) (level : ℕ) (entry : Entry) (end : Option Key) → IsIndexPage last page → FitsAtEnds page level entry end → Fits last page level entry end
fits_of last page level entry end is ends = fits_so page last level (number_at 2 2 page) entry end refl is.is is.spelled ends.level_is ends.begins ends.ends

pub ends_with : (last : ℕ) (page : List ℕ) (level : ℕ) (entry : Entry) (end : Option Key) → IsIndexKind page → HasHead page → Fits last page level entry end → FitsAtEnds page level entry end
ends_with last page level entry end kind head fits = record {
  kind = kind;
  head = head;
  level_is = fits.level_is;
  begins = (let one = first_here page last level (number_at 2 2 page) entry end refl fits.is.is in let two = fits.begins in cc);
  ends = last_ends page last level (number_at 2 2 page) entry end refl fits.is.is fits.ascends;
}

pub ends_of : (last : ℕ) (page : List ℕ) (level : ℕ) (entry : Entry) (end : Option Key) → last < 256 ^ 16 → Fits last page level entry end → FitsAtEnds page level entry end
ends_of last page level entry end small fits =
    let has = node_parts (node_on page) page last small fits.is.is fits.is.spelled in
    let low = fits.is.is.low in
    let high = fits.is.is.high in
    let some = fits.is.is.some in
    let few = fits.is.is.few in
    ends_with last page level entry end has.kind ((low, high), omega (arith, length-node_on page), omega (arith, length-node_on page)) fits

pub unfit_of : (last : ℕ) (page : List ℕ) (level : ℕ) (entry : Entry) (end : Option Key) (fault : PageFault) → IsIndexPage last page → IsUnfitAtEnds page level entry end fault
    → IsUnfit last page level entry end fault
unfit_of last page level entry end WrongKind is h = h
unfit_of last page level entry end BadCount is (inl h) = inl h
unfit_of last page level entry end BadCount is (inr h) = inr (is, h.2)
unfit_of last page level entry end OutOfRegion is h = (is, h.2, λ fits. h.3 (ends_with last page level entry end h.0 h.1 fits))
unfit_of last page level entry end fault is h = absurd h

pub ok_so : {T : Type 0} (r : Result T PageFault) (P Q : Type 0) → (P → Q) → IfOk r (λ x. P) → IfOk r (λ x. Q)
ok_so (Ok x) P Q f h = f h
ok_so (Err e) P Q f h = tt

pub err_so : {T : Type 0} (r : Result T PageFault) (P Q : PageFault → Type 0) → ((e : PageFault) → P e → Q e) → IfErr r P → IfErr r Q
err_so (Ok x) P Q f h = tt
err_so (Err e) P Q f h = f e h

-- what begins otherwise is refused for that
unfit_other : (last : ℕ) (page : List ℕ) (level : ℕ) (entry : Entry) (end : Option Key) (fault : PageFault) → ¬ (IsIndexKind page) → IsUnfitAtEnds page level entry end fault
    → IsUnfit last page level entry end fault
unfit_other last page level entry end fault other h = search rules

-- of a page that was checked the ends tell whether it fits, and why it is refused
module _ (last : ℕ) (page : List ℕ) (level : ℕ) (entry : Entry) (end : Option Key) (was : IsIndexPage last page ⊎ (¬ (IsIndexKind page))) where
  pub fits_checked : FitsAtEnds page level entry end → Fits last page level entry end
  fits_checked ends = elim was [
    | inl is ↦ fits_of last page level entry end is ends
    | inr other ↦ absurd (other ends.kind)
  ]

  pub unfit_checked : (fault : PageFault) → IsUnfitAtEnds page level entry end fault → IsUnfit last page level entry end fault
  unfit_checked fault h = elim was [
    | inl is ↦ unfit_of last page level entry end fault is h
    | inr other ↦ unfit_other last page level entry end fault other h
  ]

-- the pages that are held stay checked where none is held more, or but one that is checked
pub keeps_less : (last : ℕ) (old new : PagerView) → (IsHonest new.store → IsHonest old.store) → NoneMore old.cached new.cached → KeepsChecked last old new
keeps_less last old new honest less was good m page at = was (honest good) m page (less m page at)

pub keeps_but : (last : ℕ) (old new : PagerView) (n : ℕ) → (IsHonest new.store → IsHonest old.store) → NoneMoreBut n old.cached new.cached
    → (IsHonest new.store → (page : List ℕ) → page_at new.cached n ≡ Some page → IsIndexPage last page ⊎ (¬ (IsIndexKind page))) → KeepsChecked last old new
keeps_but last old new n honest others here was good m page at = elim (cases_eq m n) [
  | inl same ↦ here good page (subst (λ (k : ℕ). page_at new.cached k ≡ Some page) same at)
  | inr other ↦ was (honest good) m page (others m page other at)
]

pub keeps_gone : (last : ℕ) (old new : PagerView) (n : ℕ) → (IsHonest new.store → IsHonest old.store) → NoneMoreBut n old.cached new.cached → page_at new.cached n ≡ None → KeepsChecked last old new
keeps_gone last old new n honest others gone = keeps_but last old new n honest others (λ good page at. cc)

pub keeps_on : (last : ℕ) (old mid new : PagerView) → KeepsChecked last old mid → KeepsChecked last mid new → KeepsChecked last old new
keeps_on last old mid new before after was = after (before was)

pub more_but : (last : ℕ) (old new : List (ℕ × List ℕ)) (n : ℕ) → NoneMoreBut n old new
    → ((page : List ℕ) → page_at new n ≡ Some page → (page_at old n ≡ Some page) ⊎ IsIndexPage last page) → NoneMoreButIndex last old new
more_but last old new n others here m page at = search rules

pub more_gone : (last : ℕ) (old new : List (ℕ × List ℕ)) (n : ℕ) → NoneMoreBut n old new → page_at new n ≡ None → NoneMoreButIndex last old new
more_gone last old new n others gone = more_but last old new n others (λ page at. cc)

-- what a search leaves of the pages that are held: checked, if they were before, and none more but of an index
abbrev pub Keeps : ℕ → PagerView → PagerView → Type 0
Keeps last old new = KeepsChecked last old new × NoneMoreButIndex last old.cached new.cached

pub both_on : (last : ℕ) (old mid new : PagerView) → Keeps last old mid → Keeps last mid new → Keeps last old new
both_on last old mid new before after = search (rules, keeps_on)
