-- A page of a store is one still when a page is added to it.
use Rattle.std.proofs.Common.{◌≡◌, ◌<◌, ℕ, zero, suc, List, [], ◌∷◌, ◌++◌, Some, Result, Ok, Err, inl, inr, ap, arith}
use Rattle.std.specs.List.{slice_get}
use Rattle.ub_store.specs.Facts.{Appends, Extends, IsPage, StoreFacts, page_count, zero_page}
use Rattle.ub_store.specs.declared.fault.StoreFault.{StoreFault}

behind : (pages : List (List ℕ)) (x page : List ℕ) (n : ℕ) → slice_get pages n ≡ Some page → slice_get (pages ++ x ∷ []) n ≡ Some page
behind [] x page n h = cc
behind (p ∷ ps) x page zero h = h
behind (p ∷ ps) x page (suc n) h = behind ps x page n h

appended : (old new : StoreFacts) (x : List ℕ) → Appends x old new → new.honest ≡ old.honest → (n : ℕ) (page : List ℕ)
    → (n < page_count old) × IsPage old n page → (n < page_count new) × IsPage new n page
appended old new x (more, are) same n page (there, is) =
    (omega arith, λ honest. let was = rw same at honest in rw (are was) (behind old.pages x page n (is was)))

pub extended : {A : Type 0} (old new : StoreFacts) (result : Result A StoreFault) → Extends old new result → (n : ℕ) (page : List ℕ)
    → (n < page_count old) × IsPage old n page → (n < page_count new) × IsPage new n page
extended old new (Ok x) e n page is = appended old new zero_page e.added (ap (λ (f : StoreFacts). f.honest) e.frame) n page is
extended old new (Err fault) e n page is = elim e.failed [
  | inl same ↦ rw (same, ap (λ (f : StoreFacts). f.honest) e.frame) is
  | inr more ↦ appended old new more.0 more.1 (ap (λ (f : StoreFacts). f.honest) e.frame) n page is
]
