-- Sheets that are put on pages, and a page that isn't among them and fits there.
use Rattle.std.proofs.Common.{◌≡◌, ◌≢◌, ◌≤◌, ◌<◌, ◌^◌, ◌∙◌, ◌==◌, inl, inr, Bool, ℕ, zero, suc, List, [], ◌∷◌, Option, Some, None, length, slice_get, slice_set, sym, ap, subst, refl, arith, if◌then◌else◌}
use Rattle.ub_index_change.proofs.Common.{AreOnce, cases_Bool, cases_lt, differs, Fits, IsNotTaken, IsUnder, IsUnspelled, length-set, named_not_refused}
use Rattle.ub_index_change.proofs.Common.{NamesFitting, origin, page_in, PageFault, put_get, same_page, Sheet, spelled_page, Stand, StayBut, top}

put_other : (pages : List (List ℕ)) (n m : ℕ) (page : List ℕ) → m ≢ n → slice_get (slice_set pages n page) m ≡ slice_get pages m
put_other [] (suc n) m page h = refl
put_other (p ∷ pages) zero zero page h = absurd (h refl)
put_other (p ∷ pages) (suc n) (suc m) page h = put_other pages n m page (λ e. h (ap (λ (k : ℕ). suc k) e))
put_other pages n m page h = refl

-- the pages with the sheets put
abbrev pub with_sheets : List (List ℕ) → List Sheet → List (List ℕ)
with_sheets pages [] = pages
with_sheets pages (s ∷ sheets) = slice_set (with_sheets pages sheets) s.number s.page

with_length : (pages : List (List ℕ)) (sheets : List Sheet) → length (with_sheets pages sheets) ≡ length pages
with_length pages [] = refl
with_length pages (s ∷ sheets) = length-set (with_sheets pages sheets) s.number s.page ∙ with_length pages sheets

pub with_other : (pages : List (List ℕ)) (sheets : List Sheet) (n : ℕ) → IsUnspelled n sheets → slice_get (with_sheets pages sheets) n ≡ slice_get pages n
with_other pages [] n h = refl
with_other pages (s ∷ sheets) n h = put_other (with_sheets pages sheets) s.number n s.page h.0 ∙ with_other pages sheets n h.1

still_stand : (pages : List (List ℕ)) (n : ℕ) (page : List ℕ) (sheets : List Sheet) → IsUnspelled n sheets → Stand pages sheets → Stand (slice_set pages n page) sheets
still_stand pages n page [] h stand = tt
still_stand pages n page (s ∷ sheets) h stand = (put_other pages n s.number page (λ e. h.0 (sym e)) ∙ stand.0, still_stand pages n page sheets h.1 stand.1)

pub with_stand : (pages : List (List ℕ)) (sheets : List Sheet) → AreOnce sheets → ((n : ℕ) → length pages ≤ n → IsUnspelled n sheets) → Stand (with_sheets pages sheets) sheets
with_stand pages [] once far = tt
with_stand pages (s ∷ sheets) once far = (
  put_get (with_sheets pages sheets) s.number s.page
      (elim (cases_lt s.number (length pages)) [
        | inl near ↦ (let long = with_length pages sheets in omega (arith, near, long))
        | inr beyond ↦ absurd ((far s.number beyond).0 refl)
      ]),
  still_stand (with_sheets pages sheets) s.number s.page sheets once.0 (with_stand pages sheets once.1 (λ n h. (far n h).1)),
)

pub with_stay : (pages : List (List ℕ)) (sheets : List Sheet) (numbers : List ℕ) → StayBut pages (with_sheets pages sheets) sheets numbers
with_stay pages sheets [] = tt
with_stay pages sheets (n ∷ numbers) = (λ free. with_other pages sheets n free, with_stay pages sheets numbers)

-- what isn't found among the sheets isn't spelled
pub unspelled_of : (sheets : List Sheet) (n : ℕ) → spelled_page sheets n ≡ None → IsUnspelled n sheets
unspelled_of [] n h = tt
unspelled_of (s ∷ sheets) n h = elim (cases_Bool (s.number == n)) [
  | inl t ↦ (let e : Some s.page ≡ None = ap (λ (b : Bool). if b then Some s.page else spelled_page sheets n) (sym t) ∙ h in cc)
  | inr f ↦
      let e : spelled_page sheets n ≡ None = ap (λ (b : Bool). if b then Some s.page else spelled_page sheets n) (sym f) ∙ h in
      ((λ same. differs s.number n f (sym same)), unspelled_of sheets n e)
]

-- a root that stays, and on which an index stands then, isn't refused
pub root_not_refused : (last : ℕ) → last < 2 ^ 128 → (old later : List (List ℕ)) (n level : ℕ) (fault : Option PageFault) → 1 ≤ level → IsUnder last later level (top n) None
    → slice_get later n ≡ slice_get old n → ¬ (IsNotTaken last old level (top n) None fault)
root_not_refused last small old later n zero fault some is same refused = absurd (omega arith)
root_not_refused last small old later n (suc level) fault some is same refused =
    let page : page_in old n ≡ page_in later n = same_page later old n (sym same) in
    let named : NamesFitting last old (suc level) (top n) None = record {
      there = sym same ∙ (is.0.there ∙ ap (λ (p : List ℕ). Some p) (sym page));
      fits = subst (λ (p : List ℕ). Fits last p (suc level) (top n) None) (sym page) is.0.fits;
    } in
    named_not_refused last small old origin (suc level) (top n) None fault named refused
