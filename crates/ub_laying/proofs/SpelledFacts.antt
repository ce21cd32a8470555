-- Pages of which some are held, and the others are spelled when they are asked for.
use Rattle.std.proofs.Common.{◌≡◌, ◌<◌, ◌≤◌, ◌+◌, ◌-◌, ◌++◌, ◌∷◌, ◌∙◌, ◌⊎◌, inl, inr, ℕ, zero, suc, List, [], Option, Some, ap, arith, get_or, length, map, refl, slice_get, slice_set, sym}
use Rattle.std.specs.Prelude.{Box}
use Rattle.std.specs.declared.alloc.Global.{Global}
use Rattle.ub_bytes.specs.Bytes.{padded}
use Rattle.ub_laying.specs.Spelled.{held_or, pages_from, spelled}
use Rattle.ub_region.specs.RegionPage.{region_page}
use Rattle.ub_store.specs.Facts.{zero_page}
use Rattle.ub_table.specs.Region.{RegionRows}
use Rattle.ub_table.specs.declared.schema.Schema.{Schema}

abbrev pub Slot : Type 0
Slot = Option (Box (List ℕ) Global)

module _ (spell : ℕ → List ℕ) where
  pub length_from : (n : ℕ) (slots : List Slot) → length (pages_from spell n slots) ≡ length slots
  length_from n [] = refl
  length_from n (slot ∷ slots) = ap (λ (k : ℕ). suc k) (length_from (suc n) slots)

  page_from : (n i : ℕ) (slots : List Slot) (d : Slot) → i < length slots → slice_get (pages_from spell n slots) i ≡ Some (held_or (spell (n + i)) (get_or slots i d))
  page_from n i [] d within = absurd (omega arith)
  page_from n zero (slot ∷ slots) d within = let same : n + 0 ≡ n = omega arith in rw same refl
  page_from n (suc i) (slot ∷ slots) d within =
      let next : suc n + i ≡ n + suc i = omega arith in
      page_from (suc n) i slots d (omega arith) ∙ ap (λ (k : ℕ). Some (held_or (spell k) (get_or slots i d))) next

  -- the page of a number is the one in its slot, or as it is spelled
  pub page_at : (i : ℕ) (slots : List Slot) (d : Slot) → i < length (pages_from spell 0 slots) → slice_get (pages_from spell 0 slots) i ≡ Some (held_or (spell i) (get_or slots i d))
  page_at i slots d within =
      let same : 0 + i ≡ i = omega arith in
      let long = length_from 0 slots in
      page_from 0 i slots d (omega arith) ∙ ap (λ (k : ℕ). Some (held_or (spell k) (get_or slots i d))) same

  set_from : (n i : ℕ) (slots : List Slot) (slot : Slot) → pages_from spell n (slice_set slots i slot) ≡ slice_set (pages_from spell n slots) i (held_or (spell (n + i)) slot)
  set_from n i [] slot = refl
  set_from n zero (own ∷ slots) slot = let same : n + 0 ≡ n = omega arith in rw same refl
  set_from n (suc i) (own ∷ slots) slot =
      let next : suc n + i ≡ n + suc i = omega arith in
      ap (λ (pages : List (List ℕ)). held_or (spell n) own ∷ pages)
      (set_from (suc n) i slots slot ∙ ap (λ (k : ℕ). slice_set (pages_from spell (suc n) slots) i (held_or (spell k) slot)) next)

  -- what is put in a slot is the page of its number
  pub set_at : (i : ℕ) (slots : List Slot) (slot : Slot) (page : List ℕ) → held_or (spell i) slot ≡ page → pages_from spell 0 (slice_set slots i slot) ≡ slice_set (pages_from spell 0 slots) i page
  set_at i slots slot page is =
      let same : 0 + i ≡ i = omega arith in
      set_from 0 i slots slot ∙ ap (λ (k : ℕ). slice_set (pages_from spell 0 slots) i (held_or (spell k) slot)) same ∙ ap (slice_set (pages_from spell 0 slots) i) is

  -- a page that is held stands behind the others
  pub added_from : (n : ℕ) (slots : List Slot) (page : Box (List ℕ) Global) → pages_from spell n (slots ++ Some page ∷ []) ≡ pages_from spell n slots ++ page.value ∷ []
  added_from n [] page = refl
  added_from n (slot ∷ slots) page = ap (λ (pages : List (List ℕ)). held_or (spell n) slot ∷ pages) (added_from (suc n) slots page)

-- where no region stands, zeros are spelled
pub spelled_none : (schema : Schema) (regions : List RegionRows) (n : ℕ) → (n ≡ 0) ⊎ (length regions < n) → padded [] ≡ spelled schema regions n
spelled_none schema regions zero which = refl
spelled_none schema regions (suc i) (inl none) = absurd (omega arith)
spelled_none schema regions (suc i) (inr past) = past_all regions i (omega arith)
  where
    past_all : (regions : List RegionRows) (i : ℕ) → length regions ≤ i → padded [] ≡ get_or (map (region_page schema) regions) i zero_page
    past_all [] i past = refl
    past_all (region ∷ regions) zero past = absurd (omega arith)
    past_all (region ∷ regions) (suc i) past = past_all regions i (omega arith)

-- and else the page of the region
pub spelled_region : (schema : Schema) (regions : List RegionRows) (n : ℕ) (region : RegionRows) → 0 < n → slice_get regions (n - 1) ≡ Some region → spelled schema regions n ≡ region_page schema region
spelled_region schema regions zero region some at = absurd (omega arith)
spelled_region schema regions (suc i) region some at =
    let same : suc i - 1 ≡ i = omega arith in
    here regions i (sym (ap (slice_get regions) same) ∙ at)
  where
    here : (regions : List RegionRows) (i : ℕ) → slice_get regions i ≡ Some region → get_or (map (region_page schema) regions) i zero_page ≡ region_page schema region
    here [] i at = cc
    here (own ∷ regions) zero at = let is : own ≡ region = cc in ap (region_page schema) is
    here (own ∷ regions) (suc i) at = here regions i at
