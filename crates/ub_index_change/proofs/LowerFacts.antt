-- A root that gives way, on the pages as they are and once the sheets stand.
use Rattle.std.proofs.Common.{ap, sym, subst, ◌∙◌, ◌≡◌, ◌≢◌, ◌<◌, ◌-◌, inl, inr, ℕ, zero, suc, List, Some, None, refl, arith}
use Rattle.ub_index_change.proofs.Common.{entries_on, entries_then, Lowers, Sheet, sole_page}

pub sole_none : (n : ℕ) (page : List ℕ) → n ≢ 1 → None ≡ sole_page (entries_on 16 n page)
sole_none zero page h = refl
sole_none (suc zero) page h = absurd (h refl)
sole_none (suc (suc n)) page h = refl

pub lowers_here : (sheets : List Sheet) (pages : List (List ℕ)) (root level : ℕ) → Lowers sheets pages root level root level
lowers_here sheets pages root zero = (refl, refl)
lowers_here sheets pages root (suc level) = inl (refl, refl)

-- one root more
pub lowers_on : (sheets : List Sheet) (pages : List (List ℕ)) (root level : ℕ) (to at page : ℕ) → 1 < at → Lowers sheets pages root level to at
    → sole_page (entries_then sheets pages to) ≡ Some page → Lowers sheets pages root level page (at - 1)
lowers_on sheets pages root zero to at page more (same, same_level) sole = absurd (omega arith)
lowers_on sheets pages root (suc level) to at page more (inl (same, same_level)) sole =
    let one : level ≡ at - 1 = omega arith in
    let here : sole_page (entries_then sheets pages root) ≡ Some page = ap (λ (n : ℕ). sole_page (entries_then sheets pages n)) (sym same) ∙ sole in
    inr (page, here, omega arith, subst (λ (n : ℕ). Lowers sheets pages page level page n) one (lowers_here sheets pages page level))
lowers_on sheets pages root (suc level) to at page more (inr (next, named, some, lowers)) sole =
    inr (next, named, some, lowers_on sheets pages next level to at page more lowers sole)
