-- What a change of some pages leaves of the regions that stand on the others.
use Rattle.std.proofs.Common.{rules, ◌≡◌, ℕ, zero, suc, List, [], ◌∷◌, ◌++◌, Some, map, take, drop, ◌∙◌, sym, ap, refl, slice_get, slice_index_or}
use Rattle.ub_tree.proofs.Common.{All, All-from_recursion, all_append, all_more, AllByRecursion, Entry, entry_of, get_or_from_slice_get, Placed, placed_append}
use Rattle.ub_tree.proofs.Common.{placed_at, placed_of, region_on, region_page, Schema, unwrap_or-slice_get}
use Rattle.std.specs.Option.{unwrap_or}

index_same : (xs ys : List (List ℕ)) (n : ℕ) → slice_get xs n ≡ slice_get ys n → slice_index_or xs n [] ≡ slice_index_or ys n []
index_same xs ys n same = sym (unwrap_or-slice_get xs n []) ∙ ap (λ o. unwrap_or o []) same ∙ unwrap_or-slice_get ys n []

-- a page is as it was
abbrev pub IsKept : List (List ℕ) → List (List ℕ) → Entry → Type 0
IsKept pages new e = slice_get new e.page ≡ slice_get pages e.page

pub placed_kept : (schema : Schema) (pages new : List (List ℕ)) (es : List Entry) → AllByRecursion (IsKept pages new) es → placed_of schema new es ≡ placed_of schema pages es
placed_kept schema pages new [] kept = refl
placed_kept schema pages new (e ∷ es) kept = search (rules, (placed_kept schema pages new es kept.1), index_same, placed_at)

-- a region's page spells it
abbrev pub IsSpelled : Schema → List (List ℕ) → Placed → Type 0
IsSpelled schema pages p = slice_get pages p.page ≡ Some (region_page schema p.region)

spelled_kept : (schema : Schema) (pages new : List (List ℕ)) (es : List Entry) → AllByRecursion (IsKept pages new) es → AllByRecursion (IsSpelled schema pages) (placed_of schema pages es)
    → AllByRecursion (IsSpelled schema new) (placed_of schema pages es)
spelled_kept schema pages new [] kept spelled = tt
spelled_kept schema pages new (e ∷ es) kept spelled = (kept.0 ∙ spelled.0, spelled_kept schema pages new es kept.1 spelled.1)

-- a new region, and that its page tells of it
abbrev pub IsTold : Schema → List (List ℕ) → Placed → Type 0
IsTold schema pages p = IsSpelled schema pages p × (region_on schema (region_page schema p.region) ≡ p.region)

pub placed_told : (schema : Schema) (pages : List (List ℕ)) (news : List Placed) → AllByRecursion (IsTold schema pages) news → placed_of schema pages (map entry_of news) ≡ news
placed_told schema pages [] told = refl
placed_told schema pages (p ∷ news) told = search (rules, (placed_told schema pages news told.1), get_or_from_slice_get)

-- in place of some regions stand others, and the pages of the regions before and after are as they were
pub placed_changed : (schema : Schema) (pages new : List (List ℕ)) (before after : List Entry) (news : List Placed)
    → AllByRecursion (IsKept pages new) before → AllByRecursion (IsKept pages new) after → AllByRecursion (IsTold schema new) news
    → placed_of schema new (before ++ map entry_of news ++ after) ≡ placed_of schema pages before ++ news ++ placed_of schema pages after
placed_changed schema pages new before after news h k j = search (rules, placed_append, placed_kept, placed_told)

pub spelled_changed : (schema : Schema) (pages new : List (List ℕ)) (before after : List Entry) (news : List Placed)
    → AllByRecursion (IsKept pages new) before → AllByRecursion (IsKept pages new) after → AllByRecursion (IsTold schema new) news
    → AllByRecursion (IsSpelled schema pages) (placed_of schema pages before) → AllByRecursion (IsSpelled schema pages) (placed_of schema pages after)
    → All (IsSpelled schema new) (placed_of schema pages before ++ news ++ placed_of schema pages after)
spelled_changed schema pages new before after news h k j l m = search (rules, All-from_recursion, all_append, all_more, spelled_kept)

pub parted : {X : Type 0} (xs : List X) (i : ℕ) (x : X) → slice_get xs i ≡ Some x → take i xs ++ x ∷ drop (suc i) xs ≡ xs
parted [] i x at = cc
parted (y ∷ xs) zero x at = let same : y ≡ x = cc in ap (λ z. z ∷ xs) (sym same)
parted (y ∷ xs) (suc i) x at = ap (λ zs. y ∷ zs) (parted xs i x at)
