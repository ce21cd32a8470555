-- What an entry leads to, in order.
use Rattle.std.proofs.Common.{◌≡◌, ◌++◌, ℕ, zero, suc, List, [], ◌∷◌, Option, Some, None, IfSome, ◌∙◌, sym, subst, refl}
use Rattle.ub_index.proofs.Common.{append-nil, ascend_join, AscendTo, EachTo, entries_of, Entry, first_or, flat_map, IsBefore, IsUnder, Key, under}

pub first_more : (xs ys : List Entry) (end : Option Key) (key : Key) → first_or xs None ≡ Some key → first_or (xs ++ ys) end ≡ Some key
first_more [] ys end key h = cc
first_more (x ∷ xs) ys end key h = h

-- lists put together of lists that each begin with a key begin with the first one
pub first_through : (U : Entry → List Entry) (P : Entry → Option Key → Type 0) → ((x : Entry) (end : Option Key) → P x end → first_or (U x) None ≡ Some x.first)
    → (entries : List Entry) (end : Option Key) (key : Key) → first_or entries None ≡ Some key → EachTo P entries end → first_or (flat_map U entries) None ≡ Some key
first_through U P begin [] end key begins each = cc
first_through U P begin (x ∷ xs) end key begins each = first_more (U x) (flat_map U xs) None key (begin x (first_or xs end) each.0 ∙ begins)

-- what an entry leads to begins with its key
pub under_first : (last : ℕ) (pages : List (List ℕ)) (level : ℕ) (entry : Entry) (end : Option Key) → IsUnder last pages level entry end
    → first_or (under pages level entry) None ≡ Some entry.first
under_first last pages zero entry end h = refl
under_first last pages (suc level) entry end h =
    first_through (under pages level) (IsUnder last pages level) (under_first last pages level) (entries_of pages entry.page) end entry.first h.0.fits.begins h.1

-- lists in order, each up to where the next one begins, are in order put together
ascend_through : (U : Entry → List Entry) (P : Entry → Option Key → Type 0) → ((x : Entry) (end : Option Key) → P x end → first_or (U x) None ≡ Some x.first)
    → ((x : Entry) (end : Option Key) → P x end → AscendTo (U x) end) → (entries : List Entry) (end : Option Key) → EachTo P entries end → AscendTo (flat_map U entries) end
ascend_through U P begin up [] end each = tt
ascend_through U P begin up (x ∷ []) end each = subst (λ (xs : List Entry). AscendTo xs end) (sym (append-nil (U x))) (up x end each.0)
ascend_through U P begin up (x ∷ y ∷ xs) end each =
    ascend_join (U x) (flat_map U (y ∷ xs)) end
    (subst (λ (o : Option Key). AscendTo (U x) o) (sym (first_more (U y) (flat_map U xs) end y.first (begin y (first_or xs end) each.1.0))) (up x (Some y.first) each.0))
    (ascend_through U P begin up (y ∷ xs) end each.1)

-- what an entry leads to is in order
pub under_ascends : (last : ℕ) (pages : List (List ℕ)) (level : ℕ) (entry : Entry) (end : Option Key) → IfSome end (IsBefore entry.first) → IsUnder last pages level entry end
    → AscendTo (under pages level entry) end
under_ascends last pages zero entry end before h = (before, tt)
under_ascends last pages (suc level) entry end before h =
    ascend_through (under pages level) (λ x o. IfSome o (IsBefore x.first) × IsUnder last pages level x o) (λ x o both. under_first last pages level x o both.1)
    (λ x o both. under_ascends last pages level x o both.0 both.1) (entries_of pages entry.page) end (both_of (entries_of pages entry.page) end h.0.fits.ascends h.1)
  where
    both_of : (entries : List Entry) (e : Option Key) → AscendTo entries e → EachTo (IsUnder last pages level) entries e → EachTo (λ x o. IfSome o (IsBefore x.first) × IsUnder last pages level x o) entries e
    both_of [] e up each = tt
    both_of (x ∷ xs) e up each = ((up.0, each.0), both_of xs e up.1 each.1)
