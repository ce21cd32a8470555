-- Numbers that stand apart, and which pages the numbers under an entry are.
use Rattle.std.proofs.Common.{arith, ◌≡◌, ◌≢◌, ◌<◌, ◌++◌, ◌∙◌, ap, refl, slice_get, ℕ, zero, suc, List, [], ◌∷◌, Option, false, nat_eq, length, sym}
use Rattle.ub_index.proofs.Common.{all_append, all_left, all_more, all_right, AllByRecursion, each_all, entries_of, Entry, eq-eqb, flat_map, IsDistinct}
use Rattle.ub_index.proofs.Common.{IsOutside, IsUnder, Key, ne_eqb, page_in, pages_under, PagesStay, same_each, same_entries, slice_get_within}

pub differs : (a b : ℕ) → nat_eq a b ≡ false → a ≢ b
differs a b f e = let t = eq-eqb a b e in cc

-- no number of the one list is in the other
abbrev pub StandApart : List ℕ → List ℕ → Type 0
StandApart xs ys = AllByRecursion (λ x. IsOutside x ys) xs

pub distinct_first : (x : ℕ) (xs : List ℕ) → IsDistinct nat_eq (x ∷ xs) → IsOutside x xs
unfolding IsDistinct
distinct_first x xs h = all_more (λ m. nat_eq x m ≡ false) (λ m. x ≢ m) (λ m f. differs x m f) xs h.0

pub distinct_rest : (x : ℕ) (xs : List ℕ) → IsDistinct nat_eq (x ∷ xs) → IsDistinct nat_eq xs
unfolding IsDistinct
distinct_rest x xs h = h.1

pub distinct_right : (xs ys : List ℕ) → IsDistinct nat_eq (xs ++ ys) → IsDistinct nat_eq ys
unfolding IsDistinct
distinct_right [] ys h = h
distinct_right (x ∷ xs) ys h = distinct_right xs ys h.1

pub distinct_left : (xs ys : List ℕ) → IsDistinct nat_eq (xs ++ ys) → IsDistinct nat_eq xs
unfolding IsDistinct
distinct_left [] ys h = tt
distinct_left (x ∷ xs) ys h = (all_left (λ m. nat_eq x m ≡ false) xs ys h.0, distinct_left xs ys h.1)

pub distinct_apart : (xs ys : List ℕ) → IsDistinct nat_eq (xs ++ ys) → StandApart xs ys
unfolding IsDistinct
distinct_apart [] ys h = tt
distinct_apart (x ∷ xs) ys h =
    (all_more (λ m. nat_eq x m ≡ false) (λ m. x ≢ m) (λ m f. differs x m f) ys (all_right (λ m. nat_eq x m ≡ false) xs ys h.0), distinct_apart xs ys h.1)

pub apart_swap : (xs ys : List ℕ) → StandApart xs ys → StandApart ys xs
apart_swap xs [] h = tt
apart_swap xs (y ∷ ys) h = (
  all_more (λ x. IsOutside x (y ∷ ys)) (λ x. y ≢ x) (λ x k e. k.0 (sym e)) xs h,
  apart_swap xs ys (all_more (λ x. IsOutside x (y ∷ ys)) (λ x. IsOutside x ys) (λ x k. k.1) xs h),
)

-- the pages under an entry are pages of the store
pub within_store : (last : ℕ) (pages : List (List ℕ)) (level : ℕ) (entry : Entry) (end : Option Key) → IsUnder last pages level entry end
    → AllByRecursion (λ n. n < length pages) (pages_under pages level entry)
within_store last pages zero entry end h = tt
within_store last pages (suc level) entry end h = (
  slice_get_within pages entry.page (page_in pages entry.page) h.0.there,
  each_all (λ n. n < length pages) (pages_under pages level) (IsUnder last pages level) (within_store last pages level) (entries_of pages entry.page) end h.1,
)

pub distinct_cons : (x : ℕ) (xs : List ℕ) → IsOutside x xs → IsDistinct nat_eq xs → IsDistinct nat_eq (x ∷ xs)
unfolding IsDistinct
distinct_cons x xs h k = (all_more (λ m. x ≢ m) (λ m. nat_eq x m ≡ false) (λ m ne. ne_eqb x m ne) xs h, k)

pub distinct_join : (xs ys : List ℕ) → IsDistinct nat_eq xs → IsDistinct nat_eq ys → StandApart xs ys → IsDistinct nat_eq (xs ++ ys)
unfolding IsDistinct
distinct_join [] ys h k apart = k
distinct_join (x ∷ xs) ys h k apart = (
  all_append (λ m. nat_eq x m ≡ false) xs ys h.0 (all_more (λ m. x ≢ m) (λ m. nat_eq x m ≡ false) (λ m ne. ne_eqb x m ne) ys apart.0),
  distinct_join xs ys h.1 k apart.1,
)

-- where the pages under an entry stay, they are the same
pub kept_pages : (old new : List (List ℕ)) (level : ℕ) (entry : Entry) → PagesStay old new (pages_under old level entry) → pages_under new level entry ≡ pages_under old level entry
kept_pages old new zero entry h = refl
kept_pages old new (suc level) entry h =
    ap (λ (ns : List ℕ). entry.page ∷ ns)
    (ap (λ (entries : List Entry). flat_map (pages_under new level) entries) (same_entries old new entry.page h.0)
    ∙ same_each (λ n. slice_get new n ≡ slice_get old n) (pages_under old level) (pages_under new level) (pages_under old level) (kept_pages old new level) (entries_of old entry.page) h.1)

pub kept_pages_list : (old new : List (List ℕ)) (level : ℕ) (entries : List Entry) → PagesStay old new (flat_map (pages_under old level) entries)
    → flat_map (pages_under new level) entries ≡ flat_map (pages_under old level) entries
kept_pages_list old new level entries h =
    same_each (λ n. slice_get new n ≡ slice_get old n) (pages_under old level) (pages_under new level) (pages_under old level) (kept_pages old new level) entries h

-- entries of regions have no pages of an index below them
pub no_pages : (pages : List (List ℕ)) (entries : List Entry) → flat_map (pages_under pages zero) entries ≡ []
no_pages pages [] = refl
no_pages pages (x ∷ entries) = no_pages pages entries

-- a number that numbers are less than is none of them
pub outside_less : (n : ℕ) (numbers : List ℕ) → AllByRecursion (λ m. m < n) numbers → IsOutside n numbers
outside_less n numbers h = all_more (λ m. m < n) (λ m. n ≢ m) (λ m less e. omega arith) numbers h
