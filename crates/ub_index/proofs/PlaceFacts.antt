-- The entries of an index as those of a table's regions, and the index of the region that holds a key.
use Rattle.std.proofs.Common.{rules, ◌≡◌, ◌≤◌, ◌+◌, ◌⊎◌, inl, inr, ℕ, zero, suc, true, false, List, [], ◌∷◌, Option, Some, None, length, slice_get, ◌∙◌, sym, ap, subst, refl, arith}
use Rattle.ub_index.proofs.Common.{All, All-from_recursion, all_more, AllByRecursion, and_from, and_parts, are_ascending, ascending_get, AscendTo, before_from}
use Rattle.ub_index.proofs.Common.{before_of, before_parts, cases_Bool, each_all, entries_in, entries_of, Entry, entry_at, first_keys, flat_map, Gives}
use Rattle.ub_index.proofs.Common.{index_holding, IndexView, IsBefore, IsEntry, IsIndexOn, IsPreviousRegion, IsRegionAt, IsUnder, Key, key_before, LeadsTo}
use Rattle.ub_index.proofs.Common.{not_before_self, origin, precedes, precedes_of, precedes_trans, Region, region_of, slice_get_cases, slice_get_within}
use Rattle.ub_index.proofs.Common.{StoreFacts, top, under}
use Rattle.ub_index.proofs.Laws.{first_at}
use Rattle.ub_index.proofs.OrderFacts.{under_first}
use Rattle.ub_index.proofs.WayFacts.{first_is, in_order, not_true, way_ends_at}

length-first_keys : (entries : List Entry) → length (first_keys entries) ≡ length entries
length-first_keys [] = refl
length-first_keys (entry ∷ entries) = ap (λ (n : ℕ). suc n) (length-first_keys entries)

ascending : (xs : List Entry) → AscendTo xs None → are_ascending (first_keys xs) ≡ true
ascending (x ∷ y ∷ xs) up = and_from _ _ (precedes_of x.first y.first up.0) (ascending (y ∷ xs) up.1)
ascending xs up = refl

single : (Q : Entry → Type 0) (pages : List (List ℕ)) (xs : List Entry) → AllByRecursion Q xs → AllByRecursion Q (flat_map (under pages zero) xs)
single Q pages [] h = tt
single Q pages (x ∷ xs) h = (h.0, single Q pages xs h.1)

under_entries : (last : ℕ) (pages : List (List ℕ)) (level : ℕ) (entry : Entry) (end : Option Key) → IsUnder last pages (suc level) entry end
    → AllByRecursion (IsEntry last) (under pages (suc level) entry)
under_entries last pages zero entry end is = single (IsEntry last) pages (entries_of pages entry.page) is.0.fits.is.is.entries
under_entries last pages (suc level) entry end is =
    each_all (IsEntry last) (under pages (suc level)) (IsUnder last pages (suc level)) (under_entries last pages level) (entries_of pages entry.page) end is.1

number_of : (last : ℕ) (xs : List Entry) (i : ℕ) (key : Key) → AllByRecursion (IsEntry last) xs → slice_get (first_keys xs) i ≡ Some key → key.number ≤ 16777215
number_of last [] i key h at = cc
number_of last (x ∷ xs) zero key h at = let same : x.first ≡ key = cc in let le = h.0.number in subst (λ (k : Key). k.number ≤ 16777215) same le
number_of last (x ∷ xs) (suc i) key h at = number_of last xs i key h.1 at

module _ (index : IndexView) (store : StoreFacts) (is : IsIndexOn index store) where
  pub each_entry : AllByRecursion (IsEntry index.last) (entries_in index store)
  each_entry = by_level index.levels is.some is.under_it
    where
      by_level : (level : ℕ) → 1 ≤ level → IsUnder index.last store.pages level (top index.root) None → AllByRecursion (IsEntry index.last) (under store.pages level (top index.root))
      by_level zero some h = absurd (omega arith)
      by_level (suc level) some h = under_entries index.last store.pages level (top index.root) None h

  pub up : are_ascending (first_keys (entries_in index store)) ≡ true
  up = ascending (entries_in index store) (in_order index store is)

  pub begins : slice_get (first_keys (entries_in index store)) 0 ≡ Some origin
  begins = sym (first_is (entries_in index store)) ∙ under_first index.last store.pages index.levels (top index.root) None is.under_it

  pub within : All (λ e. e.first.z ≤ index.last) (entries_in index store)
  within =
      All-from_recursion (λ (e : Entry). e.first.z ≤ index.last) (entries_in index store)
      (all_more (IsEntry index.last) (λ e. e.first.z ≤ index.last) (λ e h. h.z) (entries_in index store) each_entry)

  pub small_number : (i : ℕ) (key : Key) → slice_get (first_keys (entries_in index store)) i ≡ Some key → key.number ≤ 16777215
  small_number i key at = number_of index.last (entries_in index store) i key each_entry at

-- the index of the region that holds a key is no less than that of a first key that isn't after it
pub index_ge : (key : Key) (firsts : List Key) (j : ℕ) (first : Key) → are_ascending firsts ≡ true → slice_get firsts j ≡ Some first → precedes key first ≡ false
    → j ≤ index_holding key firsts
index_ge key (a ∷ firsts) zero first up at f = omega arith
index_ge key (a ∷ b ∷ firsts) (suc j) first up at f = elim (cases_Bool (precedes key b)) [
  | inl t ↦ absurd (not_here j at t)
  | inr before ↦ let more = index_ge key (b ∷ firsts) j first (and_parts _ _ up).1 at f in rw before (omega arith)
]
  where
    not_here : (i : ℕ) → slice_get (b ∷ firsts) i ≡ Some first → precedes key b ≡ true → ⊥
    not_here zero there t = let same : b ≡ first = cc in let again : precedes key first ≡ true = ap (precedes key) (sym same) ∙ t in cc
    not_here (suc i) there t =
        let later = ascending_get (b ∷ firsts) (and_parts _ _ up).1 0 (suc i) (omega arith) b first refl there in
        let again = precedes_trans key b first t later in cc
index_ge key firsts j first up at f = cc

-- and less than that of one that is
pub index_below : (key : Key) (firsts : List Key) (j : ℕ) → ((first : Key) → slice_get firsts (suc j) ≡ Some first → precedes key first ≡ true) → index_holding key firsts ≤ j ⊎ (length firsts ≤ j)
index_below key [] j h = inr (omega arith)
index_below key (a ∷ []) j h = inl (omega arith)
index_below key (a ∷ b ∷ firsts) zero h = inl (rw (h b refl) (omega arith))
index_below key (a ∷ b ∷ firsts) (suc j) h = elim (cases_Bool (precedes key b)) [
  | inl t ↦ inl (rw t (omega arith))
  | inr f ↦ elim (index_below key (b ∷ firsts) j h) [
    | inl le ↦ inl (rw f (omega arith))
    | inr far ↦ inr (omega arith)
  ]
]

-- a first key stands at the index of the region that holds it, and so does a key up to the next one
pub index_is : (key : Key) (firsts : List Key) (j : ℕ) (first : Key) → are_ascending firsts ≡ true → slice_get firsts j ≡ Some first → precedes key first ≡ false
    → ((next : Key) → slice_get firsts (suc j) ≡ Some next → precedes key next ≡ true) → index_holding key firsts ≡ j
index_is key firsts j first up at from to =
    let ge = index_ge key firsts j first up at from in
    let near = slice_get_within firsts j first at in
    elim (index_below key firsts j to) [
      | inl le ↦ omega arith
      | inr far ↦ absurd (omega arith)
    ]

not_self : (key : Key) → precedes key key ≡ false
not_self key = elim (cases_Bool (precedes key key)) [
  | inl t ↦ absurd (not_before_self key (before_of key key t))
  | inr f ↦ f
]

pub index_of_first : (firsts : List Key) (j : ℕ) (first : Key) → are_ascending firsts ≡ true → slice_get firsts j ≡ Some first → index_holding first firsts ≡ j
index_of_first firsts j first up at = index_is first firsts j first up at (not_self first) (λ next there. ascending_get firsts up j (suc j) (omega arith) first next at there)

-- the regions beside one
module _ (index : IndexView) (store : StoreFacts) (is : IsIndexOn index store) (i : ℕ) (region : Region) (at : IsRegionAt (entries_in index store) i region) where
  pub after_none : region.next ≡ None → length (entries_in index store) ≡ i + 1
  after_none none = search (rules, slice_get, within, slice_get_cases, length-first_keys)

  pub after_some : (key : Key) (next : Region) → region.next ≡ Some key → Gives index store key next → IsRegionAt (entries_in index store) (i + 1) next
  after_some key next is_next given = search (rules, slice_get, index_of_first, up, way_ends_at)

-- the greatest key before one: no key of an entry lies between
none_before : (z n : ℕ) → key_before z n ≡ None → (z ≡ 0) × (n ≡ 0)
none_before zero zero h = (refl, refl)
none_before (suc z) zero h = cc
none_before z (suc n) h = cc

greatest_before : (z n : ℕ) (key : Key) → key_before z n ≡ Some key
    → IsBefore key (record { z = z; number = n }) × ((first : Key) → first.number ≤ 16777215 → IsBefore first (record { z = z; number = n }) → ¬ (IsBefore key first))
greatest_before z n key h = search (rules, before_from, up, before_parts)

pub first_there : (entries : List Entry) (i : ℕ) (region : Region) → IsRegionAt entries i region → slice_get (first_keys entries) i ≡ Some region.first
first_there entries i region at = first_at entries i (entry_at region) at.entry

module _ (index : IndexView) (store : StoreFacts) (is : IsIndexOn index store) where
  pub none_is_before : (i : ℕ) (region : Region) → IsRegionAt (entries_in index store) i region → key_before region.first.z region.first.number ≡ None → i ≡ 0
  none_is_before zero region at none = refl
  none_is_before (suc j) region at none =
      let least = none_before region.first.z region.first.number none in
      let later = ascending_get (first_keys (entries_in index store)) (up index store is) 0 (suc j) (omega arith) origin region.first (begins index store is)
      (first_there (entries_in index store) (suc j) region at) in
      elim (before_parts origin region.first (before_of origin region.first later)) [
        | inl lt ↦ let e = least.0 in absurd (omega arith)
        | inr both ↦ let e = least.1 in let f = both.1 in absurd (omega arith)
      ]

  pub some_is_before : (i : ℕ) (region : Region) → IsRegionAt (entries_in index store) i region → (key : Key) (before : Region) → key_before region.first.z region.first.number ≡ Some key
      → Gives index store key before → IsPreviousRegion (entries_in index store) i (Some before)
  some_is_before zero region at key before is_before given =
      let same : region.first ≡ origin = (let a = first_there (entries_in index store) zero region at in let b = begins index store is in cc) in
      let none : key_before region.first.z region.first.number ≡ None = ap (λ (k : Key). key_before k.z k.number) same in
      cc
  some_is_before (suc j) region at key before is_before given =
      let firsts = first_keys (entries_in index store) in
      let here : slice_get (first_keys (entries_in index store)) (suc j) ≡ Some region.first = first_there (entries_in index store) (suc j) region at in
      let greatest = greatest_before region.first.z region.first.number key is_before in
      let near = at.within in
      elim ((slice_get_cases (first_keys (entries_in index store)) j).1) [
        | inl some ↦
            let f = some.0 in
            let there : slice_get (first_keys (entries_in index store)) j ≡ Some some.0 = some.2 in
            let lower = ascending_get (first_keys (entries_in index store)) (up index store is) j (suc j) (omega arith) some.0 region.first there here in
            let no_more = greatest.1 some.0 (small_number index store is j some.0 there) (before_of some.0 region.first lower) in
            let at_j : index_holding key (first_keys (entries_in index store)) ≡ j =
            index_is key (first_keys (entries_in index store)) j some.0 (up index store is) there (not_true key some.0 no_more)
            (λ next there'. let same : region.first ≡ next = cc in ap (precedes key) (sym same) ∙ precedes_of key region.first greatest.0) in
            (j, omega arith, subst (λ (n : ℕ). IsRegionAt (entries_in index store) n before) at_j (way_ends_at index store key before is (given.way is.honest)))
        | inr past ↦ let far = past.0 in absurd (omega (arith, length-first_keys (entries_in index store)))
      ]

-- the way to the first key of a region ends at its region
pub region_found : (index : IndexView) (store : StoreFacts) (i : ℕ) (region : Region) → IsIndexOn index store → IsRegionAt (entries_in index store) i region → (found : Entry) (next : Option Key)
    → LeadsTo index.last store.pages region.first index.levels (top index.root) None found next → (found ≡ entry_at region) × (next ≡ region.next)
region_found index store i region is at found next leads =
    let there = way_ends_at index store region.first (region_of index.last found next) is leads in
    let same = index_of_first (first_keys (entries_in index store)) i region.first (up index store is) (first_there (entries_in index store) i region at) in
    let here = subst (λ (n : ℕ). IsRegionAt (entries_in index store) n (region_of index.last found next)) same there in
    let entries : Some found ≡ Some (entry_at region) = sym here.entry ∙ at.entry in
    (cc, here.next ∙ sym at.next)
