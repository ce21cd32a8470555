-- The names of a header that are those of a table's columns, and where each column stands.
use Rattle.std.proofs.Common.{◌≡◌, ◌≢◌, ◌+◌, ◌<◌, ◌≤◌, ◌==◌, ℕ, zero, suc, Bool, true, false, not, List, [], ◌∷◌, ◌++◌, length, take, map, Option, Some, None, get_or, slice_get, slice_set, All, refl, sym, ap, subst, ◌∙◌, arith, add-one, inl, inr}
use Rattle.std.proofs.lemmas.Bool.{cases_Bool, and_parts, and_from, eq-eqb, false≢true, ne_eqb, not-true}
use Rattle.std.proofs.lemmas.Cmp.{nat_list_eq_equiv}
use Rattle.std.proofs.lemmas.List.{map_push}
use Rattle.std.proofs.lemmas.List.Elements.{All-nil, All-cons}
use Rattle.std.proofs.lemmas.Map.Made.{IsDistinct-from_AllPairs, length-le_from_is_member}
use Rattle.std.proofs.lemmas.Slice.Eq.{bytes_eq-Decides}
use Rattle.std.proofs.Math.Seq.{take-suc-set}
use Rattle.std.specs.List.{enumerate_from, list_all, list_any, position_or_len}
use Rattle.std.specs.Str.{bytes_eq}
use Rattle.ub_load.specs.Appending.{heading_refusals, is_named, missing_refusal, named_refusal, place_in, places_in}
use Rattle.ub_load.specs.Refusals.{first_of}
use Rattle.ub_load.specs.declared.fault.LoadFault.{LoadFault}
use Rattle.ub_load.specs.declared.fault.LoadFault.TheVariants.{BadName, ColumnCount}
use Rattle.ub_load.proofs.HeaderFacts.{any_taken, each-fine}
use Rattle.ub_load.proofs.RefusalFacts.{first-here, first-skip, take_one}

module _ {X : Type 0} (p : X → Bool) where
  none_after : (xs : List X) (x : X) → list_any p xs ≡ false → p x ≡ false → list_any p (xs ++ x ∷ []) ≡ false
  none_after [] x none fails = rw fails refl
  none_after (y ∷ ys) x none fails = elim (cases_Bool (p y)) [
    | inl t ↦ let bad : true ≡ false = rw t at none in absurd (false≢true (sym bad))
    | inr f ↦ let rest = none_after ys x (rw f at none) fails in rw (f, rest) refl
  ]

  -- one more item that fails a test which those before it fail
  pub none_more : (xs : List X) (i : ℕ) (x : X) → slice_get xs i ≡ Some x → list_any p (take i xs) ≡ false → p x ≡ false → list_any p (take (i + 1) xs) ≡ false
  none_more xs i x at none fails = rw (add-one, take_one xs i x at) (none_after (take i xs) x none fails)

  -- the first item that passes
  pub first_at : (xs : List X) (i : ℕ) (x : X) → slice_get xs i ≡ Some x → list_any p (take i xs) ≡ false → p x ≡ true → position_or_len p xs ≡ i
  first_at [] i x at none holds = cc
  first_at (y ∷ ys) zero x at none holds = let same : y ≡ x = cc in rw (same, holds) refl
  first_at (y ∷ ys) (suc i) x at none holds = elim (cases_Bool (p y)) [
    | inl t ↦ let bad : true ≡ false = rw t at none in absurd (false≢true (sym bad))
    | inr f ↦ let rest = first_at ys i x at (rw f at none) holds in rw (f, rest) (omega arith)
  ]

  -- there is none
  pub first_none : (xs : List X) → list_any p xs ≡ false → position_or_len p xs ≡ length xs
  first_none [] none = refl
  first_none (y ∷ ys) none = elim (cases_Bool (p y)) [
    | inl t ↦ let bad : true ≡ false = rw t at none in absurd (false≢true (sym bad))
    | inr f ↦ let rest = first_none ys (rw f at none) in rw (f, rest) (omega arith)
  ]

  later : (xs : List X) (i : ℕ) → list_any p (take i xs) ≡ true → position_or_len p xs ≡ i → ⊥
  later xs zero t e = false≢true t
  later [] (suc i) t e = false≢true t
  later (y ∷ ys) (suc i) t e = elim (cases_Bool (p y)) [
    | inl u ↦ let bad = rw u at e in absurd (omega arith)
    | inr f ↦ later ys i (rw f at t) (let more = rw f at e in omega arith)
  ]

  -- one that passes stands at the first place just where none before it does
  pub first_here : (xs : List X) (i : ℕ) (x : X) → slice_get xs i ≡ Some x → p x ≡ true → (position_or_len p xs == i) ≡ not (list_any p (take i xs))
  first_here xs i x at holds = elim (cases_Bool (list_any p (take i xs))) [
    | inl t ↦ rw t (ne_eqb (position_or_len p xs) i (λ e. later xs i t e))
    | inr f ↦ rw f (eq-eqb (position_or_len p xs) i (first_at xs i x at f holds))
  ]

  -- the first place that passes is one of the list just where some does
  pub first_within : (xs : List X) → position_or_len p xs ≢ length xs → list_any p xs ≡ true
  first_within xs ne = elim (cases_Bool (list_any p xs)) [
    | inl t ↦ t
    | inr f ↦ absurd (ne (first_none xs f))
  ]

  pub within_from : (xs : List X) → list_any p xs ≡ true → position_or_len p xs < length xs
  within_from [] t = absurd (false≢true t)
  within_from (y ∷ ys) t = elim (cases_Bool (p y)) [
    | inl u ↦ rw u (omega arith)
    | inr f ↦ let rest = within_from ys (rw f at t) in rw f (omega arith)
  ]

  pub none_from : (xs : List X) → position_or_len p xs ≡ length xs → list_any p xs ≡ false
  none_from xs e = elim (cases_Bool (list_any p xs)) [
    | inl t ↦ let less = within_from xs t in absurd (omega arith)
    | inr f ↦ f
  ]

  -- an item that passes
  passing : (xs : List X) → list_any p xs ≡ true → (j : ℕ) × (x : X) × (slice_get xs j ≡ Some x) × (p x ≡ true)
  passing [] t = absurd (false≢true t)
  passing (y ∷ ys) t = elim (cases_Bool (p y)) [
    | inl u ↦ (0, y, refl, u)
    | inr f ↦ let rest = passing ys (rw f at t) in (suc rest.0, rest.1, rest.2, rest.3)
  ]

-- a name that isn't refused
named_parts : (columns names : List (List ℕ)) (j : ℕ) (x : List ℕ) → named_refusal columns names (j, x) ≡ None
    → (list_any (bytes_eq x) columns ≡ true) × (list_any (bytes_eq x) (take j names) ≡ false)
named_parts columns names j x h = elim (cases_Bool (is_named columns names (j, x))) [
  | inl t ↦ let parts = and_parts (list_any (bytes_eq x) columns) _ t in (parts.0, not-true _ parts.1)
  | inr n ↦ let bad : Some (BadName (j + 1)) ≡ None = rw n at h in cc
]

-- a name that is fine, and one that is refused
pub name_fits : (columns names : List (List ℕ)) (place : ℕ) (x : List ℕ) → is_named columns names (place, x) ≡ true → named_refusal columns names (place, x) ≡ None
name_fits columns names place x t = rw t refl

pub name_fails : (columns names : List (List ℕ)) (place : ℕ) (x : List ℕ) → is_named columns names (place, x) ≡ false → named_refusal columns names (place, x) ≡ Some (BadName (place + 1))
name_fails columns names place x f = rw f refl

get_taken : {X : Type 0} (k : ℕ) (xs : List X) (i : ℕ) (x : X) → slice_get (take k xs) i ≡ Some x → slice_get xs i ≡ Some x
get_taken zero xs i x e = cc
get_taken (suc k) [] i x e = cc
get_taken (suc k) (y ∷ ys) zero x e = e
get_taken (suc k) (y ∷ ys) (suc i) x e = get_taken k ys i x e

at_or : {X : Type 0} (xs : List X) (i : ℕ) (d : X) → i < length xs → slice_get xs i ≡ Some (get_or xs i d)
at_or [] i d h = absurd (omega arith)
at_or (x ∷ xs) zero d h = refl
at_or (x ∷ xs) (suc i) d h = at_or xs i d (omega arith)

length_taken : {X : Type 0} (n : ℕ) (xs : List X) → n ≤ length xs → length (take n xs) ≡ n
length_taken zero xs h = refl
length_taken (suc n) [] h = absurd (omega arith)
length_taken (suc n) (x ∷ xs) h = ap suc (length_taken n xs (omega arith))

module _ (columns names : List (List ℕ)) (k : ℕ) (le : k ≤ length names) (fine : first_of (map (named_refusal columns names) (enumerate_from 0 (take k names))) ≡ None) where
  at_place : (j : ℕ) (x : List ℕ) → slice_get (take k names) j ≡ Some x → (list_any (bytes_eq x) columns ≡ true) × (list_any (bytes_eq x) (take j names) ≡ false)
  at_place j x at =
      let zero_more : 0 + j ≡ j = omega arith in
      named_parts columns names j x (rw zero_more at (each-fine (named_refusal columns names) 0 (take k names) j x fine at))

  apart : (i j : ℕ) (d : List ℕ) → i < j → j < length (take k names) → get_or (take k names) i d ≢ get_or (take k names) j d
  apart i j d lt within e =
      let x = get_or (take k names) j d in
      let here = at_or (take k names) j d within in
      let there = at_or (take k names) i d (omega arith) ∙ ap Some e in
      let found = any_taken (bytes_eq x) names i j x lt (get_taken k names i x there) ((bytes_eq-Decides x x).1 refl) in
      false≢true (sym (at_place j x here).1 ∙ found)

  -- names that are fine are no more than there are columns
  pub fine_few : k ≤ length columns
  fine_few =
      let few = length-le_from_is_member nat_list_eq_equiv (take k names) columns (IsDistinct-from_AllPairs bytes_eq-Decides (take k names) apart)
      (λ q t. let (j, x, at, same) = passing (bytes_eq q) (take k names) t in
      let e : q ≡ x = (bytes_eq-Decides q x).0 same in
      rw (sym e) at (at_place j x at).0) in
      let long = length_taken k names le in
      omega arith

-- the parts of a heading's refusals, in order
pub heading_of_name : (columns names : List (List ℕ)) (f : LoadFault) → first_of (map (named_refusal columns names) (enumerate_from 0 names)) ≡ Some f → first_of (heading_refusals columns names) ≡ Some f
unfolding heading_refusals
heading_of_name columns names f h = first-here (map (named_refusal columns names) (enumerate_from 0 names)) (missing_refusal columns names ∷ []) f h

pub heading_of_missing : (columns names : List (List ℕ)) (o : Option LoadFault) → first_of (map (named_refusal columns names) (enumerate_from 0 names)) ≡ None → missing_refusal columns names ≡ o
    → first_of (heading_refusals columns names) ≡ o
unfolding heading_refusals
heading_of_missing columns names o h is =
    first-skip (map (named_refusal columns names) (enumerate_from 0 names)) (missing_refusal columns names ∷ []) h ∙ only (missing_refusal columns names) ∙ is
  where
    only : (o : Option LoadFault) → first_of (o ∷ []) ≡ o
    only None = refl
    only (Some f) = refl

-- and none is there of a heading that is fine
pub heading_parts : (columns names : List (List ℕ)) → first_of (heading_refusals columns names) ≡ None
    → (first_of (map (named_refusal columns names) (enumerate_from 0 names)) ≡ None) × (list_all (λ column. list_any (bytes_eq column) names) columns ≡ true)
unfolding heading_refusals
heading_parts columns names h = by (first_of (map (named_refusal columns names) (enumerate_from 0 names))) refl
  where
    all_there : missing_refusal columns names ≡ None → list_all (λ column. list_any (bytes_eq column) names) columns ≡ true
    all_there e = elim (cases_Bool (list_all (λ column. list_any (bytes_eq column) names) columns)) [
      | inl t ↦ t
      | inr n ↦ let bad : Some ColumnCount ≡ None = rw n at e in cc
    ]

    by : (o : Option LoadFault) → first_of (map (named_refusal columns names) (enumerate_from 0 names)) ≡ o
        → (first_of (map (named_refusal columns names) (enumerate_from 0 names)) ≡ None) × (list_all (λ column. list_any (bytes_eq column) names) columns ≡ true)
    by None e = (e, all_there (sym (heading_of_missing columns names (missing_refusal columns names) e refl) ∙ h))
    by (Some f) e = let bad : Some f ≡ None = sym (heading_of_name columns names f e) ∙ h in cc

-- each column stands in the header
pub places_within : (columns names : List (List ℕ)) → list_all (λ column. list_any (bytes_eq column) names) columns ≡ true → All (λ place. place < length names) (places_in columns names)
places_within [] names h = All-nil (λ place. place < length names)
places_within (c ∷ cs) names h =
    let parts = and_parts (list_any (bytes_eq c) names) _ h in
    All-cons (λ place. place < length names) (place_in names c) (places_in cs names) (within_from (bytes_eq c) names parts.0) (places_within cs names parts.1)

-- where a header is fine, it has as many names as there are columns at the most
pub heading_few : (columns names : List (List ℕ)) → first_of (heading_refusals columns names) ≡ None → length names ≤ length columns
heading_few columns names h =
    fine_few columns names (length names) (omega arith) (rw (take_length names) ((heading_parts columns names h).0))
  where
    take_length : {X : Type 0} (xs : List X) → take (length xs) xs ≡ xs
    take_length [] = refl
    take_length (x ∷ xs) = ap (λ ys. x ∷ ys) (take_length xs)

module _ {X : Type 0} (p : X → Bool) where
  all_after : (xs : List X) (x : X) → list_all p xs ≡ true → p x ≡ true → list_all p (xs ++ x ∷ []) ≡ true
  all_after [] x h t = and_from (p x) true t refl
  all_after (y ∷ ys) x h t = let parts = and_parts (p y) (list_all p ys) h in and_from (p y) _ parts.0 (all_after ys x parts.1 t)

  -- one more item that passes a test which those before it pass
  pub all_more : (xs : List X) (i : ℕ) (x : X) → slice_get xs i ≡ Some x → list_all p (take i xs) ≡ true → p x ≡ true → list_all p (take (i + 1) xs) ≡ true
  all_more xs i x at h t = rw (add-one, take_one xs i x at) (all_after (take i xs) x h t)

  -- one that fails it
  pub not_all : (xs : List X) (i : ℕ) (x : X) → slice_get xs i ≡ Some x → p x ≡ false → list_all p xs ≡ false
  not_all [] i x at f = cc
  not_all (y ∷ ys) zero x at f = let same : y ≡ x = cc in rw (same, f) refl
  not_all (y ∷ ys) (suc i) x at f = elim (cases_Bool (p y)) [
    | inl t ↦ rw t (not_all ys i x at f)
    | inr n ↦ rw n refl
  ]

-- one more place, written behind those before it
pub more_places : (names columns : List (List ℕ)) (places : List ℕ) (i place : ℕ) (column : List ℕ) → slice_get columns i ≡ Some column → place ≡ place_in names column → i < length places
    → take i places ≡ map (place_in names) (take i columns) → take (i + 1) (slice_set places i place) ≡ map (place_in names) (take (i + 1) columns)
more_places names columns places i place column at is within same =
    rw (add-one, take-suc-set places i place within, take_one columns i column at, same, is) (sym (map_push (place_in names) (take i columns) column))

-- what a name is of whose first place is known
pub named_first : (columns names : List (List ℕ)) (place : ℕ) (text name : List ℕ) (found : ℕ) → slice_get names place ≡ Some text → slice_get names place ≡ Some name
    → list_any (bytes_eq text) columns ≡ true → found ≡ place_in names text → (found == place) ≡ is_named columns names (place, name)
named_first columns names place text name found here at column is =
    let same : text ≡ name = cc in
    let known = rw same at column in
    let first = rw same at is in
    rw (first, known) (first_here (bytes_eq name) names place name at ((bytes_eq-Decides name name).1 refl))

pub named_other : (columns names : List (List ℕ)) (place : ℕ) (text name : List ℕ) → slice_get names place ≡ Some text → slice_get names place ≡ Some name
    → list_any (bytes_eq text) columns ≡ false → false ≡ is_named columns names (place, name)
named_other columns names place text name here at none =
    let same : text ≡ name = cc in
    let unknown = rw same at none in
    rw unknown refl

-- a column that no place of the header names
pub missing_here : (columns names : List (List ℕ)) (i : ℕ) (d text : List ℕ) (place : ℕ) → i < length columns → text ≡ get_or columns i d → place ≡ place_in names text → place ≡ length names
    → missing_refusal columns names ≡ Some ColumnCount
missing_here columns names i d text place within is first last =
    let none = none_from (bytes_eq text) names (sym first ∙ last) in
    let out = not_all (λ column. list_any (bytes_eq column) names) columns i text (at_or columns i d within ∙ ap Some (sym is)) none in
    rw out refl

-- and one that some place names
pub found_here : (columns names : List (List ℕ)) (i : ℕ) (d text : List ℕ) (place : ℕ) → i < length columns → text ≡ get_or columns i d → place ≡ place_in names text → place ≢ length names
    → list_all (λ column. list_any (bytes_eq column) names) (take i columns) ≡ true → list_all (λ column. list_any (bytes_eq column) names) (take (i + 1) columns) ≡ true
found_here columns names i d text place within is first ne before =
    all_more (λ column. list_any (bytes_eq column) names) columns i text (at_or columns i d within ∙ ap Some (sym is)) before
    (first_within (bytes_eq text) names (λ e. ne (first ∙ e)))

pub place_here : (names columns : List (List ℕ)) (places : List ℕ) (i place : ℕ) (d text : List ℕ) → i < length columns → text ≡ get_or columns i d → place ≡ place_in names text → i < length places
    → take i places ≡ map (place_in names) (take i columns) → take (i + 1) (slice_set places i place) ≡ map (place_in names) (take (i + 1) columns)
place_here names columns places i place d text below is first within same =
    more_places names columns places i place text (at_or columns i d below ∙ ap Some (sym is)) first within same

-- the places of a heading that is fine are those of its fields
pub places_inside : (columns names : List (List ℕ)) (places : List ℕ) (width : ℕ) → places ≡ places_in columns names → width ≡ length names → first_of (heading_refusals columns names) ≡ None
    → All (λ place. place < width) places
places_inside columns names places width are long fine =
    subst (λ (n : ℕ). All (λ place. place < n) places) (sym long)
    (subst (λ (ps : List ℕ). All (λ place. place < length names) ps) (sym are) (places_within columns names ((heading_parts columns names fine).1)))
