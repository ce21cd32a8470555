-- The names of the columns, one at a time, and that no two are the same.
use Rattle.std.proofs.Common.{◌≡◌, ◌+◌, ◌<◌, ◌≤◌, ◌&&◌, ℕ, zero, suc, Bool, true, false, not, List, [], ◌∷◌, length, take, map, Option, Some, None, slice_get, slice_set, refl, sym, ap, ◌∙◌, arith, add-one, add-zero, ◌⊎◌, inl, inr}
use Rattle.std.proofs.lemmas.Bool.{cases_Bool, and_parts, false≢true, not-true, le-ltb, lt-ltb}
use Rattle.std.proofs.lemmas.Slice.Eq.{bytes_eq-Decides}
use Rattle.std.proofs.Math.Seq.{take-suc-set}
use Rattle.std.specs.List.{enumerate_from, list_any}
use Rattle.std.specs.Str.{bytes_eq}
use Rattle.ub_load.specs.Refusals.{first_of, header_refusals, name_refusal}
use Rattle.ub_load.specs.declared.fault.LoadFault.{LoadFault}
use Rattle.ub_load.specs.declared.fault.LoadFault.TheVariants.{BadName, ColumnCount}
use Rattle.ub_load.proofs.RefusalFacts.{take_one}
use Rattle.ub_table.specs.Name.{is_name}
use Rattle.ub_table.specs.Schema.{AreCounts, AreDistinct, AreTableNumbers}

pub get-map : {X Y : Type 0} (h : X → Y) (xs : List X) (i : ℕ) (x : X) → slice_get xs i ≡ Some x → slice_get (map h xs) i ≡ Some (h x)
get-map h [] i x e = cc
get-map h (y ∷ ys) zero x e = let s : y ≡ x = cc in ap (λ z. Some (h z)) s
get-map h (y ∷ ys) (suc i) x e = get-map h ys i x e

-- a name that is fine, and one that is refused, after these earlier ones
pub name_fine : (names : List (List ℕ)) (place : ℕ) (t : List ℕ) (earlier : List (List ℕ)) → earlier ≡ take place names
    → (is_name t && not (list_any (bytes_eq t) earlier)) ≡ true → name_refusal names (place, t) ≡ None
name_fine names place t earlier e h = let h' = rw e at h in rw h' refl

pub name_refused : (names : List (List ℕ)) (place : ℕ) (t : List ℕ) (earlier : List (List ℕ)) (f : LoadFault) → earlier ≡ take place names
    → (is_name t && not (list_any (bytes_eq t) earlier)) ≡ false → f ≡ BadName (place + 1) → name_refusal names (place, t) ≡ Some f
name_refused names place t earlier f e h is = let h' = rw e at h in rw h' (ap Some (sym is))

-- one more name, written in its place
pub more_names : (names all : List (List ℕ)) (place : ℕ) (t n : List ℕ) → slice_get all place ≡ Some t → n ≡ t → place < length names → take place names ≡ take place all
    → take (place + 1) (slice_set names place n) ≡ take (place + 1) all
more_names names all place t n at is within same =
    rw (add-one, take-suc-set names place n within, take_one all place t at, is, same) refl

-- each item of a list with no refusal has none
none_head : (o : Option LoadFault) (rest : List (Option LoadFault)) → first_of (o ∷ rest) ≡ None → (o ≡ None) × (first_of rest ≡ None)
none_head None rest h = (refl, h)
none_head (Some f) rest h = cc

pub each-fine : {X : Type 0} (g : ℕ × X → Option LoadFault) (n : ℕ) (xs : List X) (j : ℕ) (x : X) → first_of (map g (enumerate_from n xs)) ≡ None → slice_get xs j ≡ Some x → g (n + j, x) ≡ None
each-fine g n [] j x h e = cc
each-fine g n (y ∷ ys) zero x h e =
    let s : y ≡ x = cc in
    rw (add-zero, ← s) ((none_head (g (n, y)) (map g (enumerate_from (n + 1) ys)) h).0)
each-fine g n (y ∷ ys) (suc j) x h e =
    let more = each-fine g (n + 1) ys j x ((none_head (g (n, y)) (map g (enumerate_from (n + 1) ys)) h).1) e in
    let same : n + 1 + j ≡ n + suc j = omega arith in
    rw same at more

-- an item among the first ones passes a test that it passes
pub any_taken : {X : Type 0} (p : X → Bool) (xs : List X) (i j : ℕ) (x : X) → i < j → slice_get xs i ≡ Some x → p x ≡ true → list_any p (take j xs) ≡ true
any_taken p [] i j x l e t = cc
any_taken p (y ∷ ys) i zero x l e t = absurd (omega arith)
any_taken p (y ∷ ys) zero (suc j) x l e t = let s : y ≡ x = cc in rw (s, t) refl
any_taken p (y ∷ ys) (suc i) (suc j) x l e t = elim (cases_Bool (p y)) [
  | inl u ↦ rw u refl
  | inr u ↦ rw u (any_taken p ys i j x (omega arith) e t)
]

pub got_at : {X : Type 0} (xs : List X) (i : ℕ) → i < length xs → (x : X) × (slice_get xs i ≡ Some x)
got_at [] i h = absurd (omega arith)
got_at (x ∷ xs) zero h = (x, refl)
got_at (x ∷ xs) (suc i) h = got_at xs i (omega arith)

no_earlier : (names : List (List ℕ)) (j : ℕ) (x : List ℕ) → name_refusal names (j, x) ≡ None → list_any (bytes_eq x) (take j names) ≡ false
no_earlier names j x h = elim (cases_Bool (is_name x && not (list_any (bytes_eq x) (take j names)))) [
  | inl t ↦ not-true _ ((and_parts (is_name x) _ t).1)
  | inr n ↦ let bad : Some (BadName (j + 1)) ≡ None = rw n at h in cc
]

-- names that are none of them refused are distinct
pub distinct_names : (names : List (List ℕ)) → first_of (map (name_refusal names) (enumerate_from 0 names)) ≡ None → AreDistinct names
distinct_names names h i j l k e =
    let x = got_at names j k in
    let zero_more : 0 + j ≡ j = omega arith in
    let fine = rw zero_more at (each-fine (name_refusal names) 0 names j x.0 h x.1) in
    let none = no_earlier names j x.0 fine in
    let found = any_taken (bytes_eq x.0) names i j x.0 l (e ∙ x.1) ((bytes_eq-Decides x.0 x.0).1 refl) in
    false≢true (sym none ∙ found)

-- the parts of a header's refusals, in order
pub header_of_few : (dims : ℕ) (name : List ℕ) (names : List (List ℕ)) → (length names < dims) ⊎ (dims + 4 < length names) → first_of (header_refusals dims name names) ≡ Some ColumnCount
unfolding header_refusals
header_of_few dims name names (inl h) = let a = lt-ltb (length names) dims h in rw a refl
header_of_few dims name names (inr h) = let a = le-ltb (length names) dims (omega arith) in let b = lt-ltb (dims + 4) (length names) h in rw (a, b) refl

pub header_with_bad_table : (dims : ℕ) (name : List ℕ) (names : List (List ℕ)) → dims ≤ length names → length names ≤ dims + 4 → is_name name ≡ false
    → first_of (header_refusals dims name names) ≡ Some (BadName 0)
unfolding header_refusals
header_with_bad_table dims name names low high h =
    let a = le-ltb (length names) dims low in
    let b = le-ltb (dims + 4) (length names) high in
    rw (a, b, h) refl

pub header_with_names : (dims : ℕ) (name : List ℕ) (names : List (List ℕ)) (o : Option LoadFault) → dims ≤ length names → length names ≤ dims + 4 → is_name name ≡ true
    → first_of (map (name_refusal names) (enumerate_from 0 names)) ≡ o → first_of (header_refusals dims name names) ≡ o
unfolding header_refusals
header_with_names dims name names o low high h e =
    let a = le-ltb (length names) dims low in
    let b = le-ltb (dims + 4) (length names) high in
    rw (a, b, h) e

-- the numbers of a table whose header is fine
pub counts : (columns dims page_rows : ℕ) → AreTableNumbers dims page_rows → dims ≤ columns → columns ≤ dims + 4 → AreCounts columns dims page_rows
counts columns dims page_rows are covers few =
    record { some_dims = are.some_dims; few_dims = are.few_dims; covers_dims = covers; few_measures = few; some_rows = are.some_rows; few_rows = are.few_rows }

pub never_true : (b : Bool) → (b ≡ true → ⊥) → b ≡ false
never_true true h = absurd (h refl)
never_true false h = refl
