-- The first refusal of a list that grows.
use Rattle.std.proofs.Common.{◌≡◌, ◌+◌, ◌<◌, ◌≤◌, ℕ, zero, suc, true, false, List, [], ◌∷◌, ◌++◌, length, take, drop, map, Option, Some, None, slice_get, refl, ap, ◌∙◌, arith, add-one, add-zero}
use Rattle.std.specs.List.{filter_map, flat_map, enumerate_from}
use Rattle.std.proofs.lemmas.List.{map-append}
use Rattle.std.proofs.lemmas.List.Elements.{filter_map-append}
use Rattle.std.proofs.lemmas.Grind.{flat_map-append}
use Rattle.std.proofs.lemmas.Bool.{eq-eqb, ne_eqb, le-leb, lt-leb}
use Rattle.std.specs.Prelude.{◌==◌, nat_le, Result, Err, if◌then◌else◌}
use Rattle.ub_load.specs.Refusals.{content_refusal, content_refusals, fields_refusal, first_of, record_refusals}
use Rattle.ub_load.specs.declared.fault.LoadFault.TheVariants.{Csv, Tree}
use Rattle.ub_load.specs.declared.fault.LoadFault.{LoadFault}
use Rattle.ub_load.specs.inner.Calls.{Reads}
use Rattle.ub_table.specs.declared.axes.Axes.{Axes}
use Rattle.ub_tree.specs.declared.fault.TreeFault.TheVariants as tree

nothing_found : (found : List LoadFault) → slice_get found 0 ≡ None → found ≡ []
nothing_found [] h = refl
nothing_found (f ∷ fs) h = cc

first_found : (found more : List LoadFault) (f : LoadFault) → slice_get found 0 ≡ Some f → slice_get (found ++ more) 0 ≡ Some f
first_found [] more f h = cc
first_found (g ∷ gs) more f h = h

-- refusals with nothing wrong in them are passed over
pub first-skip : (xs ys : List (Option LoadFault)) → first_of xs ≡ None → first_of (xs ++ ys) ≡ first_of ys
first-skip xs ys h =
    let e = nothing_found (filter_map (λ f. f) xs) h in
    rw (filter_map-append (λ f. f) xs ys, e) refl

-- what comes after the first refusal makes no difference
pub first-here : (xs ys : List (Option LoadFault)) (f : LoadFault) → first_of xs ≡ Some f → first_of (xs ++ ys) ≡ Some f
first-here xs ys f h = rw (filter_map-append (λ f. f) xs ys) (first_found (filter_map (λ f. f) xs) (filter_map (λ f. f) ys) f h)

pub enumerate_from-append : {X : Type 0} (n : ℕ) (xs ys : List X) → enumerate_from n (xs ++ ys) ≡ enumerate_from n xs ++ enumerate_from (n + length xs) ys
enumerate_from-append n [] ys = rw add-zero refl
enumerate_from-append n (x ∷ xs) ys =
    let same : n + 1 + length xs ≡ n + suc (length xs) = omega arith in
    ap (λ r. (n, x) ∷ r) (enumerate_from-append (n + 1) xs ys ∙ ap (λ k. enumerate_from (n + 1) xs ++ enumerate_from k ys) same)

-- a list around one of its places
pub around : {X : Type 0} (xs : List X) (i : ℕ) (x : X) → slice_get xs i ≡ Some x → xs ≡ take i xs ++ (x ∷ drop (suc i) xs)
around [] i x h = cc
around (y ∷ ys) zero x h = let e : y ≡ x = cc in ap (λ z. z ∷ ys) e
around (y ∷ ys) (suc i) x h = ap (λ r. y ∷ r) (around ys i x h)

pub take_one : {X : Type 0} (xs : List X) (i : ℕ) (x : X) → slice_get xs i ≡ Some x → take (suc i) xs ≡ take i xs ++ (x ∷ [])
take_one [] i x h = cc
take_one (y ∷ ys) zero x h = let e : y ≡ x = cc in ap (λ z. z ∷ []) e
take_one (y ∷ ys) (suc i) x h = ap (λ r. y ∷ r) (take_one ys i x h)

pub length-taken : {X : Type 0} (xs : List X) (i : ℕ) (x : X) → slice_get xs i ≡ Some x → length (take i xs) ≡ i
length-taken [] i x h = cc
length-taken (y ∷ ys) zero x h = refl
length-taken (y ∷ ys) (suc i) x h = ap suc (length-taken ys i x h)

module _ {X : Type 0} (g : ℕ × X → Option LoadFault) where
  -- each item's refusal, with the item's place
  abbrev pub each : List X → List (Option LoadFault)
  each xs = map g (enumerate_from 0 xs)

  each-append : (xs ys : List X) → each (xs ++ ys) ≡ each xs ++ map g (enumerate_from (length xs) ys)
  each-append xs ys =
      let zero_more : 0 + length xs ≡ length xs = omega arith in
      rw (enumerate_from-append 0 xs ys, zero_more, map-append g (enumerate_from 0 xs) (enumerate_from (length xs) ys)) refl

  -- an item that is fine, after items that are
  pub each-more : (xs : List X) (i : ℕ) (x : X) → slice_get xs i ≡ Some x → first_of (each (take i xs)) ≡ None → g (i, x) ≡ None → first_of (each (take (i + 1) xs)) ≡ None
  each-more xs i x at fine h =
      let long = length-taken xs i x at in
      rw (add-one, take_one xs i x at, each-append (take i xs) (x ∷ []), first-skip (each (take i xs)) (map g (enumerate_from (length (take i xs)) (x ∷ []))) fine, long, h) refl

  -- an item that is refused, after items that are fine
  pub each-refused : (xs : List X) (i : ℕ) (x : X) (f : LoadFault) → slice_get xs i ≡ Some x → first_of (each (take i xs)) ≡ None → g (i, x) ≡ Some f → first_of (each xs) ≡ Some f
  each-refused xs i x f at fine h =
      let long = length-taken xs i x at in
      let whole = ap (λ ys. first_of (each ys)) (around xs i x at) in
      whole ∙ rw (each-append (take i xs) (x ∷ drop (suc i) xs), first-skip (each (take i xs)) (map g (enumerate_from (length (take i xs)) (x ∷ drop (suc i) xs))) fine, long, h) refl

module _ {X : Type 0} (g : ℕ × X → List (Option LoadFault)) where
  flat-append : (n : ℕ) (xs ys : List X) → flat_map g (enumerate_from n (xs ++ ys)) ≡ flat_map g (enumerate_from n xs) ++ flat_map g (enumerate_from (n + length xs) ys)
  flat-append n xs ys = rw (enumerate_from-append n xs ys, flat_map-append g (enumerate_from n xs) (enumerate_from (n + length xs) ys)) refl

  -- one more record that is fine
  pub flat-more : (n k : ℕ) (xs : List X) (x : X) → k ≡ n + length xs → first_of (flat_map g (enumerate_from n xs)) ≡ None → first_of (g (k, x)) ≡ None → first_of (flat_map g (enumerate_from n (xs ++ x ∷ []))) ≡ None
  flat-more n k xs x e fine h =
      rw (flat-append n xs (x ∷ []), first-skip (flat_map g (enumerate_from n xs)) (flat_map g (enumerate_from (n + length xs) (x ∷ []))) fine, ← e)
      (first-skip (g (k, x)) [] h)

  -- one more record that is refused, whatever comes after it
  pub flat-refused : (n k : ℕ) (xs ys : List X) (x : X) (f : LoadFault) → k ≡ n + length xs → first_of (flat_map g (enumerate_from n xs)) ≡ None → first_of (g (k, x)) ≡ Some f
      → first_of (flat_map g (enumerate_from n (xs ++ (x ∷ ys)))) ≡ Some f
  flat-refused n k xs ys x f e fine h =
      rw (flat-append n xs (x ∷ ys), first-skip (flat_map g (enumerate_from n xs)) (flat_map g (enumerate_from (n + length xs) (x ∷ ys))) fine, ← e)
      (first-here (g (k, x)) (flat_map g (enumerate_from (k + 1) ys)) f h)

-- the parts of a record's refusals, in order
pub record_of_other_length : (axes : Axes) (width number : ℕ) (fields : List (List ℕ)) → (length fields ≡ width → ⊥)
    → first_of (content_refusals axes width (number, fields)) ≡ Some Csv
unfolding content_refusals
record_of_other_length axes width number fields ne = let t : (length fields == width) ≡ false = ne_eqb (length fields) width ne in rw t refl

pub content_is_of_fields : (axes : Axes) (width number : ℕ) (fields : List (List ℕ)) → length fields ≡ width
    → content_refusal axes width (number, fields) ≡ fields_refusal axes number fields
unfolding content_refusals
content_is_of_fields axes width number fields long = let t : (length fields == width) ≡ true = eq-eqb (length fields) width long in rw t refl

-- what a record holds is refused before its number
pub record_with_bad_content : (axes : Axes) (width : ℕ) (r : ℕ × List (List ℕ)) (f : LoadFault) → content_refusal axes width r ≡ Some f
    → first_of (record_refusals axes width r) ≡ Some f
unfolding record_refusals
record_with_bad_content axes width r f h = first-here (content_refusals axes width r) ((if nat_le r.0 16777215 then None else Some (Tree tree.Full)) ∷ []) f h

pub record_past_last : (axes : Axes) (width : ℕ) (r : ℕ × List (List ℕ)) → 16777215 < r.0 → content_refusal axes width r ≡ None
    → first_of (record_refusals axes width r) ≡ Some (Tree tree.Full)
unfolding record_refusals
record_past_last axes width r past h =
    let u : nat_le r.0 16777215 ≡ false = lt-leb r.0 16777215 past in
    rw u (first-skip (content_refusals axes width r) (Some (Tree tree.Full) ∷ []) h)

pub record_is_fine : (axes : Axes) (width : ℕ) (r : ℕ × List (List ℕ)) → r.0 ≤ 16777215 → content_refusal axes width r ≡ None
    → first_of (record_refusals axes width r) ≡ None
unfolding record_refusals
record_is_fine axes width r le h =
    let u : nat_le r.0 16777215 ≡ true = le-leb r.0 16777215 le in
    rw u (first-skip (content_refusals axes width r) (None ∷ []) h)

-- what is refused is told as the first refusal
pub reads_refused : {A : Type 0} {Is : A → Type 0} {refusal : Option LoadFault} {result : Result A LoadFault} {e f : LoadFault} → result ≡ Err e → e ≡ f → refusal ≡ Some f → Reads Is refusal result
reads_refused is same told = rw (is, same) (record { value = tt; accepted = tt; refused = told })
