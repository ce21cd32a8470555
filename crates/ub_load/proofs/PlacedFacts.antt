-- What a record holds whose fields stand in another order than the table's columns.
use Rattle.std.proofs.Common.{◌≡◌, ◌+◌, ◌<◌, ◌==◌, ℕ, suc, true, false, List, [], ◌∷◌, ◌++◌, length, take, map, Option, Some, None, get_or, slice_get, option_map, refl, sym, subst, add-one, ◌∙◌, arith, inl, inr}
use Rattle.std.proofs.lemmas.Bool.{cases_Bool, eq-eqb, ne_eqb}
use Rattle.std.proofs.lemmas.List.{length-map, map_push}
use Rattle.std.proofs.lemmas.Option.{get_or_from_slice_get, slice_get-get_or}
use Rattle.std.specs.List.{enumerate_from}
use Rattle.ub_load.specs.Appending.{arranged, placed_refusals, told_at}
use Rattle.ub_load.specs.Field.{trimmed, is_number, number_of}
use Rattle.ub_load.specs.Refusals.{content_refusal, field_refusal, first_of}
use Rattle.ub_load.specs.declared.fault.LoadFault.{LoadFault}
use Rattle.ub_load.specs.declared.fault.LoadFault.TheVariants.{BadNumber, OutOfRange, Csv}
use Rattle.ub_load.specs.inner.Arranged.{IsOfColumns}
use Rattle.ub_load.proofs.RefusalFacts.{content_is_of_fields, take_one}
use Rattle.ub_table.specs.Value.{fits_at}
use Rattle.ub_table.specs.declared.axes.Axes.{Axes}

-- the first refusal, told otherwise
pub first_told : {X : Type 0} (h : LoadFault → LoadFault) (g : X → Option LoadFault) (xs : List X) → first_of (map (λ x. option_map h (g x)) xs) ≡ option_map h (first_of (map g xs))
first_told h g [] = refl
first_told {X} h g (x ∷ xs) = by (g x) (first_told h g xs)
  where
    by : (o : Option LoadFault) → first_of (map (λ x. option_map h (g x)) xs) ≡ option_map h (first_of (map g xs))
        → first_of (option_map h o ∷ map (λ x. option_map h (g x)) xs) ≡ option_map h (first_of (o ∷ map g xs))
    by None rest = rest
    by (Some f) rest = refl

pub length-arranged : (places : List ℕ) (fields : List (List ℕ)) → length (arranged places fields) ≡ length places
length-arranged places fields = length-map places (λ place. get_or fields place [])

-- a record of the header's length is told of its fields alone
pub placed_is_of_fields : (axes : Axes) (width : ℕ) (places : List ℕ) (number : ℕ) (fields : List (List ℕ)) → length fields ≡ width
    → first_of (placed_refusals axes width places (number, fields)) ≡ option_map (told_at places) (content_refusal axes (length places) (number, arranged places fields))
unfolding placed_refusals
placed_is_of_fields axes width places number fields long =
    let t : (length fields == width) ≡ true = eq-eqb (length fields) width long in
    rw (t, content_is_of_fields axes (length places) number (arranged places fields) (length-arranged places fields))
    (first_told (told_at places) (field_refusal axes number) (enumerate_from 0 (arranged places fields)))

-- one of another length is refused
pub placed_of_other_length : (axes : Axes) (width : ℕ) (places : List ℕ) (number : ℕ) (fields : List (List ℕ)) → (length fields ≡ width → ⊥)
    → first_of (placed_refusals axes width places (number, fields)) ≡ Some Csv
unfolding placed_refusals
placed_of_other_length axes width places number fields ne = let f : (length fields == width) ≡ false = ne_eqb (length fields) width ne in rw f refl

-- a field's refusal tells a column that there is
field_within : (axes : Axes) (number k : ℕ) (fields : List (List ℕ)) (f : LoadFault) → first_of (map (field_refusal axes number) (enumerate_from k fields)) ≡ Some f → IsOfColumns (k + length fields) f
field_within axes number k [] f e = cc
field_within axes number k (x ∷ xs) f e = elim (cases_Bool (is_number (trimmed x))) [
  | inl t ↦ elim (cases_Bool (fits_at axes k (number_of (trimmed x)))) [
    | inl u ↦
        let same : k + 1 + length xs ≡ k + suc (length xs) = omega arith in
        let rest = field_within axes number (k + 1) xs f (rw (t, u) at e) in
        rw same at rest
    | inr u ↦ let same : OutOfRange number (k + 1) ≡ f = (let told = rw (t, u) at e in cc) in subst (IsOfColumns (k + suc (length xs))) same (omega arith, omega arith)
  ]
  | inr n ↦ let same : BadNumber number (k + 1) ≡ f = (let told = rw n at e in cc) in subst (IsOfColumns (k + suc (length xs))) same (omega arith, omega arith)
]

pub content_within : (axes : Axes) (places : List ℕ) (number : ℕ) (fields : List (List ℕ)) (f : LoadFault) → length fields ≡ length places → content_refusal axes (length places) (number, fields) ≡ Some f
    → IsOfColumns (length places) f
content_within axes places number fields f long e =
    let told = rw (content_is_of_fields axes (length places) number fields long) at e in
    let zero_more : 0 + length fields ≡ length places = omega arith in
    rw zero_more at (field_within axes number 0 fields f told)

-- one more field, of the next place
pub arranged_more : (places : List ℕ) (fields : List (List ℕ)) (i place : ℕ) (field : List ℕ) → slice_get places i ≡ Some place → slice_get fields place ≡ Some field
    → arranged (take (i + 1) places) fields ≡ arranged (take i places) fields ++ field ∷ []
arranged_more places fields i place field at is =
    rw (add-one, take_one places i place at, map_push (λ place. get_or fields place []) (take i places) place, get_or_from_slice_get fields place field [] is) refl

-- the same of a record that grows by it
pub arranged_step : (places : List ℕ) (fields : List (List ℕ)) (i d : ℕ) (before after : List (List ℕ)) (part field : List ℕ) → i < length places → before ≡ arranged (take i places) fields → part ≡ []
    → after ≡ before ++ (part ++ field) ∷ [] → slice_get fields (get_or places i d) ≡ Some field → after ≡ arranged (take (i + 1) places) fields
arranged_step places fields i d before after part field within is none grown at =
    grown ∙ rw (none, is) (sym (arranged_more places fields i (get_or places i d) field (slice_get-get_or places i d within) at))
