-- Where a row goes in among rows in the order of their keys, and whether one of them has its key.
use Rattle.std.proofs.Common.{Bool, ◌&&◌, ◌≡◌, ◌≢◌, ◌<◌, ◌≤◌, ◌+◌, ◌-◌, ◌==◌, inl, inr, ℕ, zero, suc, List, [], ◌∷◌, Some, true, false, length, map, get_or, slice_get, refl, sym, ap, subst, ◌∙◌, arith}
use Rattle.std.proofs.lemmas.Bool.{and_parts, cases_Bool, cases_eq, cases_lt, eq-eqb, eqb-true, ne_eqb}
use Rattle.std.proofs.lemmas.Option.{slice_get-get_or}
use Rattle.std.specs.List.{insert}
use Rattle.ub_region.proofs.BlankRow.{blank_row}
use Rattle.ub_region.proofs.KeyLists.{are_ascending_of, before_or_same}
use Rattle.ub_region.specs.Rows.{has_key, insert_row}
use Rattle.ub_table.proofs.Laws.{ascending_get, before_of, before_trans, not_before_self, precedes_of}
use Rattle.ub_table.specs.Keys.{AreKeysAscending, IsBefore, is_same, precedes}
use Rattle.ub_table.specs.Region.{key_of, keys_of}
use Rattle.ub_table.specs.declared.row.Key.{Key}
use Rattle.ub_table.specs.declared.row.Row.{Row}

-- where a key of ascending keys is after this one, the later ones are
pub after_from : (key a : Key) (keys : List Key) (middle : ℕ) → AreKeysAscending keys → slice_get keys middle ≡ Some a → precedes key a ≡ true
    → (i : ℕ) (k : Key) → middle ≤ i → slice_get keys i ≡ Some k → precedes key k ≡ true
after_from key a keys middle up at before i k le is = elim (cases_eq i middle) [
  | inl e ↦
      let there : slice_get keys middle ≡ Some k = ap (slice_get keys) (sym e) ∙ is in
      let same : a ≡ k = cc in
      subst (λ (x : Key). precedes key x ≡ true) same before
  | inr ne ↦ precedes_of key k (before_trans key a k (before_of key a before) (ascending_get keys (are_ascending_of keys up) middle i (omega arith) a k at is))
]

-- and where one isn't, the earlier ones aren't
pub not_after_upto : (key a : Key) (keys : List Key) (middle : ℕ) → AreKeysAscending keys → slice_get keys middle ≡ Some a → precedes key a ≡ false
    → (i : ℕ) (k : Key) → i < middle + 1 → slice_get keys i ≡ Some k → precedes key k ≡ false
not_after_upto key a keys middle up at not_before i k lt is = elim (cases_eq i middle) [
  | inl e ↦
      let there : slice_get keys middle ≡ Some k = ap (slice_get keys) (sym e) ∙ is in
      let same : a ≡ k = cc in
      subst (λ (x : Key). precedes key x ≡ false) same not_before
  | inr ne ↦ elim (cases_Bool (precedes key k)) [
    | inl t ↦
        let past = precedes_of key a (before_trans key k a (before_of key k t) (ascending_get keys (are_ascending_of keys up) i middle (omega arith) k a is at)) in
        cc
    | inr f ↦ f
  ]
]

pub key_there : (dims : ℕ) (rows : List Row) (i : ℕ) (row : Row) → slice_get rows i ≡ Some row → slice_get (keys_of dims rows) i ≡ Some (key_of dims row)
key_there dims [] i row is = cc
key_there dims (r ∷ rows) zero row is = let same : r ≡ row = cc in ap (λ (x : Row). Some (key_of dims x)) same
key_there dims (r ∷ rows) (suc i) row is = key_there dims rows i row is

module _ (dims : ℕ) (row : Row) where
  -- a row goes in where none of the keys before is after its own, and the next one is
  pub placed : (rows : List Row) (n : ℕ) → n ≤ length rows
      → ((i : ℕ) (k : Key) → i < n → slice_get (keys_of dims rows) i ≡ Some k → precedes (key_of dims row) k ≡ false)
      → ((k : Key) → slice_get (keys_of dims rows) n ≡ Some k → precedes (key_of dims row) k ≡ true)
      → insert_row dims row rows ≡ insert rows n row
  placed [] zero le below after = refl
  placed [] (suc n) le below after = absurd (omega arith)
  placed (r ∷ rows) zero le below after = rw (after (key_of dims r) refl) refl
  placed (r ∷ rows) (suc n) le below after =
      rw (below 0 (key_of dims r) (omega arith) refl)
      (ap (λ (rs : List Row). r ∷ rs) (placed rows n (omega arith) (λ i k lt is. below (suc i) k (omega arith) is) (λ k is. after k is)))

-- ---- whether a row has the key

-- of two keys none of which is before the other
neither : (a b : Key) → precedes a b ≡ false → precedes b a ≡ false → a ≡ b
neither a b left right = elim (before_or_same a b (λ before. let t = precedes_of b a before in cc)) [
  | inl before ↦ (let t = precedes_of a b before in let wrong : true ≡ false = sym t ∙ left in cc)
  | inr same ↦ same
]

same_parts : (a b : Key) → is_same a b ≡ true → a ≡ b
same_parts a b same =
    let both = and_parts (a.z == b.z) (a.number == b.number) same in
    let z : a.z ≡ b.z = eqb-true a.z b.z both.0 in
    let number : a.number ≡ b.number = eqb-true a.number b.number both.1 in
    rw (z, number) refl

same_self : (a : Key) → is_same a a ≡ true
same_self a = rw (eq-eqb a.z a.z refl, eq-eqb a.number a.number refl) refl

other_before : (a b : Key) → IsBefore a b → is_same a b ≡ false
other_before a b before = elim (cases_Bool (is_same a b)) [
  | inl t ↦ absurd (not_before_self b (subst (λ (k : Key). IsBefore k b) (same_parts a b t) before))
  | inr f ↦ f
]

other_after : (a b : Key) → IsBefore b a → is_same a b ≡ false
other_after a b before = elim (cases_Bool (is_same a b)) [
  | inl t ↦ absurd (not_before_self b (subst (λ (k : Key). IsBefore b k) (same_parts a b t) before))
  | inr f ↦ f
]

-- no row has it where no key is it, and one has it where its key is it
none_has : (dims : ℕ) (key : Key) (rows : List Row) → ((i : ℕ) (k : Key) → slice_get (keys_of dims rows) i ≡ Some k → is_same key k ≡ false) → has_key dims key rows ≡ false
none_has dims key [] h = refl
none_has dims key (row ∷ rows) h = rw (h 0 (key_of dims row) refl) (none_has dims key rows (λ i k at. h (suc i) k at))

one_has : (dims : ℕ) (key : Key) (rows : List Row) (i : ℕ) → slice_get (keys_of dims rows) i ≡ Some key → has_key dims key rows ≡ true
one_has dims key [] i at = cc
one_has dims key (row ∷ rows) zero at = let same : key_of dims row ≡ key = cc in rw (ap (is_same key) same ∙ same_self key) refl
one_has dims key (row ∷ rows) (suc i) at = elim (cases_Bool (is_same key (key_of dims row))) [
  | inl t ↦ rw t refl
  | inr f ↦ rw f (one_has dims key rows i at)
]

module _ (dims : ℕ) (row : Row) (rows : List Row) (up : AreKeysAscending (keys_of dims rows)) (n : ℕ)
    (below : (i : ℕ) (k : Key) → i < n → slice_get (keys_of dims rows) i ≡ Some k → precedes (key_of dims row) k ≡ false)
    (above : (i : ℕ) (k : Key) → n ≤ i → slice_get (keys_of dims rows) i ≡ Some k → precedes (key_of dims row) k ≡ true) where
  -- the one before the place has it, if any
  pub place_taken : (last : Key) → 0 < n → slice_get (keys_of dims rows) (n - 1) ≡ Some last → precedes last (key_of dims row) ≡ false → has_key dims (key_of dims row) rows ≡ true
  place_taken last some at not_before =
      let not_after = below (n - 1) last (omega arith) at in
      let same : last ≡ key_of dims row = neither last (key_of dims row) not_before not_after in
      one_has dims (key_of dims row) rows (n - 1) (at ∙ ap Some same)

  pub place_free : ((last : Key) → 0 < n → slice_get (keys_of dims rows) (n - 1) ≡ Some last → precedes last (key_of dims row) ≡ true) → n ≤ length rows → has_key dims (key_of dims row) rows ≡ false
  place_free before within = none_has dims (key_of dims row) rows (λ i k at. elim (cases_lt i n) [
    | inr from ↦ other_before (key_of dims row) k (before_of (key_of dims row) k (above i k from at))
    | inl less ↦
        let last : Key = key_of dims (get_or rows (n - 1) blank_row) in
        let there : slice_get (keys_of dims rows) (n - 1) ≡ Some last = key_there dims rows (n - 1) _ (slice_get-get_or rows (n - 1) blank_row (omega arith)) in
        let is = before_of last (key_of dims row) (before last (omega arith) there) in
        other_after (key_of dims row) k (elim (cases_eq i (n - 1)) [
          | inl e ↦
              let same : last ≡ k = (let at_last : slice_get (keys_of dims rows) (n - 1) ≡ Some k = ap (slice_get (keys_of dims rows)) (sym e) ∙ at in cc) in
              subst (λ (x : Key). IsBefore x (key_of dims row)) same is
          | inr other ↦
              before_trans k last (key_of dims row) (ascending_get (keys_of dims rows) (are_ascending_of (keys_of dims rows) up) i (n - 1) (omega arith) k last at there) is
        ])
  ])

-- ---- the test of one key, by number first

and_true : (b : Bool) → (b && true) ≡ b
and_true true = refl
and_true false = refl

and_false : (b : Bool) → (b && false) ≡ false
and_false true = refl
and_false false = refl

pub same_number : (key own : Key) → key.number ≡ own.number → (key.z == own.z) ≡ is_same key own
same_number key own e = rw (eq-eqb key.number own.number e) (sym (and_true (key.z == own.z)))

pub other_number : (key own : Key) (n : ℕ) → n ≡ own.number → key.number ≢ n → (key.number == n) ≡ is_same key own
other_number key own n e ne = rw (← e, ne_eqb key.number n ne) (sym (and_false (key.z == own.z)))

pub number_of_key : (dims : ℕ) (rows : List Row) (i : ℕ) (own : Key) → slice_get (keys_of dims rows) i ≡ Some own → get_or (map (λ (row : Row). row.number) rows) i 0 ≡ own.number
number_of_key dims [] i own at = cc
number_of_key dims (row ∷ rows) zero own at = let same : key_of dims row ≡ own = cc in ap (λ (k : Key). k.number) same
number_of_key dims (row ∷ rows) (suc i) own at = number_of_key dims rows i own at
