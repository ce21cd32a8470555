-- The three misfits of an INSERT, and which of them is the first.
use Rattle.std.proofs.Common.{◌≡◌, ◌≢◌, ◌↔◌, ◌<◌, ◌≤◌, ◌+◌, ◌⊎◌, inl, inr, Result, Ok, Err, IfErr, OnOk, ℕ, zero, suc, ℤ, Bool, true, false, IsTrue, List, [], ◌∷◌, ◌++◌, length, map, take, add-one, get_or, slice_index_or, refl, sym, ap, ◌∙◌, subst, arith}
use Rattle.std.proofs.Math.Seq.{take-suc}
use Rattle.std.proofs.lemmas.List.{length-map, map-append}
use Rattle.std.proofs.lemmas.List.Elements.{All-cons, All-from_get_or, All-get_or, All-head, All-nil, All-tail}
use Rattle.std.proofs.lemmas.List.FromFn.{get_or-enumerate_from, length-enumerate_from}
use Rattle.std.specs.List.{All, enumerate_from}
use Rattle.ub_lexer.specs.Tokens.{text_of}
use Rattle.ub_lexer.specs.declared.token.Token.{Token}
use Rattle.ub_syntax.specs.declared.syntax.Insertion.{Insertion}
use Rattle.ub_syntax.specs.declared.syntax.Value.{Value}
use Rattle.ub_parser.specs.Refusals.{IsFirst, IsUnfit, IsInsertMisfit, IsFirstInsertMisfit, miscounted, rank}
use Rattle.ub_parser.specs.Sense.{value_of, values_of}
use Rattle.ub_parser.specs.declared.fault.SqlFault.{SqlFault}
use Rattle.ub_parser.specs.declared.fault.SqlFault.TheVariants.{BadByte, Syntax, NumberTooLarge, TooDeep, TooMany, UnknownTable, UnknownColumn, NotGrouped, NotSelected, ValueCount, ValueRange, Memory}
use Rattle.ub_parser.proofs.FirstFacts.{fails, first_at, none_more, none_at_all}
use Rattle.ub_parser.proofs.GroupFacts.{no_first}
use Rattle.ub_table.specs.Value.{fits}
use Rattle.ub_table.specs.declared.schema.Schema.{Schema}

-- the first of the values after so many
begins_at : (n : ℕ) (vs : List Value) (close : Token) (v : Value) → n < length vs → ((d : Value) → v ≡ get_or vs n d) → v.first ≡ slice_index_or (map (λ x. x.first) vs) n close
begins_at n [] close v lt is = absurd (omega arith)
begins_at zero (x ∷ vs) close v lt is = ap (λ (y : Value). y.first) (is x)
begins_at (suc n) (x ∷ vs) close v lt is = begins_at n vs close v (omega arith) is

begins_past : (n : ℕ) (vs : List Value) (close : Token) → length vs ≤ n → close ≡ slice_index_or (map (λ x. x.first) vs) n close
begins_past zero [] close le = refl
begins_past (suc n) [] close le = refl
begins_past zero (x ∷ vs) close le = absurd (omega arith)
begins_past (suc n) (x ∷ vs) close le = begins_past n vs close (omega arith)

pub begins_some : (n : ℕ) (xs vs : List Value) (close : Token) (v : Value) → xs ≡ vs → n < length xs → ((d : Value) → v ≡ get_or xs n d) → v.first ≡ slice_index_or (map (λ x. x.first) vs) n close
begins_some n xs vs close v same lt is = subst (λ (ys : List Value). v.first ≡ slice_index_or (map (λ (x : Value). x.first) ys) n close) same (begins_at n xs close v lt is)

pub begins_none : (n : ℕ) (xs vs : List Value) (close : Token) → xs ≡ vs → length xs ≤ n → close ≡ slice_index_or (map (λ x. x.first) vs) n close
begins_none n xs vs close same le = subst (λ (ys : List Value). close ≡ slice_index_or (map (λ (x : Value). x.first) ys) n close) same (begins_past n xs close le)

-- the numbers of the values so far, with one more of them
pub more_values : (source : List ℕ) (vs : List Value) (k : ℕ) (xs ys : List ℤ) (x : ℤ) (d : Value) → k < length vs → xs ≡ map (λ v. value_of source v.literal) (take k vs)
    → ys ≡ xs ++ x ∷ [] → x ≡ value_of source (get_or vs k d).literal → ys ≡ map (λ v. value_of source v.literal) (take (k + 1) vs)
more_values source vs k xs ys x d lt so_far more is = rw (add-one, take-suc vs k d lt, map-append, more, so_far, is) refl

-- the element at a place, with that place before it
at_place : {A : Type 0} (xs : List A) (k : ℕ) (d : ℕ × A) → k < length xs → get_or (enumerate_from 0 xs) k d ≡ (k, get_or xs k d.1)
at_place {A = A} xs k d lt = get_or-enumerate_from 0 xs k d lt ∙ ap {B = ℕ × A} (λ n. (n, get_or xs k d.1)) (let e : 0 + k ≡ k = omega arith in e)

-- a search that goes over the values in order finds the first that its column can't hold
module _ (source : List ℕ) (schema : Schema) (vs : List Value) (k : ℕ) (d : Value) where
  here : k < length vs → get_or (enumerate_from 0 vs) k (0, d) ≡ (k, get_or vs k d)
  here lt = at_place vs k (0, d) lt

  below_all : k < length vs → k < length (enumerate_from 0 vs)
  below_all lt = let e = length-enumerate_from 0 vs in omega arith

  pub unfit_at : k < length vs → All (λ v. ¬ IsUnfit source schema v) (take k (enumerate_from 0 vs)) → IsUnfit source schema (k, get_or vs k d)
      → IsFirst (λ v. IsUnfit source schema v) (enumerate_from 0 vs) (k, get_or vs k d)
  unfit_at lt none unfit =
      let there : IsUnfit source schema (get_or (enumerate_from 0 vs) k (0, d)) = subst (λ (v : ℕ × Value). IsUnfit source schema v) (sym (here lt)) unfit in
      subst (λ (v : ℕ × Value). IsFirst (λ v. IsUnfit source schema v) (enumerate_from 0 vs) v) (here lt)
      (first_at (λ (v : ℕ × Value). IsUnfit source schema v) (enumerate_from 0 vs) k (0, d) (below_all lt) none there)

  pub fits_more : k < length vs → All (λ v. ¬ IsUnfit source schema v) (take k (enumerate_from 0 vs)) → ¬ IsUnfit source schema (k, get_or vs k d)
      → All (λ v. ¬ IsUnfit source schema v) (take (k + 1) (enumerate_from 0 vs))
  fits_more lt none fit =
      none_more (λ (v : ℕ × Value). IsUnfit source schema v) (enumerate_from 0 vs) k (0, d) (below_all lt) none
      (λ unfit. fit (subst (λ (v : ℕ × Value). IsUnfit source schema v) (here lt) unfit))

pub fits_all : (source : List ℕ) (schema : Schema) (vs : List Value) (k : ℕ) → length vs ≤ k → All (λ v. ¬ IsUnfit source schema v) (take k (enumerate_from 0 vs))
    → All (λ v. ¬ IsUnfit source schema v) (enumerate_from 0 vs)
fits_all source schema vs k le none =
    let e = length-enumerate_from 0 vs in
    none_at_all (λ (v : ℕ × Value). IsUnfit source schema v) (enumerate_from 0 vs) k (omega arith) none

module _ (source : List ℕ) (schema : Schema) (i : Insertion) where
  abbrev No : (ℕ → SqlFault) → Type 0
  No kind = (at : ℕ) → ¬ IsInsertMisfit source schema i (kind at)

  below : (n : ℕ) → (6 < n → No (λ at. UnknownTable at)) → (10 < n → No (λ at. ValueCount at)) → (11 < n → No (λ at. ValueRange at))
      → (other : SqlFault) → rank other < n → ¬ IsInsertMisfit source schema i other
  below n table count range (BadByte at) lt h = h
  below n table count range (Syntax at) lt h = h
  below n table count range (NumberTooLarge at) lt h = h
  below n table count range (TooDeep at) lt h = h
  below n table count range (TooMany at) lt h = h
  below n table count range (UnknownTable at) lt h = table lt at h
  below n table count range (UnknownColumn at) lt h = h
  below n table count range (NotGrouped at) lt h = h
  below n table count range (NotSelected at) lt h = h
  below n table count range (ValueCount at) lt h = count lt at h
  below n table count range (ValueRange at) lt h = range lt at h
  below n table count range Memory lt h = h

  -- each kind of misfit is the first where there is none of those before it
  pub first_table : text_of source i.table ≢ schema.name → IsFirstInsertMisfit source schema i (UnknownTable i.table.from)
  first_table other = ((other, refl), below 6 (λ lt. absurd (omega arith)) (λ lt. absurd (omega arith)) (λ lt. absurd (omega arith)))

  pub no_table : (r : Bool) → (IsTrue r ↔ (text_of source i.table ≢ schema.name)) → r ≡ false → No (λ at. UnknownTable at)
  no_table r tells is at h = fails r (text_of source i.table ≢ schema.name) tells is h.0

  pub no_count : length i.values ≡ length schema.columns → No (λ at. ValueCount at)
  no_count same at h = h.0 same

  pub first_range : No (λ at. UnknownTable at) → No (λ at. ValueCount at) → (column : ℕ) (v : Value)
      → IsFirst (λ x. IsUnfit source schema x) (enumerate_from 0 i.values) (column, v) → IsFirstInsertMisfit source schema i (ValueRange v.first.from)
  first_range table count column v first = (((column, v), first, refl), below 11 (λ lt. table) (λ lt. count) (λ lt. absurd (omega arith)))

  pub first_count : No (λ at. UnknownTable at) → length i.values ≢ length schema.columns → IsFirstInsertMisfit source schema i (ValueCount (miscounted schema i).from)
  first_count table other = ((other, refl), below 10 (λ lt. table) (λ lt. absurd (omega arith)) (λ lt. absurd (omega arith)))

  -- so is what a search over the values refuses
  pub refused_range : {T : Type 0} (r : Result T SqlFault) → No (λ at. UnknownTable at) → No (λ at. ValueCount at)
      → IfErr r (λ fault. (fault ≡ Memory) ⊎ ((v : ℕ × Value) × IsFirst (λ x. IsUnfit source schema x) (enumerate_from 0 i.values) v × (fault ≡ ValueRange v.1.first.from)))
      → IfErr r (λ fault. (fault ≡ Memory) ⊎ IsFirstInsertMisfit source schema i fault)
  refused_range (Ok x) table count h = tt
  refused_range (Err e) table count (inl is) = inl is
  refused_range (Err e) table count (inr (v, first, is)) =
      inr (subst (λ (fault : SqlFault). IsFirstInsertMisfit source schema i fault) (sym is) (first_range table count v.0 v.1 first))

  rank_small : (fault : SqlFault) → rank fault < 13
  rank_small (BadByte at) = omega arith
  rank_small (Syntax at) = omega arith
  rank_small (NumberTooLarge at) = omega arith
  rank_small (TooDeep at) = omega arith
  rank_small (TooMany at) = omega arith
  rank_small (UnknownTable at) = omega arith
  rank_small (UnknownColumn at) = omega arith
  rank_small (NotGrouped at) = omega arith
  rank_small (NotSelected at) = omega arith
  rank_small (ValueCount at) = omega arith
  rank_small (ValueRange at) = omega arith
  rank_small Memory = omega arith

  pub no_misfit : No (λ at. UnknownTable at) → No (λ at. ValueCount at) → All (λ v. ¬ IsUnfit source schema v) (enumerate_from 0 i.values)
      → (fault : SqlFault) → ¬ IsInsertMisfit source schema i fault
  no_misfit table count all fault =
      below 13 (λ lt. table) (λ lt. count) (λ lt at h. no_first (λ (v : ℕ × Value). IsUnfit source schema v) (enumerate_from 0 i.values) h.0 all h.1) fault (rank_small fault)

  -- what holds where the values are given
  pub where_given : {T : Type 0} (r : Result T SqlFault) (P Q : Type 0) → (P → Q) → OnOk r P → OnOk r Q
  where_given (Ok x) P Q so h = so h
  where_given (Err e) P Q so h = tt

  -- where there is none, each column can hold its value
  a_value : Value
  a_value = record { first = i.close; literal = record { is_negative = false; digits = i.close } }

  pub all_fit : length i.values ≡ length schema.columns → All (λ v. ¬ IsUnfit source schema v) (enumerate_from 0 i.values)
      → All (λ v. fits schema v.0 (value_of source v.1.literal) ≡ true) (enumerate_from 0 i.values)
  all_fit same none =
      let d : ℕ × Value = (0, a_value) in
      All-from_get_or (λ (v : ℕ × Value). fits schema v.0 (value_of source v.1.literal) ≡ true) (enumerate_from 0 i.values) d
      (λ k lt.
      let there : k < length i.values = let e = length-enumerate_from 0 i.values in omega arith in
      let v = get_or i.values k a_value in
      let at : get_or (enumerate_from 0 i.values) k d ≡ (k, v) = at_place i.values k d there in
      let no : ¬ IsUnfit source schema (k, v) =
      subst (λ (x : ℕ × Value). ¬ IsUnfit source schema x) at (All-get_or (λ (x : ℕ × Value). ¬ IsUnfit source schema x) (enumerate_from 0 i.values) k d lt none) in
      subst (λ (x : ℕ × Value). fits schema x.0 (value_of source x.1.literal) ≡ true) (sym at) (must (fits schema k (value_of source v.literal)) (λ unfit. no (omega arith, unfit))))
    where
      must : (b : Bool) → ¬ (b ≡ false) → b ≡ true
      must true h = refl
      must false h = absurd (h refl)

  -- and the numbers may be given
  all_given : All (λ v. fits schema v.0 (value_of source v.1.literal) ≡ true) (enumerate_from 0 i.values)
      → All (λ v. fits schema v.0 v.1 ≡ true) (enumerate_from 0 (values_of source i))
  all_given fit = numbered 0 i.values fit
    where
      numbered : (n : ℕ) (vs : List Value) → All (λ v. fits schema v.0 (value_of source v.1.literal) ≡ true) (enumerate_from n vs)
          → All (λ v. fits schema v.0 v.1 ≡ true) (enumerate_from n (map (λ v. value_of source v.literal) vs))
      numbered n [] h = All-nil (λ (v : ℕ × ℤ). fits schema v.0 v.1 ≡ true)
      numbered n (v ∷ vs) h =
          All-cons (λ (v : ℕ × ℤ). fits schema v.0 v.1 ≡ true) (n, value_of source v.literal) _
          (All-head (λ (x : ℕ × Value). fits schema x.0 (value_of source x.1.literal) ≡ true) (n, v) _ h)
          (numbered (n + 1) vs (All-tail (λ (x : ℕ × Value). fits schema x.0 (value_of source x.1.literal) ≡ true) (n, v) _ h))

  pub given_values : (values : List ℤ) → values ≡ values_of source i → length i.values ≡ length schema.columns
      → All (λ v. fits schema v.0 (value_of source v.1.literal) ≡ true) (enumerate_from 0 i.values)
      → (length values ≡ length schema.columns) × All (λ v. fits schema v.0 v.1 ≡ true) (enumerate_from 0 values)
  given_values values is same fit = rw (is, length-map) (same, all_given fit)
