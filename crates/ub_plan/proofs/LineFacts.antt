-- How the line of a box grows, a dimension at a time.
use Rattle.std.proofs.Common.{◌≡◌, ◌<◌, ◌≤◌, ◌+◌, ◌^◌, ◌==◌, min, ℕ, zero, suc, List, [], ◌∷◌, ◌++◌, length, take, inl, inr, Option, Some, None, Result, Ok, Err, OnOk, Bool, true, false, if◌then◌else◌, slice_get, slice_index, codes, decimal, refl, sym, ap, ◌∙◌, append_assoc, add-one, arith}
use Rattle.std.proofs.lemmas.Bool.{cases_lt, eqb-true}
use Rattle.std.proofs.lemmas.List.{append-nil, flat_map_more}
use Rattle.std.specs.Fmt.{digits}
use Rattle.std.specs.List.{flat_map, join_by}
use Rattle.std.specs.Option.{SomeIff}
use Rattle.std.specs.Result.{is_ok}
use Rattle.ub_plan.specs.Explained.{side_text, sides}
use Rattle.ub_table.specs.Value.{value}
use Rattle.ub_table.specs.declared.schema.Schema.{Schema}

take_get : {X : Type 0} (xs : List X) (i : ℕ) (x : X) → slice_get xs i ≡ Some x → take (suc i) xs ≡ take i xs ++ x ∷ []
take_get [] i x h = cc
take_get (y ∷ ys) zero x h = let same : y ≡ x = cc in rw same refl
take_get (y ∷ ys) (suc i) x h = ap (λ (t : List _). y ∷ t) (take_get ys i x h)

-- one more piece after others
join_next : (gap : List ℕ) (xs : List (List ℕ)) (i : ℕ) (x : List ℕ) (first : Bool) → (i == 0) ≡ first → slice_get xs i ≡ Some x
    → join_by (λ s. s) gap (take (suc i) xs) ≡ join_by (λ s. s) gap (take i xs) ++ ((if first then [] else gap) ++ x)
join_next gap [] i x first e h = cc
join_next gap (y ∷ ys) zero x true e h = let same : y ≡ x = cc in append-nil y ∙ same
join_next gap (y ∷ ys) zero x false e h = cc
join_next gap (y ∷ ys) (suc i) x true e h = absurd (let no : suc i ≡ 0 = eqb-true (suc i) 0 e in omega arith)
join_next gap (y ∷ ys) (suc i) x false e h =
    ap (λ (t : List (List ℕ)). y ++ flat_map (λ s. gap ++ s) t) (take_get ys i x h) ∙ sym (flat_map_more (λ s. gap ++ s) y (take i ys) x)

-- the side of the i-th dimension from d on, which is dimension k
side_at : (schema : Schema) (d k : ℕ) (names : List (List ℕ)) (lo hi : List ℕ) (i : ℕ) (name : List ℕ) → d + i ≡ k → slice_get names i ≡ Some name → i < length lo
    → i < length hi → slice_get (sides schema d names lo hi) i ≡ Some (side_text name (value schema k (slice_index lo i)) (value schema k (slice_index hi i)))
side_at schema d k [] lo hi i name is at b c = cc
side_at schema d k (n ∷ names) [] hi i name is at b c = absurd (omega arith)
side_at schema d k (n ∷ names) (low ∷ lo) [] i name is at b c = absurd (omega arith)
side_at schema d k (n ∷ names) (low ∷ lo) (high ∷ hi) zero name is at b c =
    let same : n ≡ name = cc in
    let here : d ≡ k = omega arith in
    rw (same, here) refl
side_at schema d k (n ∷ names) (low ∷ lo) (high ∷ hi) (suc i) name is at b c =
    side_at schema (d + 1) k names lo hi i name (omega arith) at (omega arith) (omega arith)

-- one more dimension
pub side_next : (schema : Schema) (before text next more : List ℕ) (names : List (List ℕ)) (lo hi : List ℕ) (i : ℕ) (first : Bool) (name : List ℕ)
    → text ≡ before ++ join_by (λ s. s) (codes ", ") (take i (sides schema 0 names lo hi)) → next ≡ text ++ (if first then [] else codes ", ")
    → more ≡ next ++ side_text name (value schema i (slice_index lo i)) (value schema i (slice_index hi i)) → (i == 0) ≡ first
    → slice_get names i ≡ Some name → i < length lo → i < length hi
    → more ≡ before ++ join_by (λ s. s) (codes ", ") (take (i + 1) (sides schema 0 names lo hi))
side_next schema before text next more names lo hi i first name is parted grown e at b c =
    let piece = side_text name (value schema i (slice_index lo i)) (value schema i (slice_index hi i)) in
    rw (grown, parted, is, add-one, join_next (codes ", ") (sides schema 0 names lo hi) i piece first e (side_at schema 0 i names lo hi i name (omega arith) at b c))
    (append_assoc (before ++ join_by (λ s. s) (codes ", ") (take i (sides schema 0 names lo hi))) (if first then [] else codes ", ") piece
    ∙ append_assoc before (join_by (λ s. s) (codes ", ") (take i (sides schema 0 names lo hi))) ((if first then [] else codes ", ") ++ piece))

-- those were all dimensions
pub sides_all : (schema : Schema) (d : ℕ) (names : List (List ℕ)) (lo hi : List ℕ) (n : ℕ) → min (min (length names) (length lo)) (length hi) ≤ n
    → take n (sides schema d names lo hi) ≡ sides schema d names lo hi
sides_all schema d [] lo hi zero h = refl
sides_all schema d [] lo hi (suc n) h = refl
sides_all schema d (name ∷ names) [] hi zero h = refl
sides_all schema d (name ∷ names) [] hi (suc n) h = refl
sides_all schema d (name ∷ names) (low ∷ lo) [] zero h = refl
sides_all schema d (name ∷ names) (low ∷ lo) [] (suc n) h = refl
sides_all schema d (name ∷ names) (low ∷ lo) (high ∷ hi) zero h = absurd (omega arith)
sides_all schema d (name ∷ names) (low ∷ lo) (high ∷ hi) (suc n) h =
    ap (λ (t : List (List ℕ)). side_text name (value schema d low) (value schema d high) ∷ t) (sides_all schema (d + 1) names lo hi n (omega arith))

-- one more line
pub lines_next : {X : Type 0} (f : X → List ℕ) (before text more : List ℕ) (xs : List X) (i : ℕ) (x : X) → text ≡ before ++ flat_map f (take i xs)
    → slice_get xs i ≡ Some x → more ≡ text ++ f x → more ≡ before ++ flat_map f (take (i + 1) xs)
lines_next f before text more xs i x is h grown = rw (grown, is, add-one, take_get xs i x h) (flat_map_more f before (take i xs) x)

pub most_text : (n : ℕ) → n ≡ 2 ^ 128 → decimal n ≡ codes "340282366920938463463374607431768211456"
unfolding digits
most_text n is = rw is refl

-- where no number is told, it is the greatest
pub none_below : (n : ℕ) (o : Option ℕ) → n ≤ 2 ^ 128 → o ≡ None → SomeIff o (n < 2 ^ 128) n → n ≡ 2 ^ 128
none_below n None most e is = elim (cases_lt n (2 ^ 128)) [
  | inl lt ↦ absurd (is lt)
  | inr ge ↦ omega arith
]
none_below n (Some m) most e is = cc

-- bytes that stand after a text where they could be put
pub put_on : {T E : Type 0} (r : Result T E) (new old both bytes : List ℕ) → new ≡ (if is_ok r then both else old) → both ≡ bytes → OnOk r (new ≡ bytes)
put_on (Ok x) new old both bytes is e = is ∙ e
put_on (Err x) new old both bytes is e = tt
