-- How the lines of a result grow, a cell and a row at a time.
use Rattle.std.proofs.Common.{◌≡◌, ◌<◌, ◌+◌, ◌==◌, ℕ, zero, suc, List, [], ◌∷◌, ◌++◌, length, take, map, Some, Bool, true, false, if◌then◌else◌, slice_get, slice_index_or, refl, sym, ap, ◌∙◌, append_assoc, add-one, arith}
use Rattle.std.proofs.lemmas.Bool.{eqb-true}
use Rattle.std.proofs.lemmas.List.{flat_map_more, take_all}
use Rattle.std.proofs.lemmas.Option.{slice_get-map}
use Rattle.std.specs.List.{flat_map, join_with_byte}
use Rattle.std.specs.Option.{option_map}
use Rattle.ub_query.specs.declared.cell.Cell.{Cell}
use Rattle.ub_script.specs.Text.{comma_line, row_line}

-- a piece after others, which a byte parts from them
join_after : (c : ℕ) (xs : List (List ℕ)) (i : ℕ) (x : List ℕ) → slice_get xs (suc i) ≡ Some x
    → join_with_byte c (take (suc (suc i)) xs) ≡ join_with_byte c (take (suc i) xs) ++ (c ∷ x)
join_after c [] i x h = cc
join_after c (y ∷ []) i x h = cc
join_after c (y ∷ z ∷ zs) zero x h = let same : z ≡ x = cc in rw same refl
join_after c (y ∷ z ∷ zs) (suc j) x h =
    ap (λ (s : List ℕ). y ++ (c ∷ s)) (join_after c (z ∷ zs) j x h) ∙ sym (append_assoc y (c ∷ join_with_byte c (take (suc j) (z ∷ zs))) (c ∷ x))

-- one more piece of a line, which a byte parts from those before it
pub join_next : (c : ℕ) (xs : List (List ℕ)) (i : ℕ) (x : List ℕ) (first : Bool) → (i == 0) ≡ first → slice_get xs i ≡ Some x
    → join_with_byte c (take (suc i) xs) ≡ join_with_byte c (take i xs) ++ ((if first then [] else c ∷ []) ++ x)
join_next c [] zero x true e h = cc
join_next c (y ∷ ys) zero x true e h = let same : y ≡ x = cc in same
join_next c xs zero x false e h = cc
join_next c xs (suc i) x true e h = absurd (let no : suc i ≡ 0 = eqb-true (suc i) 0 e in omega arith)
join_next c xs (suc i) x false e h = join_after c xs i x h

-- what is made of an item that is there
pub made_at : {X : Type 0} (f : X → List ℕ) (xs : List X) (i : ℕ) (d : X) → i < length xs → slice_get (map f xs) i ≡ Some (f (slice_index_or xs i d))
made_at f [] i d h = absurd (omega arith)
made_at f (x ∷ xs) zero d h = refl
made_at f (x ∷ xs) (suc i) d h = made_at f xs i d (omega arith)

pub made_of : {X : Type 0} (f : X → List ℕ) (xs : List X) (i : ℕ) (x : X) → slice_get xs i ≡ Some x → slice_get (map f xs) i ≡ Some (f x)
made_of f xs i x h = slice_get-map f xs i ∙ ap (option_map f) h

-- a line with one more piece, after the text before it
pub line_next : (before text next : List ℕ) (xs : List (List ℕ)) (i : ℕ) (piece more : List ℕ) (first : Bool)
    → text ≡ before ++ join_with_byte 44 (take i xs) → next ≡ text ++ (if first then [] else 44 ∷ []) → more ≡ next ++ piece
    → (i == 0) ≡ first → slice_get xs i ≡ Some piece
    → more ≡ before ++ join_with_byte 44 (take (i + 1) xs)
line_next before text next xs i piece more first is parted grown e h =
    rw (grown, parted, is, add-one, join_next 44 xs i piece first e h)
    (append_assoc (before ++ join_with_byte 44 (take i xs)) (if first then [] else 44 ∷ []) piece
    ∙ append_assoc before (join_with_byte 44 (take i xs)) ((if first then [] else 44 ∷ []) ++ piece))

-- a line to its end
pub line_end : (before text more : List ℕ) (xs : List (List ℕ)) (i : ℕ) → i ≡ length xs → text ≡ before ++ join_with_byte 44 (take i xs) → more ≡ text ++ 10 ∷ []
    → more ≡ before ++ comma_line xs
line_end before text more xs i all is grown =
    let whole : take i xs ≡ xs = take_all i xs (omega (arith, all)) in
    grown ∙ ap (λ (s : List ℕ). s ++ 10 ∷ []) (is ∙ ap (λ (ys : List (List ℕ)). before ++ join_with_byte 44 ys) whole)
    ∙ append_assoc before (join_with_byte 44 xs) (10 ∷ [])

take_get : {X : Type 0} (xs : List X) (i : ℕ) (x : X) → slice_get xs i ≡ Some x → take (suc i) xs ≡ take i xs ++ x ∷ []
take_get [] i x h = cc
take_get (y ∷ ys) zero x h = let same : y ≡ x = cc in rw same refl
take_get (y ∷ ys) (suc i) x h = ap (λ (t : List _). y ∷ t) (take_get ys i x h)

-- one more row's line
pub rows_next : (before text more : List ℕ) (rows : List (List Cell)) (i : ℕ) (row : List Cell) → text ≡ before ++ flat_map row_line (take i rows)
    → slice_get rows i ≡ Some row → more ≡ text ++ row_line row → more ≡ before ++ flat_map row_line (take (i + 1) rows)
rows_next before text more rows i row is h grown = rw (grown, is, add-one, take_get rows i row h) (flat_map_more row_line before (take i rows) row)
