-- The lists of cuts of all dimensions, and the points between them.
use Rattle.std.proofs.Common.{◌≡◌, ◌≤◌, ◌<◌, ◌^◌, ℕ, zero, suc, List, [], ◌∷◌, ◌++◌, Option, length, get_or, slice_index, refl, sym, ap, arith, ◌∙◌, inl, inr, All}
use Rattle.std.proofs.Math.ListN.{get_or-append}
use Rattle.std.proofs.Math.Seq.{get_or-append_seam}
use Rattle.std.proofs.lemmas.Bool.Decides.{leb_tells}
use Rattle.std.proofs.lemmas.List.{length-append, map-append}
use Rattle.ub_bigmin.specs.Box.{IsInside}
use Rattle.ub_boxes.proofs.CellFacts.{beside-inside, sides_of, AreAllCuts, IsOver, AreInOneCell, IsOfCells}
use Rattle.ub_boxes.proofs.CutFacts.{are_cuts}
use Rattle.ub_boxes.proofs.GridFacts.{is_side}
use Rattle.ub_boxes.proofs.TruthFacts.{Agree, same_cover}
use Rattle.ub_boxes.specs.Boxes.{space}
use Rattle.ub_boxes.specs.Cuts.{cuts}
use Rattle.ub_boxes.specs.Grid.{intervals, side, sides}
use Rattle.ub_boxes.specs.Truths.{covers}
use Rattle.ub_boxes.specs.declared.interval.Interval.{Interval}
use Rattle.ub_query.specs.Shape.{Shape}
use Rattle.ub_table.specs.Value.{greatest}
use Rattle.ub_table.specs.declared.schema.Schema.{Schema}
use Rattle.ub_zaddr.specs.Address.{IsPoint}

-- the cuts of each of the first dimensions
abbrev pub cut_lists : Schema → Option Shape → ℕ → List (List ℕ)
cut_lists schema filter zero = []
cut_lists schema filter (suc dim) = cut_lists schema filter dim ++ cuts schema filter dim ∷ []

pub sides_are : (schema : Schema) (filter : Option Shape) (dims : ℕ) → sides schema filter dims ≡ sides_of (cut_lists schema filter dims)
sides_are schema filter zero = refl
sides_are schema filter (suc dim) =
    ap (λ (s : List (List Interval)). s ++ side schema filter dim ∷ []) (sides_are schema filter dim)
    ∙ sym (map-append (intervals 0) (cut_lists schema filter dim) (cuts schema filter dim ∷ []))

pub length-cut_lists : (schema : Schema) (filter : Option Shape) (dims : ℕ) → length (cut_lists schema filter dims) ≡ dims
length-cut_lists schema filter zero = refl
length-cut_lists schema filter (suc dim) =
    let before = length-cut_lists schema filter dim in
    let more = length-append (cut_lists schema filter dim) (cuts schema filter dim ∷ []) in
    omega arith

one_more : (schema : Schema) (filter : Option Shape) (dim : ℕ) (css : List (List ℕ)) → AreAllCuts css → AreAllCuts (css ++ cuts schema filter dim ∷ [])
one_more schema filter dim [] h = (are_cuts schema filter dim, is_side schema filter dim, tt)
one_more schema filter dim (cs ∷ css) h = (h.0, h.1, one_more schema filter dim css h.2)

pub all_cuts : (schema : Schema) (filter : Option Shape) (dims : ℕ) → AreAllCuts (cut_lists schema filter dims)
all_cuts schema filter zero = tt
all_cuts schema filter (suc dim) = one_more schema filter dim (cut_lists schema filter dim) (all_cuts schema filter dim)

at_dim : (schema : Schema) (filter : Option Shape) (dims k : ℕ) → k < dims → get_or (cut_lists schema filter dims) k [] ≡ cuts schema filter k
at_dim schema filter zero k lt = absurd (omega arith)
at_dim schema filter (suc dim) k lt =
    let long = length-cut_lists schema filter dim in
    elim (leb_tells dim k) [
      | inl t ↦
          let le = t.1 in
          let last : k ≡ length (cut_lists schema filter dim) = omega arith in
          let here : k ≡ dim = omega arith in
          ap (λ (n : ℕ). get_or (cut_lists schema filter dim ++ cuts schema filter dim ∷ []) n []) last
          ∙ get_or-append_seam (cut_lists schema filter dim) (cuts schema filter dim) [] []
          ∙ ap (cuts schema filter) (sym here)
      | inr f ↦
          let less = f.1 in
          get_or-append (cut_lists schema filter dim) (cuts schema filter dim ∷ []) [] k (omega arith) ∙ at_dim schema filter dim k less
    ]

one_cell-at : (css : List (List ℕ)) (p q : List ℕ) (k : ℕ) → IsOver css p → IsOver css q → AreInOneCell css p q → k < length css
    → (slice_index p k ≤ greatest) × (slice_index q k ≤ greatest) × Agree (slice_index p k) (slice_index q k) (get_or css k [])
one_cell-at [] p q k a b c lt = absurd (omega arith)
one_cell-at (cs ∷ css) [] q k a b c lt = absurd a
one_cell-at (cs ∷ css) (x ∷ p) [] k a b c lt = absurd b
one_cell-at (cs ∷ css) (x ∷ p) (y ∷ q) zero a b c lt = (a.0, b.0, c.0)
one_cell-at (cs ∷ css) (x ∷ p) (y ∷ q) (suc k) a b c lt = one_cell-at css p q k a.1 b.1 c.1 (omega arith)

pub cover-of_cells : (schema : Schema) (filter : Option Shape) → IsOfCells (cut_lists schema filter schema.dims) (covers schema filter)
cover-of_cells schema filter p q a b c =
    let long = length-cut_lists schema filter schema.dims in
    same_cover schema filter p q
    (λ dim lt. rw (at_dim schema filter schema.dims dim lt) at (one_cell-at (cut_lists schema filter schema.dims) p q dim a b c (omega arith)))

pub is_over : (css : List (List ℕ)) (p : List ℕ) → length p ≡ length css → All (λ x. x < 2 ^ 32) p → IsOver css p
is_over [] [] e h = tt
is_over [] (x ∷ p) e h = absurd (omega arith)
is_over (cs ∷ css) [] e h = absurd (omega arith)
is_over (cs ∷ css) (x ∷ p) e h =
    let small : x < 2 ^ 32 = h 0 0 (omega arith) in
    (omega arith, is_over css p (omega arith) (λ k d lt. h (suc k) d (omega arith)))

nowhere-nil : IsInside (space 0) []
nowhere-nil = ((refl, λ k lt. absurd (omega arith)), (refl, λ k lt. absurd (omega arith)))

-- the space has each point
pub space_has : (dims : ℕ) (p : List ℕ) → IsPoint dims p → IsInside (space dims) p
space_has zero [] h = nowhere-nil
space_has zero (x ∷ p) h = let e = h.0 in absurd (omega arith)
space_has (suc dims) [] h = let e = h.0 in absurd (omega arith)
space_has (suc dims) (x ∷ p) h =
    let e = h.0 in
    let small : x < 2 ^ 32 = h.1 0 0 (omega arith) in
    beside-inside (record { low = 0; high = greatest }) (space dims) x p (omega arith, omega arith)
    (space_has dims p (omega arith, λ k d lt. h.1 (suc k) d (omega arith)))
