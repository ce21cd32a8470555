-- The regions of a tree that meet some boxes are the visits of a plan with these boxes.
use Rattle.std.proofs.Common.{◌≡◌, inl, inr, ℕ, zero, suc, List, [], ◌∷◌, ◌↔◌, Some, Contains, length, map, ◌∙◌, sym, ap, refl, arith, subst, slice_get}
use Rattle.std.specs.List.{AllByRecursion}
use Rattle.ub_bigmin.specs.Box.{Corners}
use Rattle.ub_exec.proofs.WalkFacts.{one_span}
use Rattle.ub_tree.proofs.Laws.{contains_at, firsts_placed}
use Rattle.ub_exec.specs.Visits.{MeetsIn, AreMeeting}
use Rattle.ub_planning.proofs.Laws.{meeting_of}
use Rattle.ub_planning.specs.Visits as plan
use Rattle.ub_planning.specs.Visits.{spans_up_to}
use Rattle.ub_region.specs.Those.{AreThose}
use Rattle.ub_query.proofs.Laws.{all_weaker, contains_here, contains_later}
use Rattle.ub_region.specs.Regions.{firsts_of}
use Rattle.ub_region.specs.Spans.{span_end}
use Rattle.ub_tree.specs.Placed.{Placed, regions_in, entry_of}
use Rattle.ub_tree.specs.Spans.{Meets, regions_of, Region}
use Rattle.ub_tree.specs.View.{TreeView, IsSound, regions, spans_of}
use Rattle.ub_zaddr.specs.Address.{last_address}

pub those_among : {X : Type 0} (P : X → Type 0) (xs those : List X) → AreThose P xs those → AllByRecursion (Contains xs) those
those_among P [] those are = rw are tt
those_among P (x ∷ xs) those (inl are) =
    let (p, rest, is, more) = are in
    rw is (contains_here x xs, all_weaker (Contains xs) (Contains (x ∷ xs)) (λ y here. contains_later x xs y here) rest (those_among P xs rest more))
those_among P (x ∷ xs) those (inr are) =
    all_weaker (Contains xs) (Contains (x ∷ xs)) (λ y here. contains_later x xs y here) those (those_among P xs those are.1)

-- of two lists in step, those of the one whose entries have a property are in step with those of the other
module _ {X Y Z : Type 0} (P : X → Type 0) (Q : Y → Type 0) (f : X → Z) (g : Y → Z) where
  pub in_step : (xs : List X) (ys : List Y) (those : List X) → length xs ≡ length ys
      → ((k : ℕ) (x : X) (y : Y) → slice_get xs k ≡ Some x → slice_get ys k ≡ Some y → (P x ↔ Q y) × (f x ≡ g y))
      → AreThose P xs those → (others : List Y) × AreThose Q ys others × (map g others ≡ map f those)
  in_step [] [] those long alike are = ([], refl, rw are refl)
  in_step [] (y ∷ ys) those long alike are = cc
  in_step (x ∷ xs) [] those long alike are = cc
  in_step (x ∷ xs) (y ∷ ys) those long alike (inl are) =
      let (p, rest, is, more) = are in
      let first = alike 0 x y refl refl in
      let (others, they, same) = in_step xs ys rest (omega arith) (λ k a b. alike (suc k) a b) more in
      (y ∷ others, inl (first.0.0 p, others, refl, they), ap (λ (zs : List Z). g y ∷ zs) same ∙ ap (λ (z : Z). z ∷ map f rest) (sym first.1) ∙ ap (map f) (sym is))
  in_step (x ∷ xs) (y ∷ ys) those long alike (inr are) =
      let first = alike 0 x y refl refl in
      let (others, they, same) = in_step xs ys those (omega arith) (λ k a b. alike (suc k) a b) are.1 in
      (others, inr (λ q. are.0 (first.0.1 q), they), same)

spans_long : (last : ℕ) (placed : List Placed) → length placed ≡ length (spans_up_to last (regions_in placed))
spans_long last [] = refl
spans_long last (p ∷ placed) = ap suc (spans_long last placed)

-- the span of a tree's region is that of the region in the list
span_is : (last : ℕ) (placed : List Placed) (k : ℕ) (p : Placed) (span : plan.Span) → slice_get placed k ≡ Some p → slice_get (spans_up_to last (regions_in placed)) k ≡ Some span
    → (own : Region) × (slice_get (regions_of last (map entry_of placed)) k ≡ Some own) × (own.first ≡ p.region.first) × (own.from ≡ span.from) × (own.to ≡ span.to) × (p.region ≡ span.region)
span_is last [] k p span at there = cc
span_is last (q ∷ placed) zero p span at there =
    let same : q ≡ p = cc in
    let is : record { region = q.region; from = q.region.first.z; to = span_end last (firsts_of (regions_in placed)) } ≡ span = cc in (
      _,
      refl,
      ap (λ (x : Placed). x.region.first) same,
      ap (λ (s : plan.Span). s.from) is,
      ap (span_end last) (firsts_placed placed) ∙ ap (λ (s : plan.Span). s.to) is,
      ap (λ (x : Placed). x.region) (sym same) ∙ ap (λ (s : plan.Span). s.region) is,
    )
span_is last (q ∷ placed) (suc k) p span at there = span_is last placed k p span at there

-- the span of a tree's region, and that of the region in the list, meet the boxes alike
alike : (t : TreeView) → IsSound t → (boxes : List Corners) (k : ℕ) (p : Placed) (span : plan.Span) → slice_get t.placed k ≡ Some p
    → slice_get (plan.spans_of t.schema (regions t)) k ≡ Some span → (MeetsIn t boxes p ↔ plan.Meets boxes span.from span.to) × (p.region ≡ span.region)
alike t sound boxes k p span at there =
    let (own, own_at, begins, from, to, region) = span_is (last_address t.schema.dims) t.placed k p span at there in (
      (
        λ meets. let same = one_span t sound k own meets.0 own_at meets.1 (begins ∙ sym meets.2) in
            rw (from, to) at (subst (λ (s : Region). Meets boxes s) (sym same) meets.3),
        λ meets. (own, contains_at (spans_of t) k own own_at, begins, rw (from, to) meets),
      ),
      region,
    )

-- some of the tree's regions meet the boxes
pub meeting_there : (t : TreeView) → IsSound t → (boxes : List Corners) → (visited : List Placed) × AreMeeting boxes t visited
meeting_there t sound boxes =
    let (meeting, are) = meeting_of t.schema boxes (regions t) in
    let (visited, those, same) = in_step (λ span. plan.Meets boxes span.from span.to) (MeetsIn t boxes) (λ s. s.region) (λ p. p.region) (plan.spans_of t.schema (regions t)) t.placed meeting
    (sym (spans_long (last_address t.schema.dims) t.placed))
    (λ k span p there at. let (both, region) = alike t sound boxes k p span at there in ((both.1, both.0), sym region)) are in
    (visited, those)

pub visits_of : (t : TreeView) (sound : IsSound t) (boxes : List Corners) (visited : List Placed) → AreMeeting boxes t visited
    → (visits : List plan.Span) × AreThose (λ span. plan.Meets boxes span.from span.to) (plan.spans_of t.schema (regions t)) visits × (map (λ s. s.region) visits ≡ regions_in visited)
visits_of t sound boxes visited are =
    in_step (MeetsIn t boxes) (λ span. plan.Meets boxes span.from span.to) (λ p. p.region) (λ s. s.region) t.placed (plan.spans_of t.schema (regions t)) visited
    (spans_long (last_address t.schema.dims) t.placed)
    (λ k p span at there. alike t sound boxes k p span at there)
    are
