-- The laws of a sound tree, as specs/Laws.antt states them, and what else the proofs of crates above use.
use Rattle.std.proofs.Common.{◌≡◌, ◌<◌, ◌^◌, inl, inr, ℕ, zero, suc, List, [], ◌∷◌, false, Some, None, map, drop, nat_eq, slice_get, sym, ap, subst, length, refl, arith, ◌∙◌}
use Rattle.ub_tree.proofs.Common.{AnswersAreRegionsThatMeet, AnswersAreThoseThatMeet, AnswersAscend, AnswersCover, apart_from_distinct, AreMetBy, cases_eq}
use Rattle.ub_tree.proofs.Common.{cases_lt, Corners, distinct_right, entries_in, entry_of, eq-eqb, filled_low_levels, First, first_keys, FirstFaultIsOne}
use Rattle.ub_tree.proofs.Common.{firsts_of, get_or_from_slice_get, GrownIsNotFull, IsDistinct, IsLater, IsSound, last_address, length-map, MAX_LEVEL, Meets}
use Rattle.ub_tree.proofs.Common.{NextIsLater, NextIsTheFirst, PagesDiffer, Placed, Region, RegionRows, regions, regions_in, regions_of, RegionsAreTold}
use Rattle.ub_tree.proofs.Common.{reserved, RowsLieInSpans, slice_get_within, SoundTreesAreWell, span_end, spans_of, SpansAscend, SpansCoverTheSpace, TreeView}
use Rattle.ub_tree.proofs.Common.{WellPagesAreSound}
use Rattle.ub_tree.proofs.AnswerFacts.{answers_up, next_later}
use Rattle.ub_tree.proofs.CallFacts.{last_small}
use Rattle.ub_tree.proofs.CheckFacts.{first_once}
use Rattle.ub_tree.proofs.CoverFacts.{covered}
use Rattle.ub_tree.proofs.IndexedFacts.{contained_told, first_given, sound_index, spans_told, told_contained}
use Rattle.ub_tree.proofs.WalkFacts.{answers_are_those, those_few}
use Rattle.ub_tree.proofs.WellFacts.{opened_pages, opened_sound, sound_well}
use Rattle.ub_region.proofs.Laws as lists
pub use Rattle.ub_tree.proofs.AnswerFacts.{answers_ended, answers_later, answers_there, first_more, left_after, left_less}
pub use Rattle.ub_tree.proofs.EffectFacts.{mark_then}
pub use Rattle.ub_tree.proofs.NewFacts.{new_values, numbered_row}
pub use Rattle.ub_tree.proofs.TreeFacts.{firsts_placed}
pub use Rattle.ub_tree.proofs.MeetFacts.{before, contained_at, contains_at, is_later, later_from, spans_long, take_all, those_next, those_up_to}
pub use Rattle.ub_tree.proofs.ReadFacts.{IsTraced, Keeps, Keeps-by, Keeps-more, Keeps-none, begun_traced, counted_of, given_before, read_fault_before, reads_by, reads_then, searched_fault, searched_read, told_kept, traced_gives, traced_told, tree_reads, unchanged_trace, unchanged_traced, searched_regions, searched_sound, walk_given}
pub use Rattle.ub_index.proofs.Laws.{region_first}
pub use Rattle.ub_tree.proofs.StretchParts.{parts_are_below, parts_hold, parts_lie_in}
pub use Rattle.ub_tree.proofs.StretchFacts.{all_are_within, held_key, key_held, lowest_are_regions, lowest_hold_one, parts_are_told, parts_ascend, parts_cover, parts_lie_within, some_region_meets, stretch_is_its_regions, stretch_kept, stretch_traced, stretches_begin, traced_parts, traced_stretch, whole_is_told}

-- the region of a span, with its page
record HasSpan (last i : ℕ) (placed : List Placed) (span : Region) (p : Placed) : Type 0 where
  pub at : slice_get placed i ≡ Some p
  pub region_at : slice_get (regions_in placed) i ≡ Some p.region
  pub first : p.region.first ≡ span.first
  pub page : p.page ≡ span.page
  pub from : span.from ≡ p.region.first.z
  pub to : span.to ≡ span_end last (firsts_of (drop (suc i) (regions_in placed)))

has_span : (last : ℕ) (placed : List Placed) (i : ℕ) (span : Region) → slice_get (regions_of last (map entry_of placed)) i ≡ Some span → (p : Placed) × HasSpan last i placed span p
has_span last [] i span at = cc
has_span last (p ∷ placed) zero span at =
    let whole : Region = record { first = p.region.first; next = slice_get (first_keys (map entry_of placed)) 0; from = p.region.first.z; to = span_end last (first_keys (map entry_of placed)); page = p.page } in
    let same : whole ≡ span = cc in (
      p,
      record {
        at = refl;
        region_at = refl;
        first = ap (λ (s : Region). s.first) same;
        page = ap (λ (s : Region). s.page) same;
        from = sym (ap (λ (s : Region). s.from) same);
        to = sym (ap (λ (s : Region). s.to) same) ∙ ap (span_end last) (firsts_placed placed);
      },
    )
has_span last (q ∷ placed) (suc i) span at =
    let (p, h) = has_span last placed i span at in
    (p, record { at = h.at; region_at = h.region_at; first = h.first; page = h.page; from = h.from; to = h.to })

-- the region at an index has a span
span_at : (last : ℕ) (placed : List Placed) (i : ℕ) (region : RegionRows) → slice_get (regions_in placed) i ≡ Some region → (span : Region) × (slice_get (regions_of last (map entry_of placed)) i ≡ Some span)
span_at last [] i region at = cc
span_at last (p ∷ placed) zero region at = (_, refl)
span_at last (p ∷ placed) (suc i) region at = span_at last placed i region at

pub spans_ascend : SpansAscend
spans_ascend t i j a b sound lt at_i at_j =
    let (p, one) = has_span (last_address t.schema.dims) t.placed i a at_i in
    let (q, other) = has_span (last_address t.schema.dims) t.placed j b at_j in
    let up = lists.first_keys_ascend t.schema t.next (regions t) i j p.region q.region sound.regions_are lt one.region_at other.region_at in
    rw (one.first, other.first) at up

-- different numbers stand at one index each
one_index : (ns : List ℕ) (i j n : ℕ) → IsDistinct nat_eq ns → slice_get ns i ≡ Some n → slice_get ns j ≡ Some n → i ≡ j
one_index ns i j n own at_i at_j = elim (cases_lt i j) [
  | inl lt ↦ absurd (never i j lt at_i at_j)
  | inr ge ↦ elim (cases_eq i j) [
    | inl e ↦ e
    | inr ne ↦ absurd (never j i (omega arith) at_j at_i)
  ]
]
  where
    never : (i j : ℕ) → i < j → slice_get ns i ≡ Some n → slice_get ns j ≡ Some n → ⊥
    never i j lt at_i at_j =
        let apart = apart_from_distinct nat_eq ns i j n own lt (slice_get_within ns j n at_j) in
        let one = get_or_from_slice_get ns i n n at_i in
        let other = get_or_from_slice_get ns j n n at_j in
        let same : nat_eq n n ≡ false = rw (one, other) at apart in
        let t = eq-eqb n n refl in
        cc

page_at : (placed : List Placed) (i : ℕ) (p : Placed) → slice_get placed i ≡ Some p → slice_get (map (λ p. p.page) placed) i ≡ Some p.page
page_at [] i p at = cc
page_at (q ∷ placed) zero p at = let same : q ≡ p = cc in ap (λ (x : Placed). Some x.page) same
page_at (q ∷ placed) (suc i) p at = page_at placed i p at

-- two places of one page
same_index : (t : TreeView) → IsSound t → (i j : ℕ) (p q : Placed) → slice_get t.placed i ≡ Some p → slice_get t.placed j ≡ Some q → p.page ≡ q.page → i ≡ j
same_index t sound i j p q at_i at_j same =
    let own = distinct_right (reserved t.inner.index t.store.pages) (map (λ (p : Placed). p.page) t.placed) sound.placed_are.own in
    one_index (map (λ (p : Placed). p.page) t.placed) i j p.page own (page_at t.placed i p at_i) (page_at t.placed j q at_j ∙ ap (λ (n : ℕ). Some n) (sym same))

pub pages_differ : PagesDiffer
pages_differ t i j a b sound at_i at_j same =
    let (p, one) = has_span (last_address t.schema.dims) t.placed i a at_i in
    let (q, other) = has_span (last_address t.schema.dims) t.placed j b at_j in
    same_index t sound i j p q one.at other.at (one.page ∙ same ∙ sym other.page)

pub spans_cover_the_space : SpansCoverTheSpace
spans_cover_the_space t z sound upto =
    let (i, (r, at, from, end)) = lists.each_address_has_a_span t.schema t.next (regions t) z sound.regions_are upto in
    let (span, span_is) = span_at (last_address t.schema.dims) t.placed i r at in
    let (p, one) = has_span (last_address t.schema.dims) t.placed i span span_is in
    let region_at = one.region_at in
    let same : p.region ≡ r = cc in
    let begins : span.from ≡ r.first.z = one.from ∙ ap (λ (x : RegionRows). x.first.z) same in
    let ends = one.to in
    (span, contains_at (spans_of t) i span span_is, (omega arith, omega arith))

pub rows_lie_in_spans : RowsLieInSpans
rows_lie_in_spans t span r row sound there stands has =
    let span_is = contained_at (spans_of t) span there in
    let (p, one) = has_span (last_address t.schema.dims) t.placed there.0 span span_is in
    let (q, listed, on, is) = stands in
    let index : there.0 ≡ listed.0 = same_index t sound there.0 listed.0 p q one.at (contained_at t.placed q listed) (one.page ∙ sym on) in
    let again : slice_get t.placed there.0 ≡ Some q = ap (slice_get t.placed) index ∙ contained_at t.placed q listed in
    let at_p = one.at in
    let same : p ≡ q = cc in
    let region_is : p.region ≡ r = ap (λ (x : Placed). x.region) same ∙ is in
    let at : slice_get (regions t) there.0 ≡ Some r = one.region_at ∙ ap (λ (x : RegionRows). Some x) region_is in
    let (own, own_at, from, end) = lists.rows_lie_in_their_spans t.schema t.next (regions t) there.0 r row sound.regions_are at has in
    let own_is : own ≡ r = cc in
    let begins : span.from ≡ own.first.z = one.from ∙ ap (λ (x : RegionRows). x.first.z) (region_is ∙ sym own_is) in
    let ends = one.to in
    (omega arith, omega arith)

pub regions_are_told : RegionsAreTold
regions_are_told t span sound = (λ told. told_contained t sound span told, λ there. contained_told t sound span there)

pub next_is_the_first : NextIsTheFirst
next_is_the_first t boxes after found sound gives =
    subst (λ (spans : List Region). First (λ r. IsLater after r × Meets boxes r) spans found) (spans_told t sound)
    (first_given t.inner.index t.store (sound_index t sound) boxes after found gives.given)

pub next_is_later : NextIsLater
next_is_later t boxes after span gives = next_later boxes t after span gives

pub answers_are_those_that_meet : AnswersAreThoseThatMeet
answers_are_those_that_meet t boxes answers sound are =
    answers_are_those boxes t (λ after found gives. next_is_the_first t boxes after found sound gives) (λ i j a b lt at_i at_j. spans_ascend t i j a b sound lt at_i at_j) answers are

-- a walk over a sound tree has come to no more regions than it has
pub met_few : (boxes : List Corners) (t : TreeView) (met : List Region) → IsSound t → AreMetBy boxes t met → length met < 2 ^ 32
met_few boxes t met sound are =
    let most = those_few (Meets boxes) (spans_of t) met (answers_are_those_that_meet t boxes met sound are) in
    let long = spans_long (last_address t.schema.dims) t.placed in
    let few = sound.few in
    omega arith

pub answers_are_regions_that_meet : AnswersAreRegionsThatMeet
answers_are_regions_that_meet t boxes answers are = answers_there boxes t None answers are

pub answers_ascend : AnswersAscend
answers_ascend t boxes answers i j a b are lt at_i at_j = answers_up boxes t None answers are i j a b lt at_i at_j

pub answers_cover : AnswersCover
answers_cover t boxes answers key honest are inside upto = covered boxes t honest key inside upto answers are

pub grown_is_not_full : GrownIsNotFull
grown_is_not_full t sound grown full =
    let entries = entries_in t.inner.index t.store in
    let long : length entries ≡ length t.placed = ap length sound.indexed.entries_are ∙ length-map t.placed entry_of in
    let few = sound.few in
    let low : t.inner.index.levels < MAX_LEVEL = filled_low_levels t.inner.index t.store (sound_index t sound) grown (let less : length entries < 2 ^ 32 = omega arith in less) in
    let same : t.inner.index.levels ≡ MAX_LEVEL = full.0 in
    omega arith

pub well_pages_are_sound : WellPagesAreSound
well_pages_are_sound facts t honest opened well = (opened_pages facts t honest opened well, opened_sound facts t honest opened well)

pub sound_trees_are_well : SoundTreesAreWell
sound_trees_are_well = sound_well

pub first_fault_is_one : FirstFaultIsOne
first_fault_is_one t one other last_is h k =
    first_once t (subst (λ (n : ℕ). n < 2 ^ 128) (sym last_is) (last_small t.schema.dims t.schema.counts.few_dims)) one other h k
