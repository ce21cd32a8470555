-- Reading the regions that meet some boxes: which one comes next, and what has been read.
use Rattle.std.proofs.Common.{◌≡◌, ◌<◌, ◌≤◌, inl, inr, ℕ, zero, suc, List, [], ◌∷◌, ◌++◌, true, Bool, Option, Some, None, length, map, take, ◌∙◌, sym, ap, refl, arith, subst, slice_get, append_assoc}
use Rattle.std.proofs.lemmas.Bool.{cases_lt, cases_eq}
use Rattle.std.proofs.lemmas.List.{map-append, append-nil, length-append}
use Rattle.std.proofs.lemmas.List.Elements.{filter-append}
use Rattle.std.proofs.lemmas.Option.{slice_get_within}
use Rattle.std.specs.List.{Contains, filter}
use Rattle.ub_bigmin.specs.Box.{Corners}
use Rattle.ub_tree.proofs.Laws.{Keeps, before, contained_at, spans_ascend, firsts_placed, is_later, later_from, spans_long, take_all, those_next, those_up_to}
use Rattle.ub_exec.specs.Visits.{MeetsIn, AreMeeting, fetches_then, HasWalked, HasTurned}
use Rattle.ub_region.specs.Those.{AreThose}
use Rattle.ub_region.proofs.Laws.{are_ascending_of}
use Rattle.ub_region.specs.Regions.{firsts_of, rows_of}
use Rattle.ub_store.specs.Facts.{raised}
use Rattle.ub_table.proofs.Laws.{before_of, not_before_self, ascending_get}
use Rattle.ub_table.specs.Keys.{IsBefore, are_ascending}
use Rattle.ub_table.specs.Region.{RegionRows}
use Rattle.ub_table.specs.declared.row.Key.{Key}
use Rattle.ub_table.specs.declared.row.Row.{Row}
use Rattle.ub_table.specs.declared.schema.Schema.{Schema}
use Rattle.ub_tree.specs.Calls.{StandsAt}
use Rattle.ub_store.specs.View.{Trace}
use Rattle.ub_tree.specs.Effects.{HasNoted}
use Rattle.ub_tree.specs.Placed.{Placed, regions_in, entry_of}
use Rattle.ub_tree.specs.Spans.{first_keys, regions_of, IsLater, Meets, First, Region}
use Rattle.ub_tree.specs.View.{TreeView, IsSound, KeepsTrace, regions, spans_in, spans_of}
use Rattle.ub_zaddr.specs.Address.{last_address}

-- the spans of regions that stand on pages, and their keys
pub span_at : (last : ℕ) (placed : List Placed) (k : ℕ) (p : Placed) → slice_get placed k ≡ Some p
    → (span : Region) × (slice_get (regions_of last (map entry_of placed)) k ≡ Some span) × (span.first ≡ p.region.first)
span_at last [] k p at = cc
span_at last (q ∷ placed) zero p at = let same : q ≡ p = cc in (_, refl, ap (λ (x : Placed). x.region.first) same)
span_at last (q ∷ placed) (suc k) p at = span_at last placed k p at

placed_at : (last : ℕ) (placed : List Placed) (k : ℕ) (span : Region) → slice_get (regions_of last (map entry_of placed)) k ≡ Some span
    → (p : Placed) × (slice_get placed k ≡ Some p) × (p.region.first ≡ span.first)
placed_at last [] k span at = cc
placed_at last (q ∷ placed) zero span at = (q, refl, cc)
placed_at last (q ∷ placed) (suc k) span at = placed_at last placed k span at

key_at : (placed : List Placed) (k : ℕ) (p : Placed) → slice_get placed k ≡ Some p → slice_get (first_keys (map entry_of placed)) k ≡ Some p.region.first
key_at [] k p at = cc
key_at (q ∷ placed) zero p at = let same : q ≡ p = cc in ap (λ (x : Placed). Some x.region.first) same
key_at (q ∷ placed) (suc k) p at = key_at placed k p at

-- the first keys of a sound tree's regions ascend
in_order : (t : TreeView) → IsSound t → (i j : ℕ) (a b : Region) → i < j → slice_get (spans_of t) i ≡ Some a → slice_get (spans_of t) j ≡ Some b → IsBefore a.first b.first
in_order t sound i j a b lt at_i at_j = spans_ascend t i j a b sound lt at_i at_j

-- the region that begins with a key stands at one place
same_place : (placed : List Placed) (k j : ℕ) (p q : Placed) → are_ascending (first_keys (map entry_of placed)) ≡ true → slice_get placed k ≡ Some p → slice_get placed j ≡ Some q
    → q.region.first ≡ p.region.first → p ≡ q
same_place placed k j p q up at_k at_j e = elim (cases_lt k j) [
  | inl lt ↦
      let apart = before_of p.region.first q.region.first (ascending_get (first_keys (map entry_of placed)) up k j lt p.region.first q.region.first (key_at placed k p at_k) (key_at placed j q at_j)) in
      absurd (not_before_self p.region.first (subst (λ (key : Key). IsBefore p.region.first key) e apart))
  | inr ge ↦ elim (cases_eq j k) [
    | inl same ↦ let again : slice_get placed k ≡ Some q = ap (slice_get placed) (sym same) ∙ at_j in cc
    | inr ne ↦
        let apart = before_of q.region.first p.region.first (ascending_get (first_keys (map entry_of placed)) up j k (omega arith) q.region.first p.region.first (key_at placed j q at_j) (key_at placed k p at_k)) in
        absurd (not_before_self p.region.first (subst (λ (key : Key). IsBefore key p.region.first) e apart))
  ]
]

pub up_of : (t : TreeView) → IsSound t → are_ascending (first_keys (map entry_of t.placed)) ≡ true
up_of t sound = ap are_ascending (firsts_placed t.placed) ∙ are_ascending_of (firsts_of (regions t)) sound.regions_are.ascending

pub same_spans : (old new : TreeView) → Keeps old new → spans_of new ≡ spans_of old
same_spans old new kept =
    ap (λ (schema : Schema). spans_in schema new.placed) kept.regions.schema ∙ ap (spans_in old.schema) kept.regions.placed

-- the span that begins with a key stands at one place
pub one_span : (t : TreeView) → IsSound t → (k : ℕ) (own span : Region) → slice_get (spans_of t) k ≡ Some own → Contains (spans_of t) span → own.first ≡ span.first → own ≡ span
one_span t sound k own span at there e =
    let span_at = contained_at (spans_of t) span there in
    elim (cases_lt k there.0) [
      | inl lt ↦ absurd (not_before_self own.first (subst (λ (key : Key). IsBefore own.first key) (sym e) (in_order t sound k there.0 own span lt at span_at)))
      | inr ge ↦ elim (cases_eq there.0 k) [
        | inl same ↦ let again : slice_get (spans_of t) k ≡ Some span = ap (slice_get (spans_of t)) (sym same) ∙ span_at in cc
        | inr ne ↦ absurd (not_before_self own.first (subst (λ (key : Key). IsBefore key own.first) (sym e) (in_order t sound there.0 k span own (omega arith) span_at at)))
      ]
    ]

-- the law of `next_meeting`: where the regions before a place were asked for, it answers the next that meets the boxes, so that
-- from the beginning on, each call given the last answer, it answers those that meet them, in order
module _ (t : TreeView) (sound : IsSound t) (boxes : List Corners) (place : ℕ) (far : place ≤ length t.placed) (visited : List Placed)
    (visits : AreThose (MeetsIn t boxes) (take place t.placed) visited) where
  long : length (spans_of t) ≡ length t.placed
  long = spans_long (last_address t.schema.dims) t.placed

  -- a region that meets the boxes, later than those asked for
  later_that_meets : (m : ℕ) (p : Placed) → place ≤ m → slice_get t.placed m ≡ Some p → MeetsIn t boxes p
      → (span : Region) × Contains (spans_of t) span × (IsLater (before place (spans_of t)) span × Meets boxes span) × (span.first ≡ p.region.first)
  later_that_meets m p from at meets =
      let (span, there, begins, some) = meets in
      let (own, own_at, own_begins) = span_at (last_address t.schema.dims) t.placed m p at in
      let later = is_later (spans_of t) (in_order t sound) place m own from own_at in
      let moved : (o : Option Region) → IsLater o own → IsLater o span = by_other own span (own_begins ∙ sym begins) in
      (span, there, (moved (before place (spans_of t)) later, some), begins)
    where
      by_other : (a b : Region) → a.first ≡ b.first → (o : Option Region) → IsLater o a → IsLater o b
      by_other a b e None h = tt
      by_other a b e (Some other) h = subst (λ (key : Key). IsBefore other.first key) e h

  pub none_left : First (λ s. IsLater (before place (spans_of t)) s × Meets boxes s) (spans_of t) None → AreMeeting boxes t visited
  none_left none =
      let all = those_up_to (MeetsIn t boxes) t.placed visited (length t.placed) place far (omega arith)
      (λ m p from below at meets. let found = later_that_meets m p from at meets in none found.0 found.1 found.2) visits in
      subst (λ (placed : List Placed). AreThose (MeetsIn t boxes) placed visited) (take_all (length t.placed) t.placed (omega arith)) all

  -- the place of the region that is answered
  pub record IsNext (span : Region) (p : Placed) (i : ℕ) : Type 0 where
    pub from : place ≤ i
    pub at : slice_get t.placed i ≡ Some p
    pub span_is : slice_get (spans_of t) i ≡ Some span
    pub those : AreThose (MeetsIn t boxes) (take (suc i) t.placed) (visited ++ p ∷ [])

  pub next_found : (span : Region) (p : Placed) → First (λ s. IsLater (before place (spans_of t)) s × Meets boxes s) (spans_of t) (Some span)
      → Contains t.placed p → p.region.first ≡ span.first → (i : ℕ) × IsNext span p i
  next_found span p first there begins =
      let i = first.0.0 in
      let at = contained_at (spans_of t) span first.0 in
      let (q, q_at, q_begins) = placed_at (last_address t.schema.dims) t.placed i span at in
      let same : q ≡ p = same_place t.placed i there.0 q p (up_of t sound) q_at (contained_at t.placed p there) (begins ∙ sym q_begins) in
      let p_at : slice_get t.placed i ≡ Some p = q_at ∙ ap (λ (x : Placed). Some x) same in
      let from = later_from (spans_of t) (in_order t sound) place i span (omega (arith, long)) at first.1.0 in
      let meets : MeetsIn t boxes p = (span, first.0, sym begins, first.1.1) in (
        i,
        record {
          from = from;
          at = p_at;
          span_is = at;
          those = those_next (MeetsIn t boxes) t.placed visited i place p from p_at meets
              (λ m x after below m_at meets.
              let found = later_that_meets m x after m_at meets in
              let own = span_at (last_address t.schema.dims) t.placed m x m_at in
              let ahead = in_order t sound m i own.0 span below own.1 at in
              first.2 found.0 found.1 found.2 (subst (λ (key : Key). IsBefore key span.first) (own.2 ∙ sym found.3) ahead)) visits;
        },
      )

-- so far as a walk has come: the regions before a place that meet the boxes have been read
pub record HasCome (boxes : List Corners) (start now : TreeView) (rows : List Row) (after : Option Region) : Type 0 where
  pub place : ℕ
  pub visited : List Placed
  pub far : place ≤ length start.placed
  pub after_is : after ≡ before place (spans_of start)
  pub visits : AreThose (MeetsIn start boxes) (take place start.placed) visited
  pub rows_are : rows ≡ rows_of (regions_in visited)
  pub trace_is : now.trace.pages ≡ start.trace.pages ++ map (λ p. p.page) visited
  pub fetches_are : now.trace.fetches ≡ fetches_then start.trace.fetches (length visited)

pub HasCome-none : (boxes : List Corners) (t : TreeView) → HasCome boxes t t [] None
HasCome-none boxes t = record {
  place = 0;
  visited = [];
  far = omega arith;
  after_is = refl;
  visits = refl;
  rows_are = refl;
  trace_is = sym (append-nil t.trace.pages);
  fetches_are = refl;
}

rows_more : (placed : List Placed) (p : Placed) → rows_of (regions_in (placed ++ p ∷ [])) ≡ rows_of (regions_in placed) ++ p.region.rows
rows_more [] p = append-nil p.region.rows
rows_more (q ∷ placed) p = ap (λ (rows : List Row). q.region.rows ++ rows) (rows_more placed p) ∙ sym (append_assoc q.region.rows (rows_of (regions_in placed)) p.region.rows)

fetched_next : (fetches n : ℕ) → raised (fetches_then fetches n) 1 ≡ fetches_then fetches (suc n)
fetched_next fetches zero = refl
fetched_next fetches (suc n) = omega arith

module _ (boxes : List Corners) (start now new : TreeView) (sound : IsSound start) (kept : Keeps start now) (after : Option Region) (rows more : List Row) (come : HasCome boxes start now rows after) where
  first_is : (found : Option Region) → First (λ s. IsLater after s × Meets boxes s) (spans_of now) found
      → First (λ s. IsLater (before come.place (spans_of start)) s × Meets boxes s) (spans_of start) found
  first_is found first =
      subst (λ (o : Option Region). First (λ s. IsLater o s × Meets boxes s) (spans_of start) found) come.after_is
      (subst (λ (spans : List Region). First (λ s. IsLater after s × Meets boxes s) spans found) (same_spans start now kept) first)

  pub ended : HasTurned boxes after now new None more → HasWalked boxes start new (rows ++ more)
  ended (first, untraced, none) = record {
    visited = come.visited;
    visits = none_left start sound boxes come.place come.far come.visited come.visits (first_is None first);
    rows_are = ap (λ (rs : List Row). rows ++ rs) none ∙ append-nil rows ∙ come.rows_are;
    trace_is = ap (λ (t : Trace). t.pages) untraced ∙ come.trace_is;
    fetches_are = ap (λ (t : Trace). t.fetches) untraced ∙ come.fetches_are;
  }

  pub turned : (span : Region) → HasTurned boxes after now new (Some span) more → HasCome boxes start new (rows ++ more) (Some span)
  turned span (first, visit) =
      let p = visit.region in
      let there : Contains start.placed p = subst (λ (placed : List Placed). Contains placed p) kept.regions.placed visit.there in
      let (i, next) = next_found start sound boxes come.place come.far come.visited come.visits span p (first_is (Some span) first) there visit.begins in
      let from = next.from in
      let within = slice_get_within start.placed i p next.at in
      record {
        place = suc i;
        visited = come.visited ++ p ∷ [];
        far = omega arith;
        after_is = sym next.span_is;
        visits = next.those;
        rows_are = ap (λ (rs : List Row). rows ++ rs) visit.rows_are ∙ ap (λ (rs : List Row). rs ++ p.region.rows) come.rows_are ∙ sym (rows_more come.visited p);
        trace_is = visit.noted.pages_are ∙ ap (λ (trace : List ℕ). trace ++ p.page ∷ []) come.trace_is ∙ append_assoc start.trace.pages (map (λ p. p.page) come.visited) (p.page ∷ [])
            ∙ ap (λ (pages : List ℕ). start.trace.pages ++ pages) (sym (map-append (λ (x : Placed). x.page) come.visited (p ∷ [])));
        fetches_are = visit.noted.fetches_are ∙ ap (λ (f : ℕ). raised f 1) come.fetches_are ∙ fetched_next start.trace.fetches (length come.visited)
            ∙ ap (fetches_then start.trace.fetches) (one_more come.visited p);
      }
    where
      one_more : (placed : List Placed) (p : Placed) → suc (length placed) ≡ length (placed ++ p ∷ [])
      one_more placed p = omega (arith, length-append placed (p ∷ []))

  -- the same, whatever a turn answers
  pub ended_by : (found copied : Option Region) → copied ≡ after → ((span : Region) → found ≡ Some span → ⊥) → HasTurned boxes copied now new found more → HasWalked boxes start new (rows ++ more)
  ended_by None copied same none turn = ended (subst (λ (o : Option Region). HasTurned boxes o now new None more) same turn)
  ended_by (Some span) copied same none turn = absurd (none span refl)

  pub turned_to : (span : Region) (copied : Option Region) → copied ≡ after → HasTurned boxes copied now new (Some span) more → HasCome boxes start new (rows ++ more) (Some span)
  turned_to span copied same turn = turned span (subst (λ (o : Option Region). HasTurned boxes o now new (Some span) more) same turn)

-- a turn that read the region that was found
pub visited_by : (t mid new : TreeView) (boxes : List Corners) (after : Option Region) (span : Region) (region : RegionRows) (rows : List Row) → IsSound t
    → First (λ s. IsLater after s × Meets boxes s) (spans_of t) (Some span) → Keeps t mid → KeepsTrace t mid
    → (IsSound mid → Contains (spans_of mid) span → StandsAt mid.placed span.page region) → region.first ≡ span.first → HasNoted span.page mid new → rows ≡ region.rows
    → HasTurned boxes after t new (Some span) rows
visited_by t mid new boxes after span region rows sound first kept untraced stands begins noted rows_are =
    let (p, there, page, is) = stands (kept.sound sound) (subst (λ (spans : List Region). Contains spans span) (sym (same_spans t mid kept)) first.0) in (
      first,
      record {
        region = p;
        there = subst (λ (placed : List Placed). Contains placed p) kept.regions.placed there;
        begins = ap (λ (r : RegionRows). r.first) is ∙ begins;
        noted = record {
          pages_are = noted.pages_are ∙ ap (λ (trace : Trace). trace.pages ++ span.page ∷ []) untraced ∙ ap (λ (n : ℕ). t.trace.pages ++ n ∷ []) (sym page);
          fetches_are = noted.fetches_are ∙ ap (λ (trace : Trace). raised trace.fetches 1) untraced;
          room = subst (λ (trace : Trace). trace.capacity ≤ new.trace.capacity) untraced noted.room;
        };
        rows_are = rows_are ∙ ap (λ (r : RegionRows). r.rows) (sym is);
      },
    )

-- rows handed over after others
pub handed_more : (f : Row → Bool) (taken rows more : List Row) → (taken ++ filter f rows) ++ filter f more ≡ taken ++ filter f (rows ++ more)
handed_more f taken rows more = append_assoc taken (filter f rows) (filter f more) ∙ ap (λ (rs : List Row). taken ++ rs) (sym (filter-append f rows more))

-- the first region behind one, as the boxes that are seen and what is found are named otherwise
pub first_found : (t : TreeView) (seen boxes : List Corners) (after found next : Option Region) → seen ≡ boxes → found ≡ next
    → First (λ r. IsLater after r × Meets seen r) (spans_of t) found → First (λ r. IsLater after r × Meets boxes r) (spans_of t) next
first_found t seen boxes after found next same is first =
    subst (λ (bs : List Corners). First (λ r. IsLater after r × Meets bs r) (spans_of t) next) same
    (subst (λ (f : Option Region). First (λ r. IsLater after r × Meets seen r) (spans_of t) f) is first)
