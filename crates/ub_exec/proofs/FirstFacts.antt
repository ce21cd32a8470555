-- Carrying out that was ended by a fault has fetched the first of the visits.
use Rattle.std.proofs.Common.{◌≡◌, ◌∙◌, ◌⊎◌, inl, inr, ℕ, zero, suc, List, [], ◌∷◌, ◌++◌, Option, Some, Result, Ok, Err, Contains, length, map, take, refl, sym, ap, subst, arith}
use Rattle.std.proofs.lemmas.List.{append-nil, length-append, length-map}
use Rattle.std.specs.List.{AllByRecursion}
use Rattle.std.specs.Prelude.{OnErr}
use Rattle.ub_bigmin.specs.Box.{Corners}
use Rattle.ub_tree.proofs.Laws.{Keeps}
use Rattle.ub_exec.proofs.MeantFacts.{scan_visits}
use Rattle.ub_exec.proofs.VisitFacts.{meeting_there, those_among, visits_of}
use Rattle.ub_exec.proofs.WalkFacts.{HasCome, turned_to, visited_by}
use Rattle.ub_exec.specs.Answers.{IsReady, IsSwept, begun}
use Rattle.ub_exec.specs.Visits.{AreMeeting, HasFetched, HasFetchedFirst, HasTurnedSome, HasWalkedFirst, MeetsIn, fetches_then}
use Rattle.ub_planning.proofs.Laws.{plans_have_visits}
use Rattle.ub_planning.specs.Plan.{PlanView}
use Rattle.ub_planning.specs.Visits as plan
use Rattle.ub_planning.specs.Visits.{AreSweepVisits, AreVisits, AreVisitsBy, Event}
use Rattle.ub_region.specs.Those.{AreThose}
use Rattle.ub_table.specs.Region.{RegionRows}
use Rattle.ub_table.specs.declared.row.Row.{Row}
use Rattle.ub_tetris.proofs.Laws.{placed_of}
use Rattle.ub_tetris.specs.Machine.{regions_at}
use Rattle.ub_tetris.specs.Sweep.{AreNoted}
use Rattle.ub_tree.specs.Placed.{Placed}
use Rattle.ub_store.specs.View.{Trace}
use Rattle.ub_tree.specs.Effects.{HasNoted}
use Rattle.ub_tree.specs.Spans.{First, IsLater, Meets, Region}
use Rattle.ub_tree.specs.View.{TreeView, IsSound, KeepsTrace, regions, spans_of}

pub on_err : {T E : Type 0} (r : Result T E) (P : Type 0) → P → OnErr r P
on_err (Ok x) P p = tt
on_err (Err e) P p = p

pub weaker_err : {T E : Type 0} (r : Result T E) (P Q : Type 0) → (P → Q) → OnErr r P → OnErr r Q
weaker_err (Ok x) P Q f p = tt
weaker_err (Err e) P Q f p = f p

-- ---- parts of lists

first_part : {E : Type 0} (xs ys : List E) → take (length xs) (xs ++ ys) ≡ xs
first_part [] [] = refl
first_part [] (y ∷ ys) = refl
first_part (x ∷ xs) ys = ap (λ (zs : List _). x ∷ zs) (first_part xs ys)

first_mapped : {A B : Type 0} (f : A → B) (n : ℕ) (xs : List A) → take n (map f xs) ≡ map f (take n xs)
first_mapped f zero [] = refl
first_mapped f zero (x ∷ xs) = refl
first_mapped f (suc n) [] = refl
first_mapped f (suc n) (x ∷ xs) = ap (λ (ys : List _). f x ∷ ys) (first_mapped f n xs)

all_left : {E : Type 0} (P : E → Type 0) (xs ys : List E) → AllByRecursion P (xs ++ ys) → AllByRecursion P xs
all_left P [] ys all = tt
all_left P (x ∷ xs) ys all = (all.0, all_left P xs ys all.1)

-- those of the first elements are the first of those of all
first_those : {E : Type 0} (P : E → Type 0) (xs front those : List E) (n : ℕ) → AreThose P (take n xs) front → AreThose P xs those → (left : List E) × (those ≡ front ++ left)
first_those P [] front those zero of_first of_all = (those, ap (λ (es : List _). es ++ those) (sym of_first))
first_those P [] front those (suc n) of_first of_all = (those, ap (λ (es : List _). es ++ those) (sym of_first))
first_those P (x ∷ xs) front those zero of_first of_all = (those, ap (λ (es : List _). es ++ those) (sym of_first))
first_those P (x ∷ xs) front those (suc n) (inl (p, first, is, more)) (inl (q, all, are, others)) =
    let (left, same) = first_those P xs first all n more others in
    (left, are ∙ ap (λ (es : List _). x ∷ es) same ∙ ap (λ (es : List _). es ++ left) (sym is))
first_those P (x ∷ xs) front those (suc n) (inl front_is) (inr all_is) = absurd (all_is.0 front_is.0)
first_those P (x ∷ xs) front those (suc n) (inr front_is) (inl all_is) = absurd (front_is.0 all_is.0)
first_those P (x ∷ xs) front those (suc n) (inr front_is) (inr all_is) = first_those P xs front those n front_is.1 all_is.1

-- ---- nothing, or all, was fetched

pub none_fetched : (p : PlanView) (t new : TreeView) → IsReady t p → KeepsTrace t new → (count : ℕ) × HasFetchedFirst p t new count
none_fetched p t new ready kept =
    let (visits, are) = plans_have_visits t.schema p.asked t.next (regions t) ready.sound.regions_are in (
      0,
      record {
        visits = visits;
        visits_are = subst (λ (plan : PlanView). AreVisits t.schema plan (regions t) visits) (sym ready.planned) are;
        few = omega arith;
        visited = [];
        there = tt;
        regions_are = sym (ap (map (λ (span : plan.Span). span.region)) (nothing visits));
        trace_is = ap (λ (t : Trace). t.pages) kept ∙ sym (append-nil t.trace.pages);
        fetches_are = ap (λ (t : Trace). t.fetches) kept;
      },
    )
  where
    nothing : {E : Type 0} (xs : List E) → take 0 xs ≡ []
    nothing [] = refl
    nothing (x ∷ xs) = refl

pub all_fetched : (p : PlanView) (t new : TreeView) → HasFetched p t new → (count : ℕ) × HasFetchedFirst p t new count
all_fetched p t new fetched = (
  length fetched.visits,
  record {
    visits = fetched.visits;
    visits_are = fetched.visits_are;
    few = omega arith;
    visited = fetched.visited;
    there = fetched.there;
    regions_are = fetched.regions_are ∙ ap (map (λ (span : plan.Span). span.region)) (sym (whole fetched.visits));
    trace_is = fetched.trace_is;
    fetches_are = fetched.fetches_are;
  },
)
  where
    whole : {E : Type 0} (xs : List E) → take (length xs) xs ≡ xs
    whole [] = refl
    whole (x ∷ xs) = ap (λ (ys : List _). x ∷ ys) (whole xs)

-- ---- a walk

-- a turn in which the region that was found was asked for, and its page noted, or not even that
pub asked_some : (t mid new : TreeView) (boxes : List Corners) (after : Option Region) (span : Region) → IsSound t
    → First (λ s. IsLater after s × Meets boxes s) (spans_of t) (Some span) → Keeps t mid → KeepsTrace t mid → KeepsTrace mid new ⊎ HasNoted span.page mid new → HasTurnedSome boxes after t new
asked_some t mid new boxes after span sound first kept untraced (inl still) = inl (still ∙ untraced)
asked_some t mid new boxes after span sound first kept untraced (inr noted) =
    let (p, there, page, begins) = placed_of t span first.0 in
    inr (
      span,
      p.region.rows,
      visited_by t mid new boxes after span p.region p.region.rows sound first kept untraced
          (λ of_mid among. (p, subst (λ (placed : List Placed). Contains placed p) (sym kept.regions.placed) there, page, refl)) begins noted refl,
    )

-- where a walk has come it has read the first of the regions that meet the boxes
pub come_first : (boxes : List Corners) (start now new : TreeView) (rows : List Row) (after : Option Region) → IsSound start → HasCome boxes start now rows after → KeepsTrace now new
    → HasWalkedFirst boxes start new
come_first boxes start now new rows after sound come kept =
    let (all, are) = meeting_there start sound boxes in
    let (left, parts) = first_those (MeetsIn start boxes) start.placed come.visited all come.place come.visits are in
    record {
      visited = come.visited;
      left = left;
      visits = subst (λ (placed : List Placed). AreMeeting boxes start placed) parts are;
      trace_is = ap (λ (t : Trace). t.pages) kept ∙ come.trace_is;
      fetches_are = ap (λ (t : Trace). t.fetches) kept ∙ come.fetches_are;
    }

-- also where a turn was ended by a fault
pub turned_first : (boxes : List Corners) (start now new : TreeView) (sound : IsSound start) (kept : Keeps start now) (after copied : Option Region) (rows : List Row)
    → HasCome boxes start now rows after → copied ≡ after → HasTurnedSome boxes copied now new → HasWalkedFirst boxes start new
turned_first boxes start now new sound kept after copied rows come same (inl still) = come_first boxes start now new rows after sound come still
turned_first boxes start now new sound kept after copied rows come same (inr (span, more, turn)) =
    come_first boxes start new new (rows ++ more) (Some span) sound (turned_to boxes start now new sound kept after rows more come span copied same turn) refl

-- so it has fetched the first of the visits
pub walked_first : (p : PlanView) (t new : TreeView) → IsReady t p → ¬ IsSwept p.kind → HasWalkedFirst p.covering.boxes t new → (count : ℕ) × HasFetchedFirst p t new count
walked_first p t new ready apart walk =
    let (visits, are, same) = visits_of t ready.sound p.covering.boxes (walk.visited ++ walk.left) walk.visits in
    let long = length-append walk.visited walk.left in
    let lengths = length-map (walk.visited ++ walk.left) (λ (x : Placed). x.region) in
    let all = ap (λ (rs : List RegionRows). length rs) same in
    let count = length-map visits (λ (s : plan.Span). s.region) in (
      length walk.visited,
      record {
        visits = visits;
        visits_are = scan_visits t p p.kind visits ready.planned refl apart are;
        few = omega (arith, long, lengths, all, count);
        visited = walk.visited;
        there = all_left (Contains t.placed) walk.visited walk.left (those_among (MeetsIn t p.covering.boxes) t.placed (walk.visited ++ walk.left) walk.visits);
        regions_are = ap (map (λ (x : Placed). x.region)) (sym (first_part walk.visited walk.left))
            ∙ sym (first_mapped (λ (x : Placed). x.region) (length walk.visited) (walk.visited ++ walk.left))
            ∙ ap (take (length walk.visited)) (sym same) ∙ first_mapped (λ (s : plan.Span). s.region) (length walk.visited) visits;
        trace_is = walk.trace_is;
        fetches_are = walk.fetches_are;
      },
    )

-- ---- a sweep

-- regions that were fetched are the first of a sweep's visits
pub swept_first : (p : PlanView) (start t : TreeView) (front later : List Event) → t.placed ≡ start.placed → AreNoted t front
    → t.trace.fetches ≡ fetches_then start.trace.fetches (length t.trace.pages) → AreVisits start.schema p (regions start) (map (λ event. event.span) (front ++ later))
    → (count : ℕ) × HasFetchedFirst p (begun start) t count
swept_first p start t front later placed noted fetches visits = (
  length front,
  record {
    visits = map (λ event. event.span) (front ++ later);
    visits_are = visits;
    few = omega (arith, length-append front later, length-map (front ++ later) (λ (event : Event). event.span));
    visited = noted.placed;
    there = subst (λ (all : List Placed). AllByRecursion (Contains all) noted.placed) placed noted.there;
    regions_are = noted.regions_are ∙ spans_at front ∙ ap (λ (events : List Event). map (λ (span : plan.Span). span.region) (map (λ (event : Event). event.span) events)) (sym (first_part front later))
        ∙ ap (map (λ (span : plan.Span). span.region)) (sym (first_mapped (λ (event : Event). event.span) (length front) (front ++ later)));
    trace_is = noted.trace_is;
    fetches_are = fetches ∙ ap (fetches_then start.trace.fetches) (ap length noted.trace_is ∙ length-map noted.placed (λ (p : Placed). p.page)
        ∙ sym (length-map noted.placed (λ (p : Placed). p.region)) ∙ ap length noted.regions_are ∙ length-map front (λ (event : Event). event.span.region));
  },
)
  where
    spans_at : (events : List Event) → regions_at events ≡ map (λ span. span.region) (map (λ (event : Event). event.span) events)
    spans_at [] = refl
    spans_at (event ∷ events) = ap (λ (rs : List RegionRows). event.span.region ∷ rs) (spans_at events)
