-- What the calls of a sweep leave of a tree, one after the other.
use Rattle.std.proofs.Common.{◌≡◌, ◌≢◌, ◌≤◌, ◌∙◌, ◌++◌, ◌+◌, ◌∷◌, ◌⊎◌, inl, inr, ℕ, zero, suc, Bool, IsTrue, Result, Ok, Err, IfErr, List, [], length, map, Contains, subst, sym, ap, refl, arith, append_assoc}
use Rattle.std.proofs.lemmas.List.{append-nil, length-append, map-append}
use Rattle.std.proofs.lemmas.List.Elements.{Contains-append_right}
use Rattle.std.proofs.lemmas.List.Sorted.{Contains-permutation, IsPermutation-sym}
use Rattle.std.specs.List.{AllByRecursion}
use Rattle.std.specs.Prelude.{OnOk}
use Rattle.std.specs.Result.{IsErrAnd}
use Rattle.ub_bigmin.specs.Box.{Corners}
use Rattle.ub_planning.specs.Plan.{PlanView}
use Rattle.ub_query.proofs.Laws.{all_from_contains, all_at, all_permutation, contains_here}
use Rattle.ub_store.specs.Facts.{raised}
use Rattle.ub_store.specs.View.{Trace, IsFull}
use Rattle.ub_store.specs.declared.fault.StoreFault.TheVariants as store
use Rattle.ub_table.specs.Region.{RegionRows}
use Rattle.ub_tetris.proofs.PlaceFacts.{all_told, below_more, below_own, order_then, place_from, place_none, place_opened, place_then, same_lowest}
use Rattle.ub_tetris.proofs.StretchFacts.{lowest_are_regions, stretch_kept, traced_parts}
use Rattle.ub_tetris.specs.Awaited.{AreInOrder, AreInPlaceOf, AreStretchesOf, AreValued, AwaitedRegion, AwaitedStretch, ComesDown, IsBelow, IsFirstValue, as_lowest, lowest}
use Rattle.ub_tetris.specs.Effects.{AreAsked, AreTakenIn, Sweeps, IsComingFault, IsSweepFault, IsAwaitedFault, as_reading, fetches_then, of_read, of_reading}
use Rattle.ub_tetris.specs.Sweep.{SweepView, AreItsStretches}
use Rattle.ub_tetris.specs.declared.fault.SweepFault.{SweepFault}
use Rattle.ub_tetris.specs.declared.fault.SweepFault.TheVariants as sweep
use Rattle.ub_tetris.specs.inner.Events.{IsFirstAwaited}
use Rattle.ub_tetris.specs.inner.Turns.{HasOpened, HasTakenNext, IsAskedFor, with_next}
use Rattle.ub_tree.proofs.Laws.{IsTraced, given_before}
use Rattle.ub_tree.specs.Effects.{IsReadFault, IsSpanFault, IsTakenIn, HasNoted, ReadsRegion, raised_by}
use Rattle.ub_tree.specs.Reading.{IsGiven, fault_of_tree, read_store}
use Rattle.ub_tree.specs.Stretches.{IsOpeningFault, IsStretchOf, Stretch, whole_of}
use Rattle.ub_tree.specs.Told.{IsRegionOf}
use Rattle.ub_tree.specs.View.{TreeView, KeepsTrace}
use Rattle.ub_tree.specs.Spans.{Region}
use Rattle.ub_tree.specs.declared.fault.TreeFault.{TreeFault}
use Rattle.ub_tree.specs.declared.fault.TreeFault.TheVariants.{Full, Page, Store, Failed as HasFailed, Memory}
use Rattle.ub_tree.specs.declared.read_fault.ReadFault.{ReadFault}
use Rattle.ub_tree.specs.declared.read_fault.ReadFault.TheVariants as read

-- a call's fault, seen from before an earlier call that only read
pub sweep_fault_before : (failed : Bool) (a b : TreeView) (fault : SweepFault) → IsTraced a b → IsSweepFault failed b fault → IsSweepFault failed a fault
sweep_fault_before failed a b sweep.Memory h is = tt
sweep_fault_before failed a b (sweep.Tree fault) h is = given_before a b (read.Tree fault) h is
sweep_fault_before failed a b sweep.Failed h is = is

-- ---- calls that fetch a region

span_fault_before : (span : Region) (a b : TreeView) (fault : TreeFault) → IsTraced a b → IsSpanFault span b fault → IsSpanFault span a fault
span_fault_before span a b Full h is = is
span_fault_before span a b HasFailed h is = subst (λ (t : TreeView). IsSpanFault span t HasFailed) h is
span_fault_before span a b Memory h is = tt
span_fault_before span a b (Page page of_page) h is = subst (λ (t : TreeView). IsSpanFault span t (Page page of_page)) h is
span_fault_before span a b (Store store.Device) h is = subst (λ (t : TreeView). IsSpanFault span t (Store store.Device)) h is
span_fault_before span a b (Store store.NoPage) h is = subst (λ (t : TreeView). IsSpanFault span t (Store store.NoPage)) h is
span_fault_before span a b (Store store.Memory) h is = is
span_fault_before span a b (Store store.BadSize) h is = is

opening_fault_before : (stretch : Stretch) (a b : TreeView) (fault : TreeFault) → IsTraced a b → IsOpeningFault stretch b (read.Tree fault) → IsOpeningFault stretch a (read.Tree fault)
opening_fault_before stretch a b Full h is = is
opening_fault_before stretch a b HasFailed h is = subst (λ (t : TreeView). IsOpeningFault stretch t (read.Tree HasFailed)) h is
opening_fault_before stretch a b Memory h is = is
opening_fault_before stretch a b (Page page of_page) h is = subst (λ (t : TreeView). IsOpeningFault stretch t (read.Tree (Page page of_page))) h is
opening_fault_before stretch a b (Store store.Device) h is = subst (λ (t : TreeView). IsOpeningFault stretch t (read.Tree (Store store.Device))) h is
opening_fault_before stretch a b (Store store.NoPage) h is = subst (λ (t : TreeView). IsOpeningFault stretch t (read.Tree (Store store.NoPage))) h is
opening_fault_before stretch a b (Store store.Memory) h is = is
opening_fault_before stretch a b (Store store.BadSize) h is = is

coming_fault_before : (level : ℕ) (stretch : Stretch) (a b : TreeView) (fault : TreeFault) → IsTraced a b → IsComingFault level stretch b fault → IsComingFault level stretch a fault
coming_fault_before zero stretch a b fault h is = span_fault_before stretch.span a b fault h is
coming_fault_before (suc level) stretch a b fault h is = opening_fault_before stretch a b fault h is

-- what holds of a tree that was read holds of it still
told_then : (old new : TreeView) (xs : List AwaitedStretch) → new.store.honest ≡ old.store.honest → new.store.pages ≡ old.store.pages → new.inner ≡ old.inner → AreStretchesOf old xs → AreStretchesOf new xs
told_then old new xs honest pages inner told =
    all_from_contains (λ (a : AwaitedStretch). IsStretchOf new a.stretch) xs
    (λ a there. stretch_kept old new honest pages inner a.stretch (all_at (λ (b : AwaitedStretch). IsStretchOf old b.stretch) xs a told there))

on_ok : {T E : Type 0} (r : Result T E) (P : Type 0) → P → OnOk r P
on_ok (Ok x) P p = p
on_ok (Err e) P p = tt

-- these pages were noted for a region: its own, or none
pub record Notes (old new : TreeView) (a : AwaitedRegion) (noted : List ℕ) : Type 0 where
  pub pages_are : new.trace.pages ≡ old.trace.pages ++ noted
  pub fetches_are : new.trace.fetches ≡ fetches_then old.trace.fetches (length noted)
  pub once : AreAsked (a ∷ []) noted

noted_own : (old new : TreeView) (a : AwaitedRegion) → HasNoted a.region.page old new → Notes old new a (a.region.page ∷ [])
noted_own old new a noted = record { pages_are = noted.pages_are; fetches_are = noted.fetches_are; once = record { first = refl; most = omega arith } }

-- the page of a region may have been noted
noted_as : (old new : TreeView) (a : AwaitedRegion) → KeepsTrace old new ⊎ HasNoted a.region.page old new → (noted : List ℕ) × Notes old new a noted
noted_as old new a (inl kept) = (
  [],
  record {
    pages_are = ap (λ (t : Trace). t.pages) kept ∙ sym (append-nil old.trace.pages);
    fetches_are = ap (λ (t : Trace). t.fetches) kept;
    once = record { first = refl; most = omega arith };
  },
)
noted_as old new a (inr noted) = (a.region.page ∷ [], noted_own old new a noted)

-- what a sweep awaits, and where it goes
abbrev pub AwaitsThese : SweepView → SweepView → List AwaitedStretch → Type 0
AwaitsThese s new_s ahead = (new_s.dim ≡ s.dim) × (new_s.is_descending ≡ s.is_descending) × (new_s.awaited ≡ ahead)

-- a region was come to, and nothing is known yet of the result but what it leaves of the store
module _ {T : Type 0} (plan : PlanView) (r : Result T SweepFault) (s new_s : SweepView) (next : AwaitedStretch) (lowest_is : next.stretch.level ≡ 0) (first : IsFirstAwaited s.is_descending next s.awaited) (old new : TreeView)
    (awaits : AwaitsThese s new_s s.awaited) (same : new ≡ record old { store = read_store (as_reading r) old.store; trace = new.trace }) (pages : List ℕ)
    (notes : Notes old new (record { value = next.value; region = next.stretch.span }) pages) where
  abbrev a : AwaitedRegion
  a = record { value = next.value; region = next.stretch.span }

  pub swept_one : OnOk r (AreTakenIn old (a ∷ []) pages) → IfErr r (IsAwaitedFault plan.covering.boxes (with_next s next) old)
      → (AreItsStretches old (with_next s next) → IfErr r (IsSweepFault s.is_failed old)) → Sweeps plan (with_next s next) new_s old new r
  swept_one taken refused faults =
      let is : next ≡ as_lowest a = same_lowest next lowest_is in
      record {
        noted = pages;
        same = same;
        trace_is = notes.pages_are;
        fetches_are = notes.fetches_are;
        come = a ∷ [];
        ahead = s.awaited;
        left = subst (λ (x : AwaitedStretch). AreInPlaceOf old plan.covering.boxes s.dim s.is_descending (next ∷ s.awaited) (x ∷ s.awaited)) is
            (place_none old plan.covering.boxes s.dim s.is_descending (next ∷ s.awaited));
        ordered = λ told valued. (subst (λ (x : AwaitedStretch). IsFirstAwaited s.is_descending x s.awaited) is first, tt);
        still = on_ok r (AwaitsThese s new_s s.awaited) awaits;
        once = notes.once;
        taken = taken;
        refused = refused;
        faults = faults;
        stretches = λ told. on_ok r (AreItsStretches new new_s)
            (subst (λ (xs : List AwaitedStretch). AreStretchesOf new xs) (sym awaits.2)
            (told_then old new s.awaited (ap (λ (t : TreeView). t.store.honest) same) (ap (λ (t : TreeView). t.store.pages) same) (ap (λ (t : TreeView). t.inner) same) told.1));
      }

-- the region was read
pub read_swept : {T : Type 0} (plan : PlanView) (x : T) (s new_s : SweepView) (next : AwaitedStretch) (old new : TreeView) → next.stretch.level ≡ 0 → IsFirstAwaited s.is_descending next s.awaited → AwaitsThese s new_s s.awaited
    → new ≡ record old { trace = new.trace } → HasNoted next.stretch.span.page old new → (region : RegionRows) → IsTakenIn old next.stretch.span region → Sweeps plan (with_next s next) new_s old new (Ok x)
read_swept plan x s new_s next old new lowest_is first awaits same noted region taken =
    swept_one plan (Ok x) s new_s next lowest_is first old new awaits same (next.stretch.span.page ∷ []) (noted_own old new (record { value = next.value; region = next.stretch.span }) noted)
    (refl, ((region, taken), tt)) tt (λ told. tt)

pub either_noted : {A : Type 0} (result : Result A TreeFault) (old new : TreeView) (page : ℕ) → (KeepsTrace old new × ((result ≡ Err HasFailed) ⊎ ((result ≡ Err Memory) × IsFull old.trace))) ⊎ HasNoted page old new
    → KeepsTrace old new ⊎ HasNoted page old new
either_noted result old new page (inl kept) = inl kept.0
either_noted result old new page (inr noted) = inr noted

-- so it was asked for
pub region_asked : {A : Type 0} (result : Result A TreeFault) (old new : TreeView) (next : AwaitedStretch) → next.stretch.level ≡ 0
    → (KeepsTrace old new × ((result ≡ Err HasFailed) ⊎ ((result ≡ Err Memory) × IsFull old.trace))) ⊎ HasNoted next.stretch.span.page old new → IsAskedFor old new next
region_asked result old new next lowest_is (inl kept) = inl kept.0
region_asked result old new next lowest_is (inr noted) = inr (lowest_is, noted)

-- a fault of its reading is one of those awaited
span_awaited : (boxes : List Corners) (s : SweepView) (next : AwaitedStretch) (old : TreeView) (e : TreeFault) → next.stretch.level ≡ 0 → IsSpanFault next.stretch.span old e
    → (stretch : Stretch) × IsBelow old boxes (next ∷ s.awaited) stretch × IsComingFault stretch.level stretch old e
span_awaited boxes s next old e lowest_is is =
    (next.stretch, below_own old boxes (next ∷ s.awaited) next (contains_here next s.awaited), subst (λ (l : ℕ). IsComingFault l next.stretch old e) (sym lowest_is) is)

-- the tree refused it
module _ {T : Type 0} (plan : PlanView) (s new_s : SweepView) (next : AwaitedStretch) (lowest_is : next.stretch.level ≡ 0) (first : IsFirstAwaited s.is_descending next s.awaited) (old new : TreeView)
    (awaits : AwaitsThese s new_s s.awaited) (pages : List ℕ) (notes : Notes old new (record { value = next.value; region = next.stretch.span }) pages) where
  refused_by : (r : Result T ReadFault) (e : TreeFault) → IsErrAnd r (λ x. x ≡ fault_of_tree e)
      → new ≡ record old { store = record old.store { failed_reads = raised_by e old.store.failed_reads }; trace = new.trace }
      → IsSpanFault next.stretch.span old e → (IsRegionOf old next.stretch.span → IsReadFault old e) → Sweeps plan (with_next s next) new_s old new (of_reading r)
  refused_by (Ok x) e is same refused faults = absurd is
  refused_by (Err f) Memory is same refused faults = rw is (swept_one plan (Err sweep.Memory) s new_s next lowest_is first old new awaits same pages notes tt tt (λ told. tt))
  refused_by (Err f) Full is same refused faults = absurd refused
  refused_by (Err f) HasFailed is same refused faults =
      rw is (swept_one plan (Err (sweep.Tree HasFailed)) s new_s next lowest_is first old new awaits same pages notes tt
      (span_awaited plan.covering.boxes s next old HasFailed lowest_is refused, λ x. cc) (λ told. (faults (lowest_are_regions old next.stretch told.0 lowest_is), λ x. cc)))
  refused_by (Err f) (Page page of_page) is same refused faults =
      rw is (swept_one plan (Err (sweep.Tree (Page page of_page))) s new_s next lowest_is first old new awaits same pages notes tt
      (span_awaited plan.covering.boxes s next old (Page page of_page) lowest_is refused, λ x. cc) (λ told. (faults (lowest_are_regions old next.stretch told.0 lowest_is), λ x. cc)))
  refused_by (Err f) (Store of_store) is same refused faults =
      rw is (swept_one plan (Err (sweep.Tree (Store of_store))) s new_s next lowest_is first old new awaits same pages notes tt
      (span_awaited plan.covering.boxes s next old (Store of_store) lowest_is refused, λ x. cc) (λ told. (faults (lowest_are_regions old next.stretch told.0 lowest_is), λ x. cc)))

pub tree_swept : {T A : Type 0} (plan : PlanView) (r : Result T ReadFault) (e : TreeFault) (s new_s : SweepView) (next : AwaitedStretch) (old new : TreeView) → next.stretch.level ≡ 0
    → IsFirstAwaited s.is_descending next s.awaited → AwaitsThese s new_s s.awaited → IsErrAnd r (λ x. x ≡ fault_of_tree e) → ReadsRegion {A = A} next.stretch.span old new (Err e)
    → Sweeps plan (with_next s next) new_s old new (of_reading r)
tree_swept {A = A} plan r e s new_s next old new lowest_is first awaits is reads =
    let (pages, notes) = noted_as old new (record { value = next.value; region = next.stretch.span }) (either_noted {A = A} (Err e) old new next.stretch.span.page reads.noted) in
    refused_by plan s new_s next lowest_is first old new awaits pages notes r e is reads.same reads.refused reads.faults

-- ---- calls that open a stretch

-- it was opened
pub opened_swept : {T : Type 0} (plan : PlanView) (x : T) (s new_s : SweepView) (next : AwaitedStretch) (old new : TreeView) → (new_s.dim ≡ s.dim) × (new_s.is_descending ≡ s.is_descending)
    → HasOpened plan old new s new_s next → Sweeps plan (with_next s next) new_s old new (Ok x)
opened_swept plan x s new_s next old new course opened =
    let place = place_opened old plan.covering.boxes s.dim s.is_descending next s.awaited opened.queued new_s.awaited opened.now_are opened.valued opened.parts in
    record {
      noted = [];
      same = opened.same ∙ ap (λ (t : TreeView). record old { trace = t.trace }) (sym opened.same);
      trace_is = ap (λ (t : TreeView). t.trace.pages) opened.same ∙ sym (append-nil old.trace.pages);
      fetches_are = ap (λ (t : TreeView). t.trace.fetches) opened.same;
      come = [];
      ahead = new_s.awaited;
      left = place;
      ordered = λ told valued. tt;
      still = (course.0, course.1, refl);
      once = record { first = refl; most = omega arith };
      taken = (refl, tt);
      refused = tt;
      faults = λ told. tt;
      stretches = λ told. subst (λ (t : TreeView). AreStretchesOf t new_s.awaited) (sym opened.same) (all_told old plan.covering.boxes (next ∷ s.awaited) new_s.awaited told place.below);
    }

-- or the tree refused it
pub unopened_swept : {T : Type 0} (plan : PlanView) (r : Result T ReadFault) (e : ReadFault) (s new_s : SweepView) (next : AwaitedStretch) (old new : TreeView) → 1 ≤ next.stretch.level → IsErrAnd r (λ x. x ≡ e)
    → new ≡ record old { store = read_store {A = T} (Err e) old.store } → (IsStretchOf old next.stretch → IsGiven old e) → IsOpeningFault next.stretch old e
    → Sweeps plan (with_next s next) new_s old new (of_reading r)
unopened_swept plan (Ok x) e s new_s next old new upper is same faults refused = absurd is
unopened_swept {T = T} plan (Err f) e s new_s next old new upper is same faults refused = rw is (by_fault e same faults refused)
  where
    coming : (level : ℕ) (fault : TreeFault) → 1 ≤ level → IsOpeningFault next.stretch old (read.Tree fault) → IsComingFault level next.stretch old fault
    coming zero fault upper is = absurd (omega (arith, upper))
    coming (suc level) fault upper is = is

    swept : (e : SweepFault) → new ≡ record old { store = read_store (as_reading {A = T} (Err e)) old.store } → IsAwaitedFault plan.covering.boxes (with_next s next) old e
        → (AreItsStretches old (with_next s next) → IsSweepFault s.is_failed old e) → Sweeps {A = T} plan (with_next s next) new_s old new (Err e)
    swept e same refused faults = record {
      noted = [];
      same = same ∙ ap (λ (trace : Trace). record old { store = read_store (as_reading {A = T} (Err e)) old.store; trace = trace }) (sym (ap (λ (t : TreeView). t.trace) same));
      trace_is = ap (λ (t : TreeView). t.trace.pages) same ∙ sym (append-nil old.trace.pages);
      fetches_are = ap (λ (t : TreeView). t.trace.fetches) same;
      come = [];
      ahead = next ∷ s.awaited;
      left = place_none old plan.covering.boxes s.dim s.is_descending (next ∷ s.awaited);
      ordered = λ told valued. tt;
      still = tt;
      once = record { first = refl; most = omega arith };
      taken = tt;
      refused = refused;
      faults = faults;
      stretches = λ told. tt;
    }

    by_fault : (e : ReadFault) → new ≡ record old { store = read_store {A = T} (Err e) old.store } → (IsStretchOf old next.stretch → IsGiven old e) → IsOpeningFault next.stretch old e
        → Sweeps {A = T} plan (with_next s next) new_s old new (Err (of_read e))
    by_fault read.Memory same faults refused = swept sweep.Memory same tt (λ told. tt)
    by_fault (read.Tree fault) same faults refused =
        swept (sweep.Tree fault) same
        ((next.stretch, below_own old plan.covering.boxes (next ∷ s.awaited) next (contains_here next s.awaited), coming next.stretch.level fault upper refused), not_memory fault refused)
        (λ told. faults told.0)
      where
        not_memory : (fault : TreeFault) → IsOpeningFault next.stretch old (read.Tree fault) → fault ≢ Memory
        not_memory Memory is same = is
        not_memory Full is same = is
        not_memory HasFailed is same = cc
        not_memory (Page page of_page) is same = cc
        not_memory (Store of_store) is same = cc

-- ---- one call after the other

-- nothing was read yet
pub Sweeps-none : {T : Type 0} (plan : PlanView) (x : T) (s : SweepView) (t : TreeView) → Sweeps plan s s t t (Ok x)
Sweeps-none plan x s t = record {
  noted = [];
  same = refl;
  trace_is = sym (append-nil t.trace.pages);
  fetches_are = refl;
  come = [];
  ahead = s.awaited;
  left = place_none t plan.covering.boxes s.dim s.is_descending s.awaited;
  ordered = λ told valued. tt;
  still = (refl, refl, refl);
  once = record { first = refl; most = omega arith };
  taken = (refl, tt);
  refused = tt;
  faults = λ told. tt;
  stretches = λ told. told;
}

-- a sweep that has failed reads nothing
pub Sweeps-failed : {T : Type 0} (plan : PlanView) (s : SweepView) (t : TreeView) → IsTrue s.is_failed → Sweeps {A = T} plan s s t t (Err sweep.Failed)
Sweeps-failed plan s t failed = record {
  noted = [];
  same = refl;
  trace_is = sym (append-nil t.trace.pages);
  fetches_are = refl;
  come = [];
  ahead = s.awaited;
  left = place_none t plan.covering.boxes s.dim s.is_descending s.awaited;
  ordered = λ told valued. tt;
  still = tt;
  once = record { first = refl; most = omega arith };
  taken = tt;
  refused = failed;
  faults = λ told. failed;
  stretches = λ told. tt;
}

-- the first of those awaited was taken out, and come to
pub swept_taken : {T : Type 0} (plan : PlanView) (r : Result T SweepFault) (s s_then new_s : SweepView) (next : AwaitedStretch) (old new : TreeView) → HasTakenNext s s_then next
    → Sweeps plan (with_next s_then next) new_s old new r → Sweeps plan s new_s old new r
swept_taken plan r s s_then new_s next old new taken swept =
    let all : SweepView = record s { awaited = next ∷ s_then.awaited } in
    let of_all : Sweeps plan all new_s old new r = subst (λ (v : SweepView). Sweeps plan (with_next v next) new_s old new r) taken.same swept in
    let turned : AreItsStretches old s → AreItsStretches old all = λ told. all_permutation (λ (b : AwaitedStretch). IsStretchOf old b.stretch) s.awaited (next ∷ s_then.awaited) taken.parts told in
    record {
      noted = of_all.noted;
      same = of_all.same;
      trace_is = of_all.trace_is;
      fetches_are = of_all.fetches_are;
      come = of_all.come;
      ahead = of_all.ahead;
      left = place_from old plan.covering.boxes s.dim s.is_descending s.awaited (next ∷ s_then.awaited) (lowest of_all.come ++ of_all.ahead) taken.parts of_all.left;
      ordered = λ told valued.
          of_all.ordered (turned told) (all_permutation (λ (b : AwaitedStretch). IsFirstValue plan.covering.boxes s.dim s.is_descending b.stretch.span b.value) s.awaited (next ∷ s_then.awaited) taken.parts valued);
      still = of_all.still;
      once = of_all.once;
      taken = of_all.taken;
      refused = refused r of_all.refused;
      faults = λ told. of_all.faults (turned told);
      stretches = λ told. of_all.stretches (turned told);
    }
  where
    back : (b : AwaitedStretch) → Contains (next ∷ s_then.awaited) b → Contains s.awaited b
    back b here = Contains-permutation (next ∷ s_then.awaited) s.awaited b (IsPermutation-sym s.awaited (next ∷ s_then.awaited) taken.parts) here

    of_fault : (e : SweepFault) → IsAwaitedFault plan.covering.boxes (record s { awaited = next ∷ s_then.awaited }) old e → IsAwaitedFault plan.covering.boxes s old e
    of_fault sweep.Memory is = tt
    of_fault (sweep.Tree fault) ((stretch, (b, here, way, comes), coming), other) = ((stretch, (b, back b here, way, comes), coming), other)
    of_fault sweep.Failed is = is

    refused : {U : Type 0} (r : Result U SweepFault) → IfErr r (IsAwaitedFault plan.covering.boxes (record s { awaited = next ∷ s_then.awaited }) old) → IfErr r (IsAwaitedFault plan.covering.boxes s old)
    refused (Ok x) is = tt
    refused (Err e) is = of_fault e is

pub swept_traced : {T : Type 0} (plan : PlanView) (x : T) (a b : SweepView) (t m : TreeView) → Sweeps plan a b t m (Ok x) → IsTraced t m
swept_traced plan x a b t m swept = swept.same ∙ ap (λ (n : TreeView). record t { trace = n.trace }) (sym swept.same)

fetched_then : (fetches n m : ℕ) → fetches_then (fetches_then fetches n) m ≡ fetches_then fetches (n + m)
fetched_then fetches zero m = let e : 0 + m ≡ m = omega arith in ap (fetches_then fetches) (sym e)
fetched_then fetches (suc n) zero = let e : suc n + 0 ≡ suc n = omega arith in ap (fetches_then fetches) (sym e)
fetched_then fetches (suc n) (suc m) = let e : suc n + suc m ≡ suc (n + suc m) = omega arith in fetched_more fetches n m ∙ ap (fetches_then fetches) (sym e)
  where
    fetched_more : (fetches n m : ℕ) → raised (raised fetches (suc n)) (suc m) ≡ raised fetches (suc (n + suc m))
    fetched_more fetches n m = omega arith

all_joined : {X : Type 0} (P : X → Type 0) (xs ys : List X) → AllByRecursion P xs → AllByRecursion P ys → AllByRecursion P (xs ++ ys)
all_joined P [] ys some more = more
all_joined P (x ∷ xs) ys some more = (some.0, all_joined P xs ys some.1 more)

-- regions taken in after others
taken_more : {U : Type 0} (r : Result U SweepFault) (t m : TreeView) (xs ys : List AwaitedRegion) (pages more : List ℕ) → IsTraced t m → AreTakenIn t xs pages → OnOk r (AreTakenIn m ys more)
    → OnOk r (AreTakenIn t (xs ++ ys) (pages ++ more))
taken_more (Ok x) t m xs ys pages more traced first second =
    let of_t : AreTakenIn t ys more = subst (λ (v : TreeView). AreTakenIn v ys more) traced second in (
      ap (λ (front : List ℕ). front ++ more) first.0 ∙ ap (λ (rest : List ℕ). map (λ (a : AwaitedRegion). a.region.page) xs ++ rest) of_t.0
          ∙ sym (map-append (λ (a : AwaitedRegion). a.region.page) xs ys),
      all_joined (λ a. (region : RegionRows) × IsTakenIn t a.region region) xs ys first.1 of_t.1,
    )
taken_more (Err e) t m xs ys pages more traced first second = tt

-- and their pages noted, as far as they were
pub asked_more : (xs ys : List AwaitedRegion) (pages more : List ℕ) → pages ≡ map (λ a. a.region.page) xs → AreAsked ys more → AreAsked (xs ++ ys) (pages ++ more)
asked_more xs ys pages more is asked = subst (λ (front : List ℕ). AreAsked (xs ++ ys) (front ++ more)) (sym is) (after xs)
  where
    after : (xs : List AwaitedRegion) → AreAsked (xs ++ ys) (map (λ a. a.region.page) xs ++ more)
    after [] = asked
    after (x ∷ xs) =
        let others = after xs in
        let most = others.most in
        record { first = ap (λ (numbers : List ℕ). x.region.page ∷ numbers) others.first; most = omega arith }

-- what comes in the place of stretches over a tree that was read does over the tree as it was
pub place_before : (t m : TreeView) (boxes : List Corners) (dim : ℕ) (down : Bool) (xs ys : List AwaitedStretch) → IsTraced t m → AreInPlaceOf m boxes dim down xs ys → AreInPlaceOf t boxes dim down xs ys
place_before t m boxes dim down xs ys traced place = record {
  below = λ a there. below_before (place.below a there);
  fewer = λ told key. place.fewer (still told) key;
  all = λ told dims key held within. place.all (still told) dims key held (subst (λ (v : TreeView). key.z ≤ (whole_of v).span.to) (sym traced) within);
  valued = place.valued;
  later = λ told valued a there. place.later (still told) valued a there;
}
  where
    still : AreStretchesOf t xs → AreStretchesOf m xs
    still told = told_then t m xs (ap (λ (v : TreeView). v.store.honest) traced) (ap (λ (v : TreeView). v.store.pages) traced) (ap (λ (v : TreeView). v.inner) traced) told

    down_before : (way : List Stretch) (from to : Stretch) → ComesDown m boxes from way to → ComesDown t boxes from way to
    down_before [] from to comes = comes
    down_before (part ∷ way) from to (parts, are, there, comes) = (parts, traced_parts t m traced boxes from parts are, there, down_before way part to comes)

    below_before : {s : Stretch} → IsBelow m boxes xs s → IsBelow t boxes xs s
    below_before {s = s} (a, there, way, comes) = (a, there, way, down_before way a.stretch s comes)

pub sweeps_then : {T U : Type 0} (plan : PlanView) (x : T) (r : Result U SweepFault) (a b c : SweepView) (t m n : TreeView) → a.is_failed ≡ b.is_failed
    → Sweeps plan a b t m (Ok x) → Sweeps plan b c m n r → Sweeps plan a c t n r
sweeps_then plan x r a b c t m n failed first second =
    let traced = swept_traced plan x a b t m first in
    let boxes : List Corners = plan.covering.boxes in
    let (dim_is, down_is, ahead_is) = first.still in
    let place : AreInPlaceOf t boxes a.dim a.is_descending first.ahead (lowest second.come ++ second.ahead) =
    place_before t m boxes a.dim a.is_descending first.ahead (lowest second.come ++ second.ahead) traced (rw (← dim_is, ← down_is, ← ahead_is) second.left) in
    let mid : AreInPlaceOf t boxes a.dim a.is_descending a.awaited ((lowest first.come ++ lowest second.come) ++ second.ahead) =
    place_then t boxes a.dim a.is_descending a.awaited (lowest first.come) first.ahead (lowest second.come) second.ahead first.left place in
    record {
      noted = first.noted ++ second.noted;
      same = second.same ∙ ap (λ (v : TreeView). record v { store = read_store (as_reading r) v.store; trace = n.trace }) first.same;
      trace_is = second.trace_is ∙ ap (λ (pages : List ℕ). pages ++ second.noted) first.trace_is ∙ append_assoc t.trace.pages first.noted second.noted;
      fetches_are = second.fetches_are ∙ ap (λ (count : ℕ). fetches_then count (length second.noted)) first.fetches_are
          ∙ fetched_then t.trace.fetches (length first.noted) (length second.noted) ∙ ap (fetches_then t.trace.fetches) (sym (length-append first.noted second.noted));
      come = first.come ++ second.come;
      ahead = second.ahead;
      left = subst (λ (those : List AwaitedStretch). AreInPlaceOf t boxes a.dim a.is_descending a.awaited (those ++ second.ahead)) (sym (map-append as_lowest first.come second.come)) mid;
      ordered = λ told valued.
          let mid_told : AreStretchesOf t first.ahead = ahead_told told in
          let mid_valued : AreValued boxes a.dim a.is_descending first.ahead = all_after (λ (y : AwaitedStretch). IsFirstValue boxes a.dim a.is_descending y.stretch.span y.value) (lowest first.come) first.ahead (first.left.valued valued) in
          order_then a.is_descending first.come second.come first.ahead second.ahead (first.ordered told valued)
          (subst (λ (down : Bool). AreInOrder down second.come second.ahead) down_is
          (second.ordered (first.stretches told) (rw (dim_is, down_is, ahead_is) mid_valued)))
          (place.later mid_told mid_valued);
      still = still r second.still (dim_is, down_is);
      once = asked_more first.come second.come first.noted second.noted first.taken.0 second.once;
      taken = taken_more r t m first.come second.come first.noted second.noted traced first.taken second.taken;
      refused = refused r traced second.refused;
      faults = λ told. faults r traced (second.faults (first.stretches told));
      stretches = λ told. second.stretches (first.stretches told);
    }
  where
    all_after : {E : Type 0} (P : E → Type 0) (xs ys : List E) → AllByRecursion P (xs ++ ys) → AllByRecursion P ys
    all_after P [] ys all = all
    all_after P (y ∷ xs) ys all = all_after P xs ys all.1

    ahead_told : AreStretchesOf t a.awaited → AreStretchesOf t first.ahead
    ahead_told told = all_after (λ (y : AwaitedStretch). IsStretchOf t y.stretch) (lowest first.come) first.ahead (all_told t plan.covering.boxes a.awaited (lowest first.come ++ first.ahead) told first.left.below)

    still : {U : Type 0} (r : Result U SweepFault) → OnOk r (AwaitsThese b c second.ahead) → (b.dim ≡ a.dim) × (b.is_descending ≡ a.is_descending) → OnOk r (AwaitsThese a c second.ahead)
    still (Ok y) (dim_is, down_is, ahead_is) (dim_was, down_was) = (dim_is ∙ dim_was, down_is ∙ down_was, ahead_is)
    still (Err e) is was = tt

    -- what is below those awaited in between
    below_first : (stretch : Stretch) → IsBelow m plan.covering.boxes b.awaited stretch → IsTraced t m → IsBelow t plan.covering.boxes a.awaited stretch
    below_first stretch below traced =
        let (y, here, way, comes) = below in
        let after : Contains first.ahead y = subst (λ (those : List AwaitedStretch). Contains those y) first.still.2 here in
        below_more t plan.covering.boxes a.awaited (lowest first.come ++ first.ahead) stretch first.left.below
        (y, Contains-append_right (lowest first.come) first.ahead y after, way, down_first way y.stretch stretch comes traced)
      where
        down_first : (way : List Stretch) (from to : Stretch) → ComesDown m plan.covering.boxes from way to → IsTraced t m → ComesDown t plan.covering.boxes from way to
        down_first [] from to comes traced = comes
        down_first (part ∷ way) from to (parts, are, there, comes) traced = (parts, traced_parts t m traced plan.covering.boxes from parts are, there, down_first way part to comes traced)

    of_fault : (e : SweepFault) → IsTraced t m → IsAwaitedFault plan.covering.boxes b m e → IsAwaitedFault plan.covering.boxes a t e
    of_fault sweep.Memory traced is = tt
    of_fault (sweep.Tree fault) traced ((stretch, below, coming), other) = ((stretch, below_first stretch below traced, coming_fault_before stretch.level stretch t m fault traced coming), other)
    of_fault sweep.Failed traced is = subst (λ (y : Bool). IsTrue y) (sym failed) is

    refused : {U : Type 0} (r : Result U SweepFault) → IsTraced t m → IfErr r (IsAwaitedFault plan.covering.boxes b m) → IfErr r (IsAwaitedFault plan.covering.boxes a t)
    refused (Ok y) traced is = tt
    refused (Err e) traced is = of_fault e traced is

    faults : {U : Type 0} (r : Result U SweepFault) → IsTraced t m → IfErr r (IsSweepFault b.is_failed m) → IfErr r (IsSweepFault a.is_failed t)
    faults (Ok y) traced is = tt
    faults (Err e) traced is = subst (λ (y : Bool). IsSweepFault y t e) (sym failed) (sweep_fault_before b.is_failed t m e traced is)

-- a call that was ended by a fault leaves the same, whatever it was to answer
pub swept_as : {T U : Type 0} (plan : PlanView) (e : SweepFault) (a b c : SweepView) (t n : TreeView) → Sweeps {A = U} plan a b t n (Err e) → Sweeps {A = T} plan a c t n (Err e)
swept_as plan e a b c t n swept = record {
  noted = swept.noted;
  same = swept.same;
  trace_is = swept.trace_is;
  fetches_are = swept.fetches_are;
  come = swept.come;
  ahead = swept.ahead;
  left = swept.left;
  ordered = swept.ordered;
  still = tt;
  once = swept.once;
  taken = tt;
  refused = swept.refused;
  faults = swept.faults;
  stretches = λ told. tt;
}

-- the fault of a call handed on
pub swept_by : {T U : Type 0} (plan : PlanView) (r : Result T ReadFault) (e : ReadFault) (a b c : SweepView) (t n : TreeView) → IsErrAnd r (λ x. x ≡ e) → Sweeps {A = U} plan a b t n (Err (of_read e))
    → Sweeps plan a c t n (of_reading r)
swept_by plan (Ok x) e a b c t n is swept = absurd is
swept_by plan (Err f) e a b c t n is swept = rw is (swept_as plan (of_read e) a b c t n swept)

-- the sweep gave more of what it held: it awaits the same stretches
module _ {T : Type 0} (plan : PlanView) (x : T) (s mid new_s : SweepView) (t n : TreeView) (same : AwaitsThese mid new_s mid.awaited) (swept : Sweeps plan s mid t n (Ok x)) where
  pub swept_with : {U : Type 0} (y : U) → Sweeps plan s new_s t n (Ok y)
  swept_with y = record {
    noted = swept.noted;
    same = swept.same;
    trace_is = swept.trace_is;
    fetches_are = swept.fetches_are;
    come = swept.come;
    ahead = swept.ahead;
    left = swept.left;
    ordered = swept.ordered;
    still = (same.0 ∙ swept.still.0, same.1 ∙ swept.still.1, same.2 ∙ swept.still.2);
    once = swept.once;
    taken = swept.taken;
    refused = tt;
    faults = λ told. tt;
    stretches = λ told. subst (λ (those : List AwaitedStretch). AreStretchesOf n those) (sym same.2) (swept.stretches told);
  }

  -- or memory was refused for it
  pub swept_short : {U : Type 0} (r : Result U ReadFault) → IsErrAnd r (λ f. f ≡ read.Memory) → Sweeps plan s new_s t n (of_reading r)
  swept_short (Ok y) is = absurd is
  swept_short (Err f) is =
      rw is (record {
        noted = swept.noted;
        same = swept.same;
        trace_is = swept.trace_is;
        fetches_are = swept.fetches_are;
        come = swept.come;
        ahead = swept.ahead;
        left = swept.left;
        ordered = swept.ordered;
        still = tt;
        once = swept.once;
        taken = tt;
        refused = tt;
        faults = λ told. tt;
        stretches = λ told. tt;
      })
