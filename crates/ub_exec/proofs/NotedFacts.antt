-- Pages noted call by call, and each of them taken in.
use Rattle.std.proofs.Common.{◌≡◌, ◌<◌, ◌+◌, ◌∙◌, ◌++◌, ◌∷◌, ◌⊎◌, inl, inr, ℕ, zero, suc, Bool, List, [], Option, Some, None, Result, Ok, Err, length, map, refl, sym, ap, subst, arith, append_assoc}
use Rattle.std.proofs.lemmas.List.{append-nil, length-append, length-map, map-append}
use Rattle.std.specs.List.{AllByRecursion}
use Rattle.std.specs.Prelude.{OnOk}
use Rattle.std.specs.Result.{IsErrAnd}
use Rattle.ub_bigmin.specs.Box.{Corners}
use Rattle.ub_exec.specs.Answers.{IsSwept, begun}
use Rattle.ub_exec.specs.Reading.{CarriesOut, HasReadAll, HasReadNext, HasSweptFirst, HasSweptSome, IsIn, IsRead, NotesPages, ReadsSwept}
use Rattle.ub_planning.specs.Plan.{PlanView}
use Rattle.ub_planning.specs.declared.planned.Kind.{Kind}
use Rattle.ub_planning.specs.declared.planned.Kind.TheVariants.{Empty, Scan, Sweep}
use Rattle.ub_query.proofs.Laws.{all_weaker}
use Rattle.ub_table.specs.Region.{RegionRows}
use Rattle.ub_tetris.proofs.Laws.{all_told as all_below}
use Rattle.ub_tetris.specs.Awaited.{AreStretchesOf, AwaitedRegion, AwaitedStretch, as_lowest, lowest}
use Rattle.ub_tetris.specs.Effects.{Sweeps, fetches_then}
use Rattle.ub_tetris.specs.Sweep.{AreItsStretches, IsSweepOf, SweepView}
use Rattle.ub_tetris.specs.declared.fault.SweepFault.{SweepFault}
use Rattle.ub_tree.proofs.Laws.{IsTraced, answers_ended, first_more, left_after, left_less, lowest_are_regions, next_is_later, traced_gives, traced_told}
use Rattle.ub_store.specs.View.{Trace}
use Rattle.ub_tree.specs.Effects.{HasNoted, IsTakenIn}
use Rattle.ub_tree.specs.Handing.{AreMetBy}
use Rattle.ub_tree.specs.Spans.{Region}
use Rattle.ub_tree.specs.Told.{AreFirst, GivesNext, IsRegionOf}
use Rattle.ub_tree.specs.View.{TreeView, KeepsTrace}
use Rattle.ub_tree.specs.declared.read_fault.ReadFault.{ReadFault}

-- ---- lists

pub all_joined : {X : Type 0} (P : X → Type 0) (xs ys : List X) → AllByRecursion P xs → AllByRecursion P ys → AllByRecursion P (xs ++ ys)
all_joined P [] ys some more = more
all_joined P (x ∷ xs) ys some more = (some.0, all_joined P xs ys some.1 more)

pub noted_sum : (fetches a b : ℕ) → fetches_then (fetches_then fetches a) b ≡ fetches_then fetches (a + b)
noted_sum fetches zero b = ap (fetches_then fetches) (let e : b ≡ 0 + b = omega arith in e)
noted_sum fetches (suc a) zero = ap (fetches_then fetches) (let e : suc a ≡ suc a + 0 = omega arith in e)
noted_sum fetches (suc a) (suc b) = let e : suc a + suc b ≡ suc (a + suc b) = omega arith in rw e (omega arith)

-- ---- one call after the other

pub on_ok : {A E : Type 0} (r : Result A E) (P : Type 0) → P → OnOk r P
on_ok (Ok x) P p = p
on_ok (Err e) P p = tt

-- a tree whose trace has grown is as one whose trace had been emptied first
pub traced_begun : (old new : TreeView) → IsTraced old new → IsTraced (begun old) new
traced_begun old new is = is

-- no page was noted
pub notes_none : {A : Type 0} (r : Result A ReadFault) (old new : TreeView) → KeepsTrace old new → NotesPages old new r
notes_none r old new kept = record {
  noted = [];
  trace_is = ap (λ (t : Trace). t.pages) kept ∙ sym (append-nil old.trace.pages);
  fetches_are = ap (λ (t : Trace). t.fetches) kept;
  read = on_ok r (AllByRecursion (IsRead old) []) tt;
}

read_before : (a b : TreeView) → IsTraced a b → (page : ℕ) → IsRead b page → IsRead a page
read_before a b traced page (span, told, same, taken) = (span, traced_told a b traced span told, same, subst (λ (t : TreeView). IsIn t span) traced taken)

read_more : {A : Type 0} (r : Result A ReadFault) (a b : TreeView) (some more : List ℕ) → IsTraced a b → AllByRecursion (IsRead a) some → OnOk r (AllByRecursion (IsRead b) more)
    → OnOk r (AllByRecursion (IsRead a) (some ++ more))
read_more (Ok x) a b some more traced first second = all_joined (IsRead a) some more first (all_weaker (IsRead b) (IsRead a) (read_before a b traced) more second)
read_more (Err e) a b some more traced first second = tt

pub notes_then : {A B : Type 0} (x : A) (r : Result B ReadFault) (a b c : TreeView) → IsTraced a b → NotesPages a b (Ok x) → NotesPages b c r → NotesPages a c r
notes_then x r a b c traced first second = record {
  noted = first.noted ++ second.noted;
  trace_is = second.trace_is ∙ ap (λ (pages : List ℕ). pages ++ second.noted) first.trace_is ∙ append_assoc a.trace.pages first.noted second.noted;
  fetches_are = second.fetches_are ∙ ap (λ (f : ℕ). fetches_then f (length second.noted)) first.fetches_are ∙ noted_sum a.trace.fetches (length first.noted) (length second.noted)
      ∙ ap (fetches_then a.trace.fetches) (sym (length-append first.noted second.noted));
  read = read_more r a b first.noted second.noted traced first.read second.read;
}

-- the same pages where the call was ended by a fault
pub notes_err : {A B : Type 0} (r : Result A ReadFault) (P : ReadFault → Type 0) (q : Result B ReadFault) (old new : TreeView) → IsErrAnd r P → NotesPages old new q → NotesPages old new r
notes_err (Ok x) P q old new is notes = absurd is
notes_err (Err e) P q old new is notes = record { noted = notes.noted; trace_is = notes.trace_is; fetches_are = notes.fetches_are; read = tt }

pub notes_ok : {A B : Type 0} (x : A) (y : B) (old new : TreeView) → NotesPages old new (Ok x) → NotesPages old new (Ok y)
notes_ok x y old new notes = record { noted = notes.noted; trace_is = notes.trace_is; fetches_are = notes.fetches_are; read = notes.read }

pub notes_as : {A : Type 0} (r : Result A ReadFault) (a b c : TreeView) → b ≡ a → NotesPages b c r → NotesPages a c r
notes_as r a b c same notes = subst (λ (t : TreeView). NotesPages t c r) same notes

-- a page may have been noted in a call that was ended by a fault
pub notes_one : {A : Type 0} (r : Result A ReadFault) (P : ReadFault → Type 0) (old mid new : TreeView) (page : ℕ) → IsErrAnd r P → KeepsTrace old mid → KeepsTrace mid new ⊎ HasNoted page mid new
    → NotesPages old new r
notes_one (Ok x) P old mid new page is kept noted = absurd is
notes_one (Err e) P old mid new page is kept (inl still) = notes_none (Err e) old new (still ∙ kept)
notes_one (Err e) P old mid new page is kept (inr noted) = record {
  noted = page ∷ [];
  trace_is = noted.pages_are ∙ ap (λ (t : Trace). t.pages ++ page ∷ []) kept;
  fetches_are = noted.fetches_are ∙ ap (λ (t : Trace). fetches_then t.fetches 1) kept;
  read = tt;
}

-- ---- a turn of a scan

pub next_notes : (boxes : List Corners) (after : Option Region) (old new : TreeView) (found : Option Region) → HasReadNext boxes after old new found → NotesPages old new (Ok found)
next_notes boxes after old new None next = notes_none (Ok None) old new next.1
next_notes boxes after old new (Some span) next = record {
  noted = span.page ∷ [];
  trace_is = next.1.pages_are;
  fetches_are = next.1.fetches_are;
  read = ((span, (next_is_later old boxes after span next.0).0, refl, next.2), tt);
}

-- the region that the tree told was read
pub read_next : (boxes of_plan : List Corners) (after : Option Region) (old mid new : TreeView) (span : Region) (region : RegionRows) → boxes ≡ of_plan → mid ≡ old
    → GivesNext boxes old after (Some span) → HasNoted span.page mid new → IsTakenIn mid span region → HasReadNext of_plan after old new (Some span)
read_next boxes of_plan after old mid new span region alike same gives noted taken = (
  subst (λ (bs : List Corners). GivesNext bs old after (Some span)) alike gives,
  subst (λ (t : TreeView). HasNoted span.page t new) same noted,
  (region, subst (λ (t : TreeView). IsTakenIn t span region) same taken),
)

-- ---- so far as a scan has come, over any tree

pub record HasReadUpTo (boxes : List Corners) (start now : TreeView) (after : Option Region) : Type 0 where
  pub spans : List Region
  pub answers : AreFirst boxes start None spans after
  pub there : AllByRecursion (IsRegionOf start) spans
  pub taken : AllByRecursion (IsIn start) spans
  pub trace_is : now.trace.pages ≡ start.trace.pages ++ map (λ span. span.page) spans
  pub fetches_are : now.trace.fetches ≡ fetches_then start.trace.fetches (length spans)

pub HasReadUpTo-begun : (boxes : List Corners) (t : TreeView) → (first : HasReadUpTo boxes t t None) × (first.spans ≡ [])
HasReadUpTo-begun boxes t = (
  record {
    spans = [];
    answers = refl;
    there = tt;
    taken = tt;
    trace_is = sym (append-nil t.trace.pages);
    fetches_are = refl;
  },
  refl,
)

pub HasReadUpTo-none : (boxes : List Corners) (t : TreeView) → HasReadUpTo boxes t t None
HasReadUpTo-none boxes t = (HasReadUpTo-begun boxes t).0

read_each : (t : TreeView) (spans : List Region) → AllByRecursion (IsRegionOf t) spans → AllByRecursion (IsIn t) spans → AllByRecursion (IsRead t) (map (λ (span : Region). span.page) spans)
read_each t [] there taken = tt
read_each t (span ∷ spans) there taken = ((span, there.0, refl, taken.0), read_each t spans there.1 taken.1)

module _ (boxes : List Corners) (start now new : TreeView) (traced : IsTraced start now) (after : Option Region) (come : HasReadUpTo boxes start now after) where
  -- the pages noted so far
  pub come_notes : {A : Type 0} (x : A) → NotesPages start now (Ok x)
  come_notes x = record {
    noted = map (λ (span : Region). span.page) come.spans;
    trace_is = come.trace_is;
    fetches_are = come.fetches_are ∙ ap (fetches_then start.trace.fetches) (sym (length-map come.spans (λ (span : Region). span.page)));
    read = read_each start come.spans come.there come.taken;
  }

  -- it is whole where these are all answers
  whole : (kept : KeepsTrace now new) → AreMetBy boxes start come.spans → HasReadAll boxes start new
  whole kept all = record {
    spans = come.spans;
    all = all;
    taken = come.taken;
    trace_is = ap (λ (t : Trace). t.pages) kept ∙ come.trace_is;
  }

  given_at_start : (found copied : Option Region) → copied ≡ after → GivesNext boxes now copied found → GivesNext boxes start after found
  given_at_start found copied same gives = traced_gives start now traced boxes after found (subst (λ (o : Option Region). GivesNext boxes now o found) same gives)

  -- as they are where the tree gives no more
  pub all_told : (copied : Option Region) → copied ≡ after → HasReadNext boxes copied now new None → AreMetBy boxes start come.spans
  all_told copied same next = answers_ended boxes start None come.spans after come.answers (given_at_start None copied same next.0)

  pub whole_by : (found copied : Option Region) → copied ≡ after → ((span : Region) → found ≡ Some span → ⊥) → HasReadNext boxes copied now new found → HasReadAll boxes start new
  whole_by None copied same none next = whole next.1 (all_told copied same next)
  whole_by (Some span) copied same none next = absurd (none span refl)

  -- with each region that it gives fewer are left
  pub come_down : (span : Region) (copied : Option Region) → copied ≡ after → HasReadNext boxes copied now new (Some span) → left_after start (Some span) < left_after start after
  come_down span copied same next = left_less boxes start after span (given_at_start (Some span) copied same next.0)

  -- else it has come one region further
  come_further : (span : Region) → GivesNext boxes start after (Some span) → HasNoted span.page now new → IsIn start span
      → (next : HasReadUpTo boxes start new (Some span)) × (next.spans ≡ come.spans ++ span ∷ [])
  come_further span gives noted taken = (
    record {
      spans = come.spans ++ span ∷ [];
      answers = first_more boxes start None come.spans after span come.answers gives;
      there = all_joined (IsRegionOf start) come.spans (span ∷ []) come.there ((next_is_later start boxes after span gives).0, tt);
      taken = all_joined (IsIn start) come.spans (span ∷ []) come.taken (taken, tt);
      trace_is = noted.pages_are ∙ ap (λ (trace : List ℕ). trace ++ span.page ∷ []) come.trace_is ∙ append_assoc start.trace.pages (map (λ (s : Region). s.page) come.spans) (span.page ∷ [])
          ∙ ap (λ (pages : List ℕ). start.trace.pages ++ pages) (sym (map-append (λ (s : Region). s.page) come.spans (span ∷ [])));
      fetches_are = noted.fetches_are ∙ ap (λ (f : ℕ). fetches_then f 1) come.fetches_are ∙ noted_sum start.trace.fetches (length come.spans) 1
          ∙ ap (fetches_then start.trace.fetches) (sym (length-append come.spans (span ∷ [])));
    },
    refl,
  )

  -- the spans are those before, and that one
  pub come_with : (span : Region) (copied : Option Region) → copied ≡ after → HasReadNext boxes copied now new (Some span)
      → (next : HasReadUpTo boxes start new (Some span)) × (next.spans ≡ come.spans ++ span ∷ [])
  come_with span copied same (gives, noted, taken) = come_further span (given_at_start (Some span) copied same gives) noted (subst (λ (t : TreeView). IsIn t span) traced taken)

  pub come_on : (span : Region) (copied : Option Region) → copied ≡ after → HasReadNext boxes copied now new (Some span) → HasReadUpTo boxes start new (Some span)
  come_on span copied same next = (come_with span copied same next).0

-- ---- carrying out

pub is_swept : (kind : Kind) (dim : ℕ) (is_descending : Bool) → kind ≡ Sweep dim is_descending → IsSwept kind
is_swept Empty dim is_descending is = cc
is_swept Scan dim is_descending is = cc
is_swept (Sweep other goes) dim is_descending is = tt

-- of a plan that is no sweep nothing is said of one
no_sweep : {A : Type 0} (rows : A → ℕ) (r : Result A ReadFault) (p : PlanView) (t new : TreeView) → ¬ IsSwept p.kind → ReadsSwept p t new rows r
no_sweep rows r p t new apart = λ dim is_descending of. absurd (apart (is_swept p.kind dim is_descending of.1))

pub carries_none : {A : Type 0} (rows : A → ℕ) (x : A) (p : PlanView) (t new : TreeView) → ¬ IsSwept p.kind → KeepsTrace t new → p.asked.limit ≡ Some 0 → CarriesOut p t new rows (Ok x)
carries_none rows x p t new apart kept none = record {
  notes = notes_none (Ok x) t new kept;
  scans = λ scan some. absurd (some none);
  sweeps = no_sweep rows (Ok x) p t new apart;
}

-- nor is a page noted where a call is refused at once
pub carries_failed : {A : Type 0} (rows : A → ℕ) (e : ReadFault) (p : PlanView) (t new : TreeView) → KeepsTrace t new → CarriesOut {A = A} p t new rows (Err e)
carries_failed rows e p t new kept = record { notes = notes_none (Err e) t new kept; scans = λ apart some. tt; sweeps = λ dim is_descending of. inl kept }

pub carries_all : {A B : Type 0} (rows : A → ℕ) (x : B) (y : A) (p : PlanView) (t new : TreeView) → ¬ IsSwept p.kind → NotesPages t new (Ok x) → HasReadAll p.covering.boxes t new → CarriesOut p t new rows (Ok y)
carries_all rows x y p t new apart notes all = record {
  notes = notes_ok x y t new notes;
  scans = λ scan some. all;
  sweeps = no_sweep rows (Ok y) p t new apart;
}

pub carries_err : {A B : Type 0} (rows : A → ℕ) (r : Result A ReadFault) (P : ReadFault → Type 0) (q : Result B ReadFault) (p : PlanView) (t new : TreeView) → ¬ IsSwept p.kind → IsErrAnd r P → NotesPages t new q
    → CarriesOut p t new rows r
carries_err rows (Ok x) P q p t new apart is notes = absurd is
carries_err rows (Err e) P q p t new apart is notes =
    record { notes = notes_err (Err e) P q t new is notes; scans = λ scan some. tt; sweeps = no_sweep rows (Err e) p t new apart }

-- the answer, or the fault, handed on
pub carries_ok : {A B : Type 0} (rows : A → ℕ) (others : B → ℕ) (x : A) (y : B) (p : PlanView) (t new : TreeView) → rows x ≡ others y → CarriesOut p t new rows (Ok x) → CarriesOut p t new others (Ok y)
carries_ok rows others x y p t new same carries = record {
  notes = notes_ok x y t new carries.notes;
  scans = carries.scans;
  sweeps = λ dim is_descending of. subst (λ (count : ℕ). HasSweptSome p.covering.boxes dim is_descending p.asked.limit t new count) same (carries.sweeps dim is_descending of);
}

pub carries_on : {A B : Type 0} (rows : A → ℕ) (others : B → ℕ) (r : Result B ReadFault) (P : ReadFault → Type 0) (e : ReadFault) (p : PlanView) (t new : TreeView) → IsErrAnd r P
    → CarriesOut {A = A} p t new rows (Err e) → CarriesOut p t new others r
carries_on rows others (Ok x) P e p t new is carries = absurd is
carries_on {A = A} rows others (Err f) P e p t new is carries =
    record { notes = notes_err {B = A} (Err f) P (Err e) t new is carries.notes; scans = λ apart some. tt; sweeps = carries.sweeps }

-- a sweep, whatever the tree
pub carries_swept : {A : Type 0} (rows : A → ℕ) (r : Result A ReadFault) (p : PlanView) (t new : TreeView) → IsSwept p.kind → NotesPages t new r → ReadsSwept p t new rows r → CarriesOut p t new rows r
carries_swept rows r p t new swept notes reads = record { notes = notes; scans = λ apart some. absurd (apart swept); sweeps = reads }

-- one that a fault has ended
pub swept_err : {A : Type 0} (rows : A → ℕ) (r : Result A ReadFault) (P : ReadFault → Type 0) (p : PlanView) (t new : TreeView) → IsErrAnd r P
    → ((dim : ℕ) (is_descending : Bool) → IsSweepOf t.schema p dim is_descending → KeepsTrace t new ⊎ HasSweptFirst p.covering.boxes dim is_descending t new) → ReadsSwept p t new rows r
swept_err rows (Ok x) P p t new is first = absurd is
swept_err rows (Err e) P p t new is first = first

-- ---- what a sweep notes

-- a region that it comes to is one that the tree tells of
come_there : (t : TreeView) (come : List AwaitedRegion) (ahead : List AwaitedStretch) → AreStretchesOf t (lowest come ++ ahead) → AllByRecursion (λ a. IsRegionOf t a.region) come
come_there t [] ahead told = tt
come_there t (a ∷ come) ahead told = (lowest_are_regions t (as_lowest a).stretch told.0 refl, come_there t come ahead told.1)

swept_each : (t : TreeView) (come : List AwaitedRegion) → AllByRecursion (λ a. IsRegionOf t a.region) come → AllByRecursion (λ a. IsIn t a.region) come
    → AllByRecursion (IsRead t) (map (λ (a : AwaitedRegion). a.region.page) come)
swept_each t [] there taken = tt
swept_each t (a ∷ come) there taken = ((a.region, there.0, refl, taken.0), swept_each t come there.1 taken.1)

pub sweeps_notes : {A B : Type 0} (plan : PlanView) (x : A) (y : B) (s new_s : SweepView) (old new : TreeView) → AreItsStretches old s → Sweeps plan s new_s old new (Ok x) → NotesPages old new (Ok y)
sweeps_notes plan x y s new_s old new told sweeps = record {
  noted = sweeps.noted;
  trace_is = sweeps.trace_is;
  fetches_are = sweeps.fetches_are;
  read = subst (λ (pages : List ℕ). AllByRecursion (IsRead old) pages) (sym sweeps.taken.0)
      (swept_each old sweeps.come
      (come_there old sweeps.come sweeps.ahead (all_below old plan.covering.boxes s.awaited (lowest sweeps.come ++ sweeps.ahead) told sweeps.left.below)) sweeps.taken.1);
}

pub broken_notes : {A B : Type 0} (plan : PlanView) (r : Result A ReadFault) (P : ReadFault → Type 0) (e : SweepFault) (s new_s : SweepView) (old new : TreeView) → IsErrAnd r P
    → Sweeps {A = B} plan s new_s old new (Err e) → NotesPages old new r
broken_notes plan (Ok x) P e s new_s old new is sweeps = absurd is
broken_notes plan (Err f) P e s new_s old new is sweeps = record {
  noted = sweeps.noted;
  trace_is = sweeps.trace_is;
  fetches_are = sweeps.fetches_are;
  read = tt;
}
