-- What a tree keeps over several calls that read it.
use Rattle.std.proofs.Common.{rules, ◌≡◌, ◌≤◌, ◌∙◌, inl, inr, ℕ, List, Option, Result, Ok, Err, IfErr, subst, sym, ap, refl}
use Rattle.ub_tree.proofs.Common.{Corners, counted, emptied, fault_of_tree, GivesNext, IsErrAnd, IsGiven, IsPageMissing, IsPageRefused, IsReadFault, IsRegionOf}
use Rattle.ub_tree.proofs.Common.{IsSearchFault, IsSound, IsStopped, IsWalkFault, KeepsRegions, KeepsTrace, Key, page_count, PageFault, raised_by, ReadFault}
use Rattle.ub_tree.proofs.Common.{ReadsTree, Region, SearchesTree, SeeksNext, Trace, TreeFault, TreeView}
use Rattle.ub_tree.specs.Reading.{read_store}
use Rattle.ub_store.specs.declared.fault.StoreFault.TheVariants as store
use Rattle.ub_tree.specs.declared.fault.TreeFault.TheVariants as tree
use Rattle.ub_tree.specs.declared.read_fault.ReadFault.TheVariants as read

-- nothing but the trace and the count of fetches has changed
abbrev pub IsTraced : TreeView → TreeView → Type 0
IsTraced old new = new ≡ record old { trace = new.trace }

-- what such a tree keeps
pub record Keeps (old new : TreeView) : Type 0 where
  pub traced : IsTraced old new
  pub regions : KeepsRegions old new
  pub sound : IsSound old → IsSound new

retraced : (t : TreeView) (trace : Trace) → IsSound t → IsSound (record t { trace = trace })
retraced t trace h = search rules

pub Keeps-by : (old new : TreeView) → IsTraced old new → Keeps old new
Keeps-by old new is = record {
  traced = is;
  regions = subst (λ (t : TreeView). KeepsRegions old t) (sym is) (record { schema = refl; placed = refl; rows = refl; next = refl });
  sound = λ sound. subst IsSound (sym is) (retraced old new.trace sound);
}

-- where the trace begins anew
pub begun_traced : (old new : TreeView) → new ≡ record old { trace = emptied old.trace } → IsTraced old new
begun_traced old new is = is ∙ ap (λ (t : TreeView). record old { trace = t.trace }) (sym is)

-- where nothing has changed
pub unchanged_traced : (old new : TreeView) → new ≡ old → IsTraced old new
unchanged_traced old new is = is ∙ ap (λ (t : TreeView). record old { trace = t.trace }) (sym is)

pub unchanged_trace : (old new : TreeView) → new ≡ old → KeepsTrace old new
unchanged_trace old new is = ap (λ (t : TreeView). t.trace) is

-- a tree of which only the trace has changed tells of the same regions, and gives the same answers
pub traced_told : (old new : TreeView) → IsTraced old new → (region : Region) → IsRegionOf new region → IsRegionOf old region
traced_told old new h region k = search rules

-- and so does one that has the same pages and the same index
pub told_kept : (old new : TreeView) → new.store.honest ≡ old.store.honest → new.store.pages ≡ old.store.pages → new.inner ≡ old.inner
    → (region : Region) → IsRegionOf old region → IsRegionOf new region
told_kept old new h k j region l = search rules

pub traced_gives : (old new : TreeView) → IsTraced old new → (boxes : List Corners) (after found : Option Region) → GivesNext boxes new after found → GivesNext boxes old after found
traced_gives old new h boxes after found k = search rules

pub Keeps-none : (t : TreeView) → Keeps t t
Keeps-none t = Keeps-by t t refl

pub Keeps-more : (a b c : TreeView) → Keeps a b → Keeps b c → Keeps a c
Keeps-more a b c h k = Keeps-by a c (k.traced ∙ ap (λ (t : TreeView). record t { trace = c.trace }) h.traced)

-- ---- a call's fault, seen from before an earlier call that only read

page_refused_before : (a b : TreeView) (number : ℕ) (fault : PageFault) → IsTraced a b → IsPageRefused b number fault → IsPageRefused a number fault
page_refused_before a b number fault h k = search rules

page_missing_before : (a b : TreeView) → IsTraced a b → IsPageMissing b → IsPageMissing a
page_missing_before a b h (inl stops) = inl (subst (λ (t : TreeView). IsStopped t) h stops)
page_missing_before a b h (inr (span, told, past)) = inr (span, traced_told a b h span told, subst (λ (t : TreeView). page_count t.store ≤ span.page) h past)

pub read_fault_before : (a b : TreeView) (fault : TreeFault) → IsTraced a b → IsReadFault b fault → IsReadFault a fault
read_fault_before a b fault h k = search (rules, Keeps-by, page_missing_before, page_refused_before)

pub given_before : (a b : TreeView) (fault : ReadFault) → IsTraced a b → IsGiven b fault → IsGiven a fault
given_before a b read.Memory h is = tt
given_before a b (read.Tree fault) h is = (read_fault_before a b fault h is.0, is.1)

-- a search to some keys is refused as a search is
pub searched_fault : (Sought : Key → Type 0) (t : TreeView) (e : TreeFault) → IsSearchFault Sought t e → IsReadFault t e
searched_fault Sought t tree.Failed h = h
searched_fault Sought t tree.Memory h = tt
searched_fault Sought t (tree.Page n fault) h = (h.0, inl (λ honest. let way = h.1 honest in (way.0, way.2)))
searched_fault Sought t (tree.Store store.Device) h = h
searched_fault Sought t (tree.Store store.NoPage) h = (h.0, inl (h.1.0, h.1.1, λ honest. let way = h.1.2 honest in (way.0, way.2)))
searched_fault Sought t e h = absurd h

-- ---- calls that read, one after the other

-- reading after reading is reading
pub reads_then : {T : Type 0} (r : Result T ReadFault) (a b c : TreeView) → IsTraced a b → ReadsTree b c r → ReadsTree a c r
reads_then r a b c h k = search (rules, given_before)

-- the fault of a call handed on
pub reads_by : {T U : Type 0} (r : Result T ReadFault) (e : ReadFault) (a b c : TreeView) → IsErrAnd r (λ x. x ≡ e) → IsTraced a b → ReadsTree {A = U} b c (Err e) → ReadsTree a c r
reads_by (Ok x) e a b c is h reads = absurd is
reads_by {T = T} (Err f) e a b c is h reads = rw is (reads_then {T = T} (Err e) a b c h (record { same = reads.same; faults = reads.faults }))

-- the fault of a call of the tree handed on
pub given_of : (t : TreeView) (e : TreeFault) → IsReadFault t e → IsGiven t (fault_of_tree e)
given_of t e h = search rules

pub counted_of : (T : Type 0) (e : TreeFault) (n : ℕ) → counted {A = T} (Err (fault_of_tree e)) n ≡ raised_by e n
counted_of T e n = search rules

pub tree_reads : {T : Type 0} (r : Result T ReadFault) (e : TreeFault) (a b c : TreeView) → IsErrAnd r (λ x. x ≡ fault_of_tree e) → IsTraced a b
    → c ≡ record b { store = record b.store { failed_reads = raised_by e b.store.failed_reads }; trace = c.trace } → IsReadFault b e → ReadsTree a c r
tree_reads (Ok x) e a b c is h same fault = absurd is
tree_reads {T = T} (Err f) e a b c is h same fault =
    rw is (reads_then {T = T} (Err (fault_of_tree e)) a b c h (record {
      same = same ∙ ap (λ (n : ℕ). record b { store = record b.store { failed_reads = n }; trace = c.trace }) (sym (counted_of T e b.store.failed_reads));
      faults = given_of b e fault;
    }))

-- ---- calls that search

-- a walk is refused as a search is
pub walk_given : (boxes : List Corners) (t : TreeView) (e : ReadFault) → IsWalkFault boxes t e → IsGiven t e
walk_given boxes t read.Memory h = tt
walk_given boxes t (read.Tree fault) (other, found, after, first, h) = (searched_fault (SeeksNext boxes t after) t fault h, other)

-- a walk reads no more than what a tree is searched for
pub searched_read : {A : Type 0} {boxes : List Corners} (old new : TreeView) (r : Result A ReadFault) → SearchesTree boxes old new r → ReadsTree old new r
searched_read {A = A} {boxes = boxes} old new r h = record {
  same = h.same ∙ ap (λ (t : TreeView). record old { store = read_store r old.store; trace = t.trace }) (sym h.same);
  faults = given r h.faults;
}
  where
    given : (r : Result A ReadFault) → IfErr r (IsWalkFault boxes old) → IfErr r (IsGiven old)
    given (Ok x) faults = tt
    given (Err e) faults = walk_given boxes old e faults

-- where only the count of failed reads has changed, a sound tree is sound
retold : (t : TreeView) (n : ℕ) → IsSound t → IsSound (record t { store = record t.store { failed_reads = n } })
retold t n h = search rules

module _ {A : Type 0} (old new : TreeView) (r : Result A ReadFault) (same : new ≡ record old { store = read_store r old.store }) where
  pub searched_sound : IsSound old → IsSound new
  searched_sound sound = subst IsSound (sym same) (retold old (counted r old.store.failed_reads) sound)

  pub searched_regions : KeepsRegions old new
  searched_regions = subst (λ (t : TreeView). KeepsRegions old t) (sym same) (record { schema = refl; placed = refl; rows = refl; next = refl })
