-- What the calls of a sweep can answer, and what they leave of the tree.
use Rattle.std.specs.Prelude.{◌≡◌, ◌≢◌, ◌<◌, ◌≤◌, ◌+◌, ◌++◌, [], ◌∷◌, ℕ, zero, suc, Bool, true, false, IsTrue, List, Option, Some, None, Result, Ok, Err, IfErr, OnOk, length, map, take}
use Rattle.ub_tetris.specs.Common.{AllByRecursion, Choice, Corners, Failed as has_failed, filter, is_chosen, IsOpeningFault, IsPermutation}
use Rattle.ub_tetris.specs.Common.{IsSpanFault, IsTakenIn, Memory as no_memory, PlanView, raised, ReadFault, RegionRows, Row, Stretch, SweepFault}
use Rattle.ub_tetris.specs.Common.{Tree, TreeView}
use Rattle.ub_store.specs.View.{emptied}
use Rattle.ub_tetris.specs.Held.{rows_held}
use Rattle.ub_tetris.specs.Awaited.{AreInOrder, AreInPlaceOf, AreValued, AwaitedRegion, AwaitedStretch, IsBelow, lowest}
use Rattle.ub_tetris.specs.Sweep.{SweepView, AreItsStretches, rows_left}
use Rattle.ub_tetris.specs.declared.fault.SweepFault.TheVariants.{Memory, Failed}
use Rattle.ub_tree.specs.Reading.{IsGiven, read_store}
use Rattle.ub_tree.specs.declared.fault.TreeFault.{TreeFault}
use Rattle.ub_tree.specs.declared.read_fault.ReadFault.TheVariants as read

-- a fault of a call that reads a tree, as a sweep's
abbrev pub of_read : ReadFault → SweepFault
of_read (read.Tree fault) = Tree fault
of_read read.Memory = Memory

abbrev pub of_reading : {A : Type 0} → Result A ReadFault → Result A SweepFault
of_reading (Ok x) = Ok x
of_reading (Err fault) = Err (of_read fault)

-- a sweep's fault as one of a call that reads a tree: a sweep that has failed before is as a tree that has
abbrev pub as_read : SweepFault → ReadFault
as_read (Tree fault) = read.Tree fault
as_read Memory = read.Memory
as_read Failed = read.Tree has_failed

abbrev pub as_reading : {A : Type 0} → Result A SweepFault → Result A ReadFault
as_reading (Ok x) = Ok x
as_reading (Err fault) = Err (as_read fault)

-- a fault that a call gives which reads the tree; or the sweep has failed before
abbrev pub IsSweepFault : Bool → TreeView → SweepFault → Type 0
IsSweepFault is_failed old Failed = IsTrue is_failed
IsSweepFault is_failed old fault = IsGiven old (as_read fault)

-- a fault of the reading of a region, which is a stretch of level 0, or of the opening of any other one
abbrev pub IsComingFault : ℕ → Stretch → TreeView → TreeFault → Type 0
IsComingFault zero stretch old fault = IsSpanFault stretch.span old fault
IsComingFault (suc level) stretch old fault = IsOpeningFault stretch old (read.Tree fault)

-- such a fault of one of the stretches that the sweep awaits, or of a part of one, and so on, also where it isn't one of the tree
abbrev pub IsAwaitedFault : List Corners → SweepView → TreeView → SweepFault → Type 0
IsAwaitedFault boxes s old Memory = Unit {0}
IsAwaitedFault boxes s old (Tree fault) =
    ((stretch : Stretch) × IsBelow old boxes s.awaited stretch × IsComingFault stretch.level stretch old fault) × (fault ≢ no_memory)
IsAwaitedFault boxes s old Failed = IsTrue s.is_failed

-- a count of fetches after so many more
abbrev pub fetches_then : ℕ → ℕ → ℕ
fetches_then fetches zero = fetches
fetches_then fetches (suc n) = raised fetches (suc n)

-- why a sweep isn't begun: for want of memory, or the tree has failed
abbrev pub IsBeginFault : TreeView → SweepFault → Type 0
IsBeginFault old Memory = Unit {0}
IsBeginFault old (Tree has_failed) = IsTrue old.is_failed
IsBeginFault old fault = ⊥

-- a sweep was begun: the trace is empty, and else the tree is as it was
pub record Begins {A : Type 0} (old new : TreeView) (result : Result A SweepFault) : Type 0 where
  pub same : new ≡ record old { trace = emptied old.trace }
  pub faults : IfErr result (IsBeginFault old)

-- these are the pages of these regions, each of which was taken in
abbrev pub AreTakenIn : TreeView → List AwaitedRegion → List ℕ → Type 0
AreTakenIn t come pages = (pages ≡ map (λ a. a.region.page) come) × AllByRecursion (λ a. (region : RegionRows) × IsTakenIn t a.region region) come

-- these are the pages of the first of these regions, each once and in their order; that of the last one alone may be missing
pub record AreAsked (come : List AwaitedRegion) (pages : List ℕ) : Type 0 where
  pub first : pages ≡ map (λ a. a.region.page) (take (length pages) come)
  pub most : length come ≤ length pages + 1

-- a sweep read the tree and no more: it came to regions, in its order, whose pages were noted; with the stretches ahead of it, which it awaits where
-- it answers, they came in the place of those awaited before. Over a tree that tells of those it is refused as each call is that reads the tree
pub record Sweeps {A : Type 0} (plan : PlanView) (s new_s : SweepView) (old new : TreeView) (result : Result A SweepFault) : Type 0 where
  pub noted : List ℕ
  pub same : new ≡ record old { store = read_store (as_reading result) old.store; trace = new.trace }
  pub trace_is : new.trace.pages ≡ old.trace.pages ++ noted
  pub fetches_are : new.trace.fetches ≡ fetches_then old.trace.fetches (length noted)
  pub come : List AwaitedRegion
  pub ahead : List AwaitedStretch
  pub left : AreInPlaceOf old plan.covering.boxes s.dim s.is_descending s.awaited (lowest come ++ ahead)
  pub ordered : AreItsStretches old s → AreValued plan.covering.boxes s.dim s.is_descending s.awaited → AreInOrder s.is_descending come ahead
  pub still : OnOk result ((new_s.dim ≡ s.dim) × (new_s.is_descending ≡ s.is_descending) × (new_s.awaited ≡ ahead))
  pub once : AreAsked come noted
  pub taken : OnOk result (AreTakenIn old come noted)
  pub refused : IfErr result (IsAwaitedFault plan.covering.boxes s old)
  pub faults : AreItsStretches old s → IfErr result (IsSweepFault s.is_failed old)
  pub stretches : AreItsStretches old s → OnOk result (AreItsStretches new new_s)

-- after a fault a sweep has failed, and only then; one that has failed changes nothing and answers that
pub record FailsOnce {A : Type 0} (s new_s : SweepView) (old new : TreeView) (result : Result A SweepFault) : Type 0 where
  pub fails : IfErr result (λ fault. new_s.is_failed ≡ true)
  pub works : OnOk result (new_s.is_failed ≡ false)
  pub stays : IsTrue s.is_failed → (result ≡ Err Failed) × (new_s ≡ s) × (new ≡ old)

-- after the end nothing changes
pub record Rests {A : Type 0} (s new_s : SweepView) (old new : TreeView) (result : Result (Option A) SweepFault) : Type 0 where
  pub none : result ≡ Ok None
  pub sweep_is : new_s ≡ s
  pub tree_is : new ≡ old

-- ---- the rows that come, over any tree

-- the rows that a plan takes of these regions, one region after the other: of each, as its page spells it, those that are chosen, as they stand there
abbrev pub AreRowsOf : PlanView → TreeView → List AwaitedRegion → List Row → Type 0
AreRowsOf plan t [] rows = rows ≡ []
AreRowsOf plan t (a ∷ come) rows =
    (region : RegionRows) × IsTakenIn t a.region region × (choice : Choice) × (more : List Row)
    × (rows ≡ filter (is_chosen choice t.schema plan) region.rows ++ more) × AreRowsOf plan t come more

-- these rows came: those of the regions that were come to
pub record HasFound (plan : PlanView) (t : TreeView) (s new_s : SweepView) (rows : List Row) : Type 0 where
  pub come : List AwaitedRegion
  pub left : AreInPlaceOf t plan.covering.boxes s.dim s.is_descending s.awaited (lowest come ++ new_s.awaited)
  pub are : AreRowsOf plan t come rows

-- these rows were given: those held and those that came are the ones given and those held now, so that none is made up, lost or given twice
pub record GivesRows (plan : PlanView) (t : TreeView) (s new_s : SweepView) (given : List Row) : Type 0 where
  pub came : List Row
  pub found : HasFound plan t s new_s came
  pub kept : IsPermutation (rows_held s.held ++ came) (given ++ rows_held new_s.held)

-- what asking for rows answers over any tree: none only where nothing is awaited or held; and else some, after which fewer can still be given
abbrev pub HasAnswered : PlanView → TreeView → SweepView → SweepView → Option (List Row) → Type 0
HasAnswered plan t s new_s None = (new_s.awaited ≡ []) × (new_s.held ≡ []) × GivesRows plan t s new_s []
HasAnswered plan t s new_s (Some rows) = (rows ≢ []) × (rows_left new_s < rows_left s) × GivesRows plan t s new_s rows
