-- What carrying out a plan answers.
use Rattle.std.specs.Prelude.{◌≡◌, List}
use Rattle.ub_exec.specs.Common.{AreTableRows, Asked, Cell, IsMeaning, IsSound, plan_of, PlanView, regions, Row, Sweep, TreeView}
use Rattle.ub_planning.specs.declared.planned.Kind.{Kind}
use Rattle.ub_planning.specs.declared.planned.Kind.TheVariants.{Empty, Scan}
use Rattle.ub_store.specs.View.{emptied}

-- the tree is sound, and the plan is that of its query over the tree's schema
pub record IsReady (t : TreeView) (p : PlanView) : Type 0 where
  pub sound : IsSound t
  pub planned : p ≡ plan_of t.schema p.asked

-- what a query means on the rows of a tree's table
abbrev pub IsAnswer : TreeView → Asked → List (List Cell) → Type 0
IsAnswer t q cells = (rows : List Row) → AreTableRows (regions t) rows → IsMeaning (record { schema = t.schema; rows = rows }) q cells

-- the tree with an empty trace
abbrev pub begun : TreeView → TreeView
begun t = record t { trace = emptied t.trace }

-- the regions are read in the order of a dimension
abbrev pub IsSwept : Kind → Type 0
IsSwept Empty = ⊥
IsSwept Scan = ⊥
IsSwept (Sweep dim is_descending) = Unit {0}
