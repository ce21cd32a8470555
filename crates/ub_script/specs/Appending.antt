-- What rows that are put into a tree behind those that it has make of its table, and of any tree.
use Rattle.std.specs.Prelude.{◌≡◌, ◌⊎◌, ◌+◌, ◌<◌, ℕ, List, [], ◌∷◌, ◌++◌, Some, Result, Ok, Err, IfErr, OnOk, length, slice_get, take}
use Rattle.std.specs.List.Sorted.{IsPermutation, IsSortedBy}
use Rattle.ub_region.specs.Regions.{AreTableRows, insert_all, numbered_from}
use Rattle.ub_script.specs.Faults.{Runs}
use Rattle.ub_store.specs.declared.fault.StoreFault.TheVariants.{NoPage}
use Rattle.ub_table.specs.Keys.{precedes}
use Rattle.ub_table.specs.Region.{key_of}
use Rattle.ub_table.specs.declared.row.Row.{Row}
use Rattle.ub_table.specs.declared.row.TheConstants.{MAX_ROW_NUMBER}
use Rattle.ub_tree.specs.Inserted.{InsertsAs}
use Rattle.ub_tree.specs.View.{TreeView, IsSound, KeepsTrace, regions}
use Rattle.ub_tree.specs.declared.fault.TreeFault.{TreeFault}
use Rattle.ub_tree.specs.declared.fault.TreeFault.TheVariants.{Full, Memory, Page, Store}

-- rows, with the numbers from this one on in the order in which they came, stand in the order of their keys
pub record AreByKey (dims first : ℕ) (rows order : List Row) : Type 0 where
  pub same : IsPermutation (numbered_from first rows) order
  pub sorted : IsSortedBy (λ a b. precedes (key_of dims a) (key_of dims b)) order

-- so do the rows that are put into a tree: they get the numbers from the next one on
abbrev pub IsOrderOf : TreeView → List Row → List Row → Type 0
IsOrderOf t rows order = AreByKey t.schema.dims t.next rows order

-- rows were put into a tree one after the other, each with its own number: of each what `Tree::insert_numbered` says
abbrev pub ArePut : TreeView → List Row → TreeView → Type 0
ArePut old [] new = new ≡ old
ArePut old (row ∷ rows) new = (mid : TreeView) × InsertsAs row old mid (Ok row.number) × ArePut mid rows new

-- so many of these rows were put in, the first ones, and this fault came of the next one
pub record ArePutUpTo (old : TreeView) (rows : List Row) (fault : TreeFault) (new : TreeView) : Type 0 where
  pub count : ℕ
  pub row : Row
  pub next : slice_get rows count ≡ Some row
  pub mid : TreeView
  pub put : ArePut old (take count rows) mid
  pub ended : InsertsAs row mid new (Err fault)

-- a fault came before all rows were in: no number is left for the last of them, and none was put in; or memory was refused before the first;
-- or it came of one of them
abbrev pub IsPutEnd : TreeView → List Row → TreeFault → TreeView → Type 0
IsPutEnd old rows fault new =
    ((fault ≡ Full) × (MAX_ROW_NUMBER + 1 < old.next + length rows) × (new ≡ old))
    ⊎ (((fault ≡ Memory) × (new ≡ old))
    ⊎ ((order : List Row) × IsOrderOf old rows order × ArePutUpTo old order fault new))

-- what never comes of a sound tree: that a page is refused, or isn't there
abbrev pub IsNoDamage : TreeFault → Type 0
IsNoDamage (Page page fault) = ⊥
IsNoDamage (Store NoPage) = ⊥
IsNoDamage fault = Unit {0}

-- rows were put into a sound tree: its table has them as its last, in the order in which they came, with the numbers from the next one on;
-- its regions are those into which they were put in the order of their keys
pub record AreAppended (rows : List Row) (old new : TreeView) : Type 0 where
  pub schema : new.schema ≡ old.schema
  pub order : List Row
  pub is : IsOrderOf old rows order
  pub regions_are : regions new ≡ insert_all old.schema.dims old.schema.page_rows order (regions old)
  pub table : (before : List Row) → AreTableRows (regions old) before → AreTableRows (regions new) (before ++ numbered_from old.next rows)
  pub counted : new.rows ≡ old.rows + length rows
  pub sound : IsSound new

-- rows were to be put into a tree, with this answer
pub record PutsRows (old new : TreeView) (rows : List Row) (result : Result (Unit {0}) TreeFault) : Type 0 where
  pub appended : IsSound old → OnOk result (AreAppended rows old new)
  pub put : OnOk result ((order : List Row) × IsOrderOf old rows order × ArePut old order new)
  pub next : OnOk result (new.next ≡ old.next + length rows)
  pub full : MAX_ROW_NUMBER + 1 < old.next + length rows → (result ≡ Err Full) × (new ≡ old)
  pub stopped : IfErr result (λ fault. IsPutEnd old rows fault new × (IsSound old → IsNoDamage fault))
  pub runs : OnOk result (Runs {A = Unit {0}} old new (Ok tt))
  pub trace : KeepsTrace old new
