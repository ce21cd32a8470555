-- A table that is read of a CSV text before any store is there: its rows are in the regions that they make.
use Rattle.std.specs.Prelude.{◌≡◌, ◌+◌, ℕ, List, [], Option, Result, IfErr, IfOk, length}
use Rattle.ub_laying.specs.Begun.{CanLay}
use Rattle.ub_load.specs.Calls.{MayGive}
use Rattle.ub_load.specs.LoadedTable.{IsLoaded}
use Rattle.ub_load.specs.LoadedTree.{IsLoadedTree, loaded_regions}
use Rattle.ub_load.specs.Loading.{IsLoadFault}
use Rattle.ub_load.specs.declared.fault.LoadFault.{LoadFault}
use Rattle.ub_load.specs.declared.fault.LoadFault.TheVariants.{Memory}
use Rattle.ub_load.specs.declared.grown.GrownTable.{GrownTable}
use Rattle.ub_region.specs.Regions.{AreTableRows}
use Rattle.ub_store.specs.Facts.{memory_facts}
use Rattle.ub_table.specs.declared.axes.Axes.{Axes}
use Rattle.ub_table.specs.declared.row.Row.{Row}
use Rattle.ub_tree.specs.View.{TreeView}

-- the table that the text holds: its rows are in the regions that they make where they are put in one after the other, and these can be
-- laid
pub record IsGrownTable (text : List ℕ) (axes : Axes) (page_rows : ℕ) (name : List ℕ) (table : GrownTable) : Type 0 where
  pub rows : List Row
  pub loaded : IsLoaded text axes page_rows name table.schema rows
  pub grown_are : table.grown ≡ loaded_regions axes.dims page_rows rows
  pub table_is : AreTableRows table.grown rows
  pub next_is : table.next ≡ length rows + 1
  pub can_lay : CanLay table.schema table.next table.grown

-- the table of a CSV text was to be read, with this answer: that table; or why it isn't read, as of a text that is loaded into a store in
-- memory
pub record ReadsTable (text : List ℕ) (axes : Axes) (page_rows : ℕ) (name : List ℕ) (result : Result GrownTable LoadFault) : Type 0 where
  pub read : IfOk result (IsGrownTable text axes page_rows name)
  pub refused : IfErr result (IsLoadFault axes name text (memory_facts []))

-- the table of the text that a source gives was to be read, where this is known of what it gives: the answer is that for such a text
pub record ReadsFrom (known : Option (List ℕ)) (axes : Axes) (page_rows : ℕ) (name : List ℕ) (result : Result GrownTable LoadFault) : Type 0 where
  pub text : List ℕ
  pub text_is : MayGive known text
  pub reads : ReadsTable text axes page_rows name result

-- a table that was read was to be laid in memory, with this answer: a sound tree that has the table of the text, whichever text it was
-- read of; or that memory was refused
pub record LaysGrown (table : GrownTable) (result : Result TreeView LoadFault) : Type 0 where
  pub laid : (text : List ℕ) (axes : Axes) (page_rows : ℕ) (name : List ℕ) → IsGrownTable text axes page_rows name table
      → IfOk result (IsLoadedTree text axes page_rows name)
  pub refused : IfErr result (λ fault. fault ≡ Memory)
