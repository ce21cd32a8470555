-- What running a script on the table of a CSV text promises.
use Rattle.std.specs.Prelude.{◌≡◌, ◌≢◌, ◌⊎◌, ℕ, true, false, List, Some, Result, Err, IfOk, IsErrOf}
use Rattle.ub_load.specs.LoadedTable.{records_of}
use Rattle.ub_load.specs.Refusals.{first_refusal}
use Rattle.ub_load.specs.declared.fault.LoadFault.{LoadFault}
use Rattle.ub_load.specs.declared.fault.LoadFault.TheVariants.{Csv, Tree as of_tree}
use Rattle.ub_script.specs.Output.{OutFacts, Takes}
use Rattle.ub_script.specs.Run.{IsBegun, IsBroken, IsDone}
use Rattle.ub_script.specs.declared.fault.RunFault.{RunFault}
use Rattle.ub_script.specs.declared.fault.RunFault.TheVariants.{Load, Memory, Tree, Write}
use Rattle.ub_script.specs.declared.script.Summary.{Summary}
use Rattle.ub_store.specs.declared.fault.StoreFault.TheVariants.{BadSize}
use Rattle.ub_table.specs.declared.axes.Axes.{Axes}
use Rattle.ub_tree.specs.declared.fault.TreeFault.{TreeFault}
use Rattle.ub_tree.specs.declared.fault.TreeFault.TheVariants.{Full, Store}

-- a script was to be run on the table of a CSV text, with this answer. To its end: its text is written. Where the text is no table
-- nothing is written, and the fault is the first thing that is wrong with it, unless `csv` refused a record; where that is one of the tree
-- it is Full. After a failed write a front of the texts of the first statements is written, and nothing after it. Where memory is
-- refused, nothing is written, or the texts of the first statements and no more. After a fault of the tree, which is Full or want of
-- room in the store, the texts of the first statements are written, and no more
pub record Tries (text : List ℕ) (axes : Axes) (page_rows : ℕ) (name script : List ℕ) (result : Result Summary RunFault)
    (out out_now : OutFacts) : Type 0 where
  pub done : IfOk result (λ summary. Takes (IsDone text axes page_rows name script summary) false out out_now)
  pub load : (fault : LoadFault) → result ≡ Err (Load fault)
      → (out_now ≡ out) × (fault ≢ Csv → first_refusal axes name (records_of text) ≡ Some fault)
  pub write : IsErrOf result Write → Takes (IsBroken text axes page_rows name script) true out out_now
  pub memory : IsErrOf result Memory
      → (out_now ≡ out) ⊎ Takes (IsBegun text axes page_rows name script Memory) false out out_now
  pub of_tree : (fault : TreeFault) → result ≡ Err (Load (of_tree fault)) → fault ≡ Full
  pub tree : (fault : TreeFault) → result ≡ Err (Tree fault)
      → ((fault ≡ Full) ⊎ (fault ≡ Store BadSize)) × Takes (IsBegun text axes page_rows name script (Tree fault)) false out out_now
