-- How a run ends whose closing or keeping was refused.
use Rattle.std.proofs.Common.{◌≡◌, ◌⊎◌, ◌∙◌, ℕ, List, Ok, Err, inl, inr, refl, sym}
use Rattle.std.specs.Prelude.{IsOk, Result}
use Rattle.ub_store.specs.declared.fault.StoreFault.{StoreFault}
use Rattle.ub_store.specs.declared.fault.StoreFault.TheVariants as store
use Rattle.ub_table_file.specs.Commands.{TellsRan, both_ended}
use Rattle.ub_table_file.specs.Status.{Tells, store_fault_status, tree_fault_status, tree_fault_text}
use Rattle.ub_table_file.specs.Crashes.{SaysKept}
use Rattle.ub_table_file.specs.declared.status.Status.{Status}
use Rattle.ub_table_file.specs.declared.status.Status.TheVariants as ended
use Rattle.ub_table_file.specs.declared.status.Status.TheVariants.{Done}
use Rattle.ub_script.specs.Output.{OutFacts}
use Rattle.ub_script.specs.declared.fault.RunFault.{RunFault}
use Rattle.ub_script.specs.declared.fault.RunFault.TheVariants as stop
use Rattle.ub_script.specs.declared.script.Summary.{Summary}
use Rattle.ub_tree.specs.Faults.{tree_fault}
use Rattle.ub_tree.specs.declared.fault.TreeFault.{TreeFault}
use Rattle.ub_tree.specs.declared.fault.TreeFault.TheVariants as tree
use Rattle.ub_tree.specs.declared.fault.TreeFault.TheVariants.{Failed}

-- a fault never ends as all that was to be done
pub store_not_done : (fault : StoreFault) → Done ≡ store_fault_status fault → ⊥
store_not_done store.NoPage e = let bad = e in cc
store_not_done store.BadSize e = let bad = e in cc
store_not_done store.Device e = let bad = e in cc
store_not_done store.Memory e = let bad = e in cc

pub tree_not_done : (fault : TreeFault) → Done ≡ tree_fault_status fault → ⊥
tree_not_done tree.Memory e = let bad = e in cc
tree_not_done Failed e = let bad = e in cc
tree_not_done (tree.Store fault) e = store_not_done fault e
tree_not_done tree.Full e = let bad = e in cc
tree_not_done (tree.Page page fault) e = let bad = e in cc

-- nor as one of which a statement was refused
store_not_refused : (fault : StoreFault) → ended.Refused ≡ store_fault_status fault → ⊥
store_not_refused store.NoPage e = let bad = e in cc
store_not_refused store.BadSize e = let bad = e in cc
store_not_refused store.Device e = let bad = e in cc
store_not_refused store.Memory e = let bad = e in cc

tree_not_refused : (fault : TreeFault) → ended.Refused ≡ tree_fault_status fault → ⊥
tree_not_refused tree.Memory e = let bad = e in cc
tree_not_refused Failed e = let bad = e in cc
tree_not_refused (tree.Store fault) e = store_not_refused fault e
tree_not_refused tree.Full e = let bad = e in cc
tree_not_refused (tree.Page page fault) e = let bad = e in cc

-- a line that ends with the status of a file that failed
device_told : (out out_now : OutFacts) (line : List ℕ) (status : Status) → Tells out out_now line ended.Device status → status ≡ ended.Device
device_told out out_now line status (inl told) = told.0
device_told out out_now line status (inr broken) = broken.0

-- a fault after a run to the end isn't told with the status of one that has kept
fault_not_kept : (out out_now : OutFacts) (status : Status) (fault : TreeFault) → Tells out out_now (tree_fault_text fault) (tree_fault_status fault) status
    → (status ≡ Done) ⊎ (status ≡ ended.Refused) → ⊥
fault_not_kept out out_now status fault (inl told) (inl done) = tree_not_done fault (sym done ∙ told.0)
fault_not_kept out out_now status fault (inl told) (inr refused) = tree_not_refused fault (sym refused ∙ told.0)
fault_not_kept out out_now status fault (inr broken) (inl done) = let bad = sym done ∙ broken.0 in cc
fault_not_kept out out_now status fault (inr broken) (inr refused) = let bad = sym refused ∙ broken.0 in cc

-- so a refused closing or keeping isn't
never_says : (result : Result Summary RunFault) (fault : TreeFault) (out out_now : OutFacts) (status : Status) → TellsRan result (Err fault) out out_now status → SaysKept result status → ⊥
never_says (Ok summary) fault out out_now status told says = fault_not_kept out out_now status fault told says
never_says (Err stop.Memory) fault out out_now status told says = says (device_told out out_now _ status told)
never_says (Err stop.Write) fault out out_now status told says = says told.0
never_says (Err (stop.Load of_load)) fault out out_now status told says = says (device_told out out_now _ status told)
never_says (Err (stop.Tree of_tree)) fault out out_now status told says = says (device_told out out_now _ status told)

pub says_done : (result : Result Summary RunFault) (closing : Result (Unit {0}) TreeFault) (keeping : Result (Unit {0}) StoreFault) (out out_now : OutFacts) (status : Status)
    → TellsRan result (both_ended closing keeping) out out_now status → SaysKept result status → IsOk closing × IsOk keeping
says_done result (Ok done) (Ok kept) out out_now status told says = (refl, refl)
says_done result (Ok done) (Err fault) out out_now status told says = absurd (never_says result (tree_fault fault) out out_now status told says)
says_done result (Err fault) keeping out out_now status told says = absurd (never_says result fault out out_now status told says)
