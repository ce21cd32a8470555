-- How a command has ended, by what was written and what its words ask for.
use Rattle.std.proofs.Common.{◌≡◌, ◌≢◌, ◌⊎◌, ◌==◌, ◌++◌, ℕ, Bool, true, false, if◌then◌else◌, List, [], Some, inl, inr, codes, refl, subst}
use Rattle.ub_load.specs.LoadedTable.{records_of}
use Rattle.ub_load.specs.Refusals.{first_refusal}
use Rattle.ub_load.specs.declared.fault.LoadFault.{LoadFault}
use Rattle.ub_load.specs.declared.fault.LoadFault.TheVariants as load
use Rattle.ub_tree.specs.declared.fault.TreeFault.{TreeFault}
use Rattle.ub_tree.specs.declared.fault.TreeFault.TheVariants as tree
use Rattle.ub_script.proofs.Laws.{Puts-more, front_after}
use Rattle.ub_script.specs.Output.{OutFacts, Puts, Takes}
use Rattle.ub_script.specs.Run.{IsBegun, IsBroken, IsDone}
use Rattle.ub_script.specs.declared.fault.RunFault.TheVariants as run
use Rattle.ub_script.specs.declared.script.Summary.{Summary}
use Rattle.ub_store.specs.declared.fault.StoreFault.TheVariants.{BadSize}
use Rattle.ub_shell.specs.Ending.{AreBrokenTexts, Ends, HasTried, IsTrialText, Trial}
use Rattle.ub_table_file.specs.Status.{Tells, load_fault_status, load_fault_text, summary_status, tree_fault_status, tree_fault_text}
use Rattle.ub_table_file.specs.declared.status.Status.{Status}
use Rattle.ub_table_file.specs.declared.status.Status.TheVariants.{Done, Refused, CommandLine, Data, Device}
use Rattle.ub_table_file.specs.declared.status.Status.TheVariants as ended

-- ---- writing

-- where bytes were told that are whole with the status wanted, it has ended
pub told_ends : (whole : List ℕ → Status → Type 0) (broken : List ℕ → Type 0) (old new : OutFacts) (bytes : List ℕ) (wanted status : Status)
    → whole bytes wanted → Tells old new bytes wanted status → Ends whole broken old new status
told_ends whole broken old new bytes wanted status is (inl told) = inl (bytes, rw told.0 is, told.1)
told_ends whole broken old new bytes wanted status is (inr (failed, (front, cut, taken))) = inr (failed, (front, inr (wanted, bytes, is, cut), taken))

-- what is whole for one thing is so for another
pub ends_as : (whole more : List ℕ → Status → Type 0) (broken others : List ℕ → Type 0) (old new : OutFacts) (status : Status)
    → ((bytes : List ℕ) (s : Status) → whole bytes s → more bytes s) → ((bytes : List ℕ) → broken bytes → others bytes)
    → Ends whole broken old new status → Ends more others old new status
ends_as whole more broken others old new status is cut (inl h) = inl (h.0, is h.0 status h.1, h.2)
ends_as whole more broken others old new status is cut (inr (failed, (bytes, inl off, taken))) = inr (failed, (bytes, inl (cut bytes off), taken))
ends_as whole more broken others old new status is cut (inr (failed, (bytes, inr (wanted, all, of_all, front), taken))) =
    inr (failed, (bytes, inr (wanted, all, is all wanted of_all, front), taken))

-- what is told after other bytes were written is told with them
pub told_after : (old mid new : OutFacts) (front bytes : List ℕ) (wanted status : Status)
    → Puts front old mid → Tells mid new bytes wanted status → Tells old new (front ++ bytes) wanted status
told_after old mid new front bytes wanted status begun (inl told) = inl (told.0, Puts-more old mid new front bytes false begun told.1)
told_after old mid new front bytes wanted status begun (inr (failed, (cut, is, taken))) =
    inr (failed, (front ++ cut, front_after cut bytes front is, Puts-more old mid new front cut true begun taken))

-- and after nothing was written
pub told_since : (old mid new : OutFacts) (bytes : List ℕ) (wanted status : Status) → mid ≡ old → Tells mid new bytes wanted status → Tells old new bytes wanted status
told_since old mid new bytes wanted status same told = subst (λ (o : OutFacts). Tells o new bytes wanted status) same told

-- ---- a script on the table of a text

either : (b : Bool) (P : Status → Type 0) → P Done → P Refused → P (if b then Done else Refused)
either true P done refused = done
either false P done refused = refused

-- a run to the end
pub run_ends : (t : Trial) (old new : OutFacts) (summary : Summary) → Takes (IsDone t.text t.axes t.page_rows t.name t.script summary) false old new
    → HasTried t old new (summary_status summary)
run_ends t old new summary (bytes, run, taken) =
    let whole = either (summary.refused == 0) (λ s. s ≡ summary_status summary → IsTrialText t bytes s)
    (λ is. record { summary = summary; run = run; ended = is }) (λ is. record { summary = summary; run = run; ended = is }) in
    inl (bytes, whole refl, taken)

-- a run that a failed write broke off
pub broken_ends : (t : Trial) (old new : OutFacts) → Takes (IsBroken t.text t.axes t.page_rows t.name t.script) true old new → HasTried t old new Device
broken_ends t old new (bytes, off, taken) = inr (refl, (bytes, inl off, taken))

-- a run that wanted memory
pub memory_ends : (t : Trial) (old mid new : OutFacts) (status : Status)
    → (mid ≡ old) ⊎ Takes (IsBegun t.text t.axes t.page_rows t.name t.script run.Memory) false old mid
    → Tells mid new (codes "! Memory\n") ended.Memory status → HasTried t old new status
memory_ends t old mid new status (inl same) told =
    told_ends (IsTrialText t) (AreBrokenTexts t) old new _ _ status (record { texts = []; first = inl refl; line = refl }) (told_since old mid new _ _ status same told)
memory_ends t old mid new status (inr (texts, begun, taken)) told =
    told_ends (IsTrialText t) (AreBrokenTexts t) old new _ _ status (record { texts = texts; first = inr begun; line = refl })
    (told_after old mid new texts _ _ status taken told)

-- a run that found no number, or no room, for a row
full_text : (t : Trial) (texts : List ℕ) (fault : TreeFault) → (fault ≡ tree.Full) ⊎ (fault ≡ tree.Store BadSize)
    → IsBegun t.text t.axes t.page_rows t.name t.script (run.Tree fault) texts → IsTrialText t (texts ++ tree_fault_text fault) (tree_fault_status fault)
full_text t texts fault (inl full) begun =
    rw full (inr (record { fault = tree.Full; is = inl refl; texts = texts; first = rw full at begun; line = refl }))
full_text t texts fault (inr size) begun =
    rw size (inr (record { fault = tree.Store BadSize; is = inr refl; texts = texts; first = rw size at begun; line = refl }))

pub full_ends : (t : Trial) (old mid new : OutFacts) (fault : TreeFault) (status : Status) → (fault ≡ tree.Full) ⊎ (fault ≡ tree.Store BadSize)
    → Takes (IsBegun t.text t.axes t.page_rows t.name t.script (run.Tree fault)) false old mid
    → Tells mid new (tree_fault_text fault) (tree_fault_status fault) status → HasTried t old new status
full_ends t old mid new fault status is (texts, begun, taken) told =
    told_ends (IsTrialText t) (AreBrokenTexts t) old new _ _ status (full_text t texts fault is begun) (told_after old mid new texts _ _ status taken told)

-- the line of a table that was refused, which is never for the store to have failed
refused_line : (t : Trial) (fault : LoadFault) → (fault ≢ load.Csv → first_refusal t.axes t.name (records_of t.text) ≡ Some fault)
    → ((of_tree : TreeFault) → fault ≡ load.Tree of_tree → of_tree ≡ tree.Full)
    → IsTrialText t (load_fault_text fault) (load_fault_status fault)
refused_line t load.Memory first full = record { texts = []; first = inl refl; line = refl }
refused_line t load.NoHeader first full = inl (record { fault = load.NoHeader; first = first; line = refl })
refused_line t (load.BadName n) first full = inl (record { fault = load.BadName n; first = first; line = refl })
refused_line t load.ColumnCount first full = inl (record { fault = load.ColumnCount; first = first; line = refl })
refused_line t (load.BadNumber row column) first full = inl (record { fault = load.BadNumber row column; first = first; line = refl })
refused_line t (load.OutOfRange row column) first full = inl (record { fault = load.OutOfRange row column; first = first; line = refl })
refused_line t load.Csv first full = inl (record { fault = load.Csv; first = first; line = refl })
refused_line t (load.Tree of_tree) first full =
    let same = full of_tree refl in
    rw same (inl (record { fault = load.Tree tree.Full; first = rw same at first; line = refl }))

pub refused_ends : (t : Trial) (old mid new : OutFacts) (fault : LoadFault) (status : Status)
    → ((mid ≡ old) × (fault ≢ load.Csv → first_refusal t.axes t.name (records_of t.text) ≡ Some fault))
    → ((of_tree : TreeFault) → fault ≡ load.Tree of_tree → of_tree ≡ tree.Full)
    → Tells mid new (load_fault_text fault) (load_fault_status fault) status → HasTried t old new status
refused_ends t old mid new fault status why full told =
    told_ends (IsTrialText t) (AreBrokenTexts t) old new _ _ status (refused_line t fault why.1 full) (told_since old mid new _ _ status why.0 told)
