-- What checking an opened tree does on the way to what is told of it.
use Rattle.std.specs.Prelude.{◌≡◌, ◌⊎◌, List, ℕ, Result, Ok, Err, IfErr, IfOk, IsOkAnd, OnOk}
use Rattle.ub_table_file.specs.Commands.{loaded_line}
use Rattle.ub_table_file.specs.declared.making.Counts.{Counts}
use Rattle.ub_store.specs.Facts.{IsHonest}
use Rattle.ub_tree.specs.Checking.{IsCheckFault, IsWell}
use Rattle.ub_tree.specs.Opened.{IsPassing}
use Rattle.ub_tree.specs.View.{TreeView, IsSound, region_count}
use Rattle.ub_tree.specs.declared.fault.TreeFault.{TreeFault}
use Rattle.ub_tree.specs.declared.fault.TreeFault.TheVariants.{Memory}

-- a tree was checked: with its counts where its pages are well, or else with the fault at which that stopped
pub record ChecksTree (t : TreeView) (result : Result Counts TreeFault) : Type 0 where
  pub well : IsHonest t.store → OnOk result (IsWell t)
  pub counts : IfOk result (λ c. (c.rows ≡ t.rows) × (c.regions ≡ region_count t))
  pub exact : IsHonest t.store → IsWell t → IfErr result IsPassing
  pub sound : IsSound t → IfErr result IsPassing
  pub refused : IfErr result (IsCheckFault t)

-- counts were told by a text, where there are any and memory wasn't refused
abbrev pub TellsCounts : {T : Type 0} → (T → List ℕ) → Result Counts TreeFault → Result T TreeFault → Type 0
TellsCounts {T} items counted (Ok text) = IsOkAnd counted (λ c. items text ≡ loaded_line c.rows c.regions)
TellsCounts {T} items counted (Err fault) = (fault ≡ Memory) ⊎ (counted ≡ Err fault)
