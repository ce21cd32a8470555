-- The tree of a table that is loaded: what stands where it was begun once its regions are laid.
use Rattle.std.specs.Prelude.{◌≡◌, ◌≤◌, ◌+◌, ◌*◌, ℕ, suc, true, false, List, [], ◌∷◌, Result, IfErr, IfOk, length}
use Rattle.ub_tree.specs.Common.{HasMark, IsHonest, IsSound, page_count, Placed, region_count, RegionRows, regions, Rejected, rows_of, Store}
use Rattle.ub_tree.specs.Common.{StoreFacts, TreeFault, TreeView, untouched}
use Rattle.ub_laying.specs.Begun.{BegunView}
use Rattle.ub_laying.specs.Effects.{HasFailedOnce, HasNotFailed, written}
use Rattle.ub_tree.specs.Calls.{IsCreateFault}
use Rattle.ub_store.specs.declared.fault.StoreFault.TheVariants as store

-- these regions on pages that follow each other from this number on
abbrev pub placed_from : ℕ → List RegionRows → List Placed
placed_from n [] = []
placed_from n (region ∷ regions) = record { page = n; region = region } ∷ placed_from (suc n) regions

-- the tree of these regions, laid over a store where its table was begun; it counts as changed, so that closing it writes and syncs it
pub record IsLaid (begun : BegunView) (next : ℕ) (grown : List RegionRows) (t : TreeView) : Type 0 where
  pub schema_is : t.schema ≡ begun.schema
  pub sound : IsHonest begun.store → IsSound t
  pub placed_are : IsHonest begun.store → t.placed ≡ placed_from 1 grown
  pub regions_are : IsHonest begun.store → regions t ≡ grown
  pub count_is : region_count t ≡ length grown
  pub rows_are : t.rows ≡ length (rows_of grown)
  pub next_is : t.next ≡ next
  pub store_is : t.store ≡ record begun.store { pages = t.store.pages; synced = t.store.synced }
  pub pages : page_count t.store ≤ 1 + 2 * length grown
  pub working : t.is_failed ≡ false
  pub changed : t.is_changed ≡ true
  pub trace_is : t.trace ≡ untouched

-- the counts of a store after a refusal with this fault: the device's fault raises one of them by one
abbrev pub CountsFault : TreeFault → StoreFacts → StoreFacts → Type 0
CountsFault (Store store.Device) old new = HasFailedOnce old new
CountsFault _ old new = HasNotFailed old new

-- these regions were to be laid where a table was begun, and this was answered: its tree; or why not, with the store, which isn't opened as a table
pub record LaysTable {S : Type 0} (facts : S → StoreFacts) (begun : BegunView) (next : ℕ) (grown : List RegionRows) (result : Result TreeView (Rejected S TreeFault)) : Type 0 where
  pub laid : IfOk result (IsLaid begun next grown)
  pub unopened : IsHonest begun.store → IfErr result (λ refused. HasMark begun.schema (facts refused.store).pages)
  pub refused : IfErr result (λ refused. IsCreateFault begun.store refused.fault)
  pub same : IfErr result (λ refused. facts refused.store ≡ written begun.store (facts refused.store))
  pub counts : IfErr result (λ refused. CountsFault refused.fault begun.store (facts refused.store))
