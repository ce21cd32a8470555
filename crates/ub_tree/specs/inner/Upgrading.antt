-- What stands on the new pages of a table that is upgraded, and the check of its tree.
use Rattle.std.specs.Prelude.{◌≡◌, ℕ, List, Result, Err, IfErr, IfOk, OnOk, length, map}
use Rattle.ub_tree.specs.Common.{ArePlaced, AreRegions, entry_of, HasIndex, IndexView, IsHonest, IsSound, OldHeader, Placed, regions_in, Rejected}
use Rattle.ub_tree.specs.Common.{reserved, rows_of, Schema, StoreFacts, TreeFault, TreeView}
use Rattle.ub_tree.specs.Checking.{IsCheckFault, IsWell}
use Rattle.ub_tree.specs.Effects.{read_store}
use Rattle.ub_tree.specs.Opened.{IsPassing}

-- the new pages hold these regions of an old table, of which the header tells, and an index of them
pub record IsCarried (schema : Schema) (placed : List Placed) (next : ℕ) (head : OldHeader) (index : IndexView) (pages : List (List ℕ)) : Type 0 where
  pub schema_is : head.header.schema ≡ schema
  pub next_is : head.header.next ≡ next
  pub rows_are : head.header.rows ≡ length (rows_of (regions_in placed))
  pub regions_are : head.header.regions ≡ length placed
  pub well_formed : AreRegions schema next (regions_in placed)
  pub indexed : HasIndex index pages (map entry_of placed)
  pub placed_are : ArePlaced schema placed (reserved index pages) pages

-- a tree was to be handed on where its pages are well, and this was answered: the tree; or why not, with its store
pub record HandsOn {S : Type 0} (facts : S → StoreFacts) (t : TreeView) (result : Result TreeView (Rejected S TreeFault)) : Type 0 where
  pub same : IfOk result (λ u. u ≡ t)
  pub well : IsHonest t.store → OnOk result (IsWell t)
  pub sound : IsSound t → IfErr result (λ refused. IsPassing refused.fault)
  pub refused : IfErr result (λ refused. IsCheckFault t refused.fault)
  pub left : IfErr result (λ refused. facts refused.store ≡ read_store {A = S} (Err refused.fault) t.store)
