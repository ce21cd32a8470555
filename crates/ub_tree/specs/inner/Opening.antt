-- What the steps of opening a table, and of making one, do to a pager.
use Rattle.std.specs.Prelude.{◌≡◌, Result, IfErr, IfOk, OnErr, OnOk}
use Rattle.ub_tree.specs.Common.{Header, index_of, index_view, IndexView, IsHeader, IsHonest, IsLaidOut, IsUncreated, KeepsChecked, last_address}
use Rattle.ub_tree.specs.Common.{page_count, PagerView, SameTrace, Schema, TreeFault}
use Rattle.ub_index.specs.Opening.{IsAlone}
use Rattle.ub_tree.specs.Calls.{IsCreateFault}
use Rattle.ub_tree.specs.Effects.{read_store, written_store}
use Rattle.ub_tree.specs.Opened.{IsOpenFault, IsPassing, IsRooted}

-- a call that only reads a store behind a pager, of which no region is asked for
pub record Opens {A : Type 0} (old new : PagerView) (result : Result A TreeFault) : Type 0 where
  pub same : new ≡ record old { store = read_store result old.store; cached = new.cached }
  pub faults : IfErr result (IsOpenFault old.store)

-- the header of a closed table was read, and the root of its index
pub record ReadsTable (old new : PagerView) (result : Result (Header × IndexView) TreeFault) : Type 0 where
  pub header : IfOk result (λ table. IsHeader table.0)
  pub index : IfOk result (λ table. table.1 ≡ index_of table.0)
  pub checked : IfOk result (λ table. KeepsChecked table.1.last old new)
  pub rooted : IsHonest old.store → IfOk result (λ table. IsRooted old.store.pages table.0)
  pub exact : (header : Header) → IsHonest old.store → IsRooted old.store.pages header → IfErr result IsPassing
  pub effect : Opens old new result

-- the first pages of a table with no rows were written, and its index is of one region, on page 1
pub record LaysOut (schema : Schema) (old new : PagerView) (result : Result IndexView TreeFault) : Type 0 where
  pub index : IfOk result (λ index. (index ≡ index_view 2 1 (last_address schema.dims)) × (IsHonest old.store → IsAlone index 1 new.store))
  pub count : OnOk result (page_count new.store ≡ 3)
  pub pages : OnOk result (IsHonest old.store → IsLaidOut schema new.store.pages)
  pub first : OnErr result (IsHonest old.store → IsUncreated schema new.store)
  pub trace : SameTrace old new
  pub checked : OnOk result (KeepsChecked (last_address schema.dims) old new)
  pub left : new.store ≡ written_store result old.store new.store
  pub refused : IfErr result (IsCreateFault old.store)
