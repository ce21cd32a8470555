-- What reading a region tells, and what creation makes.
use Rattle.std.specs.Prelude.{true, false, ◌≡◌, ℕ, [], ◌∷◌, IsTrue, List, Contains, Result, Err, IfErr, IfOk, OnOk}
use Rattle.ub_tree.specs.Common.{Failed, IsHonest, IsOnlyGrown, IsSound, IsUncreated, Memory, origin, page_count, Placed, Region, RegionRows, regions}
use Rattle.ub_tree.specs.Common.{RegionView, Rejected, Schema, spans_of, Store, StoreFacts, TreeFault, TreeView, untouched}
use Rattle.ub_tree.specs.Effects.{IsTakenIn, ReadsRegion, written_store}
use Rattle.ub_store.specs.declared.fault.StoreFault.TheVariants as store

-- the region stands at this page
abbrev pub StandsAt : List Placed → ℕ → RegionRows → Type 0
StandsAt placed page region = (p : Placed) × Contains placed p × (p.page ≡ page) × (p.region ≡ region)

-- a region of this span was to be taken in, and this was answered: what its page spells was taken in, of a sound tree the region that stands there
pub record TakesIn {A : Type 0} (span : Region) (page : RegionView) (old new : TreeView) (result : Result A TreeFault) : Type 0 where
  pub dims : OnOk result (page.dims ≡ old.schema.dims)
  pub first : OnOk result (page.region.first ≡ span.first)
  pub taken : OnOk result (IsTakenIn old span page.region)
  pub stands : IsSound old → Contains (spans_of old) span → OnOk result (StandsAt old.placed span.page page.region)
  pub failed : IsTrue old.is_failed → result ≡ Err Failed
  pub effect : ReadsRegion span old new result

-- what creation makes: a tree of this schema with no rows, on three pages; it counts as changed, so that closing it writes and syncs it
pub record IsCreated (store : StoreFacts) (schema : Schema) (t : TreeView) : Type 0 where
  pub schema_is : t.schema ≡ schema
  pub regions_are : IsHonest store → regions t ≡ record { first = origin; rows = [] } ∷ []
  pub sound : IsHonest store → IsSound t
  pub store_is : t.store ≡ record store { pages = t.store.pages; synced = t.store.synced }
  pub pages : page_count t.store ≡ 3
  pub levels_are : t.inner.index.levels ≡ 1
  pub grown : IsOnlyGrown t
  pub working : t.is_failed ≡ false
  pub changed : t.is_changed ≡ true
  pub rows_are : t.rows ≡ 0
  pub next_is : t.next ≡ 1
  pub trace_is : t.trace ≡ untouched

-- why creation is refused: for want of memory, or the store failed in this call, which it then can
abbrev pub IsCreateFault : StoreFacts → TreeFault → Type 0
IsCreateFault old Memory = Unit {0}
IsCreateFault old (Store store.Device) = IsTrue old.can_fail
IsCreateFault old _ = ⊥

-- a table was to be made over a store with these facts, and this was answered: its tree; or why not, with the store, which isn't opened as a table
pub record Creates {S : Type 0} (facts : S → StoreFacts) (old : StoreFacts) (schema : Schema) (result : Result TreeView (Rejected S TreeFault)) : Type 0 where
  pub made : IfOk result (IsCreated old schema)
  pub first : IsHonest old → IfErr result (λ refused. IsUncreated schema (facts refused.store))
  pub refused : IfErr result (λ refused. IsCreateFault old refused.fault)
  pub left : IfErr result (λ refused. facts refused.store ≡ written_store {A = S} (Err refused.fault) old (facts refused.store))
