-- What is left of a store to which pages are added behind a pager.
use Rattle.std.specs.Prelude.{◌≡◌, ◌⊎◌, ℕ, None, Result, Err, IfErr}
use Rattle.ub_index.specs.Standing.{IsGrowFault}
use Rattle.ub_store.specs.Writing.{Grows}
use Rattle.ub_store.specs.Cache.{page_at}
use Rattle.ub_store.specs.Facts.{StoreFacts, raised}
use Rattle.ub_store.specs.View.{PagerView}
use Rattle.ub_store.specs.declared.fault.StoreFault.{StoreFault}
use Rattle.ub_store.specs.declared.fault.StoreFault.TheVariants as store

-- no failure more is counted
abbrev pub HasNotFailed : StoreFacts → StoreFacts → Type 0
HasNotFailed old new = (new.failed_reads ≡ old.failed_reads) × (new.failed_writes ≡ old.failed_writes)

-- just one of the two counts of failures rose, by one
abbrev pub HasFailedOnce : StoreFacts → StoreFacts → Type 0
HasFailedOnce old new =
    ((new.failed_reads ≡ raised old.failed_reads 1) × (new.failed_writes ≡ old.failed_writes))
    ⊎ ((new.failed_reads ≡ old.failed_reads) × (new.failed_writes ≡ raised old.failed_writes 1))

-- the counts of a store that a call with this result reads, extends and writes: the device's fault raises one of them by one
abbrev pub Counts : {A : Type 0} → Result A StoreFault → StoreFacts → StoreFacts → Type 0
Counts (Err store.Device) old new = HasFailedOnce old new
Counts _ old new = HasNotFailed old new

-- a store in which a call changed the pages, those that last, and the counts of failures
abbrev pub written : StoreFacts → StoreFacts → StoreFacts
written old new = record old { pages = new.pages; synced = new.synced; failed_reads = new.failed_reads; failed_writes = new.failed_writes }

-- under no number a page is held where none was
abbrev pub HoldsNoMore : PagerView → PagerView → Type 0
HoldsNoMore old new = (m : ℕ) → page_at old.cached m ≡ None → page_at new.cached m ≡ None

-- the store of a pager has got pages, or none, and its other ones are as they were; no page is noted, and none held more
pub record AddsPages (old new : PagerView) : Type 0 where
  pub same : new ≡ record old { store = written old.store new.store; cached = new.cached }
  pub grows : Grows old.store new.store
  pub held : HoldsNoMore old new

-- a call with this result that adds pages, so many at most: why it is refused, and what it leaves
pub record Adds {A : Type 0} (most : ℕ) (old new : PagerView) (result : Result A StoreFault) : Type 0 where
  pub adds : AddsPages old new
  pub counts : Counts result old.store new.store
  pub refused : IfErr result (IsGrowFault most old.store)
