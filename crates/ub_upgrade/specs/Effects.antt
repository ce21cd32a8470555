-- What is left of the two stores where pages are brought over from the old one to the new one.
use Rattle.std.specs.Prelude.{◌≡◌, ℕ, Result, Err}
use Rattle.ub_laying.specs.Effects.{HasFailedOnce, HasNotFailed, HoldsNoMore, written}
use Rattle.ub_store.specs.Writing.{Grows}
use Rattle.ub_store.specs.Facts.{StoreFacts, raised}
use Rattle.ub_store.specs.View.{PagerView}
use Rattle.ub_store.specs.declared.fault.StoreFault.TheVariants as store
use Rattle.ub_upgrade.specs.declared.fault.UpgradeFault.{UpgradeFault}
use Rattle.ub_upgrade.specs.declared.fault.UpgradeFault.TheVariants.{Old, New}

-- the count of failed reads of the old store after a call with this result: its device's fault raises it by one
abbrev pub counted_old : {A : Type 0} → Result A UpgradeFault → ℕ → ℕ
counted_old (Err (Old store.Device)) n = raised n 1
counted_old _ n = n

-- the counts of the new store after a call with this result: its device's fault raises one of them by one
abbrev pub CountsNew : {A : Type 0} → Result A UpgradeFault → StoreFacts → StoreFacts → Type 0
CountsNew (Err (New store.Device)) old new = HasFailedOnce old new
CountsNew _ old new = HasNotFailed old new

-- a call with this result that brings pages over from one store to that of a pager: of the first nothing changes but, at its
-- device's fault, the count of failed reads; the pages that the second one had are as they were, and others may stand after them;
-- the pager holds no page more
pub record BringsOver {A : Type 0} (from from_then : StoreFacts) (old new : PagerView) (result : Result A UpgradeFault) : Type 0 where
  pub read : from_then ≡ record from { failed_reads = counted_old result from.failed_reads }
  pub same : new ≡ record old { store = written old.store new.store; cached = new.cached }
  pub counts : CountsNew result old.store new.store
  pub grows : Grows old.store new.store
  pub held : HoldsNoMore old new
