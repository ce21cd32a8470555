-- What contracts see of a medium, and of the store on it.
use Rattle.std.specs.Prelude.{◌≡◌, ◌≤◌, ◌+◌, ◌*◌, ◌%◌, ◌/◌, [], ℕ, IsTrue, Result, OnOk, IsErrOf}
use Rattle.ub_store.specs.Facts.{StoreFacts, page_count, counted, MayFlush}
use Rattle.ub_store.specs.declared.fault.StoreFault.{StoreFault}
use Rattle.ub_store.specs.declared.fault.StoreFault.TheVariants.{Device}

-- how many bytes there are, where so many stand after the last whole page
abbrev pub bytes : StoreFacts → ℕ → ℕ
bytes facts rest = 4096 * page_count facts + rest

-- so many bytes are the pages of a store: a whole number of them, and no more than a store has
abbrev pub IsStoreSize : ℕ → Type 0
IsStoreSize length = (length % 4096 ≡ 0) × (length / 4096 ≤ 4294967295)

-- a call with this result that takes all pages away: at a fault any may stand there
pub record Empties {A : Type 0} (old new : StoreFacts) (result : Result A StoreFault) : Type 0 where
  pub frame : new ≡ record old { pages = new.pages; synced = new.synced; failed_writes = counted result old.failed_writes }
  pub flushed : MayFlush old new
  pub done : OnOk result (new.pages ≡ [])
  pub device : IsErrOf result Device → IsTrue old.can_fail
