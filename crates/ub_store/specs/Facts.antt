-- What contracts see of a store, and what its calls may do to that.
use Rattle.std.specs.Prelude.{◌≡◌, ◌≢◌, ◌+◌, ◌++◌, ◌⊎◌, ◌∷◌, [], ℕ, List, Some, Bool, true, false, IsTrue, min, length, replicate, slice_get, slice_set, Result, Err, OnOk, OnErr, IsErrOf}
use Rattle.ub_store.specs.declared.fault.StoreFault.{StoreFault}
use Rattle.ub_store.specs.declared.fault.StoreFault.TheVariants.{Device}

-- the facts of a store: whether each read that succeeds gives the page of its list, whether a call may answer Device, the list
-- (of a store that isn't honest its length alone means something), the list that a sync made last, and how often reads and
-- other calls answered Device (counts that stay at the greatest u64)
pub record StoreFacts : Type 0 where
  pub honest : Bool
  pub can_fail : Bool
  pub pages : List (List ℕ)
  pub synced : List (List ℕ)
  pub failed_reads : ℕ
  pub failed_writes : ℕ

-- each read that succeeds gives the page of the list
abbrev pub IsHonest : StoreFacts → Type 0
IsHonest facts = IsTrue facts.honest

-- how many pages there are
abbrev pub page_count : StoreFacts → ℕ
page_count facts = length facts.pages

-- a count raised by so much, up to the greatest u64
abbrev pub raised : ℕ → ℕ → ℕ
raised old by = min (old + by) 18446744073709551615

-- a count of failures after a call with this result: Device raises it by one, and nothing else does
abbrev pub counted : {A : Type 0} → Result A StoreFault → ℕ → ℕ
counted (Err Device) n = raised n 1
counted _ n = n

-- a page of zeros
abbrev pub zero_page : List ℕ
zero_page = replicate 4096 0

-- of an honest store, this is the page of that number
abbrev pub IsPage : StoreFacts → ℕ → List ℕ → Type 0
IsPage facts n page = IsHonest facts → slice_get facts.pages n ≡ Some page

-- of a store in memory with these pages: it is honest, can't fail and never did, and has nothing to sync
abbrev pub memory_facts : List (List ℕ) → StoreFacts
memory_facts pages = record {
  honest = true;
  can_fail = false;
  pages = pages;
  synced = pages;
  failed_reads = 0;
  failed_writes = 0;
}

-- the pages that last are those of before, or those that there are now
abbrev pub MayFlush : StoreFacts → StoreFacts → Type 0
MayFlush old new = (new.synced ≡ old.synced) ⊎ (new.synced ≡ new.pages)

-- a call with this result that only reads: nothing changes but the count of failed reads
pub record Reads {A : Type 0} (old new : StoreFacts) (result : Result A StoreFault) : Type 0 where
  pub same : new ≡ record old { failed_reads = counted result old.failed_reads }
  pub device : IsErrOf result Device → IsTrue old.can_fail

-- a call with this result that puts a page in the place of that of this number: at Ok it stands there, at a fault any bytes
-- may, and the other pages are as they were
pub record WritesAt {A : Type 0} (n : ℕ) (page : List ℕ) (old new : StoreFacts) (result : Result A StoreFault) : Type 0 where
  pub frame : new ≡ record old { pages = new.pages; synced = new.synced; failed_writes = counted result old.failed_writes }
  pub count : page_count new ≡ page_count old
  pub flushed : MayFlush old new
  pub written : OnOk result (IsHonest old → new.pages ≡ slice_set old.pages n page)
  pub others : IsHonest old → (m : ℕ) → m ≢ n → slice_get new.pages m ≡ slice_get old.pages m
  pub device : IsErrOf result Device → IsTrue old.can_fail

-- this page stands after the pages that there were
abbrev pub Appends : List ℕ → StoreFacts → StoreFacts → Type 0
Appends page old new = (page_count new ≡ page_count old + 1) × (IsHonest old → new.pages ≡ old.pages ++ page ∷ [])

-- a call with this result that adds a page of zeros: at a fault the pages are as they were, or one more stands after them
pub record Extends {A : Type 0} (old new : StoreFacts) (result : Result A StoreFault) : Type 0 where
  pub frame : new ≡ record old { pages = new.pages; synced = new.synced; failed_writes = counted result old.failed_writes }
  pub flushed : MayFlush old new
  pub added : OnOk result (Appends zero_page old new)
  pub failed : OnErr result ((new.pages ≡ old.pages) ⊎ ((page : List ℕ) × Appends page old new))
  pub device : IsErrOf result Device → IsTrue old.can_fail

-- a call with this result that makes what was written last
pub record Syncs {A : Type 0} (old new : StoreFacts) (result : Result A StoreFault) : Type 0 where
  pub frame : new ≡ record old { synced = new.synced; failed_writes = counted result old.failed_writes }
  pub flushed : MayFlush old new
  pub done : OnOk result (new.synced ≡ new.pages)
  pub device : IsErrOf result Device → IsTrue old.can_fail
