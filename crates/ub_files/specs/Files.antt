-- What contracts see of files, and what calls may do to that.
use Rattle.std.specs.Prelude.{◌≡◌, ◌≢◌, ◌≤◌, ◌⊎◌, ℕ, Bool, IsTrue, List, [], ◌∷◌, ◌++◌, Option, Some, None, Result, Ok, Err, OnOk, OnErr, codes, drop, length, slice_get}
use Rattle.ub_store.specs.Facts.{StoreFacts, IsHonest, raised, zero_page}
use Rattle.ub_store.specs.declared.fault.StoreFault.{StoreFault}
use Rattle.ub_store.specs.declared.fault.StoreFault.TheVariants.{Device}
use Rattle.ub_files.specs.declared.fault.OpenFault.{OpenFault}
use Rattle.ub_files.specs.declared.fault.OpenFault.TheVariants as opening

-- what a path holds: nothing is told of it, there is no file, a file with these bytes, a table file with these pages, or one that is no
-- whole number of pages. Where changes of a table file were put only half, and a journal beside it has the others, it holds the pages
-- that both make together: so it is found by whoever opens it
pub data Held : Type 0 where
  untold : Held
  absent : Held
  bytes : List ℕ → Held
  pages : List (List ℕ) → Held
  torn : Held

-- the facts of files: what each path holds; what a crash at this moment leaves it to hold, where that is one thing, and else it isn't
-- told; whether a file gives back what was written to it; whether a table file may answer Device; how often the reading of a file, and the
-- opening, changing, keeping or making of a table file, answered Device (counts that stay at the greatest u64); and the paths that were
-- read so far, or opened to be read, in their order, where that is told
pub record FilesFacts : Type 0 where
  pub holds : List ℕ → Held
  pub lasts : List ℕ → Held
  pub honest : Bool
  pub can_fail : Bool
  pub failed_reads : ℕ
  pub failed_tables : ℕ
  pub readings : Option (List (List ℕ))

-- the path of standard input, where it is read
abbrev pub standard_input : List ℕ
standard_input = codes "-"

-- where it is told what a path holds, it is these bytes
abbrev pub IsText : Held → List ℕ → Type 0
IsText untold text = Unit {0}
IsText (bytes held) text = text ≡ held
IsText _ text = ⊥

-- what is known of the bytes that a reader of it gives: where it is told, all of them
abbrev pub IsReadAs : Held → Option (List ℕ) → Type 0
IsReadAs untold known = Unit {0}
IsReadAs (bytes held) known = known ≡ Some held
IsReadAs _ known = ⊥

-- where it is told, it is these pages
abbrev pub HasPages : Held → List (List ℕ) → Type 0
HasPages untold all = Unit {0}
HasPages (pages held) all = all ≡ held
HasPages _ all = ⊥

-- where it is told, it is the pages of the store with these facts
abbrev pub IsStored : Held → StoreFacts → Type 0
IsStored held store = HasPages held store.pages

-- where it is told, it is no whole number of pages
abbrev pub IsTorn : Held → Type 0
IsTorn untold = Unit {0}
IsTorn torn = Unit {0}
IsTorn _ = ⊥

-- where it is told, there is no page of a table
abbrev pub IsEmpty : Held → Type 0
IsEmpty (pages held) = held ≡ []
IsEmpty (bytes text) = ⊥
IsEmpty held = Unit {0}

-- what these pages may be of a table that was being made where none was: there is one at most, or page 0 is a page of zeros, or all but
-- page 0 are there
abbrev pub IsPartWay : List (List ℕ) → List (List ℕ) → Type 0
IsPartWay all now = (length now ≤ 1) ⊎ ((slice_get now 0 ≡ Some zero_page) ⊎ (drop 1 now ≡ drop 1 all))

-- where it is told, it is such a part, or no whole number of pages
abbrev pub IsPart : Held → List (List ℕ) → Type 0
IsPart (pages held) all = IsPartWay all held
IsPart (bytes text) all = ⊥
IsPart held all = Unit {0}

-- a store that files lend is as honest as they are, can fail where they say so, and has not failed yet
pub record IsOf (files : FilesFacts) (store : StoreFacts) : Type 0 where
  pub honest : IsTrue files.honest → IsHonest store
  pub can_fail : store.can_fail ≡ files.can_fail
  pub unfailed : store.failed_writes ≡ 0

-- a store of the pages that the table file of this path holds
pub record IsLent (files : FilesFacts) (path : List ℕ) (store : StoreFacts) : Type 0 where
  pub lent : IsOf files store
  pub stored : IsStored (files.holds path) store

-- but for this path, all hold what they did, and a crash leaves them what it did
abbrev pub HoldsBut : List ℕ → FilesFacts → FilesFacts → Type 0
HoldsBut path old new = (other : List ℕ) → other ≢ path → (new.holds other ≡ old.holds other) × (new.lasts other ≡ old.lasts other)

-- a count of failures after a call with this fault, and after one with this result: Device raises it by one
abbrev pub raised_by : StoreFault → ℕ → ℕ
raised_by Device n = raised n 1
raised_by _ n = n

abbrev pub counted : {A : Type 0} → Result A StoreFault → ℕ → ℕ
counted (Ok _) n = n
counted (Err fault) n = raised_by fault n

-- the same after a call that changes or makes a table file
abbrev pub counted_open : {A : Type 0} → Result A OpenFault → ℕ → ℕ
counted_open (Err (opening.Store fault)) n = raised_by fault n
counted_open _ n = n

-- where it is told which paths were read, these were, after those of before; what was once not told is never told again
abbrev pub AreRead : List (List ℕ) → Option (List (List ℕ)) → Option (List (List ℕ)) → Type 0
AreRead paths (Some before) (Some now) = now ≡ before ++ paths
AreRead paths None (Some now) = ⊥
AreRead paths before None = Unit {0}

-- where it is told what is left of standard input, it has no more bytes
abbrev pub IsUsedUp : Held → Type 0
IsUsedUp untold = Unit {0}
IsUsedUp (bytes text) = text ≡ []
IsUsedUp _ = ⊥

-- a call with this result that reads the file at this path. What paths hold stays as it was, but for standard input, which is used up by
-- its reading; what is left of it after a refusal is not said
pub record ReadsFile {A : Type 0} (path : List ℕ) (old new : FilesFacts) (result : Result A StoreFault) : Type 0 where
  pub same : new ≡ record old { holds = new.holds; lasts = new.lasts; failed_reads = counted result old.failed_reads; readings = new.readings }
  pub readings : AreRead (path ∷ []) old.readings new.readings
  pub kept : path ≢ standard_input → (new.holds ≡ old.holds) × (new.lasts ≡ old.lasts)
  pub others : HoldsBut path old new
  pub used_up : OnOk result (path ≡ standard_input → IsUsedUp (new.holds path))

-- a call with this result that takes back a reader: nothing changes but, at Device, the count of failures
abbrev pub ClosesText : {A : Type 0} → FilesFacts → FilesFacts → Result A StoreFault → Type 0
ClosesText old new result = new ≡ record old { failed_reads = counted result old.failed_reads }

-- a call with this result that opens the table file of this path, to ask it: nothing changes but, at Device, the count of failures
abbrev pub OpensFile : {A : Type 0} → FilesFacts → FilesFacts → Result A StoreFault → Type 0
OpensFile old new result = new ≡ record old { failed_tables = counted result old.failed_tables }

-- the same of one that opens it to change it: a journal that a stopped run has left is finished first, so that the file holds what it
-- held. What a crash leaves of it may then be told, or not
pub record ChangesFile {A : Type 0} (path : List ℕ) (old new : FilesFacts) (result : Result A OpenFault) : Type 0 where
  pub same : new ≡ record old { lasts = new.lasts; failed_tables = counted_open result old.failed_tables }
  pub others : HoldsBut path old new

-- a call with this result that keeps pages in the table file of this path: at Ok it holds them, and so it does after a crash. At a fault it
-- holds what it held, or them
pub record KeepsFile {A : Type 0} (path : List ℕ) (all : List (List ℕ)) (old new : FilesFacts) (result : Result A StoreFault) : Type 0 where
  pub same : new ≡ record old { holds = new.holds; lasts = new.lasts; failed_tables = counted result old.failed_tables }
  pub others : HoldsBut path old new
  pub kept : OnOk result (HasPages (new.holds path) all × HasPages (new.lasts path) all)
  pub either : OnErr result ((new.holds path ≡ old.holds path) ⊎ HasPages (new.holds path) all)

-- a call with this result that makes the table file of this path anew, of these pages. At a fault it holds what it held, or them; where it had
-- no page, it may hold a part of them, which is no table
pub record MakesFile {A : Type 0} (path : List ℕ) (all : List (List ℕ)) (old new : FilesFacts) (result : Result A OpenFault) : Type 0 where
  pub same : new ≡ record old { holds = new.holds; lasts = new.lasts; failed_tables = counted_open result old.failed_tables }
  pub others : HoldsBut path old new
  pub made : OnOk result (HasPages (new.holds path) all × HasPages (new.lasts path) all)
  pub either : OnErr result ((new.holds path ≡ old.holds path) ⊎ (HasPages (new.holds path) all
      ⊎ (IsEmpty (old.holds path) × IsPart (new.holds path) all)))
