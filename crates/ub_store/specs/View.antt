-- What contracts see of a pager.
use Rattle.std.specs.Prelude.{◌≡◌, ◌≤◌, ◌++◌, ◌∷◌, [], List, ℕ, Some, length}
use Rattle.ub_store.specs.Cache.{page_at}
use Rattle.ub_store.specs.Facts.{StoreFacts, raised}

-- which region pages were asked for: their numbers since the trace began, how many numbers there is room for, and how many pages
-- were ever asked for (a count that stays at the greatest u64)
pub record Trace : Type 0 where
  pub pages : List ℕ
  pub capacity : ℕ
  pub fetches : ℕ

abbrev pub trace_of : List ℕ → ℕ → ℕ → Trace
trace_of pages capacity fetches = record { pages = pages; capacity = capacity; fetches = fetches }

-- none was asked for yet, and there is room for none
abbrev pub untouched : Trace
untouched = trace_of [] 0 0

-- a trace that begins anew: the room and the count stay
abbrev pub emptied : Trace → Trace
emptied trace = record trace { pages = [] }

-- there is no room for one number more
abbrev pub IsFull : Trace → Type 0
IsFull trace = trace.capacity ≤ length trace.pages

-- one page more was asked for in between, this one; there is no less room
pub record Notes (n : ℕ) (old new : Trace) : Type 0 where
  pub pages_are : new.pages ≡ old.pages ++ n ∷ []
  pub fetches_are : new.fetches ≡ raised old.fetches 1
  pub room : old.capacity ≤ new.capacity

-- the facts of its store, the region pages that were asked for, and the pages that it holds, each with its number
pub record PagerView : Type 0 where
  pub store : StoreFacts
  pub trace : Trace
  pub cached : List (ℕ × List ℕ)

-- the view of a pager that holds no page yet
abbrev pub pager_view : StoreFacts → Trace → PagerView
pager_view store trace = record { store = store; trace = trace; cached = [] }

-- the same with these pages held
abbrev pub holding : PagerView → List (ℕ × List ℕ) → PagerView
holding view pages = record view { cached = pages }

-- it holds this page under this number
abbrev pub Holds : PagerView → ℕ → List ℕ → Type 0
Holds view n page = page_at view.cached n ≡ Some page

-- it holds a page under this number
abbrev pub IsCached : PagerView → ℕ → Type 0
IsCached view n = (page : List ℕ) × Holds view n page

-- no region page was asked for in between
abbrev pub SameTrace : PagerView → PagerView → Type 0
SameTrace old new = new.trace ≡ old.trace
