-- What contracts see of the pages of a place's table, as a store that is only read.
use Rattle.std.specs.Prelude.{◌≡◌, ℕ, Bool, true, false, List, [], length, replicate}
use Rattle.ub_store.specs.Facts.{StoreFacts}
use Rattle.ub_journal.specs.Place.{IsHonest, PlaceFacts}

-- the place, how many pages it had when it was opened, and how often a read, and another call, was refused (counts that stay at the
-- greatest u64)
pub record PlaceView (P : Type 0) : Type 0 where
  pub place : P
  pub count : ℕ
  pub reads : ℕ
  pub writes : ℕ

abbrev pub place_view : {P : Type 0} → P → ℕ → ℕ → ℕ → PlaceView P
place_view place count reads writes = record { place = place; count = count; reads = reads; writes = writes }

-- the pages of a table: of a place that isn't honest their number alone is known
abbrev pub table_pages : Bool → ℕ → List (List ℕ) → List (List ℕ)
table_pages true count table = table
table_pages false count table = replicate count []

-- the facts of the store of the place with these facts, which had so many pages, and refused so many calls. What is read of it lasts
-- as far as anyone knows: nothing is written here
abbrev pub store_facts : PlaceFacts → ℕ → ℕ → ℕ → StoreFacts
store_facts facts count reads writes = record {
  honest = facts.honest;
  can_fail = true;
  pages = table_pages facts.honest count facts.seen.table;
  synced = table_pages facts.honest count facts.seen.table;
  failed_reads = reads;
  failed_writes = writes;
}

-- the same of the store with this view
abbrev pub facts_of_view : {P : Type 0} → (P → PlaceFacts) → PlaceView P → StoreFacts
facts_of_view facts v = store_facts (facts v.place) v.count v.reads v.writes

-- an honest place has so many pages
abbrev pub HasCount : PlaceFacts → ℕ → Type 0
HasCount facts count = IsHonest facts → count ≡ length facts.seen.table
