-- What stands on the disk on the way from the old table to the new one.
use Rattle.std.specs.Prelude.{◌≡◌, ◌≢◌, ◌<◌, ◌≤◌, ℕ, List, Some, length, slice_get}
use Rattle.ub_journal.specs.Image.{HasBack, HasFront, Image, IsMarkedFrom, IsUntouched, Journal, applied, first_page, marked, put_all, resized}
use Rattle.ub_journal.specs.Place.{DraftLasts, IsDurable, IsFound, PlaceFacts, SameTable}

-- a journal stands beside the file, and nothing but the mark of its first page and the journal's pages differ from this table's
pub record IsOnTheWay (j : Journal) (old : List (List ℕ)) (c : Image) : Type 0 where
  pub journal : c.journal ≡ Some j
  pub some : 1 ≤ length c.table
  pub front : IsMarkedFrom (first_page old) (first_page c.table)
  pub kept : (n : ℕ) → n < j.count → n ≢ 0 → IsUntouched j.changes n → slice_get c.table n ≡ slice_get old n

-- there is a first page, the same as in another table
abbrev pub KeepsFirst : List (List ℕ) → List (List ℕ) → Type 0
KeepsFirst old t = (1 ≤ length t) × (first_page t ≡ first_page old)

-- what a crash leaves while pages are put, after the first was marked
abbrev pub Puts : Journal → Image → Image → Type 0
Puts j old c = IsOnTheWay j old.table c × KeepsFirst old.table c.table

-- with all changes but that of the first page
abbrev pub with_others : Journal → Image → Image
with_others j i = record i { table = put_all j.changes (resized j.count i.table); rest = 0 }

-- the journal stands beside the table that it is of, for good, and the first page is the one from before, but for its mark
pub record HasBegun (j : Journal) (facts : PlaceFacts) : Type 0 where
  pub found : IsFound j facts
  pub front : HasFront j facts.seen.table

-- the journal stands there for good, and all pages but the first are those of the new table
pub record HasCompleted (j : Journal) (facts : PlaceFacts) : Type 0 where
  pub found : IsFound j facts
  pub back : HasBack j facts.seen.table
  pub whole : facts.seen.rest ≡ 0

-- the draft is this journal, and lasts; all else is as it was, and lasts
pub record IsDrafted (j : Journal) (old new : PlaceFacts) : Type 0 where
  pub durable : IsDurable new
  pub lasts : DraftLasts new
  pub seen : new.seen ≡ record old.seen { draft = j }

-- the journal stands beside the table, which is as it was
pub record IsNamed (j : Journal) (old new : PlaceFacts) : Type 0 where
  pub begun : HasBegun j new
  pub same : SameTable old.seen new.seen

-- the first page is marked, and nothing else changed
pub record IsMarked (j : Journal) (old new : PlaceFacts) : Type 0 where
  pub begun : HasBegun j new
  pub way : IsOnTheWay j old.seen.table new.seen
  pub mark : first_page new.seen.table ≡ marked j.before

-- all pages but the first stand, and the journal makes the same of them
pub record IsCompleted (j : Journal) (old new : PlaceFacts) : Type 0 where
  pub completed : HasCompleted j new
  pub same : applied j new.seen.table ≡ applied j old.seen.table
