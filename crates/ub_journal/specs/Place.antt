-- What contracts see of a place, and what its calls may do to that.
use Rattle.std.specs.Prelude.{◌≡◌, ◌≤◌, ◌<◌, ◌+◌, ◌*◌, ◌⊎◌, ℕ, Bool, List, Some, None, IsTrue, Result, Ok, Err, drop, slice_get, take}
use Rattle.ub_store.specs.Facts.{raised}
use Rattle.ub_journal.specs.Crash.{Stays}
use Rattle.ub_journal.specs.Image.{ChangesOthers, Fits, HasFront, Image, Journal, Recovers, applied}
use Rattle.ub_journal.specs.declared.fault.JournalFault.{JournalFault}
use Rattle.ub_journal.specs.declared.fault.JournalFault.TheVariants as journal
use Rattle.ub_journal.specs.declared.place.Failed.{Failed}

-- the facts of a place: whether what is said here of images is so; what is seen; what a crash at this moment may leave; the
-- moment, as a number that doesn't fall; what a crash at some moment from a given one on might have left, during a call or
-- between two; and how many calls failed (a count that stays at the greatest u64)
pub record PlaceFacts : Type 1 where
  pub honest : Bool
  pub seen : Image
  pub may_leave : Image → Type 0
  pub moment : ℕ
  pub left_since : ℕ → Image → Type 0
  pub failures : ℕ

-- what is said of images is so
abbrev pub IsHonest : PlaceFacts → Type 0
IsHonest facts = IsTrue facts.honest

-- a count of failures after a call with this result: a fault raises it by one, and nothing else does
abbrev pub counted : {A : Type 0} → Result A Failed → ℕ → ℕ
counted (Err fault) n = raised n 1
counted (Ok value) n = n

-- and after a look at a journal: Device raises it by one, and nothing else does
abbrev pub looked : {A : Type 0} → Result A JournalFault → ℕ → ℕ
looked (Err journal.Device) n = raised n 1
looked result n = n

-- this moment is one of those since an earlier one, and since this moment there is no other; what is seen may be left, by a
-- process that is ended now
pub record IsClock (facts : PlaceFacts) : Type 0 where
  pub counts_now : (t : ℕ) (c : Image) → t ≤ facts.moment → facts.may_leave c → facts.left_since t c
  pub only_now : (c : Image) → facts.left_since facts.moment c → facts.may_leave c
  pub seen_may_stay : facts.may_leave facts.seen

-- time goes on: a crash since t might have left what it might have left before, or what it may leave now
pub record Elapses (old new : PlaceFacts) : Type 0 where
  pub later : old.moment ≤ new.moment
  pub nothing_else : (t : ℕ) (c : Image) → t ≤ old.moment → new.left_since t c → old.left_since t c ⊎ new.may_leave c
  pub keeps : (t : ℕ) (c : Image) → t ≤ old.moment → old.left_since t c → new.left_since t c

-- each outcome of a crash is one of before, after this step
abbrev pub Follows : (Image → Image → Type 0) → PlaceFacts → PlaceFacts → Type 0
Follows step old new = (c : Image) → new.may_leave c → (d : Image) × old.may_leave d × step d c

-- a call, or several, with this result: a fault is one failure more, and Ok is none
pub record Counts {A : Type 0} (old new : PlaceFacts) (result : Result A Failed) : Type 0 where
  pub honest : new.honest ≡ old.honest
  pub failures : new.failures ≡ counted result old.failures

-- one call with this result, after which a crash may leave what it might leave before it, after this step
pub record Steps {A : Type 0} (step : Image → Image → Type 0) (old new : PlaceFacts) (result : Result A Failed) : Type 0 where
  pub counts : Counts old new result
  pub leaves : IsHonest old → Follows step old new
  pub time : IsHonest old → Elapses old new

-- a look at the journal with this result: nothing changes but, at Device, the count of failures
pub record Looks {A : Type 0} (old new : PlaceFacts) (result : Result A JournalFault) : Type 0 where
  pub honest : new.honest ≡ old.honest
  pub failures : new.failures ≡ looked result old.failures
  pub seen : IsHonest old → new.seen ≡ old.seen
  pub leaves : IsHonest old → Follows Stays old new
  pub time : IsHonest old → Elapses old new

-- what is seen is what was seen, with this change
abbrev pub Shows : (Image → Image) → PlaceFacts → PlaceFacts → Type 0
Shows change old new = IsHonest old → new.seen ≡ change old.seen

-- the page at this place of some bytes, of which each 4096 are one
abbrev pub page_in : ℕ → List ℕ → List ℕ
page_in i bytes = take 4096 (drop (i * 4096) bytes)

-- so many pages from this number on are those that stand in these bytes
abbrev pub AreIn : List ℕ → ℕ → ℕ → List (List ℕ) → Type 0
AreIn bytes n count pages = (i : ℕ) → i < count → slice_get pages (n + i) ≡ Some (page_in i bytes)

-- the table of both is the same
abbrev pub SameTable : Image → Image → Type 0
SameTable seen c = (c.table ≡ seen.table) × (c.rest ≡ seen.rest)

-- the draft of both is the same
abbrev pub SameDraft : Image → Image → Type 0
SameDraft seen c = c.draft ≡ seen.draft

-- the journal of both is the same
abbrev pub SameJournal : Image → Image → Type 0
SameJournal seen c = c.journal ≡ seen.journal

-- the table and the journal of both are the same
abbrev pub IsSame : Image → Image → Type 0
IsSame seen c = SameTable seen c × SameJournal seen c

-- a crash now leaves what has P
abbrev pub LeavesNow : (Image → Type 0) → PlaceFacts → Type 0
LeavesNow P facts = (c : Image) → facts.may_leave c → P c

-- what is seen is as it was, and of each outcome of a crash this is so
pub record Lasts (what : Image → Image → Type 0) (old new : PlaceFacts) : Type 0 where
  pub seen : new.seen ≡ old.seen
  pub durable : LeavesNow (what old.seen) new

-- what a crash leaves of the draft is what is seen of it
abbrev pub DraftLasts : PlaceFacts → Type 0
DraftLasts facts = LeavesNow (SameDraft facts.seen) facts

-- what a crash leaves is what is seen, but for a draft
abbrev pub IsDurable : PlaceFacts → Type 0
IsDurable facts = LeavesNow (IsSame facts.seen) facts

-- and there is no journal
pub record IsAtRest (facts : PlaceFacts) : Type 0 where
  pub durable : IsDurable facts
  pub no_journal : facts.seen.journal ≡ None

-- a crash at any moment since old leaves what has P
pub record LeavesOnly (P : Image → Type 0) (old new : PlaceFacts) : Type 0 where
  pub later : old.moment ≤ new.moment
  pub each : (c : Image) → new.left_since old.moment c → P c
  -- for a run that began earlier
  pub before : (t : ℕ) (c : Image) → t ≤ old.moment → new.left_since t c → old.left_since t c ⊎ P c

-- a crash at any moment of the run leaves what has P, where the place is honest
abbrev pub AtAnyMoment : (Image → Type 0) → PlaceFacts → PlaceFacts → Type 0
AtAnyMoment P old new = IsHonest old → LeavesOnly P old new

-- a journal was made of the table that is seen, and the place is at rest
pub record IsReady (j : Journal) (facts : PlaceFacts) : Type 0 where
  pub rest : IsAtRest facts
  pub front : HasFront j facts.seen.table
  pub fits : Fits j facts.seen.table facts.seen.rest
  pub others : ChangesOthers j

-- a journal is seen beside the table that it is of
pub record IsLeft (j : Journal) (facts : PlaceFacts) : Type 0 where
  pub journal : facts.seen.journal ≡ Some j
  pub fits : Fits j facts.seen.table facts.seen.rest
  pub others : ChangesOthers j

-- and what is seen lasts
pub record IsFound (j : Journal) (facts : PlaceFacts) : Type 0 where
  pub durable : IsDurable facts
  pub left : IsLeft j facts

-- what a crash leaves while this journal's table is healed: what it might have left before, or what stands for the new table
abbrev pub Heals : Journal → PlaceFacts → Image → Type 0
Heals j old image = old.may_leave image ⊎ Recovers j old.seen image

-- the place is at rest, and its table is the one that this journal makes of the old one
pub record IsCommitted (j : Journal) (old new : PlaceFacts) : Type 0 where
  pub rest : IsAtRest new
  pub table : new.seen.table ≡ applied j old.seen.table
  pub whole : new.seen.rest ≡ 0
