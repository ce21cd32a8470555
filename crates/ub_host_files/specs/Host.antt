-- What is not known of the files of the system.
use Rattle.std.specs.Prelude.{ℕ, Bool, None, IsTrue, [], replicate, false, true}
use Rattle.ub_files.specs.Clock.{FolderClock, IsFolderClock}
use Rattle.ub_files.specs.Files.{FilesFacts, untold}
use Rattle.ub_journal.specs.Image.{Image, begun}
use Rattle.ub_journal.specs.Place.{PlaceFacts, IsClock}

-- whether the files of the system give back what was written to them, and keep what was synced: a premise, which nothing in the
-- language can show. What stands here is opened by the proofs that they meet the contracts of a place and of files, and by no other
unfoldable pub is_honest_host : Bool
is_honest_host = false

-- what is seen beside a table file of so many pages and bytes after them: nothing more of it is told
unfoldable pub seen_at : ℕ → ℕ → Image
seen_at pages rest = record {
  table = replicate pages [];
  rest = rest;
  draft = begun [] [] 0;
  journal = None;
}

-- the facts of a table file of the system and of what stands beside it: how many pages and bytes after them the system told of, and how
-- many calls were refused
abbrev pub facts_of_place : ℕ → ℕ → ℕ → PlaceFacts
facts_of_place pages rest failures = record {
  honest = is_honest_host;
  seen = seen_at pages rest;
  may_leave = λ image. Unit {0};
  moment = 0;
  left_since = λ moment image. Unit {0};
  failures = failures;
}

-- the facts of the files of the system, of which so many readings and calls for table files failed: what they hold is not told, nor
-- what a crash leaves, nor which paths were read
abbrev pub facts_of_host : ℕ → ℕ → FilesFacts
facts_of_host reads tables = record {
  holds = λ path. untold;
  lasts = λ path. untold;
  honest = is_honest_host;
  can_fail = true;
  failed_reads = reads;
  failed_tables = tables;
  readings = None;
}

-- nothing is told of what a crash leaves of them at any moment
unfoldable pub clock_of_host : FolderClock
clock_of_host = record {
  may_leave = λ folder. Unit {0};
  moment = 0;
  left_since = λ moment folder. Unit {0};
}

-- so nothing is to be shown of clocks
pub no_host_clock : (files : FilesFacts) → IsTrue is_honest_host → IsFolderClock files clock_of_host
unfolding is_honest_host
no_host_clock files honest = absurd (cc honest)

pub no_clock : (pages rest failures : ℕ) → IsTrue is_honest_host → IsClock (facts_of_place pages rest failures)
unfolding is_honest_host
no_clock pages rest failures honest = absurd (cc honest)
