-- What is known of an output, and what writing does to that.
use Rattle.std.specs.Prelude.{◌≡◌, ◌<◌, ◌≤◌, ◌==◌, ◌&&◌, ℕ, nat_lt, Bool, true, false, List, [], length, take, if◌then◌else◌, Option, Result, Ok, Err}
use Rattle.std.specs.Io.KnownBytes.{Appends}
use Rattle.ub_store.specs.Facts.{raised}
use Rattle.ub_script.specs.declared.output.OutFault.{OutFault}

-- the facts of an output: the bytes that it has taken so far, where they can be known, and how often a write failed (a count
-- that stays at the greatest u64)
pub record OutFacts : Type 0 where
  pub told : Option (List ℕ)
  pub failures : ℕ

abbrev pub out_facts : Option (List ℕ) → ℕ → OutFacts
out_facts told failures = record { told = told; failures = failures }

-- these bytes were taken, after those that were taken before, and a write failed, one and no more, or none did
pub record HasTaken (bytes : List ℕ) (failed : Bool) (old new : OutFacts) : Type 0 where
  pub told : Appends old.told new.told bytes
  pub failures : new.failures ≡ (if failed then raised old.failures 1 else old.failures)

-- all of these bytes were taken, and no write failed
abbrev pub Puts : List ℕ → OutFacts → OutFacts → Type 0
Puts bytes old new = HasTaken bytes false old new

-- this is the first part of the bytes, and not all of them
abbrev pub IsFrontOf : List ℕ → List ℕ → Type 0
IsFrontOf front bytes = (count : ℕ) × (count < length bytes) × (front ≡ take count bytes)

-- bytes were taken of which this holds, and a write failed or none did
abbrev pub Takes : (List ℕ → Type 0) → Bool → OutFacts → OutFacts → Type 0
Takes Are failed old new = (bytes : List ℕ) × Are bytes × HasTaken bytes failed old new

-- a front of these bytes was taken, and then a write failed
abbrev pub Breaks : List ℕ → OutFacts → OutFacts → Type 0
Breaks bytes old new = Takes (λ front. IsFrontOf front bytes) true old new

-- a call of `write` with this result: it takes as many bytes as it says; where it says a fault, or takes none of one byte or
-- more, it takes none and has failed
abbrev pub HasWritten : List ℕ → Result ℕ OutFault → OutFacts → OutFacts → Type 0
HasWritten bytes (Ok n) old new = (n ≤ length bytes) × HasTaken (take n bytes) (n == 0 && nat_lt 0 (length bytes)) old new
HasWritten bytes (Err fault) old new = HasTaken [] true old new
