-- What contracts see of a file, and what its calls may do to that.
use Rattle.std.specs.Prelude.{◌≡◌, ◌≤◌, ◌⊎◌, ◌++◌, ◌∷◌, [], ℕ, zero, suc, List, Bool, length, min, max, take, drop, Result, Ok, Err, OnOk, OnErr}
use Rattle.ub_store.specs.Facts.{raised}

-- the facts of a file: whether it gives back what was written to it, the bytes that stand there, those that a sync made last (more may
-- last before the next one, of which nothing is said), how many calls were made to change it, and how often reads and other calls were
-- refused (counts that stay at the greatest u64)
pub record RawFacts : Type 0 where
  pub honest : Bool
  pub bytes : List ℕ
  pub synced : List ℕ
  pub changes : ℕ
  pub failed_reads : ℕ
  pub failed_writes : ℕ

-- these bytes put in the place of those from this one on: a place past the end is reached by zeros
unfoldable pub put_at : ℕ → List ℕ → List ℕ → List ℕ
put_at zero new bytes = new ++ drop (length new) bytes
put_at (suc place) new [] = 0 ∷ put_at place new []
put_at (suc place) new (byte ∷ bytes) = byte ∷ put_at place new bytes

-- so many of these bytes, and where there are fewer, zeros after them
unfoldable pub with_length : ℕ → List ℕ → List ℕ
with_length zero bytes = []
with_length (suc n) [] = 0 ∷ with_length n []
with_length (suc n) (byte ∷ bytes) = byte ∷ with_length n bytes

-- a count of refusals after a call with this result
abbrev pub with_refusal : {A E : Type 0} → Result A E → ℕ → ℕ
with_refusal (Ok _) n = n
with_refusal (Err _) n = raised n 1

-- a call with this result that reads the bytes from this place on into those that were lent, as many as these are: nothing changes but
-- that a refusal is counted, and then any bytes may stand in those that were lent
pub record ReadsBytes {A E : Type 0} (place : ℕ) (lent read : List ℕ) (old new : RawFacts) (result : Result A E) : Type 0 where
  pub same : new ≡ record old { failed_reads = with_refusal result old.failed_reads }
  pub read_are : OnOk result (read ≡ take (length lent) (drop place old.bytes))

-- a call with this result that writes these bytes from this place on: where it is refused, any bytes may stand in their place, as many as
-- they are or fewer, or all is as it was
pub record WritesBytes {A E : Type 0} (place : ℕ) (bytes : List ℕ) (old new : RawFacts) (result : Result A E) : Type 0 where
  pub frame : new ≡ record old {
    bytes = new.bytes;
    changes = raised old.changes 1;
    failed_writes = with_refusal result old.failed_writes;
  }
  pub written : OnOk result (new.bytes ≡ put_at place bytes old.bytes)
  pub torn : OnErr result ((new.bytes ≡ old.bytes)
      ⊎ ((part : List ℕ) × (length part ≤ length bytes) × (new.bytes ≡ put_at place part old.bytes)))

-- a call with this result that makes the file so many bytes long: where it is refused, it may be of any length between that of before and this
pub record SetsLength {A E : Type 0} (size : ℕ) (old new : RawFacts) (result : Result A E) : Type 0 where
  pub frame : new ≡ record old {
    bytes = new.bytes;
    changes = raised old.changes 1;
    failed_writes = with_refusal result old.failed_writes;
  }
  pub set : OnOk result (new.bytes ≡ with_length size old.bytes)
  pub between : OnErr result ((part : ℕ) × (min (length old.bytes) size ≤ part) × (part ≤ max (length old.bytes) size)
      × (new.bytes ≡ with_length part old.bytes))

-- a call with this result that makes the bytes last: where it is refused, those that last are those of before, or those that stand there now
pub record SyncsBytes {A E : Type 0} (old new : RawFacts) (result : Result A E) : Type 0 where
  pub frame : new ≡ record old { synced = new.synced; failed_writes = with_refusal result old.failed_writes }
  pub lasts : (new.synced ≡ old.synced) ⊎ (new.synced ≡ new.bytes)
  pub done : OnOk result (new.synced ≡ new.bytes)

-- it is so many bytes long, no call has changed it yet, and none was refused
pub record IsUntouched (facts : RawFacts) (length_told : ℕ) : Type 0 where
  pub length_is : length_told ≡ length facts.bytes
  pub unchanged : facts.changes ≡ 0
  pub read : facts.failed_reads ≡ 0
  pub written : facts.failed_writes ≡ 0
