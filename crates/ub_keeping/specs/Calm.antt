-- A place that is only looked at, and how often its calls failed.
use Rattle.std.specs.Prelude.{◌≡◌, ◌⊎◌, ℕ, Result, Ok, Err}
use Rattle.ub_store.specs.Facts.{raised}
use Rattle.ub_store.specs.declared.fault.StoreFault.{StoreFault}
use Rattle.ub_journal.specs.Image.{Image}
use Rattle.ub_journal.specs.Place.{AtAnyMoment, IsHonest, PlaceFacts}

-- nothing was written: the place is as honest as it was, and a crash leaves, now and at each moment of the call, what it might have left
-- before
pub record IsQuiet (old new : PlaceFacts) : Type 0 where
  pub honest : new.honest ≡ old.honest
  pub leaves : IsHonest old → (image : Image) → new.may_leave image → old.may_leave image
  pub any_moment : AtAnyMoment old.may_leave old new

-- and what is seen is what was seen
pub record IsCalm (old new : PlaceFacts) : Type 0 where
  pub quiet : IsQuiet old new
  pub seen : IsHonest old → new.seen ≡ old.seen

-- a count of failures after a call with this result that may have been refused for another reason than that the place failed: at Ok it is
-- as it was, at a fault raised by one or as it was
abbrev pub Raises : {A : Type 0} → Result A StoreFault → ℕ → ℕ → Type 0
Raises (Ok _) old new = new ≡ old
Raises (Err _) old new = (new ≡ raised old 1) ⊎ (new ≡ old)
