-- Changes, with the one of the first page apart.
use Rattle.std.specs.Prelude.{◌≡◌, ◌<◌, ◌^◌, ◌∷◌, ℕ, List, Option, Some, None}
use Rattle.ub_journal.specs.Image.{IsUntouched}
use Rattle.ub_journal.specs.declared.journal.Change.{Change}
use Rattle.ub_overlay.specs.Changes.{change}
use Rattle.ub_overlay.specs.Journal.{ChangedView}

-- the first page, if it was changed, and the other changes
abbrev pub IsSplit : List Change → Option (List ℕ) → List Change → Type 0
IsSplit changes (Some page) others = changes ≡ change 0 page ∷ others
IsSplit changes None others = (changes ≡ others) × IsUntouched changes 0

-- changes of a table that is to have so many pages, taken apart
pub record IsSplitOf (changes : List Change) (count : ℕ) (c : ChangedView) : Type 0 where
  pub split : IsSplit changes c.first c.others
  pub count_is : c.count ≡ count
  pub few : count < 2 ^ 32
