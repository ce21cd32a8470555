-- What a sink has taken of what it is handed one after the other, by what is true of two of its states.
use Rattle.std.specs.Prelude.{◌++◌, List}

-- it is under way: since some state it has taken some things, or none
abbrev pub Began : {S X : Type 0} → (S → List X → S → Type 0) → S → Type 0
Began {S = S} {X = X} Takes now = (start : S) × (taken : List X) × Takes start taken now

-- between two states it has taken these, after those that it took before
abbrev pub TakesThese : {S X : Type 0} → (S → List X → S → Type 0) → S → S → List X → Type 0
TakesThese {S = S} {X = X} Takes old new these = (start : S) (taken : List X) → Takes start taken old → Takes start (taken ++ these) new
