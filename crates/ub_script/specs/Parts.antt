-- The lines of what a script writes: those that tell of an answer or of a fault, and those that are answers.
use Rattle.std.specs.Prelude.{ℕ, ◌==◌, ◌||◌, Bool, not, nat_eq, if◌then◌else◌, List, [], ◌∷◌, codes}
use Rattle.std.specs.List.{filter, flat_map, starts_with}

-- a line tells of an answer, of a change or of a fault
abbrev pub is_note : List ℕ → Bool
is_note line = starts_with nat_eq line (codes "-- ") || starts_with nat_eq line (codes "! ")

-- a byte before lines: it begins the first of them, or is a line of its own where there is none
abbrev pub before_lines : ℕ → List (List ℕ) → List (List ℕ)
before_lines c [] = (c ∷ []) ∷ []
before_lines c (line ∷ lines) = (c ∷ line) ∷ lines

-- the lines of a text, each with its line feed; a last one may have none
unfoldable pub lines_of : List ℕ → List (List ℕ)
lines_of [] = []
lines_of (c ∷ rest) = if c == 10 then (10 ∷ []) ∷ lines_of rest else before_lines c (lines_of rest)

-- the lines of a text that tell, each with its line feed, in their order
abbrev pub notes_in : List ℕ → List ℕ
notes_in text = flat_map (λ line. line) (filter is_note (lines_of text))

-- and the others
abbrev pub answers_in : List ℕ → List ℕ
answers_in text = flat_map (λ line. line) (filter (λ line. not (is_note line)) (lines_of text))
