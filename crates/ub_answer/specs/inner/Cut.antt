-- A list cut into pieces of one length.
use Rattle.std.specs.Prelude.{ℕ, zero, suc, List, [], ◌∷◌, take, drop}

-- the first so many pieces
unfoldable pub cut : {E : Type 0} → ℕ → ℕ → List E → List (List E)
cut zero width xs = []
cut (suc count) width xs = take width xs ∷ cut count width (drop width xs)
