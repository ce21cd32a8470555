-- Which addresses of a list lie in a box.
use Rattle.std.specs.Prelude.{◌≡◌, ◌⊎◌, ℕ, List, [], ◌∷◌}
use Rattle.ub_bigmin.specs.Box.{Corners, Holds}

-- of a list of addresses those that lie in the box, in their order, each as often as it stands there, and no others
abbrev pub AreThoseIn : Corners → List ℕ → List ℕ → Type 0
AreThoseIn zbox [] found = found ≡ []
AreThoseIn zbox (z ∷ zs) found =
    (Holds zbox z × (more : List ℕ) × (found ≡ z ∷ more) × AreThoseIn zbox zs more) ⊎ ((¬ (Holds zbox z)) × AreThoseIn zbox zs found)
