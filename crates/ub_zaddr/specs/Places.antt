-- How a point lies in its four places.
use Rattle.std.proofs.Common.{◌≡◌, ◌-◌, ℕ, List, ◌++◌, length, take, replicate, refl, sym, ap, arith, ◌∙◌}
use Rattle.std.proofs.lemmas.List.{length-take-le, take-append-drop}
use Rattle.ub_zaddr.specs.Padded.{IsPadded}
use Rattle.ub_zaddr.specs.declared.point.Point.TheInside.{Inside}

-- the coordinates, with zeros after them, are the places
pub padded_places : (places : List ℕ) (count : ℕ) → IsPadded places count → take count places ++ replicate (4 - length (take count places)) 0 ≡ places
padded_places places count h =
    let four = h.four in let within = h.within in
    let long : length (take count places) ≡ count = length-take-le count places (omega arith) in
    ap (λ (n : ℕ). take count places ++ replicate (4 - n) 0) long ∙ ap (λ (xs : List ℕ). take count places ++ xs) (sym h.rest) ∙ take-append-drop count places

pub padded_count : (places : List ℕ) (count : ℕ) → IsPadded places count → length (take count places) ≡ count
padded_count places count h = let four = h.four in let within = h.within in length-take-le count places (omega arith)

pub padded_back : (p : Inside) → IsPadded p.places p.count
    → record { places = take p.count p.places ++ replicate (4 - length (take p.count p.places)) 0; count = length (take p.count p.places) } ≡ p
padded_back p h = let a = padded_places p.places p.count h in let b = padded_count p.places p.count h in rw (a, b) refl
