-- What the things of a list give, where a loop goes over them.
use Rattle.std.proofs.Common.{◌≡◌, ◌<◌, ◌≤◌, ◌+◌, ℕ, List, [], ◌∷◌, ◌++◌, length, map, take, take_all, add-one, get_or, refl, sym, ap, ◌∙◌, subst}
use Rattle.std.proofs.Math.Seq.{take-suc}
use Rattle.std.proofs.lemmas.List.{map-append}
use Rattle.std.proofs.lemmas.List.Elements.{All-append, All-cons, All-nil}
use Rattle.std.specs.List.{All}

module _ {A B : Type 0} (f : A → B) (xs : List A) (k : ℕ) where
  -- what those so far give, with one of them more
  pub one_more : (P : B → Type 0) (ys new : List B) (y : B) (d : A) → k < length xs → (ys ≡ map f (take k xs)) × All P ys → new ≡ ys ++ y ∷ []
      → y ≡ f (get_or xs k d) → P y → (new ≡ map f (take (k + 1) xs)) × All P new
  one_more P ys new y d lt so_far more is holds = (
    rw (add-one, take-suc xs k d lt, map-append, more, so_far.0, is) refl,
    subst (All P) (sym more) (All-append P ys (y ∷ []) so_far.1 (All-cons P y [] holds (All-nil P))),
  )

  -- and what all of them give
  pub all_given : (ys : List B) → length xs ≤ k → ys ≡ map f (take k xs) → ys ≡ map f xs
  all_given ys past so_far = so_far ∙ ap (map f) (take_all k xs past)
