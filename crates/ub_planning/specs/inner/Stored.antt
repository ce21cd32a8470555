-- A condition as a list of steps from which it can be told again: so two plans can be told apart.
use Rattle.std.specs.Prelude.{◌≡◌, ℕ, zero, suc, ℤ, pos, List, [], ◌∷◌}
use Rattle.std.proofs.Common.{refl, ap, ◌∙◌}
use Rattle.std.specs.Coded.{Coded, code_by, coded×, coded_ℕ, coded_ℤ, coded_list}
use Rattle.ub_query.specs.Shape.{Shape, both, either, neither, compares, between}
use Rattle.ub_query.specs.declared.condition.Operator.{Operator}
use Rattle.ub_query.specs.declared.condition.Operator.TheVariants.{Equal, NotEqual, Less, AtMost, Greater, AtLeast}

-- what is done (joined by AND, joined by OR, negated, a BETWEEN, a comparison), to which column, and the numbers
abbrev pub Step : Type 0
Step = (ℕ × ℕ) × (ℤ × ℤ)

abbrev pub number_of : Operator → ℕ
number_of Equal = 4
number_of NotEqual = 5
number_of Less = 6
number_of AtMost = 7
number_of Greater = 8
number_of AtLeast = 9

-- a step that says no more than what is done
abbrev pub bare : ℕ → Step
bare n = ((n, 0), (pos 0, pos 0))

-- the steps of a condition, its parts first, and then others
abbrev pub steps : Shape → List Step → List Step
steps (both a b) rest = steps a (steps b (bare 0 ∷ rest))
steps (either a b) rest = steps a (steps b (bare 1 ∷ rest))
steps (neither a) rest = steps a (bare 2 ∷ rest)
steps (between column low high) rest = ((3, column), (low, high)) ∷ rest
steps (compares column operator value) rest = ((number_of operator, column), (value, pos 0)) ∷ rest

-- the two last conditions joined
abbrev pub joined : (Shape → Shape → Shape) → List Shape → List Shape
joined f [] = []
joined f (b ∷ []) = []
joined f (b ∷ a ∷ others) = f a b ∷ others

abbrev pub negated : List Shape → List Shape
negated [] = []
negated (a ∷ others) = neither a ∷ others

-- the conditions after a step, the last first
abbrev pub after : ℕ → ℕ → ℤ → ℤ → List Shape → List Shape
after zero column v w others = joined both others
after (suc zero) column v w others = joined either others
after (suc (suc zero)) column v w others = negated others
after (suc (suc (suc zero))) column v w others = between column v w ∷ others
after (suc (suc (suc (suc zero)))) column v w others = compares column Equal v ∷ others
after (suc (suc (suc (suc (suc zero))))) column v w others = compares column NotEqual v ∷ others
after (suc (suc (suc (suc (suc (suc zero)))))) column v w others = compares column Less v ∷ others
after (suc (suc (suc (suc (suc (suc (suc zero))))))) column v w others = compares column AtMost v ∷ others
after (suc (suc (suc (suc (suc (suc (suc (suc zero)))))))) column v w others = compares column Greater v ∷ others
after (suc (suc (suc (suc (suc (suc (suc (suc (suc n))))))))) column v w others = compares column AtLeast v ∷ others

abbrev pub told : List Step → List Shape → List Shape
told [] others = others
told (step ∷ rest) others = told rest (after step.0.0 step.0.1 step.1.0 step.1.1 others)

abbrev pub last_told : List Shape → Shape
last_told [] = compares 0 Equal (pos 0)
last_told (a ∷ others) = a

pub told_again : (c : Shape) (rest : List Step) (others : List Shape) → told (steps c rest) others ≡ told rest (c ∷ others)
told_again (both a b) rest others =
    told_again a (steps b (bare 0 ∷ rest)) others ∙ told_again b (bare 0 ∷ rest) (a ∷ others)
told_again (either a b) rest others =
    told_again a (steps b (bare 1 ∷ rest)) others ∙ told_again b (bare 1 ∷ rest) (a ∷ others)
told_again (neither a) rest others = told_again a (bare 2 ∷ rest) others
told_again (between column low high) rest others = refl
told_again (compares column Equal value) rest others = refl
told_again (compares column NotEqual value) rest others = refl
told_again (compares column Less value) rest others = refl
told_again (compares column AtMost value) rest others = refl
told_again (compares column Greater value) rest others = refl
told_again (compares column AtLeast value) rest others = refl

abbrev pub shape_code : Coded Shape
shape_code =
    code_by (List Step) (coded_list (coded× (coded× coded_ℕ coded_ℕ) (coded× coded_ℤ coded_ℤ)))
    (λ c. steps c []) (λ steps. last_told (told steps [])) (λ c. ap last_told (told_again c [] []))
