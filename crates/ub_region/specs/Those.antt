-- The elements of a list that have a property, and the first of them.
use Rattle.std.specs.Prelude.{◌≡◌, List, [], ◌∷◌, ◌⊎◌, Option, MatchOption, Contains}
use Rattle.ub_table.specs.Keys.{IsBefore}
use Rattle.ub_table.specs.declared.row.Key.{Key}

-- those that have it, in their order, and no others
abbrev pub AreThose : {E : Type 0} → (E → Type 0) → List E → List E → Type 0
AreThose P [] those = those ≡ []
AreThose P (x ∷ xs) those =
    (P x × (rest : List _) × (those ≡ x ∷ rest) × AreThose P xs rest) ⊎ ((¬ (P x)) × AreThose P xs those)

-- the first one that has it, in the order of their keys; or none has it
abbrev pub FirstBy : {E : Type 0} → (E → Key) → (E → Type 0) → List E → Option E → Type 0
FirstBy {E = E} key P xs found =
    MatchOption found ((x : E) → Contains xs x → ¬ (P x))
    (λ x. Contains xs x × P x × ((other : E) → Contains xs other → P other → ¬ (IsBefore (key other) (key x))))
