-- The order asked (SQL's ORDER BY, with no two entries of a result left tied).
use Rattle.std.specs.Prelude.{◌≡◌, ℕ, ◌<◌, ◌<ℤ◌, ℤ, Bool, true, false, List, [], ◌∷◌, length, ◌⊎◌}
use Rattle.std.specs.List.{AllAdjacentBelow}
use Rattle.std.specs.List.Sorted.{IsPermutation}
use Rattle.ub_query.specs.Cells.{Group, row_cell, group_cell}
use Rattle.ub_query.specs.declared.cell.Cell.{Cell}
use Rattle.ub_query.specs.declared.cell.Cell.TheVariants.{Number, Null}
use Rattle.ub_query.specs.declared.query.Item.{Item}
use Rattle.ub_query.specs.declared.query.SortKey.{SortKey}
use Rattle.ub_table.specs.declared.row.Row.{Row}
use Rattle.ub_table.specs.declared.schema.Schema.{Schema}

-- a number below another; NULL is never compared
abbrev pub IsBelow : Cell → Cell → Type 0
IsBelow (Number a) (Number b) = a <ℤ b
IsBelow (Number a) Null = ⊥
IsBelow Null b = ⊥

-- below, or above where the key is descending
abbrev pub IsAhead : Bool → Cell → Cell → Type 0
IsAhead false a b = IsBelow a b
IsAhead true a b = IsBelow b a

-- an entry before another: the first key whose values differ decides, and where none does, `Ties`
abbrev pub IsBeforeBy : {E : Type 0} → (E → Item → Cell) → (E → E → Type 0) → List SortKey → E → E → Type 0
IsBeforeBy cell Ties [] a b = Ties a b
IsBeforeBy cell Ties (key ∷ keys) a b =
    IsAhead key.is_descending (cell a key.item) (cell b key.item)
    ⊎ ((cell a key.item ≡ cell b key.item) × IsBeforeBy cell Ties keys a b)

-- a row before another; where no key decides, by row number
abbrev pub IsRowBefore : Schema → List SortKey → Row → Row → Type 0
IsRowBefore schema keys a b = IsBeforeBy (row_cell schema) (λ a b. a.number < b.number) keys a b

-- the first numbers that differ ascend
abbrev pub AreBelow : List ℤ → List ℤ → Type 0
AreBelow [] ys = ⊥
AreBelow (x ∷ xs) [] = ⊥
AreBelow (x ∷ xs) (y ∷ ys) = (x <ℤ y) ⊎ ((x ≡ y) × AreBelow xs ys)

-- a group before another; where no key decides, by the values of the groups in the order of the group columns
abbrev pub IsGroupBefore : Schema → List ℕ → List SortKey → Group → Group → Type 0
IsGroupBefore schema columns keys a b =
    IsBeforeBy (group_cell schema columns) (λ a b. AreBelow a.values b.values) keys a b

-- the same entries, each before the next
pub record IsArrangement {E : Type 0} (IsBefore : E → E → Type 0) (entries arranged : List E) : Type 0 where
  pub same : IsPermutation entries arranged
  pub ordered : AllAdjacentBelow IsBefore arranged (length arranged)
