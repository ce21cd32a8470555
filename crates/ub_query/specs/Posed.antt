-- What is true of each query that is accepted over a table with so many columns.
use Rattle.std.specs.Prelude.{◌≢◌, ℕ, ◌+◌, ◌<◌, ◌≤◌, ◌==◌, max, ℤ, pos, neg_ℤ, ◌≤ℤ◌, Bool, true, false, not, ◌||◌, List, [], length, ◌⊎◌, IfSome}
use Rattle.std.specs.List.{All, Contains, list_any}
use Rattle.ub_query.specs.Shape.{Asked, Shape, both, either, neither, compares, between}
use Rattle.ub_query.specs.declared.query.Item.{Item}
use Rattle.ub_query.specs.declared.query.Item.TheVariants.{Column, Count, Aggregate}

-- the greatest number that a statement may write
abbrev pub greatest_number : ℕ
greatest_number = 18446744073709551615

-- the number may be written, with or without a minus
abbrev pub IsLiteral : ℤ → Type 0
IsLiteral v = (neg_ℤ (pos greatest_number) ≤ℤ v) × (v ≤ℤ pos greatest_number)

-- the condition names columns of a table with so many
abbrev pub IsOver : ℕ → Shape → Type 0
IsOver columns (both a b) = IsOver columns a × IsOver columns b
IsOver columns (either a b) = IsOver columns a × IsOver columns b
IsOver columns (neither a) = IsOver columns a
IsOver columns (compares column operator value) = column < columns
IsOver columns (between column low high) = column < columns

-- the numbers of the condition may be written
abbrev pub AreLiterals : Shape → Type 0
AreLiterals (both a b) = AreLiterals a × AreLiterals b
AreLiterals (either a b) = AreLiterals a × AreLiterals b
AreLiterals (neither a) = AreLiterals a
AreLiterals (compares column operator value) = IsLiteral value
AreLiterals (between column low high) = IsLiteral low × IsLiteral high

-- how many comparisons a condition has; a BETWEEN is one
abbrev pub comparisons : Shape → ℕ
comparisons (both a b) = comparisons a + comparisons b
comparisons (either a b) = comparisons a + comparisons b
comparisons (neither a) = comparisons a
comparisons (compares column operator value) = 1
comparisons (between column low high) = 1

-- how many NOTs stand round a comparison at most
abbrev pub nesting : Shape → ℕ
nesting (both a b) = max (nesting a) (nesting b)
nesting (either a b) = max (nesting a) (nesting b)
nesting (neither a) = nesting a + 1
nesting (compares column operator value) = 0
nesting (between column low high) = 0

-- how many ANDs, ORs, NOTs and comparisons stand one in the other at most
abbrev pub height : Shape → ℕ
height (both a b) = max (height a) (height b) + 1
height (either a b) = max (height a) (height b) + 1
height (neither a) = height a + 1
height (compares column operator value) = 1
height (between column low high) = 1

-- what is true of each condition that is accepted; so it is at most 128 high (`Laws`)
pub record IsPosedCondition (columns : ℕ) (c : Shape) : Type 0 where
  pub over : IsOver columns c
  pub literals : AreLiterals c
  pub few : comparisons c ≤ 64
  pub shallow : nesting c ≤ 64

-- the item names a column of a table with so many, or none
abbrev pub IsItemOver : ℕ → Item → Type 0
IsItemOver columns (Column column) = column < columns
IsItemOver columns Count = Unit {0}
IsItemOver columns (Aggregate aggregate column) = column < columns

-- COUNT, SUM, MIN or MAX
abbrev pub IsAggregate : Item → Type 0
IsAggregate (Column column) = ⊥
IsAggregate Count = Unit {0}
IsAggregate (Aggregate aggregate column) = Unit {0}

-- a query with GROUP BY or with an aggregate among its items; the others are row queries
abbrev pub IsGroupQuery : Asked → Type 0
IsGroupQuery q = (q.group ≢ []) ⊎ ((item : Item) × Contains q.items item × IsAggregate item)

-- the test that tells an aggregate
abbrev pub is_aggregate : Item → Bool
is_aggregate (Column column) = false
is_aggregate Count = true
is_aggregate (Aggregate aggregate column) = true

-- the test that tells a query with GROUP BY or with an aggregate among its items (`Laws`)
abbrev pub has_groups : Asked → Bool
has_groups q = not (length q.group == 0) || list_any is_aggregate q.items

-- an aggregate, or a column by which is grouped
abbrev pub IsGrouped : List ℕ → Item → Type 0
IsGrouped group (Column column) = Contains group column
IsGrouped group Count = Unit {0}
IsGrouped group (Aggregate aggregate column) = Unit {0}

-- what is true of each query that is accepted
pub record IsPosed (columns : ℕ) (q : Asked) : Type 0 where
  pub items : All (λ item. IsItemOver columns item) q.items
  pub some_items : 1 ≤ length q.items
  pub few_items : length q.items ≤ 8
  pub filter : IfSome q.filter (λ c. IsPosedCondition columns c)
  pub group : All (λ column. column < columns) q.group
  pub few_groups : length q.group ≤ 8
  pub order : All (λ key. IsItemOver columns key.item) q.order
  pub few_keys : length q.order ≤ 8
  pub limit : IfSome q.limit (λ n. n ≤ greatest_number)
  pub grouped : IsGroupQuery q → All (λ item. IsGrouped q.group item) q.items
  pub selected : IsGroupQuery q → All (λ key. Contains q.items key.item) q.order
  pub plain : ¬ IsGroupQuery q → All (λ key. ¬ IsAggregate key.item) q.order
