-- A query without the boxes in which its condition lies in memory.
use Rattle.std.specs.Prelude.{ℕ, ℤ, List, Option}
use Rattle.std.specs.Option.{option_map}
use Rattle.ub_query.specs.declared.condition.Cond.{Cond, And', Or', Not', Compare, Between}
use Rattle.ub_query.specs.declared.condition.Operator.{Operator}
use Rattle.ub_query.specs.declared.query.Item.{Item}
use Rattle.ub_query.specs.declared.query.Query.{Query}
use Rattle.ub_query.specs.declared.query.SortKey.{SortKey}

-- a condition
pub data Shape : Type 0 where
  both : Shape → Shape → Shape
  either : Shape → Shape → Shape
  neither : Shape → Shape
  compares : ℕ → Operator → ℤ → Shape
  between : ℕ → ℤ → ℤ → Shape

-- a query
pub record Asked : Type 0 where
  pub items : List Item
  pub filter : Option Shape
  pub group : List ℕ
  pub order : List SortKey
  pub limit : Option ℕ

abbrev pub shape : Cond → Shape
shape (And' p a q b) = both (shape a) (shape b)
shape (Or' p a q b) = either (shape a) (shape b)
shape (Not' p a) = neither (shape a)
shape (Compare column operator value) = compares column operator value
shape (Between column low high) = between column low high

abbrev pub asked : Query → Asked
asked q = record { items = q.items; filter = option_map shape q.filter; group = q.group; order = q.order; limit = q.limit }
