-- The lead of a query: the key by which its result begins to be ordered, and along which a sweep can give it.
use Rattle.std.specs.Prelude.{ℕ, Bool, false, ◌&&◌, ◌==◌, List, [], ◌∷◌, length, Option, Some, None}
use Rattle.std.specs.List.{list_any}
use Rattle.ub_query.specs.Cells.{Group}
use Rattle.ub_query.specs.Groups.{AreGroups}
use Rattle.ub_query.specs.Order.{IsArrangement, IsGroupBefore}
use Rattle.ub_query.specs.Posed.{is_aggregate}
use Rattle.ub_query.specs.Shape.{Asked}
use Rattle.ub_query.specs.declared.query.Item.TheVariants.{Column}
use Rattle.ub_query.specs.declared.query.SortKey.{SortKey}
use Rattle.ub_table.specs.declared.row.Row.{Row}
use Rattle.ub_table.specs.declared.schema.Schema.{Schema}

-- the lead of a query with GROUP BY whose first group column is this one: its first order key, else that column ascending
abbrev pub lead_by : ℕ → List SortKey → SortKey
lead_by column [] = record { item = Column column; is_descending = false }
lead_by column (key ∷ keys) = key

-- the lead of the groups; none without GROUP BY
abbrev pub group_lead : List ℕ → List SortKey → Option SortKey
group_lead [] order = None
group_lead (column ∷ group) order = Some (lead_by column order)

-- the order in which a sweep gives rows: that asked, or of a query with GROUP BY that of its lead alone
abbrev pub swept_order : List ℕ → List SortKey → List SortKey
swept_order [] order = order
swept_order (column ∷ group) order = lead_by column order ∷ []

-- whether the result is one entry, of all selected rows: an aggregate stands among the items, and there is no GROUP BY
abbrev pub is_one_entry : Asked → Bool
is_one_entry q = (length q.group == 0) && list_any is_aggregate q.items

-- the groups of some rows, in the order asked
pub record AreGroupsInOrder (schema : Schema) (q : Asked) (rows : List Row) (arranged : List Group) : Type 0 where
  pub groups : List Group
  pub grouped : AreGroups schema q.group rows groups
  pub ordered : IsArrangement (IsGroupBefore schema q.group q.order) groups arranged
