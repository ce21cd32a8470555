-- What a query means depends on its selected rows alone.
use Rattle.std.proofs.Common.{◌≡◌, ◌<◌, ℕ, List, [], ◌∷◌, map, Option, Some, None, Contains, inl, inr, refl, ap, ◌∙◌, subst}
use Rattle.ub_query.proofs.Laws.{Rising-one, rows-rising, numbers-never, numbers-chain, queries_have_a_meaning}
use Rattle.ub_query.specs.Cells.{Group, row_cell, group_cell}
use Rattle.ub_query.specs.Groups.{selected, AreGroups}
use Rattle.ub_query.specs.Meaning.{IsMeaning, limited}
use Rattle.ub_query.specs.Order.{IsArrangement, IsRowBefore}
use Rattle.ub_query.specs.Shape.{Shape, Asked}
use Rattle.ub_query.specs.declared.cell.Cell.{Cell}
use Rattle.ub_table.specs.Table.{Table, IsInOrder}
use Rattle.ub_table.specs.declared.row.Row.{Row}
use Rattle.ub_table.specs.declared.schema.Schema.{Schema}

-- a query with another condition
abbrev pub with_filter : Asked → Option Shape → Asked
with_filter q condition = record { items = q.items; filter = condition; group = q.group; order = q.order; limit = q.limit }

abbrev pub table_of : Schema → List Row → Table
table_of schema rows = record { schema = schema; rows = rows }

pub all_selected : (schema : Schema) (rows : List Row) → selected (table_of schema rows) None ≡ rows
all_selected schema [] = refl
all_selected schema (row ∷ rows) = ap (λ (rs : List Row). row ∷ rs) (all_selected schema rows)

-- the same selected rows give the same meaning
pub same_meaning : (schema : Schema) (q : Asked) (p r : Option Shape) (xs ys : List Row) (cells : List (List Cell))
    → selected (table_of schema xs) p ≡ selected (table_of schema ys) r
    → IsMeaning (table_of schema xs) (with_filter q p) cells → IsMeaning (table_of schema ys) (with_filter q r) cells
same_meaning schema q p r xs ys cells same (inl h) = inl (
  h.0,
  record {
    groups = h.1.groups;
    arranged = h.1.arranged;
    grouped = subst (λ (rows : List Row). AreGroups schema q.group rows h.1.groups) same h.1.grouped;
    ordered = h.1.ordered;
    cells = h.1.cells;
  },
)
same_meaning schema q p r xs ys cells same (inr h) = inr (
  h.0,
  record {
    arranged = h.1.arranged;
    ordered = subst (λ (rows : List Row). IsArrangement (IsRowBefore schema q.order) rows h.1.arranged) same h.1.ordered;
    cells = h.1.cells;
  },
)

-- rows in order with the same elements are the same
pub same_rows : (xs ys : List Row) → IsInOrder xs → IsInOrder ys → ((row : Row) → Contains xs row → Contains ys row) → ((row : Row) → Contains ys row → Contains xs row) → xs ≡ ys
same_rows xs ys up down there back =
    Rising-one (λ a b. a.number < b.number) numbers-never numbers-chain xs ys (rows-rising xs up) (rows-rising ys down) there back

-- ---- a limit of 0

no_entries : {E : Type 0} (limit : Option ℕ) (entries : List E) → limit ≡ Some 0 → limited limit entries ≡ []
no_entries None entries e = cc
no_entries (Some n) entries e = let zero : n ≡ 0 = cc in rw zero refl

pub zero_means_none : (table : Table) (q : Asked) (cells : List (List Cell)) → q.limit ≡ Some 0 → IsMeaning table q cells → cells ≡ []
zero_means_none table q cells zero (inl h) =
    h.1.cells ∙ ap (λ (gs : List Group). map (λ group. map (group_cell table.schema q.group group) q.items) gs) (no_entries q.limit h.1.arranged zero)
zero_means_none table q cells zero (inr h) =
    h.1.cells ∙ ap (λ (rs : List Row). map (λ row. map (row_cell table.schema row) q.items) rs) (no_entries q.limit h.1.arranged zero)

pub none_means_zero : (table : Table) (q : Asked) → IsInOrder table.rows → q.limit ≡ Some 0 → IsMeaning table q []
none_means_zero table q order zero =
    let (cells, means) = queries_have_a_meaning table q order in
    subst (λ (cs : List (List Cell)). IsMeaning table q cs) (zero_means_none table q cells zero means) means
