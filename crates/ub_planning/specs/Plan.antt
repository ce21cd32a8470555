-- The plan of a query: which boxes its rows lie in, and what is still to be asked of a row that lies in one.
use Rattle.std.specs.Prelude.{ℕ, Bool, true, false, ◌&&◌, ◌||◌, ◌==◌, nat_le, nat_lt, if◌then◌else◌, List, [], ◌∷◌, length, Option, Some, None, slice_get}
use Rattle.std.specs.List.{list_any}
use Rattle.ub_bigmin.specs.Box.{Corners}
use Rattle.ub_boxes.specs.Boxes.{Covering, boxes_of, cover_of}
use Rattle.ub_boxes.specs.Laws.{point_of}
use Rattle.ub_planning.specs.declared.planned.Kind.{Kind}
use Rattle.ub_planning.specs.declared.planned.Kind.TheVariants.{Empty, Scan, Sweep}
use Rattle.ub_query.specs.Groups.{is_selected}
use Rattle.ub_query.specs.Lead.{is_one_entry, swept_order}
use Rattle.ub_query.specs.Shape.{Shape, Asked}
use Rattle.ub_query.specs.declared.query.Item.{Item}
use Rattle.ub_query.specs.declared.query.Item.TheVariants.{Column, Count, Aggregate}
use Rattle.ub_query.specs.declared.query.SortKey.{SortKey}
use Rattle.ub_table.specs.declared.row.Row.{Row}
use Rattle.ub_table.specs.declared.schema.Schema.{Schema}

-- how regions are read, what is known of the points, and the query
pub record PlanView : Type 0 where
  pub kind : Kind
  pub covering : Covering
  pub asked : Asked

-- whether a limit lets no row through
abbrev pub is_zero : Option ℕ → Bool
is_zero None = false
is_zero (Some n) = n == 0

-- a sweep along an item where it is a dimension, down where it is descending; else a scan
abbrev pub along_item : ℕ → Item → Bool → Kind
along_item dims (Column column) is_descending = if nat_lt column dims then Sweep column is_descending else Scan
along_item dims Count is_descending = Scan
along_item dims (Aggregate aggregate column) is_descending = Scan

-- a sweep along the item of an order key, if there is a key and the item is a dimension; else a scan
abbrev pub along : ℕ → Option SortKey → Kind
along dims None = Scan
along dims (Some key) = along_item dims key.item key.is_descending

-- how regions are read for a query, by the first of these rules that holds: not at all where the cover has no box or the limit
-- is 0; by a scan where the result is one entry; by a sweep where the first key of the order in which it gives rows (of a query
-- of rows its first order key, of one with GROUP BY its lead) is a dimension; by a scan
abbrev pub planned_kind : Schema → Asked → Kind
planned_kind schema q =
    if length (boxes_of schema q.filter) == 0 || is_zero q.limit then Empty
    else (if is_one_entry q then Scan else along schema.dims (slice_get (swept_order q.group q.order) 0))

-- an empty plan has no boxes; whether the cover was exact or wide is kept
abbrev pub kept_by : Kind → Covering → Covering
kept_by Empty covering = record { boxes = []; exact = covering.exact; wide = covering.wide }
kept_by Scan covering = covering
kept_by (Sweep dim is_descending) covering = covering

-- the plan of a query over a table of this schema
abbrev pub plan_of : Schema → Asked → PlanView
plan_of schema q = record {
  kind = planned_kind schema q;
  covering = kept_by (planned_kind schema q) (cover_of schema q.filter);
  asked = q;
}

-- what is still asked of a row in the boxes: the whole condition where the cover isn't exact, else nothing
abbrev pub residual_by : Kind → Bool → Option Shape → Option Shape
residual_by Empty exact filter = None
residual_by Scan exact filter = if exact then None else filter
residual_by (Sweep dim is_descending) exact filter = if exact then None else filter

abbrev pub residual_of : PlanView → Option Shape
residual_of plan = residual_by plan.kind plan.covering.exact plan.asked.filter

-- whether each number is at most the one at its place, and there are as many
abbrev pub are_at_most : List ℕ → List ℕ → Bool
are_at_most [] [] = true
are_at_most [] (y ∷ ys) = false
are_at_most (x ∷ xs) [] = false
are_at_most (x ∷ xs) (y ∷ ys) = nat_le x y && are_at_most xs ys

-- whether a point lies in a box
abbrev pub is_inside : List ℕ → Corners → Bool
is_inside point b = are_at_most b.lo point && are_at_most point b.hi

-- whether the point of a row lies in one of the boxes
abbrev pub is_in_any : Schema → List Corners → Row → Bool
is_in_any schema boxes row = list_any (is_inside (point_of schema row)) boxes

-- whether a plan of this kind reads regions
abbrev pub reads : Kind → Bool
reads Empty = false
reads Scan = true
reads (Sweep dim is_descending) = true

-- whether a plan takes a row: one that reads regions takes those that lie in one of the boxes and of which the residual is true.
-- In which order it reads the regions (`Visits`) changes nothing, since the result is arranged
abbrev pub takes : Schema → PlanView → Row → Bool
takes schema plan row =
    reads plan.kind && (is_in_any schema plan.covering.boxes row && is_selected schema (residual_of plan) row)
