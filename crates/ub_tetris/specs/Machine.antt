-- A sweep over the regions of a table (Tetris: Markl, Zirkel and Bayer 1999), as lists alone: regions fetched and not yet fetched; rows held,
-- given and still to be given.
use Rattle.std.specs.Prelude.{◌++◌, ℕ, Bool, List, map, slice_index}
use Rattle.ub_tetris.specs.Common.{All, AreArranged, AreEvents, Event, IsAlong, IsPermutation, PlanView, RegionRows, Row, Schema, selected_rows}

abbrev pub regions_at : List Event → List RegionRows
regions_at events = map (λ event. event.span.region) events

-- a row's coordinate lies before another one along the sweep, such as an event value, and after it
abbrev pub IsRowAlong : ℕ → Bool → Row → ℕ → Type 0
IsRowAlong dim is_descending row other = IsAlong is_descending (slice_index row.dims dim) other

abbrev pub IsRowPast : ℕ → Bool → ℕ → Row → Type 0
IsRowPast dim is_descending other row = IsAlong is_descending other (slice_index row.dims dim)

-- a sweep under way: the regions stand in its order, those fetched first, and so do the rows, those given first. Those given and held are the
-- selected rows of the fetched regions; none held lies before the event value of one of these, and each given before those of all others
pub record IsUnderWay (schema : Schema) (plan : PlanView) (dim : ℕ) (is_descending : Bool) (regions : List RegionRows)
    (held given rest : List Row) (fetched unread : List Event) : Type 0 where
  pub events : AreEvents schema plan.covering.boxes dim is_descending regions (fetched ++ unread)
  pub rows : AreArranged schema plan (selected_rows schema plan regions) (given ++ rest)
  pub held_are : IsPermutation (selected_rows schema plan (regions_at fetched)) (given ++ held)
  pub held_past : All (λ event. All (λ row. ¬ IsRowAlong dim is_descending row event.value) held) fetched
  pub given_before : All (λ event. All (λ row. IsRowAlong dim is_descending row event.value) given) unread
