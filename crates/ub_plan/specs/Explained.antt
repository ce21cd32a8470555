-- The text of an EXPLAIN: how a plan reads a table, before it is carried out.
use Rattle.std.specs.Prelude.{◌≡◌, ℕ, ◌+◌, ℤ, Bool, true, false, List, [], ◌∷◌, ◌++◌, Option, Some, None, length, codes, decimal}
use Rattle.std.specs.Fmt.{signed_decimal}
use Rattle.std.specs.List.{flat_map, join_by}
use Rattle.ub_bigmin.specs.Box.{Corners}
use Rattle.ub_boxes.specs.Points.{total}
use Rattle.ub_planning.specs.Plan.{PlanView, residual_of}
use Rattle.ub_planning.specs.Visits.{Span, AreMeeting}
use Rattle.ub_planning.specs.declared.planned.Kind.{Kind}
use Rattle.ub_planning.specs.declared.planned.Kind.TheVariants.{Empty, Scan, Sweep}
use Rattle.ub_query.specs.Cells.{name_of}
use Rattle.ub_query.specs.Shape.{Shape}
use Rattle.ub_table.specs.Region.{RegionRows}
use Rattle.ub_table.specs.Value.{value}
use Rattle.ub_table.specs.declared.schema.Schema.{Schema}

-- a line of the text
abbrev pub line : List ℕ → List ℕ
line text = text ++ 10 ∷ []

-- how regions are read: a sweep's dimension by its name, and its direction
abbrev pub kind_text : Schema → Kind → List ℕ
kind_text schema Empty = codes "empty"
kind_text schema Scan = codes "scan"
kind_text schema (Sweep dim false) = codes "sweep " ++ name_of schema dim ++ codes " asc"
kind_text schema (Sweep dim true) = codes "sweep " ++ name_of schema dim ++ codes " desc"

-- what is known of the points of the query's condition: whether they are exact, and whether they are too many
abbrev pub cover_text : Bool → Bool → List ℕ
cover_text exact true = codes "wide"
cover_text true false = codes "exact"
cover_text false false = codes "partial"

-- whether something is still asked of a row in the boxes
abbrev pub filter_text : Option Shape → List ℕ
filter_text None = codes "no"
filter_text (Some condition) = codes "yes"

-- the values of a box in one dimension, from the least to the greatest
abbrev pub side_text : List ℕ → ℤ → ℤ → List ℕ
side_text name low high = name ++ codes " " ++ signed_decimal low ++ codes ".." ++ signed_decimal high

-- the same of each dimension from this one on, by the columns' names and the coordinates of the two corners
abbrev pub sides : Schema → ℕ → List (List ℕ) → List ℕ → List ℕ → List (List ℕ)
sides schema dim [] lo hi = []
sides schema dim (name ∷ names) [] hi = []
sides schema dim (name ∷ names) (low ∷ lo) [] = []
sides schema dim (name ∷ names) (low ∷ lo) (high ∷ hi) =
    side_text name (value schema dim low) (value schema dim high) ∷ sides schema (dim + 1) names lo hi

-- the line of a box
abbrev pub box_text : Schema → Corners → List ℕ
box_text schema b = codes "box " ++ join_by (λ side. side) (codes ", ") (sides schema 0 schema.columns b.lo b.hi)

-- the lines of a plan, where of so many regions so many meet its boxes: how the regions are read, the cover, the filter, each
-- box, how many points the boxes have together, and how many regions
unfoldable pub explain_text : Schema → PlanView → ℕ → ℕ → List ℕ
explain_text schema plan met regions =
    line (codes "plan " ++ kind_text schema plan.kind)
    ++ line (codes "cover " ++ cover_text plan.covering.exact plan.covering.wide)
    ++ line (codes "filter " ++ filter_text (residual_of plan))
    ++ flat_map (λ b. line (box_text schema b)) plan.covering.boxes
    ++ line (codes "points " ++ decimal (total plan.covering.boxes))
    ++ line (codes "regions " ++ decimal met ++ codes " of " ++ decimal regions)

-- how many regions meet some boxes
abbrev pub AreMet : Schema → List Corners → List RegionRows → ℕ → Type 0
AreMet schema boxes regions met = (meeting : List Span) × AreMeeting schema boxes regions meeting × (met ≡ length meeting)

-- the text of an EXPLAIN of a plan on the regions of a table
pub record IsExplained (schema : Schema) (plan : PlanView) (regions : List RegionRows) (text : List ℕ) : Type 0 where
  pub met : ℕ
  pub met_are : AreMet schema plan.covering.boxes regions met
  pub text_is : text ≡ explain_text schema plan met (length regions)
