-- The laws of values and coordinates, and where rows end. Each is what the function of its name in `law` ensures, and is proved in
-- proofs/Laws.antt.
use Rattle.std.specs.Prelude.{◌≡◌, ◌↔◌, ℕ, ◌<◌, ◌≤◌, ℤ, pos, negsuc, ◌<ℤ◌, ◌≤ℤ◌, false, true, Some}
use Rattle.ub_table.specs.Value.{greatest, is_signed, value_at, coordinate_at}
use Rattle.ub_table.specs.declared.axes.Axes.{Axes}
use Rattle.ub_table.specs.declared.row.TheConstants.{MAX_ROW_NUMBER}
use Rattle.ub_table.specs.declared.schema.TheConstants.{MAX_ROWS}

-- the coordinate that stands for a number is the one whose value it is
abbrev pub CoordinatesAreValues : Type 0
CoordinatesAreValues = (axes : Axes) (dim n : ℕ) (v : ℤ)
    → (coordinate_at axes dim v ≡ Some n) ↔ ((n ≤ greatest) × (value_at axes dim n ≡ v))

-- the values of a dimension are 0 to 2^32 - 1, and those of a signed one -2^31 to 2^31 - 1
abbrev pub ValuesOfADimension : Type 0
ValuesOfADimension = (axes : Axes) (dim n : ℕ) → n ≤ greatest
    → (is_signed axes.signed dim ≡ false
    → (pos 0 ≤ℤ value_at axes dim n) × (value_at axes dim n ≤ℤ pos 4294967295))
    × (is_signed axes.signed dim ≡ true
    → (negsuc 2147483647 ≤ℤ value_at axes dim n) × (value_at axes dim n ≤ℤ pos 2147483647))

-- of two coordinates of a dimension the lesser one stands for the lesser value
abbrev pub ValuesAscend : Type 0
ValuesAscend = (axes : Axes) (dim a b : ℕ) → (a < b) ↔ (value_at axes dim a <ℤ value_at axes dim b)

-- equal values of a dimension are those of one coordinate
abbrev pub ValuesTellCoordinates : Type 0
ValuesTellCoordinates = (axes : Axes) (dim a b : ℕ) → value_at axes dim a ≡ value_at axes dim b → a ≡ b

-- the greatest row number is 2^24 - 1
abbrev pub RowNumbersEnd : Type 0
RowNumbersEnd = MAX_ROW_NUMBER ≡ 16777215

-- the most rows of a page are 64
abbrev pub PagesEnd : Type 0
PagesEnd = MAX_ROWS ≡ 64
