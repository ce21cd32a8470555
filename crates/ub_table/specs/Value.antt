-- Values and coordinates: what the coordinates of a dimension stand for, and which numbers a column can hold. They meet here, and
-- elsewhere a definition is of the ones or of the others.
use Rattle.std.specs.Prelude.{ℕ, ℤ, pos, negsuc, ◌==◌, ◌+ℤ◌, ◌-ℤ◌, int_le, Bool, ◌&&◌, nat_lt, nat_le, if◌then◌else◌, Option, Some, None}
use Rattle.std.specs.Int.{bit_at}
use Rattle.std.specs.Option.{is_some}
use Rattle.ub_table.specs.declared.axes.Axes.{Axes}
use Rattle.ub_table.specs.declared.schema.Schema.{Schema}

-- the greatest coordinate
abbrev pub greatest : ℕ
greatest = 4294967295

-- the dimension is signed: the mask has its bit
abbrev pub is_signed : ℕ → ℕ → Bool
is_signed mask dim = bit_at mask dim == 1

-- how far the values of a dimension stand below its coordinates: those of a signed one by half of all coordinates
unfoldable pub shift : Axes → ℕ → ℤ
shift axes dim = if is_signed axes.signed dim then pos 2147483648 else pos 0

-- the value that a coordinate of a dimension stands for
abbrev pub value_at : Axes → ℕ → ℕ → ℤ
value_at axes dim n = pos n -ℤ shift axes dim

-- the number as a coordinate, if it is one
abbrev pub as_coordinate : ℤ → Option ℕ
as_coordinate (pos n) = if nat_le n greatest then Some n else None
as_coordinate (negsuc n) = None

-- the coordinate that stands for a number in a dimension, if the dimension has that value
abbrev pub coordinate_at : Axes → ℕ → ℤ → Option ℕ
coordinate_at axes dim v = as_coordinate (v +ℤ shift axes dim)

-- whether a measure can hold a number: 64 bits with sign hold it
abbrev pub fits_measure : ℤ → Bool
fits_measure v = int_le (negsuc 9223372036854775807) v && int_le v (pos 9223372036854775807)

-- whether a column can hold a number: a dimension where it has that value, else a measure
abbrev pub fits_at : Axes → ℕ → ℤ → Bool
fits_at axes column v = if nat_lt column axes.dims then is_some (coordinate_at axes column v) else fits_measure v

-- the dimensions of a schema
abbrev pub axes_of : Schema → Axes
axes_of schema = record { dims = schema.dims; signed = schema.signed }

-- the same of a schema: the value that a coordinate of a dimension stands for
abbrev pub value : Schema → ℕ → ℕ → ℤ
value schema dim n = value_at (axes_of schema) dim n

-- the coordinate that stands for a number in a dimension
abbrev pub coordinate : Schema → ℕ → ℤ → Option ℕ
coordinate schema dim v = coordinate_at (axes_of schema) dim v

-- whether a column can hold a number
abbrev pub fits : Schema → ℕ → ℤ → Bool
fits schema column v = fits_at (axes_of schema) column v
