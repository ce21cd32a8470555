-- Worked examples: four small tables, some queries, and what they mean, worked out by hand. Each is what the function of its name in
-- `example` ensures.
use Rattle.std.specs.Prelude.{◌≡◌, ℕ, zero, suc, ℤ, pos, negsuc, true, false, List, [], ◌∷◌, map, Option, Some, None, codes}
use Rattle.std.proofs.Common.{◌≢◌, eqb, refl, arith}
use Rattle.std.proofs.lemmas.Bool.{eqb-false}
use Rattle.ub_query.specs.Meaning.{IsMeaning, titles}
use Rattle.ub_query.specs.Shape.{Asked, Shape, neither, compares, between}
use Rattle.ub_query.specs.declared.cell.Cell.{Cell}
use Rattle.ub_query.specs.declared.cell.Cell.TheVariants.{Number, Null}
use Rattle.ub_query.specs.declared.condition.Operator.TheVariants.{Less, Greater}
use Rattle.ub_query.specs.declared.query.Aggregate.TheVariants.{Sum, Min, Max}
use Rattle.ub_query.specs.declared.query.Item.TheVariants.{Column, Count, Aggregate}
use Rattle.ub_query.specs.declared.query.SortKey.{SortKey}
use Rattle.ub_table.specs.Schema.{AreCounts, AreDistinct, IsMask}
use Rattle.ub_table.specs.Table.{Table}
use Rattle.ub_table.specs.declared.row.Row.{Row}

-- a row of two coordinates and one measure
abbrev pub row : ℕ → ℕ → ℕ → ℤ → Row
row number x y m = record { number = number; dims = x ∷ y ∷ 0 ∷ 0 ∷ []; measures = m ∷ pos 0 ∷ pos 0 ∷ pos 0 ∷ [] }

pub counts_three : AreCounts 3 2 2
counts_three = record { some_dims = omega arith; few_dims = omega arith; covers_dims = omega arith; few_measures = omega arith; some_rows = omega arith; few_rows = omega arith }

pub counts_two : AreCounts 2 1 2
counts_two = record { some_dims = omega arith; few_dims = omega arith; covers_dims = omega arith; few_measures = omega arith; some_rows = omega arith; few_rows = omega arith }

pub mask_two : IsMask 2 0
mask_two = omega arith

pub mask_one : IsMask 1 0
mask_one = omega arith

pub mask_signed : IsMask 1 1
mask_signed = omega arith

letters_differ : (a b : ℕ) → eqb a b ≡ false → Some (a ∷ []) ≢ Some (b ∷ [])
letters_differ a b differ same = let letters : a ≡ b = cc in eqb-false a b differ letters

pub distinct_three : AreDistinct (codes "x" ∷ codes "y" ∷ codes "m" ∷ [])
distinct_three i zero first within = absurd (omega arith)
distinct_three zero (suc zero) first within = letters_differ 120 121 refl
distinct_three (suc i) (suc zero) first within = absurd (omega arith)
distinct_three zero (suc (suc zero)) first within = letters_differ 120 109 refl
distinct_three (suc zero) (suc (suc zero)) first within = letters_differ 121 109 refl
distinct_three (suc (suc i)) (suc (suc zero)) first within = absurd (omega arith)
distinct_three i (suc (suc (suc j))) first within = absurd (omega arith)

pub distinct_two : AreDistinct (codes "x" ∷ codes "m" ∷ [])
distinct_two i zero first within = absurd (omega arith)
distinct_two zero (suc zero) first within = letters_differ 120 109 refl
distinct_two (suc i) (suc zero) first within = absurd (omega arith)
distinct_two i (suc (suc j)) first within = absurd (omega arith)

-- five rows, of the dimensions x and y and the measure m
abbrev pub five : Table
five = record {
  schema = record { name = codes "t"; columns = codes "x" ∷ codes "y" ∷ codes "m" ∷ []; dims = 2; page_rows = 2; signed = 0; counts = counts_three; mask = mask_two; distinct = distinct_three };
  rows = row 1 1 1 (pos 10) ∷ row 2 2 3 (pos 20) ∷ row 3 3 0 (pos 5) ∷ row 4 0 2 (pos 7) ∷ row 5 2 3 (pos 1) ∷ [];
}

-- two rows of the greatest value that a measure has
abbrev pub two : Table
two = record {
  schema = record { name = codes "t"; columns = codes "x" ∷ codes "m" ∷ []; dims = 1; page_rows = 2; signed = 0; counts = counts_two; mask = mask_one; distinct = distinct_two };
  rows = row 1 0 0 (pos 9223372036854775807) ∷ row 2 5 0 (pos 9223372036854775807) ∷ [];
}

-- four rows, of which two have one value of the measure m
abbrev pub four : Table
four = record {
  schema = record { name = codes "t"; columns = codes "x" ∷ codes "m" ∷ []; dims = 1; page_rows = 2; signed = 0; counts = counts_two; mask = mask_one; distinct = distinct_two };
  rows = row 1 0 0 (pos 5) ∷ row 2 1 0 (pos 3) ∷ row 3 2 0 (pos 5) ∷ row 4 3 0 (pos 4) ∷ [];
}

-- four rows on both sides of 0 in the signed dimension x: its values are -1, 0, -2147483648 and 2147483647
abbrev pub both_sides : Table
both_sides = record {
  schema = record { name = codes "t"; columns = codes "x" ∷ codes "m" ∷ []; dims = 1; page_rows = 2; signed = 1; counts = counts_two; mask = mask_signed; distinct = distinct_two };
  rows = row 1 2147483647 0 (pos 10) ∷ row 2 2147483648 0 (pos 20) ∷ row 3 0 0 (pos 30) ∷ row 4 4294967295 0 (pos 40) ∷ [];
}

abbrev pub ascending : ℕ → SortKey
ascending column = record { item = Column column; is_descending = false }

abbrev pub descending : ℕ → SortKey
descending column = record { item = Column column; is_descending = true }

abbrev pub numbers : List ℕ → List Cell
numbers xs = map (λ x. Number (pos x)) xs

-- SELECT * of three columns, in this order
abbrev pub everything : List SortKey → Option ℕ → Asked
everything order limit = record { items = Column 0 ∷ Column 1 ∷ Column 2 ∷ []; filter = None; group = []; order = order; limit = limit }

-- SELECT of the third column, where this holds
abbrev pub measures : Option Shape → Asked
measures condition = record { items = Column 2 ∷ []; filter = condition; group = []; order = []; limit = None }

-- select * from t order by y desc
abbrev pub RowsByY : Type 0
RowsByY = IsMeaning five
    (everything (descending 1 ∷ []) None)
    (numbers (2 ∷ 3 ∷ 20 ∷ []) ∷ numbers (2 ∷ 3 ∷ 1 ∷ []) ∷ numbers (0 ∷ 2 ∷ 7 ∷ []) ∷ numbers (1 ∷ 1 ∷ 10 ∷ []) ∷ numbers (3 ∷ 0 ∷ 5 ∷ []) ∷ [])

-- SELECT * FROM t ORDER BY x DESC, m LIMIT 2
abbrev pub TwoRowsByX : Type 0
TwoRowsByX = IsMeaning five
    (everything (descending 0 ∷ ascending 2 ∷ []) (Some 2))
    (numbers (3 ∷ 0 ∷ 5 ∷ []) ∷ numbers (2 ∷ 3 ∷ 1 ∷ []) ∷ [])

-- SELECT COUNT(*), SUM(m) FROM t WHERE x > 9
abbrev pub NoRowsCounted : Type 0
NoRowsCounted = IsMeaning five
    (record { items = Count ∷ Aggregate Sum 2 ∷ []; filter = Some (compares 0 Greater (pos 9)); group = []; order = []; limit = None })
    ((Number (pos 0) ∷ Null ∷ []) ∷ [])

-- SELECT x, SUM(m) FROM t GROUP BY x
abbrev pub SumsByX : Type 0
SumsByX = IsMeaning five
    (record { items = Column 0 ∷ Aggregate Sum 2 ∷ []; filter = None; group = 0 ∷ []; order = []; limit = None })
    (numbers (0 ∷ 7 ∷ []) ∷ numbers (1 ∷ 10 ∷ []) ∷ numbers (2 ∷ 21 ∷ []) ∷ numbers (3 ∷ 5 ∷ []) ∷ [])

-- SELECT SUM(m), MIN(x), MAX(x) FROM t
abbrev pub SumOfGreatest : Type 0
SumOfGreatest = IsMeaning two
    (record { items = Aggregate Sum 1 ∷ Aggregate Min 0 ∷ Aggregate Max 0 ∷ []; filter = None; group = []; order = []; limit = None })
    (numbers (18446744073709551614 ∷ 0 ∷ 5 ∷ []) ∷ [])

-- SELECT m FROM t WHERE m BETWEEN 7 AND 5
abbrev pub NoneBetween : Type 0
NoneBetween = IsMeaning five (measures (Some (between 2 (pos 7) (pos 5)))) []

-- SELECT m FROM t WHERE NOT m > 4
abbrev pub OneNotGreater : Type 0
OneNotGreater = IsMeaning five (measures (Some (neither (compares 2 Greater (pos 4))))) (numbers (1 ∷ []) ∷ [])

-- SELECT COUNT(*) FROM t LIMIT 0
abbrev pub NothingCounted : Type 0
NothingCounted = IsMeaning five
    (record { items = Count ∷ []; filter = None; group = []; order = []; limit = Some 0 })
    []

-- SELECT m, COUNT(*) FROM t GROUP BY m, m ORDER BY COUNT(*) DESC
abbrev pub CountsByMeasure : Type 0
CountsByMeasure = IsMeaning four
    (record {
      items = Column 1 ∷ Count ∷ [];
      filter = None;
      group = 1 ∷ 1 ∷ [];
      order = record { item = Count; is_descending = true } ∷ [];
      limit = None;
    })
    (numbers (5 ∷ 2 ∷ []) ∷ numbers (3 ∷ 1 ∷ []) ∷ numbers (4 ∷ 1 ∷ []) ∷ [])

-- SELECT x, m FROM t WHERE x < 0 ORDER BY x
abbrev pub NegativesByX : Type 0
NegativesByX = IsMeaning both_sides
    (record { items = Column 0 ∷ Column 1 ∷ []; filter = Some (compares 0 Less (pos 0)); group = []; order = ascending 0 ∷ []; limit = None })
    ((Number (negsuc 2147483647) ∷ Number (pos 30) ∷ []) ∷ (Number (negsuc 0) ∷ Number (pos 10) ∷ []) ∷ [])

-- the titles of SELECT x, COUNT(*), SUM(m), MIN(y), MAX(y)
abbrev pub TitlesOfItems : Type 0
TitlesOfItems = titles five.schema
    (record { items = Column 0 ∷ Count ∷ Aggregate Sum 2 ∷ Aggregate Min 1 ∷ Aggregate Max 1 ∷ []; filter = None; group = 0 ∷ []; order = []; limit = None })
    ≡ codes "x" ∷ codes "COUNT(*)" ∷ codes "SUM(m)" ∷ codes "MIN(y)" ∷ codes "MAX(y)" ∷ []
