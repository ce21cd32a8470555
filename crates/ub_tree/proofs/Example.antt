-- Table S of two dimensions and at most two rows on a page: five rows inserted, and two removed again.
use Rattle.std.specs.Prelude.{pos}
use Rattle.std.proofs.Common.{◌≡◌, ℕ, List, [], ◌∷◌, Option, Some, None, refl, replicate}
use Rattle.ub_tree.proofs.Common.{Entry, insert, Key, last_address, origin, Region, RegionRows, regions_of, remove, Row}
use Rattle.ub_zaddr.specs.Address.{address}

row_at : ℕ → ℕ → ℕ → Row
row_at n x y = record { number = n; dims = x ∷ y ∷ 0 ∷ 0 ∷ []; measures = replicate 4 (pos 0) }

key : ℕ → ℕ → Key
key z n = record { z = z; number = n }

abbrev region : Key → List Row → RegionRows
region first rows = record { first = first; rows = rows }

abbrev empty : List RegionRows
empty = region origin [] ∷ []

abbrev table_s : List RegionRows
table_s = insert 2 2 (row_at 5 2 3) (insert 2 2 (row_at 4 0 2) (insert 2 2 (row_at 3 3 0) (insert 2 2 (row_at 2 2 3) (insert 2 2 (row_at 1 1 1) empty))))

five_rows : table_s ≡ region origin (row_at 1 1 1 ∷ row_at 4 0 2 ∷ []) ∷ region (key 10 0) (row_at 3 3 0 ∷ []) ∷ region (key 13 0) (row_at 2 2 3 ∷ row_at 5 2 3 ∷ []) ∷ []
unfolding address row_at key
five_rows = refl

two_removed : remove 2 2 (key 13 5) (remove 2 2 (key 13 2) table_s) ≡ region origin (row_at 1 1 1 ∷ row_at 4 0 2 ∷ []) ∷ region (key 10 0) (row_at 3 3 0 ∷ []) ∷ []
unfolding address row_at key
two_removed = refl

-- three rows at one point
one_address : insert 2 2 (row_at 3 7 7) (insert 2 2 (row_at 2 7 7) (insert 2 2 (row_at 1 7 7) empty))
    ≡ region origin (row_at 1 7 7 ∷ row_at 2 7 7 ∷ []) ∷ region (key 63 3) (row_at 3 7 7 ∷ []) ∷ []
unfolding address row_at key
one_address = refl

-- the regions' spans, as their pages 1, 3 and 2 list them
abbrev entry : Key → ℕ → Entry
entry first page = record { first = first; page = page }

abbrev index : Key → Option Key → ℕ → ℕ → ℕ → Region
index first next from to page = record { first = first; next = next; from = from; to = to; page = page }

five_spans : regions_of (last_address 2) (entry origin 1 ∷ entry (key 10 0) 3 ∷ entry (key 13 0) 2 ∷ [])
    ≡ index origin (Some (key 10 0)) 0 9 1 ∷ index (key 10 0) (Some (key 13 0)) 10 12 3 ∷ index (key 13 0) None 13 (last_address 2) 2 ∷ []
unfolding key
five_spans = refl

-- two spans share an address
one_address_spans : regions_of (last_address 2) (entry origin 1 ∷ entry (key 63 3) 2 ∷ []) ≡ index origin (Some (key 63 3)) 0 63 1 ∷ index (key 63 3) None 63 (last_address 2) 2 ∷ []
unfolding key
one_address_spans = refl
