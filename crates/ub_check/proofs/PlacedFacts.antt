-- The regions that pages tell of.
use Rattle.std.proofs.Common.{◌≡◌, ◌++◌, ℕ, List, [], Option, Some, refl, slice_get, slice_index_or, sym, ◌∙◌}
use Rattle.ub_check.proofs.Common.{Entry, IsRegion, map-append, Placed, placed_of, region_on, region_page, region_parts, RegionRows, Schema}

-- the region of an entry, with the rows of its page
abbrev pub placed_at : Schema → List (List ℕ) → Entry → Placed
placed_at schema pages e = record { page = e.page; region = record { first = e.first; rows = (region_on schema (slice_index_or pages e.page [])).rows } }

pub placed_append : (schema : Schema) (pages : List (List ℕ)) (xs ys : List Entry) → placed_of schema pages (xs ++ ys) ≡ placed_of schema pages xs ++ placed_of schema pages ys
placed_append schema pages xs ys = map-append (placed_at schema pages) xs ys

pub some_one : {X : Type 0} (o : Option X) (x y : X) → o ≡ Some x → o ≡ Some y → x ≡ y
some_one o x y a b = cc

module _ (schema : Schema) (pages : List (List ℕ)) where
  -- what stands on one page is one region
  pub one_region : (n : ℕ) (a b : RegionRows) → slice_get pages n ≡ Some (region_page schema a) → IsRegion schema a → slice_get pages n ≡ Some (region_page schema b) → IsRegion schema b → a ≡ b
  one_region n a b at_a is_a at_b is_b =
      sym (region_parts schema a (region_page schema a) is_a refl).on
      ∙ (region_parts schema b (region_page schema a) is_b (some_one (slice_get pages n) (region_page schema a) (region_page schema b) at_a at_b)).on
