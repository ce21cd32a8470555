-- What a tree is that was just created.
use Rattle.std.proofs.Common.{rules, ◌≡◌, ◌<◌, ℕ, zero, suc, true, false, List, [], ◌∷◌, Some, length, map, ◌∙◌, ap, refl, arith, slice_get, slice_index_or}
use Rattle.ub_tree.proofs.Common.{All, ArePlaced, AreRegions, entry_of, filled_low, get_or_from_slice_get, HasIndex, index_view, IndexView, IsAlone, IsCreated}
use Rattle.ub_tree.proofs.Common.{IsDistinct, IsDistinct-cons, IsHonest, IsLaidOut, IsRegion, last_address, nat_eq, only_region, origin, PagerView, Placed}
use Rattle.ub_tree.proofs.Common.{placed_in, region_on, region_page, RegionRows, regions_in, reserved, Row, Schema, StoreFacts, tree_view, untouched}
use Rattle.std.proofs.lemmas.Map.Made.{IsDistinct-from_count}
use Rattle.std.specs.Cmp.{nat_eq_equiv}
use Rattle.ub_tree.proofs.PutFacts.{view_placed}

pub none_twice : IsDistinct nat_eq []
none_twice = IsDistinct-from_count nat_eq_equiv [] refl

pub empty_is_region : (schema : Schema) → IsRegion schema only_region
empty_is_region schema = record { few = omega arith; first = (omega arith, omega arith); rows = tt; ascending = tt; within = tt }

empty_regions : (schema : Schema) → AreRegions schema 1 (only_region ∷ [])
empty_regions schema = record { begins = refl; ascending = tt; each = (empty_is_region schema, tt); apart = tt; distinct = none_twice; numbered = tt }

-- the rows that a page tells of
rows_there : (schema : Schema) (pages : List (List ℕ)) (n : ℕ) (region : RegionRows) → slice_get pages n ≡ Some (region_page schema region)
    → region_on schema (region_page schema region) ≡ region → (region_on schema (slice_index_or pages n [])).rows ≡ region.rows
rows_there schema pages n region at back =
    let page : slice_index_or pages n [] ≡ region_page schema region = get_or_from_slice_get pages n (region_page schema region) [] at in
    ap (λ (p : List ℕ). (region_on schema p).rows) page ∙ ap (λ (r : RegionRows). r.rows) back

abbrev placed_with : ℕ → List Row → List Placed
placed_with page rows = record { page = page; region = record { first = origin; rows = rows } } ∷ []

-- a tree over an index of one region, on the first pages of a table
module _ (facts : StoreFacts) (schema : Schema) (index : IndexView) (pager : PagerView) (same : pager.store ≡ record facts { pages = pager.store.pages; synced = pager.store.synced })
    (index_is : index ≡ index_view 2 1 (last_address schema.dims)) (count : length pager.store.pages ≡ 3)
    (alone_on : IsHonest facts → IsAlone index 1 pager.store) (laid_out : IsHonest facts → IsLaidOut schema pager.store.pages) where
  module _ (is : IsHonest facts) where
    now : IsHonest pager.store
    now = ap (λ (s : StoreFacts). s.honest) same ∙ is

    alone : IsAlone index 1 pager.store
    alone = alone_on is

    laid : IsLaidOut schema pager.store.pages
    laid = laid_out is

    placed : placed_in schema index pager.store ≡ placed_with 1 []
    placed = search (rules, alone, laid, now, rows_there, view_placed)

    pub first_regions : regions_in (placed_in schema index pager.store) ≡ only_region ∷ []
    first_regions = ap regions_in placed

    pub first_indexed : HasIndex index pager.store.pages (map entry_of (placed_in schema index pager.store))
    first_indexed = search rules

    reserved_is : reserved index pager.store.pages ≡ 0 ∷ 2 ∷ []
    reserved_is = ap (λ (ns : List ℕ). 0 ∷ ns) (alone.pages_are ∙ ap (λ (i : IndexView). i.root ∷ []) index_is)

    first_alone : slice_get pager.store.pages 1 ≡ Some (region_page schema only_region) → All (λ p. slice_get pager.store.pages p.page ≡ Some (region_page schema p.region)) (placed_with 1 [])
    first_alone at zero d lt = at
    first_alone at (suc k) d lt = absurd (omega arith)

    reserved_within : length pager.store.pages ≡ 3 → All (λ n. n < length pager.store.pages) (0 ∷ 2 ∷ [])
    reserved_within h = search rules

    pub first_placed : ArePlaced schema (placed_in schema index pager.store) (reserved index pager.store.pages) pager.store.pages
    first_placed = search (rules, IsDistinct-cons, first_alone, laid, none_twice, placed, reserved_is, reserved_within)

    pub first_long : length (placed_in schema index pager.store) ≡ 1
    first_long = ap length placed

  pub created : pager.trace ≡ untouched → IsCreated facts schema (tree_view schema index 1 1 0 true false pager)
  created h = search (rules, empty_regions, filled_low, first_indexed, first_long, first_placed, first_regions)
