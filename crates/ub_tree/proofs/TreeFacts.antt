-- A tree's regions, by its entries and the pages of its store.
use Rattle.std.proofs.Common.{◌≡◌, ◌<◌, ℕ, zero, suc, List, [], ◌∷◌, Option, Some, IfSome, length, map, ◌∙◌, sym, ap, subst, refl, arith, slice_get, slice_index_or}
use Rattle.ub_tree.proofs.Common.{All, AllByRecursion, AreApart, ArePlaced, AreRegions, Contains, each_get, Entry, entry_of, first_keys, firsts_of}
use Rattle.ub_tree.proofs.Common.{get_or_from_slice_get, IsBefore, IsRegion, IsRegionAt, Key, keys_of, last_address, length-map, Placed, placed_at, placed_of}
use Rattle.ub_tree.proofs.Common.{Region, region_on, region_page, region_with, RegionRows, regions_in, regions_of, Row, Schema, slice_get_read}
use Rattle.ub_tree.proofs.Common.{slice_get_within, span_end, spans_in}
use Rattle.ub_check.specs.Standing.{IsHeldBy}
use Rattle.ub_tree.proofs.MeetFacts.{contains_at}

pub entries_back : (schema : Schema) (pages : List (List ℕ)) (entries : List Entry) → map entry_of (placed_of schema pages entries) ≡ entries
entries_back schema pages [] = refl
entries_back schema pages (e ∷ entries) = ap (λ (es : List Entry). e ∷ es) (entries_back schema pages entries)

pub spans_are : (schema : Schema) (pages : List (List ℕ)) (entries : List Entry) (last : ℕ) → last ≡ last_address schema.dims
    → regions_of last entries ≡ spans_in schema (placed_of schema pages entries)
spans_are schema pages entries last is = rw (is, entries_back schema pages entries) refl

-- the regions' first keys are those of the entries
pub firsts_back : (schema : Schema) (pages : List (List ℕ)) (entries : List Entry) → firsts_of (regions_in (placed_of schema pages entries)) ≡ first_keys entries
firsts_back schema pages [] = refl
firsts_back schema pages (e ∷ entries) = ap (λ (ks : List Key). e.first ∷ ks) (firsts_back schema pages entries)

pub placed_get : (schema : Schema) (pages : List (List ℕ)) (entries : List Entry) (i : ℕ) (e : Entry) → slice_get entries i ≡ Some e
    → slice_get (placed_of schema pages entries) i ≡ Some (placed_at schema pages e)
placed_get schema pages [] i e at = cc
placed_get schema pages (f ∷ entries) zero e at = let same : f ≡ e = cc in rw same refl
placed_get schema pages (f ∷ entries) (suc i) e at = placed_get schema pages entries i e at

pub region_get : (placed : List Placed) (i : ℕ) (p : Placed) → slice_get placed i ≡ Some p → slice_get (regions_in placed) i ≡ Some p.region
region_get [] i p at = cc
region_get (q ∷ placed) zero p at = let same : q ≡ p = cc in rw same refl
region_get (q ∷ placed) (suc i) p at = region_get placed i p at

module _ {X : Type 0} (P : X → Type 0) where
  pub all_get : (xs : List X) (i : ℕ) (x : X) → All P xs → slice_get xs i ≡ Some x → P x
  all_get xs i x all at = subst P (get_or_from_slice_get xs i x x at) (all i x (slice_get_within xs i x at))

-- each row's key is before the first key of the next region
pub apart_next : (dims : ℕ) (regions : List RegionRows) (i : ℕ) (r : RegionRows) → AreApart dims regions → slice_get regions i ≡ Some r
    → IfSome (slice_get (firsts_of regions) (suc i)) (λ next. AllByRecursion (λ key. IsBefore key next) (keys_of dims r.rows))
apart_next dims [] i r apart at = cc
apart_next dims (a ∷ b ∷ regions) zero r apart at = let same : a ≡ r = cc in rw (← same) apart.0
apart_next dims (a ∷ b ∷ regions) (suc i) r apart at = apart_next dims (b ∷ regions) i r apart.1 at
apart_next dims regions i r apart at = tt

-- what is known of the region of a span, on a sound tree
pub record IsKnown (schema : Schema) (entries : List Entry) (pages : List (List ℕ)) (span : Region) (p : Placed) : Type 0 where
  pub there : Contains (placed_of schema pages entries) p
  pub page : p.page ≡ span.page
  pub first : p.region.first ≡ span.first
  pub spelled : slice_get pages span.page ≡ Some (region_page schema p.region)
  pub region : IsRegion schema p.region
  pub held : IsHeldBy schema.dims span.first span.next p.region

pub span_entry : (last : ℕ) (entries : List Entry) (i : ℕ) (r : Region) → slice_get (regions_of last entries) i ≡ Some r
    → (entry : Entry) × (slice_get entries i ≡ Some entry) × (entry.first ≡ r.first) × (entry.page ≡ r.page) × (r.next ≡ slice_get (first_keys entries) (suc i))
span_entry last [] i r at = cc
span_entry last (e ∷ entries) zero r at =
    let whole : Region = region_with (span_end last (first_keys entries)) (slice_get (first_keys entries) 0) e in
    let same : whole ≡ r = cc in
    (e, refl, ap (λ (q : Region). q.first) same, ap (λ (q : Region). q.page) same, sym (ap (λ (q : Region). q.next) same))
span_entry last (e ∷ entries) (suc i) r at = span_entry last entries i r at

pub span_known : (schema : Schema) (entries : List Entry) (pages : List (List ℕ)) (next last : ℕ) (reserved : List ℕ) (span : Region)
    → AreRegions schema next (regions_in (placed_of schema pages entries))
    → ArePlaced schema (placed_of schema pages entries) reserved pages → Contains (regions_of last entries) span
    → (p : Placed) × IsKnown schema entries pages span p
span_known schema entries pages next last reserved span regions placed found =
    let at : slice_get (regions_of last entries) found.0 ≡ Some span = slice_get_read (regions_of last entries) (length (regions_of last entries)) found.0 span refl found.1 (sym found.2) in
    let entry = span_entry last entries found.0 span at in
    let e = entry.0 in
    let there = placed_get schema pages entries found.0 e entry.1 in
    let region = region_get (placed_of schema pages entries) found.0 (placed_at schema pages e) there in
    let spelled = all_get (λ p. slice_get pages p.page ≡ Some (region_page schema p.region)) (placed_of schema pages entries) found.0 (placed_at schema pages e) placed.spelled there in
    let apart = apart_next schema.dims (regions_in (placed_of schema pages entries)) found.0 (placed_at schema pages e).region regions.apart region in (
      placed_at schema pages e,
      record {
        there = contains_at (placed_of schema pages entries) found.0 (placed_at schema pages e) there;
        page = entry.3;
        first = entry.2;
        spelled = ap (slice_get pages) (sym entry.3) ∙ spelled;
        region = each_get (IsRegion schema) (regions_in (placed_of schema pages entries)) found.0 (placed_at schema pages e).region regions.each region;
        held = (
          entry.2,
          subst (λ (o : Option Key). IfSome o (λ end. AllByRecursion (λ key. IsBefore key end) (keys_of schema.dims (placed_at schema pages e).region.rows)))
              (sym entry.4) (rw (← firsts_back schema pages entries) apart),
        );
      },
    )

-- the region of a span
pub within_placed : (placed : List Placed) (i : ℕ) (span : Region) → IsRegionAt (map entry_of placed) i span → i < length placed
within_placed placed i span h = (let lt = h.within in let long = length-map placed entry_of in omega arith)

pub placed_there : (placed : List Placed) (i : ℕ) (span : Region) → IsRegionAt (map entry_of placed) i span
    → (p : Placed) × (slice_get placed i ≡ Some p) × (p.page ≡ span.page) × (p.region.first ≡ span.first)
placed_there placed i span h = by_index placed i h.entry
  where
    by_index : (ps : List Placed) (i : ℕ) → slice_get (map entry_of ps) i ≡ Some (record { first = span.first; page = span.page })
        → (p : Placed) × (slice_get ps i ≡ Some p) × (p.page ≡ span.page) × (p.region.first ≡ span.first)
    by_index [] i at = cc
    by_index (p ∷ ps) zero at =
        let entry : Entry = record { first = span.first; page = span.page } in
        let same : entry_of p ≡ entry = cc in
        (p, refl, ap (λ (e : Entry). e.page) same, ap (λ (e : Entry). e.first) same)
    by_index (p ∷ ps) (suc i) at = by_index ps i at

pub length-placed : (schema : Schema) (pages : List (List ℕ)) (entries : List Entry) → length (placed_of schema pages entries) ≡ length entries
length-placed schema pages entries = length-map entries (placed_at schema pages)

pub rows_read : (schema : Schema) (pages : List (List ℕ)) (entries : List Entry) (index : ℕ) (e : Entry) (page : List ℕ) (rows : List Row) (region : RegionRows) (p : Placed)
    → slice_get entries index ≡ Some e → slice_get pages e.page ≡ Some page → rows ≡ region.rows → region ≡ region_on schema page
    → slice_get (placed_of schema pages entries) index ≡ Some p → rows ≡ p.region.rows
rows_read schema pages entries index e page rows region p at at_page same on there =
    let here = placed_get schema pages entries index e at in
    let one : placed_at schema pages e ≡ p = cc in
    let read : slice_index_or pages e.page [] ≡ page = get_or_from_slice_get pages e.page page [] at_page in
    same ∙ ap (λ (r : RegionRows). r.rows) on ∙ ap (λ (q : List ℕ). (region_on schema q).rows) (sym read) ∙ ap (λ (q : Placed). q.region.rows) one

-- the first keys of a tree's entries are those of its regions
pub firsts_placed : (placed : List Placed) → first_keys (map entry_of placed) ≡ firsts_of (regions_in placed)
firsts_placed [] = refl
firsts_placed (p ∷ placed) = ap (λ (ks : List Key). p.region.first ∷ ks) (firsts_placed placed)
