-- Rows that are put in one after the other, each with a number that no other row has.
use Rattle.std.proofs.Common.{◌≡◌, ◌≢◌, ◌<◌, ◌≤◌, ◌+◌, ℕ, List, [], ◌∷◌, ◌++◌, false, length, map, nat_eq, ◌∙◌, sym, ap, refl, arith, subst, append_assoc}
use Rattle.std.proofs.lemmas.Bool.{ne_eqb, eqb-false}
use Rattle.std.proofs.lemmas.List.{append-nil}
use Rattle.std.proofs.lemmas.List.Elements.{All-from_recursion, recursion_from_All}
use Rattle.std.proofs.lemmas.List.Sorted.{All-permutation, Contains-permutation, IsPermutation-refl, IsPermutation-sym, IsPermutation-trans, IsPermutation-middle, IsPermutation-append_left, IsPermutation-append_right, IsPermutation-map}
use Rattle.std.proofs.lemmas.Map.Keys.{IsDistinct-IsPermutation}
use Rattle.std.specs.List.{AllByRecursion, Contains, IsDistinct}
use Rattle.std.specs.List.Sorted.{IsPermutation}
use Rattle.ub_table.specs.Region.{RegionRows, IsRow, measures_of}
use Rattle.ub_table.specs.declared.row.Row.{Row}
use Rattle.ub_table.specs.declared.schema.Schema.{Schema}
use Rattle.ub_region.specs.Regions.{AreRegions, AreTableRows, IsFree, insert, insert_all, numbered, numbered_from, rows_of}
use Rattle.ub_region.proofs.InsertFacts.{insert_keeps, insert_keeps_new, nat_eq_flips, next_free}
use Rattle.ub_region.proofs.KeyLists.{all_more}
use Rattle.ub_region.proofs.TableFacts.{insert_table}

all_moved : {X : Type 0} (P : X → Type 0) (xs ys : List X) → IsPermutation xs ys → AllByRecursion P xs → AllByRecursion P ys
all_moved P xs ys moved all = recursion_from_All P ys (All-permutation P xs ys moved (All-from_recursion P xs all))

-- rows of a table that regions haven't yet: their numbers differ, and are those of no other row
pub record AreNew (schema : Schema) (later : ℕ) (rows : List Row) (regions : List RegionRows) : Type 0 where
  pub each : AllByRecursion (λ row. IsRow schema.dims (measures_of schema) row × (row.number < later)) rows
  pub free : AllByRecursion (λ row. IsFree row.number regions) rows
  pub apart : IsDistinct nat_eq (map (λ row. row.number) rows)

-- a number that another row has stays free where a row is put in
free_still : (n : ℕ) (row : Row) (old new : List RegionRows) → IsPermutation (row ∷ rows_of old) (rows_of new) → row.number ≢ n → IsFree n old → IsFree n new
free_still n row old new moved differ free = all_moved (λ (r : Row). r.number ≢ n) (row ∷ rows_of old) (rows_of new) moved (differ, free)

each_free : (row : Row) (rows : List Row) (old new : List RegionRows) → IsPermutation (row ∷ rows_of old) (rows_of new)
    → AllByRecursion (λ n. nat_eq row.number n ≡ false) (map (λ r. r.number) rows) → AllByRecursion (λ r. IsFree r.number old) rows → AllByRecursion (λ r. IsFree r.number new) rows
each_free row [] old new moved differ free = tt
each_free row (r ∷ rows) old new moved differ free =
    (free_still r.number row old new moved (eqb-false row.number r.number differ.0) free.0, each_free row rows old new moved differ.1 free.1)

-- one of them is put in
pub new_step : (schema : Schema) (later : ℕ) (row : Row) (rows : List Row) (regions : List RegionRows) → AreRegions schema later regions → AreNew schema later (row ∷ rows) regions
    → AreRegions schema later (insert schema.dims schema.page_rows row regions) × AreNew schema later rows (insert schema.dims schema.page_rows row regions)
    × IsPermutation (row ∷ rows_of regions) (rows_of (insert schema.dims schema.page_rows row regions))
unfolding IsDistinct
new_step schema later row rows regions are new =
    let after = insert schema.dims schema.page_rows row regions in
    let kept = insert_keeps_new schema later later row regions are new.each.0.0 new.free.0 (omega arith) new.each.0.1 in (
      kept.0,
      record { each = new.each.1; free = each_free row rows regions after kept.1 new.apart.0 new.free.1; apart = new.apart.1 },
      kept.1,
    )

-- all of them are
pub new_all : (schema : Schema) (later : ℕ) (rows : List Row) (regions : List RegionRows) → AreRegions schema later regions → AreNew schema later rows regions
    → AreRegions schema later (insert_all schema.dims schema.page_rows rows regions) × IsPermutation (rows ++ rows_of regions) (rows_of (insert_all schema.dims schema.page_rows rows regions))
new_all schema later [] regions are new = (are, IsPermutation-refl (rows_of regions))
new_all schema later (row ∷ rows) regions are new =
    let after = insert schema.dims schema.page_rows row regions in
    let step = new_step schema later row rows regions are new in
    let rest = new_all schema later rows after step.0 step.1 in (
      rest.0,
      IsPermutation-trans (row ∷ (rows ++ rows_of regions)) (rows ++ row ∷ rows_of regions) (rows_of (insert_all schema.dims schema.page_rows rows after))
          (IsPermutation-sym (rows ++ row ∷ rows_of regions) (row ∷ (rows ++ rows_of regions)) (IsPermutation-middle rows row (rows_of regions)))
          (IsPermutation-trans (rows ++ row ∷ rows_of regions) (rows ++ rows_of after) (rows_of (insert_all schema.dims schema.page_rows rows after))
          (IsPermutation-append_right rows (row ∷ rows_of regions) (rows_of after) step.2) rest.1),
    )

-- they are new in another order too
pub new_moved : (schema : Schema) (later : ℕ) (rows order : List Row) (regions : List RegionRows) → IsPermutation rows order → AreNew schema later rows regions → AreNew schema later order regions
new_moved schema later rows order regions moved new = record {
  each = all_moved (λ (row : Row). IsRow schema.dims (measures_of schema) row × (row.number < later)) rows order moved new.each;
  free = all_moved (λ (row : Row). IsFree row.number regions) rows order moved new.free;
  apart = IsDistinct-IsPermutation nat_eq nat_eq_flips (map (λ (row : Row). row.number) rows) (map (λ (row : Row). row.number) order)
      (IsPermutation-map (λ (row : Row). row.number) rows order moved) new.apart;
}

-- ---- rows with the numbers from one on

-- their numbers are at least that
pub from_number : (n m : ℕ) (rows : List Row) → m ≤ n → AllByRecursion (λ row. m ≤ row.number) (numbered_from n rows)
from_number n m [] le = tt
from_number n m (row ∷ rows) le = (le, from_number (n + 1) m rows (omega arith))

pub below_number : (n m : ℕ) (rows : List Row) → n + length rows ≤ m → AllByRecursion (λ row. row.number < m) (numbered_from n rows)
below_number n m [] le = tt
below_number n m (row ∷ rows) le = (omega arith, below_number (n + 1) m rows (omega arith))

-- and differ
pub differ_from : (n : ℕ) (rows : List Row) → IsDistinct nat_eq (map (λ row. row.number) (numbered_from n rows))
unfolding IsDistinct
differ_from n [] = tt
differ_from n (row ∷ rows) = (later_differ n (numbered_from (n + 1) rows) (from_number (n + 1) (n + 1) rows (omega arith)), differ_from (n + 1) rows)
  where
    later_differ : (n : ℕ) (rows : List Row) → AllByRecursion (λ row. n + 1 ≤ row.number) rows → AllByRecursion (λ m. nat_eq n m ≡ false) (map (λ row. row.number) rows)
    later_differ n [] all = tt
    later_differ n (row ∷ rows) all = let less = all.0 in (ne_eqb n row.number (λ e. omega arith), later_differ n rows all.1)

both_of : {X : Type 0} (P Q : X → Type 0) (xs : List X) → AllByRecursion P xs → AllByRecursion Q xs → AllByRecursion (λ x. P x × Q x) xs
both_of P Q [] p q = tt
both_of P Q (x ∷ xs) p q = ((p.0, q.0), both_of P Q xs p.1 q.1)

pub numbered_new : (schema : Schema) (next : ℕ) (rows : List Row) (regions : List RegionRows) → AreRegions schema next regions
    → AllByRecursion (IsRow schema.dims (measures_of schema)) (numbered_from next rows) → AreNew schema (next + length rows) (numbered_from next rows) regions
numbered_new schema next rows regions are good = record {
  each = both_of (IsRow schema.dims (measures_of schema)) (λ (row : Row). row.number < next + length rows) (numbered_from next rows) good (below_number next (next + length rows) rows (omega arith));
  free = all_more (λ (row : Row). next ≤ row.number) (λ (row : Row). IsFree row.number regions) (λ row le. next_free schema next row.number regions are le) (numbered_from next rows)
      (from_number next next rows (omega arith));
  apart = differ_from next rows;
}

-- the regions of a table are so whatever later number its next row has
pub later_regions : (schema : Schema) (next later : ℕ) (regions : List RegionRows) → AreRegions schema next regions → next ≤ later → AreRegions schema later regions
later_regions schema next later regions are le = record {
  begins = are.begins;
  ascending = are.ascending;
  each = are.each;
  apart = are.apart;
  distinct = are.distinct;
  numbered = all_more (λ (row : Row). row.number < next) (λ (row : Row). row.number < later) (λ row lt. omega arith) (rows_of regions) are.numbered;
}

-- a table's rows are those of other regions that have the same
same_table : (old new : List RegionRows) (rows : List Row) → IsPermutation (rows_of old) (rows_of new) → AreTableRows old rows → AreTableRows new rows
same_table old new rows moved table = record {
  ascending = table.ascending;
  same = λ row. (
    λ c. Contains-permutation (rows_of old) (rows_of new) row moved ((table.same row).0 c),
    λ c. (table.same row).1 (Contains-permutation (rows_of new) (rows_of old) row (IsPermutation-sym (rows_of old) (rows_of new) moved) c),
  );
}

-- put in in the order of their numbers they are the table's last
in_turn : (schema : Schema) (next : ℕ) (more : List Row) (regions : List RegionRows) (rows : List Row) → AreRegions schema next regions → AreTableRows regions rows
    → AllByRecursion (IsRow schema.dims (measures_of schema)) (numbered_from next more)
    → AreTableRows (insert_all schema.dims schema.page_rows (numbered_from next more) regions) (rows ++ numbered_from next more)
in_turn schema next [] regions rows are table good = subst (λ (rs : List Row). AreTableRows regions rs) (sym (append-nil rows)) table
in_turn schema next (row ∷ more) regions rows are table good =
    let first = numbered next row in
    let after = insert schema.dims schema.page_rows first regions in
    subst (λ (rs : List Row). AreTableRows (insert_all schema.dims schema.page_rows (numbered_from (next + 1) more) after) rs) (append_assoc rows (first ∷ []) (numbered_from (next + 1) more))
    (in_turn schema (next + 1) more after (rows ++ first ∷ []) (insert_keeps schema next first regions are good.0 refl).0 (insert_table schema next first regions rows are table good.0 refl) good.1)

-- and so they are in whatever order they are put in
pub append_table : (schema : Schema) (next : ℕ) (more order : List Row) (regions : List RegionRows) (rows : List Row) → AreRegions schema next regions → AreTableRows regions rows
    → AllByRecursion (IsRow schema.dims (measures_of schema)) (numbered_from next more) → IsPermutation (numbered_from next more) order
    → AreTableRows (insert_all schema.dims schema.page_rows order regions) (rows ++ numbered_from next more)
append_table schema next more order regions rows are table good moved =
    let later = next + length more in
    let raised = later_regions schema next later regions are (omega arith) in
    let new = numbered_new schema next more regions are good in
    let here = new_all schema later (numbered_from next more) regions raised new in
    let there = new_all schema later order regions raised (new_moved schema later (numbered_from next more) order regions moved new) in
    let one = insert_all schema.dims schema.page_rows (numbered_from next more) regions in
    let other = insert_all schema.dims schema.page_rows order regions in
    same_table one other (rows ++ numbered_from next more)
    (IsPermutation-trans (rows_of one) (numbered_from next more ++ rows_of regions) (rows_of other)
    (IsPermutation-sym (numbered_from next more ++ rows_of regions) (rows_of one) here.1)
    (IsPermutation-trans (numbered_from next more ++ rows_of regions) (order ++ rows_of regions) (rows_of other)
    (IsPermutation-append_left (rows_of regions) (numbered_from next more) order moved) there.1))
    (in_turn schema next more regions rows are table good)
