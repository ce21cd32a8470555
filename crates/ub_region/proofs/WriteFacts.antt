-- What is written of the columns of a region.
use Rattle.std.proofs.Common.{rules, ◌≡◌, ◌<◌, ◌≤◌, ℕ, ℤ, zero, suc, List, [], ◌++◌, map, get_or, sym, ap, arith, ◌∙◌, append_assoc}
use Rattle.std.proofs.lemmas.List.Folds.{flat_map-map}
use Rattle.std.proofs.lemmas.List.FromFn.{length-map-range_with_len}
use Rattle.std.specs.List.{flat_map, range_with_len}
use Rattle.ub_bytes.specs.Bytes.{number_bytes, layout, padded}
use Rattle.ub_bytes.specs.Numbers.{first_numbers, word_in, measure_in}
use Rattle.ub_region.proofs.ColumnFacts.{all_same}
use Rattle.ub_region.specs.Columns.{dims_in, measures_in, row_in}
use Rattle.ub_region.specs.RegionPage.{column, columns, dim_of, measure_of, head_fields, region_page}
use Rattle.ub_table.specs.Region.{measures_of}
use Rattle.ub_table.specs.declared.row.Key.{Key}
use Rattle.ub_table.specs.declared.row.Row.{Row}
use Rattle.ub_table.specs.declared.schema.Schema.{Schema}

-- pieces that agree
pieces_same : (f g : ℕ → List ℕ) (n : ℕ) → ((i : ℕ) → i < n → f i ≡ g i) → flat_map f (range_with_len 0 n) ≡ flat_map g (range_with_len 0 n)
pieces_same f g n h =
    sym (flat_map-map (λ (ys : List ℕ). ys) f (range_with_len 0 n))
    ∙ ap (flat_map (λ (ys : List ℕ). ys)) (all_same f g n h)
    ∙ flat_map-map (λ (ys : List ℕ). ys) g (range_with_len 0 n)

regrouped : {a b c d e f g h : List ℕ} → a ≡ e → b ≡ f → c ≡ g → d ≡ h → padded (((a ++ b) ++ c) ++ d) ≡ padded (e ++ (f ++ (g ++ h)))
regrouped h k j l = search (rules, append_assoc)

module _ (numbers : List ℕ) (points : List (List ℕ)) (values : List (List ℤ)) (count : ℕ) where
  abbrev pub rows : List Row
  rows = map (row_in numbers points values) (range_with_len 0 count)

  -- the columns of the rows are those in which they stand
  numbers_are : first_numbers 4 (word_in numbers) count ≡ column 4 (λ row. row.number) rows
  numbers_are = sym (flat_map-map (λ (row : Row). number_bytes 4 row.number) (row_in numbers points values) (range_with_len 0 count))

  dim_is : (d : ℕ) → d < 4 → first_numbers 4 (word_in (get_or points d [])) count ≡ column 4 (dim_of d) rows
  dim_is d h = search (rules, flat_map-map)

  measure_is : (m : ℕ) → m < 4 → first_numbers 8 (measure_in (get_or values m [])) count ≡ column 8 (measure_of m) rows
  measure_is zero less = sym (flat_map-map (λ (row : Row). number_bytes 8 (measure_of 0 row)) (row_in numbers points values) (range_with_len 0 count))
  measure_is (suc zero) less = sym (flat_map-map (λ (row : Row). number_bytes 8 (measure_of 1 row)) (row_in numbers points values) (range_with_len 0 count))
  measure_is (suc (suc zero)) less = sym (flat_map-map (λ (row : Row). number_bytes 8 (measure_of 2 row)) (row_in numbers points values) (range_with_len 0 count))
  measure_is (suc (suc (suc zero))) less = sym (flat_map-map (λ (row : Row). number_bytes 8 (measure_of 3 row)) (row_in numbers points values) (range_with_len 0 count))
  measure_is (suc (suc (suc (suc m)))) less = absurd (omega arith)

  dims_are : (n : ℕ) → n ≤ 4 → dims_in points n count ≡ columns 4 dim_of n rows
  dims_are n few = pieces_same (λ d. first_numbers 4 (word_in (get_or points d [])) count) (λ d. column 4 (dim_of d) rows) n (λ d less. dim_is d (omega arith))

  measures_are : (n : ℕ) → n ≤ 4 → measures_in values n count ≡ columns 8 measure_of n rows
  measures_are n few = pieces_same (λ m. first_numbers 8 (measure_in (get_or values m [])) count) (λ m. column 8 (measure_of m) rows) n (λ m less. measure_is m (omega arith))

  -- the writer's bytes are those of the spelling
  pub written : (schema : Schema) (first : Key) → schema.dims ≤ 4 → measures_of schema ≤ 4
      → padded (((layout (head_fields schema.dims (measures_of schema) count first) ++ first_numbers 4 (word_in numbers) count)
      ++ dims_in points schema.dims count) ++ measures_in values (measures_of schema) count)
      ≡ region_page schema (record { first = first; rows = rows })
  unfolding region_page
  written schema first h k = search (rules, dims_are, length-map-range_with_len, measures_are, numbers_are, regrouped)
