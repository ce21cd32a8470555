-- The regions of a table have one table.
use Rattle.std.proofs.Common.{◌<◌}
use Rattle.std.proofs.lemmas.List.Sorted.{Contains-permutation, IsPermutation-sym}
use Rattle.ub_planning.proofs.MeaningFacts.{same_rows}
use Rattle.ub_planning.proofs.VisitFacts.{rows_differ}
use Rattle.ub_planning.specs.Laws.{RegionsHaveATable, RegionsHaveOneTable}
use Rattle.ub_query.proofs.Laws.{Rising-from_adjacent, an_arrangement, in_order, numbers-chain}
use Rattle.ub_region.specs.Regions.{rows_of}
use Rattle.ub_table.specs.declared.row.Row.{Row}

pub regions_have_a_table : RegionsHaveATable
regions_have_a_table schema next regions are =
    let (rows, arranged) = an_arrangement (λ (a b : Row). a.number < b.number) numbers-chain (rows_of regions) (rows_differ (rows_of regions) are.distinct) in (
      rows,
      record {
        ascending = in_order rows (Rising-from_adjacent (λ (a b : Row). a.number < b.number) numbers-chain rows arranged.ordered);
        same = λ row. (
          λ c. Contains-permutation rows (rows_of regions) row (IsPermutation-sym (rows_of regions) rows arranged.same) c,
          λ c. Contains-permutation (rows_of regions) rows row arranged.same c,
        );
      },
    )

pub regions_have_one_table : RegionsHaveOneTable
regions_have_one_table regions first second a b =
    same_rows first second a.ascending b.ascending (λ row c. (b.same row).1 ((a.same row).0 c)) (λ row c. (a.same row).1 ((b.same row).0 c))
