-- The laws of regions, as specs/Laws.antt states them, and what else the proofs of crates above use.
use Rattle.std.proofs.Common.{◌≡◌, ℕ, zero, suc, List, [], ◌∷◌, Some, ap, arith, drop, refl, slice_get}
use Rattle.std.proofs.lemmas.List.Elements.{All-contains, All-from_recursion}
use Rattle.ub_region.proofs.SpanFacts.{rows_within_at, within_one}
use Rattle.ub_region.specs.Laws.{FirstKeysAscend, EachAddressHasASpan, RowsLieInTheirSpans, InsertionKeepsRegions, InsertionAddsTheRow, RemovalKeepsRegions, RemovalTakesTheRow}
use Rattle.ub_region.specs.Regions.{firsts_of}
use Rattle.ub_table.proofs.Laws.{ascending_get}
use Rattle.ub_table.specs.Region.{RegionRows, key_of}
use Rattle.ub_table.specs.declared.row.Key.{Key}
use Rattle.ub_table.specs.declared.row.Row.{Row}
use Rattle.ub_zaddr.specs.Address.{last_address}
pub use Rattle.ub_region.proofs.AppendFacts.{AreNew, append_table, below_number, differ_from, from_number, later_regions, new_all, new_moved, new_step, numbered_new}
pub use Rattle.ub_region.proofs.ChainFacts.{IsBelow, IsChain, chain_of, keys_append, row_first}
pub use Rattle.ub_region.proofs.InsertFacts.{IsFilled, insert_keeps, insert_keeps_new, nat_eq_flips, next_free, two_chain}
pub use Rattle.ub_region.proofs.KeyLists.{IsBeforeNext, all_after, all_append, all_both, all_drop, all_left, all_more, all_right, all_take, are_ascending_of, ascending_of, before_cases, before_or_same, up_append, up_cons, up_head, up_tail, upto_before}
pub use Rattle.ub_region.proofs.RemoveFacts.{all_from, other_key, remove_keeps, remove_none, remove_rows}
pub use Rattle.ub_region.proofs.RowFacts.{all_insert, all_keys, all_of_keys, all_remove, has_append, has_none, length-insert_row, length-remove_row, up_remove}
pub use Rattle.ub_region.proofs.SpanFacts.{IsWithin, rows_within}
pub use Rattle.ub_region.proofs.TableFacts.{insert_table, remove_table}

first_at : (regions : List RegionRows) (i : ℕ) (region : RegionRows) → slice_get regions i ≡ Some region → slice_get (firsts_of regions) i ≡ Some region.first
first_at [] i region at = cc
first_at (r ∷ regions) zero region at = let same : r ≡ region = cc in ap (λ (x : RegionRows). Some x.first) same
first_at (r ∷ regions) (suc i) region at = first_at regions i region at

pub first_keys_ascend : FirstKeysAscend
first_keys_ascend schema next regions i j a b are lt at_i at_j =
    ascending_get (firsts_of regions) (are_ascending_of (firsts_of regions) are.ascending) i j lt a.first b.first (first_at regions i a at_i) (first_at regions j b at_j)

pub each_address_has_a_span : EachAddressHasASpan
each_address_has_a_span schema next [] z are upto = let none = are.begins in cc
each_address_has_a_span schema next (region ∷ regions) z are upto =
    let first : region.first ≡ record { z = 0; number = 0 } = (let begins = are.begins in cc) in
    let least : region.first.z ≡ 0 = ap (λ (k : Key). k.z) first in
    let (i, r, at, (from, end)) = within_one (last_address schema.dims) region regions z (omega arith) upto in
    (i, (r, at, from, end))

pub rows_lie_in_their_spans : RowsLieInTheirSpans
rows_lie_in_their_spans schema next regions index region row are at there =
    let chain = chain_of schema regions are.each are.ascending are.apart in
    let all = rows_within_at schema (last_address schema.dims) regions index region refl chain at in
    let both = All-contains (λ (row : Row). IsWithin (last_address schema.dims) region.first (firsts_of (drop (suc index) regions)) (key_of schema.dims row).z) region.rows row
    (All-from_recursion (λ (row : Row). IsWithin (last_address schema.dims) region.first (firsts_of (drop (suc index) regions)) (key_of schema.dims row).z) region.rows all) there in
    (region, at, both.0, both.1)

pub insertion_keeps_regions : InsertionKeepsRegions
insertion_keeps_regions schema next regions row are good is = (insert_keeps schema next row regions are good is).0

pub insertion_adds_the_row : InsertionAddsTheRow
insertion_adds_the_row schema next regions rows row are table good is = insert_table schema next row regions rows are table good is

pub removal_keeps_regions : RemovalKeepsRegions
removal_keeps_regions schema next regions key are = remove_keeps schema next key regions are

pub removal_takes_the_row : RemovalTakesTheRow
removal_takes_the_row schema next regions rows key are table has = remove_table schema next key regions rows are table has
