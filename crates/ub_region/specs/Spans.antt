-- Where the spans of a UB-tree's regions end (Bayer 1997).
use Rattle.std.specs.Prelude.{ℕ, zero, suc, ◌-◌, List, Option, None, Some, slice_get}
use Rattle.ub_table.specs.declared.row.Key.{Key}

-- the greatest address that a key before this one, of an address and a number, can have
abbrev pub address_before : ℕ → ℕ → ℕ
address_before z zero = z - 1
address_before z (suc n) = z

-- where a span ends before a region with this first key: with the last address of all, if there is none
abbrev pub end_before : ℕ → Option Key → ℕ
end_before last None = last
end_before last (Some next) = address_before next.z next.number

-- the same before regions with these first keys
abbrev pub span_end : ℕ → List Key → ℕ
span_end last firsts = end_before last (slice_get firsts 0)
