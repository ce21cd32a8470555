-- The regions of a list of entries, by their places.
use Rattle.std.proofs.Common.{◌≡◌, ℕ, zero, suc, List, [], ◌∷◌, Option, Some, drop, refl, slice_get, ◌∙◌, ap}
use Rattle.ub_index.proofs.Common.{end_before, Entry, entry_at, first_keys, Key, Region, region_of, regions_of, span_end}

-- the region of an entry, with where the next one begins
abbrev pub region_with : ℕ → Option Key → Entry → Region
region_with to next entry = record { first = entry.first; next = next; from = entry.first.z; to = to; page = entry.page }

pub region_is : (last : ℕ) (entries : List Entry) (i : ℕ) (entry : Entry) → slice_get entries i ≡ Some entry
    → slice_get (regions_of last entries) i ≡ Some (region_with (span_end last (first_keys (drop (suc i) entries))) (slice_get (first_keys entries) (suc i)) entry)
region_is last [] i entry at = cc
region_is last (e ∷ entries) zero entry at = let same : e ≡ entry = cc in rw same refl
region_is last (e ∷ entries) (suc i) entry at = region_is last entries i entry at

abbrev spanned : Region → ℕ → ℕ → Region
spanned region from to = record { first = region.first; next = region.next; from = from; to = to; page = region.page }

-- a region that has its span is that of its entry
pub with_span : (last : ℕ) (region : Region) → region.from ≡ region.first.z → region.to ≡ end_before last region.next → region ≡ region_of last (entry_at region) region.next
with_span last region from to = ap (λ (n : ℕ). spanned region n region.to) from ∙ ap (λ (n : ℕ). spanned region region.first.z n) to
