-- Regions in a list: one gets other rows, or is joined with the next one or the one before, and whether one has a key.
use Rattle.std.proofs.Common.{rules, ◌≡◌, ◌≢◌, ◌<◌, ◌+◌, ◌-◌, ◌/◌, ◌||◌, inl, inr, ℕ, zero, suc, Bool, true, false, List, [], ◌∷◌, ◌++◌, Some, length, map, take, drop, nat_le, nat_lt, ◌∙◌, sym, ap, refl, arith, slice_get, if◌then◌else◌}
use Rattle.ub_tree.proofs.Common.{all_from, all_more, all_of_keys, append-nil, AreRegions, before_of, cases_Bool, chain_of, change_from, common_steps, drop-map}
use Rattle.ub_tree.proofs.Common.{firsts_of, fits_next, has_append, has_key, has_none, index_holding, is_same, is_small, IsBefore, join_first, JoinsBefore}
use Rattle.ub_tree.proofs.Common.{JoinsNext, Key, key_of, length-map, map-append, other_key, Placed, placed_with, precedes, precedes_of, put_rows, RegionRows}
use Rattle.ub_tree.proofs.Common.{regions_in, regions_with, remove, remove_first, remove_row, Row, rows_of, Schema, settle, take-map}
use Rattle.std.specs.List.{remove as remove_at_index}
use Rattle.ub_region.proofs.Laws.{IsChain}

-- what stands at an index of a list
pub some_at : {X : Type 0} (xs : List X) (i : ℕ) → i < length xs → (x : X) × (slice_get xs i ≡ Some x)
some_at [] i lt = absurd (omega arith)
some_at (x ∷ xs) zero lt = (x, refl)
some_at (x ∷ xs) (suc i) lt = some_at xs i (omega arith)

map_with : {X Y : Type 0} (f : X → Y) (n : ℕ) (news xs : List X) → map f (take n xs ++ news ++ drop (suc n) xs) ≡ take n (map f xs) ++ map f news ++ drop (suc n) (map f xs)
map_with f n news xs = search (rules, drop-map, map-append, take-map)

pub regions_put : (index : ℕ) (news placed : List Placed) → regions_in (placed_with index news placed) ≡ regions_with index (regions_in news) (regions_in placed)
regions_put index news placed = map_with (λ (p : Placed). p.region) index news placed

-- where none comes in the place of one, that one is taken out
pub placed_without : (index : ℕ) (placed : List Placed) → placed_with index [] placed ≡ remove_at_index placed index
placed_without index placed = ap (λ (ps : List Placed). ps ++ drop (suc index) placed) (append-nil (take index placed))

-- the row of a key taken from the region at an index
pub removed_put : (dims : ℕ) (key : Key) (index : ℕ) (r : RegionRows) (rs : List RegionRows) → slice_get rs index ≡ Some r
    → change_from index (remove_first dims key) rs ≡ put_rows index false (remove_row dims key r.rows) rs
removed_put dims key index r [] at = cc
removed_put dims key zero r (a ∷ rs) at = let same : a ≡ r = cc in ap (λ (x : RegionRows). record { first = a.first; rows = remove_row dims key x.rows } ∷ rs) same
removed_put dims key (suc index) r (a ∷ rs) at = ap (λ (xs : List RegionRows). a ∷ xs) (removed_put dims key index r rs at)

pub put_alone : (index : ℕ) (rows : List Row) (r : RegionRows) (rs : List RegionRows) → slice_get rs index ≡ Some r
    → regions_with index (record { first = r.first; rows = rows } ∷ []) rs ≡ put_rows index false rows rs
put_alone index rows r [] at = cc
put_alone zero rows r (a ∷ rs) at = let same : a ≡ r = cc in ap (λ (x : RegionRows). record { first = x.first; rows = rows } ∷ rs) (sym same)
put_alone (suc index) rows r (a ∷ rs) at = ap (λ (xs : List RegionRows). a ∷ xs) (put_alone index rows r rs at)

pub put_joined : (index : ℕ) (rows : List Row) (r : RegionRows) (rs : List RegionRows) → slice_get rs index ≡ Some r
    → remove_at_index (regions_with index (record { first = r.first; rows = rows } ∷ []) rs) (suc index) ≡ put_rows index true rows rs
put_joined index rows r [] at = cc
put_joined zero rows r (a ∷ rs) at = let same : a ≡ r = cc in ap (λ (x : RegionRows). record { first = x.first; rows = rows } ∷ drop 1 rs) (sym same)
put_joined (suc index) rows r (a ∷ rs) at = ap (λ (xs : List RegionRows). a ∷ xs) (put_joined index rows r rs at)

-- the region at an index and the next one
small_put : (c index : ℕ) (rows : List Row) (rs : List RegionRows) → index < length rs → is_small c (drop index (put_rows index false rows rs)) ≡ nat_lt (length rows) (c / 2)
small_put c index rows rs h = grind (arith, common_steps)

fits_put : (c index : ℕ) (rows : List Row) (b : RegionRows) (rs : List RegionRows) → slice_get rs (suc index) ≡ Some b
    → fits_next c (drop index (put_rows index false rows rs)) ≡ nat_le (length rows + length b.rows) c
fits_put c zero rows b (a ∷ x ∷ rs) at = let same : x ≡ b = cc in ap (λ (y : RegionRows). nat_le (length rows + length y.rows) c) same
fits_put c (suc index) rows b (a ∷ rs) at = fits_put c index rows b rs at
fits_put c index rows b rs at = cc

fits_none : (c index : ℕ) (rows : List Row) (rs : List RegionRows) → length rs ≡ suc index → fits_next c (drop index (put_rows index false rows rs)) ≡ false
fits_none c zero rows (a ∷ []) long = refl
fits_none c (suc index) rows (a ∷ rs) long = fits_none c index rows rs (omega arith)
fits_none c index rows rs long = absurd (omega arith)

joins_put : (index : ℕ) (rows : List Row) (b : RegionRows) (rs : List RegionRows) → slice_get rs (suc index) ≡ Some b
    → put_rows index true (rows ++ b.rows) rs ≡ change_from index join_first (put_rows index false rows rs)
joins_put zero rows b (a ∷ x ∷ rs) at = let same : x ≡ b = cc in ap (λ (y : RegionRows). record { first = a.first; rows = rows ++ y.rows } ∷ rs) (sym same)
joins_put (suc index) rows b (a ∷ rs) at = ap (λ (xs : List RegionRows). a ∷ xs) (joins_put index rows b rs at)
joins_put index rows b rs at = cc

-- the region at an index and the one before
fits_before : (c index : ℕ) (rows : List Row) (a : RegionRows) (rs : List RegionRows) → slice_get rs index ≡ Some a → suc index < length rs
    → fits_next c (drop index (put_rows (suc index) false rows rs)) ≡ nat_le (length a.rows + length rows) c
fits_before c index rows a [] at lt = cc
fits_before c zero rows a (x ∷ []) at lt = absurd (omega arith)
fits_before c zero rows a (x ∷ y ∷ rs) at lt = let same : x ≡ a = cc in ap (λ (z : RegionRows). nat_le (length z.rows + length rows) c) same
fits_before c (suc index) rows a (x ∷ rs) at lt = fits_before c index rows a rs at (omega arith)

joins_before : (index : ℕ) (rows : List Row) (a : RegionRows) (rs : List RegionRows) → slice_get rs index ≡ Some a → suc index < length rs
    → put_rows index true (a.rows ++ rows) rs ≡ change_from index join_first (put_rows (suc index) false rows rs)
joins_before index rows a [] at lt = cc
joins_before zero rows a (x ∷ []) at lt = absurd (omega arith)
joins_before zero rows a (x ∷ y ∷ rs) at lt = let same : x ≡ a = cc in ap (λ (z : RegionRows). record { first = x.first; rows = z.rows ++ rows } ∷ rs) (sym same)
joins_before (suc index) rows a (x ∷ rs) at lt = ap (λ (xs : List RegionRows). x ∷ xs) (joins_before index rows a rs at (omega arith))

pub join_last : (c index : ℕ) (rows : List Row) (rs : List RegionRows) → length rs ≡ suc index → JoinsNext c index rows rows false rs
join_last c index rows rs long = record { fits = sym (fits_none c index rows rs long); rows = refl }

pub join_with : (c index : ℕ) (rows new : List Row) (fit : Bool) (b : RegionRows) (rs : List RegionRows) → slice_get rs (suc index) ≡ Some b → fit ≡ nat_le (length rows + length b.rows) c
    → new ≡ (if fit then rows ++ b.rows else rows) → JoinsNext c index rows new fit rs
join_with c index rows new true b rs at is made = record { fits = is ∙ sym (fits_put c index rows b rs at); rows = rw made (joins_put index rows b rs at) }
join_with c index rows new false b rs at is made = record { fits = is ∙ sym (fits_put c index rows b rs at); rows = rw made refl }

join_after : (c index : ℕ) (rows new : List Row) (fit : Bool) (a : RegionRows) (rs : List RegionRows) → slice_get rs index ≡ Some a → suc index < length rs
    → fit ≡ nat_le (length a.rows + length rows) c → new ≡ (if fit then a.rows ++ rows else rows) → JoinsBefore c (suc index) rows new fit rs
join_after c index rows new fit a rs h k j l = search (rules, fits_before, joins_before)

pub join_one : (c index : ℕ) (rows new : List Row) (fit : Bool) (a : RegionRows) (rs : List RegionRows) → index ≢ 0 → slice_get rs (index - 1) ≡ Some a → index < length rs
    → fit ≡ nat_le (length a.rows + length rows) c → new ≡ (if fit then a.rows ++ rows else rows) → JoinsBefore c index rows new fit rs
join_one c zero rows new fit a rs some at lt is made = absurd (some refl)
join_one c (suc index) rows new fit a rs some at lt is made =
    let here : suc index - 1 ≡ index = omega arith in
    join_after c index rows new fit a rs (rw here at at) lt is made

pub length-regions : (placed : List Placed) → length (regions_in placed) ≡ length placed
length-regions placed = length-map placed (λ (p : Placed). p.region)

-- the entry at an index taken out
pub map_removed : {X Y : Type 0} (f : X → Y) (i : ℕ) (xs : List X) → map f (remove_at_index xs i) ≡ remove_at_index (map f xs) i
map_removed f i xs = map-append f (take i xs) (drop (suc i) xs) ∙ rw (take-map f i xs, drop-map f (suc i) xs) refl

-- what the settling of a region is
pub settle_large : (c index : ℕ) (rows : List Row) (rs : List RegionRows) → index < length rs → nat_lt (length rows) (c / 2) ≡ false
    → put_rows index false rows rs ≡ settle c index (put_rows index false rows rs)
settle_large c index rows rs h k = search (rules, small_put)

pub settle_next : (c index : ℕ) (old new : List Row) (rs : List RegionRows) → index < length rs → nat_lt (length old) (c / 2) ≡ true → JoinsNext c index old new true rs
    → put_rows index true new rs ≡ settle c index (put_rows index false old rs)
settle_next c index old new rs h k j = search (rules, small_put)

pub settle_before : (c index : ℕ) (old left new : List Row) (fit : Bool) (rs : List RegionRows) → index < length rs → nat_lt (length old) (c / 2) ≡ true → JoinsNext c index old left false rs
    → JoinsBefore c index left new fit rs → put_rows (if fit then index - 1 else index) fit new rs ≡ settle c index (put_rows index false old rs)
settle_before c index old left new fit rs h k j l = search (rules, small_put)

-- a row of the key stands in the region that holds the key, or nowhere
or_false : (b : Bool) → (b || false) ≡ b
or_false true = refl
or_false false = refl

has_here : (schema : Schema) (key : Key) (region : RegionRows) (rs : List RegionRows) (r : RegionRows) → IsChain schema (region ∷ rs)
    → slice_get (region ∷ rs) (index_holding key (firsts_of (region ∷ rs))) ≡ Some r → has_key schema.dims key (rows_of (region ∷ rs)) ≡ has_key schema.dims key r.rows
has_here schema key region [] r chain at =
    let same : region ≡ r = cc in
    has_append schema.dims key region.rows [] ∙ or_false (has_key schema.dims key region.rows) ∙ ap (λ (x : RegionRows). has_key schema.dims key x.rows) same
has_here schema key region (next ∷ rs) r chain at = elim (cases_Bool (precedes key next.first)) [
  | inl t ↦
      let before = before_of key next.first t in
      let others = has_none schema.dims key (rows_of (next ∷ rs)) (all_more (λ row. ¬ (IsBefore (key_of schema.dims row) next.first)) (λ row. is_same key (key_of schema.dims row) ≡ false)
      (λ row from. other_key (λ k. IsBefore k next.first) key (key_of schema.dims row) before from) (rows_of (next ∷ rs)) (all_from schema next rs chain.2)) in
      let first : slice_get (region ∷ next ∷ rs) 0 ≡ Some r = rw t at at in
      let same : region ≡ r = cc in
      has_append schema.dims key region.rows (rows_of (next ∷ rs)) ∙ rw others (or_false (has_key schema.dims key region.rows)) ∙ ap (λ (x : RegionRows). has_key schema.dims key x.rows) same
  | inr f ↦
      let later : ¬ (IsBefore key next.first) = (λ h. let t = precedes_of key next.first h in cc) in
      let here = has_none schema.dims key region.rows (all_more (λ row. IsBefore (key_of schema.dims row) next.first) (λ row. is_same key (key_of schema.dims row) ≡ false)
      (λ row lt. other_key (λ k. ¬ (IsBefore k next.first)) key (key_of schema.dims row) later (λ back. back lt)) region.rows (all_of_keys schema.dims (λ k. IsBefore k next.first) region.rows chain.1.1)) in
      has_append schema.dims key region.rows (rows_of (next ∷ rs)) ∙ rw here (has_here schema key next rs r chain.2 (rw f at at))
]

pub has_at : (schema : Schema) (n : ℕ) (key : Key) (rs : List RegionRows) (index : ℕ) (r : RegionRows) → AreRegions schema n rs → index ≡ index_holding key (firsts_of rs) → slice_get rs index ≡ Some r
    → has_key schema.dims key (rows_of rs) ≡ has_key schema.dims key r.rows
has_at schema n key [] index r h is at = cc
has_at schema n key (region ∷ rs) index r h is at = search (rules, chain_of, has_here)

pub removed_at : (dims c : ℕ) (key : Key) (rs : List RegionRows) (index : ℕ) (r : RegionRows) → has_key dims key (rows_of rs) ≡ true → index ≡ index_holding key (firsts_of rs) → slice_get rs index ≡ Some r
    → remove dims c key rs ≡ settle c index (put_rows index false (remove_row dims key r.rows) rs)
removed_at dims c key rs index r has is at = rw (has, ← is) (ap (settle c index) (removed_put dims key index r rs at))
