-- Regions on pages that follow each other, and their entries.
use Rattle.std.proofs.Common.{◌≡◌, ◌≤◌, ◌<◌, ◌+◌, ◌-◌, ◌^◌, ◌++◌, ◌∙◌, ℕ, zero, suc, List, [], ◌∷◌, Some, Result, Ok, Err, IfErr, IfOk, IsTrue, OnOk, ap, arith, append_assoc, drop, length, map, refl, slice_get, slice_set, subst, sym, take}
use Rattle.std.proofs.lemmas.List.{length-append}
use Rattle.std.proofs.lemmas.Result.{on_ok_weaker}
use Rattle.std.specs.List.{AllByRecursion}
use Rattle.std.proofs.lemmas.List.Elements.{All-from_recursion}
use Rattle.ub_index.specs.Spans.{ArePlaces, first_keys}
use Rattle.ub_index.specs.Standing.{IsGrowFault}
use Rattle.ub_laying.proofs.LevelFacts.{cut_added, lowest_level, take_set}
use Rattle.ub_laying.specs.Laying.{AreLaid, CanBeLaid, entries_from}
use Rattle.ub_laying.specs.Levels.{Cut, IsIndexOf, IsRaised, PutsRoot}
use Rattle.ub_laying.specs.declared.levels.Level.{Level}
use Rattle.ub_laying.specs.declared.levels.Root.{Root}
use Rattle.ub_page.proofs.PageLaws.{small_address}
use Rattle.ub_page.specs.Entries.{IsEntry}
use Rattle.ub_page.specs.Index.{index_page}
use Rattle.ub_region.proofs.Laws.{are_ascending_of}
use Rattle.ub_region.specs.RegionPage.{region_page}
use Rattle.ub_region.specs.Regions.{firsts_of}
use Rattle.ub_region.specs.declared.entry.Entry.{Entry}
use Rattle.ub_store.specs.Facts.{StoreFacts, page_count}
use Rattle.ub_store.specs.declared.fault.StoreFault.{StoreFault}
use Rattle.ub_store.specs.declared.fault.StoreFault.TheVariants as store
use Rattle.ub_table.specs.Keys.{are_ascending}
use Rattle.ub_table.specs.Region.{RegionRows, IsRegion}
use Rattle.ub_table.specs.declared.row.Key.{Key}
use Rattle.ub_table.specs.declared.row.Row.{Row}
use Rattle.ub_table.specs.declared.schema.Schema.{Schema}
use Rattle.ub_zaddr.specs.Address.{last_address}

-- ---- lists

pub take_next : {X : Type 0} (xs : List X) (i : ℕ) (x : X) → slice_get xs i ≡ Some x → take (i + 1) xs ≡ take i xs ++ x ∷ []
take_next [] i x at = cc
take_next (y ∷ xs) zero x at = cc
take_next {X} (y ∷ xs) (suc i) x at =
    let next : suc i + 1 ≡ suc (i + 1) = omega arith in
    ap (λ (k : ℕ). take k (y ∷ xs)) next ∙ ap (λ (ys : List X). y ∷ ys) (take_next xs i x at)

take_sum : {X : Type 0} (a b : ℕ) (xs : List X) → take (a + b) xs ≡ take a xs ++ take b (drop a xs)
take_sum zero b xs = let same : 0 + b ≡ b = omega arith in ap (λ (k : ℕ). take k xs) same
take_sum (suc a) zero [] = let same : suc a + 0 ≡ suc a = omega arith in ap (λ (k : ℕ). take k []) same
take_sum (suc a) (suc b) [] = let same : suc a + suc b ≡ suc (a + suc b) = omega arith in ap (λ (k : ℕ). take k []) same
take_sum {X} (suc a) b (x ∷ xs) =
    let same : suc a + b ≡ suc (a + b) = omega arith in
    ap (λ (k : ℕ). take k (x ∷ xs)) same ∙ ap (λ (ys : List X). x ∷ ys) (take_sum a b xs)

get_behind : {X : Type 0} (a i : ℕ) (xs : List X) → slice_get (drop a xs) i ≡ slice_get xs (a + i)
get_behind zero i xs = let same : i ≡ 0 + i = omega arith in ap (slice_get xs) same
get_behind (suc a) i [] = refl
get_behind (suc a) i (x ∷ xs) =
    let same : suc (a + i) ≡ suc a + i = omega arith in
    get_behind a i xs ∙ ap (slice_get (x ∷ xs)) same

length-taken : {X : Type 0} (n : ℕ) (xs : List X) → n ≤ length xs → length (take n xs) ≡ n
length-taken zero xs le = refl
length-taken (suc n) [] le = absurd (omega arith)
length-taken (suc n) (x ∷ xs) le = ap (λ (k : ℕ). suc k) (length-taken n xs (omega arith))

map_next : {X Y : Type 0} (f : X → Y) (xs : List X) (x : X) → map f (xs ++ x ∷ []) ≡ map f xs ++ f x ∷ []
map_next f [] x = refl
map_next {X} {Y} f (y ∷ xs) x = ap (λ (ys : List Y). f y ∷ ys) (map_next f xs x)

-- pages that there were, and are as they were, are the first of all
pub others_behind : (old new : List (List ℕ)) → ((m : ℕ) → m < length old → slice_get new m ≡ slice_get old m) → new ≡ old ++ drop (length old) new
others_behind [] new kept = refl
others_behind (x ∷ old) [] kept = let first = kept 0 (omega arith) in cc
others_behind (x ∷ old) (y ∷ new) kept =
    let first = kept 0 (omega arith) in
    let same : y ≡ x = cc in
    ap (λ (p : List ℕ). p ∷ new) same ∙ ap (λ (ps : List (List ℕ)). x ∷ ps) (others_behind old new (λ m less. kept (suc m) (omega arith)))

-- ---- regions

-- the region at an index has the first key that stands there, and the rows
pub region_at : (regions : List RegionRows) (i : ℕ) (first : Key) (rows : List Row) → slice_get (firsts_of regions) i ≡ Some first
    → slice_get (map (λ (region : RegionRows). region.rows) regions) i ≡ Some rows → slice_get regions i ≡ Some (record { first = first; rows = rows })
region_at [] i first rows h k = cc
region_at (r ∷ regions) zero first rows h k =
    let a : r.first ≡ first = cc in
    let b : r.rows ≡ rows = cc in
    rw (a, b) refl
region_at (r ∷ regions) (suc i) first rows h k = region_at regions i first rows h k

pub one_of : (P : RegionRows → Type 0) (regions : List RegionRows) (i : ℕ) (region : RegionRows) → AllByRecursion P regions → slice_get regions i ≡ Some region → P region
one_of P [] i region all at = cc
one_of P (r ∷ regions) zero region all at = let same : r ≡ region = cc in subst P same all.0
one_of P (r ∷ regions) (suc i) region all at = one_of P regions i region all.1 at

-- one page more
pub pages_next : (schema : Schema) (start now then : List (List ℕ)) (regions : List RegionRows) (i : ℕ) (region : RegionRows) → slice_get regions i ≡ Some region
    → now ≡ start ++ map (region_page schema) (take i regions) → then ≡ now ++ region_page schema region ∷ [] → then ≡ start ++ map (region_page schema) (take (i + 1) regions)
pages_next schema start now then regions i region at were is =
    let page = region_page schema region in
    is ∙ ap (λ (ps : List (List ℕ)). ps ++ page ∷ []) were ∙ append_assoc start (map (region_page schema) (take i regions)) (page ∷ [])
    ∙ ap (λ (ps : List (List ℕ)). start ++ ps) (sym (ap (map (region_page schema)) (take_next regions i region at) ∙ map_next (region_page schema) (take i regions) region))

-- ---- entries

entries_join : (n : ℕ) (xs ys : List Key) (m : ℕ) → m ≡ n + length xs → entries_from n (xs ++ ys) ≡ entries_from n xs ++ entries_from m ys
entries_join n [] ys m is = let same : m ≡ n = omega arith in rw same refl
entries_join n (x ∷ xs) ys m is = ap (λ (es : List Entry). record { first = x; page = n } ∷ es) (entries_join (suc n) xs ys m (omega arith))

-- one entry more
pub entries_next : (n i from : ℕ) (firsts : List Key) (entries : List Entry) (first : Key) (m : ℕ) → i < length entries → slice_get firsts (from + i) ≡ Some first → from + i < length firsts
    → m ≡ n + i → take i entries ≡ entries_from n (take i (drop from firsts))
    → take (i + 1) (slice_set entries i (record { first = first; page = m })) ≡ entries_from n (take (i + 1) (drop from firsts))
entries_next n i from firsts entries first m less at within is were =
    let entry : Entry = record { first = first; page = m } in
    let there : slice_get (drop from firsts) i ≡ Some first = get_behind from i firsts ∙ at in
    let long = length-drop_le from firsts in
    let count : length (take i (drop from firsts)) ≡ i = length-taken i (drop from firsts) (omega arith) in
    let next : i + 1 ≡ suc i = omega arith in
    ap (λ (k : ℕ). take k (slice_set entries i entry)) next ∙ take_set i entries entry less ∙ ap (λ (es : List Entry). es ++ entry ∷ []) were
    ∙ sym (ap (entries_from n) (take_next (drop from firsts) i first there) ∙ entries_join n (take i (drop from firsts)) (first ∷ []) m (omega arith))
  where
    length-drop_le : (a : ℕ) (xs : List Key) → length xs ≤ a + length (drop a xs)
    length-drop_le zero xs = omega arith
    length-drop_le (suc a) [] = omega arith
    length-drop_le (suc a) (x ∷ xs) = let le = length-drop_le a xs in omega arith

-- one leaf more
pub leaf_more : (b c : List (List ℕ)) (first from named count : ℕ) (firsts : List Key) (part : List Entry) → c ≡ b ++ index_page (record { level = 1; entries = part }) ∷ []
    → part ≡ entries_from (from + named) (take count (drop named firsts)) → named + count ≤ length firsts → first ≤ length b → 1 ≤ length part → length part ≤ 170
    → Cut b 1 first (length b - first) (entries_from from (take named firsts)) → Cut c 1 first (length c - first) (entries_from from (take (named + count) firsts))
leaf_more b c first from named count firsts part is part_is within some more few cut =
    let long : length (take named firsts) ≡ named = length-taken named firsts (omega arith) in
    let whole : entries_from from (take named firsts) ++ part ≡ entries_from from (take (named + count) firsts) =
    ap (λ (es : List Entry). entries_from from (take named firsts) ++ es) part_is
    ∙ sym (ap (entries_from from) (take_sum named count firsts) ∙ entries_join from (take named firsts) (take count (drop named firsts)) (from + named) (omega arith)) in
    subst (λ (es : List Entry). Cut c 1 first (length c - first) es) whole (cut_added b c 1 first (entries_from from (take named firsts)) part is some more few cut)

-- ---- the entries of regions in order are those of an index

pub length-firsts : (regions : List RegionRows) → length (firsts_of regions) ≡ length regions
length-firsts [] = refl
length-firsts (r ∷ regions) = ap (λ (k : ℕ). suc k) (length-firsts regions)

keys_back : (n : ℕ) (firsts : List Key) → first_keys (entries_from n firsts) ≡ firsts
keys_back n [] = refl
keys_back n (x ∷ firsts) = ap (λ (xs : List Key). x ∷ xs) (keys_back (suc n) firsts)

each_entry : (schema : Schema) (n : ℕ) (regions : List RegionRows) → AllByRecursion (IsRegion schema) regions → 1 ≤ n → n + length regions ≤ 2 ^ 32
    → AllByRecursion (IsEntry (last_address schema.dims)) (entries_from n (firsts_of regions))
each_entry schema n [] all some fits = tt
each_entry schema n (r ∷ regions) all some fits =
    (record { z = all.0.first.0; number = all.0.first.1; some_page = some; page = omega arith }, each_entry schema (suc n) regions all.1 (omega arith) (omega arith))

low_entries : (last : ℕ) (entries : List Entry) → AllByRecursion (IsEntry last) entries → AllByRecursion (λ entry. entry.first.z ≤ last) entries
low_entries last [] all = tt
low_entries last (e ∷ entries) all = (all.0.z, low_entries last entries all.1)

pub laid_entries : (schema : Schema) (n : ℕ) (regions : List RegionRows) → CanBeLaid schema regions → 1 ≤ n → n + length regions ≤ 2 ^ 32
    → ArePlaces (last_address schema.dims) (entries_from n (firsts_of regions)) × AllByRecursion (IsEntry (last_address schema.dims)) (entries_from n (firsts_of regions))
laid_entries schema n regions can some fits =
    let last = last_address schema.dims in
    let entries = entries_from n (firsts_of regions) in
    let each = each_entry schema n regions can.each some fits in
    let keys = keys_back n (firsts_of regions) in (
      (
        ap (λ (ks : List Key). slice_get ks 0) keys ∙ can.begins,
        All-from_recursion (λ (entry : Entry). entry.first.z ≤ last) entries (low_entries last entries each),
        ap are_ascending keys ∙ are_ascending_of (firsts_of regions) can.ascending,
      ),
      each,
    )

pub some_regions : (schema : Schema) (regions : List RegionRows) → CanBeLaid schema regions → 1 ≤ length regions
some_regions schema [] can = let begins = can.begins in cc
some_regions schema (r ∷ regions) can = omega arith

-- ---- the whole

abbrev IsKept : List (List ℕ) → List (List ℕ) → Type 0
IsKept old new = (m : ℕ) → m < length old → slice_get new m ≡ slice_get old m

length-pages : (schema : Schema) (regions : List RegionRows) → length (map (region_page schema) regions) ≡ length regions
length-pages schema [] = refl
length-pages schema (r ∷ regions) = ap (λ (k : ℕ). suc k) (length-pages schema regions)

pub laid : (schema : Schema) (regions : List RegionRows) (old first middle new : List (List ℕ)) (low : Level) (root : Root) → CanBeLaid schema regions → schema.dims ≤ 4 → 1 ≤ length old
    → first ≡ old ++ map (region_page schema) regions → low.first ≡ length first → low.first + low.count ≡ length middle → length middle < 2 ^ 32 → IsKept first middle → IsKept middle new
    → Cut middle 1 low.first low.count (entries_from (length old) (firsts_of regions)) → IsRaised middle new low root → AreLaid schema regions old new root
laid schema regions old first middle new low root can few some is at last small kept still cut raised =
    let end = last_address schema.dims in
    let size = small_address schema.dims end few (omega arith) in
    let entries = entries_from (length old) (firsts_of regions) in
    let long : length first ≡ length old + length regions = ap length is ∙ length-append old (map (region_page schema) regions) ∙ ap (λ (k : ℕ). length old + k) (length-pages schema regions) in
    let are = laid_entries schema (length old) regions can some (omega arith) in
    let level = lowest_level end middle low.first low.count entries (omega arith) are.0 are.1 (omega arith) (omega arith) cut in
    let made = raised end low.first entries (omega arith) (omega arith) level in
    let both : IsKept first new = λ m less. still m (omega arith) ∙ kept m less in
    record {
      pages = (drop (length first) new, others_behind first new both ∙ ap (λ (ps : List (List ℕ)). ps ++ drop (length first) new) is);
      indexed = subst (λ (n : ℕ). IsIndexOf end new n (length new) root entries) (at ∙ long) made;
    }

-- ---- the answer of the last step, as that of the whole

pub on_root : (P Q : Root → Type 0) (r : Result Root StoreFault) → ((root : Root) → P root → Q root) → IfOk r P → IfOk r Q
on_root P Q (Ok root) f h = f root h
on_root P Q (Err fault) f h = tt

pub count_on : (m n : ℕ) (a b c : StoreFacts) (r : Result Root StoreFault) → page_count b + m ≤ page_count a + n → PutsRoot m b c r → OnOk r (page_count c ≤ page_count a + n)
count_on m n a b c r le h = on_ok_weaker r (λ count. omega arith) h.count

pub grow_on : {A : Type 0} (m n : ℕ) (a b : StoreFacts) (r : Result A StoreFault) → page_count b + m ≤ page_count a + n → (IsTrue b.can_fail → IsTrue a.can_fail) → IfErr r (IsGrowFault m b)
    → IfErr r (IsGrowFault n a)
grow_on m n a b (Ok x) le back h = tt
grow_on m n a b (Err store.Memory) le back h = tt
grow_on m n a b (Err store.Device) le back h = back h
grow_on m n a b (Err store.BadSize) le back h = omega arith
grow_on m n a b (Err store.NoPage) le back h = absurd h
