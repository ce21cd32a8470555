-- What the entries of a page read as.
use Rattle.std.proofs.Common.{rules, ◌≡◌, ◌≤◌, ◌<◌, ◌+◌, ◌-◌, ◌*◌, ◌^◌, ℕ, zero, suc, List, [], ◌∷◌, ◌++◌, length, drop, get_or, replicate, ◌↔◌, refl, sym, ap, arith, ◌∙◌, append_assoc}
use Rattle.std.proofs.lemmas.List.{length-append}
use Rattle.std.specs.List.{flat_map, AllByRecursion}
use Rattle.ub_bytes.specs.Bytes.{number_bytes, number_at, layout, padded}
use Rattle.ub_page.specs.Entries.{AreAscending, IsEntry, entry_fields, entry_bytes, page_fields, entries_page, entry_on, entries_on}
use Rattle.ub_region.specs.declared.entry.Entry.{Entry}
use Rattle.ub_page.specs.declared.entries.TheConstants.{MAX_ENTRIES}
use Rattle.ub_bytes.proofs.BytesFacts.{layout_read, length-layout, AllFit}
use Rattle.ub_bytes.proofs.DraftFacts.{of_front, same_count}
use Rattle.ub_table.specs.Keys.{IsBefore}

-- an entry is read where it was written, in a space that ends with an address of 16 bytes
entry_read : (entry : Entry) (page front rest : List ℕ) (offset last : ℕ) → last < 256 ^ 16 → offset ≡ length front → IsEntry last entry
    → page ≡ front ++ (entry_bytes entry ++ rest) → entry_on offset page ≡ entry
entry_read entry page front rest offset last small_last is good e =
    let le = good.z in
    let z : entry.first.z < 256 ^ 16 = omega arith in
    let number = good.number in
    let small = good.page in
    let fit : AllFit (entry_fields entry) = (z, (omega arith, (omega arith, tt))) in
    let ats = layout_read (entry_fields entry) page front rest offset is fit e in
    let last : offset + 20 ≡ (offset + 16) + 4 = omega arith in
    rw (last, ats.0, ats.1.0, ats.1.1.0) refl

pub entries_read : (entries : List Entry) (page front rest : List ℕ) (offset last : ℕ) → last < 256 ^ 16 → offset ≡ length front → AllByRecursion (IsEntry last) entries
    → page ≡ front ++ (flat_map entry_bytes entries ++ rest) → entries_on offset (length entries) page ≡ entries
entries_read [] page front rest offset last small is good e = refl
entries_read (entry ∷ entries) page front rest offset last small is good e =
    let whole : page ≡ front ++ (entry_bytes entry ++ (flat_map entry_bytes entries ++ rest)) = e ∙ ap (λ (s : List ℕ). front ++ s) (append_assoc (entry_bytes entry) (flat_map entry_bytes entries) rest) in
    let behind : page ≡ (front ++ entry_bytes entry) ++ (flat_map entry_bytes entries ++ rest) = whole ∙ sym (append_assoc front (entry_bytes entry) _) in
    let long : length (entry_bytes entry) ≡ 24 = length-layout (entry_fields entry) in
    let next : offset + 24 ≡ length (front ++ entry_bytes entry) = omega (arith, length-append front (entry_bytes entry), long) in
    let first = entry_read entry page front _ offset last small is good.0 whole in
    let others = entries_read entries page (front ++ entry_bytes entry) rest (offset + 24) last small next good.1 behind in
    rw (first, others) refl

pub length-entries_on : (offset n : ℕ) (page : List ℕ) → length (entries_on offset n page) ≡ n
length-entries_on offset zero page = refl
length-entries_on offset (suc n) page = omega (arith, length-entries_on (offset + 24) n page)

pub entries_next : (offset n after less : ℕ) (page : List ℕ) → 0 < n → after ≡ offset + 24 → less ≡ n - 1
    → entries_on offset n page ≡ entry_on offset page ∷ entries_on after less page
entries_next offset n after less page h k j = search rules

-- what stands on a page that was written of entries
pub record HasFields (kind level next : ℕ) (entries : List Entry) (page : List ℕ) : Type 0 where
  pub kind_is : number_at 1 0 page ≡ kind
  pub level_is : number_at 1 1 page ≡ level
  pub count_is : number_at 2 2 page ≡ length entries
  pub next_is : number_at 4 4 page ≡ next
  pub zeros : number_at 8 8 page ≡ 0
  pub entries_are : entries_on 16 (length entries) page ≡ entries
  pub behind : drop (16 + 24 * length entries) page ≡ replicate (4096 - (16 + 24 * length entries)) 0

length-entries_bytes : (entries : List Entry) → length (flat_map entry_bytes entries) ≡ 24 * length entries
length-entries_bytes [] = refl
length-entries_bytes (entry ∷ entries) =
    let long : length (entry_bytes entry) ≡ 24 = length-layout (entry_fields entry) in
    omega (arith, length-append (entry_bytes entry) (flat_map entry_bytes entries), long, length-entries_bytes entries)

pub fields_read : (kind level next : ℕ) (entries : List Entry) (page : List ℕ) (last : ℕ) → kind < 256 → level < 256 → next < 2 ^ 32 → length entries ≤ MAX_ENTRIES
    → last < 256 ^ 16 → AllByRecursion (IsEntry last) entries → page ≡ entries_page kind level next entries → HasFields kind level next entries page
fields_read kind level next entries page last kind_small level_small next_small most small good e =
    let head = page_fields kind level (length entries) next in
    let body = flat_map entry_bytes entries in
    let zeros : List ℕ = replicate (4096 - length (layout head ++ body)) 0 in
    let whole : page ≡ layout head ++ (body ++ zeros) = e ∙ append_assoc (layout head) body zeros in
    let fit : AllFit head = (omega arith, (omega arith, (omega arith, (omega arith, (omega arith, tt))))) in
    let ats = layout_read head page [] (body ++ zeros) 0 refl fit whole in
    let heads : length (layout head) ≡ 16 = length-layout head in
    let read = entries_read entries page (layout head) zeros 16 last small (sym heads) good whole in
    let used : 16 + 24 * length entries ≡ length (layout head ++ body) = omega (arith, length-append (layout head) body, heads, length-entries_bytes entries) in
    record {
      kind_is = ats.0;
      level_is = ats.1.0;
      count_is = ats.1.1.0;
      next_is = ats.1.1.1.0;
      zeros = ats.1.1.1.1.0;
      entries_are = read;
      behind = (of_front (layout head ++ body) zeros page (16 + 24 * length entries) used e).0 ∙ same_count (4096 - length (layout head ++ body)) (4096 - (16 + 24 * length entries)) 0 (omega arith);
    }

-- one entry more is read
pub entries_step : (entries all : List Entry) (page : List ℕ) (i count : ℕ) → i < count
    → entries ++ entries_on (16 + 24 * i) (count - i) page ≡ all
    → (entries ++ entry_on (16 + 24 * i) page ∷ []) ++ entries_on (16 + 24 * (i + 1)) (count - (i + 1)) page ≡ all
entries_step entries all page i count h k = search (rules, append_assoc, entries_next)

pub short_ascending : (entries : List Entry) → length entries ≤ 1 → AreAscending entries
short_ascending [] h = tt
short_ascending (a ∷ []) h = tt
short_ascending (a ∷ b ∷ entries) h = absurd (omega arith)

pub ascending_from : (entries : List Entry) (i : ℕ) (d : Entry) → suc i < length entries → IsBefore (get_or entries i d).first (get_or entries (suc i) d).first
    → AreAscending (drop i entries) ↔ AreAscending (drop (suc i) entries)
ascending_from [] i d lt before = absurd (omega arith)
ascending_from (a ∷ []) i d lt before = absurd (omega arith)
ascending_from (a ∷ b ∷ entries) zero d lt before = (λ up. up.1, λ up. (before, up))
ascending_from (a ∷ b ∷ entries) (suc i) d lt before = ascending_from (b ∷ entries) i d (omega arith) before

-- one entry more is known to be before the next
pub ascending_step : (entries : List Entry) (i : ℕ) (d : Entry) → 1 ≤ i → i < length entries → IsBefore (get_or entries (i - 1) d).first (get_or entries i d).first
    → AreAscending (drop (i - 1) entries) ↔ AreAscending (drop (i + 1 - 1) entries)
ascending_step entries zero d some lt before = absurd (omega arith)
ascending_step entries (suc i) d some lt before =
    let here : suc i - 1 ≡ i = omega arith in
    let next : suc i + 1 - 1 ≡ suc i = omega arith in
    let first : IsBefore (get_or entries i d).first (get_or entries (suc i) d).first = rw here at before in
    rw (here, next) (ascending_from entries i d lt first)

regrouped : (a b c d e f : List ℕ) → padded (((((a ++ b) ++ c) ++ d) ++ e) ++ f) ≡ padded ((a ++ (b ++ (c ++ (d ++ (e ++ []))))) ++ f)
regrouped a b c d e f =
    let e : ((((a ++ b) ++ c) ++ d) ++ e) ++ f ≡ (a ++ (b ++ (c ++ (d ++ (e ++ []))))) ++ f = simp append_assoc in
    ap padded e

-- the writer's bytes are those of the spelling
pub written : (kind level next : ℕ) (entries : List Entry)
    → padded (((((number_bytes 1 kind ++ number_bytes 1 level) ++ number_bytes 2 (length entries)) ++ number_bytes 4 next) ++ number_bytes 8 0) ++ flat_map entry_bytes entries)
    ≡ entries_page kind level next entries
written kind level next entries = search (rules, regrouped)
