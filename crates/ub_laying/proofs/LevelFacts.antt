-- The levels of an index that is built from below.
use Rattle.std.proofs.Common.{rules, ◌≡◌, ◌≢◌, ◌≤◌, ◌<◌, ◌+◌, ◌-◌, ◌^◌, ◌++◌, ◌∙◌, true, ℕ, zero, suc, List, [], ◌∷◌, Option, Some, None, IfSome, ap, arith, append_assoc, length, nat_eq, refl, slice_get, slice_set, subst, sym, take}
use Rattle.std.proofs.lemmas.Grind.{flat_map-append}
use Rattle.std.proofs.lemmas.List.{append-nil, length-append}
use Rattle.std.specs.List.{AllByRecursion, IsDistinct, flat_map}
use Rattle.ub_index.specs.Spans.{ArePlaces, first_keys}
use Rattle.ub_index.proofs.FitFacts.{page_is}
use Rattle.ub_index.proofs.KeptFacts.{kept_index, kept_list, same_page, told_index}
use Rattle.ub_index.proofs.Lists.{ascend_first, ascend_left, ascend_right, ascending_of, each_left, each_right, each_same}
use Rattle.ub_index.proofs.Numbers.{StandApart, distinct_apart, distinct_cons, distinct_join, distinct_left, distinct_right, kept_pages_list, no_pages}
use Rattle.ub_index.proofs.StandFacts.{told_there}
use Rattle.ub_index.specs.Index.{IsTold, AscendTo, EachTo, IsUnder, entries_of, first_or, page_in, pages_under, under}
use Rattle.ub_index.specs.Standing.{PagesStay, IsOutside}
use Rattle.ub_page.proofs.IndexLaws.{length-node_on, node_get, node_parts}
use Rattle.ub_page.specs.Index.{IsNode, Node, index_page, node_on}
use Rattle.ub_bytes.specs.Bytes.{number_at}
use Rattle.ub_page.specs.Entries.{IsEntry, entry_on}
use Rattle.ub_region.specs.declared.entry.Entry.{Entry}
use Rattle.ub_region.proofs.Laws.{all_append, all_both, all_left, all_more, all_right}
use Rattle.ub_table.proofs.Laws.{before_of}
use Rattle.ub_table.specs.Keys.{IsBefore, are_ascending, origin}
use Rattle.ub_table.specs.declared.row.Key.{Key}
use Rattle.std.proofs.lemmas.Bool.{and_parts}
use Rattle.ub_laying.proofs.AddFacts.{get_front, get_last}
use Rattle.ub_laying.specs.Levels.{Cut, IsIndexOf, IsLevel, name_of, names_of}

-- ---- names

pub names_join : (pages : List (List ℕ)) (n a b m c : ℕ) → c ≡ a + b → m ≡ n + a → names_of pages n c ≡ names_of pages n a ++ names_of pages m b
names_join pages n (suc a) b m (suc c) e f = search (rules, (names_join pages (suc n) a b m c (omega arith) (omega arith)))
names_join pages n a b m c e f = search rules

pub names_kept : (old new : List (List ℕ)) (n count to : ℕ) → n + count ≤ to → ((m : ℕ) → m < to → slice_get new m ≡ slice_get old m) → names_of new n count ≡ names_of old n count
names_kept old new n zero to le kept = refl
names_kept old new n (suc count) to le kept = search (rules, (names_kept old new (suc n) count to (omega arith) kept), same_page)

pub length-names : (pages : List (List ℕ)) (n count : ℕ) → length (names_of pages n count) ≡ count
length-names pages n zero = refl
length-names pages n (suc count) = ap (λ (k : ℕ). suc k) (length-names pages (suc n) count)

-- ---- pages that are cut

pub cut_kept : (old new : List (List ℕ)) (level n count to : ℕ) (entries : List Entry) → n + count ≤ to → ((m : ℕ) → m < to → slice_get new m ≡ slice_get old m)
    → Cut old level n count entries → Cut new level n count entries
cut_kept old new level n zero to entries le kept h = h
cut_kept old new level n (suc count) to entries le kept (part, rest, is, some, few, at, more) = search (rules, (cut_kept old new level (suc n) count to rest (omega arith) kept more))

pub cut_more : (pages : List (List ℕ)) (level n count m : ℕ) (entries part : List Entry) → m ≡ n + count → Cut pages level n count entries → 1 ≤ length part → length part ≤ 170
    → slice_get pages m ≡ Some (index_page (record { level = level; entries = part })) → Cut pages level n (suc count) (entries ++ part)
cut_more pages level n zero m entries part is h some few at =
    let same : m ≡ n = omega arith in
    (part, [], ap (λ (es : List Entry). es ++ part) h ∙ sym (append-nil part), some, few, rw same at at, refl)
cut_more pages level n (suc count) m entries part is (first, rest, parts, some_first, few_first, at_first, more) some few at = (
  first,
  rest ++ part,
  ap (λ (es : List Entry). es ++ part) parts ∙ append_assoc first rest part,
  some_first,
  few_first,
  at_first,
  cut_more pages level (suc n) count m rest part (omega arith) more some few at,
)

-- ---- one page

first_is : (entries : List Entry) (entry : Entry) → slice_get entries 0 ≡ Some entry → first_or entries None ≡ Some entry.first
first_is entries entry h = search rules

-- a page of entries in order is told of by the entry that names it
told : (last : ℕ) (pages : List (List ℕ)) (level n : ℕ) (part : List Entry) (end : Option Key) → last < 256 ^ 16 → 1 ≤ level → level ≤ 16 → 1 ≤ length part → length part ≤ 170
    → AllByRecursion (IsEntry last) part → AscendTo part end → slice_get pages n ≡ Some (index_page (record { level = level; entries = part }))
    → IsTold last pages level part (name_of pages n)
told last pages level n part end small low high some few each up at =
    let node : Node = record { level = level; entries = part } in
    let is : IsNode last node = record { low = low; high = high; some = some; few = few; entries = each; ascending = ascending_of part end up } in
    let page : page_in pages n ≡ index_page node = page_is pages n (index_page node) at in
    let on : node_on (page_in pages n) ≡ node = (node_parts node (page_in pages n) last small is page).on in
    let entries : entries_of pages n ≡ part = ap (λ (x : Node). x.entries) on in
    let count : length part ≡ number_at 2 2 (page_in pages n) = ap length (sym entries) ∙ length-node_on (page_in pages n) in
    let first : slice_get (entries_of pages n) 0 ≡ Some (entry_on 16 (page_in pages n)) = node_get (page_in pages n) 0 (omega arith) in
    told_there last small pages level part (name_of pages n) at is (ap (λ (es : List Entry). first_or es None) (sym entries) ∙ first_is (entries_of pages n) (entry_on 16 (page_in pages n)) first)

-- a name of entries in order is before their end, and in range
name_before : (part : List Entry) (end : Option Key) (first : Key) → AscendTo part end → first_or part None ≡ Some first → IfSome end (IsBefore first)
name_before part end first h k = search (rules, ascend_first)

name_entry : (last n : ℕ) (part : List Entry) (first : Key) → AllByRecursion (IsEntry last) part → first_or part None ≡ Some first → 1 ≤ n → n < 2 ^ 32 → IsEntry last (record { first = first; page = n })
name_entry last n part first h k j l = search rules

first_part : (part rest : List Entry) (first : Key) → first_or part None ≡ Some first → first_or (part ++ rest) None ≡ Some first
first_part part rest first h = search rules

-- ---- a level

none_distinct : IsDistinct nat_eq []
unfolding IsDistinct
none_distinct = tt

module _ (last : ℕ) (pages : List (List ℕ)) (level : ℕ) (small : last < 256 ^ 16) (high : level + 1 ≤ 16) where
  abbrev numbers : List Entry → List ℕ
  numbers nodes = flat_map (pages_under pages level) nodes

  -- the entries of each page are those that it tells
  abbrev Tell : ℕ → ℕ → List Entry → Type 0
  Tell n zero nodes = nodes ≡ []
  Tell n (suc count) nodes = (part : List Entry) × (rest : List Entry) × (nodes ≡ part ++ rest) × (entries_of pages n ≡ part) × Tell (suc n) count rest

  -- what stands above these nodes, named by so many entries from a page on
  record IsAbove (n count : ℕ) (nodes names : List Entry) : Type 0 where
    tell : Tell n count nodes
    begins : first_or names None ≡ first_or nodes None
    ascends : AscendTo names None
    each : AllByRecursion (IsEntry last) names
    under_them : EachTo (IsUnder last pages (suc level)) names None
    entries_are : flat_map (under pages (suc level)) names ≡ flat_map (under pages level) nodes

  above : (n count : ℕ) (nodes : List Entry) → 1 ≤ n → n + count ≤ 2 ^ 32 → Cut pages (suc level) n count nodes → AscendTo nodes None → AllByRecursion (IsEntry last) nodes
      → EachTo (IsUnder last pages level) nodes None → IsAbove n count nodes (names_of pages n count)
  above n zero nodes some fits h up each unders =
      rw h (record { tell = refl; begins = refl; ascends = tt; each = tt; under_them = tt; entries_are = refl })
  above n (suc count) nodes some fits (part, rest, is, some_part, few, at, more) up each unders =
      let up_all : AscendTo (part ++ rest) None = subst (λ (es : List Entry). AscendTo es None) is up in
      let each_all : AllByRecursion (IsEntry last) (part ++ rest) = subst (λ (es : List Entry). AllByRecursion (IsEntry last) es) is each in
      let unders_all : EachTo (IsUnder last pages level) (part ++ rest) None = subst (λ (es : List Entry). EachTo (IsUnder last pages level) es None) is unders in
      let each_part = all_left (IsEntry last) part rest each_all in
      let on = above (suc n) count rest (omega arith) (omega arith) more (ascend_right part rest None up_all) (all_right (IsEntry last) part rest each_all)
      (each_right (IsUnder last pages level) part rest None unders_all) in
      let names = names_of pages (suc n) count in
      let up_part : AscendTo part (first_or names None) = subst (λ (o : Option Key). AscendTo part o) (sym on.begins) (ascend_left part rest None up_all) in
      let unders_part : EachTo (IsUnder last pages level) part (first_or names None) =
      subst (λ (o : Option Key). EachTo (IsUnder last pages level) part o) (sym on.begins) (each_left (IsUnder last pages level) part rest None unders_all) in
      let tells = told last pages (suc level) n part (first_or names None) small (omega arith) (omega arith) some_part few each_part up_part at in
      record {
        tell = (part, rest, is, tells.entries_are, on.tell);
        begins = sym (ap (λ (es : List Entry). first_or es None) is ∙ first_part part rest (name_of pages n).first tells.begins);
        ascends = (name_before part (first_or names None) (name_of pages n).first up_part tells.begins, on.ascends);
        each = (name_entry last n part (name_of pages n).first each_part tells.begins some (omega arith), on.each);
        under_them = (told_index last pages level part (name_of pages n) (first_or names None) tells up_part unders_part, on.under_them);
        entries_are = ap (λ (es : List Entry). flat_map (under pages level) es ++ flat_map (under pages (suc level)) names) tells.entries_are
            ∙ ap (λ (es : List Entry). flat_map (under pages level) part ++ es) on.entries_are
            ∙ sym (flat_map-append (under pages level) part rest) ∙ ap (λ (es : List Entry). flat_map (under pages level) es) (sym is);
      }

  abbrev above_numbers : List Entry → List ℕ
  above_numbers names = flat_map (pages_under pages (suc level)) names

  -- the first name, and the others
  split : (n count : ℕ) (part : List Entry) → entries_of pages n ≡ part
      → above_numbers (names_of pages n (suc count)) ≡ n ∷ (numbers part ++ above_numbers (names_of pages (suc n) count))
  split n count part is = ap (λ (es : List Entry). n ∷ (numbers es ++ above_numbers (names_of pages (suc n) count))) is

  numbers_join : (part rest nodes : List Entry) → nodes ≡ part ++ rest → numbers nodes ≡ numbers part ++ numbers rest
  numbers_join part rest nodes is = ap numbers is ∙ flat_map-append (pages_under pages level) part rest

  all_up : (P : ℕ → Type 0) (n count to : ℕ) (nodes : List Entry) → n + count ≤ to → ((m : ℕ) → n ≤ m → m < to → P m) → Tell n count nodes → AllByRecursion P (numbers nodes)
      → AllByRecursion P (above_numbers (names_of pages n count))
  all_up P n zero to nodes le has h all = tt
  all_up P n (suc count) to nodes le has (part, rest, is, tells, more) all =
      let both : AllByRecursion P (numbers part ++ numbers rest) = subst (λ (ns : List ℕ). AllByRecursion P ns) (numbers_join part rest nodes is) all in
      subst (λ (ns : List ℕ). AllByRecursion P ns) (sym (split n count part tells)) (
        has n (omega arith) (omega arith),
        all_append P (numbers part) (above_numbers (names_of pages (suc n) count)) (all_left P (numbers part) (numbers rest) both)
            (all_up P (suc n) count to rest (omega arith) (λ m le less. has m (omega arith) less) more (all_right P (numbers part) (numbers rest) both)),
      )

  -- a number below n that isn't one of the pages below is none of those from n on
  outside_up : (x n count : ℕ) (nodes : List Entry) → Tell n count nodes → x < n → IsOutside x (numbers nodes) → IsOutside x (above_numbers (names_of pages n count))
  outside_up x n count nodes h less out = all_up (λ m. x ≢ m) n count (n + count) nodes (omega arith) (λ m low l e. omega arith) h out

  apart_up : (xs : List ℕ) (n count : ℕ) (nodes : List Entry) → Tell n count nodes → AllByRecursion (λ x. x < n) xs → StandApart xs (numbers nodes) → StandApart xs (above_numbers (names_of pages n count))
  apart_up xs n count nodes h less out =
      all_both (λ x. x < n) (λ x. IsOutside x (numbers nodes)) (λ x. IsOutside x (above_numbers (names_of pages n count))) (λ x l o. outside_up x n count nodes h l o) xs less out

  below : (n : ℕ) (xs : List ℕ) → AllByRecursion (λ x. x < n) xs → IsOutside n xs
  below n xs less = all_more (λ x. x < n) (λ x. n ≢ x) (λ x l e. omega arith) xs less

  further : (n : ℕ) (xs : List ℕ) → AllByRecursion (λ x. x < n) xs → AllByRecursion (λ x. x < suc n) xs
  further n xs less = all_more (λ x. x < n) (λ x. x < suc n) (λ x l. omega arith) xs less

  distinct_up : (n count : ℕ) (nodes : List Entry) → Tell n count nodes → AllByRecursion (λ x. x < n) (numbers nodes) → IsDistinct nat_eq (numbers nodes)
      → IsDistinct nat_eq (above_numbers (names_of pages n count))
  distinct_up n zero nodes h less apart = none_distinct
  distinct_up n (suc count) nodes (part, rest, is, tells, more) less apart =
      let join = numbers_join part rest nodes is in
      let all : IsDistinct nat_eq (numbers part ++ numbers rest) = subst (λ (ns : List ℕ). IsDistinct nat_eq ns) join apart in
      let less_all : AllByRecursion (λ x. x < n) (numbers part ++ numbers rest) = subst (λ (ns : List ℕ). AllByRecursion (λ x. x < n) ns) join less in
      let less_part = all_left (λ x. x < n) (numbers part) (numbers rest) less_all in
      let less_rest = all_right (λ x. x < n) (numbers part) (numbers rest) less_all in
      let names = above_numbers (names_of pages (suc n) count) in
      let on = distinct_up (suc n) count rest more (further n (numbers rest) less_rest) (distinct_right (numbers part) (numbers rest) all) in
      let out : IsOutside n names = outside_up n (suc n) count rest more (omega arith) (below n (numbers rest) less_rest) in
      let between = apart_up (numbers part) (suc n) count rest more (further n (numbers part) less_part) (distinct_apart (numbers part) (numbers rest) all) in
      subst (λ (ns : List ℕ). IsDistinct nat_eq ns) (sym (split n count part tells))
      (distinct_cons n (numbers part ++ names) (all_append (λ m. n ≢ m) (numbers part) names (below n (numbers part) less_part) out)
      (distinct_join (numbers part) names (distinct_left (numbers part) (numbers rest) all) on between))

  -- the level above one, whose pages are cut of it behind all of its pages
  pub level_up : (from middle to count : ℕ) (nodes entries : List Entry) → IsLevel last pages from middle level nodes entries → from ≤ middle → 1 ≤ middle → middle + count ≡ to → to ≤ 2 ^ 32
      → Cut pages (suc level) middle count nodes → IsLevel last pages from to (suc level) (names_of pages middle count) entries
  level_up from middle to count nodes entries is order some sum fits cut =
      let up = above middle count nodes some (omega arith) cut is.ascends is.each is.under_them in
      let less = all_more (λ n. (from ≤ n) × (n < middle)) (λ n. n < middle) (λ n h. h.1) (numbers nodes) is.within in
      let wide = all_more (λ n. (from ≤ n) × (n < middle)) (λ n. (from ≤ n) × (n < to)) (λ n h. (h.0, (let l = h.1 in omega arith))) (numbers nodes) is.within in
      record {
        begins = up.begins ∙ is.begins;
        ascends = up.ascends;
        each = up.each;
        under_them = up.under_them;
        entries_are = up.entries_are ∙ is.entries_are;
        apart = distinct_up middle count nodes up.tell less is.apart;
        within = all_up (λ n. (from ≤ n) × (n < to)) middle count to nodes (omega arith) (λ m le l. (omega arith, l)) up.tell wide;
      }

-- ---- a level stays where its pages do

pub level_kept : (last : ℕ) (old new : List (List ℕ)) (from to level : ℕ) (nodes entries : List Entry) → ((m : ℕ) → m < to → slice_get new m ≡ slice_get old m)
    → IsLevel last old from to level nodes entries → IsLevel last new from to level nodes entries
level_kept last old new from to level nodes entries kept is =
    let stay : PagesStay old new (flat_map (pages_under old level) nodes) =
    all_more (λ n. (from ≤ n) × (n < to)) (λ n. slice_get new n ≡ slice_get old n) (λ n h. kept n h.1) (flat_map (pages_under old level) nodes) is.within in
    let pages = kept_pages_list old new level nodes stay in
    record {
      begins = is.begins;
      ascends = is.ascends;
      each = is.each;
      under_them = each_same (λ n. slice_get new n ≡ slice_get old n) (pages_under old level) (IsUnder last old level) (IsUnder last new level) (kept_index last old new level) nodes None stay is.under_them;
      entries_are = kept_list old new level nodes stay ∙ is.entries_are;
      apart = subst (λ (ns : List ℕ). IsDistinct nat_eq ns) (sym pages) is.apart;
      within = subst (λ (ns : List ℕ). AllByRecursion (λ n. (from ≤ n) × (n < to)) ns) (sym pages) is.within;
    }

-- ---- the entries of regions as the level below the lowest

pub ascend_of : (entries : List Entry) → are_ascending (first_keys entries) ≡ true → AscendTo entries None
ascend_of [] up = tt
ascend_of (x ∷ []) up = (tt, tt)
ascend_of (x ∷ y ∷ entries) up = let parts = and_parts _ _ up in (before_of x.first y.first parts.0, ascend_of (y ∷ entries) parts.1)

begins_of : (entries : List Entry) → slice_get (first_keys entries) 0 ≡ Some origin → first_or entries None ≡ Some origin
begins_of entries h = search rules

each_none : (last : ℕ) (pages : List (List ℕ)) (entries : List Entry) → EachTo (IsUnder last pages zero) entries None
each_none last pages [] = tt
each_none last pages (x ∷ entries) = (tt, each_none last pages entries)

single : (pages : List (List ℕ)) (entries : List Entry) → flat_map (under pages zero) entries ≡ entries
single pages [] = refl
single pages (x ∷ entries) = ap (λ (rest : List Entry). x ∷ rest) (single pages entries)

pub regions_level : (last : ℕ) (pages : List (List ℕ)) (from to : ℕ) (entries : List Entry) → ArePlaces last entries → AllByRecursion (IsEntry last) entries
    → IsLevel last pages from to 0 entries entries
regions_level last pages from to entries h k = search (rules, ascend_of, begins_of, each_none, no_pages, none_distinct, single)

-- ---- the root

pub take_set : (i : ℕ) (xs : List Entry) (x : Entry) → i < length xs → take (suc i) (slice_set xs i x) ≡ take i xs ++ x ∷ []
take_set i [] x less = absurd (omega arith)
take_set zero (y ∷ xs) x less = refl
take_set (suc i) (y ∷ xs) x less = ap (λ (ys : List Entry). y ∷ ys) (take_set i xs x (omega arith))

pub length-set_entry : (xs : List Entry) (i : ℕ) (x : Entry) → length (slice_set xs i x) ≡ length xs
length-set_entry xs i x = search rules

-- the entry that names one page more
pub take_more_names : (pages : List (List ℕ)) (n i : ℕ) (entries : List Entry) (entry : Entry) → i < length entries → take i entries ≡ names_of pages n i → entry ≡ name_of pages (n + i)
    → take (i + 1) (slice_set entries i entry) ≡ names_of pages n (i + 1)
take_more_names pages n i entries entry less are is =
    let next : i + 1 ≡ suc i = omega arith in
    ap (λ (k : ℕ). take k (slice_set entries i entry)) next ∙ take_set i entries entry less ∙ ap (λ (es : List Entry). es ++ entry ∷ []) are ∙ ap (λ (e : Entry). names_of pages n i ++ e ∷ []) is
    ∙ sym (names_join pages n i 1 (n + i) (i + 1) refl refl)

-- one page more of a level
pub cut_added : (b c : List (List ℕ)) (level first : ℕ) (entries part : List Entry) → c ≡ b ++ index_page (record { level = level; entries = part }) ∷ [] → first ≤ length b
    → 1 ≤ length part → length part ≤ 170 → Cut b level first (length b - first) entries → Cut c level first (length c - first) (entries ++ part)
cut_added b c level first entries part is some more few cut =
    let page = index_page (record { level = level; entries = part }) in
    let long : length c ≡ length b + 1 = ap length is ∙ length-append b (page ∷ []) in
    let next : length c - first ≡ suc (length b - first) = omega arith in
    let stay : (m : ℕ) → m < length b → slice_get c m ≡ slice_get b m = λ m l. ap (λ (ps : List (List ℕ)). slice_get ps m) is ∙ get_front b (page ∷ []) m l in
    let at : slice_get c (length b) ≡ Some page = ap (λ (ps : List (List ℕ)). slice_get ps (length b)) is ∙ get_last b page in
    let done : Cut c level first (suc (length b - first)) (entries ++ part) =
    cut_more c level first (length b - first) (length b) entries part (omega arith) (cut_kept b c level first (length b - first) (length b) entries (omega arith) stay cut) more few at in
    subst (λ (k : ℕ). Cut c level first k (entries ++ part)) (sym next) done

-- the same, where the names of so many pages more stand on it
pub level_more : (a b c : List (List ℕ)) (level low first named count total : ℕ) → ((m : ℕ) → m < length a → slice_get b m ≡ slice_get a m)
    → c ≡ b ++ index_page (record { level = level; entries = names_of b (low + named) count }) ∷ [] → low + total ≤ length a → named + count ≤ total → 1 ≤ count → count ≤ 170
    → first ≤ length b → Cut b level first (length b - first) (names_of a low named) → Cut c level first (length c - first) (names_of a low (named + count))
level_more a b c level low first named count total kept is fits within some few less cut =
    let names = names_of b (low + named) count in
    let same : names ≡ names_of a (low + named) count = names_kept a b (low + named) count (length a) (omega arith) kept in
    let whole : names_of a low named ++ names ≡ names_of a low (named + count) =
    ap (λ (es : List Entry). names_of a low named ++ es) same ∙ sym (names_join a low named count (low + named) (named + count) refl refl) in
    let long = length-names b (low + named) count in
    subst (λ (es : List Entry). Cut c level first (length c - first) es) whole
    (cut_added b c level first (names_of a low named) names is less (omega arith) (omega arith) cut)

pub level_next : (last : ℕ) (a b : List (List ℕ)) (from level next first count : ℕ) (nodes entries : List Entry) → last < 2 ^ 128 → next ≡ level + 1 → next ≤ 16
    → ((m : ℕ) → m < length a → slice_get b m ≡ slice_get a m) → first ≡ length a → from ≤ first → 1 ≤ first → first + count ≡ length b → length b ≤ 2 ^ 32
    → IsLevel last a from (length a) level nodes entries → Cut b next first count nodes → IsLevel last b from (length b) next (names_of b first count) entries
level_next last a b from level next first count nodes entries small step high kept at order some sum fits is cut =
    let same : next ≡ suc level = omega arith in
    let stays : IsLevel last b from first level nodes entries = subst (λ (k : ℕ). IsLevel last b from k level nodes entries) (sym at) (level_kept last a b from (length a) level nodes entries kept is) in
    let cut_on : Cut b (suc level) first count nodes = subst (λ (k : ℕ). Cut b k first count nodes) same cut in
    subst (λ (k : ℕ). IsLevel last b from (length b) k (names_of b first count) entries) (sym same)
    (level_up last b level (omega arith) (omega arith) from first (length b) count nodes entries stays order some sum fits cut_on)

-- the level that has one page alone is the root's
pub root_at : (last : ℕ) (pages : List (List ℕ)) (from to level n count : ℕ) (entries : List Entry) → IsLevel last pages from to level (names_of pages n count) entries → 1 ≡ count
    → IsIndexOf last pages from to (record { page = n; level = level }) entries
root_at last pages from to level n count entries h k = search rules

-- the lowest level, of the entries of a directory
pub lowest_level : (last : ℕ) (pages : List (List ℕ)) (first count : ℕ) (entries : List Entry) → last < 2 ^ 128 → ArePlaces last entries → AllByRecursion (IsEntry last) entries → 1 ≤ first
    → first + count ≤ 2 ^ 32 → Cut pages 1 first count entries → IsLevel last pages first (first + count) 1 (names_of pages first count) entries
lowest_level last pages first count entries small places each some fits cut =
    level_up last pages 0 (omega arith) (omega arith) first first (first + count) count entries entries (regions_level last pages first first entries places each) (omega arith) some refl fits cut
