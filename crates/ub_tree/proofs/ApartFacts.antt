-- No two pages are one that an index and its regions stand on: pages of the index differ by their levels and first keys, those of
-- regions by their first keys, and the one from the other by their kinds.
use Rattle.std.proofs.Common.{rules, ◌≡◌, ◌≢◌, ◌≤◌, ◌<◌, ◌^◌, ◌++◌, ℕ, zero, suc, List, [], ◌∷◌, Option, Some, None, IfSome, nat_eq, map, slice_get, ap, refl, sym, ◌∙◌, arith, subst}
use Rattle.ub_tree.proofs.Common.{all_after, all_append, all_more, AllByRecursion, AreKeysAscending, ascend_first, AscendTo, before_trans, distinct_cons}
use Rattle.ub_tree.proofs.Common.{distinct_join, EachTo, entries_of, Entry, first_or, firsts_of, flat_map, IsBefore, IsDistinct, IsEntry, IsIndexPage}
use Rattle.ub_tree.proofs.Common.{IsOutside, IsRegion, IsUnder, Key, le_trans, node_on, node_parts, not_before_self, number_at, one_region, page_in, page_is}
use Rattle.ub_tree.proofs.Common.{pages_under, Placed, region_page, region_parts, regions_in, Schema, some_one, StandApart, up_tail}

-- a page of an index, of this level at most, that begins with a key from this first one on, and before the end
pub record IsFrom (last : ℕ) (pages : List (List ℕ)) (level : ℕ) (first : Key) (end : Option Key) (n : ℕ) : Type 0 where
  pub key : Key
  pub begins : first_or (entries_of pages n) None ≡ Some key
  pub from : ¬ (IsBefore key first)
  pub to : IfSome end (IsBefore key)
  pub low : (node_on (page_in pages n)).level ≤ level
  pub is : IsIndexPage last (page_in pages n)
  pub some : 1 ≤ n

module _ (last : ℕ) (pages : List (List ℕ)) where
  -- what is before the first of entries in order is before their end
  through : (xs : List Entry) (end : Option Key) (key : Key) → AscendTo xs end → IfSome (first_or xs end) (IsBefore key) → IfSome end (IsBefore key)
  through xs end key k j = search (rules, ascend_first, before_trans)

  -- the first of the entries behind one isn't before what that one isn't before
  later : (x : Entry) (xs : List Entry) (end : Option Key) (first : Key) → IfSome (first_or xs end) (IsBefore x.first) → ¬ (IsBefore x.first first)
      → IfSome (first_or xs None) (λ k. ¬ (IsBefore k first))
  later x [] end first up from = tt
  later x (y ∷ xs) end first up from = λ less. from (before_trans x.first y.first first up less)

  -- the pages that entries in order lead through
  list_from : (level : ℕ) (numbers : Entry → List ℕ) (xs : List Entry) (end : Option Key) (first : Key) → AscendTo xs end
      → EachTo (λ x o. AllByRecursion (IsFrom last pages level x.first o) (numbers x)) xs end → IfSome (first_or xs None) (λ k. ¬ (IsBefore k first))
      → AllByRecursion (IsFrom last pages level first end) (flat_map numbers xs)
  list_from level numbers [] end first up each from = tt
  list_from level numbers (x ∷ xs) end first up each from =
      all_append (IsFrom last pages level first end) (numbers x) (flat_map numbers xs)
      (all_more (IsFrom last pages level x.first (first_or xs end)) (IsFrom last pages level first end)
      (λ n h. record {
        key = h.key;
        begins = h.begins;
        from = le_trans first x.first h.key from h.from;
        to = through xs end h.key up.1 h.to;
        low = h.low;
        is = h.is;
        some = h.some;
      }) (numbers x) each.0)
      (list_from level numbers xs end first up.1 each.1 (later x xs end first up.0 from))

  -- of two lists of pages, the one before a key and the other from it on, no page is in both
  apart_at : (level : ℕ) (first key : Key) (end : Option Key) (ns ms : List ℕ) → AllByRecursion (IsFrom last pages level first (Some key)) ns
      → AllByRecursion (IsFrom last pages level key end) ms → StandApart ns ms
  apart_at level first key end ns ms k j = search (rules, all_more, some_one)

  apart_none : (ns : List ℕ) → StandApart ns []
  apart_none [] = tt
  apart_none (n ∷ ns) = (tt, apart_none ns)

  -- so entries in order lead through pages that differ, where each of them does
  list_differ : (level : ℕ) (numbers : Entry → List ℕ) (xs : List Entry) (end : Option Key) → AscendTo xs end
      → EachTo (λ x o. AllByRecursion (IsFrom last pages level x.first o) (numbers x)) xs end → EachTo (λ x o. IsDistinct nat_eq (numbers x)) xs end
      → IsDistinct nat_eq (flat_map numbers xs)
  unfolding IsDistinct
  list_differ level numbers [] end up each differ = tt
  list_differ level numbers (x ∷ []) end up each differ = distinct_join (numbers x) [] differ.0 tt (apart_none (numbers x))
  list_differ level numbers (x ∷ y ∷ xs) end up each differ =
      distinct_join (numbers x) (flat_map numbers (y ∷ xs)) differ.0 (list_differ level numbers (y ∷ xs) end up.1 each.1 differ.1)
      (apart_at level x.first y.first end (numbers x) (flat_map numbers (y ∷ xs)) each.0
      (list_from level numbers (y ∷ xs) end y.first up.1 each.1 (not_before_self y.first)))

  each_both : (P Q : Entry → Option Key → Type 0) (R : Entry → Type 0) → ((x : Entry) (o : Option Key) → IfSome o (IsBefore x.first) → R x → P x o → Q x o)
      → (xs : List Entry) (end : Option Key) → AscendTo xs end → AllByRecursion R xs → EachTo P xs end → EachTo Q xs end
  each_both P Q R f [] end up all each = tt
  each_both P Q R f (x ∷ xs) end up all each = (f x (first_or xs end) up.0 all.0 each.0, each_both P Q R f xs end up.1 all.1 each.1)

  begins_from : (xs : List Entry) (key : Key) → first_or xs None ≡ Some key → IfSome (first_or xs None) (λ k. ¬ (IsBefore k key))
  begins_from xs key is = subst (λ (o : Option Key). IfSome o (λ k. ¬ (IsBefore k key))) (sym is) (not_before_self key)

  -- the pages of the index that an entry leads through
  pub under_from : (level : ℕ) (entry : Entry) (end : Option Key) → IfSome end (IsBefore entry.first) → 1 ≤ entry.page → IsUnder last pages level entry end
      → AllByRecursion (IsFrom last pages level entry.first end) (pages_under pages level entry)
  under_from zero entry end before some h = tt
  under_from (suc level) entry end before some h = (
    record {
      key = entry.first;
      begins = h.0.fits.begins;
      from = not_before_self entry.first;
      to = before;
      low = (let is = h.0.fits.level_is in omega arith);
      is = h.0.fits.is;
      some = some;
    },
    all_more (IsFrom last pages level entry.first end) (IsFrom last pages (suc level) entry.first end)
        (λ n k. record { key = k.key; begins = k.begins; from = k.from; to = k.to; low = (let low = k.low in omega arith); is = k.is; some = k.some })
        (flat_map (pages_under pages level) (entries_of pages entry.page))
        (list_from level (pages_under pages level) (entries_of pages entry.page) end entry.first h.0.fits.ascends
        (each_both (IsUnder last pages level) (λ x o. AllByRecursion (IsFrom last pages level x.first o) (pages_under pages level x)) (IsEntry last)
        (λ x o up is k. under_from level x o up is.some_page k) (entries_of pages entry.page) end h.0.fits.ascends h.0.fits.is.is.entries h.1)
        (begins_from (entries_of pages entry.page) entry.first h.0.fits.begins)),
  )

  pub under_differ : (level : ℕ) (entry : Entry) (end : Option Key) → IsUnder last pages level entry end → IsDistinct nat_eq (pages_under pages level entry)
  unfolding IsDistinct
  under_differ zero entry end h = tt
  under_differ (suc level) entry end h =
      let each = each_both (IsUnder last pages level) (λ x o. AllByRecursion (IsFrom last pages level x.first o) (pages_under pages level x)) (IsEntry last)
      (λ x o up is k. under_from level x o up is.some_page k) (entries_of pages entry.page) end h.0.fits.ascends h.0.fits.is.is.entries h.1 in
      distinct_cons entry.page (flat_map (pages_under pages level) (entries_of pages entry.page))
      (all_more (IsFrom last pages level entry.first end) (λ n. entry.page ≢ n)
      (λ n k same. (let low = k.low in let is = h.0.fits.level_is in
      let here : (node_on (page_in pages n)).level ≡ suc level = ap (λ (m : ℕ). (node_on (page_in pages m)).level) (sym same) ∙ is in omega arith))
      (flat_map (pages_under pages level) (entries_of pages entry.page))
      (list_from level (pages_under pages level) (entries_of pages entry.page) end entry.first h.0.fits.ascends each (begins_from (entries_of pages entry.page) entry.first h.0.fits.begins)))
      (list_differ level (pages_under pages level) (entries_of pages entry.page) end h.0.fits.ascends each
      (each_both (IsUnder last pages level) (λ x o. IsDistinct nat_eq (pages_under pages level x)) (IsEntry last) (λ x o up is k. under_differ level x o k)
      (entries_of pages entry.page) end h.0.fits.ascends h.0.fits.is.is.entries h.1))

-- a region stands on its page
pub record IsOnPage (schema : Schema) (pages : List (List ℕ)) (p : Placed) : Type 0 where
  pub is : IsRegion schema p.region
  pub spelled : slice_get pages p.page ≡ Some (region_page schema p.region)
  pub some : 1 ≤ p.page

module _ (schema : Schema) (pages : List (List ℕ)) where
  others : (p : Placed) (ps : List Placed) → IsOnPage schema pages p → AllByRecursion (IsOnPage schema pages) ps → AllByRecursion (IsBefore p.region.first) (firsts_of (regions_in ps))
      → IsOutside p.page (map (λ q. q.page) ps)
  others p [] on all up = tt
  others p (q ∷ ps) on all up = search (rules, (others p ps on all.1 up.1), not_before_self, one_region)

  pub regions_differ : (ps : List Placed) → AreKeysAscending (firsts_of (regions_in ps)) → AllByRecursion (IsOnPage schema pages) ps → IsDistinct nat_eq (map (λ q. q.page) ps)
  unfolding IsDistinct
  regions_differ [] up all = tt
  regions_differ (p ∷ ps) up all = search (rules, (regions_differ ps (up_tail p.region.first (firsts_of (regions_in ps)) up) all.1), all_after, distinct_cons, others, up_tail)

  module _ (last : ℕ) (small : last < 2 ^ 128) (level : ℕ) (first : Key) (end : Option Key) where
    -- a page of the index is none of a region
    kinds : (n : ℕ) (ps : List Placed) → IsFrom last pages level first end n → AllByRecursion (IsOnPage schema pages) ps → IsOutside n (map (λ q. q.page) ps)
    kinds n [] h all = tt
    kinds n (p ∷ ps) h all = (
      (λ same.
          let index = (node_parts (node_on (page_in pages n)) (page_in pages n) last small h.is.is h.is.spelled).kind in
          let region = (region_parts schema p.region (region_page schema p.region) all.0.is refl).kind in
          let one : page_in pages n ≡ region_page schema p.region = page_is pages n (region_page schema p.region) (ap (slice_get pages) same ∙ all.0.spelled) in
          let both : number_at 1 0 (page_in pages n) ≡ 0x52 = ap (number_at 1 0) one ∙ region in
          omega arith),
      kinds n ps h all.1,
    )

    all_kinds : (ns : List ℕ) (ps : List Placed) → AllByRecursion (IsFrom last pages level first end) ns → AllByRecursion (IsOnPage schema pages) ps → StandApart ns (map (λ q. q.page) ps)
    all_kinds [] ps h all = tt
    all_kinds (n ∷ ns) ps h all = (kinds n ps h.0 all, all_kinds ns ps h.1 all)

    none_first : (ns : List ℕ) → AllByRecursion (IsFrom last pages level first end) ns → IsOutside 0 ns
    none_first ns h = all_more (IsFrom last pages level first end) (λ m. 0 ≢ m) (λ m k same. (let some = k.some in omega arith)) ns h

    none_placed : (ps : List Placed) → AllByRecursion (IsOnPage schema pages) ps → IsOutside 0 (map (λ q. q.page) ps)
    none_placed [] all = tt
    none_placed (p ∷ ps) all = ((λ same. let some = all.0.some in omega arith), none_placed ps all.1)

    -- the first page, those of the index and those of the regions are others
    pub all_differ : (ns : List ℕ) (ps : List Placed) → AllByRecursion (IsFrom last pages level first end) ns → IsDistinct nat_eq ns
        → AreKeysAscending (firsts_of (regions_in ps)) → AllByRecursion (IsOnPage schema pages) ps → IsDistinct nat_eq ((0 ∷ ns) ++ map (λ q. q.page) ps)
    all_differ ns ps h differ up all =
        distinct_join (0 ∷ ns) (map (λ q. q.page) ps) (distinct_cons 0 ns (none_first ns h) differ) (regions_differ ps up all) (none_placed ps all, all_kinds ns ps h all)
