-- Ways down the index of a tree, over any pages: to which they lead, what becomes of them where a region's page is put anew, and
-- which pages a change of the index spells.
use Rattle.std.proofs.Common.{rules, ◌≡◌, ◌≢◌, ◌≤◌, ◌<◌, ◌+◌, ◌^◌, ◌∙◌, ◌⊎◌, inl, inr, ℕ, zero, suc, List, [], ◌∷◌, ◌++◌, Option, Some, length, take, drop, ap, sym, subst, refl, arith, slice_get, append_assoc}
use Rattle.ub_tree.proofs.Common.{all_append, all_left, all_more, all_right, AllByRecursion, append-nil, below_some, entries_of, Entry, falls_once, flat_map}
use Rattle.ub_tree.proofs.Common.{Gone, IsIndexPage, IsOutside, IsRegion, Key, LeadsTo, Mends, named_not_refused, NamesFitting, no_parts, node_not_refused}
use Rattle.ub_tree.proofs.Common.{node_on, One, page_in, PageFault, pages_under, region_page, region_parts, RegionRows, Same, Schema, Sheet, sheet_of}
use Rattle.ub_tree.proofs.Common.{slice_get_within, so_far, some_one, Spelled, Spreads, StopsAt, Told, Turns, Two, WrongKind}
use Rattle.ub_index.specs.Fitting.{FallsTo}

-- a way that leads to an entry doesn't stop
module _ (last : ℕ) (pages : List (List ℕ)) (key : Key) where
  pub led_not_stopped : last < 2 ^ 128 → (level : ℕ) (entry : Entry) (end : Option Key) (found : Entry) (next : Option Key) (n : ℕ) (fault : Option PageFault)
      → LeadsTo last pages key level entry end found next → ¬ (StopsAt last pages key level entry end n fault)
  led_not_stopped small zero entry end found next n fault leads stops = stops
  led_not_stopped small (suc level) entry end found next n fault (named, below, beyond, falls, leads) (inl here) =
      named_not_refused last small pages key (suc level) entry end fault named here.1
  led_not_stopped small (suc level) entry end found next n fault (named, below, beyond, falls, leads) (inr (named2, below2, beyond2, falls2, stops)) =
      let same = falls_once key (entries_of pages entry.page) end named.fits.ascends below2 beyond2 falls2 below beyond falls in
      let there : StopsAt last pages key level below beyond n fault =
      subst (λ (o : Option Key). StopsAt last pages key level below o n fault) same.1 (subst (λ (e : Entry). StopsAt last pages key level e beyond2 n fault) same.0 stops) in
      led_not_stopped small level below beyond found next n fault leads there

-- the page of a region is none of an index
pub region_no_index : (last : ℕ) → last < 2 ^ 128 → (schema : Schema) (region : RegionRows) → IsRegion schema region → ¬ (IsIndexPage last (region_page schema region))
region_no_index last small schema region is h =
    let page = region_page schema region in
    let kind = (region_parts schema region page is refl).kind in
    node_not_refused (node_on page) page last small h.is h.spelled WrongKind (λ other. let e = sym kind ∙ other in absurd (omega arith))

-- where another region comes, what an entry leads to doesn't go
pub never_gone : (last : ℕ) (pages : List (List ℕ)) (key : Key) (added : Entry) (level : ℕ) (entry : Entry) (end : Option Key) (old new : Spelled)
    → ¬ (Turns last pages key (Some added) level entry end old new Gone)
never_gone last pages key added zero entry end old new h = let bad = h.0 in cc
never_gone last pages key added (suc level) entry end old new (named, below, next, falls, middle, news, turns, mends) =
    by_news (never_gone last pages key added level below next old middle) news turns mends
  where
    by_news : (¬ (Turns last pages key (Some added) level below next old middle Gone)) → (news : Told) → Turns last pages key (Some added) level below next old middle news
        → Mends (suc level) entry falls.before below falls.after news middle new Gone → ⊥
    by_news lower Same turns m = let bad = m.0 in cc
    by_news lower Gone turns m = lower turns
    by_news lower (One other) turns m = no_parts falls.before other falls.after m.0
    by_news lower (Two left right) turns m = no_parts falls.before left (right ∷ falls.after) m.0

-- which numbers a change spells: pages of the index that the store has, each of them a page of an index, and new ones
pub record IsSpelledOf (last : ℕ) (pages : List (List ℕ)) (numbers : List ℕ) (from to : ℕ) (sheet : Sheet) : Type 0 where
  pub own : (n : ℕ) → n < length pages → IsOutside n numbers → n ≢ sheet.number
  pub some : 1 ≤ sheet.number
  pub there : (sheet.number < length pages) ⊎ ((from ≤ sheet.number) × (sheet.number < to))
  pub kind : (page : List ℕ) → slice_get pages sheet.number ≡ Some page → IsIndexPage last page

pub record Spells (last : ℕ) (pages : List (List ℕ)) (numbers : List ℕ) (old new : Spelled) : Type 0 where
  pub sheets : List Sheet
  pub sheets_are : new.sheets ≡ old.sheets ++ sheets
  pub grown : old.next ≤ new.next
  pub each : AllByRecursion (IsSpelledOf last pages numbers old.next new.next) sheets

-- the pages below one of some entries are among those below all of them
outside_one : (f : Entry → List ℕ) (n : ℕ) (before : List Entry) (x : Entry) (after : List Entry) → IsOutside n (flat_map f (before ++ (x ∷ after))) → IsOutside n (f x)
outside_one f n [] x after h = all_left (λ m. n ≢ m) (f x) (flat_map f after) h
outside_one f n (y ∷ before) x after h = outside_one f n before x after (all_right (λ m. n ≢ m) (f y) (flat_map f (before ++ (x ∷ after))) h)

-- one step up: what is spelled below, and what the page of an entry becomes
module _ (last : ℕ) (pages : List (List ℕ)) (key : Key) (level : ℕ) (entry : Entry) (end : Option Key) (old new middle : Spelled) (below : Entry) (next : Option Key)
    (named : NamesFitting last pages (suc level) entry end) (falls : FallsTo key (entries_of pages entry.page) end below next) (far : length pages ≤ old.next) (some : 1 ≤ entry.page)
    (lower : Spells last pages (pages_under pages level below) old middle) where
  abbrev numbers : List ℕ
  numbers = pages_under pages (suc level) entry

  near : entry.page < length pages
  near = slice_get_within pages entry.page (page_in pages entry.page) named.there

  outside_below : (n : ℕ) → IsOutside n numbers → IsOutside n (pages_under pages level below)
  outside_below n h = search (rules, outside_one)

  wider : (to : ℕ) → middle.next ≤ to → (s : Sheet) → IsSpelledOf last pages (pages_under pages level below) old.next middle.next s → IsSpelledOf last pages numbers old.next to s
  wider to up s h = record {
    own = λ n lt out. h.own n lt (outside_below n out);
    some = h.some;
    there = (elim h.there [
      | inl lt ↦ inl lt
      | inr new_one ↦ let up_to = new_one.1 in inr (new_one.0, omega arith)
    ]);
    kind = h.kind;
  }

  all_wider : (to : ℕ) → middle.next ≤ to → AllByRecursion (IsSpelledOf last pages numbers old.next to) lower.sheets
  all_wider to up =
      all_more (IsSpelledOf last pages (pages_under pages level below) old.next middle.next) (IsSpelledOf last pages numbers old.next to) (wider to up) lower.sheets lower.each

  here : (to : ℕ) (page : List ℕ) → IsSpelledOf last pages numbers old.next to (record { number = entry.page; page = page })
  here to page = search (rules, near, some_one)

  fresh : (to : ℕ) (page : List ℕ) → middle.next < to → IsSpelledOf last pages numbers old.next to (record { number = middle.next; page = page })
  fresh to page h = search (rules, near, slice_get_within)

  -- what was spelled below, and then these
  then_these : (more : List Sheet) → new.sheets ≡ middle.sheets ++ more → middle.next ≤ new.next → AllByRecursion (IsSpelledOf last pages numbers old.next new.next) more
      → Spells last pages numbers old new
  then_these more are up each =
      let grown = lower.grown in
      record {
        sheets = lower.sheets ++ more;
        sheets_are = are ∙ ap (λ (xs : List Sheet). xs ++ more) lower.sheets_are ∙ append_assoc old.sheets lower.sheets more;
        grown = omega arith;
        each = all_append (IsSpelledOf last pages numbers old.next new.next) lower.sheets more (all_wider new.next up) each;
      }

  unchanged : new ≡ middle → Spells last pages numbers old new
  unchanged same =
      let next_is = ap (λ (s : Spelled). s.next) same in
      then_these [] (ap (λ (s : Spelled). s.sheets) same ∙ sym (append-nil middle.sheets)) (omega arith) tt

  one_page : (entries : List Entry) → new ≡ so_far (middle.sheets ++ sheet_of entry.page (suc level) entries ∷ []) middle.next → Spells last pages numbers old new
  one_page entries is =
      let next_is : new.next ≡ middle.next = ap (λ (s : Spelled). s.next) is in
      then_these (sheet_of entry.page (suc level) entries ∷ []) (ap (λ (s : Spelled). s.sheets) is) (omega arith) (here new.next _, tt)

  by_told : (entries : List Entry) (told : Told) → Spreads (suc level) entry entries middle new told → Spells last pages numbers old new
  by_told entries Same m = one_page entries m.2
  by_told entries Gone m = unchanged m.1
  by_told entries (One other) m = one_page entries m.3
  by_told entries (Two left right) m =
      let is = m.4 in
      let next_is : new.next ≡ middle.next + 1 = ap (λ (s : Spelled). s.next) is in
      then_these (sheet_of middle.next (suc level) (drop 86 entries) ∷ sheet_of entry.page (suc level) (take 86 entries) ∷ []) (ap (λ (s : Spelled). s.sheets) is) (omega arith)
      (fresh new.next _ (omega arith), (here new.next _, tt))

  spells_up : (news told : Told) → Mends (suc level) entry falls.before below falls.after news middle new told → Spells last pages numbers old new
  spells_up news told h = search (rules, by_told, unchanged)

module _ (last : ℕ) (pages : List (List ℕ)) (key : Key) (added : Option Entry) where
  pub spells : (level : ℕ) (entry : Entry) (end : Option Key) (old new : Spelled) (told : Told) → length pages ≤ old.next → 1 ≤ entry.page → Turns last pages key added level entry end old new told
      → Spells last pages (pages_under pages level entry) old new
  spells zero entry end old new told far some h = record {
    sheets = [];
    sheets_are = ap (λ (s : Spelled). s.sheets) h.1 ∙ sym (append-nil old.sheets);
    grown = (let same = ap (λ (s : Spelled). s.next) h.1 in omega arith);
    each = tt;
  }
  spells (suc level) entry end old new told far some (named, below, next, falls, middle, news, turns, mends) =
      spells_up last pages key level entry end old new middle below next named falls far some
      (spells level below next old middle news far (below_some last pages key (suc level) entry end below next named falls) turns) news told mends
