-- What a change spells over any pages is pages of an index.
use Rattle.std.proofs.Common.{◌≡◌, ◌≤◌, ◌<◌, ◌^◌, ◌++◌, ◌+◌, inl, inr, ℕ, zero, suc, List, [], ◌∷◌, Option, Some, None, IfSome, take, drop, ◌∙◌, sym, ap, subst, refl, arith, take-append-drop}
use Rattle.ub_index_change.proofs.Common.{added_at, all_append, all_left, all_right, AllByRecursion, append-nil, AreIndexPages, ascend_later, ascend_left}
use Rattle.ub_index_change.proofs.Common.{ascend_right, AscendTo, BeginFrom, ChangeView, end_below, entries_of, Entry, entry_at, FallsTo, first_or, Gone}
use Rattle.ub_index_change.proofs.Common.{IndexView, IsBefore, IsEntry, IsFine, IsIndexPage, IsPrepared, IsWithinRegion, Key, Leads, LeadsTo, Mends, named_as}
use Rattle.ub_index_change.proofs.Common.{NamesFitting, NamesPage, node, node_is, node_on, not_before_self, One, one_way, page_count, page_in, Region, Same}
use Rattle.ub_index_change.proofs.Common.{Sheet, sheet_of, slice_get_within, so_far, Spelled, Spreads, StoreFacts, Told, top, Turns, Two, up_below, whole_below}
use Rattle.ub_index_change.proofs.Changes.{ascend_mended, begun_before, begun_joined, first_of, no_end}
use Rattle.ub_index_change.proofs.FullFacts.{mends_or, settles_or}
use Rattle.ub_index_change.proofs.ReadyFacts.{added_fine, leads_entry}
use Rattle.ub_index_change.proofs.SpreadFacts.{new_sheets, node_so, nodes_so, spread_named, spread_next, spread_sheets}

-- what is spelled of entries in order
spread_pages : (last : ℕ) → last < 2 ^ 128 → (level : ℕ) (entry : Entry) (entries : List Entry) (end : Option Key) (from to : Spelled) (told : Told) → suc level ≤ 16
    → Spreads (suc level) entry entries from to told → AllByRecursion (IsEntry last) entries → AscendTo entries end
    → AreIndexPages last (new_sheets (suc level) entry entries from.next told)
spread_pages last small level entry entries end from to Same high h all up =
    (node_is last small (node (suc level) entries) (node_so last level entries end entry.first high h.1 h.0 all up), tt)
spread_pages last small level entry entries end from to Gone high h all up = tt
spread_pages last small level entry entries end from to (One other) high h all up =
    (node_is last small (node (suc level) entries) (node_so last level entries end other.first high h.2.begins h.0 all up), tt)
spread_pages last small level entry entries end from to (Two left right) high h all up =
    let on = nodes_so last level entry entries end from to left right high h all up in
    (node_is last small (node (suc level) (drop 86 entries)) on.1, (node_is last small (node (suc level) (take 86 entries)) on.0, tt))

-- what is told of an entry is in order from its key on up to the end, and in range
pub record IsOrderly (last : ℕ) (entry : Entry) (end : Option Key) (told : Told) : Type 0 where
  pub up : AscendTo (named_as told entry) end
  pub later : BeginFrom entry.first (named_as told entry)
  pub all : AllByRecursion (IsEntry last) (named_as told entry)

pub first_named : (n : ℕ) (entries rest : List Entry) (entry : Entry) (end : Option Key) → NamesPage n entries entry → first_or (entries ++ rest) end ≡ Some entry.first
first_named n entries rest entry end h = begun_joined entries rest entry.first end h.begins

spread_orderly : (last level : ℕ) (entry : Entry) (entries : List Entry) (end : Option Key) (from to : Spelled) (told : Told) → Spreads level entry entries from to told → IsEntry last entry
    → 1 ≤ from.next → AllByRecursion (IsEntry last) entries → AscendTo entries end → BeginFrom entry.first entries → IfSome end (IsBefore entry.first) → IsOrderly last entry end told
spread_orderly last level entry entries end from to told h is low all up later before = record {
  up = by_up told h;
  later = by_later told h;
  all = spread_named last level entry entries from to told h is low all;
}
  where
    parts : entries ≡ take 86 entries ++ drop 86 entries
    parts = sym (take-append-drop 86 entries)

    up_parts : AscendTo (take 86 entries ++ drop 86 entries) end
    up_parts = subst (λ (xs : List Entry). AscendTo xs end) parts up

    by_up : (t : Told) → Spreads level entry entries from to t → AscendTo (named_as t entry) end
    by_up Same h = (before, tt)
    by_up Gone h = tt
    by_up (One other) h = (begun_before entries other.first end h.2.begins up, tt)
    by_up (Two left right) h =
        let middle : first_or (drop 86 entries) end ≡ Some right.first =
        ap (λ (xs : List Entry). first_or xs end) (sym (append-nil (drop 86 entries))) ∙ first_named from.next (drop 86 entries) [] right end h.3 in
        let up_left : AscendTo (take 86 entries) (Some right.first) =
        subst (λ (o : Option Key). AscendTo (take 86 entries) o) middle (ascend_left (take 86 entries) (drop 86 entries) end up_parts) in (
          begun_before (take 86 entries) left.first (Some right.first) h.2.begins up_left,
          (begun_before (drop 86 entries) right.first end h.3.begins (ascend_right (take 86 entries) (drop 86 entries) end up_parts), tt),
        )

    by_later : (t : Told) → Spreads level entry entries from to t → BeginFrom entry.first (named_as t entry)
    by_later Same h = not_before_self entry.first
    by_later Gone h = tt
    by_later (One other) h = subst (λ (o : Option Key). IfSome o (λ key. ¬ (IsBefore key entry.first))) h.2.begins later
    by_later (Two left right) h =
        subst (λ (o : Option Key). IfSome o (λ key. ¬ (IsBefore key entry.first))) (first_named entry.page (take 86 entries) (drop 86 entries) left None h.2)
        (subst (λ (xs : List Entry). BeginFrom entry.first xs) parts later)

-- what an entry's page tells once the entry below has become what is told in order, and what is spelled then
module _ (last : ℕ) (small : last < 2 ^ 128) (pages : List (List ℕ)) (key : Key) (level : ℕ) (entry : Entry) (end : Option Key) (from middle to : Spelled) (told : Told)
    (some : 1 ≤ from.next) (is : IsEntry last entry) (before : IfSome end (IsBefore entry.first)) (named : NamesFitting last pages (suc level) entry end)
    (below : Entry) (next : Option Key) (falls : FallsTo key (entries_of pages entry.page) end below next) where
  up_all : AscendTo (falls.before ++ (below ∷ falls.after)) end
  up_all = subst (λ (xs : List Entry). AscendTo xs end) falls.parts named.fits.ascends

  all_parts : AllByRecursion (IsEntry last) (falls.before ++ (below ∷ falls.after))
  all_parts = subst (λ (xs : List Entry). AllByRecursion (IsEntry last) xs) falls.parts named.fits.is.is.entries

  high : suc level ≤ 16
  high = let h = named.fits.is.is.high in let e : (node_on (page_in pages entry.page)).level ≡ suc level = named.fits.level_is in omega arith

  abbrev pub mended : Told → List Entry
  mended t = falls.before ++ (named_as t below ++ falls.after)

  pub mended_all : (t : Told) → IsOrderly last below next t → AllByRecursion (IsEntry last) (mended t)
  mended_all t o =
      all_append (IsEntry last) falls.before (named_as t below ++ falls.after) (all_left (IsEntry last) falls.before (below ∷ falls.after) all_parts)
      (all_append (IsEntry last) (named_as t below) falls.after o.all (all_right (IsEntry last) falls.before (below ∷ falls.after) all_parts).1)

  pub mended_up : (t : Told) → IsOrderly last below next t → AscendTo (mended t) end
  mended_up t o =
      ascend_mended falls.before below falls.after (named_as t below) end up_all o.later (subst (λ (n : Option Key). AscendTo (named_as t below) n) falls.next_is o.up)

  mended_later : (t : Told) → IsOrderly last below next t → BeginFrom entry.first (mended t)
  mended_later t o =
      first_of below falls.before (named_as t below) falls.after entry.first (subst (λ (xs : List Entry). first_or xs None ≡ Some entry.first) falls.parts named.fits.begins) o.later
      (ascend_later (below ∷ falls.after) end None (up_below last pages key (suc level) entry end below next named falls) (no_end end))

  module _ (good : AreIndexPages last middle.sheets) (grown : from.next ≤ middle.next) where
    spread : (t : Told) → IsOrderly last below next t → Spreads (suc level) entry (mended t) middle to told
        → IsOrderly last entry end told × AreIndexPages last to.sheets × (from.next ≤ to.next)
    spread t o h = (
      spread_orderly last (suc level) entry (mended t) end middle to told h is (omega arith) (mended_all t o) (mended_up t o) (mended_later t o) before,
      subst (λ (xs : List Sheet). AreIndexPages last xs) (sym (spread_sheets (suc level) entry (mended t) middle to told h))
          (all_append (λ (s : Sheet). IsIndexPage last s.page) middle.sheets (new_sheets (suc level) entry (mended t) middle.next told) good
          (spread_pages last small level entry (mended t) end middle to told high h (mended_all t o) (mended_up t o))),
      (let h' = spread_next (suc level) entry (mended t) middle to told h in omega arith),
    )

    pub turned_up : (news : Told) → IsOrderly last below next news → Mends (suc level) entry falls.before below falls.after news middle to told
        → IsOrderly last entry end told × AreIndexPages last to.sheets × (from.next ≤ to.next)
    turned_up news o m = elim (mends_or (suc level) entry falls.before below falls.after news middle to told m) [
      | inl still ↦ (
        subst (λ (t : Told). IsOrderly last entry end t) (sym still.1) (record { up = (before, tt); later = not_before_self entry.first; all = (is, tt) }),
        subst (λ (s : Spelled). AreIndexPages last s.sheets) (sym still.2) good,
        (let e = ap (λ (s : Spelled). s.next) still.2 in omega arith),
      )
      | inr spreads ↦ spread news o spreads
    ]

-- what a turn tells is in order, and what it spells is pages of an index
pub turned : (last : ℕ) → last < 2 ^ 128 → (pages : List (List ℕ)) (key : Key) (added : Option Entry) (level : ℕ) (entry : Entry) (end : Option Key) (from to : Spelled) (told : Told)
    → 1 ≤ from.next → IsEntry last entry → IfSome end (IsBefore entry.first)
    → ((found : Entry) (next : Option Key) → LeadsTo last pages key level entry end found next → IsFine last added found next) → AreIndexPages last from.sheets
    → Turns last pages key added level entry end from to told → IsOrderly last entry end told × AreIndexPages last to.sheets × (from.next ≤ to.next)
turned last small pages key added zero entry end from to told some is before fine good h =
    let f = fine entry end (refl, refl) in (
      subst (λ (t : Told). IsOrderly last entry end t) (sym h.0) (record { up = f.up; later = f.later; all = f.entries }),
      subst (λ (s : Spelled). AreIndexPages last s.sheets) (sym h.1) good,
      (let e = ap (λ (s : Spelled). s.next) h.1 in omega arith),
    )
turned last small pages key added (suc level) entry end from to told some is before fine good (named, below, next, falls, middle, news, turns, mends) =
    let r = turned last small pages key added level below next from middle news some
    (whole_below last pages key (suc level) entry end below next named falls) (end_below last pages key (suc level) entry end below next named falls)
    (λ found after leads. fine found after (named, below, next, falls, leads)) good turns in
    turned_up last small pages key level entry end from middle to told some is before named below next falls r.1 r.2 news r.0 mends

-- each page that a change of an index spells is one of an index
module _ (index : IndexView) (store : StoreFacts) (small : index.last < 2 ^ 128) (low : 1 ≤ index.levels) (some : 1 ≤ index.root) (few : page_count store < 4294967296)
    (key : Key) (added : Option Entry) where
  root_there : (level : ℕ) (from to : Spelled) (told : Told) → 1 ≤ level → Turns index.last store.pages key added level (top index.root) None from to told → index.root < page_count store
  root_there zero from to told l turns = absurd (omega arith)
  root_there (suc level) from to told l turns = slice_get_within store.pages index.root (page_in store.pages index.root) turns.0.there

  pub prepared_pages : (start next : ℕ) (change : ChangeView) → page_count store ≤ next
      → ((found : Entry) (after : Option Key) → index.root < page_count store
      → LeadsTo index.last store.pages key index.levels (top index.root) None found after → IsFine index.last added found after)
      → IsPrepared index store key added start (so_far [] next) change → AreIndexPages index.last change.sheets
  prepared_pages start next change begun fine (middle, told, turns, settles) = elim (settles_or index.root index.levels told start middle change settles) [
    | inl one ↦ subst (λ (c : ChangeView). AreIndexPages index.last c.sheets) (sym one.3) r.1
    | inr two ↦
        let o : IsOrderly index.last (top index.root) None (Two two.0 two.1) = subst (λ (t : Told). IsOrderly index.last (top index.root) None t) two.2 r.0 in
        let high = two.3 in
        subst (λ (c : ChangeView). AreIndexPages index.last c.sheets) (sym two.5)
        (all_append (λ (x : Sheet). IsIndexPage index.last x.page) middle.sheets (sheet_of middle.next (index.levels + 1) (two.0 ∷ two.1 ∷ []) ∷ []) r.1 (
          node_is index.last small (node (index.levels + 1) (two.0 ∷ two.1 ∷ []))
              (record { low = omega arith; high = omega arith; some = omega arith; few = omega arith; entries = o.all; ascending = (o.up.0, tt) }),
          tt,
        ))
  ]
    where
      there : index.root < page_count store
      there = root_there index.levels (so_far [] next) middle told low turns

      root_is : IsEntry index.last (top index.root)
      root_is = record { z = omega arith; number = omega arith; some_page = some; page = (let t = there in omega arith) }

      r : IsOrderly index.last (top index.root) None told × AreIndexPages index.last middle.sheets × (next ≤ middle.next)
      r = turned index.last small store.pages key added index.levels (top index.root) None (so_far [] next) middle told (let t = there in omega arith) root_is tt
          (λ found after leads. fine found after there leads) tt turns

-- what comes where the way ends is fine, if it is where it ends once
pub fine_found : (last : ℕ) (pages : List (List ℕ)) (key : Key) (added : Option Entry) (level : ℕ) (entry : Entry) (end : Option Key) (f : Entry) (nf : Option Key) → IsFine last added f nf
    → LeadsTo last pages key level entry end f nf → (found : Entry) (after : Option Key) → LeadsTo last pages key level entry end found after → IsFine last added found after
fine_found last pages key added level entry end f nf fine leads found after way =
    let same = one_way last pages key level entry end found after f nf way leads in
    subst (λ (e : Entry). IsFine last added e after) (sym same.0) (subst (λ (o : Option Key). IsFine last added f o) (sym same.1) fine)

-- where a region comes within that of a region
pub added_fine_at : (index : IndexView) (store : StoreFacts) (region : Region) (first : Key) → 1 ≤ index.root → page_count store < 4294967296 → Leads index store region.first region
    → IsWithinRegion index.last region.first region.next first → index.root < page_count store → IsFine index.last (Some (added_at first store)) (entry_at region) region.next
added_fine_at index store region first some few leads within there =
    let root_is : IsEntry index.last (top index.root) = record { z = omega arith; number = omega arith; some_page = some; page = omega arith } in
    added_fine index store region first (leads_entry index.last store.pages region.first index.levels (top index.root) None (entry_at region) region.next root_is leads) (omega arith) few within

pub added_pages : (index : IndexView) (store : StoreFacts) (region : Region) (first : Key) (change : ChangeView) → index.last < 2 ^ 128 → 1 ≤ index.levels → 1 ≤ index.root
    → page_count store < 4294967296 → Leads index store region.first region → IsWithinRegion index.last region.first region.next first
    → IsPrepared index store region.first (Some (added_at first store)) (page_count store) (so_far [] (page_count store + 1)) change → AreIndexPages index.last change.sheets
added_pages index store region first change small low some few leads within made =
    prepared_pages index store small low some few region.first (Some (added_at first store)) (page_count store) (page_count store + 1) change (omega arith)
    (λ found after there way.
    fine_found index.last store.pages region.first (Some (added_at first store)) index.levels (top index.root) None (entry_at region) region.next
    (added_fine_at index store region first some few leads within there) leads found after way) made

-- and where one goes
pub dropped_pages : (index : IndexView) (store : StoreFacts) (key : Key) (change : ChangeView) → index.last < 2 ^ 128 → 1 ≤ index.levels → 1 ≤ index.root
    → page_count store < 4294967296 → IsPrepared index store key None (page_count store) (so_far [] (page_count store)) change → AreIndexPages index.last change.sheets
dropped_pages index store key change small low some few made =
    prepared_pages index store small low some few key None (page_count store) (page_count store) change (omega arith)
    (λ found after there way. record { up = tt; later = tt; entries = tt }) made
