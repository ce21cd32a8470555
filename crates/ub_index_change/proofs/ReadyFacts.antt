-- A change that is prepared makes an index on all later pages on which what it spells stands.
use Rattle.std.proofs.Common.{◌≡◌, ◌≢◌, ◌≤◌, ◌<◌, ◌+◌, ◌^◌, ◌++◌, inl, inr, ℕ, zero, suc, nat_eq, List, [], ◌∷◌, Option, Some, None, Result, Ok, Err, IfErr, length, slice_get, ◌∙◌, sym, ap, subst, refl, arith}
use Rattle.ub_index_change.proofs.Common.{added_at, all_append, all_left, all_more, all_right, AllByRecursion, append-nil, Becomes, cases_lt, change_view}
use Rattle.ub_index_change.proofs.Common.{ChangeView, distinct_cons, distinct_first, distinct_rest, EachTo, EndsFull, entries_in, entries_of, Entry, entry_at}
use Rattle.ub_index_change.proofs.Common.{err_is, first_or, first_through, flat_map, Full, HasFullWay, index_view, IndexFault, IndexView, IsChangeFault}
use Rattle.ub_index_change.proofs.Common.{IsDistinct, IsEntry, IsErrAnd, IsFilled, IsFilledRoot, IsFine, IsHonest, IsIndexOn, IsIndexThen, IsNoNew, IsOutside}
use Rattle.ub_index_change.proofs.Common.{IsPrepared, IsReachedOnce, IsRegionAt, IsSettleFault, IsTold, IsTurnFault, IsUnder, IsWithinRegion, Keeps}
use Rattle.ub_index_change.proofs.Common.{KeepsFilled, Key, LeadsTo, MakesIndex, named_as, NeedsPages, not_before_self, origin, outside_less, Page, page_count}
use Rattle.ub_index_change.proofs.Common.{page_in, pager_with, PagerView, pages_of_index, pages_under, Prepares, PreparesAll, Region, region_found, Replaces}
use Rattle.ub_index_change.proofs.Common.{same_store, Settles, Sheet, sheet_of, slice_get_within, so_far, Spelled, Stand, StayBut, Stays, Store, StoreFacts}
use Rattle.ub_index_change.proofs.Common.{Told, told_index, top, TurnsRoot, Two, under, under_first, whole_below, with_added, within_store}
use Rattle.ub_index_change.proofs.Changes.{replaced, stays}
use Rattle.ub_index_change.proofs.FillFacts.{AreFilled, filled_becomes, filled_over}
use Rattle.ub_index_change.proofs.FullFacts.{all_end, ends_few, full_taken, settles_or}
use Rattle.ub_index_change.proofs.SheetNumbers.{no_new_left, once_join}
use Rattle.ub_index_change.proofs.SpreadFacts.{root_told}
use Rattle.ub_index_change.proofs.TurnFacts.{Risen, rises, unspelled_left}
use Rattle.ub_store.specs.declared.fault.StoreFault.TheVariants as store

-- where the root becomes two, each page on the way is full, and one is taken for each
settled_two : (index : IndexView) (old : StoreFacts) (key : Key) (added : Option Entry) (from to : Spelled) (told : Told) (left right : Entry) → told ≡ Two left right
    → TurnsRoot index old key added from to told → HasFullWay index old key × (to.next ≡ from.next + index.levels)
settled_two index old key added from to told left right is turns =
    full_taken index.last old.pages key added index.levels (top index.root) None from to left right (subst (λ (t : Told). TurnsRoot index old key added from to t) is turns)

-- why the root can't be left so is why the change is refused
pub settled_all : (T U : Type 0) (index : IndexView) (key : Key) (added : Option Entry) (from to : Spelled) (old new : PagerView) (told : Told) (r : Result U IndexFault)
    → to.next ≤ from.next + index.levels → to.next ≤ 4294967295 → (IsHonest old.store → TurnsRoot index old.store key added from to told)
    → new ≡ record old { store = old.store; cached = new.cached } → Keeps index.last old new → IfErr r (IsSettleFault index.root index.levels told to) → PreparesAll index key added from old new r
settled_all T U index key added from to old new told (Ok x) few room turns same kept h = record { same = same; checked = kept.0; more = kept.1; faults = tt }
settled_all T U index key added from to old new told (Err (Page n fault)) few room turns same kept h = absurd h
settled_all T U index key added from to old new told (Err Full) few room turns same kept h = record {
  same = same;
  checked = kept.0;
  more = kept.1;
  faults = (
    h.0,
    λ honest. let two = settled_two index old.store key added from to told h.1 h.2 h.3 (turns honest) in
        let next = two.1 in
        let all = h.0 in
        (two.0, omega arith),
  );
}
settled_all T U index key added from to old new told (Err (Store store.Memory)) few room turns same kept h = record { same = same; checked = kept.0; more = kept.1; faults = tt }
settled_all T U index key added from to old new told (Err (Store store.Device)) few room turns same kept h = absurd h
settled_all T U index key added from to old new told (Err (Store store.NoPage)) few room turns same kept h = absurd h
settled_all T U index key added from to old new told (Err (Store store.BadSize)) few room turns same kept h = record {
  same = same;
  checked = kept.0;
  more = kept.1;
  faults = (
    (let more = h.0 in omega arith),
    inr (λ honest. let two = settled_two index old.store key added from to told h.2 h.3 h.4 (turns honest) in
        let more = h.0 in
        let next = two.1 in
        (index.levels + 1, (index.levels, all_end index.last old.store.pages key index.levels (top index.root) None two.0, inr (refl, h.1, refl)), omega arith)),
  );
}

-- where those that are full are too many, so are the pages that the index needs
needs_more : (index : IndexView) (old : StoreFacts) (key : Key) (next : ℕ)
    → (full : ℕ) × EndsFull index.last old.pages key index.levels (top index.root) None full × (4294967295 < next + full)
    → (n : ℕ) × NeedsPages index old key n × (4294967295 < next + n)
needs_more index old key next (full, ends, more) = elim (cases_lt index.levels 16) [
  | inr high ↦ (full, (full, ends, inl ((λ e. high), refl)), more)
  | inl low ↦ elim (cases_lt full index.levels) [
    | inl less ↦ (full, (full, ends, inl ((λ e. absurd (omega (arith, e, less))), refl)), more)
    | inr all ↦
        let few = ends_few index.last old.pages key index.levels (top index.root) None full ends in
        (full + 1, (full, ends, inr (omega (arith, all, few), low, refl)), omega (arith, more))
  ]
]

-- and so is why it doesn't go down or up
turn_fault : (index : IndexView) (old : StoreFacts) (key : Key) (added : Option Entry) (from : Spelled) (e : IndexFault)
    → IsTurnFault index.last old key index.levels (top index.root) None from.next e → IsChangeFault index old key added from e
turn_fault index old key added from (Store store.Memory) h = tt
turn_fault index old key added from (Store store.Device) h = h
turn_fault index old key added from (Store store.NoPage) h = h
turn_fault index old key added from (Store store.BadSize) h = (
  (let more = h.0 in omega arith),
  inr (λ honest. needs_more index old key from.next (h.1 honest)),
)
turn_fault index old key added from (Page n fault) h = λ honest. inl (h honest)
turn_fault index old key added from Full h = absurd h

pub turn_refused : (T U : Type 0) (root levels last : ℕ) (index : IndexView) (key : Key) (added : Option Entry) (from : Spelled) (old new : PagerView) (r : Result T IndexFault) (e : IndexFault)
    → index_view root levels last ≡ index → IsErrAnd r (λ x. x ≡ e) → Prepares {A = U} last levels key (top root) None from.next old new (Err e) → PreparesAll index key added from old new r
turn_refused T U root levels last index key added from old new r e view is h =
    subst (λ (i : IndexView). PreparesAll i key added from old new r) view
    (subst (λ (x : Result T IndexFault). PreparesAll (index_view root levels last) key added from old new x) (sym (err_is r e is)) (record {
      same = h.same ∙ ap (λ (s : StoreFacts). pager_with s old.trace new.cached) (same_store T U e old.store);
      checked = h.checked;
      more = h.more;
      faults = turn_fault (index_view root levels last) old.store key added from e h.faults;
    }))

pub entry_is : (entry : Entry) (first : Key) (page : ℕ) → entry.first ≡ first → entry.page ≡ page → entry ≡ record { first = first; page = page }
entry_is entry first page h k = ap (λ (key : Key). record { first = key; page = entry.page }) h ∙ ap (λ (n : ℕ). record { first = first; page = n }) k

-- where the one entry of a page above is told, it names the same page
one_page : (last : ℕ) (old later : List (List ℕ)) (f : Entry) (fs : List Entry) (next : Option Key) (level : ℕ) (entry : Entry) (end : Option Key) (other : Entry) → 1 ≤ level
    → Becomes last old later f fs next level entry end (other ∷ []) → other.page ≡ entry.page
one_page last old later f fs next zero entry end other some h = absurd (omega arith)
one_page last old later f fs next (suc level) entry end other some (before, after, below, news, parts, becomes, kept_before, kept_after, stand) = elim stand [
  | inl none ↦ let no : other ∷ [] ≡ [] = none.1 in cc
  | inr more ↦ elim more [
    | inl one ↦ let same : other ≡ one.0 = (let e : other ∷ [] ≡ one.0 ∷ [] = one.1 in cc) in ap (λ (e : Entry). e.page) same ∙ one.2
    | inr two ↦ let no : other ∷ [] ≡ two.0 ∷ two.1 ∷ [] = two.3 in cc
  ]
]

pub leads_entry : (last : ℕ) (pages : List (List ℕ)) (key : Key) (level : ℕ) (entry : Entry) (end : Option Key) (found : Entry) (next : Option Key) → IsEntry last entry
    → LeadsTo last pages key level entry end found next → IsEntry last found
leads_entry last pages key zero entry end found next whole h = subst (λ (e : Entry). IsEntry last e) (sym h.0) whole
leads_entry last pages key (suc level) entry end found next whole (named, below, after, falls, leads) =
    leads_entry last pages key level below after found next (whole_below last pages key (suc level) entry end below after named falls) leads

-- a root's entry is in range, where its page is reached once and isn't the first
pub root_entry : (last : ℕ) (pages : List (List ℕ)) (root level : ℕ) → 1 ≤ level → length pages < 4294967296 → IsDistinct nat_eq (0 ∷ pages_under pages level (top root))
    → IsUnder last pages level (top root) None → IsEntry last (top root)
root_entry last pages root zero some few own is = absurd (omega arith)
root_entry last pages root (suc level) some few own is =
    let away : 0 ≢ root = (distinct_first 0 (root ∷ flat_map (pages_under pages level) (entries_of pages root)) own).0 in
    let near : root < length pages = slice_get_within pages root (page_in pages root) is.0.there in
    record { z = omega arith; number = omega arith; some_page = omega (arith, away); page = omega arith }

-- what stands of sheets among which there is one more, the number of which no page of the store has
stay_less : (old later : List (List ℕ)) (sheets : List Sheet) (more : Sheet) (numbers : List ℕ) → AllByRecursion (λ n. n < length old) numbers → length old ≤ more.number
    → StayBut old later (sheets ++ more ∷ []) numbers → StayBut old later sheets numbers
stay_less old later sheets more [] lt far h = tt
stay_less old later sheets more (n ∷ numbers) lt far h =
    let apart : n ≢ more.number = (let near = lt.0 in λ e. omega arith) in
    (λ free. h.0 (unspelled_left n sheets (more ∷ []) free (apart, tt)), stay_less old later sheets more numbers lt.1 far h.1)

-- a number that isn't new up to the one after this is not this one
no_root : (from middle n : ℕ) → from ≤ middle → IsNoNew from (middle + 1) n → n ≢ middle
no_root from middle n le (inl less) e = omega arith
no_root from middle n le (inr more) e = omega arith

-- an index stands on a page at least
pub some_page : (last : ℕ) (pages : List (List ℕ)) (level : ℕ) (entry : Entry) → 1 ≤ level → IsUnder last pages level entry None → 1 ≤ length pages
some_page last pages zero entry low is = absurd (omega arith)
some_page last pages (suc level) entry low is = let near = slice_get_within pages entry.page (page_in pages entry.page) is.0.there in omega arith

-- on these pages an index of these entries stands, with this root, and has no pages but those of the old one and the new ones
abbrev pub IsMade : IndexView → StoreFacts → ℕ → ℕ → List (List ℕ) → ℕ → ℕ → (List Entry → Type 0) → Type 0
IsMade index store from to later root levels Are =
    IsIndexThen index.last later root levels Are
    × ((n : ℕ) → IsNoNew from to n → IsOutside n (pages_of_index index store) → IsOutside n (pages_under later levels (top root)))

-- a change of which the entries that come begin where the whole list began
module _ (index : IndexView) (small : index.last < 2 ^ 128) (low : 1 ≤ index.levels) (high : index.levels ≤ 16) (store : StoreFacts) (key : Key) (added : Option Entry)
    (from middle : Spelled) (told : Told) (room : page_count store ≤ from.next) (start : from.sheets ≡ []) (is : IsIndexOn index store) (own : IsReachedOnce index store)
    (few : page_count store < 4294967296) (r : Risen index.last store.pages key added index.levels (top index.root) None from middle told) (fine : IsFine index.last added r.found r.next)
    (begins : (before after : List Entry) → entries_in index store ≡ before ++ (r.found ∷ after) → first_or (before ++ (named_as (with_added added r.found) r.found ++ after)) None ≡ Some origin) where
  -- what comes where the entry was, and what the whole list becomes
  abbrev comes : List Entry
  comes = named_as (with_added added r.found) r.found

  abbrev Are : List Entry → Type 0
  Are = Replaces r.found comes (entries_in index store)

  -- the next page's number is none of the index's
  next_outside : IsOutside middle.next (pages_of_index index store)
  next_outside =
      outside_less middle.next (pages_of_index index store)
      (all_more (λ n. n < length store.pages) (λ n. n < middle.next) (λ n less. let g = r.grown in omega arith) (pages_of_index index store)
      (within_store index.last store.pages index.levels (top index.root) None is.under_it))

  first_less : 0 < from.next
  first_less = let some = some_page index.last store.pages index.levels (top index.root) low is.under_it in omega arith

  sheets_are : middle.sheets ≡ r.sheets
  sheets_are = r.sheets_are ∙ ap (λ (xs : List Sheet). xs ++ r.sheets) start

  module _ (later : List (List ℕ)) (stand : Stand later r.sheets) (stay : StayBut store.pages later r.sheets (pages_of_index index store)) where
    becomes : Becomes index.last store.pages later r.found comes r.next index.levels (top index.root) None (named_as told (top index.root))
    becomes = r.becomes later stand stay

    whole : Are (flat_map (under later index.levels) (named_as told (top index.root)))
    whole = replaced index.last store.pages later r.found comes r.next index.levels (top index.root) None (named_as told (top index.root)) becomes

    stays_all : Stays index.last later index.levels (top index.root) None (named_as told (top index.root))
    stays_all = stays index.last store.pages later r.found comes r.next index.levels (top index.root) None (named_as told (top index.root)) fine.up fine.later tt is.under_it becomes

    -- the first entry that is told begins with the least key
    first_origin : (t : Entry) (ts : List Entry) → named_as told (top index.root) ≡ t ∷ ts → t.first ≡ origin
    first_origin t ts e =
        let each : EachTo (IsUnder index.last later index.levels) (t ∷ ts) None = subst (λ (xs : List Entry). EachTo (IsUnder index.last later index.levels) xs None) e stays_all.each in
        let here : first_or (flat_map (under later index.levels) (t ∷ ts)) None ≡ Some t.first =
        first_through (under later index.levels) (IsUnder index.last later index.levels) (under_first index.last later index.levels) (t ∷ ts) None t.first refl each in
        let list : flat_map (under later index.levels) (t ∷ ts) ≡ whole.before ++ (comes ++ whole.after) = ap (λ (xs : List Entry). flat_map (under later index.levels) xs) (sym e) ∙ whole.is in
        let there = begins whole.before whole.after whole.was in
        let both : Some t.first ≡ Some origin = sym here ∙ (ap (λ (xs : List Entry). first_or xs None) list ∙ there) in
        cc

    -- no page that is told is the store's first
    outside_first : IsOutside 0 (flat_map (pages_under later index.levels) (named_as told (top index.root)))
    outside_first = r.among later stand stay 0 (inl (let f = first_less in omega arith)) (distinct_first 0 (pages_of_index index store) own)

    pub pages_one : named_as told (top index.root) ≡ top index.root ∷ [] → flat_map (pages_under later index.levels) (named_as told (top index.root)) ≡ pages_under later index.levels (top index.root)
    pages_one list = ap (λ (xs : List Entry). flat_map (pages_under later index.levels) xs) list ∙ append-nil (pages_under later index.levels (top index.root))

    -- the entry that is told is the root's
    pub told_root : (other : Entry) → named_as told (top index.root) ≡ other ∷ [] → named_as told (top index.root) ≡ top index.root ∷ []
    told_root other e =
        let page : other.page ≡ index.root = one_page index.last store.pages later r.found comes r.next index.levels (top index.root) None other low
        (subst (λ (xs : List Entry). Becomes index.last store.pages later r.found comes r.next index.levels (top index.root) None xs) e becomes) in
        let root : other ≡ top index.root = entry_is other origin index.root (first_origin other [] e) page in
        e ∙ ap (λ (x : Entry). x ∷ []) root

    -- where one entry is told
    pub made_one : (other : Entry) → named_as told (top index.root) ≡ other ∷ []
        → IsMade index store from.next middle.next later index.root index.levels Are
    made_one other e =
        let list = told_root other e in
        let each : EachTo (IsUnder index.last later index.levels) (top index.root ∷ []) None = subst (λ (xs : List Entry). EachTo (IsUnder index.last later index.levels) xs None) list stays_all.each in (
          record {
            low = low;
            high = high;
            under_it = each.0;
            reached = distinct_cons 0 (pages_under later index.levels (top index.root)) (subst (λ (ns : List ℕ). IsOutside 0 ns) (pages_one list) outside_first)
                (subst (λ (ns : List ℕ). IsDistinct nat_eq ns) (pages_one list) (r.reached later stand stay));
            entries_are = subst (λ (xs : List Entry). Are xs)
                (ap (λ (xs : List Entry). flat_map (under later index.levels) xs) list ∙ append-nil (under later index.levels (top index.root))) whole;
          },
          λ n new out. subst (λ (ns : List ℕ). IsOutside n ns) (pages_one list) (r.among later stand stay n new out),
        )

    -- the index is filled that was so, where no fewer regions are named
    module _ (some : 1 ≤ length comes) (filled : IsFilled index store.pages) where
      filled_told : AreFilled later index.levels (named_as told (top index.root))
      filled_told =
          filled_becomes index.last store.pages later r.found comes r.next index.levels (top index.root) None (named_as told (top index.root)) some becomes filled

      filled_one : (other : Entry) → named_as told (top index.root) ≡ other ∷ [] → IsFilledRoot later index.levels (top index.root)
      filled_one other e = subst (λ (xs : List Entry). AreFilled later index.levels xs) (told_root other e) filled_told

  -- the change where the root stays
  abbrev kept_view : ChangeView
  kept_view = change_view (so_far r.sheets middle.next) (page_count store) index.root index.levels

  makes_one : (other : Entry) → named_as told (top index.root) ≡ other ∷ [] → MakesIndex index store from.next kept_view Are
  makes_one other e = record {
    start = refl;
    once = r.once;
    own = λ n foreign. r.outside n foreign.0 foreign.1;
    makes = λ later stand stay. (made_one later stand stay other e).0;
    no_other = λ later stand stay n foreign. (made_one later stand stay other e).1 n foreign.0 foreign.1;
  }

  -- and where a new one names two
  module _ (left right : Entry) (e : named_as told (top index.root) ≡ left ∷ right ∷ []) (less : index.levels < 16) where
    abbrev root_sheets : List Sheet
    root_sheets = sheet_of middle.next (index.levels + 1) (left ∷ right ∷ []) ∷ []

    abbrev two_view : ChangeView
    two_view = change_view (so_far (r.sheets ++ root_sheets) (middle.next + 1)) (page_count store) middle.next (index.levels + 1)

    module _ (later : List (List ℕ)) (stand : Stand later (r.sheets ++ root_sheets)) (stay : StayBut store.pages later (r.sheets ++ root_sheets) (pages_of_index index store)) where
      stand_left : Stand later r.sheets
      stand_left = all_left (λ (s : Sheet). slice_get later s.number ≡ Some s.page) r.sheets root_sheets stand

      stay_left : StayBut store.pages later r.sheets (pages_of_index index store)
      stay_left =
          stay_less store.pages later r.sheets (sheet_of middle.next (index.levels + 1) (left ∷ right ∷ [])) (pages_of_index index store)
          (within_store index.last store.pages index.levels (top index.root) None is.under_it) (let g = r.grown in omega arith) stay

      root_stands : Stand later root_sheets
      root_stands = all_right (λ (s : Sheet). slice_get later s.number ≡ Some s.page) r.sheets root_sheets stand

      stayed : Stays index.last later index.levels (top index.root) None (left ∷ right ∷ [])
      stayed = subst (λ (xs : List Entry). Stays index.last later index.levels (top index.root) None xs) e (stays_all later stand_left stay_left)

      -- the page of the new root names both
      new_root : IsTold index.last later (suc index.levels) (left ∷ right ∷ []) (top middle.next)
      new_root =
          root_told index.last small later middle.next index.levels left right less (subst (λ (xs : List Entry). AllByRecursion (IsEntry index.last) xs) e r.named) stayed.ascends
          (first_origin later stand_left stay_left left (right ∷ []) e) root_stands

      made_then : IsMade index store from.next (middle.next + 1) later middle.next (index.levels + 1) Are
      made_then =
          let one : index.levels + 1 ≡ suc index.levels = omega arith in
          let told_pages = flat_map (pages_under later index.levels) (named_as told (top index.root)) in
          let entries : named_as told (top index.root) ≡ entries_of later (top middle.next).page = e ∙ sym new_root.entries_are in
          let pages = ap (λ (xs : List Entry). middle.next ∷ flat_map (pages_under later index.levels) xs) entries in
          subst (λ (n : ℕ). IsMade index store from.next (middle.next + 1) later middle.next n Are) (sym one) (
            record {
              low = omega arith;
              high = omega arith;
              under_it = told_index index.last later index.levels (left ∷ right ∷ []) (top middle.next) None new_root stayed.ascends stayed.each;
              reached = subst (λ (ns : List ℕ). IsDistinct nat_eq (0 ∷ ns)) pages
                  (distinct_cons 0 (middle.next ∷ told_pages) ((λ z. let f = first_less in let g = r.grown in omega arith), outside_first later stand_left stay_left)
                  (distinct_cons middle.next told_pages (r.among later stand_left stay_left middle.next (inr (omega arith)) next_outside) (r.reached later stand_left stay_left)));
              entries_are = subst (λ (xs : List Entry). Are (flat_map (under later index.levels) xs)) entries (whole later stand_left stay_left);
            },
            λ n new out.
                subst (λ (ns : List ℕ). IsOutside n ns) pages
                (no_root from.next middle.next n r.grown new, r.among later stand_left stay_left n (no_new_left from.next middle.next (middle.next + 1) n (omega arith) new) out),
          )

      filled_then : 1 ≤ length comes → IsFilled index store.pages → IsFilledRoot later (index.levels + 1) (top middle.next)
      filled_then some filled =
          let one : index.levels + 1 ≡ suc index.levels = omega arith in
          subst (λ (n : ℕ). IsFilledRoot later n (top middle.next)) (sym one)
          (filled_over index.last later index.levels left right (top middle.next) new_root
          (subst (λ (xs : List Entry). AreFilled later index.levels xs) e (filled_told later stand_left stay_left some filled)))

    makes_two : MakesIndex index store from.next two_view Are
    makes_two = record {
      start = refl;
      once = once_join r.sheets root_sheets r.once (tt, tt) (r.outside middle.next (inr (omega arith)) next_outside, tt);
      own = λ n foreign.
          all_append (λ (s : Sheet). n ≢ s.number) r.sheets root_sheets
          (r.outside n (no_new_left from.next middle.next (middle.next + 1) n (omega arith) foreign.0) foreign.1) (no_root from.next middle.next n r.grown foreign.0, tt);
      makes = λ later stand stay. (made_then later stand stay).0;
      no_other = λ later stand stay n foreign. (made_then later stand stay).1 n foreign.0 foreign.1;
    }

    fills_two : 1 ≤ length comes → KeepsFilled index store two_view
    fills_two some later stand stay filled = filled_then later stand stay some filled

  pub ready : (change : ChangeView) → Settles index.root index.levels told (page_count store) middle change
      → MakesIndex index store from.next change Are × (1 ≤ length comes → KeepsFilled index store change)
  ready change settles = elim (settles_or index.root index.levels told (page_count store) middle change settles) [
    | inl one ↦
        subst (λ (c : ChangeView). MakesIndex index store from.next c Are × (1 ≤ length comes → KeepsFilled index store c))
        (sym (one.3 ∙ ap (λ (xs : List Sheet). change_view (so_far xs middle.next) (page_count store) index.root index.levels) sheets_are))
        (makes_one one.1 one.2, λ some later stand stay filled. filled_one later stand stay some filled one.1 one.2)
    | inr two ↦
        let e = ap (λ (t : Told). named_as t (top index.root)) two.2 in
        subst (λ (c : ChangeView). MakesIndex index store from.next c Are × (1 ≤ length comes → KeepsFilled index store c))
        (sym (two.5 ∙ ap (λ (xs : List Sheet). change_view (so_far (xs ++ root_sheets two.0 two.1 e two.3) (middle.next + 1)) (page_count store) middle.next (index.levels + 1)) sheets_are))
        (makes_two two.0 two.1 e two.3, fills_two two.0 two.1 e two.3)
  ]

-- a region that comes between two others is fine
pub added_fine : (index : IndexView) (store : StoreFacts) (region : Region) (first : Key) → IsEntry index.last (entry_at region) → 1 ≤ page_count store → page_count store < 4294967296
    → IsWithinRegion index.last region.first region.next first → IsFine index.last (Some (added_at first store)) (entry_at region) region.next
added_fine index store region first whole some few within = record {
  up = (within.from, (within.to, tt));
  later = not_before_self region.first;
  entries = (whole, (record { z = within.z; number = within.number; some_page = some; page = omega arith }, tt));
}

begin_same : (before : List Entry) (f x : Entry) (after : List Entry) (key : Key) → first_or (before ++ (f ∷ after)) None ≡ Some key
    → first_or (before ++ ((f ∷ x ∷ []) ++ after)) None ≡ Some key
begin_same [] f x after key h = h
begin_same (b ∷ before) f x after key h = h

-- a change is prepared for a region that comes with this first key
abbrev pub IsAddition : IndexView → StoreFacts → Region → Key → ChangeView → Type 0
IsAddition index store region first = IsPrepared index store region.first (Some (added_at first store)) (page_count store) (so_far [] (page_count store + 1))

-- it makes an index, and keeps it filled
pub added_both : (index : IndexView) (store : StoreFacts) (i : ℕ) (region : Region) (first : Key) (change : ChangeView) → index.last < 2 ^ 128 → index.levels ≤ 16 → page_count store < 4294967296
    → IsIndexOn index store → IsReachedOnce index store → IsRegionAt (entries_in index store) i region → IsWithinRegion index.last region.first region.next first
    → IsAddition index store region first change
    → MakesIndex index store (page_count store + 1) change (Replaces (entry_at region) (entry_at region ∷ added_at first store ∷ []) (entries_in index store)) × KeepsFilled index store change
added_both index store i region first change small high few is own at within (middle, told, turns, settles) =
    let added : Option Entry = Some (added_at first store) in
    let whole = root_entry index.last store.pages index.root index.levels is.some few own is.under_it in
    let some : 1 ≤ page_count store = some_page index.last store.pages index.levels (top index.root) is.some is.under_it in
    let fine_at : (found : Entry) (next : Option Key) → LeadsTo index.last store.pages region.first index.levels (top index.root) None found next → IsFine index.last (Some (added_at first store)) found next = λ found next leads.
    let same = region_found index store i region is at found next leads in
    let whole_region = subst (λ (e : Entry). IsEntry index.last e) same.0 (leads_entry index.last store.pages region.first index.levels (top index.root) None found next whole leads) in
    subst (λ (e : Entry). IsFine index.last (Some (added_at first store)) e next) (sym same.0)
    (subst (λ (o : Option Key). IsFine index.last (Some (added_at first store)) (entry_at region) o) (sym same.1) (added_fine index store region first whole_region some few within)) in
    let r = rises index.last small store.pages region.first (Some (added_at first store)) index.levels (top index.root) None (so_far [] (page_count store + 1)) middle told (omega arith) is.under_it whole
    (distinct_rest 0 (pages_of_index index store) own) fine_at turns in
    let found = region_found index store i region is at r.found r.next r.leads in
    let begins : (before after : List Entry) → entries_in index store ≡ before ++ (r.found ∷ after) → first_or (before ++ ((r.found ∷ added_at first store ∷ []) ++ after)) None ≡ Some origin = λ before after parts.
    begin_same before r.found (added_at first store) after origin
    (subst (λ (xs : List Entry). first_or xs None ≡ Some origin) parts (under_first index.last store.pages index.levels (top index.root) None is.under_it)) in
    let two : 1 ≤ length (r.found ∷ added_at first store ∷ []) = omega arith in
    let made = ready index small is.some high store region.first (Some (added_at first store)) (so_far [] (page_count store + 1)) middle told (omega arith) refl is own few r (fine_at r.found r.next r.leads) begins
    change settles in
    (subst (λ (e : Entry). MakesIndex index store (page_count store + 1) change (Replaces e (e ∷ added_at first store ∷ []) (entries_in index store))) found.0 made.0, made.1 two)
