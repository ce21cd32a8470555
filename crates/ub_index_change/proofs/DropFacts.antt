-- A region's entry that goes: what is left is an index, the root of which doesn't name one page alone.
use Rattle.std.proofs.Common.{◌≡◌, ◌≤◌, ◌<◌, ◌^◌, ◌++◌, ◌⊎◌, ◌==◌, inl, inr, ℕ, zero, suc, nat_eq, List, [], ◌∷◌, Option, Some, None, IfErr, Result, Ok, Err, length, slice_get, ◌∙◌, sym, ap, subst, refl, arith}
use Rattle.ub_index_change.proofs.Common.{all_more, AllByRecursion, append-nil, AreOnce, both_on, cases_Bool, cases_lt, change_view, ChangeView, differs}
use Rattle.ub_index_change.proofs.Common.{distinct_cons, distinct_first, distinct_rest, EachTo, entries_in, entries_of, entries_then, Entry, entry_at, eqb-true}
use Rattle.ub_index_change.proofs.Common.{first_or, flat_map, frame, Full, Gone, IndexFault, IndexView, IsAtMostOne, IsBefore, IsDistinct, IsDropFault, IsEntry}
use Rattle.ub_index_change.proofs.Common.{IsHonest, IsIndexOn, IsIndexThen, IsLowerFault, IsLowest, IsNoGrowth, IsNoNew, IsOutside, IsPrepared, IsReachedOnce}
use Rattle.ub_index_change.proofs.Common.{IsRegionAt, IsRootRefused, IsUnder, IsUnspelled, Keeps, Key, Lowers, LowersTo, MakesIndex, MakesLow, named_as}
use Rattle.ub_index_change.proofs.Common.{node_on, not_before_self, One, origin, outside_less, page_count, page_in, page_is, page_then, PageFault, PagerView}
use Rattle.ub_index_change.proofs.Common.{pages_of_index, pages_under, PreparesDrop, ReadsRoots, Region, region_found, Replaces, Same, same_page, Settles}
use Rattle.ub_index_change.proofs.Common.{Sheet, so_far, sole_page, Spelled, spelled_or, spelled_page, Spreads, Stand, StayBut, Store, StoreFacts, Told, top}
use Rattle.ub_index_change.proofs.Common.{Turns, Two, under, under_first, unless_first, within_store}
use Rattle.ub_index_change.proofs.FullFacts.{mended_few, mends_or, settles_or}
use Rattle.ub_index_change.proofs.ReadyFacts.{IsMade, entry_is, made_one, root_entry}
use Rattle.ub_index_change.proofs.RefusedFacts.{root_not_refused, unspelled_of, with_other, with_sheets, with_stand, with_stay}
use Rattle.ub_index_change.proofs.TurnFacts.{Risen, rises}
use Rattle.ub_store.specs.declared.fault.StoreFault.TheVariants as store

spread_narrow : (level : ℕ) (entry : Entry) (entries : List Entry) (from to : Spelled) (told : Told) → length entries ≤ 170 → Spreads level entry entries from to told
    → IsAtMostOne told × (to.next ≡ from.next)
spread_narrow level entry entries from to Same few h = (tt, ap (λ (s : Spelled). s.next) h.2)
spread_narrow level entry entries from to Gone few h = (tt, ap (λ (s : Spelled). s.next) h.1)
spread_narrow level entry entries from to (One other) few h = (tt, ap (λ (s : Spelled). s.next) h.3)
spread_narrow level entry entries from to (Two left right) few h = let full = h.0 in absurd (omega arith)

-- a region's entry that goes needs no page more
pub narrow : (last : ℕ) (old : List (List ℕ)) (key : Key) (level : ℕ) (entry : Entry) (end : Option Key) (from to : Spelled) (told : Told)
    → Turns last old key None level entry end from to told → IsAtMostOne told × (to.next ≡ from.next)
narrow last old key zero entry end from to told (told_is, same) = (subst (λ (t : Told). IsAtMostOne t) (sym told_is) tt, ap (λ (s : Spelled). s.next) same)
narrow last old key (suc level) entry end from to told (named, below, next, falls, middle, news, turns, mends) =
    let in_it = narrow last old key level below next from middle news turns in
    let few : length (falls.before ++ (below ∷ falls.after)) ≤ 170 = subst (λ (xs : List Entry). length xs ≤ 170) falls.parts named.fits.is.is.few in
    let up : IsAtMostOne told × (to.next ≡ middle.next) = elim (mends_or (suc level) entry falls.before below falls.after news middle to told mends) [
      | inl still ↦ (subst (λ (t : Told). IsAtMostOne t) (sym still.1) tt, ap (λ (s : Spelled). s.next) still.2)
      | inr spread ↦
          spread_narrow (suc level) entry (falls.before ++ (named_as news below ++ falls.after)) middle to told (mended_few falls.before below falls.after news in_it.0 few) spread
    ] in
    (up.0, up.1 ∙ in_it.1)

-- a page that is spelled stands; one that isn't spelled isn't among the sheets
pub spelled_then : (later : List (List ℕ)) (sheets : List Sheet) (n : ℕ) → Stand later sheets
    → ((p : List ℕ) × (spelled_page sheets n ≡ Some p) × (slice_get later n ≡ Some p)) ⊎ ((spelled_page sheets n ≡ None) × IsUnspelled n sheets)
spelled_then later [] n stand = inr (refl, tt)
spelled_then later (s ∷ sheets) n stand = elim (cases_Bool (s.number == n)) [
  | inl t ↦ inl (s.page, rw t refl, subst (λ (m : ℕ). slice_get later m ≡ Some s.page) (eqb-true s.number n t) stand.0)
  | inr f ↦ elim (spelled_then later sheets n stand.1) [
    | inl some ↦ inl (some.0, rw f some.1, some.2)
    | inr none ↦ inr (rw f none.0, ((λ e. differs s.number n f (sym e)), none.1))
  ]
]

-- a number is none of those, or what holds of all of them holds of it
in_or_out : (n : ℕ) (numbers : List ℕ) → IsOutside n numbers ⊎ ((P : ℕ → Type 0) → AllByRecursion P numbers → P n)
in_or_out n [] = inl tt
in_or_out n (m ∷ numbers) = elim (cases_Bool (n == m)) [
  | inl t ↦ inr (λ P all. subst P (sym (eqb-true n m t)) all.0)
  | inr f ↦ elim (in_or_out n numbers) [
    | inl out ↦ inl (differs n m f, out)
    | inr there ↦ inr (λ P all. there P all.1)
  ]
]

named_is : (n page : ℕ) → unless_first n ≡ Some page → n ≡ page
named_is zero page h = cc
named_is (suc n) page h = let e : Some (suc n) ≡ Some page = h in cc

named_some : (n : ℕ) → 1 ≤ n → unless_first n ≡ None → ⊥
named_some zero some h = omega (arith, some)
named_some (suc n) some h = cc

pub sole_is : (entries : List Entry) (page : ℕ) → sole_page entries ≡ Some page → (entry : Entry) × (entries ≡ entry ∷ []) × (entry.page ≡ page)
sole_is [] page h = cc
sole_is (entry ∷ []) page h = (entry, refl, named_is entry.page page h)
sole_is (a ∷ b ∷ entries) page h = cc

not_sole : (last : ℕ) (entries : List Entry) (first : Key) → AllByRecursion (IsEntry last) entries → first_or entries None ≡ Some first → sole_page entries ≡ None → 2 ≤ length entries
not_sole last [] first all begins h = cc
not_sole last (a ∷ []) first all begins h = absurd (named_some a.page all.0.some_page h)
not_sole last (a ∷ b ∷ entries) first all begins h = omega arith

module _ (last : ℕ) (old later : List (List ℕ)) (sheets : List Sheet) (own : List ℕ) (stand : Stand later sheets) (stay : StayBut old later sheets own) where
  then_is : (n : ℕ) → ¬ (IsOutside n own) → page_then sheets old n ≡ page_in later n
  then_is n there = elim (spelled_then later sheets n stand) [
    | inl some ↦ ap (λ (o : Option (List ℕ)). spelled_or o (page_in old n)) some.1 ∙ sym (page_is later n some.0 some.2)
    | inr none ↦ elim (in_or_out n own) [
      | inl out ↦ absurd (there out)
      | inr is_in ↦
          ap (λ (o : Option (List ℕ)). spelled_or o (page_in old n)) none.0
          ∙ sym (same_page old later n (is_in (λ m. IsUnspelled m sheets → slice_get later m ≡ slice_get old m) stay none.1))
    ]
  ]

  entries_same : (n : ℕ) → ¬ (IsOutside n own) → entries_then sheets old n ≡ entries_of later n
  entries_same n there = ap (λ (p : List ℕ). (node_on p).entries) (then_is n there)

  root_there : (level root : ℕ) → ((n : ℕ) → IsOutside n own → IsOutside n (pages_under later (suc level) (top root))) → ¬ (IsOutside root own)
  root_there level root among out = (among root out).0 refl

  module _ (Are : List Entry → Type 0) where
    -- the root to which one comes is that of an index with the same entries
    lower_made : (level root to at : ℕ) → 1 ≤ level → level ≤ 16 → IsUnder last later level (top root) None → IsDistinct nat_eq (0 ∷ pages_under later level (top root))
        → Are (under later level (top root)) → ((n : ℕ) → IsOutside n own → IsOutside n (pages_under later level (top root))) → Lowers sheets old root level to at
        → IsIndexThen last later to at Are × ((n : ℕ) → IsOutside n own → IsOutside n (pages_under later at (top to)))
    lower_made zero root to at some high is once are among lowers = absurd (omega arith)
    lower_made (suc below) root to at some high is once are among (inl (same, same_level)) =
        rw (same, same_level) (record { low = some; high = high; under_it = is; reached = once; entries_are = are }, among)
    lower_made (suc below) root to at some high is once are among (inr (page, sole, more, lowers)) =
        let here = entries_same root (root_there below root among) in
        let one = sole_is (entries_of later root) page (ap (λ (xs : List Entry). sole_page xs) (sym here) ∙ sole) in
        let begins : Some one.0.first ≡ Some origin = subst (λ (xs : List Entry). first_or xs None ≡ Some origin) one.1 is.0.fits.begins in
        let first : one.0.first ≡ origin = cc in
        let list : entries_of later root ≡ top page ∷ [] = one.1 ∙ ap (λ (e : Entry). e ∷ []) (entry_is one.0 origin page first one.2) in
        let each : EachTo (IsUnder last later below) (top page ∷ []) None = subst (λ (xs : List Entry). EachTo (IsUnder last later below) xs None) list is.1 in
        let under_same : under later (suc below) (top root) ≡ under later below (top page) = ap (λ (xs : List Entry). flat_map (under later below) xs) list ∙ append-nil (under later below (top page)) in
        let pages_same : flat_map (pages_under later below) (entries_of later root) ≡ pages_under later below (top page) =
        ap (λ (xs : List Entry). flat_map (pages_under later below) xs) list ∙ append-nil (pages_under later below (top page)) in
        let once_all : IsDistinct nat_eq (0 ∷ root ∷ pages_under later below (top page)) = subst (λ (ns : List ℕ). IsDistinct nat_eq (0 ∷ root ∷ ns)) pages_same once in
        let once_below = distinct_cons 0 (pages_under later below (top page)) (distinct_first 0 (root ∷ pages_under later below (top page)) once_all).1
        (distinct_rest root (pages_under later below (top page)) (distinct_rest 0 (root ∷ pages_under later below (top page)) once_all)) in
        lower_made below page to at more (omega arith) each.0 once_below (subst Are under_same are)
        (λ n out. subst (λ (ns : List ℕ). IsOutside n ns) pages_same (among n out).1) lowers

  -- and where it doesn't give way, it names two pages at least, or is of level 1
  lowest_then : (root level : ℕ) → 1 ≤ level → IsUnder last later level (top root) None → ((n : ℕ) → IsOutside n own → IsOutside n (pages_under later level (top root)))
      → IsLowest sheets old root level → (level ≡ 1) ⊎ (2 ≤ length (entries_of later root))
  lowest_then root zero some is among lowest = absurd (omega arith)
  lowest_then root (suc below) some is among (inl low) = inl (omega arith)
  lowest_then root (suc below) some is among (inr none) =
      inr (not_sole last (entries_of later root) origin is.0.fits.is.is.entries is.0.fits.begins (ap (λ (xs : List Entry). sole_page xs) (sym (entries_same root (root_there below root among))) ∙ none))

-- where an entry goes before which another one begins, the list begins as it did
begin_other : (before : List Entry) (f : Entry) (after : List Entry) → IsBefore origin f.first → first_or (before ++ (f ∷ after)) None ≡ Some origin
    → first_or (before ++ ([] ++ after)) None ≡ Some origin
begin_other [] f after later h = let same : f.first ≡ origin = cc in absurd (not_before_self origin (subst (λ (k : Key). IsBefore origin k) same later))
begin_other (b ∷ before) f after later h = h

module _ (index : IndexView) (store : StoreFacts) (i : ℕ) (region : Region) (small : index.last < 2 ^ 128) (high : index.levels ≤ 16) (few : page_count store < 4294967296)
    (is : IsIndexOn index store) (own : IsReachedOnce index store) (at : IsRegionAt (entries_in index store) i region) (later_one : IsBefore origin region.first)
    (first : ChangeView) (middle : Spelled) (told : Told)
    (turns : Turns index.last store.pages region.first None index.levels (top index.root) None (so_far [] (page_count store)) middle told)
    (settles : Settles index.root index.levels told (page_count store) middle first) where
  r : Risen index.last store.pages region.first None index.levels (top index.root) None (so_far [] (page_count store)) middle told
  r = rises index.last small store.pages region.first None index.levels (top index.root) None (so_far [] (page_count store)) middle told (omega arith) is.under_it
      (root_entry index.last store.pages index.root index.levels is.some few own is.under_it)
      (distinct_rest 0 (pages_of_index index store) own) (λ found next leads. record { up = tt; later = tt; entries = tt }) turns

  same_next : middle.next ≡ page_count store
  same_next = (narrow index.last store.pages region.first index.levels (top index.root) None (so_far [] (page_count store)) middle told turns).1

  none_new : (n : ℕ) → IsNoNew (page_count store) middle.next n
  none_new n = elim (cases_lt n (page_count store)) [
    | inl less ↦ inl less
    | inr more ↦ inr (let e = same_next in omega arith)
  ]

  found_is : r.found ≡ entry_at region
  found_is = (region_found index store i region is at r.found r.next r.leads).0

  begins : (before after : List Entry) → entries_in index store ≡ before ++ (r.found ∷ after) → first_or (before ++ ([] ++ after)) None ≡ Some origin
  begins before after parts =
      begin_other before r.found after (subst (λ (e : Entry). IsBefore origin e.first) (sym found_is) later_one)
      (subst (λ (xs : List Entry). first_or xs None ≡ Some origin) parts (under_first index.last store.pages index.levels (top index.root) None is.under_it))

  -- one entry is told, and the root stays at first
  one_told : ((other : Entry) × (named_as told (top index.root) ≡ other ∷ [])) × (first ≡ change_view middle (page_count store) index.root index.levels)
  one_told = elim (settles_or index.root index.levels told (page_count store) middle first settles) [
    | inl one ↦ ((one.1, one.2), one.3)
    | inr two ↦
        absurd (subst (λ (t : Told). IsAtMostOne t) two.2
        (narrow index.last store.pages region.first index.levels (top index.root) None (so_far [] (page_count store)) middle told turns).0)
  ]

  first_sheets : first.sheets ≡ r.sheets
  first_sheets = ap (λ (c : ChangeView). c.sheets) one_told.1 ∙ r.sheets_are

  on_index : (to at : ℕ) → Lowers first.sheets store.pages first.root first.levels to at → Lowers r.sheets store.pages index.root index.levels to at
  on_index to at h =
      subst (λ (xs : List Sheet). Lowers xs store.pages index.root index.levels to at) r.sheets_are
      (subst (λ (c : ChangeView). Lowers c.sheets store.pages c.root c.levels to at) one_told.1 h)

  module _ (later : List (List ℕ)) (stand : Stand later r.sheets) (stay : StayBut store.pages later r.sheets (pages_of_index index store)) where
    made_first : IsMade index store (page_count store) middle.next later index.root index.levels (Replaces r.found [] (entries_in index store))
    made_first =
        made_one index small is.some high store region.first None (so_far [] (page_count store)) middle told (omega arith) refl is own few r
        (record { up = tt; later = tt; entries = tt }) begins later stand stay one_told.0.0 one_told.0.1

    lowered_all : (to at : ℕ) → Lowers first.sheets store.pages first.root first.levels to at → IsIndexThen index.last later to at (Replaces r.found [] (entries_in index store))
        × ((n : ℕ) → IsOutside n (pages_of_index index store) → IsOutside n (pages_under later at (top to)))
    lowered_all to at h =
        lower_made index.last store.pages later r.sheets (pages_of_index index store) stand stay (Replaces r.found [] (entries_in index store)) index.levels index.root to at
        is.some high made_first.0.under_it made_first.0.reached made_first.0.entries_are (λ n out. made_first.1 n (none_new n) out) (on_index to at h)

  -- no root is refused to which it gives way, and which isn't spelled
  pub root_taken : (n : ℕ) (fault : Option PageFault) → ¬ (IsRootRefused index.last store.pages first n fault)
  root_taken n fault (level, lowers, unspelled, refused) =
      let far : (m : ℕ) → length store.pages ≤ m → IsUnspelled m r.sheets =
      λ m beyond. r.outside m (none_new m)
      (outside_less m (pages_of_index index store) (all_more (λ n. n < length store.pages) (λ n. n < m) (λ n near. omega arith) (pages_of_index index store)
      (within_store index.last store.pages index.levels (top index.root) None is.under_it))) in
      let made = lowered_all (with_sheets store.pages r.sheets) (with_stand store.pages r.sheets r.once far) (with_stay store.pages r.sheets (pages_of_index index store)) n level lowers in
      let free : IsUnspelled n r.sheets = subst (λ (xs : List Sheet). IsUnspelled n xs) first_sheets (unspelled_of first.sheets n unspelled) in
      root_not_refused index.last small store.pages (with_sheets store.pages r.sheets) n level fault made.0.low made.0.under_it (with_other store.pages r.sheets n free) refused

  module _ (change : ChangeView) (lowers : LowersTo store.pages first change) where
    sheets_are : change.sheets ≡ r.sheets
    sheets_are = ap (λ (c : ChangeView). c.sheets) lowers.same ∙ (ap (λ (c : ChangeView). c.sheets) one_told.1 ∙ r.sheets_are)

    module _ (later : List (List ℕ)) (all_stand : Stand later change.sheets) (all_stay : StayBut store.pages later change.sheets (pages_of_index index store)) where
      stand : Stand later r.sheets
      stand = subst (λ (xs : List Sheet). Stand later xs) sheets_are all_stand

      stay : StayBut store.pages later r.sheets (pages_of_index index store)
      stay = subst (λ (xs : List Sheet). StayBut store.pages later xs (pages_of_index index store)) sheets_are all_stay

      lowered_there : IsIndexThen index.last later change.root change.levels (Replaces r.found [] (entries_in index store))
          × ((n : ℕ) → IsOutside n (pages_of_index index store) → IsOutside n (pages_under later change.levels (top change.root)))
      lowered_there = lowered_all later stand stay change.root change.levels lowers.lowers

      low_then : (change.levels ≡ 1) ⊎ (2 ≤ length (entries_of later change.root))
      low_then =
          lowest_then index.last store.pages later r.sheets (pages_of_index index store) stand stay change.root change.levels lowered_there.0.low lowered_there.0.under_it lowered_there.1
          (subst (λ (xs : List Sheet). IsLowest xs store.pages change.root change.levels) first_sheets lowers.lowest)

    pub dropped_makes : MakesIndex index store (page_count store) change (Replaces (entry_at region) [] (entries_in index store))
    dropped_makes = record {
      start = ap (λ (c : ChangeView). c.start) lowers.same ∙ ap (λ (c : ChangeView). c.start) one_told.1;
      once = subst (λ (xs : List Sheet). AreOnce xs) (sym sheets_are) r.once;
      own = λ n foreign. subst (λ (xs : List Sheet). IsUnspelled n xs) (sym sheets_are) (r.outside n (none_new n) foreign.1);
      makes = λ later stand stay.
          subst (λ (e : Entry). IsIndexThen index.last later change.root change.levels (Replaces e [] (entries_in index store))) found_is (lowered_there later stand stay).0;
      no_other = λ later stand stay n foreign. (lowered_there later stand stay).1 n foreign.1;
    }

    pub dropped_low : (change.next ≡ change.start) × MakesLow index store change
    dropped_low = (
      ap (λ (c : ChangeView). c.next) lowers.same ∙ (ap (λ (c : ChangeView). c.next) one_told.1 ∙ (same_next
          ∙ (sym (ap (λ (c : ChangeView). c.start) one_told.1) ∙ sym (ap (λ (c : ChangeView). c.start) lowers.same)))),
      low_then,
    )

pub roots_taken : (index : IndexView) (store : StoreFacts) (i : ℕ) (region : Region) (change : ChangeView) (n : ℕ) (fault : Option PageFault) → index.last < 2 ^ 128 → index.levels ≤ 16
    → page_count store < 2 ^ 32 → IsIndexOn index store → IsReachedOnce index store → IsRegionAt (entries_in index store) i region → IsBefore origin region.first
    → IsPrepared index store region.first None (page_count store) (so_far [] (page_count store)) change → ¬ (IsRootRefused index.last store.pages change n fault)
roots_taken index store i region change n fault small high few is own at later (middle, told, turns, settles) =
    root_taken index store i region small high few is own at later change middle told turns settles n fault

-- a root doesn't give way for other reasons
drop_fault : (T : Type 0) (index : IndexView) (key : Key) (old : StoreFacts) (change : ChangeView) (r : Result T IndexFault)
    → (IsHonest old → IsPrepared index old key None (page_count old) (so_far [] (page_count old)) change) → IfErr r (IsLowerFault index.last old change) → IfErr r (IsDropFault index old key)
drop_fault T index key old change (Ok x) made h = tt
drop_fault T index key old change (Err e) made h = (no_growth e h, inr (change, made, h))
  where
    no_growth : (e : IndexFault) → IsLowerFault index.last old change e → IsNoGrowth e
    no_growth (Store store.BadSize) h = h
    no_growth Full h = h
    no_growth e h = tt

pub dropped_effect : (T : Type 0) (index : IndexView) (last : ℕ) (key : Key) (old mid new : PagerView) (change : ChangeView) (r : Result T IndexFault) → last ≡ index.last
    → mid.store ≡ old.store → mid.trace ≡ old.trace → Keeps index.last old mid → (IsHonest old.store → IsPrepared index old.store key None (page_count old.store) (so_far [] (page_count old.store)) change)
    → ReadsRoots last change mid new r → PreparesDrop index key old new r
dropped_effect T index last key old mid new change r lasts stores traces kept made h =
    let keeps = both_on index.last old mid new kept (subst (λ (n : ℕ). Keeps n mid new) lasts (h.checked, h.more)) in
    let faults = subst (λ (l : ℕ). IfErr r (IsLowerFault l old.store change)) lasts (subst (λ (s : StoreFacts). IfErr r (IsLowerFault last s change)) stores h.faults) in
    record { same = frame r old mid new stores traces h.same; checked = keeps.0; more = keeps.1; faults = drop_fault T index key old.store change r made faults }
