-- Full pages on the way to a key: which pages a change takes.
use Rattle.std.proofs.Common.{◌≡◌, ◌≤◌, ◌<◌, ◌+◌, ◌++◌, ◌⊎◌, inl, inr, ℕ, zero, suc, List, [], ◌∷◌, Option, Some, None, length, ◌∙◌, sym, ap, subst, refl, arith}
use Rattle.ub_index_change.proofs.Common.{cases_lt, change_view, ChangeView, EndsFull, entries_of, Entry, falls_once, FallsTo, Gone, HasFullWay, IndexView}
use Rattle.ub_index_change.proofs.Common.{IsAtMostOne, IsFullWay, Key, length-append, Mends, named_as, NamesFitting, NeedsPages, One, page_count, Same, Settles}
use Rattle.ub_index_change.proofs.Common.{sheet_of, so_far, Spelled, Spreads, StoreFacts, TakesNeeded, Told, top, Turns, Two}
use Rattle.ub_index_change.proofs.SpreadFacts.{spread_next}

-- where one entry became one or none, there are no more than there were
pub mended_few : (before : List Entry) (below : Entry) (after : List Entry) (news : Told) → IsAtMostOne news → length (before ++ (below ∷ after)) ≤ 170
    → length (before ++ (named_as news below ++ after)) ≤ 170
mended_few before below after news narrow few =
    let old = length-append before (below ∷ after) in
    let new = length-append before (named_as news below ++ after) in
    let rest = length-append (named_as news below) after in
    let one = at_most news narrow in
    omega arith
  where
    at_most : (t : Told) → IsAtMostOne t → length (named_as t below) ≤ 1
    at_most (Two left right) n = absurd n
    at_most t n = omega arith

one_longer : (before : List Entry) (below left right : Entry) (after : List Entry) → length (before ++ (left ∷ right ∷ after)) ≡ suc (length (before ++ (below ∷ after)))
one_longer before below left right after = omega (arith, length-append before (left ∷ right ∷ after), length-append before (below ∷ after))

-- an entry becomes two only where each page on the way is full, and it takes as many pages as there are levels
pub full_taken : (last : ℕ) (old : List (List ℕ)) (key : Key) (added : Option Entry) (level : ℕ) (entry : Entry) (end : Option Key) (from to : Spelled) (left right : Entry)
    → Turns last old key added level entry end from to (Two left right) → IsFullWay last old key level entry end × (to.next ≡ from.next + level)
full_taken last old key added zero entry end from to left right h = (tt, (let e = ap (λ (s : Spelled). s.next) h.1 in omega arith))
full_taken last old key added (suc level) entry end from to left right (named, below, next, falls, middle, news, turns, mends) =
    by_news news (λ l r turn. full_taken last old key added level below next from middle l r turn) turns mends
  where
    few : length (falls.before ++ (below ∷ falls.after)) ≤ 170
    few = subst (λ (xs : List Entry). length xs ≤ 170) falls.parts named.fits.is.is.few

    not_narrow : (t : Told) → IsAtMostOne t → length (falls.before ++ (named_as t below ++ falls.after)) ≡ 171 → ⊥
    not_narrow t n full = let less = mended_few falls.before below falls.after t n few in omega arith

    by_news : (t : Told) → ((l r : Entry) → Turns last old key added level below next from middle (Two l r) → IsFullWay last old key level below next × (middle.next ≡ from.next + level))
        → Turns last old key added level below next from middle t → Mends (suc level) entry falls.before below falls.after t middle to (Two left right)
        → IsFullWay last old key (suc level) entry end × (to.next ≡ from.next + suc level)
    by_news Same below_it turn m = let no : Two left right ≡ Same = m.0 in cc
    by_news Gone below_it turn m = absurd (not_narrow Gone tt m.0)
    by_news (One other) below_it turn m = absurd (not_narrow (One other) tt m.0)
    by_news (Two l r) below_it turn m =
        let full : length (falls.before ++ (l ∷ r ∷ falls.after)) ≡ 171 = m.0 in
        let more = one_longer falls.before below l r falls.after in
        let long : length (falls.before ++ (below ∷ falls.after)) ≡ 170 = omega arith in
        let in_it = below_it l r turn in
        let count = in_it.1 in
        let e = ap (λ (s : Spelled). s.next) m.4 in
        ((named, subst (λ (xs : List Entry). length xs ≡ 170) (sym falls.parts) long, below, next, falls, in_it.0), omega arith)

-- where each page on the way is full, what gets another one behind it becomes two
pub full_parts : (last : ℕ) (old : List (List ℕ)) (key : Key) (added : Entry) (level : ℕ) (entry : Entry) (end : Option Key) (from to : Spelled) (told : Told)
    → IsFullWay last old key level entry end → Turns last old key (Some added) level entry end from to told → (left : Entry) × (right : Entry) × (told ≡ Two left right)
full_parts last old key added zero entry end from to told full h = (entry, added, h.0)
full_parts last old key added (suc level) entry end from to told (named1, count, x1, n1, falls1, way) (named, below, next, falls, middle, news, turns, mends) =
    let same = falls_once key (entries_of old entry.page) end named.fits.ascends x1 n1 falls1 below next falls in
    let way_below : IsFullWay last old key level below next =
    subst (λ (e : Entry). IsFullWay last old key level e next) same.0 (subst (λ (o : Option Key). IsFullWay last old key level x1 o) same.1 way) in
    let two = full_parts last old key added level below next from middle news way_below turns in
    let parted : Spreads (suc level) entry (falls.before ++ (two.0 ∷ two.1 ∷ falls.after)) middle to told =
    subst (λ (t : Told). Mends (suc level) entry falls.before below falls.after t middle to told) two.2 mends in
    let long : length (falls.before ++ (below ∷ falls.after)) ≡ 170 = subst (λ (xs : List Entry). length xs ≡ 170) falls.parts count in
    by_told told (falls.before ++ (two.0 ∷ two.1 ∷ falls.after)) (let more = one_longer falls.before below two.0 two.1 falls.after in omega arith) parted
  where
    by_told : (t : Told) (entries : List Entry) → length entries ≡ 171 → Spreads (suc level) entry entries middle to t → (left : Entry) × (right : Entry) × (t ≡ Two left right)
    by_told Same entries long h = let few = h.0 in absurd (omega arith)
    by_told Gone entries long h = let none = ap (λ (xs : List Entry). length xs) h.0 in absurd (omega arith)
    by_told (One other) entries long h = let few = h.0 in absurd (omega arith)
    by_told (Two left right) entries long h = (left, right, refl)

-- an entry's page is as it was where the entry below is, or its entries are spelled
pub mends_or : (level : ℕ) (entry : Entry) (before : List Entry) (below : Entry) (after : List Entry) (news : Told) (from to : Spelled) (told : Told)
    → Mends level entry before below after news from to told → ((news ≡ Same) × (told ≡ Same) × (to ≡ from)) ⊎ Spreads level entry (before ++ (named_as news below ++ after)) from to told
mends_or level entry before below after Same from to told h = inl (refl, h.0, h.1)
mends_or level entry before below after news from to told h = inr h

-- no page is given back
pub mends_next : (level : ℕ) (entry : Entry) (before : List Entry) (below : Entry) (after : List Entry) (news : Told) (from to : Spelled) (told : Told)
    → Mends level entry before below after news from to told → from.next ≤ to.next
mends_next level entry before below after news from to told h = elim (mends_or level entry before below after news from to told h) [
  | inl still ↦ let e = ap (λ (s : Spelled). s.next) still.2 in omega arith
  | inr spread ↦ spread_next level entry (before ++ (named_as news below ++ after)) from to told spread
]

-- where an entry doesn't become two, no page is taken at its page; and there is room for one that is
pub spread_takes : (level : ℕ) (entry : Entry) (entries : List Entry) (from to : Spelled) (told : Told) → Spreads level entry entries from to told
    → (IsAtMostOne told → to.next ≡ from.next) × (from.next ≤ 4294967295 → to.next ≤ 4294967295)
spread_takes level entry entries from to Same h = let e = ap (λ (s : Spelled). s.next) h.2 in ((λ n. e), λ few. omega arith)
spread_takes level entry entries from to Gone h = let e = ap (λ (s : Spelled). s.next) h.1 in ((λ n. e), λ few. omega arith)
spread_takes level entry entries from to (One other) h = let e = ap (λ (s : Spelled). s.next) h.3 in ((λ n. e), λ few. omega arith)
spread_takes level entry entries from to (Two left right) h = let e = ap (λ (s : Spelled). s.next) h.4 in let less = h.1 in ((λ n. absurd n), λ few. omega arith)

pub mends_takes : (level : ℕ) (entry : Entry) (before : List Entry) (below : Entry) (after : List Entry) (news : Told) (from to : Spelled) (told : Told)
    → Mends level entry before below after news from to told → (IsAtMostOne told → to.next ≡ from.next) × (from.next ≤ 4294967295 → to.next ≤ 4294967295)
mends_takes level entry before below after news from to told h = elim (mends_or level entry before below after news from to told h) [
  | inl still ↦ let e = ap (λ (s : Spelled). s.next) still.2 in ((λ n. e), λ few. omega arith)
  | inr spread ↦ spread_takes level entry (before ++ (named_as news below ++ after)) from to told spread
]

-- there is room for all that is taken
turns_room : (last : ℕ) (old : List (List ℕ)) (key : Key) (added : Option Entry) (level : ℕ) (entry : Entry) (end : Option Key) (from to : Spelled) (told : Told)
    → from.next ≤ 4294967295 → Turns last old key added level entry end from to told → to.next ≤ 4294967295
turns_room last old key added zero entry end from to told few h = let e = ap (λ (s : Spelled). s.next) h.1 in omega arith
turns_room last old key added (suc level) entry end from to told few (named, below, next, falls, middle, news, turns, mends) =
    (mends_takes (suc level) entry falls.before below falls.after news middle to told mends).1 (turns_room last old key added level below next from middle news few turns)

-- no more are full than there are levels
pub ends_few : (last : ℕ) (old : List (List ℕ)) (key : Key) (level : ℕ) (entry : Entry) (end : Option Key) (full : ℕ) → EndsFull last old key level entry end full → full ≤ level
ends_few last old key zero entry end full h = omega arith
ends_few last old key (suc level) entry end full (inl all) = let e = all.0 in omega arith
ends_few last old key (suc level) entry end full (inr (named, room, below, next, falls, ends)) = let few = ends_few last old key level below next full ends in omega arith

-- where as many are full as there are levels, all are
pub ends_all : (last : ℕ) (old : List (List ℕ)) (key : Key) (level : ℕ) (entry : Entry) (end : Option Key) (full : ℕ) → full ≡ level → EndsFull last old key level entry end full
    → IsFullWay last old key level entry end
ends_all last old key zero entry end full e h = tt
ends_all last old key (suc level) entry end full e (inl all) = all.1
ends_all last old key (suc level) entry end full e (inr (named, room, below, next, falls, ends)) = let few = ends_few last old key level below next full ends in absurd (omega arith)

-- one page at least is taken for each of the lowest that are full
pub takes_all : (last : ℕ) (old : List (List ℕ)) (key : Key) (added : Entry) (level : ℕ) (entry : Entry) (end : Option Key) (from to : Spelled) (told : Told) (full : ℕ)
    → EndsFull last old key level entry end full → Turns last old key (Some added) level entry end from to told → from.next + full ≤ to.next
takes_all last old key added zero entry end from to told full ends h = let e = ap (λ (s : Spelled). s.next) h.1 in omega arith
takes_all last old key added (suc level) entry end from to told full (inl all) h =
    let two = full_parts last old key added (suc level) entry end from to told all.1 h in
    let next = (full_taken last old key (Some added) (suc level) entry end from to two.0 two.1 (subst (λ (t : Told). Turns last old key (Some added) (suc level) entry end from to t) two.2 h)).1 in
    let count = all.0 in
    omega arith
takes_all last old key added (suc level) entry end from to told full (inr (named1, room, x1, n1, falls1, ends)) (named, below, next, falls, middle, news, turns, mends) =
    let same = falls_once key (entries_of old entry.page) end named.fits.ascends x1 n1 falls1 below next falls in
    let ends_below : EndsFull last old key level below next full =
    subst (λ (e : Entry). EndsFull last old key level e next full) same.0 (subst (λ (o : Option Key). EndsFull last old key level x1 o full) same.1 ends) in
    let in_it = takes_all last old key added level below next from middle news full ends_below turns in
    let at_it = mends_next (suc level) entry falls.before below falls.after news middle to told mends in
    omega arith

-- where an entry that gets another one behind it doesn't become two, and each page below is full, this one has room
room_here : (last : ℕ) (old : List (List ℕ)) (key : Key) (added : Entry) (level : ℕ) (entry : Entry) (end : Option Key) (from to : Spelled) (told : Told) (below : Entry) (next : Option Key)
    → NamesFitting last old (suc level) entry end → FallsTo key (entries_of old entry.page) end below next → IsFullWay last old key level below next
    → IsAtMostOne told → Turns last old key (Some added) (suc level) entry end from to told → length (entries_of old entry.page) < 170
room_here last old key added level entry end from to told below next named falls way narrow turns = elim (cases_lt (length (entries_of old entry.page)) 170) [
  | inl less ↦ less
  | inr long ↦
      let few : length (entries_of old entry.page) ≤ 170 = named.fits.is.is.few in
      let two = full_parts last old key added (suc level) entry end from to told (named, omega (arith, few, long), below, next, falls, way) turns in
      absurd (subst (λ (t : Told). IsAtMostOne t) two.2 narrow)
]

-- and no others
pub takes_only : (last : ℕ) (old : List (List ℕ)) (key : Key) (added : Entry) (level : ℕ) (entry : Entry) (end : Option Key) (from to : Spelled) (told : Told)
    → Turns last old key (Some added) level entry end from to told → (full : ℕ) × EndsFull last old key level entry end full × (to.next ≡ from.next + full)
takes_only last old key added zero entry end from to told h = (0, refl, (let e = ap (λ (s : Spelled). s.next) h.1 in omega arith))
takes_only last old key added (suc level) entry end from to told (named, below, next, falls, middle, news, turns, mends) =
    by_told told (takes_only last old key added level below next from middle news turns) (named, below, next, falls, middle, news, turns, mends) mends
  where
    by_rest : (t : Told) → IsAtMostOne t → ((full : ℕ) × EndsFull last old key level below next full × (middle.next ≡ from.next + full))
        → Turns last old key (Some added) (suc level) entry end from to t → Mends (suc level) entry falls.before below falls.after news middle to t
        → (full : ℕ) × EndsFull last old key (suc level) entry end full × (to.next ≡ from.next + full)
    by_rest t n (full, ends, count) h m =
        let same = (mends_takes (suc level) entry falls.before below falls.after news middle to t m).0 n in
        let room : full ≡ level → length (entries_of old entry.page) < 170 = λ e.
        room_here last old key added level entry end from to t below next named falls (ends_all last old key level below next full e ends) n h in
        (full, inr (named, room, below, next, falls, ends), same ∙ count)

    by_told : (t : Told) → ((full : ℕ) × EndsFull last old key level below next full × (middle.next ≡ from.next + full))
        → Turns last old key (Some added) (suc level) entry end from to t → Mends (suc level) entry falls.before below falls.after news middle to t
        → (full : ℕ) × EndsFull last old key (suc level) entry end full × (to.next ≡ from.next + full)
    by_told Same in_it h m = by_rest Same tt in_it h m
    by_told Gone in_it h m = by_rest Gone tt in_it h m
    by_told (One other) in_it h m = by_rest (One other) tt in_it h m
    by_told (Two left right) in_it h m = let all = full_taken last old key (Some added) (suc level) entry end from to left right h in (suc level, inl (refl, all.0), all.1)

pub all_end : (last : ℕ) (old : List (List ℕ)) (key : Key) (level : ℕ) (entry : Entry) (end : Option Key) → IsFullWay last old key level entry end
    → EndsFull last old key level entry end level
all_end last old key zero entry end h = refl
all_end last old key (suc level) entry end h = inl (refl, h)

-- how a root is settled: it stays on its page, and is one entry; or it is two, which a new root names
pub settles_or : (root levels : ℕ) (told : Told) (start : ℕ) (old : Spelled) (change : ChangeView) → Settles root levels told start old change
    → (IsAtMostOne told × (other : Entry) × (named_as told (top root) ≡ other ∷ []) × (change ≡ change_view old start root levels))
    ⊎ ((left : Entry) × (right : Entry) × (told ≡ Two left right) × (levels < 16) × (old.next < 4294967295)
    × (change ≡ change_view (so_far (old.sheets ++ sheet_of old.next (levels + 1) (left ∷ right ∷ []) ∷ []) (old.next + 1)) start old.next (levels + 1)))
settles_or root levels Same start old change h = inl (tt, top root, refl, h)
settles_or root levels Gone start old change h = absurd h
settles_or root levels (One other) start old change h = inl (tt, other, refl, h)
settles_or root levels (Two left right) start old change h = inr (left, right, refl, h.0, h.1, h.2)

-- what an addition takes that is prepared
module _ (index : IndexView) (old : StoreFacts) (key : Key) (added : Entry) (start : ℕ) (from middle : Spelled) (told : Told) (change : ChangeView) (count : from.next ≡ page_count old + 1)
    (few : page_count old + 1 ≤ 4294967295) (turns : Turns index.last old.pages key (Some added) index.levels (top index.root) None from middle told)
    (settles : Settles index.root index.levels told start middle change) where
  root_two : HasFullWay index old key → (left : Entry) × (right : Entry) × (told ≡ Two left right)
  root_two full = full_parts index.last old.pages key added index.levels (top index.root) None from middle told full turns

  root_taken : (left right : Entry) → told ≡ Two left right → HasFullWay index old key × (middle.next ≡ from.next + index.levels)
  root_taken left right e =
      full_taken index.last old.pages key (Some added) index.levels (top index.root) None from middle left right
      (subst (λ (t : Told). Turns index.last old.pages key (Some added) index.levels (top index.root) None from middle t) e turns)

  settles_two : (left right : Entry) → told ≡ Two left right → (index.levels < 16) × (change.next ≡ middle.next + 1)
  settles_two left right e =
      let h : Settles index.root index.levels (Two left right) start middle change = subst (λ (t : Told). Settles index.root index.levels t start middle change) e settles in
      (h.0, ap (λ (c : ChangeView). c.next) h.2)

  settles_next : (middle.next ≤ change.next) × (middle.next ≤ 4294967295 → change.next ≤ 4294967295)
  settles_next = elim (settles_or index.root index.levels told start middle change settles) [
    | inl one ↦ let e = ap (λ (c : ChangeView). c.next) one.3 in (omega arith, λ small. omega arith)
    | inr two ↦ let e = ap (λ (c : ChangeView). c.next) two.5 in let less = two.4 in (omega arith, λ small. omega arith)
  ]

  needs_all : (n : ℕ) → NeedsPages index old key n → page_count old + 1 + n ≤ change.next
  needs_all n (full, ends, inl (high, same)) =
      let taken = takes_all index.last old.pages key added index.levels (top index.root) None from middle told full ends turns in
      let more = settles_next.0 in
      omega arith
  needs_all n (full, ends, inr (all, less, same)) =
      let two = root_two (ends_all index.last old.pages key index.levels (top index.root) None full all ends) in
      let next = (root_taken two.0 two.1 two.2).1 in
      let root = (settles_two two.0 two.1 two.2).1 in
      omega arith

  needs_only : (n : ℕ) × NeedsPages index old key n × (change.next ≡ page_count old + 1 + n)
  needs_only =
      let taken = takes_only index.last old.pages key added index.levels (top index.root) None from middle told turns in
      let next = taken.2 in
      elim (settles_or index.root index.levels told start middle change settles) [
        | inl one ↦
            let high : taken.0 ≡ index.levels → 16 ≤ index.levels = λ e.
            (let two = root_two (ends_all index.last old.pages key index.levels (top index.root) None taken.0 e taken.1) in
            absurd (subst (λ (t : Told). IsAtMostOne t) two.2 one.0)) in
            let same = ap (λ (c : ChangeView). c.next) one.3 in
            (taken.0, (taken.0, taken.1, inl (high, refl)), omega arith)
        | inr two ↦
            let all = root_taken two.0 two.1 two.2 in
            let more = all.1 in
            let root = ap (λ (c : ChangeView). c.next) two.5 in
            (index.levels + 1, (index.levels, all_end index.last old.pages key index.levels (top index.root) None all.0, inr (refl, two.3, refl)), omega arith)
      ]

  pub takes_needed : TakesNeeded index old key change
  takes_needed = record {
    all = needs_all;
    only = needs_only;
    room = settles_next.1
        (turns_room index.last old.pages key (Some added) index.levels (top index.root) None from middle told (omega arith) turns);
    level = λ top_level full.
        let two = root_two full in
        let less = (settles_two two.0 two.1 two.2).0 in
        omega arith;
  }
