-- What a change of one region's entry spells, over any pages: where each of those pages stood, or that it is new; and where what an
-- entry becomes begins.
use Rattle.std.proofs.Common.{◌≡◌, ◌≢◌, ◌≤◌, ◌<◌, ◌++◌, ◌⊎◌, inl, inr, ℕ, zero, suc, List, [], ◌∷◌, Option, Some, None, IfSome, length, take, drop, ◌∙◌, sym, ap, subst, refl, arith, take-append-drop}
use Rattle.ub_index_change.proofs.Common.{all_append, all_more, AllByRecursion, append-nil, AreOnce, ascend_first, ascend_later, AscendTo, before_found}
use Rattle.ub_index_change.proofs.Common.{before_trans, end_below, ends_from, entries_of, Entry, falls_once, FallsTo, first_append, first_or, from_above, Gone}
use Rattle.ub_index_change.proofs.Common.{IsBefore, IsNotBefore, IsUnspelled, Key, le_trans, LeadsTo, Mends, named_as, NamesFitting, node_on, not_before_self}
use Rattle.ub_index_change.proofs.Common.{One, page_in, Same, Sheet, slice_get_within, Spelled, Spreads, Told, Turns, Two, up_below, with_added}
use Rattle.ub_index_change.proofs.Changes.{no_end}
use Rattle.ub_index_change.proofs.FullFacts.{mends_next, mends_or}
use Rattle.ub_index_change.proofs.SheetFacts.{first_named}
use Rattle.ub_index_change.proofs.SheetNumbers.{once_join}
use Rattle.ub_index_change.proofs.SpreadFacts.{new_sheets, spread_apart, spread_once, spread_sheets}

-- ---- keys and entries in order

-- what is before where entries begin is before their end
pub end_up : (a : List Entry) (end : Option Key) (key : Key) → AscendTo a end → IfSome (first_or a end) (IsBefore key) → IfSome end (IsBefore key)
end_up [] end key up h = h
end_up (x ∷ a) None key up h = tt
end_up (x ∷ a) (Some limit) key up h = before_trans key x.first limit h (ascend_first x a (Some limit) up)

pub first_none : (a : List Entry) (end : Option Key) (key : Key) → IfSome (first_or a end) (IsBefore key) → IfSome (first_or a None) (IsBefore key)
first_none [] end key h = tt
first_none (x ∷ a) end key h = h

-- an end isn't before itself
pub same_end : (end : Option Key) → IsNotBefore end end
same_end None = tt
same_end (Some key) = not_before_self key

pub rest_later : (m xs ys : List Entry) (end later : Option Key) → IsNotBefore (first_or xs end) (first_or ys later) → IsNotBefore (first_or (m ++ xs) end) (first_or (m ++ ys) later)
rest_later [] xs ys end later h = h
rest_later (z ∷ m) xs ys end later h = not_before_self z.first

pub first_there : (m : List Entry) (x : Entry) (a : List Entry) (end : Option Key) → (first : Key) × (first_or (m ++ (x ∷ a)) end ≡ Some first)
first_there [] x a end = (x.first, refl)
first_there (y ∷ m) x a end = (y.first, refl)

pub no_parts : (b : List Entry) (x : Entry) (a : List Entry) → b ++ (x ∷ a) ≡ [] → ⊥
no_parts [] x a e = cc
no_parts (y ∷ b) x a e = cc

-- where entries begin, some of which become others: with what stands before them, or they are the first
first_gone : (b : List Entry) (x : Entry) (a ns : List Entry) (first : Key) → first_or (b ++ (x ∷ a)) None ≡ Some first → (x.first ≡ first) ⊎ (first_or (b ++ ns) None ≡ Some first)
first_gone [] x a ns first h = inl (let same : Some x.first ≡ Some first = h in cc)
first_gone (y ∷ b) x a ns first h = inr h

pub first_end : (xs : List Entry) (first : Key) (end : Option Key) → first_or xs None ≡ Some first → first_or xs end ≡ Some first
first_end [] first end h = cc
first_end (x ∷ xs) first end h = h

-- and they begin as they did where those do
first_kept : (b : List Entry) (x : Entry) (a ns : List Entry) (first : Key) → first_or (b ++ (x ∷ a)) None ≡ Some first → first_or ns None ≡ Some x.first → first_or (b ++ (ns ++ a)) None ≡ Some first
first_kept [] x a [] first h k = cc
first_kept [] x a (y ∷ ns) first h k = k ∙ h
first_kept (y ∷ b) x a ns first h k = h

-- nothing stands before an entry that isn't after the first
first_alone : (b : List Entry) (x : Entry) (a : List Entry) (end : Option Key) (first : Key) → AscendTo (b ++ (x ∷ a)) end → first_or (b ++ (x ∷ a)) None ≡ Some first → ¬ (IsBefore first x.first) → b ≡ []
first_alone [] x a end first up begins h = refl
first_alone (y ∷ b) x a end first up begins h =
    let same : y.first ≡ first = cc in
    absurd (h (subst (λ (k : Key). IsBefore k x.first) same (before_found y b x a (ascend_later (y ∷ (b ++ (x ∷ a))) end None up (no_end end)))))

-- an entry of two lists in a row is one of the first, or of the second
pub parted : (xs ys b : List Entry) (x : Entry) (a : List Entry) → xs ++ ys ≡ b ++ (x ∷ a)
    → ((m : List Entry) × (xs ≡ b ++ (x ∷ m)) × (a ≡ m ++ ys)) ⊎ ((m : List Entry) × (ys ≡ m ++ (x ∷ a)))
parted [] ys b x a e = inr (b, e)
parted (y ∷ xs) ys [] x a e = let same : y ≡ x = cc in let rest : xs ++ ys ≡ a = cc in inl (xs, ap (λ (z : Entry). z ∷ xs) same, sym rest)
parted (y ∷ xs) ys (z ∷ b) x a e = let same : y ≡ z = cc in let rest : xs ++ ys ≡ b ++ (x ∷ a) = cc in elim (parted xs ys b x a rest) [
  | inl left ↦ inl (left.0, ap (λ (w : Entry). w ∷ xs) same ∙ ap (λ (ws : List Entry). z ∷ ws) left.1, left.2)
  | inr right ↦ inr right
]

-- what an entry becomes begins where it began
abbrev pub BeginsStill : Told → Entry → Type 0
BeginsStill Same entry = Unit {0}
BeginsStill (Two left right) entry = left.first ≡ entry.first
BeginsStill _ entry = ⊥

pub still_first : (told : Told) (entry : Entry) (after : List Entry) (end : Option Key) → BeginsStill told entry → first_or (named_as told entry ++ after) end ≡ Some entry.first
still_first Same entry after end h = refl
still_first (Two left right) entry after end h = ap (λ (k : Key). Some k) h
still_first told entry after end h = absurd h

spread_still : (level : ℕ) (entry : Entry) (entries : List Entry) (from to : Spelled) (told : Told) → Spreads level entry entries from to told → first_or entries None ≡ Some entry.first → BeginsStill told entry
spread_still level entry entries from to Same h begins = tt
spread_still level entry entries from to Gone h begins = absurd (let e : None ≡ Some entry.first = ap (λ (xs : List Entry). first_or xs None) (sym h.0) ∙ begins in cc)
spread_still level entry entries from to (One other) h begins = absurd (h.1 (let e : Some other.first ≡ Some entry.first = sym h.2.begins ∙ begins in cc))
spread_still level entry entries from to (Two left right) h begins =
    let e : Some left.first ≡ Some entry.first = sym (first_named entry.page (take 86 entries) (drop 86 entries) left None h.2) ∙ ap (λ (xs : List Entry). first_or xs None) (take-append-drop 86 entries) ∙ begins in
    cc

-- what is spread begins as its entries do
spread_begins : (level : ℕ) (entry : Entry) (entries : List Entry) (end : Option Key) (from to : Spelled) (told : Told) → Spreads level entry entries from to told → first_or (named_as told entry) end ≡ first_or entries end
spread_begins level entry entries end from to Same h = sym (first_end entries entry.first end h.1)
spread_begins level entry entries end from to Gone h = ap (λ (xs : List Entry). first_or xs end) (sym h.0)
spread_begins level entry entries end from to (One other) h = sym (first_end entries other.first end h.2.begins)
spread_begins level entry entries end from to (Two left right) h =
    sym (first_named entry.page (take 86 entries) (drop 86 entries) left end h.2) ∙ ap (λ (xs : List Entry). first_or xs end) (take-append-drop 86 entries)

-- ---- where a page of the index stood

-- the index page of this number was of this level, or a lower one, and began with this key or later, before the end
pub record IsWithin (old : List (List ℕ)) (level : ℕ) (first : Key) (end : Option Key) (n : ℕ) : Type 0 where
  pub there : n < length old
  pub low : (node_on (page_in old n)).level ≤ level
  pub begin : Key
  pub begins : first_or (entries_of old n) None ≡ Some begin
  pub from : ¬ (IsBefore begin first)
  pub to : IfSome end (IsBefore begin)

-- it was so, or the page is new, from one on up to another
abbrev pub IsSpelledIn : List (List ℕ) → ℕ → Key → Option Key → ℕ → ℕ → ℕ → Type 0
IsSpelledIn old level first end from to n = IsWithin old level first end n ⊎ ((from ≤ n) × (n < to))

-- it was of a higher level, or the page is new
abbrev pub IsHigher : List (List ℕ) → ℕ → ℕ → Type 0
IsHigher old level n = (level < (node_on (page_in old n)).level) ⊎ (length old ≤ n)

-- a key is before the first one, or not before the end
abbrev pub IsOff : Key → Option Key → Key → Type 0
IsOff first end key = IsBefore key first ⊎ ((limit : Key) × (end ≡ Some limit) × (¬ (IsBefore key limit)))

module _ (last : ℕ) (old : List (List ℕ)) where
  own_within : (level : ℕ) (entry : Entry) (end : Option Key) → NamesFitting last old level entry end → IfSome end (IsBefore entry.first) → IsWithin old level entry.first end entry.page
  own_within level entry end named before = record {
    there = slice_get_within old entry.page (page_in old entry.page) named.there;
    low = (let e : (node_on (page_in old entry.page)).level ≡ level = named.fits.level_is in omega arith);
    begin = entry.first;
    begins = named.fits.begins;
    from = not_before_self entry.first;
    to = before;
  }

  -- what is spread is spelled on the entry's page, and on a new one
  of_new : (P : ℕ → Type 0) (level : ℕ) (entry : Entry) (entries : List Entry) (from to : Spelled) (told : Told) → Spreads level entry entries from to told → P entry.page → (from.next < to.next → P from.next)
      → AllByRecursion (λ s. P s.number) (new_sheets level entry entries from.next told)
  of_new P level entry entries from to Gone m h k = tt
  of_new P level entry entries from to (Two left right) m h k = (k (let e = ap (λ (s : Spelled). s.next) m.4 in omega arith), (h, tt))
  of_new P level entry entries from to told m h k = (h, tt)

  -- and what is spelled after the entry below has become what is told
  pub mends_new : (level : ℕ) (entry : Entry) (before : List Entry) (below : Entry) (after : List Entry) (news : Told) (middle to : Spelled) (told : Told) (P : ℕ → Type 0) → P entry.page
      → (middle.next < to.next → P middle.next) → Mends level entry before below after news middle to told
      → (sheets : List Sheet) × (to.sheets ≡ middle.sheets ++ sheets) × AllByRecursion (λ s. P s.number) sheets
  mends_new level entry before below after news middle to told P h k m = elim (mends_or level entry before below after news middle to told m) [
    | inl same ↦ ([], ap (λ (s : Spelled). s.sheets) same.2 ∙ sym (append-nil middle.sheets), tt)
    | inr spread ↦
        let es = before ++ (named_as news below ++ after) in
        (new_sheets level entry es middle.next told, spread_sheets level entry es middle to told spread, of_new P level entry es middle to told spread h k)
  ]

  -- what a turn spells stood within the entry, or is new
  pub spelled_within : (key : Key) (added : Option Entry) (level : ℕ) (entry : Entry) (end : Option Key) (from to : Spelled) (told : Told) → from.sheets ≡ [] → IfSome end (IsBefore entry.first)
      → Turns last old key added level entry end from to told → AllByRecursion (λ s. IsSpelledIn old level entry.first end from.next to.next s.number) to.sheets × (from.next ≤ to.next)
  spelled_within key added zero entry end from to told empty before h = (
    subst (λ (xs : List Sheet). AllByRecursion (λ s. IsSpelledIn old zero entry.first end from.next to.next s.number) xs) (sym (ap (λ (s : Spelled). s.sheets) h.1 ∙ empty)) tt,
    (let e = ap (λ (s : Spelled). s.next) h.1 in omega arith),
  )
  spelled_within key added (suc level) entry end from to told empty before (named, below, next, falls, middle, news, turns, mends) =
      let in_it = spelled_within key added level below next from middle news empty below_end turns in
      let up_to = mends_next (suc level) entry falls.before below falls.after news middle to told mends in
      let grown = in_it.1 in
      let more = mends_new (suc level) entry falls.before below falls.after news middle to told (λ m. IsSpelledIn old (suc level) entry.first end from.next to.next m)
      (inl (own_within (suc level) entry end named before)) (λ less. inr (grown, less)) mends in (
        subst (λ (xs : List Sheet). AllByRecursion (λ s. IsSpelledIn old (suc level) entry.first end from.next to.next s.number) xs) (sym more.1)
            (all_append (λ (s : Sheet). IsSpelledIn old (suc level) entry.first end from.next to.next s.number) middle.sheets more.0
            (all_more (λ (s : Sheet). IsSpelledIn old level below.first next from.next middle.next s.number) (λ (s : Sheet). IsSpelledIn old (suc level) entry.first end from.next to.next s.number)
            (λ s h. wider s.number up_to h) middle.sheets in_it.0) more.2),
        omega (arith, grown, up_to),
      )
    where
      below_end : IfSome next (IsBefore below.first)
      below_end = end_below last old key (suc level) entry end below next named falls

      wider : (m : ℕ) → middle.next ≤ to.next → IsSpelledIn old level below.first next from.next middle.next m → IsSpelledIn old (suc level) entry.first end from.next to.next m
      wider m up_to (inr new) = inr (new.0, omega (arith, new.1, up_to))
      wider m up_to (inl h) = inl (record {
        there = h.there;
        low = (let l = h.low in omega arith);
        begin = h.begin;
        begins = h.begins;
        from = le_trans entry.first below.first h.begin (from_above last old key (suc level) entry end below next named falls) h.from;
        to = end_up falls.after end h.begin (up_below last old key (suc level) entry end below next named falls).1 (subst (λ (o : Option Key). IfSome o (IsBefore h.begin)) falls.next_is h.to);
      })

  -- the page of an entry isn't spelled on the way below it
  pub own_unspelled : (level : ℕ) (entry : Entry) (end : Option Key) (first : Key) (limit : Option Key) (from to : ℕ) (sheets : List Sheet) → length old ≤ from → NamesFitting last old (suc level) entry end
      → AllByRecursion (λ s. IsSpelledIn old level first limit from to s.number) sheets → IsUnspelled entry.page sheets
  own_unspelled level entry end first limit from to sheets room named all =
      all_more (λ (s : Sheet). IsSpelledIn old level first limit from to s.number) (λ (s : Sheet). entry.page ≢ s.number) (λ s h same. apart s.number same h) sheets all
    where
      apart : (n : ℕ) → entry.page ≡ n → IsSpelledIn old level first limit from to n → ⊥
      apart n same (inl h) =
          let is : (node_on (page_in old n)).level ≡ suc level = ap (λ (m : ℕ). (node_on (page_in old m)).level) (sym same) ∙ named.fits.level_is in
          omega (arith, h.low, is)
      apart n same (inr h) = let there = slice_get_within old entry.page (page_in old entry.page) named.there in omega (arith, there, h.0, same, room)

  -- nor is a new one
  pub next_unspelled : (level : ℕ) (first : Key) (limit : Option Key) (from to : ℕ) (sheets : List Sheet) → length old ≤ from → from ≤ to
      → AllByRecursion (λ s. IsSpelledIn old level first limit from to s.number) sheets → IsUnspelled to sheets
  next_unspelled level first limit from to sheets room grown all =
      all_more (λ (s : Sheet). IsSpelledIn old level first limit from to s.number) (λ (s : Sheet). to ≢ s.number) (λ s h same. apart s.number same h) sheets all
    where
      apart : (n : ℕ) → to ≡ n → IsSpelledIn old level first limit from to n → ⊥
      apart n same (inl h) = omega (arith, h.there, same, room, grown)
      apart n same (inr h) = omega (arith, h.1, same)

  -- a way to the key goes down where the change does
  pub way_below : (key : Key) (level : ℕ) (entry : Entry) (end : Option Key) (below : Entry) (next : Option Key) (f : Entry) (nf : Option Key) → FallsTo key (entries_of old entry.page) end below next
      → LeadsTo last old key (suc level) entry end f nf → LeadsTo last old key level below next f nf
  way_below key level entry end below next f nf falls (named, bf, xf, falls_f, leads) =
      let one = falls_once key (entries_of old entry.page) end named.fits.ascends bf xf falls_f below next falls in
      subst (λ (o : Option Key). LeadsTo last old key level below o f nf) one.1 (subst (λ (e : Entry). LeadsTo last old key level e xf f nf) one.0 leads)

  -- what an entry becomes begins where it began, unless a region's entry goes that was the first
  pub turned_first : (key : Key) (added : Option Entry) (level : ℕ) (entry : Entry) (end : Option Key) (from to : Spelled) (told : Told) (f : Entry) (nf : Option Key)
      → Turns last old key added level entry end from to told → LeadsTo last old key level entry end f nf → BeginsStill told entry ⊎ ((added ≡ None) × (f.first ≡ entry.first))
  turned_first key added zero entry end from to told f nf h leads = by_added added h.0
    where
      by_added : (a : Option Entry) → told ≡ with_added a entry → BeginsStill told entry ⊎ ((a ≡ None) × (f.first ≡ entry.first))
      by_added None is = inr (refl, ap (λ (e : Entry). e.first) leads.0)
      by_added (Some other) is = inl (subst (λ (t : Told). BeginsStill t entry) (sym is) refl)
  turned_first key added (suc level) entry end from to told f nf (named, below, next, falls, middle, news, turns, mends) leads =
      by_below (turned_first key added level below next from middle news f nf turns leads_below)
    where
      leads_below : LeadsTo last old key level below next f nf
      leads_below = way_below key level entry end below next f nf falls leads

      begins : first_or (falls.before ++ (below ∷ falls.after)) None ≡ Some entry.first
      begins = subst (λ (xs : List Entry). first_or xs None ≡ Some entry.first) falls.parts named.fits.begins

      still : first_or (falls.before ++ (named_as news below ++ falls.after)) None ≡ Some entry.first → BeginsStill told entry
      still same = elim (mends_or (suc level) entry falls.before below falls.after news middle to told mends) [
        | inl kept ↦ subst (λ (t : Told). BeginsStill t entry) (sym kept.1) tt
        | inr spread ↦ spread_still (suc level) entry (falls.before ++ (named_as news below ++ falls.after)) middle to told spread same
      ]

      by_below : BeginsStill news below ⊎ ((added ≡ None) × (f.first ≡ below.first)) → BeginsStill told entry ⊎ ((added ≡ None) × (f.first ≡ entry.first))
      by_below (inl h) =
          inl (still (first_kept falls.before below falls.after (named_as news below) entry.first begins (ap (λ (xs : List Entry). first_or xs None) (sym (append-nil (named_as news below))) ∙ still_first news below [] None h)))
      by_below (inr h) = elim (first_gone falls.before below falls.after (named_as news below ++ falls.after) entry.first begins) [
        | inl first ↦ inr (h.0, h.1 ∙ first)
        | inr stays ↦ inl (still stays)
      ]

  -- where the region's entry goes that was the first, what an entry becomes begins where that ended
  pub turned_end : (key : Key) (added : Option Entry) (level : ℕ) (entry : Entry) (end : Option Key) (from to : Spelled) (told : Told) (f : Entry) (nf : Option Key) → added ≡ None
      → Turns last old key added level entry end from to told → LeadsTo last old key level entry end f nf → f.first ≡ entry.first → first_or (named_as told entry) end ≡ nf
  turned_end key added zero entry end from to told f nf gone h leads first = ap (λ (t : Told). first_or (named_as t entry) end) (h.0 ∙ ap (λ (o : Option Entry). with_added o entry) gone) ∙ sym leads.1
  turned_end key added (suc level) entry end from to told f nf gone (named, below, next, falls, middle, news, turns, mends) leads first =
      by_below (turned_end key added level below next from middle news f nf gone turns leads_below)
    where
      leads_below : LeadsTo last old key level below next f nf
      leads_below = way_below key level entry end below next f nf falls leads

      begins : first_or (falls.before ++ (below ∷ falls.after)) None ≡ Some entry.first
      begins = subst (λ (xs : List Entry). first_or xs None ≡ Some entry.first) falls.parts named.fits.begins

      before_is : falls.before ≡ []
      before_is = first_alone falls.before below falls.after end entry.first (subst (λ (xs : List Entry). AscendTo xs end) falls.parts named.fits.ascends) begins
          (subst (λ (k : Key). ¬ (IsBefore k below.first)) first (ends_from last old key level below next f nf leads_below))

      below_first : below.first ≡ entry.first
      below_first = let e : Some below.first ≡ Some entry.first = ap (λ (b : List Entry). first_or (b ++ (below ∷ falls.after)) None) (sym before_is) ∙ begins in cc

      by_below : (f.first ≡ below.first → first_or (named_as news below) next ≡ nf) → first_or (named_as told entry) end ≡ nf
      by_below in_it =
          let ends = in_it (first ∙ sym below_first) in
          elim (mends_or (suc level) entry falls.before below falls.after news middle to told mends) [
            | inl same ↦
                ap (λ (t : Told). first_or (named_as t entry) end) same.1 ∙ ap (λ (k : Key). Some k) (sym below_first) ∙ ap (λ (t : Told). first_or (named_as t below) next) (sym same.0) ∙ ends
            | inr spread ↦
                spread_begins (suc level) entry (falls.before ++ (named_as news below ++ falls.after)) end middle to told spread
                ∙ ap (λ (b : List Entry). first_or (b ++ (named_as news below ++ falls.after)) end) before_is ∙ first_append (named_as news below) falls.after end
                ∙ ap (λ (o : Option Key). first_or (named_as news below) o) (sym falls.next_is) ∙ ends
          ]

  -- no page is spelled twice: each is of another level, or new
  pub turned_once : (key : Key) (added : Option Entry) (level : ℕ) (entry : Entry) (end : Option Key) (from to : Spelled) (told : Told) → from.sheets ≡ [] → length old ≤ from.next → IfSome end (IsBefore entry.first)
      → Turns last old key added level entry end from to told → AreOnce to.sheets
  turned_once key added zero entry end from to told empty room before h = subst (λ (xs : List Sheet). AreOnce xs) (sym (ap (λ (s : Spelled). s.sheets) h.1 ∙ empty)) tt
  turned_once key added (suc level) entry end from to told empty room before (named, below, next, falls, middle, news, turns, mends) =
      by_below (turned_once key added level below next from middle news empty room below_end turns)
    where
      below_end : IfSome next (IsBefore below.first)
      below_end = end_below last old key (suc level) entry end below next named falls

      in_it : AllByRecursion (λ s. IsSpelledIn old level below.first next from.next middle.next s.number) middle.sheets × (from.next ≤ middle.next)
      in_it = spelled_within key added level below next from middle news empty below_end turns

      own : IsUnspelled entry.page middle.sheets
      own = own_unspelled level entry end below.first next from.next middle.next middle.sheets room named in_it.0

      by_below : AreOnce middle.sheets → AreOnce to.sheets
      by_below once = elim (mends_or (suc level) entry falls.before below falls.after news middle to told mends) [
        | inl same ↦ subst (λ (s : Spelled). AreOnce s.sheets) (sym same.2) once
        | inr spread ↦
            let es = falls.before ++ (named_as news below ++ falls.after) in
            let there = slice_get_within old entry.page (page_in old entry.page) named.there in
            subst (λ (xs : List Sheet). AreOnce xs) (sym (spread_sheets (suc level) entry es middle to told spread))
            (once_join middle.sheets (new_sheets (suc level) entry es middle.next told) once (spread_once (suc level) entry es middle.next told (omega (arith, there, room, in_it.1)))
            (spread_apart (suc level) entry es middle.next told middle.sheets own (next_unspelled level below.first next from.next middle.next middle.sheets room in_it.1 in_it.0)))
      ]

  -- a page that fits within other keys, or at another level, isn't spelled
  pub off_spelled : (level : ℕ) (first : Key) (end : Option Key) (sheets : List Sheet) (l : ℕ) (x : Entry) (p : Option Key) → l ≤ level → NamesFitting last old l x p → IsOff first end x.first
      → AllByRecursion (λ s. IsWithin old level first end s.number ⊎ IsHigher old level s.number) sheets → IsUnspelled x.page sheets
  off_spelled level first end sheets l x p le named off all =
      all_more (λ (s : Sheet). IsWithin old level first end s.number ⊎ IsHigher old level s.number) (λ (s : Sheet). x.page ≢ s.number) (λ s h same. apart s.number same h) sheets all
    where
      apart : (n : ℕ) → x.page ≡ n → IsWithin old level first end n ⊎ IsHigher old level n → ⊥
      apart n same (inl h) =
          let is : Some h.begin ≡ Some x.first = sym h.begins ∙ (ap (λ (m : ℕ). first_or (entries_of old m) None) (sym same) ∙ named.fits.begins) in
          let key_is : h.begin ≡ x.first = cc in
          elim off [
            | inl sooner ↦ h.from (subst (λ (k : Key). IsBefore k first) (sym key_is) sooner)
            | inr later ↦ later.2 (subst (λ (k : Key). IsBefore k later.0) key_is (subst (λ (o : Option Key). IfSome o (IsBefore h.begin)) later.1 h.to))
          ]
      apart n same (inr (inl h)) =
          let is : (node_on (page_in old n)).level ≡ l = ap (λ (m : ℕ). (node_on (page_in old m)).level) (sym same) ∙ named.fits.level_is in
          omega (arith, h, is, le)
      apart n same (inr (inr past)) = let there = slice_get_within old x.page (page_in old x.page) named.there in omega (arith, there, past, same)
