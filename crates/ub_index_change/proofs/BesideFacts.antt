-- The ways beside that to a region's entry that goes, or gets another one behind it, over any pages: each leads where it led.
use Rattle.std.proofs.Common.{◌≡◌, ◌≢◌, ◌≤◌, ◌<◌, ◌+◌, ◌^◌, ◌++◌, ◌⊎◌, inl, inr, ℕ, zero, suc, List, [], ◌∷◌, Option, Some, None, IfSome, length, take, drop, slice_get, ◌∙◌, sym, ap, subst, refl, arith, append_assoc, take-append-drop}
use Rattle.ub_index_change.proofs.Common.{added_at, all_append, all_left, all_more, all_right, AllByRecursion, append-nil, append_cancel_right, AreIndexPages}
use Rattle.ub_index_change.proofs.Common.{AreOnce, ascend_first, ascend_later, ascend_left, ascend_right, AscendTo, before_found, before_le, before_next}
use Rattle.ub_index_change.proofs.Common.{changed, ChangeView, compare, end_below, ends_from, entries_of, Entry, entry_at, first_append, first_or, first_up_to}
use Rattle.ub_index_change.proofs.Common.{from_above, Gone, if_later, IndexView, IsAtMostOne, IsBefore, IsDropped, IsEntry, IsFine, IsIndexPage, IsNotBefore}
use Rattle.ub_index_change.proofs.Common.{IsPrepared, IsTold, IsUnspelled, IsWithinRegion, kept_named, Key, le_before, le_trans, Leads, LeadsTo, Lowers}
use Rattle.ub_index_change.proofs.Common.{named_as, NamesFitting, node_on, not_before_self, not_both_before, One, origin, page_count, page_in, page_is}
use Rattle.ub_index_change.proofs.Common.{page_then, Region, Same, same_entries, same_page, Settles, Sheet, sheet_of, slice_get_within, so_far, sole_page}
use Rattle.ub_index_change.proofs.Common.{Spelled, spelled_or, Spreads, Stand, StoreFacts, Told, told_named, top, Turns, Two, up_below, ways_hold, whole_below}
use Rattle.ub_index_change.proofs.Common.{with_added, with_none}
use Rattle.ub_index_change.proofs.Changes.{no_end, not_before}
use Rattle.ub_index_change.proofs.DropFacts.{narrow, sole_is, spelled_then}
use Rattle.ub_index_change.proofs.FullFacts.{mends_or}
use Rattle.ub_index_change.proofs.ReadyFacts.{entry_is}
use Rattle.ub_index_change.proofs.SheetFacts.{IsOrderly, added_fine_at, fine_found, mended_all, mended_up, turned}
use Rattle.ub_index_change.proofs.SheetNumbers.{once_join}
use Rattle.ub_index_change.proofs.SpelledFacts.{BeginsStill, end_up, first_end, first_none, first_there, IsHigher, IsOff, IsSpelledIn, IsWithin, mends_new}
use Rattle.ub_index_change.proofs.SpelledFacts.{next_unspelled, no_parts, off_spelled, own_unspelled, parted, rest_later, same_end, spelled_within, still_first}
use Rattle.ub_index_change.proofs.SpelledFacts.{turned_end, turned_first, turned_once, way_below}
use Rattle.ub_index_change.proofs.SpreadFacts.{new_sheets, root_told, spread_sheets, told_spread}
use Rattle.ub_index_change.proofs.TurnFacts.{unspelled_left}

-- ---- a way that stays

-- a page of an index that isn't spelled is as it was
abbrev pub KeepsIndex : ℕ → List (List ℕ) → List (List ℕ) → List Sheet → Type 0
KeepsIndex last old later sheets = (m : ℕ) → 1 ≤ m → m < length old → IsUnspelled m sheets → IsIndexPage last (page_in old m) → slice_get later m ≡ slice_get old m

-- and so is one that isn't spelled and is one of an index then
abbrev pub IsKept : ℕ → List (List ℕ) → List (List ℕ) → List Sheet → Type 0
IsKept last old later sheets =
    (m : ℕ) → 1 ≤ m → IsUnspelled m sheets → IsIndexPage last (page_in old m) ⊎ IsIndexPage last (page_in later m) → slice_get later m ≡ slice_get old m

-- what ends at n ends at n2 then, whether that is the end, which becomes o2, or a key before it
abbrev EndsThen : Option Key → Option Key → Option Key → Option Key → Type 0
EndsThen n n2 o o2 = (n ≡ o → n2 ≡ o2) × ((z : Key) → IfSome o (IsBefore z) → n ≡ Some z → n2 ≡ Some z)

module _ (last : ℕ) (old later : List (List ℕ)) (k : Key) (e : Entry) (n n2 : Option Key) where
  -- a way leads where it led, through pages none of which is put, to an end that may be later
  way_stays : (level : ℕ) (y : Entry) (o o2 : Option Key) → LeadsTo last old k level y o e n → IsNotBefore o o2 → EndsThen n n2 o o2 → IfSome o (IsBefore y.first) → IsEntry last y
      → ((l : ℕ) (x : Entry) (p : Option Key) → l ≤ level → IsEntry last x → NamesFitting last old l x p → ¬ (IsBefore x.first y.first) → IfSome o (IsBefore x.first) → slice_get later x.page ≡ slice_get old x.page)
      → LeadsTo last later k level y o2 e n2
  way_stays zero y o o2 leads up is before whole free = (leads.0, is.0 leads.1)
  way_stays (suc level) y o o2 (named, below, beyond, falls, leads) up is before whole free = (
    record {
      there = kept.there;
      fits = record { is = kept.fits.is; level_is = kept.fits.level_is; begins = kept.fits.begins; ascends = ascend_later (entries_of later y.page) o o2 kept.fits.ascends up };
    },
    below,
    first_or falls.after o2,
    record {
      before = falls.before;
      after = falls.after;
      parts = same_entries old later y.page same ∙ falls.parts;
      next_is = refl;
      from = falls.from;
      to = falls.to;
    },
    way_stays level below (first_or falls.after o) (first_or falls.after o2) (subst (λ (q : Option Key). LeadsTo last old k level below q e n) falls.next_is leads)
        (rest_up falls.after) (rest_is falls.after from_below.1) from_below.0 (whole_below last old k (suc level) y o below beyond named falls)
        (λ l x p le entry fits from to. free l x p (omega arith) entry fits (le_trans y.first below.first x.first from_entry from) (end_up falls.after o x.first from_below.1 to)),
  )
    where
      same : slice_get later y.page ≡ slice_get old y.page
      same = free (suc level) y o (omega arith) whole named (not_before_self y.first) before

      kept : NamesFitting last later (suc level) y o
      kept = kept_named last old later (suc level) y o same named

      from_below : AscendTo (below ∷ falls.after) o
      from_below = up_below last old k (suc level) y o below beyond named falls

      from_entry : ¬ (IsBefore below.first y.first)
      from_entry = from_above last old k (suc level) y o below beyond named falls

      rest_up : (a : List Entry) → IsNotBefore (first_or a o) (first_or a o2)
      rest_up [] = up
      rest_up (z ∷ a) = not_before_self z.first

      rest_is : (a : List Entry) → AscendTo a o → EndsThen n n2 (first_or a o) (first_or a o2)
      rest_is [] up_a = is
      rest_is (z ∷ a) up_a = (is.1 z.first (ascend_first z a o up_a), λ w less. is.1 w (end_up (z ∷ a) o w up_a less))

-- ---- a way to another key

-- one of the entries by which an entry is named from then on leads on
record LeadsStill (last : ℕ) (later : List (List ℕ)) (k : Key) (level : ℕ) (entry : Entry) (end : Option Key) (told : Told) (e : Entry) (n : Option Key) : Type 0 where
  pub before : List Entry
  pub below : Entry
  pub after : List Entry
  pub parts : named_as told entry ≡ before ++ (below ∷ after)
  pub to : IfSome (first_or after None) (IsBefore k)
  pub leads : LeadsTo last later k level below (first_or after end) e n

module _ (last : ℕ) (small : last < 2 ^ 128) (old later : List (List ℕ)) (k : Key) (e : Entry) (n : Option Key) (k_from : ¬ (IsBefore k e.first)) where
  -- down from a page that tells these entries
  down : (level : ℕ) (y : Entry) (end : Option Key) (b : List Entry) (x : Entry) (a : List Entry) → NamesFitting last later (suc level) y end → entries_of later y.page ≡ b ++ (x ∷ a)
      → IfSome (first_or a None) (IsBefore k) → LeadsTo last later k level x (first_or a end) e n → LeadsTo last later k (suc level) y end e n
  down level y end b x a named parts to leads = (
    named,
    x,
    first_or a end,
    record {
      before = b;
      after = a;
      parts = parts;
      next_is = refl;
      from = inr (le_trans x.first e.first k (ends_from last later k level x (first_or a end) e n leads) k_from);
      to = to;
    },
    leads,
  )

  -- through a page that was spelled anew, or two
  told_page : (level : ℕ) (entry : Entry) (end : Option Key) (entries : List Entry) (middle to : Spelled) (told : Told) → suc level ≤ 16 → Spreads (suc level) entry entries middle to told
      → AllByRecursion (IsEntry last) entries → AscendTo entries end → Stand later (new_sheets (suc level) entry entries middle.next told) → (b : List Entry) (x : Entry) (a : List Entry) → entries ≡ b ++ (x ∷ a)
      → IfSome (first_or a None) (IsBefore k) → LeadsTo last later k level x (first_or a end) e n → LeadsStill last later k (suc level) entry end told e n
  told_page level entry end entries middle to Same high h all up stand b x a parts to_it leads =
      let t : IsTold last later (suc level) entries entry = told_spread last small later level entry entries end middle to Same high h all up stand in
      record { before = []; below = entry; after = []; parts = refl; to = tt; leads = down level entry end b x a (told_named last later (suc level) entries entry end t up) (t.entries_are ∙ parts) to_it leads }
  told_page level entry end entries middle to Gone high h all up stand b x a parts to_it leads = absurd (no_parts b x a (sym parts ∙ h.0))
  told_page level entry end entries middle to (One other) high h all up stand b x a parts to_it leads =
      let t : IsTold last later (suc level) entries other = (told_spread last small later level entry entries end middle to (One other) high h all up stand).1 in
      record { before = []; below = other; after = []; parts = refl; to = tt; leads = down level other end b x a (told_named last later (suc level) entries other end t up) (t.entries_are ∙ parts) to_it leads }
  told_page level entry end entries middle to (Two left right) high h all up stand b x a parts to_it leads =
      by_half (parted (take 86 entries) (drop 86 entries) b x a (take-append-drop 86 entries ∙ parts))
    where
      t : (length entries ≡ 171) × (left.page ≡ entry.page) × (right.page ≡ middle.next) × IsTold last later (suc level) (take 86 entries) left × IsTold last later (suc level) (drop 86 entries) right
      t = told_spread last small later level entry entries end middle to (Two left right) high h all up stand

      up_parts : AscendTo (take 86 entries ++ drop 86 entries) end
      up_parts = subst (λ (xs : List Entry). AscendTo xs end) (sym (take-append-drop 86 entries)) up

      right_first : first_or (drop 86 entries) end ≡ Some right.first
      right_first = first_end (drop 86 entries) right.first end t.4.begins

      up_left : AscendTo (take 86 entries) (Some right.first)
      up_left = subst (λ (o : Option Key). AscendTo (take 86 entries) o) right_first (ascend_left (take 86 entries) (drop 86 entries) end up_parts)

      in_left : (m : List Entry) → take 86 entries ≡ b ++ (x ∷ m) → a ≡ m ++ drop 86 entries → LeadsStill last later k (suc level) entry end (Two left right) e n
      in_left m left_is after_is =
          let begins : (o : Option Key) → first_or (drop 86 entries) o ≡ Some right.first → first_or a o ≡ first_or m (Some right.first) = λ o is.
          ap (λ (xs : List Entry). first_or xs o) after_is ∙ first_append m (drop 86 entries) o ∙ ap (λ (q : Option Key). first_or m q) is in
          let to_m = subst (λ (o : Option Key). IfSome o (IsBefore k)) (begins None t.4.begins) to_it in
          let up_m = (ascend_right b (x ∷ m) (Some right.first) (subst (λ (xs : List Entry). AscendTo xs (Some right.first)) left_is up_left)).1 in
          record {
            before = [];
            below = left;
            after = right ∷ [];
            parts = refl;
            to = end_up m (Some right.first) k up_m to_m;
            leads = down level left (Some right.first) b x m (told_named last later (suc level) (take 86 entries) left (Some right.first) t.3 up_left) (t.3.entries_are ∙ left_is) (first_none m (Some right.first) k to_m)
                (subst (λ (o : Option Key). LeadsTo last later k level x o e n) (begins end right_first) leads);
          }

      by_half : ((m : List Entry) × (take 86 entries ≡ b ++ (x ∷ m)) × (a ≡ m ++ drop 86 entries)) ⊎ ((m : List Entry) × (drop 86 entries ≡ m ++ (x ∷ a)))
          → LeadsStill last later k (suc level) entry end (Two left right) e n
      by_half (inl half) = in_left half.0 half.1 half.2
      by_half (inr half) = record {
        before = left ∷ [];
        below = right;
        after = [];
        parts = refl;
        to = tt;
        leads = down level right end half.0 x a (told_named last later (suc level) (drop 86 entries) right end t.4 (ascend_right (take 86 entries) (drop 86 entries) end up_parts)) (t.4.entries_are ∙ half.1) to_it leads;
      }

  -- where a way to the region's entry e0 is to lead, once f has gone, or got another one behind it: there still, unless e0 is f, or stood before f,
  -- which goes; from f to f itself, up to the other one's key, or to the other one; or to what stood before f, which goes, up to where f ended
  abbrev IsAim : Key → Option Entry → Entry → Option Key → Entry → Option Key → Type 0
  IsAim key added f nf e0 n0 =
      ((e0 ≡ e) × (n0 ≡ n) × (e.first ≢ f.first) × (added ≡ None → n ≢ Some f.first))
      ⊎ (((key ≡ f.first) × (e0 ≡ f) × (¬ (IsBefore k f.first)) × (a : Entry) × (added ≡ Some a) × (((e ≡ f) × (n ≡ Some a.first) × IsBefore k a.first) ⊎ ((e ≡ a) × (n ≡ nf))))
      ⊎ ((added ≡ None) × (key ≡ f.first) × (e0 ≡ e) × (n0 ≡ Some f.first) × (n ≡ nf)))

  module _ (key : Key) (added : Option Entry) (f : Entry) (nf : Option Key) (fine : IsFine last added f nf) (e0 : Entry) (n0 : Option Key) (aim : IsAim key added f nf e0 n0) where
    -- at the region's entry
    at_entry : (entry : Entry) (end : Option Key) (told : Told) → told ≡ with_added added entry → IfSome end (IsBefore entry.first) → LeadsTo last old key zero entry end f nf
        → LeadsTo last old k zero entry end e0 n0 → LeadsStill last later k zero entry end told e n
    at_entry entry end told told_is before leads_f leads_k = elim aim [
      | inl same ↦ absurd (same.2 (ap (λ (x : Entry). x.first) (sym same.0 ∙ leads_k.0 ∙ sym leads_f.0)))
      | inr others ↦ elim others [
        | inl half ↦ subst (λ (t : Told). LeadsStill last later k zero entry end t e n) (sym (told_is ∙ ap (λ (o : Option Entry). with_added o entry) half.4)) (elim half.5 [
          | inl left ↦ record { before = []; below = entry; after = half.3 ∷ []; parts = refl; to = left.2; leads = (left.0 ∙ leads_f.0, left.1) }
          | inr right ↦ record { before = entry ∷ []; below = half.3; after = []; parts = refl; to = tt; leads = (right.0, right.1 ∙ leads_f.1) }
        ])
        | inr joined ↦
            absurd (not_before_self f.first (subst (λ (x : Entry). IsBefore x.first f.first) (sym leads_f.0)
            (subst (λ (o : Option Key). IfSome o (IsBefore entry.first)) (sym leads_k.1 ∙ joined.3) before)))
      ]
    ]

    beside : (level : ℕ) (entry : Entry) (end : Option Key) (from to : Spelled) (told : Told) (more : List Sheet) → from.sheets ≡ [] → 1 ≤ from.next → length old ≤ from.next
        → IsEntry last entry → IfSome end (IsBefore entry.first) → Turns last old key added level entry end from to told → LeadsTo last old key level entry end f nf
        → LeadsTo last old k level entry end e0 n0 → AllByRecursion (λ s. IsHigher old level s.number) more → Stand later (to.sheets ++ more)
        → KeepsIndex last old later (to.sheets ++ more) → LeadsStill last later k level entry end told e n
    beside zero entry end from to told more empty some room is before h leads_f leads_k high_more stand stay = at_entry entry end told h.0 before leads_f leads_k
    beside (suc level) entry end from to told more empty some room is before (named, below, next, falls, middle, news, turns, mends) leads_f
        (named_k, xk, ok, falls_k, leads_k) high_more stand stay =
        elim (compare falls_k.before xk falls_k.after falls.before below falls.after (sym falls_k.parts ∙ falls.parts)) [
          | inl same ↦
              within (λ way.
              beside level below next from middle news (new.0 ++ more) empty some room below_is below_end turns leads_below way rest_high
              (subst (λ (xs : List Sheet). Stand later xs) rest_is stand) (λ m some_m less free fits. stay m some_m less (subst (λ (xs : List Sheet). IsUnspelled m xs) (sym rest_is) free) fits)) same.0 same.1
          | inr apart ↦ elim apart [
            | inl first ↦ elim aim [
              | inl same ↦ sooner first.0 first.1 (subst (λ (x : Entry). LeadsTo last old k level xk ok x n0) same.0 leads_k) (kept_end first.0 same.1 same.3)
              | inr others ↦ elim others [
                | inl half ↦ absurd (not_sooner first.0 first.1 half.2)
                | inr joined ↦
                    sooner first.0 first.1 (subst (λ (x : Entry). LeadsTo last old k level xk ok x n0) joined.2 leads_k)
                    (joined_end first.0 (subst (λ (xs : List Entry). AscendTo xs end) first.1 up_k.1) joined.0 joined.3 joined.4)
              ]
            ]
            | inr behind ↦ elim aim [
              | inl same ↦ further behind.0 behind.1 (subst (λ (o : Option Key). LeadsTo last old k level xk ok e o) same.1 (subst (λ (x : Entry). LeadsTo last old k level xk ok x n0) same.0 leads_k))
              | inr others ↦ elim others [
                | inl half ↦ absurd (not_further behind.0 behind.1 (subst (λ (j : Key). ¬ (IsBefore key j)) (half.0 ∙ ap (λ (x : Entry). x.first) (sym half.1)) (not_before_self key)))
                | inr joined ↦
                    absurd (not_further behind.0 behind.1 (λ down. not_both_before e0.first key (subst (λ (j : Key). IsBefore e0.first j) (sym joined.1)
                    (subst (λ (o : Option Key). IfSome o (IsBefore e0.first)) joined.3 (before_next last old k level xk ok e0 n0 xk_before leads_k))) down))
              ]
            ]
          ]
        ]
      where
        below_is : IsEntry last below
        below_is = whole_below last old key (suc level) entry end below next named falls

        below_end : IfSome next (IsBefore below.first)
        below_end = end_below last old key (suc level) entry end below next named falls

        leads_below : LeadsTo last old key level below next f nf
        leads_below = way_below last old key level entry end below next f nf falls leads_f

        orderly : IsOrderly last below next news
        orderly = (turned last small old key added level below next from middle news some below_is below_end (fine_found last old key added level below next f nf fine leads_below)
            (subst (λ (xs : List Sheet). AreIndexPages last xs) (sym empty) tt) turns).0

        up : AscendTo (below ∷ falls.after) end
        up = up_below last old key (suc level) entry end below next named falls

        up_k : AscendTo (xk ∷ falls_k.after) end
        up_k = up_below last old k (suc level) entry end xk ok named falls_k

        -- what is spelled on the way down, and what after that
        in_it : AllByRecursion (λ s. IsSpelledIn old level below.first next from.next middle.next s.number) middle.sheets × (from.next ≤ middle.next)
        in_it = spelled_within last old key added level below next from middle news empty below_end turns

        level_is : (node_on (page_in old entry.page)).level ≡ suc level
        level_is = named.fits.level_is

        there : entry.page < length old
        there = slice_get_within old entry.page (page_in old entry.page) named.there

        new : (sheets : List Sheet) × (to.sheets ≡ middle.sheets ++ sheets) × AllByRecursion (λ s. IsHigher old level s.number) sheets
        new = mends_new last old (suc level) entry falls.before below falls.after news middle to told (λ m. IsHigher old level m) (inl (omega (arith, level_is))) (λ less. inr (omega (arith, room, in_it.1))) mends

        rest_is : to.sheets ++ more ≡ middle.sheets ++ (new.0 ++ more)
        rest_is = ap (λ (xs : List Sheet). xs ++ more) new.1 ∙ append_assoc middle.sheets new.0 more

        rest_high : AllByRecursion (λ s. IsHigher old level s.number) (new.0 ++ more)
        rest_high = all_append (λ (s : Sheet). IsHigher old level s.number) new.0 more new.2
            (all_more (λ (s : Sheet). IsHigher old (suc level) s.number) (λ (s : Sheet). IsHigher old level s.number) (λ s h. elim h [
              | inl higher ↦ inl (omega (arith, higher))
              | inr past ↦ inr past
            ]) more high_more)

        placed : AllByRecursion (λ s. IsWithin old level below.first next s.number ⊎ IsHigher old level s.number) (to.sheets ++ more)
        placed = subst (λ (xs : List Sheet). AllByRecursion (λ s. IsWithin old level below.first next s.number ⊎ IsHigher old level s.number) xs) (sym rest_is)
            (all_append (λ (s : Sheet). IsWithin old level below.first next s.number ⊎ IsHigher old level s.number) middle.sheets (new.0 ++ more)
            (all_more (λ (s : Sheet). IsSpelledIn old level below.first next from.next middle.next s.number) (λ (s : Sheet). IsWithin old level below.first next s.number ⊎ IsHigher old level s.number) (λ s h. elim h [
              | inl within_it ↦ inl within_it
              | inr past ↦ inr (inr (omega (arith, room, past.0)))
            ]) middle.sheets in_it.0)
            (all_more (λ (s : Sheet). IsHigher old level s.number) (λ (s : Sheet). IsWithin old level below.first next s.number ⊎ IsHigher old level s.number) (λ s h. inr h) (new.0 ++ more) rest_high))

        -- a page beside the way stays
        stays_off : (l : ℕ) (x : Entry) (p : Option Key) → l ≤ level → IsEntry last x → NamesFitting last old l x p → IsOff below.first next x.first → slice_get later x.page ≡ slice_get old x.page
        stays_off l x p le entry_x fits off =
            stay x.page entry_x.some_page (slice_get_within old x.page (page_in old x.page) fits.there) (off_spelled last old level below.first next (to.sheets ++ more) l x p le fits off placed) fits.fits.is

        xk_before : IfSome ok (IsBefore xk.first)
        xk_before = end_below last old k (suc level) entry end xk ok named falls_k

        whole_k : IsEntry last xk
        whole_k = whole_below last old k (suc level) entry end xk ok named falls_k

        -- and the entry's own, where all is told the same
        own : to ≡ middle → slice_get later entry.page ≡ slice_get old entry.page
        own to_is = stay entry.page is.some_page there (subst (λ (xs : List Sheet). IsUnspelled entry.page (xs ++ more)) (sym (ap (λ (s : Spelled). s.sheets) to_is))
            (unspelled_left entry.page middle.sheets more (own_unspelled last old level entry end below.first next from.next middle.next middle.sheets room named in_it.0)
            (all_more (λ (s : Sheet). IsHigher old (suc level) s.number) (λ (s : Sheet). entry.page ≢ s.number) (λ s h page. elim h [
              | inl higher ↦ (let l : (node_on (page_in old s.number)).level ≡ suc level = ap (λ (m : ℕ). (node_on (page_in old m)).level) (sym page) ∙ level_is in omega (arith, higher, l))
              | inr past ↦ omega (arith, past, there, page)
            ]) more high_more))) named.fits.is

        -- through the page, of which one entry became what is told
        ends : (b : List Entry) (x : Entry) (a : List Entry) → falls.before ++ (named_as news below ++ falls.after) ≡ b ++ (x ∷ a) → IfSome (first_or a None) (IsBefore k)
            → LeadsTo last later k level x (first_or a end) e n → LeadsStill last later k (suc level) entry end told e n
        ends b x a parts to_it leads = elim (mends_or (suc level) entry falls.before below falls.after news middle to told mends) [
          | inl same ↦ record {
            before = [];
            below = entry;
            after = [];
            parts = ap (λ (t : Told). named_as t entry) same.1;
            to = tt;
            leads = down level entry end b x a (kept_named last old later (suc level) entry end (own same.2) named)
                (same_entries old later entry.page (own same.2) ∙ falls.parts ∙ ap (λ (t : Told). falls.before ++ (named_as t below ++ falls.after)) (sym same.0) ∙ parts) to_it leads;
          }
          | inr spread ↦
              let es = falls.before ++ (named_as news below ++ falls.after) in
              let added_here = new_sheets (suc level) entry es middle.next told in
              let whole : Stand later ((middle.sheets ++ added_here) ++ more) = subst (λ (xs : List Sheet). Stand later (xs ++ more)) (spread_sheets (suc level) entry es middle to told spread) stand in
              let here : Stand later added_here =
              all_right (λ (s : Sheet). slice_get later s.number ≡ Some s.page) middle.sheets added_here (all_left (λ (s : Sheet). slice_get later s.number ≡ Some s.page) (middle.sheets ++ added_here) more whole) in
              told_page level entry end es middle to told (let h = named.fits.is.is.high in omega (arith, h, level_is)) spread
              (mended_all last small old key level entry end from middle to told some is before named below next falls news orderly)
              (mended_up last small old key level entry end from middle to told some is before named below next falls news orderly) here b x a parts to_it leads
        ]

        -- the way goes down where the entry goes
        within : (LeadsTo last old k level below next e0 n0 → LeadsStill last later k level below next news e n) → xk ≡ below → falls_k.after ≡ falls.after
            → LeadsStill last later k (suc level) entry end told e n
        within go same after_is =
            let nexts : ok ≡ next = falls_k.next_is ∙ (ap (λ (xs : List Entry). first_or xs end) after_is ∙ sym falls.next_is) in
            let r = go (subst (λ (o : Option Key). LeadsTo last old k level below o e0 n0) nexts (subst (λ (x : Entry). LeadsTo last old k level x ok e0 n0) same leads_k)) in
            ends (falls.before ++ r.before) r.below (r.after ++ falls.after)
            (ap (λ (xs : List Entry). falls.before ++ (xs ++ falls.after)) r.parts ∙ ap (λ (xs : List Entry). falls.before ++ xs) (append_assoc r.before (r.below ∷ r.after) falls.after)
            ∙ sym (append_assoc falls.before r.before (r.below ∷ (r.after ++ falls.after))))
            (by_rest r.after r.to (subst (λ (xs : List Entry). IfSome (first_or xs None) (IsBefore k)) after_is falls_k.to))
            (subst (λ (o : Option Key). LeadsTo last later k level r.below o e n) (ap (λ (o : Option Key). first_or r.after o) falls.next_is ∙ sym (first_append r.after falls.after end)) r.leads)
          where
            by_rest : (xs : List Entry) → IfSome (first_or xs None) (IsBefore k) → IfSome (first_or falls.after None) (IsBefore k) → IfSome (first_or (xs ++ falls.after) None) (IsBefore k)
            by_rest [] h j = j
            by_rest (x ∷ xs) h j = h

        -- the way goes down before that
        sooner : (m : List Entry) → falls_k.after ≡ m ++ (below ∷ falls.after) → LeadsTo last old k level xk ok e n0
            → EndsThen n0 n (first_or (m ++ (below ∷ falls.after)) end) (first_or (m ++ (named_as news below ++ falls.after)) end) → LeadsStill last later k (suc level) entry end told e n
        sooner m after_is leads so =
            let ns = named_as news below in
            let ok_is : ok ≡ first_or (m ++ (below ∷ falls.after)) end = falls_k.next_is ∙ ap (λ (xs : List Entry). first_or xs end) after_is in
            let way : LeadsTo last old k level xk (first_or (m ++ (below ∷ falls.after)) end) e n0 = subst (λ (o : Option Key). LeadsTo last old k level xk o e n0) ok_is leads in
            let up_m : AscendTo (m ++ (below ∷ falls.after)) end = subst (λ (xs : List Entry). AscendTo xs end) after_is up_k.1 in
            let later_end = rest_later m (below ∷ falls.after) (ns ++ falls.after) end end (not_before below ns falls.after end orderly.later up.0) in
            let later_none = rest_later m (below ∷ falls.after) (ns ++ falls.after) None None (not_before below ns falls.after None orderly.later (first_none falls.after end below.first up.0)) in
            let before_is : falls.before ≡ falls_k.before ++ (xk ∷ m) =
            append_cancel_right falls.before (falls_k.before ++ (xk ∷ m)) (below ∷ falls.after)
            (sym falls.parts ∙ falls_k.parts ∙ ap (λ (xs : List Entry). falls_k.before ++ (xk ∷ xs)) after_is ∙ sym (append_assoc falls_k.before (xk ∷ m) (below ∷ falls.after))) in
            let parts : falls.before ++ (ns ++ falls.after) ≡ falls_k.before ++ (xk ∷ (m ++ (ns ++ falls.after))) =
            ap (λ (xs : List Entry). xs ++ (ns ++ falls.after)) before_is ∙ append_assoc falls_k.before (xk ∷ m) (ns ++ falls.after) in
            let first = first_there m below falls.after end in
            let near = first_up_to m below falls.after end up_m first.0 first.1 in
            ends falls_k.before xk (m ++ (ns ++ falls.after)) parts
            (if_later k (first_or (m ++ (below ∷ falls.after)) None) (first_or (m ++ (ns ++ falls.after)) None) (subst (λ (xs : List Entry). IfSome (first_or xs None) (IsBefore k)) after_is falls_k.to) later_none)
            (way_stays last old later k e n0 n level xk (first_or (m ++ (below ∷ falls.after)) end) (first_or (m ++ (ns ++ falls.after)) end) way later_end so
            (subst (λ (xs : List Entry). IfSome (first_or xs end) (IsBefore xk.first)) after_is up_k.0) whole_k
            (λ l x p le entry_x fits from_x to_x. stays_off l x p le entry_x fits (inl (before_le x.first first.0 below.first (subst (λ (o : Option Key). IfSome o (IsBefore x.first)) first.1 to_x) near))))

        -- that ends there still, or where f ended
        kept_end : (m : List Entry) → n0 ≡ n → (added ≡ None → n ≢ Some f.first) → EndsThen n0 n (first_or (m ++ (below ∷ falls.after)) end) (first_or (m ++ (named_as news below ++ falls.after)) end)
        kept_end m n_is other_n = (λ same. sym n_is ∙ same ∙ sym (end_stays m (sym n_is ∙ same)), λ z less same. sym n_is ∙ same)
          where
            end_stays : (m : List Entry) → n ≡ first_or (m ++ (below ∷ falls.after)) end → first_or (m ++ (named_as news below ++ falls.after)) end ≡ first_or (m ++ (below ∷ falls.after)) end
            end_stays (z ∷ m) same_n = refl
            end_stays [] same_n = elim (turned_first last old key added level below next from middle news f nf turns leads_below) [
              | inl still ↦ still_first news below falls.after end still
              | inr gone ↦ absurd (other_n gone.0 (same_n ∙ ap (λ (x : Key). Some x) (sym gone.1)))
            ]

        joined_end : (m : List Entry) → AscendTo (m ++ (below ∷ falls.after)) end → added ≡ None → n0 ≡ Some f.first → n ≡ nf
            → EndsThen n0 n (first_or (m ++ (below ∷ falls.after)) end) (first_or (m ++ (named_as news below ++ falls.after)) end)
        joined_end m up_m gone n0_is n_is = (
          λ same. n_is ∙ sym (joined_first m up_m (sym n0_is ∙ same)),
          λ z less same.
              let first = first_there m below falls.after end in
              let near = first_up_to m below falls.after end up_m first.0 first.1 in
              let key_is : f.first ≡ z = (let both : Some f.first ≡ Some z = sym n0_is ∙ same in cc) in
              absurd (from_f (subst (λ (j : Key). IsBefore j below.first) (sym key_is) (before_le z first.0 below.first (subst (λ (o : Option Key). IfSome o (IsBefore z)) first.1 less) near))),
        )
          where
            from_f : ¬ (IsBefore f.first below.first)
            from_f = ends_from last old key level below next f nf leads_below

            joined_first : (m : List Entry) → AscendTo (m ++ (below ∷ falls.after)) end → Some f.first ≡ first_or (m ++ (below ∷ falls.after)) end
                → first_or (m ++ (named_as news below ++ falls.after)) end ≡ nf
            joined_first [] up_m same =
                let key_is : f.first ≡ below.first = cc in
                first_append (named_as news below) falls.after end ∙ ap (λ (o : Option Key). first_or (named_as news below) o) (sym falls.next_is)
                ∙ turned_end last old key added level below next from middle news f nf gone turns leads_below key_is
            joined_first (z ∷ m) up_m same =
                let key_is : f.first ≡ z.first = cc in
                absurd (from_f (subst (λ (j : Key). IsBefore j below.first) (sym key_is)
                (before_found z m below falls.after (ascend_later (z ∷ (m ++ (below ∷ falls.after))) end None up_m (no_end end)))))

        -- the way goes down behind that
        further : (m : List Entry) → falls.after ≡ m ++ (xk ∷ falls_k.after) → LeadsTo last old k level xk ok e n → LeadsStill last later k (suc level) entry end told e n
        further m after_is leads =
            let ns = named_as news below in
            let parts : falls.before ++ (ns ++ falls.after) ≡ (falls.before ++ (ns ++ m)) ++ (xk ∷ falls_k.after) =
            ap (λ (xs : List Entry). falls.before ++ (ns ++ xs)) after_is ∙ ap (λ (xs : List Entry). falls.before ++ xs) (sym (append_assoc ns m (xk ∷ falls_k.after)))
            ∙ sym (append_assoc falls.before (ns ++ m) (xk ∷ falls_k.after)) in
            let first = first_there m xk falls_k.after end in
            let next_is : next ≡ Some first.0 = falls.next_is ∙ (ap (λ (xs : List Entry). first_or xs end) after_is ∙ first.1) in
            let near = first_up_to m xk falls_k.after end (subst (λ (xs : List Entry). AscendTo xs end) after_is up.1) first.0 first.1 in
            ends (falls.before ++ (ns ++ m)) xk falls_k.after parts falls_k.to
            (subst (λ (o : Option Key). LeadsTo last later k level xk o e n) falls_k.next_is
            (way_stays last old later k e n n level xk ok ok leads (same_end ok) ((λ same. same), (λ z less same. same)) xk_before whole_k
            (λ l x p le entry_x fits from_x to_x. stays_off l x p le entry_x fits (inr (first.0, next_is, le_trans first.0 xk.first x.first near from_x)))))

        -- the way to f itself doesn't part from that of the change; nor does one that ends before it go down behind that
        not_sooner : (m : List Entry) → falls_k.after ≡ m ++ (below ∷ falls.after) → ¬ (IsBefore k f.first) → ⊥
        not_sooner m after_is from_f =
            let first = first_there m below falls.after end in
            let near = first_up_to m below falls.after end (subst (λ (xs : List Entry). AscendTo xs end) after_is up_k.1) first.0 first.1 in
            let sooner_k : IsBefore k first.0 = subst (λ (o : Option Key). IfSome o (IsBefore k)) (sym (with_none m below falls.after end) ∙ first.1) (subst (λ (xs : List Entry). IfSome (first_or xs None) (IsBefore k)) after_is falls_k.to) in
            le_trans below.first f.first k (ends_from last old key level below next f nf leads_below) from_f (before_le k first.0 below.first sooner_k near)

        not_further : (m : List Entry) → falls.after ≡ m ++ (xk ∷ falls_k.after) → ¬ (IsBefore key e0.first) → ⊥
        not_further m after_is up_to =
            let first = first_there m xk falls_k.after end in
            let near = first_up_to m xk falls_k.after end (subst (λ (xs : List Entry). AscendTo xs end) after_is up.1) first.0 first.1 in
            let sooner_key : IsBefore key first.0 = subst (λ (o : Option Key). IfSome o (IsBefore key)) (sym (with_none m xk falls_k.after end) ∙ first.1) (subst (λ (xs : List Entry). IfSome (first_or xs None) (IsBefore key)) after_is falls.to) in
            ends_from last old k level xk ok e0 n0 leads_k (le_before e0.first key xk.first up_to (before_le key first.0 xk.first sooner_key near))

-- ---- the whole way

one_alone : (b : List Entry) (x : Entry) (a : List Entry) (y : Entry) → y ∷ [] ≡ b ++ (x ∷ a) → (x ≡ y) × (a ≡ [])
one_alone [] x a y same = (cc, cc)
one_alone (z ∷ b) x a y same = absurd (no_parts b x a (let rest : [] ≡ b ++ (x ∷ a) = cc in sym rest))

module _ (last : ℕ) (old later : List (List ℕ)) (sheets : List Sheet) (stand : Stand later sheets) (stay : IsKept last old later sheets) (k : Key) (e : Entry) (n : Option Key) where
  -- a root that gives way leads on from the one to which it does
  lowers_lead : (level root to at : ℕ) → 1 ≤ root → Lowers sheets old root level to at → LeadsTo last later k level (top root) None e n → LeadsTo last later k at (top to) None e n
  lowers_lead zero root to at some (same, same_level) leads =
      subst (λ (l : ℕ). LeadsTo last later k l (top to) None e n) (sym same_level) (subst (λ (m : ℕ). LeadsTo last later k zero (top m) None e n) (sym same) leads)
  lowers_lead (suc below) root to at some (inl (same, same_level)) leads =
      subst (λ (l : ℕ). LeadsTo last later k l (top to) None e n) (sym same_level) (subst (λ (m : ℕ). LeadsTo last later k (suc below) (top m) None e n) (sym same) leads)
  lowers_lead (suc below) root to at some (inr (page, sole, more, lowers)) (named, x, o, falls, leads) =
      lowers_lead below page to at some_page lowers
      (subst (λ (q : Option Key). LeadsTo last later k below (top page) q e n) (falls.next_is ∙ ap (λ (xs : List Entry). first_or xs None) place.1)
      (subst (λ (y : Entry). LeadsTo last later k below y o e n) place.0 leads))
    where
      page_same : page_then sheets old root ≡ page_in later root
      page_same = elim (spelled_then later sheets root stand) [
        | inl some_page ↦ ap (λ (p : Option (List ℕ)). spelled_or p (page_in old root)) some_page.1 ∙ sym (page_is later root some_page.0 some_page.2)
        | inr none ↦ ap (λ (p : Option (List ℕ)). spelled_or p (page_in old root)) none.0 ∙ sym (same_page old later root (stay root some none.1 (inr named.fits.is)))
      ]

      one : (entry : Entry) × (entries_of later root ≡ entry ∷ []) × (entry.page ≡ page)
      one = sole_is (entries_of later root) page (ap (λ (p : List ℕ). sole_page (node_on p).entries) (sym page_same) ∙ sole)

      first : one.0.first ≡ origin
      first = let begins : Some one.0.first ≡ Some origin = subst (λ (xs : List Entry). first_or xs None ≡ Some origin) one.1 named.fits.begins in cc

      list : entries_of later root ≡ top page ∷ []
      list = one.1 ∙ ap (λ (y : Entry). y ∷ []) (entry_is one.0 origin page first one.2)

      place : (x ≡ top page) × (falls.after ≡ [])
      place = one_alone falls.before x falls.after (top page) (sym list ∙ falls.parts)

      some_page : 1 ≤ page
      some_page = (subst (λ (xs : List Entry). AllByRecursion (IsEntry last) xs) list named.fits.is.is.entries).0.some_page

root_less : (last : ℕ) (pages : List (List ℕ)) (k : Key) (level root : ℕ) (e : Entry) (n : Option Key) → 1 ≤ level → LeadsTo last pages k level (top root) None e n → root < length pages
root_less last pages k zero root e n some leads = absurd (omega arith)
root_less last pages k (suc level) root e n some leads = slice_get_within pages root (page_in pages root) leads.0.there

-- a change of a region's entry that is prepared: it goes, or gets another one behind it
module _ (index : IndexView) (old : StoreFacts) (key : Key) (added : Option Entry) (start next : ℕ) (change : ChangeView) (room : page_count old ≤ next) where
  -- what is spelled for it stands under numbers that are different
  prepared_once : IsPrepared index old key added start (so_far [] next) change → AreOnce change.sheets
  prepared_once (middle, told, turns, settles) = by_told told settles
    where
      once : AreOnce middle.sheets
      once = turned_once index.last old.pages key added index.levels (top index.root) None (so_far [] next) middle told refl room tt turns

      in_it : AllByRecursion (λ s. IsSpelledIn old.pages index.levels origin None next middle.next s.number) middle.sheets × (next ≤ middle.next)
      in_it = spelled_within index.last old.pages key added index.levels (top index.root) None (so_far [] next) middle told refl tt turns

      by_told : (t : Told) → Settles index.root index.levels t start middle change → AreOnce change.sheets
      by_told Same h = subst (λ (c : ChangeView). AreOnce c.sheets) (sym h) once
      by_told Gone h = absurd h
      by_told (One other) h = subst (λ (c : ChangeView). AreOnce c.sheets) (sym h) once
      by_told (Two left right) h =
          subst (λ (c : ChangeView). AreOnce c.sheets) (sym h.2) (once_join middle.sheets (sheet_of middle.next (index.levels + 1) (left ∷ right ∷ []) ∷ []) once (tt, tt)
          (next_unspelled index.last old.pages index.levels origin None next middle.next middle.sheets room in_it.1 in_it.0, tt))

  -- the way to each region leads where it is to
  module _ (new : StoreFacts) (other : Key) (region found : Region) (e : Entry) (n : Option Key) (small : index.last < 2 ^ 128) (low : 1 ≤ index.levels) (some : 1 ≤ index.root)
      (fine : index.root < page_count old → IsFine index.last added (entry_at region) region.next) (behind : added ≡ None → IsBefore origin region.first) (leads : Leads index old key region)
      (way : Leads index old other found) (k_from : ¬ (IsBefore other e.first))
      (aim : IsAim index.last small old.pages new.pages other e n k_from key added (entry_at region) region.next (entry_at found) found.next) where
    abbrev LeadsThen : ℕ → ℕ → Type 0
    LeadsThen levels root = LeadsTo index.last new.pages other levels (top root) None e n

    prepared_lead : page_count old < 2 ^ 32 → IsPrepared index old key added start (so_far [] next) change → Stand new.pages change.sheets → KeepsIndex index.last old.pages new.pages change.sheets
        → LeadsThen change.levels change.root
    prepared_lead few (middle, told, turns, settles) stand stay = by_told told refl settles
      where
        less : index.root < page_count old
        less = root_less index.last old.pages key index.levels index.root (entry_at region) region.next low leads

        root_whole : IsEntry index.last (top index.root)
        root_whole = record { z = omega arith; number = omega arith; some_page = some; page = (let l = less in omega arith) }

        begins : BeginsStill told (top index.root)
        begins = elim (turned_first index.last old.pages key added index.levels (top index.root) None (so_far [] next) middle told (entry_at region) region.next turns leads) [
          | inl still ↦ still
          | inr gone ↦ absurd (not_before_self origin (subst (λ (x : Key). IsBefore origin x) gone.1 (behind gone.0)))
        ]

        still : (more : List Sheet) → AllByRecursion (λ s. IsHigher old.pages index.levels s.number) more → change.sheets ≡ middle.sheets ++ more
            → LeadsStill index.last new.pages other index.levels (top index.root) None told e n
        still more high sheets_are =
            beside index.last small old.pages new.pages other e n k_from key added (entry_at region) region.next (fine less) (entry_at found) found.next aim
            index.levels (top index.root) None (so_far [] next) middle told more refl (let l = less in omega (arith, l, room)) room root_whole tt turns leads way high
            (subst (λ (xs : List Sheet). Stand new.pages xs) sheets_are stand) (subst (λ (xs : List Sheet). KeepsIndex index.last old.pages new.pages xs) sheets_are stay)

        by_told : (t : Told) → told ≡ t → Settles index.root index.levels t start middle change → LeadsThen change.levels change.root
        by_told Same is h =
            let r = still [] tt (ap (λ (c : ChangeView). c.sheets) h ∙ sym (append-nil middle.sheets)) in
            let one = one_alone r.before r.below r.after (top index.root) (ap (λ (t : Told). named_as t (top index.root)) (sym is) ∙ r.parts) in
            subst (λ (c : ChangeView). LeadsThen c.levels c.root) (sym h)
            (subst (λ (x : Entry). LeadsTo index.last new.pages other index.levels x None e n) one.0
            (subst (λ (xs : List Entry). LeadsTo index.last new.pages other index.levels r.below (first_or xs None) e n) one.1 r.leads))
        by_told Gone is h = absurd h
        by_told (One x) is h = absurd (subst (λ (t : Told). BeginsStill t (top index.root)) is begins)
        by_told (Two left right) is h =
            let in_it = spelled_within index.last old.pages key added index.levels (top index.root) None (so_far [] next) middle told refl tt turns in
            let sheet = sheet_of middle.next (index.levels + 1) (left ∷ right ∷ []) in
            let r = still (sheet ∷ []) (inr (omega (arith, room, in_it.1)), tt) (ap (λ (c : ChangeView). c.sheets) h.2) in
            let o : IsOrderly index.last (top index.root) None (Two left right) = subst (λ (t : Told). IsOrderly index.last (top index.root) None t) is
            (turned index.last small old.pages key added index.levels (top index.root) None (so_far [] next) middle told (let l = less in omega (arith, l, room)) root_whole tt
            (fine_found index.last old.pages key added index.levels (top index.root) None (entry_at region) region.next (fine less) leads) tt turns).0 in
            let stands = all_right (λ (s : Sheet). slice_get new.pages s.number ≡ Some s.page) middle.sheets (sheet ∷ []) (subst (λ (c : ChangeView). Stand new.pages c.sheets) h.2 stand) in
            let t = root_told index.last small new.pages middle.next index.levels left right h.0 o.all o.up (subst (λ (t : Told). BeginsStill t (top index.root)) is begins) stands in
            let one : suc index.levels ≡ index.levels + 1 = omega arith in
            subst (λ (c : ChangeView). LeadsThen c.levels c.root) (sym h.2)
            (subst (λ (l : ℕ). LeadsThen l middle.next) one
            (down index.last small old.pages new.pages other e n k_from index.levels (top middle.next) None r.before r.below r.after
            (told_named index.last new.pages (suc index.levels) (left ∷ right ∷ []) (top middle.next) None t o.up)
            (t.entries_are ∙ ap (λ (t : Told). named_as t (top index.root)) (sym is) ∙ r.parts) r.to r.leads))

-- once a region's entry has gone
module _ (index : IndexView) (old new : StoreFacts) (key other : Key) (region found : Region) (change : ChangeView) (small : index.last < 2 ^ 128) (low : 1 ≤ index.levels) (some : 1 ≤ index.root)
    (few : page_count old < 2 ^ 32) (dropped : IsDropped index old key change) (leads : Leads index old key region) (behind : IsBefore origin region.first) (stand : Stand new.pages change.sheets)
    (stay : IsKept index.last old.pages new.pages change.sheets) (way : Leads index old other found) where
  k_from : ¬ (IsBefore other found.first)
  k_from = (ways_hold index old other found way).0.from

  lead_on : (n : Option Key) → IsAim index.last small old.pages new.pages other (entry_at found) n k_from key None (entry_at region) region.next (entry_at found) found.next
      → LeadsTo index.last new.pages other change.levels (top change.root) None (entry_at found) n
  lead_on n aim = by_parts dropped
    where
      by_parts : IsDropped index old key change → LeadsTo index.last new.pages other change.levels (top change.root) None (entry_at found) n
      by_parts (first, made, lowers) =
          let sheets_are : change.sheets ≡ first.sheets = ap (λ (c : ChangeView). c.sheets) lowers.same in
          let stand_first : Stand new.pages first.sheets = subst (λ (xs : List Sheet). Stand new.pages xs) sheets_are stand in
          let stay_first : IsKept index.last old.pages new.pages first.sheets = subst (λ (xs : List Sheet). IsKept index.last old.pages new.pages xs) sheets_are stay in
          lowers_lead index.last old.pages new.pages first.sheets stand_first stay_first other (entry_at found) n first.levels first.root change.root change.levels (some_root first made) lowers.lowers
          (prepared_lead index old key None (page_count old) (page_count old) first (omega arith) new other region found (entry_at found) n small low some (λ _. record { up = tt; later = tt; entries = tt }) (λ _. behind)
          leads way k_from aim few made stand_first (λ m some_m less free fits. stay_first m some_m free (inl fits)))
        where
          some_root : (first : ChangeView) → IsPrepared index old key None (page_count old) (so_far [] (page_count old)) first → 1 ≤ first.root
          some_root first (middle, told, turns, settles) = by_told told (narrow index.last old.pages key index.levels (top index.root) None (so_far [] (page_count old)) middle told turns).0 settles
            where
              by_told : (t : Told) → IsAtMostOne t → Settles index.root index.levels t (page_count old) middle first → 1 ≤ first.root
              by_told Same n h = subst (λ (c : ChangeView). 1 ≤ c.root) (sym h) some
              by_told Gone n h = absurd h
              by_told (One x) n h = subst (λ (c : ChangeView). 1 ≤ c.root) (sym h) some
              by_told (Two left right) n h = absurd n

  -- the way to each other one leads there still, unless that stood before it
  pub others_stay : found.first ≢ region.first → found.next ≢ Some region.first → Leads (changed index change) new other found
  others_stay other_e other_n = lead_on found.next (inl (refl, refl, other_e, (λ _. other_n)))

  -- and that to the one that stood before it leads to that, which ends where the other one ended
  pub joined_lead : key ≡ region.first → found.next ≡ Some region.first → LeadsTo index.last new.pages other change.levels (top change.root) None (entry_at found) region.next
  joined_lead key_is ends = lead_on region.next (inr (inr (refl, key_is, refl, ends, refl)))

pub dropped_once : (index : IndexView) (store : StoreFacts) (key : Key) (change : ChangeView) → IsDropped index store key change → AreOnce change.sheets
dropped_once index store key change (first, made, lowers) =
    subst (λ (c : ChangeView). AreOnce c.sheets) (sym lowers.same) (prepared_once index store key None (page_count store) (page_count store) first (omega arith) made)

-- once the entry of a region has come behind another one
module _ (index : IndexView) (old new : StoreFacts) (other : Key) (region : Region) (first : Key) (change : ChangeView) (small : index.last < 2 ^ 128) (low : 1 ≤ index.levels) (some : 1 ≤ index.root)
    (few : page_count old < 2 ^ 32) (made : IsPrepared index old region.first (Some (added_at first old)) (page_count old) (so_far [] (page_count old + 1)) change)
    (leads : Leads index old region.first region) (inside : IsWithinRegion index.last region.first region.next first) (stand : Stand new.pages change.sheets)
    (stay : KeepsIndex index.last old.pages new.pages change.sheets) where
  aimed : (found : Region) (e : Entry) (n : Option Key) → Leads index old other found → (k_from : ¬ (IsBefore other e.first))
      → IsAim index.last small old.pages new.pages other e n k_from region.first (Some (added_at first old)) (entry_at region) region.next (entry_at found) found.next
      → LeadsTo index.last new.pages other change.levels (top change.root) None e n
  aimed found e n way k_from aim =
      prepared_lead index old region.first (Some (added_at first old)) (page_count old) (page_count old + 1) change (omega arith) new other region found e n small low some
      (λ less. added_fine_at index old region first some few leads inside less) (λ none. cc) leads way k_from aim few made stand stay

  -- the way to each region but that one leads there still
  pub others_stay_added : (found : Region) → Leads index old other found → found.first ≢ region.first → Leads (changed index change) new other found
  others_stay_added found way other_e = aimed found (entry_at found) found.next way (ways_hold index old other found way).0.from (inl (refl, refl, other_e, (λ none. cc)))

  -- and that to that one leads to it where the key is before the new one's first, and else to the new one
  pub halves_lead : Leads index old other region
      → (IsBefore other first → LeadsTo index.last new.pages other change.levels (top change.root) None (entry_at region) (Some first))
      × (¬ (IsBefore other first) → LeadsTo index.last new.pages other change.levels (top change.root) None (added_at first old) region.next)
  halves_lead way =
      let from = (ways_hold index old other region way).0.from in (
        λ less. aimed region (entry_at region) (Some first) way from (inr (inl (refl, refl, from, added_at first old, refl, inl (refl, refl, less)))),
        λ more. aimed region (added_at first old) region.next way more (inr (inl (refl, refl, from, added_at first old, refl, inr (refl, refl)))),
      )

pub added_once : (index : IndexView) (store : StoreFacts) (region : Region) (first : Key) (change : ChangeView)
    → IsPrepared index store region.first (Some (added_at first store)) (page_count store) (so_far [] (page_count store + 1)) change → AreOnce change.sheets
added_once index store region first change made = prepared_once index store region.first (Some (added_at first store)) (page_count store) (page_count store + 1) change (omega arith) made
