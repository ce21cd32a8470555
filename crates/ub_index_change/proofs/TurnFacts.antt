-- What an entry of an index becomes where a change turns: on the later pages it is what `Becomes` says.
use Rattle.std.proofs.Common.{◌≡◌, ◌≢◌, ◌≤◌, ◌<◌, ◌^◌, ◌++◌, inl, inr, ℕ, zero, suc, nat_eq, List, [], ◌∷◌, Option, Some, None, length, slice_get, ◌∙◌, sym, ap, subst, refl, arith, append_assoc}
use Rattle.ub_index_change.proofs.Common.{all_append, all_both, all_left, all_more, all_right, AllByRecursion, apart_swap, append-nil, AreOnce, AscendTo}
use Rattle.ub_index_change.proofs.Common.{Becomes, distinct_apart, distinct_cons, distinct_first, distinct_join, distinct_left, distinct_rest, distinct_right}
use Rattle.ub_index_change.proofs.Common.{each_right, EachTo, entries_of, Entry, FallsTo, first_or, flat_map, flat_map-append, IsDistinct, IsEntry, IsFine}
use Rattle.ub_index_change.proofs.Common.{IsNoNew, IsOutside, IsTold, IsUnder, IsUnspelled, kept_named, kept_pages_list, Key, LeadsTo, Mends, named_as}
use Rattle.ub_index_change.proofs.Common.{no_pages, node_on, outside_less, page_in, pages_under, PagesStay, Same, same_entries, Sheet, slice_get_within}
use Rattle.ub_index_change.proofs.Common.{Spelled, Spreads, Stand, StandApart, StandOn, StayBut, Stays, Told, Turns, up_below, whole_below, with_added}
use Rattle.ub_index_change.proofs.Common.{within_store}
use Rattle.ub_index_change.proofs.Changes.{ascend_mended, stays}
use Rattle.ub_index_change.proofs.FullFacts.{mends_or}
use Rattle.ub_index_change.proofs.SheetNumbers.{no_new_left, no_new_right, once_join}
use Rattle.ub_index_change.proofs.SpreadFacts.{ToldOn, new_sheets, one_pages, pages_among, pages_own, spread_apart, spread_named, spread_next, spread_once}
use Rattle.ub_index_change.proofs.SpreadFacts.{spread_outside, spread_sheets, stand_told, told_spread}

-- what a change makes of an entry: which region's entry it turns at, the pages that it spells, and what holds on all later pages on
-- which those stand, and the other ones as they were
pub record Risen (last : ℕ) (old : List (List ℕ)) (key : Key) (added : Option Entry) (level : ℕ) (entry : Entry) (end : Option Key) (from to : Spelled) (told : Told) : Type 0 where
  pub found : Entry
  pub next : Option Key
  pub leads : LeadsTo last old key level entry end found next
  pub sheets : List Sheet
  pub sheets_are : to.sheets ≡ from.sheets ++ sheets
  pub grown : from.next ≤ to.next
  pub named : AllByRecursion (IsEntry last) (named_as told entry)
  pub outside : (n : ℕ) → IsNoNew from.next to.next n → IsOutside n (pages_under old level entry) → IsUnspelled n sheets
  pub once : AreOnce sheets
  pub reached : (later : List (List ℕ)) → Stand later sheets → StayBut old later sheets (pages_under old level entry) → IsDistinct nat_eq (flat_map (pages_under later level) (named_as told entry))
  pub among : (later : List (List ℕ)) → Stand later sheets → StayBut old later sheets (pages_under old level entry) → (n : ℕ) → IsNoNew from.next to.next n
      → IsOutside n (pages_under old level entry) → IsOutside n (flat_map (pages_under later level) (named_as told entry))
  pub becomes : (later : List (List ℕ)) → Stand later sheets → StayBut old later sheets (pages_under old level entry)
      → Becomes last old later found (named_as (with_added added found) found) next level entry end (named_as told entry)

pub unspelled_left : (n : ℕ) (xs ys : List Sheet) → IsUnspelled n xs → IsUnspelled n ys → IsUnspelled n (xs ++ ys)
unspelled_left n xs ys h k = all_append (λ (s : Sheet). n ≢ s.number) xs ys h k

-- a page of the store that stands apart from a part of it stays where that part alone is spelled anew
stay_apart : (old later : List (List ℕ)) (sheets : List Sheet) (count : ℕ) (part others : List ℕ)
    → ((n : ℕ) → n < count → IsOutside n part → IsUnspelled n sheets) → AllByRecursion (λ n. n < count) others → StandApart others part
    → StayBut old later sheets others → PagesStay old later others
stay_apart old later sheets count part others outside less apart stay =
    let free : AllByRecursion (λ n. IsUnspelled n sheets) others =
    all_both (λ n. n < count) (λ n. IsOutside n part) (λ n. IsUnspelled n sheets) outside others less apart in
    all_both (λ n. IsUnspelled n sheets) (λ n. IsUnspelled n sheets → slice_get later n ≡ slice_get old n) (λ n. slice_get later n ≡ slice_get old n) (λ n is f. f is) others free stay

module _ (last : ℕ) (small : last < 2 ^ 128) (old : List (List ℕ)) (key : Key) (added : Option Entry) where
  -- one level up, where the entry below became `news`
  module _ (level : ℕ) (entry below : Entry) (end next : Option Key) (from : Spelled) (room : length old ≤ from.next) (is : IsUnder last old (suc level) entry end)
      (distinct : IsDistinct nat_eq (pages_under old (suc level) entry)) (falls : FallsTo key (entries_of old entry.page) end below next) where
    abbrev A : List ℕ
    A = flat_map (pages_under old level) falls.before

    abbrev B : List ℕ
    B = pages_under old level below

    abbrev C : List ℕ
    C = flat_map (pages_under old level) falls.after

    parts : flat_map (pages_under old level) (entries_of old entry.page) ≡ A ++ (B ++ C)
    parts = ap (λ (xs : List Entry). flat_map (pages_under old level) xs) falls.parts ∙ flat_map-append (pages_under old level) falls.before (below ∷ falls.after)

    page_there : entry.page < length old
    page_there = slice_get_within old entry.page (page_in old entry.page) is.0.there

    less : AllByRecursion (λ n. n < from.next) (A ++ (B ++ C))
    less =
        subst (λ (ns : List ℕ). AllByRecursion (λ n. n < from.next) ns) parts
        (all_more (λ n. n < length old) (λ n. n < from.next) (λ n lt. omega arith) (flat_map (pages_under old level) (entries_of old entry.page)) (within_store last old (suc level) entry end is).1)

    own : IsOutside entry.page (A ++ (B ++ C))
    own = subst (λ (ns : List ℕ). IsOutside entry.page ns) parts (distinct_first entry.page (flat_map (pages_under old level) (entries_of old entry.page)) distinct)

    apart : IsDistinct nat_eq (A ++ (B ++ C))
    apart = subst (λ (ns : List ℕ). IsDistinct nat_eq ns) parts (distinct_rest entry.page (flat_map (pages_under old level) (entries_of old entry.page)) distinct)

    before_apart : StandApart A B
    before_apart = all_more (λ n. IsOutside n (B ++ C)) (λ n. IsOutside n B) (λ n h. all_left (λ m. n ≢ m) B C h) A (distinct_apart A (B ++ C) apart)

    after_apart : StandApart C B
    after_apart = apart_swap B C (distinct_apart B C (distinct_right A (B ++ C) apart))

    under_below : IsUnder last old level below (first_or falls.after end)
    under_below =
        (each_right (IsUnder last old level) falls.before (below ∷ falls.after) end (subst (λ (xs : List Entry). EachTo (IsUnder last old level) xs end) falls.parts is.1)).0

    entries_all : AllByRecursion (IsEntry last) (falls.before ++ (below ∷ falls.after))
    entries_all = subst (λ (xs : List Entry). AllByRecursion (IsEntry last) xs) falls.parts is.0.fits.is.is.entries

    high : suc level ≤ 16
    high = let h = is.0.fits.is.is.high in let e : (node_on (page_in old entry.page)).level ≡ suc level = is.0.fits.level_is in omega arith

    less_parts : AllByRecursion (λ n. n < from.next) A × AllByRecursion (λ n. n < from.next) B × AllByRecursion (λ n. n < from.next) C
    less_parts =
        let behind = all_right (λ n. n < from.next) A (B ++ C) less in
        (all_left (λ n. n < from.next) A (B ++ C) less, all_left (λ n. n < from.next) B C behind, all_right (λ n. n < from.next) B C behind)

    own_b : IsOutside entry.page B
    own_b = all_left (λ m. entry.page ≢ m) B C (all_right (λ m. entry.page ≢ m) A (B ++ C) own)

    -- what holds of the entry below
    pub below_under : IsUnder last old level below next
    below_under = subst (λ (o : Option Key). IsUnder last old level below o) (sym falls.next_is) under_below

    pub below_distinct : IsDistinct nat_eq (pages_under old level below)
    below_distinct = distinct_left B C (distinct_right A (B ++ C) apart)

    module _ (middle : Spelled) (news : Told) (r : Risen last old key added level below next from middle news) (fine : IsFine last added r.found r.next) (whole : IsEntry last entry)
        (leads : LeadsTo last old key (suc level) entry end r.found r.next) where
      becomes_below : (later : List (List ℕ)) → Stand later r.sheets → StayBut old later r.sheets B
          → Becomes last old later r.found (named_as (with_added added r.found) r.found) r.next level below (first_or falls.after end) (named_as news below)
      becomes_below later stand stay =
          subst (λ (o : Option Key). Becomes last old later r.found (named_as (with_added added r.found) r.found) r.next level below o (named_as news below)) falls.next_is (r.becomes later stand stay)

      stays_below : (later : List (List ℕ)) → Stand later r.sheets → StayBut old later r.sheets B → Stays last later level below (first_or falls.after end) (named_as news below)
      stays_below later stand stay =
          stays last old later r.found (named_as (with_added added r.found) r.found) r.next level below (first_or falls.after end) (named_as news below) fine.up fine.later (up_below last old key (suc level) entry end below next is.0 falls).0 under_below
          (becomes_below later stand stay)

      -- the entries of the page from then on
      abbrev mended : List Entry
      mended = falls.before ++ (named_as news below ++ falls.after)

      mended_all : AllByRecursion (IsEntry last) mended
      mended_all =
          all_append (IsEntry last) falls.before (named_as news below ++ falls.after) (all_left (IsEntry last) falls.before (below ∷ falls.after) entries_all)
          (all_append (IsEntry last) (named_as news below) falls.after r.named (all_right (IsEntry last) falls.before (below ∷ falls.after) entries_all).1)

      mended_pages : (later : List (List ℕ)) → PagesStay old later A → PagesStay old later C
          → flat_map (pages_under later level) mended ≡ A ++ (flat_map (pages_under later level) (named_as news below) ++ C)
      mended_pages later kept_a kept_c =
          flat_map-append (pages_under later level) falls.before (named_as news below ++ falls.after)
          ∙ (ap (λ (ns : List ℕ). flat_map (pages_under later level) falls.before ++ ns) (flat_map-append (pages_under later level) (named_as news below) falls.after)
          ∙ (ap (λ (ns : List ℕ). ns ++ (flat_map (pages_under later level) (named_as news below) ++ flat_map (pages_under later level) falls.after)) (kept_pages_list old later level falls.before kept_a)
          ∙ ap (λ (ns : List ℕ). flat_map (pages_under old level) falls.before ++ (flat_map (pages_under later level) (named_as news below) ++ ns))
          (kept_pages_list old later level falls.after kept_c)))

      -- on the later pages, where the store's other pages under the entry are as they were
      module _ (later : List (List ℕ)) (stand : Stand later r.sheets) (stay : StayBut old later r.sheets (A ++ (B ++ C))) where
        abbrev S : ℕ → Type 0
        S n = IsUnspelled n r.sheets → slice_get later n ≡ slice_get old n

        part_below : StayBut old later r.sheets B
        part_below = all_left S B C (all_right S A (B ++ C) stay)

        kept_a : PagesStay old later A
        kept_a = stay_apart old later r.sheets from.next B A (λ n lt h. r.outside n (inl lt) h) less_parts.0 before_apart (all_left S A (B ++ C) stay)

        kept_c : PagesStay old later C
        kept_c = stay_apart old later r.sheets from.next B C (λ n lt h. r.outside n (inl lt) h) less_parts.2 after_apart (all_right S B C (all_right S A (B ++ C) stay))

        abbrev N : List ℕ
        N = flat_map (pages_under later level) (named_as news below)

        among_below : (n : ℕ) → IsNoNew from.next middle.next n → IsOutside n B → IsOutside n N
        among_below n new h = r.among later stand part_below n new h

        off : (ns : List ℕ) → AllByRecursion (λ n. n < from.next) ns → StandApart ns B → StandApart ns N
        off ns lt h = all_both (λ n. n < from.next) (λ n. IsOutside n B) (λ n. IsOutside n N) (λ n less k. among_below n (inl less) k) ns lt h

        reached_parts : IsDistinct nat_eq (A ++ (N ++ C))
        reached_parts =
            let a_c = all_more (λ n. IsOutside n (B ++ C)) (λ n. IsOutside n C) (λ n h. all_right (λ m. n ≢ m) B C h) A (distinct_apart A (B ++ C) apart) in
            let reached_nc = distinct_join N C (r.reached later stand part_below) (distinct_right B C (distinct_right A (B ++ C) apart)) (apart_swap C N (off C less_parts.2 after_apart)) in
            let apart_a : StandApart A (N ++ C) =
            all_both (λ n. IsOutside n N) (λ n. IsOutside n C) (λ n. IsOutside n (N ++ C)) (λ n h k. all_append (λ m. n ≢ m) N C h k) A (off A less_parts.0 before_apart) a_c in
            distinct_join A (N ++ C) (distinct_left A (B ++ C) apart) reached_nc apart_a

        among_parts : (n : ℕ) → IsNoNew from.next middle.next n → IsOutside n (A ++ (B ++ C)) → IsOutside n (A ++ (N ++ C))
        among_parts n new h =
            let right = all_right (λ m. n ≢ m) A (B ++ C) h in
            all_append (λ m. n ≢ m) A (N ++ C) (all_left (λ m. n ≢ m) A (B ++ C) h)
            (all_append (λ m. n ≢ m) N C (among_below n new (all_left (λ m. n ≢ m) B C right)) (all_right (λ m. n ≢ m) B C right))

        reached_mended : IsDistinct nat_eq (flat_map (pages_under later level) mended)
        reached_mended = subst (λ (ns : List ℕ). IsDistinct nat_eq ns) (sym (mended_pages later kept_a kept_c)) reached_parts

        among_mended : (n : ℕ) → IsNoNew from.next middle.next n → IsOutside n (A ++ (B ++ C)) → IsOutside n (flat_map (pages_under later level) mended)
        among_mended n new h = subst (λ (ns : List ℕ). IsOutside n ns) (sym (mended_pages later kept_a kept_c)) (among_parts n new h)

        becomes_then : (told : List Entry) → StandOn last later (suc level) entry.page mended told
            → Becomes last old later r.found (named_as (with_added added r.found) r.found) r.next (suc level) entry end told
        becomes_then told there = (falls.before, falls.after, below, named_as news below, falls.parts, becomes_below later stand part_below, kept_a, kept_c, there)

      module _ (to : Spelled) (told : Told) (spread : Spreads (suc level) entry mended middle to told) where
        abbrev extra : List Sheet
        extra = new_sheets (suc level) entry mended middle.next told

        more : middle.next ≤ to.next
        more = spread_next (suc level) entry mended middle to told spread

        page_less : entry.page < middle.next
        page_less = let g = r.grown in let p = page_there in omega arith

        far : (n : ℕ) → IsNoNew from.next to.next n → n ≢ entry.page → IsOutside n B → IsUnspelled n (r.sheets ++ extra)
        far n new p h =
            unspelled_left n r.sheets extra (r.outside n (no_new_left from.next middle.next to.next n more new) h)
            (spread_outside (suc level) entry mended middle to told spread n p (no_new_right from.next middle.next to.next n r.grown new))

        -- what isn't spelled below is as it was, but for the entry's page
        below_stay : (later : List (List ℕ)) (ns : List ℕ) → AllByRecursion (λ n. n < from.next) ns → IsOutside entry.page ns → StayBut old later (r.sheets ++ extra) ns
            → StayBut old later r.sheets ns
        below_stay later [] lt ow st = tt
        below_stay later (n ∷ ns) lt ow st = (
          λ free. st.0 (unspelled_left n r.sheets extra free
              (spread_outside (suc level) entry mended middle to told spread n (λ e. ow.0 (sym e)) (no_new_right from.next middle.next to.next n r.grown (inl lt.0)))),
          below_stay later ns lt.1 ow.1 st.1,
        )

        module _ (later : List (List ℕ)) (stand : Stand later (r.sheets ++ extra)) (stay : StayBut old later (r.sheets ++ extra) (pages_under old (suc level) entry)) where
          stand_below : Stand later r.sheets
          stand_below = all_left (λ (s : Sheet). slice_get later s.number ≡ Some s.page) r.sheets extra stand

          stay_below : StayBut old later r.sheets (A ++ (B ++ C))
          stay_below = below_stay later (A ++ (B ++ C)) less own (subst (λ (ns : List ℕ). StayBut old later (r.sheets ++ extra) ns) parts stay.1)

          told_so : ToldOn last small later (suc level) entry mended middle.next told
          told_so =
              let below_it = stays_below later stand_below (part_below later stand_below stay_below) in
              let up = ascend_mended falls.before below falls.after (named_as news below) end (subst (λ (xs : List Entry). AscendTo xs end) falls.parts is.0.fits.ascends)
              below_it.later below_it.ascends in
              told_spread last small later level entry mended end middle to told high spread mended_all up
              (all_right (λ (s : Sheet). slice_get later s.number ≡ Some s.page) r.sheets extra stand)

          becomes_so : Becomes last old later r.found (named_as (with_added added r.found) r.found) r.next (suc level) entry end (named_as told entry)
          becomes_so = becomes_then later stand_below stay_below (named_as told entry) (stand_told last small later (suc level) entry mended middle.next told told_so)

          reached_so : IsDistinct nat_eq (flat_map (pages_under later (suc level)) (named_as told entry))
          reached_so =
              let out_p = among_mended later stand_below stay_below entry.page (inl (let p = page_there in omega arith)) own in
              let all_less : AllByRecursion (λ n. n < middle.next) (A ++ (B ++ C)) = all_more (λ n. n < from.next) (λ n. n < middle.next) (λ n lt. let g = r.grown in omega arith) (A ++ (B ++ C)) less in
              let out_q = among_mended later stand_below stay_below middle.next (inr (omega arith)) (outside_less middle.next (A ++ (B ++ C)) all_less) in
              pages_own last small later level entry mended middle.next told told_so (reached_mended later stand_below stay_below) out_p out_q page_less

          among_so : (n : ℕ) → IsNoNew from.next to.next n → IsOutside n (pages_under old (suc level) entry) → IsOutside n (flat_map (pages_under later (suc level)) (named_as told entry))
          among_so n new h =
              pages_among last small later level entry mended middle to told spread told_so n h.0 (no_new_right from.next middle.next to.next n r.grown new)
              (among_mended later stand_below stay_below n (no_new_left from.next middle.next to.next n more new) (subst (λ (ns : List ℕ). IsOutside n ns) parts h.1))

        -- where what stands on the page is spelled anew
        rise_spread : Risen last old key added (suc level) entry end from to told
        rise_spread = record {
          found = r.found;
          next = r.next;
          leads = leads;
          sheets = r.sheets ++ extra;
          sheets_are = spread_sheets (suc level) entry mended middle to told spread ∙ (ap (λ (xs : List Sheet). xs ++ extra) r.sheets_are ∙ append_assoc from.sheets r.sheets extra);
          grown = let g = r.grown in let h = spread_next (suc level) entry mended middle to told spread in omega arith;
          named = spread_named last (suc level) entry mended middle to told spread whole (let g = r.grown in let p = page_there in omega arith) mended_all;
          outside = λ n new h. far n new h.0 (all_left (λ m. n ≢ m) B C (all_right (λ m. n ≢ m) A (B ++ C) (subst (λ (ns : List ℕ). IsOutside n ns) parts h.1)));
          once = once_join r.sheets extra r.once (spread_once (suc level) entry mended middle.next told page_less)
              (spread_apart (suc level) entry mended middle.next told r.sheets (r.outside entry.page (inl (let p = page_there in omega arith)) own_b)
              (r.outside middle.next (inr (omega arith)) (outside_less middle.next B (all_more (λ n. n < from.next) (λ n. n < middle.next) (λ n lt. let g = r.grown in omega arith) B less_parts.1))));
          reached = reached_so;
          among = among_so;
          becomes = becomes_so;
        }

      -- where the entry below is as it was
      module _ (unchanged : news ≡ Same) where
        list : falls.before ++ (below ∷ falls.after) ≡ falls.before ++ (named_as news below ++ falls.after)
        list = ap (λ (t : Told). falls.before ++ (named_as t below ++ falls.after)) (sym unchanged)

        module _ (later : List (List ℕ)) (stand : Stand later r.sheets) (stay : StayBut old later r.sheets (pages_under old (suc level) entry)) where
          same_parts : StayBut old later r.sheets (A ++ (B ++ C))
          same_parts = subst (λ (ns : List ℕ). StayBut old later r.sheets ns) parts stay.1

          page_new : entry.page < from.next
          page_new = let p = page_there in omega arith

          same_told : IsTold last later (suc level) mended entry
          same_told =
              let here = stay.0 (r.outside entry.page (inl page_new) own_b) in
              let kept = kept_named last old later (suc level) entry end here is.0 in
              let begins : first_or (falls.before ++ (below ∷ falls.after)) None ≡ Some entry.first =
              subst (λ (xs : List Entry). first_or xs None ≡ Some entry.first) falls.parts is.0.fits.begins in
              let told : IsTold last later (suc level) (falls.before ++ (below ∷ falls.after)) entry = record {
                there = kept.there;
                is = kept.fits.is;
                level_is = kept.fits.level_is;
                entries_are = same_entries old later entry.page here ∙ falls.parts;
                begins = begins;
              } in
              subst (λ (xs : List Entry). IsTold last later (suc level) xs entry) list told

          same_becomes : Becomes last old later r.found (named_as (with_added added r.found) r.found) r.next (suc level) entry end (entry ∷ [])
          same_becomes = becomes_then later stand same_parts (entry ∷ []) (inr (inl (entry, refl, refl, same_told)))

          same_reached : IsDistinct nat_eq (flat_map (pages_under later (suc level)) (entry ∷ []))
          same_reached = subst (λ (ns : List ℕ). IsDistinct nat_eq ns) (sym (one_pages last small later level mended entry same_told))
              (distinct_cons entry.page (flat_map (pages_under later level) mended) (among_mended later stand same_parts entry.page (inl page_new) own)
              (reached_mended later stand same_parts))

          same_among : (n : ℕ) → IsNoNew from.next middle.next n → IsOutside n (pages_under old (suc level) entry) → IsOutside n (flat_map (pages_under later (suc level)) (entry ∷ []))
          same_among n new h = subst (λ (ns : List ℕ). IsOutside n ns) (sym (one_pages last small later level mended entry same_told))
              (h.0, among_mended later stand same_parts n new (subst (λ (ns : List ℕ). IsOutside n ns) parts h.1))

        rise_same : Risen last old key added (suc level) entry end from middle Same
        rise_same = record {
          found = r.found;
          next = r.next;
          leads = leads;
          sheets = r.sheets;
          sheets_are = r.sheets_are;
          grown = r.grown;
          named = (whole, tt);
          outside = λ n new h. r.outside n new (all_left (λ m. n ≢ m) B C (all_right (λ m. n ≢ m) A (B ++ C) (subst (λ (ns : List ℕ). IsOutside n ns) parts h.1)));
          once = r.once;
          reached = same_reached;
          among = same_among;
          becomes = same_becomes;
        }

      pub rise : (to : Spelled) (told : Told) → Mends (suc level) entry falls.before below falls.after news middle to told → Risen last old key added (suc level) entry end from to told
      rise to told mends = elim (mends_or (suc level) entry falls.before below falls.after news middle to told mends) [
        | inl still ↦ rw (still.1, still.2) (rise_same still.0)
        | inr spread ↦ rise_spread to told spread
      ]

  rise_here : (entry : Entry) (end : Option Key) (from : Spelled) → IsFine last added entry end → Risen last old key added zero entry end from from (with_added added entry)
  unfolding IsDistinct
  rise_here entry end from fine = record {
    found = entry;
    next = end;
    leads = (refl, refl);
    sheets = [];
    sheets_are = sym (append-nil from.sheets);
    grown = omega arith;
    named = fine.entries;
    outside = λ n new h. tt;
    once = tt;
    reached = λ later stand stay. subst (λ (ns : List ℕ). IsDistinct nat_eq ns) (sym (no_pages later (named_as (with_added added entry) entry))) tt;
    among = λ later stand stay n new h. subst (λ (ns : List ℕ). IsOutside n ns) (sym (no_pages later (named_as (with_added added entry) entry))) tt;
    becomes = λ later stand stay. (refl, refl, refl);
  }

  pub rises : (level : ℕ) (entry : Entry) (end : Option Key) (from to : Spelled) (told : Told) → length old ≤ from.next → IsUnder last old level entry end → IsEntry last entry
      → IsDistinct nat_eq (pages_under old level entry) → ((found : Entry) (next : Option Key) → LeadsTo last old key level entry end found next → IsFine last added found next)
      → Turns last old key added level entry end from to told → Risen last old key added level entry end from to told
  rises zero entry end from to told room is whole distinct fine (told_is, same) =
      rw (told_is, same) (rise_here entry end from (fine entry end (refl, refl)))
  rises (suc level) entry end from to told room is whole distinct fine (named, below, next, falls, middle, news, turns, mends) =
      let r = rises level below next from middle news room (below_under level entry below end next from room is distinct falls) (whole_below last old key (suc level) entry end below next named falls)
      (below_distinct level entry below end next from room is distinct falls) (λ found after leads. fine found after (named, below, next, falls, leads)) turns in
      rise level entry below end next from room is distinct falls middle news r (fine r.found r.next (named, below, next, falls, r.leads)) whole
      (named, below, next, falls, r.leads) to told mends
