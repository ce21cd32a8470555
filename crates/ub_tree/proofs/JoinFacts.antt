-- A tree of which two neighbouring regions were joined into the first: the change of its index was made ready, the first one's page was put,
-- and then the pages that the change spells.
use Rattle.std.proofs.Common.{rules, ◌≡◌, ◌≢◌, ◌<◌, ◌≤◌, ◌+◌, ◌-◌, ◌^◌, ◌++◌, ◌⊎◌, ◌∙◌, inl, inr, slice_get, ℕ, true, List, [], ◌∷◌, Some, Ok, Err, Result, IfErr, length, map, sym, ap, subst, refl, arith}
use Rattle.ub_tree.proofs.Common.{all_more, AreOnce, AreOthersKept, ArePlaced, cases_eq, cases_lt, changed, Changes, ChangeView, dropped_once, entries_in}
use Rattle.ub_tree.proofs.Common.{entries_under, entry_at, entry_of, FallsTo, HasEnded, HasIndex, HasMark, HasStopped, index_fault, IndexFault, IndexView}
use Rattle.ub_tree.proofs.Common.{Inner, IsBefore, IsDropFault, IsDropReady, IsElsewhereSame, IsErrAnd, IsHonest, IsIndexFault, IsIndexPage, IsKept, IsLeft}
use Rattle.ub_tree.proofs.Common.{IsOutside, IsPut, IsPutFault, IsRegion, IsRegionIn, IsRegionOf, IsRegionThere, IsRemovalFault, IsSound, IsSpelledAt, IsStored}
use Rattle.ub_tree.proofs.Common.{IsUnspelled, joined_lead, JoinsAt, JoinsKeys, KeepsBeside, KeepsOthers, Key, Leads, length-map, MakesIndex, origin}
use Rattle.ub_tree.proofs.Common.{others_stay, page_count, page_in, page_is, pages_under, Placed, placed_in, placed_of, placed_with, put_rows, PutsSheets}
use Rattle.ub_tree.proofs.Common.{Region, region_count, region_page, regions, regions_in, Replaces, reserved, Row, Schema, Sheet, slice_get_past, Spells, Stand}
use Rattle.ub_tree.proofs.Common.{StoreFacts, top, TreeFault, TreeView, ways_hold, Writes, WritesIndex}
use Rattle.ub_tree.proofs.DropFacts.{dropped_are, dropped_indexed, dropped_long, dropped_placed, dropped_regions}
use Rattle.ub_tree.proofs.EffectFacts.{left_by, writes_both, writes_told}
use Rattle.ub_tree.proofs.IndexedFacts.{at_of_key}
use Rattle.ub_tree.proofs.PutFacts.{view_placed}
use Rattle.ub_tree.proofs.RoomFacts.{begins_before}
use Rattle.ub_tree.proofs.WayFacts.{region_no_index}
use Rattle.ub_index.specs.declared.fault.IndexFault.TheVariants as index
use Rattle.ub_store.specs.declared.fault.StoreFault.TheVariants as store

-- the first key of a region that a tree tells of falls there
pub first_falls : (t : TreeView) (span : Region) → IsHonest t.store → IsRegionOf t span → FallsTo t span.first span
first_falls t span honest told =
    let ways = ways_hold t.inner.index t.store told.key span (told.falls.way honest) in
    record { holds = ways.1; from = told.falls.from; to = told.falls.to; way = λ _. ways.2 span.first ways.1 }

-- a key after another one is after the least of all
after_origin : (key later : Key) → IsBefore key later → IsBefore origin later
after_origin key later h = search rules

-- a region that comes after another one isn't the first
pub behind_first : (t : TreeView) (span next : Region) → IsRegionOf t span → span.next ≡ Some next.first → IsBefore origin next.first
behind_first t span next of begins = after_origin span.first next.first (begins_before t of.key span next.first of.falls begins)

-- a sound tree of which two neighbours are known has more than one region
pub alone_not_sound : (t : TreeView) (span next : Region) → region_count t ≡ 1 → IsRegionOf t span → span.next ≡ Some next.first → ¬ (IsSound t)
alone_not_sound t span next h k j = search (rules, at_of_key, length-map, slice_get_past)

module _ (b mid n : TreeView) (span next : Region) (change : ChangeView) (there : IsRegionThere b span) (begins : span.next ≡ Some next.first)
    (ready : IsDropReady b next change) (put : IsPut b mid) (wrote : Writes {A = Unit {0}} span b mid (Ok tt)) (puts : PutsSheets change.sheets mid.store n.store) where
  abbrev chain : List ℕ
  chain = pages_under b.store.pages b.inner.index.levels (top b.inner.index.root)

  free : IsHonest b.store → (m : ℕ) → m < page_count b.store → IsOutside m (0 ∷ chain) → IsUnspelled m change.sheets
  free honest m lt out = all_more (IsSpelledAt b (page_count b.store) change) (λ (s : Sheet). m ≢ s.number) (λ s h. h.own m lt out) change.sheets (ready.spelled honest)

  honest_mid : IsHonest b.store → IsHonest mid.store
  honest_mid honest = ap (λ (v : TreeView). v.store.honest) wrote.frame ∙ honest

  later : IsBefore origin next.first
  later = behind_first b span next there.told begins

  -- the first page is none of those that are spelled
  zero_free : IsHonest b.store → IsUnspelled 0 change.sheets
  zero_free honest =
      all_more (IsSpelledAt b (page_count b.store) change) (λ (s : Sheet). 0 ≢ s.number) (λ s h e. (let some = h.some in absurd (omega arith))) change.sheets (ready.spelled honest)

  written_others : WritesIndex span.page b n
  written_others = writes_both chain span.page change.sheets b.store mid.store n.store wrote.kept puts honest_mid free

  -- the mark stands
  mark_then : IsHonest b.store → (b.is_changed ≡ true → HasMark b.schema b.store.pages) → HasMark b.schema n.store.pages
  mark_then honest was =
      let had = wrote.marked.marked honest was (ap (λ (v : TreeView). v.is_changed) put) in
      (had.0, had.1, puts.others (honest_mid honest) 0 (zero_free honest) ∙ had.2)

  -- the pages of the index weren't put
  ended : (fault : TreeFault) → HasStopped fault mid n → HasEnded fault b n
  ended fault h = search (rules, writes_told, written_others)

  no_page_missing : IsPutFault change.next change.sheets mid.store store.NoPage → ⊥
  no_page_missing missing = let less = missing.0 in let next = ready.next in let same = wrote.count in omega arith

  index_left : (fault : TreeFault) → HasStopped fault mid n → IsIndexFault change mid.store fault → IsLeft b n fault
  index_left fault h k = search (rules, ended, no_page_missing)

  pub index_failed : {T : Type 0} (r : Result T TreeFault) (fault : TreeFault) → IsErrAnd r (λ x. x ≡ fault) → n.is_changed ≡ mid.is_changed → HasStopped fault mid n → IsIndexFault change mid.store fault
      → Changes b n r
  index_failed r fault h k j l = search (rules, ended, index_left, left_by, mark_then)

  -- they were, and a region fewer is counted
  module _ (d : TreeView) (now : n ≡ record mid { placed = n.placed; store = n.store; inner = record mid.inner { index = changed mid.inner.index change } })
      (is : d ≡ record n { inner = record n.inner { count = n.inner.count - 1 } }) where
    abbrev inner_then : Inner
    inner_then = record { index = changed b.inner.index change; count = b.inner.count - 1 }

    whole : d ≡ record b { placed = n.placed; store = n.store; is_changed = true; inner = inner_then }
    whole = search rules

    store_is : d.store ≡ n.store
    store_is = ap (λ (v : TreeView). v.store) is

    elsewhere : IsElsewhereSame b d
    elsewhere = whole ∙ ap (λ (v : TreeView). record b { placed = v.placed; store = v.store; is_changed = true; inner = v.inner }) (sym whole)

    joined_others : WritesIndex span.page b d
    joined_others = subst (λ (s : StoreFacts). KeepsOthers (reserved b.inner.index b.store.pages ++ span.page ∷ []) b.store s) (sym store_is) written_others

    joined_count : 1 ≤ region_count b → region_count b ≡ region_count d + 1
    joined_count h = let less = ap (λ (v : TreeView). v.inner.count) whole in omega arith

    joined_pages : page_count d.store ≡ page_count b.store
    joined_pages = ap (λ (s : StoreFacts). page_count s) store_is ∙ puts.count ∙ wrote.count

    -- each region beside the two is told of as before
    module _ (rows : List Row) (near : b.inner.index.last < 2 ^ 128) (good : IsRegion b.schema (record { first = span.first; rows = rows })) (told : IsRegionOf b next)
        (stand : AreOnce change.sheets → IsHonest mid.store → Stand n.store.pages change.sheets) (spells : IsHonest b.store → Spells d span.page span.first rows) where
      page_then : IsHonest b.store → slice_get n.store.pages span.page ≡ Some (region_page b.schema (record { first = span.first; rows = rows }))
      page_then honest = sym (ap (λ (s : StoreFacts). slice_get s.pages span.page) store_is) ∙ spells honest
          ∙ ap (λ (v : TreeView). Some (region_page v.schema (record { first = span.first; rows = rows }))) whole

      kept : IsHonest b.store → IsKept b.inner.index.last b.store.pages n.store.pages change.sheets
      kept honest m some free was = elim (cases_lt m (page_count b.store)) [
        | inl less ↦ elim (cases_eq m span.page) [
          | inl own ↦ absurd (no_index own was)
          | inr other ↦ puts.others (honest_mid honest) m free ∙ wrote.kept.kept honest m ((λ none. omega (arith, some, none)), (other, tt)) less
        ]
        | inr past ↦
            let count = puts.count in
            let count_mid = wrote.count in
            slice_get_past n.store.pages m (omega arith) ∙ sym (slice_get_past b.store.pages m past)
      ]
        where
          no_index : m ≡ span.page → IsIndexPage b.inner.index.last (page_in b.store.pages m) ⊎ IsIndexPage b.inner.index.last (page_in n.store.pages m) → ⊥
          no_index own (inl h) =
              region_no_index b.inner.index.last near b.schema there.region there.on.0
              (subst (IsIndexPage b.inner.index.last) (page_is b.store.pages span.page (region_page b.schema there.region) (there.on.2 honest))
              (subst (λ (k : ℕ). IsIndexPage b.inner.index.last (page_in b.store.pages k)) own h))
          no_index own (inr h) =
              region_no_index b.inner.index.last near b.schema (record { first = span.first; rows = rows }) good
              (subst (IsIndexPage b.inner.index.last) (page_is n.store.pages span.page (region_page b.schema (record { first = span.first; rows = rows })) (page_then honest))
              (subst (λ (k : ℕ). IsIndexPage b.inner.index.last (page_in n.store.pages k)) own h))

      stands : IsHonest b.store → Stand n.store.pages change.sheets
      stands honest = stand (dropped_once b.inner.index b.store next.first change (ready.made honest)) (honest_mid honest)

      leads_then : IsHonest b.store → (key : Key) (other : Region) → FallsTo b key other → other.next ≢ span.next → span.next ≢ Some other.first
          → Leads (changed b.inner.index change) n.store key other
      leads_then honest key other falls not_this not_next =
          others_stay b.inner.index b.store n.store next.first key next other change near ready.bounds.1 ready.bounds.0 ready.bounds.2 (ready.made honest)
          ((first_falls b next honest told).way honest) later (stands honest) (kept honest) (falls.way honest)
          (λ first_is. not_next (begins ∙ ap (λ (k : Key). Some k) (sym first_is))) (λ next_is. not_this (next_is ∙ sym begins))

      beside : KeepsBeside span b d
      beside honest key other falls not_this not_next =
          subst (λ (v : TreeView). FallsTo v key other) (sym whole) (record {
            holds = falls.holds;
            from = falls.from;
            to = falls.to;
            way = λ _. leads_then honest key other falls not_this not_next;
          })

      -- and the two as one
      abbrev joined : Region
      joined = record span { next = next.next; to = next.to }

      leads_joined : IsHonest b.store → Leads (changed b.inner.index change) n.store span.first joined
      leads_joined honest =
          joined_lead b.inner.index b.store n.store next.first span.first next span change near ready.bounds.1 ready.bounds.0 ready.bounds.2 (ready.made honest)
          ((first_falls b next honest told).way honest) later (stands honest) (kept honest) ((first_falls b span honest there.told).way honest) refl begins

      joins : JoinsKeys span b d
      joins honest = (
        next,
        told,
        begins,
        λ key holds. subst (λ (v : TreeView). FallsTo v key joined) (sym whole) (record {
          holds = holds;
          from = there.told.falls.from;
          to = told.falls.to;
          way = λ _. (ways_hold (changed b.inner.index change) n.store span.first joined (leads_joined honest)).2 key holds;
        }),
      )

      pub joined_at : 1 ≤ region_count b → JoinsAt span rows b d
      joined_at h = record { same = elsewhere; others = joined_others; dropped = (joined_count h, joined_pages, beside, joins); put = spells }

    pub joined_effect : {T : Type 0} (x : T) → n.store ≡ record mid.store { pages = n.store.pages; synced = n.store.synced } → Changes b d (Ok x)
    joined_effect x h = search (rules, elsewhere, mark_then, store_is, whole)

    pub joined_written : (i : ℕ) (rows : List Row) → b.placed ≡ placed_in b.schema b.inner.index b.store → d.placed ≡ placed_in d.schema d.inner.index d.store
        → n.store ≡ record mid.store { pages = n.store.pages; synced = n.store.synced }
        → IsStored b → IsRegionIn b i span → IsRegionIn b (i + 1) next → IsRegion b.schema (record { first = span.first; rows = rows })
        → IsStored mid × (mid.placed ≡ placed_with i (record { page = span.page; region = record { first = span.first; rows = rows } } ∷ []) b.placed)
        → (AreOnce change.sheets → IsHonest mid.store → Stand n.store.pages change.sheets)
        → IsStored d × (regions d ≡ put_rows i true rows (regions b))
    joined_written i rows viewed viewed_then works stored at at_next good rewritten stand = (
      subst IsStored (sym as_told) (record {
        working = stored.working;
        honest = honest_n;
        indexed = dropped_indexed b.schema b.inner.index b.store mid.store n.store b.placed mid.placed stored.honest viewed_pages stored.indexed stored.placed_are i span next at at_next rows good
            rewritten.0.honest others_mid wrote.count indexed_mid are_mid rewritten.1 change makes honest_n puts stands_then;
        placed_are = dropped_are b.schema b.inner.index b.store mid.store n.store b.placed mid.placed stored.honest viewed_pages stored.indexed stored.placed_are i span next at at_next rows good
            rewritten.0.honest others_mid wrote.count indexed_mid are_mid rewritten.1 change makes honest_n puts stands_then;
        count_is = (let less = long in let count = rewritten.0.count_is in let same = ap (λ (v : TreeView). v.inner.count) put in omega arith);
      }),
      ap regions_in placed_then
          ∙ dropped_regions b.schema b.inner.index b.store mid.store n.store b.placed mid.placed stored.honest viewed_pages stored.indexed stored.placed_are i span next at at_next rows good
          rewritten.0.honest others_mid wrote.count indexed_mid are_mid rewritten.1 change makes honest_n puts stands_then,
    )
      where
        viewed_pages : b.placed ≡ placed_of b.schema b.store.pages (entries_under b.inner.index b.store.pages)
        viewed_pages = viewed ∙ view_placed b.schema b.inner.index b.store stored.honest

        others_mid : AreOthersKept (0 ∷ span.page ∷ []) b.store.pages mid.store.pages
        others_mid = wrote.kept.kept stored.honest

        index_is : mid.inner.index ≡ b.inner.index
        index_is = ap (λ (v : TreeView). v.inner.index) put

        indexed_mid : HasIndex b.inner.index mid.store.pages (map entry_of mid.placed)
        indexed_mid = subst (λ (index : IndexView). HasIndex index mid.store.pages (map entry_of mid.placed)) index_is rewritten.0.indexed

        are_mid : ArePlaced b.schema mid.placed (reserved b.inner.index mid.store.pages) mid.store.pages
        are_mid = subst (λ (index : IndexView). ArePlaced b.schema mid.placed (reserved index mid.store.pages) mid.store.pages) index_is
            (subst (λ (s : Schema). ArePlaced s mid.placed (reserved mid.inner.index mid.store.pages) mid.store.pages) (ap (λ (v : TreeView). v.schema) put) rewritten.0.placed_are)

        makes : MakesIndex b.inner.index b.store (page_count b.store) change (Replaces (entry_at next) [] (entries_in b.inner.index b.store))
        makes = ready.makes (i + 1) stored at_next later

        honest_n : IsHonest n.store
        honest_n = ap (λ (s : StoreFacts). s.honest) works ∙ rewritten.0.honest

        stands_then : Stand n.store.pages change.sheets
        stands_then = stand makes.once rewritten.0.honest

        placed_then : d.placed ≡ placed_with (i + 1) [] mid.placed
        placed_then =
            viewed_then ∙ ap (λ (v : TreeView). placed_in v.schema v.inner.index v.store) whole ∙ view_placed b.schema (changed b.inner.index change) n.store honest_n
            ∙ dropped_placed b.schema b.inner.index b.store mid.store n.store b.placed mid.placed stored.honest viewed_pages stored.indexed stored.placed_are i span next at at_next rows good
            rewritten.0.honest others_mid wrote.count indexed_mid are_mid rewritten.1 change makes honest_n puts stands_then

        long : length (placed_with (i + 1) [] mid.placed) + 1 ≡ length mid.placed
        long = dropped_long b.schema b.inner.index b.store mid.store n.store b.placed mid.placed stored.honest viewed_pages stored.indexed stored.placed_are i span next at at_next rows good
            rewritten.0.honest others_mid wrote.count indexed_mid are_mid rewritten.1 change makes honest_n puts stands_then

        as_told : d ≡ record b { placed = placed_with (i + 1) [] mid.placed; store = n.store; is_changed = true; inner = inner_then }
        as_told = whole ∙ ap (λ (ps : List Placed). record b { placed = ps; store = n.store; is_changed = true; inner = inner_then }) (sym (ap (λ (v : TreeView). v.placed) whole) ∙ placed_then)

-- a region that doesn't leave the index, as a removal answers it: it is never for want of pages or levels
pub drop_removal : {T : Type 0} (t : TreeView) (key : Key) (r : Result T TreeFault) (e : IndexFault) → IsErrAnd r (λ x. x ≡ index_fault e) → IsDropFault t.inner.index t.store key e → IfErr r (IsRemovalFault t)
drop_removal t key (Ok x) e is h = absurd is
drop_removal t key (Err f) e is h = rw is (by_fault e h)
  where
    by_fault : (e : IndexFault) → IsDropFault t.inner.index t.store key e → IsRemovalFault t (index_fault e)
    by_fault (index.Page n fault) h = inr (inl (key, h))
    by_fault index.Full h = absurd h.0
    by_fault (index.Store store.BadSize) h = absurd h.0
    by_fault e h = tt
