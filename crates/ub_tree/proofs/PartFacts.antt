-- What the parting of a region leaves: the store grew, the pages of both halves were put, and then those that the change of the index spells.
use Rattle.std.proofs.Common.{rules, ◌≡◌, ◌≢◌, ◌<◌, ◌≤◌, ◌+◌, ◌-◌, ◌^◌, ◌∙◌, inl, inr, ℕ, Bool, true, Some, List, [], ◌∷◌, Ok, Err, Result, sym, ap, subst, refl, arith}
use Rattle.ub_tree.proofs.Common.{added_once, AddsEntry, all_more, AllByRecursion, AnswersAt, AreOnce, before_cases, cases_eq, changed, Changes, ChangeView}
use Rattle.ub_tree.proofs.Common.{Due, end_before, FallsTo, first_page, GrowsTo, halves_lead, HasEnded, HasMark, HasNoRoom, HasStopped, header_page, HoldsKey}
use Rattle.ub_tree.proofs.Common.{IndexView, Inner, is_written, IsAddReady, IsErrAnd, IsHalfOf, IsHonest, IsIndexFault, IsIndexPage, IsLeft, IsMarkedFirst}
use Rattle.ub_tree.proofs.Common.{IsMarkOf, IsOutside, IsPut, IsPutFault, IsRegionOf, IsRegionThere, IsRoomFault, IsSpelledAt, IsUnspelled, IsWithinRegion}
use Rattle.ub_tree.proofs.Common.{IsWriteFault, KeepsAllBut, KeepsIndex, KeepsMark, KeepsOthers, Key, Leads, Mark, Marks, MAX_LEVEL, NeedsPages, one_given}
use Rattle.ub_tree.proofs.Common.{others_stay_added, page_count, page_in, page_is, pages_under, PutsMark, PutsSheets, Region, region_count, region_page, Row}
use Rattle.ub_tree.proofs.Common.{Schema, Sheet, Spells, SplitsKeys, Stand, Store, StoreFacts, StoresAt, top, TreeFault, TreeView, WritesBoth, WritesIndex}
use Rattle.ub_tree.proofs.Common.{Written, written_store}
use Rattle.ub_tree.proofs.EffectFacts.{left_by, writes_both, writes_told, writes_wider}
use Rattle.ub_tree.proofs.JoinFacts.{first_falls}
use Rattle.ub_tree.proofs.PutFacts.{own_page}
use Rattle.ub_tree.proofs.WayFacts.{region_no_index}
use Rattle.ub_store.specs.declared.fault.StoreFault.TheVariants as store

-- what a write did that marked the table, where it wasn't marked
pub marks_then : (schema : Schema) (was now : Mark) (numbers : List ℕ) (old new : StoreFacts) → IsMarkOf schema was → Marks numbers was now old new → AllByRecursion (λ n. n ≢ 0) numbers → IsHonest old
    → (is_written was ≡ true → HasMark schema old.pages) → is_written now ≡ true → HasMark schema new.pages
marks_then schema was now numbers old new mark marks own honest had now_is = by_mark was mark had (marks.first honest own now_is)
  where
    by_mark : (m : Mark) → IsMarkOf schema m → (is_written m ≡ true → HasMark schema old.pages) → PutsMark (first_page m) old new → HasMark schema new.pages
    by_mark Written mark had puts = let h = had refl in (h.0, h.1, puts ∙ h.2)
    by_mark (Due header) mark had puts = (header_page header, (header, mark, refl), puts)

-- what a parting answers for which the index can't be made ready
pub unready_answers : {A : Type 0} (t : TreeView) (span : Region) (r : Result A TreeFault) (e : TreeFault) → IsErrAnd r (λ x. x ≡ e) → region_count t ≢ 4294967295
    → (IsHonest t.store → FallsTo t span.first span → HasNoRoom e) → (IsHonest t.store → IsRoomFault (Unit {0}) t span.first e) → AnswersAt (Unit {0}) t span r
unready_answers t span r e k j l m = search rules

module _ (a g h : TreeView) (span : Region) (of : IsRegionOf a span) (first : Key) (change : ChangeView) (number : ℕ) (there : span.page < page_count a.store)
    (ready : IsAddReady a span first change) (number_is : number ≡ change.start)
    (grew : GrowsTo {A = Unit {0}} (page_count a.store + (change.next - change.start)) a g (Ok tt)) where
  abbrev chain : List ℕ
  chain = pages_under a.store.pages a.inner.index.levels (top a.inner.index.root)

  grown_is : g ≡ record a { placed = g.placed; store = written_store {A = Unit {0}} (Ok tt) a.store g.store }
  grown_is = grew.frame ∙ ap (λ (b : Bool). record a { placed = g.placed; is_failed = b; store = written_store {A = Unit {0}} (Ok tt) a.store g.store }) grew.done.0

  number_at : number ≡ page_count a.store
  number_at = number_is ∙ ready.start

  honest_grown : IsHonest a.store → IsHonest g.store
  honest_grown honest = ap (λ (v : TreeView). v.store.honest) grown_is ∙ honest

  free : IsHonest a.store → (m : ℕ) → m < page_count a.store → IsOutside m (0 ∷ chain) → IsUnspelled m change.sheets
  free honest m lt out = all_more (IsSpelledAt a (page_count a.store + 1) change) (λ (s : Sheet). m ≢ s.number) (λ s x. x.own m lt out) change.sheets (ready.spelled honest)

  -- the first page is none of those that are spelled
  zero_free : IsHonest a.store → IsUnspelled 0 change.sheets
  zero_free honest =
      all_more (IsSpelledAt a (page_count a.store + 1) change) (λ (s : Sheet). 0 ≢ s.number) (λ s x e. (let some = x.some in absurd (omega arith))) change.sheets (ready.spelled honest)

  -- a table that was marked as changed is so still, once the store has grown
  marked_grown : IsHonest a.store → (a.is_changed ≡ true → HasMark a.schema a.store.pages) → g.is_changed ≡ true → HasMark g.schema g.store.pages
  marked_grown honest was changed =
      let had = was (sym (ap (λ (v : TreeView). v.is_changed) grown_is) ∙ changed) in
      subst (λ (s : Schema). HasMark s g.store.pages) (sym (ap (λ (v : TreeView). v.schema) grown_is))
      (had.0, had.1, grew.grows.kept honest 0 (omega arith) ∙ had.2)

  module _ {A : Type 0} (r : Result A TreeFault) (wrote : WritesBoth number span g h r) where
    halves_kept : KeepsOthers (0 ∷ span.page ∷ []) a.store h.store
    halves_kept = search rules

    halves_marked : KeepsMark a h
    halves_marked honest was changed =
        subst (λ (s : Schema). HasMark s h.store.pages) (ap (λ (v : TreeView). v.schema) grown_is)
        (wrote.marked (λ e. absurd (let at = number_at in omega arith)) (own_page a span ready.root honest of) (honest_grown honest) (marked_grown honest was) changed)

    pub halves_first : IsMarkedFirst a h
    halves_first = search (rules, halves_marked, honest_grown)

  -- the pages of the halves weren't put
  halves_left : (e : TreeFault) → WritesBoth {A = TreeFault} number span g h (Err e) → IsWriteFault g h e → IsLeft a h e
  halves_left (Store store.Device) wrote x = (
    sym (ap (λ (v : TreeView). v.store.can_fail) grown_is) ∙ x.0,
    inr (record {
      same = x.1.same
          ∙ ap (λ (v : TreeView). record v { placed = h.placed; is_changed = h.is_changed; is_failed = true; store = written_store {A = TreeFault} (Err (Store store.Device)) v.store h.store }) grown_is;
      others = writes_told a h span of (writes_wider chain span.page a.store h.store (halves_kept {A = TreeFault} (Err (Store store.Device)) wrote));
    }),
  )
  halves_left e wrote x = absurd x

  pub halves_refused : {T U : Type 0} (r : Result T TreeFault) (e : TreeFault) → IsErrAnd r (λ x. x ≡ e) → WritesBoth {A = U} number span g h (Err e) → Changes a h r
  halves_refused {T} {U} r e is w =
      let wrote : WritesBoth {A = TreeFault} number span g h (Err e) = record { frame = w.frame; kept = w.kept; marked = w.marked; done = tt; faults = w.faults; others = w.others } in
      let whole = w.frame ∙ ap (λ (v : TreeView). record v { placed = h.placed; is_changed = h.is_changed; is_failed = h.is_failed; store = written_store {A = U} (Err e) v.store h.store }) grown_is in
      left_by {U = TreeFault} r e a h is (record {
        frame = whole ∙ ap (λ (v : TreeView). record a { placed = v.placed; rows = v.rows; next = v.next; is_changed = v.is_changed; is_failed = v.is_failed; store = v.store; inner = v.inner }) (sym whole);
        marked = halves_first {A = TreeFault} (Err e) wrote;
        done = tt;
        left = halves_left e wrote w.faults;
      })

  -- the halves were put, and then the pages of the index
  module _ (n : TreeView) (wrote : WritesBoth {A = Unit {0}} number span g h (Ok tt)) (put : IsPut g h) (halves_count : page_count h.store ≡ page_count g.store) (puts : PutsSheets change.sheets h.store n.store) where
    halves_is : h ≡ record a { placed = h.placed; is_changed = true; store = written_store {A = Unit {0}} (Ok tt) a.store h.store }
    halves_is = search rules

    honest_put : IsHonest a.store → IsHonest h.store
    honest_put honest = ap (λ (v : TreeView). v.store.honest) halves_is ∙ honest

    put_others : WritesIndex span.page a n
    put_others = writes_both chain span.page change.sheets a.store h.store n.store (halves_kept {A = Unit {0}} (Ok tt) wrote) puts honest_put free

    -- the mark stands
    mark_then : IsHonest a.store → (a.is_changed ≡ true → HasMark a.schema a.store.pages) → HasMark a.schema n.store.pages
    mark_then honest was =
        let had = halves_marked {A = Unit {0}} (Ok tt) wrote honest was (ap (λ (v : TreeView). v.is_changed) halves_is) in
        (had.0, had.1, puts.others (honest_put honest) 0 (zero_free honest) ∙ had.2)

    marked_now : n.is_changed ≡ true → IsMarkedFirst a n
    marked_now k = search (rules, mark_then)

    put_ended : (fault : TreeFault) → HasStopped fault h n → HasEnded fault a n
    put_ended fault k = search (rules, halves_is, put_others, writes_told)

    no_page_missing : IsPutFault change.next change.sheets h.store store.NoPage → ⊥
    no_page_missing missing = let less = missing.0 in let grown = grew.done.1 in let same = halves_count in let start = ready.start in let some = ready.some in omega arith

    put_left : (e : TreeFault) → HasStopped e h n → IsIndexFault change h.store e → IsLeft a n e
    put_left e k j = search (rules, halves_is, no_page_missing, put_ended)

    pub index_refused : {T : Type 0} (r : Result T TreeFault) (e : TreeFault) → IsErrAnd r (λ x. x ≡ e) → n.is_changed ≡ h.is_changed → HasStopped e h n × IsIndexFault change h.store e → Changes a n r
    index_refused r e k j l = search (rules, halves_is, left_by, marked_now, put_ended, put_left)

    -- all were put, and one region more is counted
    module _ (d : TreeView) (inner : Inner) (n_is : n ≡ record h { placed = n.placed; store = n.store; inner = inner }) (count_is : inner.count ≡ a.inner.count)
        (works : n.store ≡ written_store {A = Unit {0}} (Ok tt) h.store n.store) (d_is : d ≡ record n { inner = record n.inner { count = n.inner.count + 1 } }) where
      abbrev inner_then : Inner
      inner_then = record inner { count = inner.count + 1 }

      then_is : d ≡ record a { placed = n.placed; is_changed = true; store = n.store; inner = inner_then }
      then_is = search rules

      stores : n.store ≡ written_store {A = Unit {0}} (Ok tt) a.store n.store
      stores = works ∙ ap (λ (v : TreeView). written_store {A = Unit {0}} (Ok tt) v.store n.store) halves_is

      module _ (high : a.inner.index.levels ≤ MAX_LEVEL) where
        needs : IsHonest a.store → NeedsPages a.inner.index a.store span.first (change.next - (page_count a.store + 1))
        needs k = search rules

        pub parts_effect : Changes {A = Unit {0}} a d (Ok tt)
        parts_effect = search (rules, mark_then, stores, then_is)

        -- how the regions are told of
        module _ (low : 1 ≤ a.inner.index.levels) (near : a.inner.index.last < 2 ^ 128) (stood : IsRegionThere a span) (within : IsWithinRegion a.inner.index.last span.first span.next first)
            (index_is : inner.index ≡ changed a.inner.index change) (stand : AreOnce change.sheets → IsHonest h.store → Stand n.store.pages change.sheets) where
          kept : IsHonest a.store → KeepsIndex a.inner.index.last a.store.pages n.store.pages change.sheets
          kept honest m some less alone was = elim (cases_eq m span.page) [
            | inl own ↦
                absurd (region_no_index a.inner.index.last near a.schema stood.region stood.on.0
                (subst (IsIndexPage a.inner.index.last) (page_is a.store.pages span.page (region_page a.schema stood.region) (stood.on.2 honest))
                (subst (λ (k : ℕ). IsIndexPage a.inner.index.last (page_in a.store.pages k)) own was)))
            | inr other ↦ puts.others (honest_put honest) m alone ∙ (halves_kept {A = Unit {0}} (Ok tt) wrote).kept honest m ((λ none. omega (arith, some, none)), (other, tt)) less
          ]

          module _ (honest : IsHonest a.store) where
            own : FallsTo a span.first span
            own = first_falls a span honest of

            few : page_count a.store < 2 ^ 32
            few = let room = (ready.needed honest).room in let more = ready.some in omega arith

            stands : Stand n.store.pages change.sheets
            stands = stand (added_once a.inner.index a.store span first change (ready.made honest)) (honest_put honest)

            -- where the way to a key leads, the region is told of
            falls_then : (key : Key) (found : Region) → HoldsKey key found.first found.next → found.from ≡ found.first.z → found.to ≡ end_before a.inner.index.last found.next
                → Leads (changed a.inner.index change) n.store key found → FallsTo d key found
            falls_then key found holds from to leads =
                subst (λ (v : TreeView). FallsTo v key found) (sym then_is) (record {
                  holds = holds;
                  from = from;
                  to = to_then;
                  way = λ _. subst (λ (x : IndexView). Leads x n.store key found) (sym index_is) leads;
                })
              where
                to_then : found.to ≡ end_before inner.index.last found.next
                to_then = to ∙ ap (λ (x : IndexView). end_before x.last found.next) (sym index_is)

            falls_other : (key : Key) (other : Region) → FallsTo a key other → other.first ≢ span.first → FallsTo d key other
            falls_other key other falls not_this =
                falls_then key other falls.holds falls.from falls.to
                (others_stay_added a.inner.index a.store n.store key span first change near low ready.root few (ready.made honest) (own.way honest) within stands (kept honest) other (falls.way honest) not_this)

            -- the halves of the region that was split
            abbrev left_half : Region
            left_half = record span { next = Some first; to = end_before a.inner.index.last (Some first) }

            abbrev right_half : Region
            right_half = record { first = first; next = span.next; from = first.z; to = span.to; page = page_count a.store }

            falls_half : (key : Key) → FallsTo a key span → (half : Region) × IsHalfOf span first (page_count a.store) half × FallsTo d key half
            falls_half key falls =
                let leads = halves_lead a.inner.index a.store n.store key span first change near low ready.root few (ready.made honest) (own.way honest) within stands (kept honest) (falls.way honest) in
                elim (before_cases key first) [
                  | inl less ↦ (left_half, inl (refl, refl, refl), falls_then key left_half (record { from = falls.holds.from; to = less }) falls.from refl (leads.0 less))
                  | inr more ↦ (right_half, inr (refl, refl, refl), falls_then key right_half (record { from = more; to = falls.holds.to }) refl falls.to (leads.1 more))
                ]

            same_span : (key : Key) (other : Region) → FallsTo a key other → other.first ≡ span.first → other ≡ span
            same_span key other falls first_is =
                one_given a.inner.index a.store span.first other span honest (subst (λ (k : Key). FallsTo a k other) first_is (first_falls a other honest (record { key = key; falls = falls }))) own

          keeps : KeepsAllBut span.first a d
          keeps honest key other falls not_this = falls_other honest key other falls not_this

          splits : (rows : List Row) → (IsHonest a.store → Spells d (page_count a.store) first rows) → SplitsKeys span.first a d
          splits rows spells honest = (
            first,
            rows,
            spells honest,
            λ key other falls first_is.
                let same = same_span honest key other falls first_is in
                subst (λ (x : Region). (half : Region) × IsHalfOf x first (page_count a.store) half × FallsTo d key half) (sym same)
                (falls_half honest key (subst (λ (x : Region). FallsTo a key x) same falls)),
          )

          adds : (rows : List Row) → (IsHonest a.store → Spells d (page_count a.store) first rows) → AddsEntry span.first a d
          adds rows spells = (
            ap (λ (v : TreeView). region_count v) then_is ∙ ap (λ (k : ℕ). k + 1) count_is,
            change.next - (page_count a.store + 1),
            (let all : page_count d.store ≡ page_count n.store = ap (λ (v : TreeView). page_count v.store) then_is in
                let put_count = puts.count in
                let both = halves_count in
                let grown : page_count g.store ≡ page_count a.store + (change.next - change.start) = grew.done.1 in
                let start = ready.start in
                let some = ready.some in
                omega arith),
            (let few = ready.few in omega arith),
            needs,
            keeps,
            splits rows spells,
          )

          pub parts_at : (rows : List Row) → (IsHonest a.store → Spells d (page_count a.store) first rows) → StoresAt span a.schema.page_rows a d
          parts_at rows spells = let all = adds rows spells in search (rules, all, put_others, then_is)
