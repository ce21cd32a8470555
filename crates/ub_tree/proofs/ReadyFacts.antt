-- A change of the index of a tree, made ready: why it isn't, and which pages it spells.
use Rattle.std.proofs.Common.{rules, ◌≡◌, ◌≢◌, ◌≤◌, ◌<◌, ◌+◌, ◌^◌, ◌∙◌, ◌⊎◌, inl, inr, ℕ, zero, suc, Bool, List, [], ◌∷◌, ◌++◌, Option, Some, None, Result, Ok, Err, IfErr, length, ap, sym, subst, refl, arith}
use Rattle.ub_tree.proofs.Common.{all_append, all_more, AllByRecursion, append-nil, change_view, ChangeView, entries_of, Entry, entry_of, flat_map, Gives, Gone}
use Rattle.ub_tree.proofs.Common.{HasNoRoom, index_fault, IndexFault, IndexView, IsAtMostOne, IsChangeFault, IsDropFault, IsDropped, IsErrAnd, IsHonest}
use Rattle.ub_tree.proofs.Common.{IsLowerFault, IsPrepared, IsReadyFault, IsRoomFault, IsSound, IsSpelledAt, Key, length-map, MakesReady, MAX_LEVEL, Mends}
use Rattle.ub_tree.proofs.Common.{narrow, no_parts, One, page_count, PageFault, PagerView, pages_under, Region, region_count, Same, Schema, Settles}
use Rattle.ub_tree.proofs.Common.{slice_get_within, so_far, Spelled, store_after, StoreFacts, Told, top, tree_view, TreeFault, TreeView, Turns, Two, under}
use Rattle.ub_index_change.specs.Lowering.{IsRootRefused}
use Rattle.ub_tree.proofs.SearchFacts.{index_not_refused, no_stop}
use Rattle.ub_tree.proofs.WayFacts.{IsSpelledOf, Spells, led_not_stopped, never_gone, spells}
use Rattle.ub_index.specs.declared.fault.IndexFault.TheVariants as index
use Rattle.ub_store.specs.declared.fault.StoreFault.TheVariants as store

-- where the way to a key leads to a span, a region comes behind it, unless there is no room
pub change_room : (i : IndexView) (facts : StoreFacts) (key : Key) (span : Region) → i.last < 2 ^ 128 → IsHonest facts → Gives i facts key span
    → (added : Entry) (from : Spelled) (e : IndexFault) → IsChangeFault i facts key (Some added) from e → HasNoRoom (index_fault e)
change_room i facts key span h k j added from e l = search (rules, led_not_stopped, never_gone)

-- and where there is no room, that is so of this key
pub room_fault : (t : TreeView) (key : Key) (added : Entry) (e : IndexFault) → IsHonest t.store
    → IsChangeFault t.inner.index t.store key (Some added) (so_far [] (page_count t.store + 1)) e → IsRoomFault (Unit {0}) t key (index_fault e)
room_fault t key added e h k = search rules

pub room_err : {T : Type 0} (r : Result T TreeFault) (e : IndexFault) → IsErrAnd r (λ x. x ≡ index_fault e) → HasNoRoom (index_fault e) → IfErr r HasNoRoom
room_err (Ok x) e is h = tt
room_err (Err f) e is h = rw is h

-- why a region isn't made ready to come
pub add_fault : (t : TreeView) (key : Key) (added : Entry) → t.inner.index.last < 2 ^ 128 → t.inner.index.levels ≤ MAX_LEVEL → (e : IndexFault)
    → IsChangeFault t.inner.index t.store key (Some added) (so_far [] (page_count t.store + 1)) e → IsReadyFault t (index_fault e)
add_fault t key added h k e j = search (rules, index_not_refused, never_gone, no_stop)

-- a call that doesn't make a change ready, as one of the tree
module _ (schema : Schema) (i : IndexView) (count next rows : ℕ) (changed failed : Bool) (old new : PagerView) where
  abbrev before : TreeView
  before = tree_view schema i count next rows changed failed old

  abbrev after : TreeView
  after = tree_view schema i count next rows changed failed new

  pub not_ready : {T : Type 0} (U : Type 0) (r : Result T TreeFault) (e : IndexFault) → IsErrAnd r (λ x. x ≡ index_fault e)
      → new ≡ record old { store = store_after {A = U} (Err e) old.store; cached = new.cached } → IsReadyFault before (index_fault e) → MakesReady before after r
  not_ready U r e h k j = search rules

-- each page that is spelled is one of the index, or new
module _ (t : TreeView) (from : ℕ) (far : page_count t.store ≤ from) (start root levels : ℕ) (middle : Spelled) (change : ChangeView)
    (s : Spells t.inner.index.last t.store.pages (pages_under t.store.pages t.inner.index.levels (top t.inner.index.root)) (so_far [] from) middle) where
  abbrev numbers : List ℕ
  numbers = pages_under t.store.pages t.inner.index.levels (top t.inner.index.root)

  spelled_to : (other : ChangeView) → middle.next ≤ other.next → AllByRecursion (IsSpelledAt t from other) middle.sheets
  spelled_to other h = search (rules, IsSpelledOf, all_more)

  same_root : change ≡ change_view middle start root levels → AllByRecursion (IsSpelledAt t from change) change.sheets
  same_root is = subst (λ (c : ChangeView). AllByRecursion (IsSpelledAt t from c) c.sheets) (sym is) (spelled_to (change_view middle start root levels) (omega arith))

  pub all_spelled : (told : Told) → IsAtMostOne told ⊎ (1 ≤ from) → Settles root levels told start middle change → AllByRecursion (IsSpelledAt t from change) change.sheets
  all_spelled Same low h = same_root h
  all_spelled Gone low h = absurd h
  all_spelled (One other) low h = same_root h
  all_spelled (Two left right) low h =
      let grown : from ≤ middle.next = s.grown in
      subst (λ (c : ChangeView). AllByRecursion (IsSpelledAt t from c) c.sheets) (sym h.2)
      (all_append (IsSpelledAt t from _) middle.sheets _ (spelled_to _ (omega arith)) (
        record {
          own = λ n lt out e. absurd (omega arith);
          some = (elim low [
            | inl few ↦ absurd few
            | inr some ↦ omega arith
          ]);
          there = inr (grown, omega arith);
          kind = λ stood at. (let within = slice_get_within t.store.pages middle.next stood at in absurd (omega arith));
        },
        tt,
      ))

-- where nothing is left of a region's entry that goes, there was one region alone
pub gone_alone : (last : ℕ) (old : List (List ℕ)) (key : Key) (level : ℕ) (entry : Entry) (end : Option Key) (from to : Spelled)
    → Turns last old key None level entry end from to Gone → length (under old level entry) ≡ 1
gone_alone last old key zero entry end from to h = refl
gone_alone last old key (suc level) entry end from to (named, below, next, falls, middle, news, turns, mends) =
    by_news (λ h. gone_alone last old key level below next from middle h) news turns mends
  where
    by_parts : (xs ys : List Entry) → xs ++ ys ≡ [] → entries_of old entry.page ≡ xs ++ (below ∷ ys) → length (under old level below) ≡ 1 → length (under old (suc level) entry) ≡ 1
    by_parts [] [] e parts one =
        ap (λ (es : List Entry). length (flat_map (under old level) es)) parts ∙ (ap length (append-nil (under old level below)) ∙ one)
    by_parts xs ys e parts one = cc

    by_news : (Turns last old key None level below next from middle Gone → length (under old level below) ≡ 1) → (t : Told) → Turns last old key None level below next from middle t
        → Mends (suc level) entry falls.before below falls.after t middle to Gone → length (under old (suc level) entry) ≡ 1
    by_news lower Same h m = let bad = m.0 in cc
    by_news lower Gone h m = by_parts falls.before falls.after m.0 falls.parts (lower h)
    by_news lower (One other) h m = absurd (no_parts falls.before other falls.after m.0)
    by_news lower (Two left right) h m = absurd (no_parts falls.before left (right ∷ falls.after) m.0)

-- what is made ready for a region that goes
pub drop_spelled : (t : TreeView) (key : Key) (change : ChangeView) → 1 ≤ t.inner.index.root → IsDropped t.inner.index t.store key change → AllByRecursion (IsSpelledAt t (page_count t.store) change) change.sheets
drop_spelled t key change h k = search (rules, all_more, all_spelled, narrow, spells)

-- why a region isn't made ready to go, on a tree that counts more regions than one: what is left to show is that on a sound tree each
-- root is taken to which another one gives way
pub drop_fault : (t : TreeView) (key : Key) → t.inner.index.last < 2 ^ 128 → region_count t ≢ 1
    → (taken : IsSound t → (first : ChangeView) (n : ℕ) (fault : Option PageFault)
    → IsPrepared t.inner.index t.store key None (page_count t.store) (so_far [] (page_count t.store)) first → ¬ (IsRootRefused t.inner.index.last t.store.pages first n fault))
    → (e : IndexFault) → IsDropFault t.inner.index t.store key e → IsReadyFault t (index_fault e)
drop_fault t key small more taken (index.Page n fault) (grows, why) = ((λ sound. never sound why), inr (inl (key, (grows, why))))
  where
    alone : IsSound t → length (under t.store.pages t.inner.index.levels (top t.inner.index.root)) ≡ 1 → ⊥
    alone sound one = more (sound.count_is ∙ (sym (length-map t.placed entry_of) ∙ (ap length (sym sound.indexed.entries_are) ∙ one)))

    never : IsSound t → IsChangeFault t.inner.index t.store key None (so_far [] (page_count t.store)) (index.Page n fault)
        ⊎ ((first : ChangeView) × (IsHonest t.store → IsPrepared t.inner.index t.store key None (page_count t.store) (so_far [] (page_count t.store)) first)
        × IsLowerFault t.inner.index.last t.store first (index.Page n fault)) → ⊥
    never sound (inl change) = elim (change sound.honest) [
      | inl stops ↦ no_stop t key n (Some fault) small sound stops
      | inr gone ↦ alone sound (gone_alone t.inner.index.last t.store.pages key t.inner.index.levels (top t.inner.index.root) None _ gone.2 gone.3)
    ]
    never sound (inr lower) = taken sound lower.0 n (Some fault) (lower.1 sound.honest) (lower.2 sound.honest)
drop_fault t key small more taken index.Full h = absurd h.0
drop_fault t key small more taken (index.Store store.Memory) h = tt
drop_fault t key small more taken (index.Store store.Device) h = elim h.1 [
  | inl can ↦ can
  | inr lower ↦ lower.2
]
drop_fault t key small more taken (index.Store store.BadSize) h = absurd h.0
drop_fault t key small more taken (index.Store store.NoPage) (grows, why) = ((λ sound. never sound why), inr (key, (grows, why)))
  where
    never : IsSound t → IsChangeFault t.inner.index t.store key None (so_far [] (page_count t.store)) (index.Store store.NoPage)
        ⊎ ((first : ChangeView) × (IsHonest t.store → IsPrepared t.inner.index t.store key None (page_count t.store) (so_far [] (page_count t.store)) first)
        × IsLowerFault t.inner.index.last t.store first (index.Store store.NoPage)) → ⊥
    never sound (inl change) = no_stop t key change.0 None small sound (change.2 sound.honest)
    never sound (inr lower) = taken sound lower.0 lower.2.0 None (lower.1 sound.honest) (lower.2.2 sound.honest)
