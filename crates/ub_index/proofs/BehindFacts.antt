-- How a search goes down to a leaf, and what it finds there behind a region.
use Rattle.std.proofs.Common.{rules, false, ◌≡◌, ◌<◌, ◌-◌, ◌↔◌, inr, ℕ, List, Option, Some, None, IfSome, ◌∙◌, sym, ap, subst, refl, arith}
use Rattle.ub_index.proofs.Common.{before_le, entries_of, Entry, FallsTo, FindsAfter, first_or, FitsAtEnds, Gives, HoldsKey, HoldsLeaf, IndexView, IsAim}
use Rattle.ub_index.proofs.Common.{IsBefore, IsFrom, IsHonest, IsLater, IsSought, Key, le_trans, Leads, LeadsDown, Leaf, LooksAt, NamesFitting, node_on}
use Rattle.ub_index.proofs.Common.{not_before_origin, not_before_self, not_both_before, origin, page_in, Place, precedes, precedes_of, Region, region_of}
use Rattle.ub_index.proofs.Common.{StepsTo, StoreFacts, true≢false}
use Rattle.ub_index.specs.declared.descent.Found.TheVariants.{Nothing, Here, Beyond}
use Rattle.ub_index.proofs.FitFacts.{after_first}
use Rattle.ub_index.proofs.WayFacts.{falls_from, holds_below, leads_on, stops_on}
use Rattle.ub_index.proofs.WaysFacts.{never_cross, not_before_from}

-- to what a key falls, a later one falls too, if it is before the next one
pub falls_too : (key k : Key) (entries : List Entry) (end next : Option Key) (below : Entry) → ¬ (IsBefore k key) → IfSome next (IsBefore k) → FallsTo key entries end below next
    → FallsTo k entries end below next
falls_too key k entries end next below later to h = search (rules, le_trans)

-- an entry to which a key falls on a page that begins not after it holds the key
pub below_holds : (page : List ℕ) (level : ℕ) (key : Key) (entry : Entry) (end : Option Key) (below : Entry) (next : Option Key) → FitsAtEnds page level entry end
    → HoldsKey key entry.first end → FallsTo key (node_on page).entries end below next → HoldsKey key below.first next
below_holds page level key entry end below next ends holds falls = record {
  from = falls_from key (node_on page).entries entry.first end next below begins holds.from falls;
  to = holds_below key (node_on page).entries entry.first end next below falls holds.to;
}
  where
    begins : first_or (node_on page).entries None ≡ Some entry.first
    begins = sym (after_first page 0 None (let some = ends.head.1 in omega arith)) ∙ ap (λ (k : Key). Some k) ends.begins

-- the way goes on by a step
pub down_step : (index : IndexView) (store : StoreFacts) (key : Key) (level : ℕ) (leaf : Leaf) (place : Place) (until : Option Key) → 0 < level
    → ((k : Key) → IfSome until (IsBefore k) ↔ (IfSome place.next (IsBefore k) × IfSome leaf.until (IsBefore k))) → LeadsDown index store key level leaf
    → StepsTo index.last store key level leaf.place.entry leaf.place.next place.entry place.next
    → LeadsDown index store key (level - 1) (record { place = place; until = until })
down_step index store key level leaf place until some parts down step = record {
  leads = λ k later to found next h.
      let both = (parts k).0 to in
      let step_k : StepsTo index.last store k level leaf.place.entry leaf.place.next place.entry place.next = record {
        named = step.named;
        falls = falls_too key k (entries_of store.pages leaf.place.entry.page) leaf.place.next place.next place.entry later both.0 step.falls;
      } in
      down.leads k later both.1 found next (leads_on store store refl index.last k level leaf.place.entry place.entry found leaf.place.next place.next next some step_k h);
  stops = λ n fault h. down.stops n fault (stops_on store store refl index.last key level leaf.place.entry place.entry leaf.place.next place.next n fault some step h);
}

-- and so do what holds the key and the end
pub holds_step : (key : Key) (leaf : Leaf) (place : Place) (until : Option Key) → ((k : Key) → IfSome until (IsBefore k) ↔ (IfSome place.next (IsBefore k) × IfSome leaf.until (IsBefore k)))
    → HoldsLeaf key leaf → HoldsKey key place.entry.first place.next → HoldsLeaf key (record { place = place; until = until })
holds_step key leaf place until parts holds here = search rules

-- a step that is made on the pages of a store that is the same
pub step_before : (last : ℕ) (old mid : StoreFacts) → mid ≡ old → (key : Key) (level : ℕ) (entry : Entry) (end : Option Key) (below : Entry) (next : Option Key)
    → (IsHonest mid → StepsTo last mid key level entry end below next) → IsHonest old → StepsTo last old key level entry end below next
step_before last old mid stores key level entry end below next =
    subst (λ (s : StoreFacts). (IsHonest mid → StepsTo last mid key level entry end below next) → IsHonest s → StepsTo last s key level entry end below next) stores (λ h. h)

-- from a leaf the way leads to what a later key falls to on it
pub way_to : (index : IndexView) (store : StoreFacts) (key k : Key) (leaf : Leaf) (below : Entry) (next : Option Key) → LeadsDown index store key 1 leaf → ¬ (IsBefore k key)
    → IfSome leaf.until (IsBefore k) → NamesFitting index.last store.pages 1 leaf.place.entry leaf.place.next
    → FallsTo k (entries_of store.pages leaf.place.entry.page) leaf.place.next below next → Leads index store k (region_of index.last below next)
way_to index store key k leaf below next down later to named falls = down.leads k later to below next (named, below, next, falls, (refl, refl))

-- the region to which a step from the leaf comes is the one that is given
pub step_given : (index : IndexView) (store : StoreFacts) (key : Key) (leaf : Leaf) (place : Place) → HoldsLeaf key leaf → (IsHonest store → LeadsDown index store key 1 leaf)
    → HoldsKey key place.entry.first place.next → (IsHonest store → StepsTo index.last store key 1 leaf.place.entry leaf.place.next place.entry place.next)
    → Gives index store key (region_of index.last place.entry place.next)
step_given index store key leaf place holds down here step = record {
  holds = here;
  from = refl;
  to = refl;
  way = λ honest.
      let made = step honest in
      way_to index store key key leaf place.entry place.next (down honest) (not_before_self key) holds.until made.named made.falls;
}

-- what is found on a leaf
module _ (index : IndexView) (store : StoreFacts) (To : Key → Option ℕ → Type 0)
    (region : Region) (leaf : Leaf) (holds : HoldsLeaf region.first leaf) (down : IsHonest store → LeadsDown index store region.first 1 leaf) where
  pub gives : (page : List ℕ) → FitsAtEnds page 1 leaf.place.entry leaf.place.next → (IsHonest store → NamesFitting index.last store.pages 1 leaf.place.entry leaf.place.next)
      → (IsHonest store → page ≡ page_in store.pages leaf.place.entry.page) → (k : Key) → ¬ (IsBefore k region.first) → IfSome leaf.until (IsBefore k)
      → (below : Entry) (next : Option Key) → FallsTo k (node_on page).entries leaf.place.next below next → Gives index store k (region_of index.last below next)
  gives page ends named there k later to below next falls = record {
    holds = below_holds page 1 k leaf.place.entry leaf.place.next below next ends
        (record { from = le_trans leaf.place.entry.first region.first k holds.place.from later; to = holds.within k to }) falls;
    from = refl;
    to = refl;
    way = λ honest.
        way_to index store region.first k leaf below next (down honest) later to (named honest)
        (subst (λ (p : List ℕ). FallsTo k (node_on p).entries leaf.place.next below next) (there honest) falls);
  }

  aim_later : (from aim : Key) → IsBefore region.first from → IsAim index.last To from aim → ¬ (IsBefore aim region.first)
  aim_later from aim before (z, to, le, is) =
      le_trans region.first from aim (λ back. not_both_before region.first from before back)
      (subst (λ (k : Key). ¬ (IsBefore k from)) (sym is) (not_before_from from z))

  pub nothing_found : LooksAt index.last store To region.first leaf Nothing → FindsAfter index store To (Some region) None
  nothing_found h =
      let (below, next, falls, none) = h.looks in
      (next, (region_of index.last below next, gives h.page h.ends h.named h.there region.first (not_before_self region.first) holds.until below next falls, refl), none)

  pub here_found : (from : Key) (place : Place) → LooksAt index.last store To region.first leaf (Here from place)
      → FindsAfter index store To (Some region) (Some (from, region_of index.last place.entry place.next))
  here_found from place h =
      let (below, falls, aim, is_aim, to, falls_aim) = h.looks in
      let given = gives h.page h.ends h.named h.there region.first (not_before_self region.first) holds.until below (Some from) falls in (
        Some from,
        (region_of index.last below (Some from), given, refl),
        (refl, aim, is_aim, gives h.page h.ends h.named h.there aim (aim_later from aim given.holds.to is_aim) to place.entry place.next falls_aim),
      )

  pub beyond_found : (from aim : Key) (found : Region) → LooksAt index.last store To region.first leaf (Beyond from aim) → Gives index store aim found
      → FindsAfter index store To (Some region) (Some (from, found))
  beyond_found from aim found h given_aim =
      let (below, falls, is_aim, past) = h.looks in
      let given = gives h.page h.ends h.named h.there region.first (not_before_self region.first) holds.until below (Some from) falls in
      (Some from, (region_of index.last below (Some from), given, refl), (refl, aim, is_aim, given_aim))

  pub beyond_sought : (from aim : Key) → LooksAt index.last store To region.first leaf (Beyond from aim) → IsSought index store To (Some region) aim
  beyond_sought from aim h =
      let (below, falls, is_aim, past) = h.looks in
      let given = gives h.page h.ends h.named h.there region.first (not_before_self region.first) holds.until below (Some from) falls in
      inr (from, (region_of index.last below (Some from), given, refl), is_aim)

-- what doesn't begin before where the search went on is later than the region behind which it did
pub is_later : (index : IndexView) (store : StoreFacts) (To : Key → Option ℕ → Type 0) (after : Option Region) (from : Key) (found : Region)
    → FindsAfter index store To after (Some (from, found)) → precedes found.first from ≡ false → IsLater after found
is_later index store To after from found (start, is_from, (is, aim, is_aim, got)) late = by_after after is_from
  where
    by_after : (o : Option Region) → IsFrom index store o start → IsLater o found
    by_after None same = tt
    by_after (Some other) (first, given, next) =
        before_le other.first from found.first (subst (λ (o : Option Key). IfSome o (IsBefore other.first)) (sym next ∙ is) given.holds.to)
        (λ sooner. true≢false (sym (precedes_of found.first from sooner) ∙ late))

-- over an honest store no region is found that begins before where the search went on
pub not_crossed : (index : IndexView) (store : StoreFacts) (To : Key → Option ℕ → Type 0) (after : Option Region) (from : Key) (found : Region)
    → FindsAfter index store To after (Some (from, found)) → IsHonest store → ¬ (IsBefore found.first from)
not_crossed index store To after from found (start, is_from, (is, aim, is_aim, given)) honest sooner = by_after after is_from
  where
    by_after : (o : Option Region) → IsFrom index store o start → ⊥
    by_after None same =
        let at : from ≡ origin = (let e : Some from ≡ Some origin = sym is ∙ same in cc) in
        not_before_origin found.first (subst (λ (k : Key). IsBefore found.first k) at sooner)
    by_after (Some region) (first, first_given, next) =
        never_cross index store region.first aim from first found (first_given.way honest) (given.way honest) first_given.holds (sym next ∙ is)
        (subst (λ (k : Key). ¬ (IsBefore k from)) (sym is_aim.3) (not_before_from from is_aim.0)) sooner
