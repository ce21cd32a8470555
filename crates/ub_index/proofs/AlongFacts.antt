-- A walk along a leaf: the region that stands next on it, those that follow one another, and what a search gives there.
use Rattle.std.proofs.Common.{rules, ◌≡◌, ◌≤◌, ◌<◌, ◌+◌, ◌^◌, ◌++◌, ◌⊎◌, inl, inr, ℕ, List, [], ◌∷◌, Option, Some, None, IfSome, Result, Ok, Err, drop, ◌∙◌, sym, ap, subst, refl, arith, append-nil}
use Rattle.ub_index.proofs.Common.{AreChecked, at_least, BringsNext, Corners, Crosses, end_before, Entry, entry_at, entry_in, FallsTo, first_in, first_or}
use Rattle.ub_index.proofs.Common.{FitsAtEnds, FollowOn, Gives, GivesAlong, GivesFrom, GoesDown, HandsAlong, HandsLeaf, Head, Holds, HoldsKey, HoldsLeaf}
use Rattle.ub_index.proofs.Common.{IndexFault, IndexView, IsAim, IsAimless, IsBefore, IsErrAnd, IsForgotten, IsHonest, IsPage, IsSlot, IsSlotNext, Key}
use Rattle.ub_index.proofs.Common.{le_before, le_trans, LeadsDown, Leaf, Meeting, Meets, Memory, NamesFitting, node_on, not_before_self, not_both_before}
use Rattle.ub_index.proofs.Common.{number_at, page_in, PagerView, Place, Region, region_of, StandsNext, StepsDown, Store, StoreFacts, TakesThese}
use Rattle.ub_index.proofs.BehindFacts.{below_holds, gives}
use Rattle.ub_index.proofs.FitFacts.{falls, page_is}
use Rattle.ub_index.proofs.HeldFacts.{Keeps, both_on}
use Rattle.ub_index.proofs.SearchFacts.{step_keeps}
use Rattle.ub_index.proofs.StepFacts.{pager_so}
use Rattle.ub_index.proofs.StretchSteps.{begins_up_to, ends_from}
use Rattle.ub_index.proofs.WaysFacts.{not_before_from}

-- ---- the key to which a search goes down

-- there is none where none is found
pub is_none : (o : Option Key) → ((k : Key) → o ≡ Some k → ⊥) → o ≡ None
is_none None never = refl
is_none (Some k) never = absurd (never k refl)

at_least_z : (from : Key) (z : ℕ) → from.z ≤ z → (at_least from z).z ≡ z
at_least_z from z h = search rules

pub aim_from : (last : ℕ) (To : Key → Option ℕ → Type 0) (from aim : Key) → IsAim last To from aim → ¬ (IsBefore aim from)
aim_from last To from aim (z, to, le, is) = subst (λ (k : Key). ¬ (IsBefore k from)) (sym is) (not_before_from from z)

module _ (boxes : List Corners) (last : ℕ) (from : Key) where
  -- there is one at most
  pub one_aim : (a b : Key) → IsAim last (Meeting boxes) from a → IsAim last (Meeting boxes) from b → a ≡ b
  one_aim a b (y, to_y, le_y, is_y) (z, to_z, le_z, is_z) =
      let up : y ≤ z = to_y.2 z to_z.0 to_z.1 in
      let down : z ≤ y = to_z.2 y to_y.0 to_y.1 in
      let same : y ≡ z = omega arith in
      is_y ∙ (ap (λ (n : ℕ). at_least from n) same ∙ sym is_z)

  no_aim : IsAimless last (Meeting boxes) (Some from) → (aim : Key) → ¬ (IsAim last (Meeting boxes) from aim)
  no_aim (inl none) aim (z, to, le, is) = let less : z < from.z = none z to.0 in let near = to.1 in omega arith
  no_aim (inr (y, to_y, past)) aim (z, to, le, is) = let up : y ≤ z = to_y.2 z to.0 to.1 in omega arith

  -- what holds it meets the boxes
  pub aim_met : (aim : Key) (region : Region) → IsAim last (Meeting boxes) from aim → HoldsKey aim region.first region.next → region ≡ region_of last (entry_at region) region.next
      → Meets boxes region
  aim_met aim region (z, to, le, is) holds span =
      let address : aim.z ≡ z = ap (λ (k : Key). k.z) is ∙ at_least_z from z to.1 in
      let first = begins_up_to aim region.first holds.from in
      let most = ends_from last aim region.next holds.to (omega arith) in
      let begins : region.from ≡ region.first.z = ap (λ (r : Region). r.from) span in
      let ends : region.to ≡ end_before last region.next = ap (λ (r : Region). r.to) span in
      (z, to.0, omega arith, omega arith)

  -- ---- the slot in which the next region stands

  module _ (leaf : Leaf) (page : List ℕ) (count : ℕ) where
    pub none_aimless : IsAimless last (Meeting boxes) (Some from) → IsSlotNext last (Meeting boxes) leaf page count from None
    none_aimless none aim is near = absurd (no_aim none aim is)

    pub none_elsewhere : (key : Key) → IsAim last (Meeting boxes) from key → ¬ (IfSome leaf.until (IsBefore key)) → IsSlotNext last (Meeting boxes) leaf page count from None
    none_elsewhere key key_is far aim is near = absurd (far (subst (λ (k : Key). IfSome leaf.until (IsBefore k)) (one_aim aim key is key_is) near))

    pub none_crossed : (key : Key) (slot : ℕ) → IsAim last (Meeting boxes) from key → IsSlot key count page slot → IsBefore (first_in slot page) from
        → IsSlotNext last (Meeting boxes) leaf page count from None
    none_crossed key slot key_is at sooner aim is near = (slot, subst (λ (k : Key). IsSlot k count page slot) (one_aim key aim key_is is) at, sooner)

    -- what is found there, where none is
    pub none_there : (found : Option ℕ) → ((slot : ℕ) → found ≡ Some slot → ⊥) → IsSlotNext last (Meeting boxes) leaf page count from found
        → IsSlotNext last (Meeting boxes) leaf page count from None
    none_there None never h = h
    none_there (Some slot) never h = absurd (never slot refl)

-- ---- the region that stands next

module _ (boxes : List Corners) (last : ℕ) (leaf : Leaf) (page : List ℕ) where
  pub stands_next : (count slot : ℕ) (from : Key) (place : Place) (region : Region) → IsSlotNext last (Meeting boxes) leaf page count from (Some slot) → place.entry ≡ entry_in slot page
      → ((key : Key) → IsSlot key count page slot → FallsTo key (node_on page).entries leaf.place.next place.entry place.next)
      → region ≡ region_of last place.entry place.next → region.first.number < 2 ^ 32 → StandsNext last (Meeting boxes) leaf (node_on page).entries from region
  stands_next count slot from place region (aim, is, near, at, later) entry_is falls_all span small = record {
    aim = aim;
    is = is;
    near = near;
    falls = subst (λ (r : Region). FallsTo aim (node_on page).entries leaf.place.next (entry_at r) r.next) (sym span) (falls_all aim at);
    span = subst (λ (r : Region). r ≡ region_of last (entry_at r) r.next) (sym span) refl;
    begins = subst (λ (r : Region). ¬ (IsBefore r.first from)) (sym span) (subst (λ (e : Entry). ¬ (IsBefore e.first from)) (sym entry_is) later);
    small = small;
  }

  module _ (ends : FitsAtEnds page 1 leaf.place.entry leaf.place.next) (within : (k : Key) → IfSome leaf.until (IsBefore k) → IfSome leaf.place.next (IsBefore k))
      (from : Key) (begun : (aim : Key) → IsAim last (Meeting boxes) from aim → ¬ (IsBefore aim leaf.place.entry.first)) (region : Region)
      (stands : StandsNext last (Meeting boxes) leaf (node_on page).entries from region) where
    stands_holds : HoldsKey stands.aim region.first region.next
    stands_holds =
        below_holds page 1 stands.aim leaf.place.entry leaf.place.next (entry_at region) region.next ends
        (record { from = begun stands.aim stands.is; to = within stands.aim stands.near }) stands.falls

    pub stands_met : Meets boxes region
    stands_met = aim_met boxes last from stands.aim region stands.is stands_holds stands.span

    module _ (next : Key) (is_next : region.next ≡ Some next) where
      inside : IsBefore stands.aim next
      inside = subst (λ (o : Option Key). IfSome o (IsBefore stands.aim)) is_next stands_holds.to

      -- where it ends is later
      pub next_later : IsBefore from next
      next_later = le_before from stands.aim next (aim_from last (Meeting boxes) from stands.aim stands.is) inside

      -- and what the search goes down to from there is no key before the leaf
      pub next_begun : (aim : Key) → IsAim last (Meeting boxes) next aim → ¬ (IsBefore aim leaf.place.entry.first)
      next_begun aim is =
          le_trans leaf.place.entry.first next aim
          (λ back. not_both_before leaf.place.entry.first next (le_before leaf.place.entry.first stands.aim next (begun stands.aim stands.is) inside) back)
          (aim_from last (Meeting boxes) next aim is)

-- one more follows
pub follow_more : (last : ℕ) (To : Key → Option ℕ → Type 0) (leaf : Leaf) (entries : List Entry) (from : Option Key) (handed : List Region) (key : Key) (region : Region)
    → FollowOn last To leaf entries from handed (Some key) → StandsNext last To leaf entries key region → FollowOn last To leaf entries from (handed ++ region ∷ []) region.next
follow_more last To leaf entries from [] key region is stands = (key, is, stands, refl)
follow_more last To leaf entries from (x ∷ handed) key region (k, is, there, rest) stands = (k, is, there, follow_more last To leaf entries x.next handed key region rest stands)

-- later than what isn't later than this
pub later_on : (first from next : Key) → (from ≡ first) ⊎ IsBefore first from → IsBefore from next → IsBefore first next
later_on first from next (inl same) before = subst (λ (k : Key). IsBefore k next) same before
later_on first from next (inr sooner) before = le_before first from next (λ back. not_both_before first from sooner back) before

-- ---- what a search gives

pub if_some : {A : Type 0} (P Q : A → Type 0) → ((x : A) → P x → Q x) → (o : Option A) → IfSome o P → IfSome o Q
if_some P Q f None h = tt
if_some P Q f (Some x) h = f x h

module _ (index : IndexView) (store : StoreFacts) (boxes : List Corners) (leaf : Leaf) (start : Key) (holds : HoldsLeaf start leaf)
    (down : IsHonest store → LeadsDown index store start 1 leaf) (page : List ℕ) (ends : FitsAtEnds page 1 leaf.place.entry leaf.place.next)
    (named : IsHonest store → NamesFitting index.last store.pages 1 leaf.place.entry leaf.place.next)
    (there : IsHonest store → page ≡ page_in store.pages leaf.place.entry.page) where
  -- a region that begins with the key to which the search went down
  abbrev begun : Region
  begun = region_of index.last (record { first = start; page = 0 }) None

  fallen : (k : Key) → ¬ (IsBefore k start) → IfSome leaf.until (IsBefore k) → (below : Entry) (next : Option Key)
      → FallsTo k (node_on page).entries leaf.place.next below next → Gives index store k (region_of index.last below next)
  fallen k later near below next fell = gives index store (Meeting boxes) begun leaf holds down page ends named there k later near below next fell

  pub along : (from : Option Key) (regions : List Region) (on : Option Key)
      → ((key : Key) → from ≡ Some key → (aim : Key) → IsAim index.last (Meeting boxes) key aim → ¬ (IsBefore aim start))
      → FollowOn index.last (Meeting boxes) leaf (node_on page).entries from regions on → GivesAlong index store (Meeting boxes) from regions on
  along from [] None later is = subst (λ (o : Option Key). GivesFrom index store (Meeting boxes) o None) (sym is) tt
  along from [] (Some on) later is = is
  along from (region ∷ more) on later (key, is, stands, rest) =
      let up = later key is stands.aim stands.is in
      let given : Gives index store stands.aim region =
      subst (λ (r : Region). Gives index store stands.aim r) (sym stands.span) (fallen stands.aim up stands.near (entry_at region) region.next stands.falls) in (
        record {
          given = subst (λ (o : Option Key). GivesFrom index store (Meeting boxes) o (Some region)) (sym is) (stands.aim, stands.is, given);
          begins = subst (λ (o : Option Key). IfSome o (λ k. ¬ (IsBefore region.first k))) (sym is) stands.begins;
          small = stands.small;
        },
        along region.next more on
            (λ k is_k aim is_aim.
            let inside : IsBefore stands.aim k = subst (λ (o : Option Key). IfSome o (IsBefore stands.aim)) is_k given.holds.to in
            le_trans start k aim (λ back. not_both_before start k (le_before start stands.aim k up inside) back) (aim_from index.last (Meeting boxes) k aim is_aim)) rest,
      )

  pub crosses : (from : Key) (count : ℕ) → count ≡ number_at 2 2 page → IsAim index.last (Meeting boxes) from start
      → IsSlotNext index.last (Meeting boxes) leaf page count from None → Crosses index store (Meeting boxes) from
  crosses from count same is none =
      let (slot, at, sooner) = none start is holds.until in
      let next : Option Key = first_or (drop (slot + 1) (node_on page).entries) leaf.place.next in (
        start,
        is,
        region_of index.last (entry_in slot page) next,
        fallen start (not_before_self start) holds.until (entry_in slot page) next (falls page start leaf.place.next next count slot same at refl),
        sooner,
      )

-- ---- a call that hands over the regions of a leaf

module _ {S : Type 0} (Takes : S → List Region → S → Type 0) (index : IndexView) (boxes : List Corners) (from : Key) where
  pub takes_none : (now : S) → TakesThese Takes now now []
  takes_none now start taken has = subst (λ (these : List Region). Takes start these now) (sym (append-nil taken)) has

  -- there is none
  pub leaf_none : (now : S) (old : PagerView) → IsAimless index.last (Meeting boxes) (Some from) → HandsLeaf Takes index (Meeting boxes) from now now old old (Ok None)
  leaf_none now old none = record {
    taken = ([], takes_none now, λ sure. none);
    stays = λ sure. tt;
    forgotten = tt;
    effect = record { same = refl; checked = λ sure. sure; more = λ n page held. inl held; faults = λ sure. tt };
  }

  -- a page on the way is refused, or memory is
  pub leaf_refused : (before after : S) (old new : PagerView) (r : Result (Option Key) IndexFault) (e : IndexFault) → IsErrAnd r (λ x. x ≡ e) → IsForgotten new e
      → GoesDown (IsAim index.last (Meeting boxes) from) index old new r → HandsLeaf Takes index (Meeting boxes) from before after old new r
  leaf_refused before after old new (Ok x) e is gone down = absurd is
  leaf_refused before after old new (Err f) e is gone down = record {
    taken = tt;
    stays = λ sure. tt;
    forgotten = subst (λ (x : IndexFault). IsForgotten new x) (sym is) gone;
    effect = down;
  }

  -- those of the leaf were handed over
  pub leaf_handed : (start : Key) (leaf : Leaf) (page : List ℕ) (head : Head) (before after : S) (old mid now : PagerView) (on : Option Key)
      → IsAim index.last (Meeting boxes) from start → HoldsLeaf start leaf → (IsHonest old.store → AreChecked index.last old → LeadsDown index old.store start 1 leaf)
      → mid.store ≡ old.store → mid.trace ≡ old.trace → Keeps index.last old mid
      → BringsNext index.last 1 leaf.place.entry leaf.place.next mid now (Ok head) → Holds now leaf.place.entry.page page → IsPage now.store leaf.place.entry.page page
      → HandsAlong Takes index.last (Meeting boxes) leaf page head.count from before after on
      → HandsLeaf Takes index (Meeting boxes) from before after old now (Ok on)
  leaf_handed start leaf page head before after old mid now on is holds down stores traces kept brings held stood h =
      let ends = brings.ends page held in
      let stored : now.store ≡ mid.store = ap (λ (p : PagerView). p.store) brings.steps.same in
      let named = λ (sure : AreChecked index.last old) (honest : IsHonest old.store).
      subst (λ (s : StoreFacts). NamesFitting index.last s.pages 1 leaf.place.entry leaf.place.next) stores
      (brings.named (subst (λ (s : StoreFacts). IsHonest s) (sym stores) honest) (kept.0 sure)) in
      let there = λ (honest : IsHonest old.store).
      sym (page_is old.store.pages leaf.place.entry.page page (subst (λ (s : StoreFacts). IsPage s leaf.place.entry.page page) (stored ∙ stores) stood honest)) in
      let same_count : head.count ≡ number_at 2 2 page = ap (λ (x : Head). x.count) ends.0 in
      let both = both_on index.last old mid now kept (step_keeps brings.steps) in
      record {
        taken = (
          h.regions,
          h.takes,
          λ sure.
              along index old.store boxes leaf start holds (λ honest. down honest sure) page ends.1 (named sure) there (Some from) h.regions on
              (λ key same aim is_aim.
              let one : from ≡ key = cc in
              subst (λ (k : Key). ¬ (IsBefore k start)) (one_aim boxes index.last from start aim is (subst (λ (k : Key). IsAim index.last (Meeting boxes) k aim) (sym one) is_aim)) (not_before_self start)) h.follow,
        );
        stays = λ sure.
            if_some (λ key. ¬ (IsBefore from key) → IsSlotNext index.last (Meeting boxes) leaf page head.count from None)
            (λ key. ¬ (IsBefore from key) → Crosses index old.store (Meeting boxes) from)
            (λ key none stuck. crosses index old.store boxes leaf start holds (λ honest. down honest sure) page ends.1 (named sure) there from head.count same_count is (none stuck)) on h.stays;
        forgotten = tt;
        effect = record {
          same = pager_so old now old.store (stored ∙ stores) (ap (λ (p : PagerView). p.trace) brings.steps.same ∙ traces);
          checked = both.0;
          more = both.1;
          faults = λ sure. tt;
        };
      }

-- a step that was made, and then memory was refused
pub memory_after : {T U : Type 0} (last level : ℕ) (entry : Entry) (end : Option Key) (old new : PagerView) (x : T) → StepsDown last level entry end old new (Ok x)
    → StepsDown {A = U} last level entry end old new (Err (Store Memory))
memory_after last level entry end old new x h = record { same = h.same; checked = h.checked; more = h.more; faults = λ sure. tt }
