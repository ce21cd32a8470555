-- The lowest level of the index while the directory is read.
use Rattle.std.proofs.Common.{rules, ◌≡◌, ◌≤◌, ◌<◌, ◌+◌, ◌-◌, ◌^◌, ◌++◌, ◌∙◌, ℕ, List, [], ◌∷◌, Some, None, Result, Ok, Err, IfErr, true, false, ap, arith, length, refl, subst, sym}
use Rattle.ub_upgrade.proofs.Common.{AddsPages, all_append, AreBegun, AreBelow, AreLeaves, cut_added, directory_page, Entry, HasNotFailed, HasPart, HeadingView}
use Rattle.ub_upgrade.proofs.Common.{index_page, IsBuildFault, IsBuilt, IsErrAnd, IsHonest, IsListing, IsMet, IsPage, IsReadUpTo, last_address, length-append}
use Rattle.ub_upgrade.proofs.Common.{Level, Listing, lowest_level, New, Old, page_count, PagerView, raised, Root, small_address, StoreFacts, UpgradeFault}
use Rattle.ub_upgrade.specs.Effects.{BringsOver, counted_old}
use Rattle.ub_laying.specs.Levels.{Cut, IsIndexOf, IsRaised}
use Rattle.ub_upgrade.specs.declared.chain.Place.{Place}
use Rattle.ub_upgrade.proofs.ReadFacts.{IsReadWhole, part_full, part_whole}
use Rattle.ub_store.specs.declared.fault.StoreFault.TheVariants as store

-- the directory was read up to a place, and so many pages from one on tell the same entries
pub record IsHalfWay (from start : StoreFacts) (heading : HeadingView) (pages : List (List ℕ)) (first count : ℕ) (place : Place) : Type 0 where
  pub chain : List ℕ
  pub entries : List Entry
  pub met : IsMet entries place
  pub below : AreBelow (page_count from) entries
  pub going : place.met < heading.regions → IsReadUpTo from heading chain entries place.next
  pub whole : heading.regions ≤ place.met → IsReadWhole from heading chain entries
  pub cut : IsHonest start → Cut pages 1 first count entries

pub begun_way : (from start : StoreFacts) (heading : HeadingView) (pages : List (List ℕ)) (first count root : ℕ) → heading.root ≡ root → 1 ≤ heading.root → heading.root < 2 ^ 32 → 1 ≤ heading.regions → 0 ≡ count
    → IsHalfWay from start heading pages first count (record { met = 0; last = None; next = root })
begun_way from start heading pages first count root is some small more none = record {
  chain = [];
  entries = [];
  met = record { met = refl; last = refl };
  below = tt;
  going = λ going. record { root_is = ap (λ (n : ℕ). Some n) (sym is); some_page = omega arith; small = omega arith; full = λ honest. refl; each = tt; begun = tt; more = more };
  whole = λ done. absurd (omega arith);
  cut = λ honest. subst (λ (k : ℕ). Cut pages 1 first k []) none refl;
}

pub more_way : (from start : StoreFacts) (heading : HeadingView) (b c : List (List ℕ)) (first : ℕ) (place next : Place) (part : Listing) → IsHalfWay from start heading b first (length b - first) place
    → place.met < heading.regions → first ≤ length b → IsListing heading.dims part → IsPage from place.next (directory_page part) → HasPart (heading.regions - place.met) part
    → ((before : List Entry) → AreBegun before → IsMet before place → AreBegun (before ++ part.entries)) → AreBelow (page_count from) part.entries
    → (IsHonest start → c ≡ b ++ index_page (record { level = 1; entries = part.entries }) ∷ []) → ((before : List Entry) → IsMet before place → IsMet (before ++ part.entries) next)
    → next.next ≡ part.next → IsHalfWay from start heading c first (length c - first) next
more_way from start heading b c first place next part way more some range at fits begins below added passes next_is =
    let h = way.going more in
    let was = way.met.met in
    let entries = way.entries in
    let fits_there : HasPart (heading.regions - length entries) part = subst (λ (m : ℕ). HasPart (heading.regions - m) part) was fits in
    let begun = begins entries h.begun way.met in
    let met = passes entries way.met in
    let long = length-append entries part.entries in
    let is = met.met in
    let few = fits.0 in
    record {
      chain = way.chain ++ place.next ∷ [];
      entries = entries ++ part.entries;
      met = met;
      below = all_append (λ (e : Entry). e.page < page_count from) entries part.entries way.below below;
      going = λ going.
          subst (λ (n : ℕ). IsReadUpTo from heading (way.chain ++ place.next ∷ []) (entries ++ part.entries) n) (sym next_is)
          (part_full from heading way.chain entries place.next (directory_page part) part h at range refl fits_there begun (omega arith)).0;
      whole = λ done. part_whole from heading way.chain entries place.next (directory_page part) part h at range refl fits_there begun (omega arith);
      cut = λ honest. cut_added b c 1 first entries part.entries (added honest) some range.some range.few (way.cut honest);
    }

-- a store that was read with no failure is as it was
pub same_store : (P Q R : StoreFacts) → Q ≡ P → R ≡ Q → R ≡ P
same_store P Q R e f = f ∙ e

-- ---- a page of the directory that is refused

pub refused_by : {A : Type 0} (P Q new : StoreFacts) (heading : HeadingView) (r : Result A UpgradeFault) (e : UpgradeFault) → IsErrAnd r (λ x. x ≡ e) → Q ≡ P → IsBuildFault heading Q new e
    → IfErr r (IsBuildFault heading P new)
refused_by P Q new heading r e h k j = search rules

-- a store that can't fail
abbrev calm : StoreFacts → StoreFacts
calm new = record new { can_fail = false }

read_on : (P Q R : StoreFacts) (n : ℕ → ℕ) → Q ≡ P → R ≡ record Q { failed_reads = n Q.failed_reads } → R ≡ record P { failed_reads = n P.failed_reads }
read_on P Q R n same is = is ∙ ap (λ (s : StoreFacts). record s { failed_reads = n s.failed_reads }) same

-- a call that read the old store alone was refused, after calls that added pages to the new one
pub read_ended : {A : Type 0} (B : Type 0) (P Q R : StoreFacts) (heading : HeadingView) (a b : PagerView) (r : Result A UpgradeFault) (e : UpgradeFault) → IsErrAnd r (λ x. x ≡ e) → Q ≡ P
    → R ≡ record Q { failed_reads = counted_old {A = B} (Err e) Q.failed_reads } → AddsPages a b → HasNotFailed a.store b.store → ((new : StoreFacts) → IsBuildFault heading Q new e)
    → BringsOver P R a b r
read_ended B P Q R heading a b (Ok x) e is same read adds counts fault = absurd is
read_ended {A} B P Q R heading a b (Err f) e is same read adds counts fault = rw is (by_fault e read (fault (calm a.store)))
  where
    by_fault : (e : UpgradeFault) → R ≡ record Q { failed_reads = counted_old {A = B} (Err e) Q.failed_reads } → IsBuildFault heading Q (calm a.store) e → BringsOver {A = A} P R a b (Err e)
    by_fault (Old store.Device) read fault = record { read = read_on P Q R (λ n. raised n 1) same read; same = adds.same; counts = counts; grows = adds.grows; held = adds.held }
    by_fault (New store.Device) read fault = let no_way : false ≡ true = fault in cc
    by_fault e read fault = record { read = read_on P Q R (λ n. n) same read; same = adds.same; counts = counts; grows = adds.grows; held = adds.held }

-- ---- the whole

pub built_of : (heading : HeadingView) (from start middle end : StoreFacts) (low : Level) (root : Root) → heading.dims ≤ 4 → AreLeaves heading from middle.pages low → low.first ≡ page_count start
    → low.first + low.count ≡ page_count middle → page_count middle < 2 ^ 32 → 1 ≤ page_count start → IsRaised middle.pages end.pages low root → IsBuilt heading from start end root
built_of heading from start middle end low root few (chain, entries, is, below, cut) first last small some raised =
    let last_one = last_address heading.dims in
    let size = small_address heading.dims last_one few (omega arith) in
    let level = lowest_level last_one middle.pages low.first low.count entries (omega arith) is.places is.each (omega arith) (omega arith) cut in
    let built = raised last_one low.first entries (omega arith) (omega arith) level in
    (chain, entries, is, below, subst (λ (n : ℕ). IsIndexOf last_one end.pages n (page_count end) root entries) first built)
