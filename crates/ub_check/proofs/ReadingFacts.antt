-- What is read of a region's page: it was brought, and taken in, or it is refused and forgotten.
use Rattle.std.proofs.Common.{rules, ◌≡◌, ◌≤◌, ◌<◌, ◌∙◌, inr, ℕ, IsTrue, List, Some, Result, Ok, Err, IsOk, ap, arith, refl, sym, subst}
use Rattle.ub_check.proofs.Common.{counted as counted_there, IndexFault, IsErrAnd, IsHonest, IsIndexKind, IsPage, IsRegion, IsSpanFault, IsTakenIn, keeps_but}
use Rattle.ub_check.proofs.Common.{keeps_gone, keeps_less, NoneMore, NoneMoreBut, page_at, page_count, PagerView, Reads, ReadsAt, Region, region_page}
use Rattle.ub_check.proofs.Common.{region_parts, RegionRows, RegionView, Schema, slice_get_within, Store, store_after, StoreFacts, StoreFault}
use Rattle.std.specs.Result.{IsErrOf}
use Rattle.ub_index.proofs.StepFacts.{held_once, honest_back}
use Rattle.ub_index.specs.Opening.{IsPassing}
use Rattle.ub_index.specs.Searching.{count_with}
use Rattle.ub_check.specs.inner.Taking.{TakesIn}
use Rattle.ub_store.specs.declared.fault.StoreFault.TheVariants as store

-- the page of a region doesn't begin as one of an index does
pub region_no_kind : (schema : Schema) (region : RegionRows) → IsRegion schema region → ¬ (IsIndexKind (region_page schema region))
region_no_kind schema region h = search (rules, region_parts)

-- a failed read, as the store counts it and as a check does
pub count_read : (T U : Type 0) (e : StoreFault) (n : ℕ) → counted_there {A = U} (Err e) n ≡ count_with {A = T} (Err (Store e)) n
count_read T U e n = search rules

-- a pager with another store
with_store : (p : PagerView) (s : StoreFacts) → p.store ≡ s → p ≡ record p { store = s }
with_store p s same = ap (λ (x : StoreFacts). record p { store = x }) same

module _ (schema : Schema) (span : Region) (old mid : PagerView) (page : RegionView) (others : NoneMoreBut span.page old.cached mid.cached) where
  unread_fault : {U : Type 0} (e : StoreFault) → (IsErrOf {T = U} (Err e) store.Device → IsTrue old.store.can_fail) → (IsErrOf {T = U} (Err e) store.NoPage → page_count old.store ≤ span.page)
      → (¬ (IsErrOf {T = U} (Err e) store.BadSize)) → IsSpanFault schema old.store span (Store e)
  unread_fault store.Device device missing size = device refl
  unread_fault store.NoPage device missing size = missing refl
  unread_fault store.Memory device missing size = tt
  unread_fault store.BadSize device missing size = absurd (size refl)

  unread_passing : {U : Type 0} (e : StoreFault) → (IsErrOf {T = U} (Err e) store.NoPage → page_count old.store ≤ span.page) → (¬ (IsErrOf {T = U} (Err e) store.BadSize))
      → (r : RegionRows) → IsHonest old.store → IsTakenIn schema old.store span r → IsPassing (Store e)
  unread_passing store.NoPage missing size r honest is =
      let past = missing refl in
      let within = slice_get_within old.store.pages span.page (region_page schema r) (is.2 honest) in
      absurd (omega arith)
  unread_passing store.BadSize missing size r honest is = absurd (size refl)
  unread_passing fault missing size r honest is = tt

  -- its page isn't read
  pub unread : {T U : Type 0} (r : Result T IndexFault) (e : StoreFault) → IsErrAnd r (λ x. x ≡ Store e) → Reads {A = U} old.store mid.store (Err e)
      → (IsErrOf {T = U} (Err e) store.NoPage → page_count old.store ≤ span.page) → (¬ (IsErrOf {T = U} (Err e) store.BadSize)) → NoneMore old.cached mid.cached
      → ReadsAt schema span old mid page r
  unread (Ok x) e is reads missing size missed = absurd is
  unread {T = T} {U = U} (Err f) e is reads missing size missed =
      subst (λ (x : IndexFault). ReadsAt {A = T} schema span old mid page (Err x)) (sym is) (record {
        same = with_store mid (store_after {A = T} (Err (Store e)) old.store) (reads.same ∙ ap (λ (n : ℕ). record old.store { failed_reads = n }) (count_read T U e old.store.failed_reads));
        dims = tt;
        taken = tt;
        there = tt;
        exact = λ r honest stands. unread_passing {U = U} e missing size r honest stands;
        held = tt;
        others = others;
        checked = λ last. keeps_less last old mid (λ good. honest_back old.store mid.store _ reads.same good) missed;
        forgotten = tt;
        faults = unread_fault {U = U} e reads.device missing size;
      })

  -- it is
  module _ (same : mid.store ≡ old.store) (new : PagerView) {T : Type 0} (r : Result T IndexFault) (h : TakesIn schema span mid new page r) where
    no_others : NoneMoreBut span.page old.cached new.cached
    no_others m p ne at = others m p ne (sym (h.others m ne) ∙ at)

    store_is : new.store ≡ old.store
    store_is = ap (λ (p : PagerView). p.store) h.same ∙ same

    back : IsHonest new.store → IsHonest old.store
    back good = subst (λ (s : StoreFacts). IsHonest s) store_is good

    page_was : IsPage old.store span.page h.bytes
    page_was = subst (λ (s : StoreFacts). IsPage s span.page h.bytes) same h.page_is

    must : (q : RegionRows) → IsHonest old.store → IsTakenIn schema old.store span q → IsOk r × (page ≡ record { dims = schema.dims; region = q })
    must q honest is =
        let was = page_was honest in
        let stands = is.2 honest in
        let same_bytes : h.bytes ≡ region_page schema q = cc in
        h.exact q is.0 same_bytes is.1

  -- and its region taken in
  pub taken_in : (same : mid.store ≡ old.store) (new : PagerView) {T : Type 0} (r : Result T IndexFault) → TakesIn schema span mid new page r → ReadsAt schema span old new page r
  taken_in same new (Ok x) h =
      let holds : page_at new.cached span.page ≡ Some (region_page schema page.region) =
      ap (λ (p : PagerView). page_at p.cached span.page) h.kept ∙ (h.held ∙ ap (λ (p : List ℕ). Some p) h.spelled) in
      record {
        same = with_store new old.store (store_is same new (Ok x) h);
        dims = h.dims;
        taken = (h.is, h.stands, λ honest. page_was same new (Ok x) h honest ∙ ap (λ (p : List ℕ). Some p) h.spelled);
        there = subst (λ (s : StoreFacts). span.page < page_count s) same h.there;
        exact = λ q honest stands. ap (λ (v : RegionView). v.region) (must same new (Ok x) h q honest stands).1;
        held = holds;
        others = no_others same new (Ok x) h;
        checked = λ last. keeps_but last old new span.page (back same new (Ok x) h) (no_others same new (Ok x) h)
            (λ good p at. inr (subst (λ (q : List ℕ). ¬ (IsIndexKind q)) (held_once new.cached span.page (region_page schema page.region) p holds at) (region_no_kind schema page.region h.is)));
        forgotten = tt;
        faults = tt;
      }
  taken_in same new {T = T} (Err f) h =
      let parts : new.store ≡ old.store = store_is same new (Err f) h in
      subst (λ (x : IndexFault). ReadsAt {A = T} schema span old new page (Err x)) (sym h.refused.1) (record {
        same = with_store new old.store parts;
        dims = tt;
        taken = tt;
        there = tt;
        exact = λ q honest stands. absurd (let bad = (must same new (Err f) h q honest stands).0 in cc);
        held = tt;
        others = no_others same new (Err f) h;
        checked = λ last. keeps_gone last old new span.page (back same new (Err f) h) (no_others same new (Err f) h) h.gone;
        forgotten = h.gone;
        faults = (refl, h.bytes, page_was same new (Err f) h, h.refused.2);
      })
