-- What a store is to which pages are added, and what its counts of failures are.
use Rattle.std.proofs.Common.{rules, ◌≡◌, ◌≤◌, ◌<◌, ◌+◌, ◌++◌, ◌∙◌, inl, ℕ, zero, suc, List, [], ◌∷◌, Some, None, Result, Ok, Err, IsTrue, ap, arith, length, refl, slice_get, slice_set}
use Rattle.std.specs.Prelude.{OnOk, OnErr, IfErr, option_map}
use Rattle.std.specs.Result.{IsErrAnd}
use Rattle.ub_store.specs.Writing.{Grows}
use Rattle.ub_index.specs.Standing.{IsGrowFault}
use Rattle.ub_store.specs.Cache.{SameBut, page_at}
use Rattle.ub_store.specs.Facts.{StoreFacts, Appends, Extends, IsHonest, MayFlush, WritesAt, counted, page_count, zero_page}
use Rattle.ub_store.specs.View.{PagerView, SameTrace}
use Rattle.ub_store.specs.declared.fault.StoreFault.{StoreFault}
use Rattle.ub_laying.specs.Effects.{AddsPages, Counts, HasNotFailed, HoldsNoMore, written}

-- ---- lists

pub get_front : (xs ys : List (List ℕ)) (m : ℕ) → m < length xs → slice_get (xs ++ ys) m ≡ slice_get xs m
get_front [] ys m h = absurd (omega arith)
get_front (x ∷ xs) ys zero h = refl
get_front (x ∷ xs) ys (suc m) h = get_front xs ys m (omega arith)

pub get_last : (xs : List (List ℕ)) (x : List ℕ) → slice_get (xs ++ x ∷ []) (length xs) ≡ Some x
get_last [] x = refl
get_last (y ∷ xs) x = get_last xs x

set_last : (xs : List (List ℕ)) (x y : List ℕ) → slice_set (xs ++ x ∷ []) (length xs) y ≡ xs ++ y ∷ []
set_last [] x y = refl
set_last (z ∷ xs) x y = ap (λ (zs : List (List ℕ)). z ∷ zs) (set_last xs x y)

-- ---- stores

pub honest_same : (a b : StoreFacts) → b ≡ written a b → IsHonest a → IsHonest b
honest_same a b e honest = rw (ap (λ (s : StoreFacts). s.honest) e) honest

pub can_fail_back : (a b : StoreFacts) → b ≡ written a b → IsTrue b.can_fail → IsTrue a.can_fail
can_fail_back a b e can = rw (ap (λ (s : StoreFacts). s.can_fail) e) at can

pub written_trans : (a b c : StoreFacts) → b ≡ written a b → c ≡ written b c → c ≡ written a c
written_trans a b c e f = f ∙ ap (λ (s : StoreFacts). written s c) e

pub grows_self : (a : StoreFacts) → Grows a a
grows_self a = record { more = omega arith; kept = λ honest m less. refl; lasting = λ honest. inl refl }

-- a store that was extended
grows_by : (a b : StoreFacts) → page_count a ≤ page_count b → (IsHonest a → (m : ℕ) → m < page_count a → slice_get b.pages m ≡ slice_get a.pages m) → MayFlush a b → Grows a b
grows_by a b h k j = search rules

appends_kept : (page : List ℕ) (a b : StoreFacts) → Appends page a b → IsHonest a → (m : ℕ) → m < page_count a → slice_get b.pages m ≡ slice_get a.pages m
appends_kept page a b h honest m less = ap (λ (pages : List (List ℕ)). slice_get pages m) (h.1 honest) ∙ get_front a.pages (page ∷ []) m less

pub extended : {A : Type 0} (a b : StoreFacts) (r : Result A StoreFault) → Extends a b r → Grows a b
extended a b r h = search (rules, appends_kept, grows_by)

-- a page was put where there was none before
put_after : {A : Type 0} (a b c : StoreFacts) (page : List ℕ) (n : ℕ) (r : Result A StoreFault) → (IsHonest a → IsHonest b) → Grows a b → page_count a ≤ n → WritesAt n page b c r → Grows a c
put_after a b c page n r h k j l = search rules

written_of : {A : Type 0} (a b : StoreFacts) (r : Result A StoreFault) → b ≡ record a { pages = b.pages; synced = b.synced; failed_writes = counted r a.failed_writes } → b ≡ written a b
written_of a b r h = search rules

-- ---- counts of failures

counts_of : {A : Type 0} (a b : StoreFacts) (r : Result A StoreFault) → b ≡ record a { pages = b.pages; synced = b.synced; failed_writes = counted r a.failed_writes } → Counts r a b
counts_of a b r h = search rules

pub not_after : (a b c : StoreFacts) → HasNotFailed a b → HasNotFailed b c → HasNotFailed a c
not_after a b c h k = (k.0 ∙ h.0, k.1 ∙ h.1)

pub counts_after : {A : Type 0} (a b c : StoreFacts) (r : Result A StoreFault) → HasNotFailed a b → Counts r b c → Counts r a c
counts_after a b c r h k = search rules

-- ---- why a store doesn't grow

pub grow_by : {A : Type 0} (m n : ℕ) (a b : StoreFacts) (r : Result A StoreFault) (fault : StoreFault) → IsErrAnd r (λ e. e ≡ fault) → page_count b + m ≤ page_count a + n
    → (IsTrue b.can_fail → IsTrue a.can_fail) → IsGrowFault m b fault → IfErr r (IsGrowFault n a)
grow_by m n a b r fault h k j l = search rules

-- ---- pages that are held

pub holds_put : {A : Type 0} (a b : PagerView) (page : List ℕ) (n : ℕ) (r : Result A StoreFault) → OnOk r (page_at b.cached n ≡ option_map (λ _. page) (page_at a.cached n))
    → OnErr r (page_at b.cached n ≡ None) → SameBut n a.cached b.cached → HoldsNoMore a b
holds_put a b page n r h k j = search rules

pub holds_same : (a b : PagerView) → b.cached ≡ a.cached → HoldsNoMore a b
holds_same a b same m none = ap (λ (pages : List (ℕ × List ℕ)). page_at pages m) same ∙ none

-- ---- pagers

pub adds_self : (a : PagerView) → AddsPages a a
adds_self a = record { same = refl; grows = grows_self a.store; held = λ m none. none }

pub store_same : (a b : PagerView) → AddsPages a b → b.store ≡ written a.store b.store
store_same a b h = ap (λ (v : PagerView). v.store) h.same

pub honest_after : (a b : PagerView) → AddsPages a b → IsHonest a.store → IsHonest b.store
honest_after a b h = honest_same a.store b.store (store_same a b h)

pub honest_over : (a b : PagerView) → b ≡ record a { store = written a.store b.store; cached = b.cached } → IsHonest a.store → IsHonest b.store
honest_over a b same = honest_same a.store b.store (ap (λ (v : PagerView). v.store) same)

pub can_fail_before : (a b : PagerView) → AddsPages a b → IsTrue b.store.can_fail → IsTrue a.store.can_fail
can_fail_before a b h = can_fail_back a.store b.store (store_same a b h)

pub adds_trans : (a b c : PagerView) → AddsPages a b → AddsPages b c → AddsPages a c
adds_trans a b c h k = search rules

pager_same : (a b : PagerView) → SameTrace a b → b.store ≡ written a.store b.store → b ≡ record a { store = written a.store b.store; cached = b.cached }
pager_same a b h k = search rules

-- a page of zeros was added
pub page_begun : {A : Type 0} (a b : PagerView) (r : Result A StoreFault) → SameTrace a b → b.cached ≡ a.cached → Extends a.store b.store r
    → AddsPages a b × Counts r a.store b.store
page_begun a b r h k j = search (rules, counts_of, extended, holds_same, pager_same, written_of)

-- and another one put in its place
pub page_added : {A : Type 0} (a b c : PagerView) (page : List ℕ) (n : ℕ) (r : Result A StoreFault) → n ≡ page_count a.store → SameTrace a b → b.cached ≡ a.cached
    → Extends {A = ℕ} a.store b.store (Ok n) → SameTrace b c → WritesAt n page b.store c.store r → HoldsNoMore b c → AddsPages a c × Counts r a.store c.store × OnOk r (Appends page a.store c.store)
page_added {A} a b c page n r is trace same e trace_on w held =
    let begun = page_begun a b (Ok n) trace same e in
    let still = honest_after a b begun.0 in
    let both = written_trans a.store b.store c.store (store_same a b begun.0) (written_of b.store c.store r w.frame) in (
      record {
        same = pager_same a c (trace_on ∙ trace) both;
        grows = put_after a.store b.store c.store page n r still begun.0.grows (omega arith) w;
        held = λ m none. held m (begun.0.held m none);
      },
      counts_after a.store b.store c.store r begun.1 (counts_of b.store c.store r w.frame),
      by_result r w.written,
    )
  where
    by_result : (q : Result A StoreFault) → OnOk q (IsHonest b.store → c.store.pages ≡ slice_set b.store.pages n page) → OnOk q (Appends page a.store c.store)
    by_result (Err x) h = tt
    by_result (Ok x) h = (
      (let more = e.added.0 in let count = w.count in omega arith),
      λ honest.
          let still = honest_after a b (page_begun a b (Ok n) trace same e).0 honest in
          h still ∙ ap (λ (pages : List (List ℕ)). slice_set pages n page) (e.added.1 honest)
          ∙ ap (λ (k : ℕ). slice_set (a.store.pages ++ zero_page ∷ []) k page) is ∙ set_last a.store.pages zero_page page,
    )
