-- How a change goes a level down and back up.
use Rattle.std.proofs.Common.{inl, inr, ◌∷◌, ◌++◌, ◌+◌, ◌≤◌, length, IfErr, ◌≡◌, ◌<◌, ◌-◌, ℕ, zero, suc, List, Option, Some, None, Result, Ok, Err, ◌∙◌, sym, ap, subst, refl, arith, slice_get}
use Rattle.ub_index_change.proofs.Common.{both_on, cases_lt, EndsFull, entries_of, Entry, err_is, failed, FallsTo, Fits, frame, Gone, IndexFault, IsAtMostOne}
use Rattle.ub_index_change.proofs.Common.{IsErrAnd, IsHonest, IsSpreadFault, IsStepFault, IsTurnFault, Keeps, Key, length-append, Mends, NamesFitting}
use Rattle.ub_index_change.proofs.Common.{NeedsNoGrowth, node_on, One, OpensTo, Page, page_is, pager_with, PagerView, Prepares, Same, same_store, Spelled}
use Rattle.ub_index_change.proofs.Common.{Steps, StepsTo, stops_here, stops_on, Store, StoreFacts, Told, Turns, Two}
use Rattle.ub_index_change.proofs.FullFacts.{ends_all, ends_few, full_taken}
use Rattle.ub_store.specs.declared.fault.StoreFault.TheVariants as store

pub turns_on : (last : ℕ) (pages : List (List ℕ)) (key : Key) (added : Option Entry) (level : ℕ) (entry : Entry) (end : Option Key) (before after : List Entry)
    (below : Entry) (next : Option Key) (from middle to : Spelled) (news told : Told) → 0 < level → OpensTo last pages key level entry end before below next after
    → Turns last pages key added (level - 1) below next from middle news → Mends level entry before below after news middle to told
    → Turns last pages key added level entry end from to told
turns_on last pages key added zero entry end before after below next from middle to news told some o turns mends = absurd (omega arith)
turns_on last pages key added (suc level) entry end before after below next from middle to news told some o turns mends =
    let one : suc level - 1 ≡ level = omega arith in (
      o.named,
      below,
      next,
      o.falls,
      middle,
      news,
      subst (λ (n : ℕ). Turns last pages key added n below next from middle news) one turns,
      subst (λ (xs : List Entry). Mends (suc level) entry xs below o.falls.after news middle to told) (sym o.before_is)
          (subst (λ (xs : List Entry). Mends (suc level) entry before below xs news middle to told) (sym o.after_is) mends),
    )

-- why the page that an entry names isn't opened is why the change is refused
opened_fault : (last : ℕ) (old : StoreFacts) (key : Key) (level : ℕ) (entry : Entry) (end : Option Key) (next : ℕ) (e : IndexFault) → 0 < level
    → IsStepFault last old level entry end e → IsTurnFault last old key level entry end next e
opened_fault last old key level entry end next (Page n fault) some h = λ honest.
    subst (λ (m : ℕ). IsTurnFault last old key level entry end next (Page m fault)) (sym h.0)
    (λ good. stops_here old old refl last key level entry end (Some fault) some (h.1 good)) honest
opened_fault last old key level entry end next (Store store.Memory) some h = tt
opened_fault last old key level entry end next (Store store.NoPage) some h = (entry.page, h, λ honest. stops_here old old refl last key level entry end None some h)
opened_fault last old key level entry end next (Store store.BadSize) some h = absurd h
opened_fault last old key level entry end next e some h = h

pub open_refused : (T U : Type 0) (last level : ℕ) (key : Key) (entry : Entry) (end : Option Key) (next : ℕ) (old new : PagerView) (r : Result T IndexFault) (e : IndexFault) → 0 < level
    → IsErrAnd r (λ x. x ≡ e) → Steps {A = U} last level entry end old new (Err e) → Prepares last level key entry end next old new r
open_refused T U last level key entry end next old new r e some is h = subst (λ (x : Result T IndexFault). Prepares last level key entry end next old new x) (sym (err_is r e is)) (record {
  same = h.same ∙ ap (λ (s : StoreFacts). pager_with s old.trace new.cached) (same_store T U e old.store);
  checked = h.checked;
  more = h.more;
  faults = opened_fault last old.store key level entry end next e some h.faults;
})

-- the lowest pages on the way that are full, from a level more
ends_on : (last : ℕ) (pages : List (List ℕ)) (key : Key) (level : ℕ) (entry below : Entry) (end after : Option Key) (next : ℕ) → 0 < level
    → NamesFitting last pages level entry end × FallsTo key (entries_of pages entry.page) end below after
    → (full : ℕ) × EndsFull last pages key (level - 1) below after full × (4294967295 < next + full)
    → (full : ℕ) × EndsFull last pages key level entry end full × (4294967295 < next + full)
ends_on last pages key zero entry below end after next some step h = absurd (omega arith)
ends_on last pages key (suc level) entry below end after next some step (full, ends, more) =
    let one : suc level - 1 ≡ level = omega arith in
    let ends_below : EndsFull last pages key level below after full = subst (λ (n : ℕ). EndsFull last pages key n below after full) one ends in
    let few : length (entries_of pages entry.page) ≤ 170 = step.0.fits.is.is.few in
    let at_most = ends_few last pages key level below after full ends_below in
    elim (cases_lt full level) [
      | inl less ↦ (full, inr (step.0, (λ e. absurd (omega (arith, e, less))), below, after, step.1, ends_below), more)
      | inr all ↦ elim (cases_lt (length (entries_of pages entry.page)) 170) [
        | inl room ↦ (full, inr (step.0, (λ e. room), below, after, step.1, ends_below), more)
        | inr long ↦
            let is_level : full ≡ level = omega (arith, all, at_most) in
            let way = ends_all last pages key level below after full is_level ends_below in
            (suc level, inl (refl, (step.0, omega (arith, few, long), below, after, step.1, way)), omega (arith, more, is_level))
      ]
    ]

-- and so is why the change is refused below it
below_fault : (last : ℕ) (old : StoreFacts) (key : Key) (level : ℕ) (entry below : Entry) (end after : Option Key) (next : ℕ) (e : IndexFault) → 0 < level
    → (IsHonest old → StepsTo last old key level entry end below after) → IsTurnFault last old key (level - 1) below after next e → IsTurnFault last old key level entry end next e
below_fault last old key level entry below end after next (Page n fault) some step h = λ honest.
    stops_on old old refl last key level entry below end after n (Some fault) some (step honest) (h honest)
below_fault last old key level entry below end after next (Store store.Memory) some step h = tt
below_fault last old key level entry below end after next (Store store.NoPage) some step h =
    (h.0, h.1, λ honest. stops_on old old refl last key level entry below end after h.0 None some (step honest) (h.2 honest))
below_fault last old key level entry below end after next (Store store.BadSize) some step h = (
  (let more = h.0 in omega arith),
  λ honest. ends_on last old.pages key level entry below end after next some
      ((step honest).named, (step honest).falls) (h.1 honest),
)
below_fault last old key level entry below end after next e some step h = h

pub below_refused : (T U : Type 0) (last level : ℕ) (key : Key) (entry below : Entry) (end after : Option Key) (next : ℕ) (old mid new : PagerView) (r : Result T IndexFault) (e : IndexFault)
    → 0 < level → mid.store ≡ old.store → mid.trace ≡ old.trace → Keeps last old mid → (IsHonest old.store → StepsTo last old.store key level entry end below after)
    → IsErrAnd r (λ x. x ≡ e) → Prepares {A = U} last (level - 1) key below after next mid new (Err e) → Prepares last level key entry end next old new r
below_refused T U last level key entry below end after next old mid new r e some stores traces kept step is h =
    subst (λ (x : Result T IndexFault). Prepares last level key entry end next old new x) (sym (err_is r e is)) (record {
      same = frame (failed {T = T} e) old mid new stores traces (h.same ∙ ap (λ (s : StoreFacts). pager_with s mid.trace new.cached) (same_store T U e mid.store));
      checked = (both_on last old mid new kept (h.checked, h.more)).0;
      more = (both_on last old mid new kept (h.checked, h.more)).1;
      faults = below_fault last old.store key level entry below end after next e some step
          (subst (λ (s : StoreFacts). IsTurnFault last s key (level - 1) below after next e) stores h.faults);
    })

-- where the lowest pages are all full, and this one is, there is one more
full_here : (last : ℕ) (pages : List (List ℕ)) (key : Key) (added : Option Entry) (level : ℕ) (entry : Entry) (end : Option Key) (before : List Entry) (below : Entry) (next : Option Key)
    (after : List Entry) (from middle : Spelled) (left right : Entry) → 0 < level → OpensTo last pages key level entry end before below next after
    → Turns last pages key added (level - 1) below next from middle (Two left right) → 168 < length before + length after → 4294967295 ≤ middle.next
    → (full : ℕ) × EndsFull last pages key level entry end full × (4294967295 < from.next + full)
full_here last pages key added zero entry end before below next after from middle left right some o turns long more = absurd (omega arith)
full_here last pages key added (suc level) entry end before below next after from middle left right some o turns long more =
    let one : suc level - 1 ≡ level = omega arith in
    let turn : Turns last pages key added level below next from middle (Two left right) = subst (λ (n : ℕ). Turns last pages key added n below next from middle (Two left right)) one turns in
    let taken = full_taken last pages key added level below next from middle left right turn in
    let next_is = taken.1 in
    let parts : entries_of pages entry.page ≡ before ++ (below ∷ after) =
    o.falls.parts ∙ (ap (λ (xs : List Entry). xs ++ (below ∷ o.falls.after)) o.before_is ∙ ap (λ (xs : List Entry). before ++ (below ∷ xs)) o.after_is) in
    let few : length (entries_of pages entry.page) ≤ 170 = o.named.fits.is.is.few in
    let count : length (entries_of pages entry.page) ≡ length before + length after + 1 = ap (λ (xs : List Entry). length xs) parts ∙ omega (arith, length-append before (below ∷ after)) in
    (suc level, inl (refl, (o.named, omega arith, below, next, o.falls, taken.0)), omega arith)

pub mend_refused : (last level : ℕ) (key : Key) (added : Option Entry) (entry : Entry) (end : Option Key) (before : List Entry) (below : Entry) (next : Option Key) (after : List Entry)
    (from middle : Spelled) (news : Told) (old new : PagerView) (r : Result Told IndexFault) → 0 < level → middle.next ≤ from.next + (level - 1)
    → (IsHonest old.store → OpensTo last old.store.pages key level entry end before below next after)
    → (IsHonest old.store → Turns last old.store.pages key added (level - 1) below next from middle news)
    → new ≡ record old { store = old.store; cached = new.cached } → Keeps last old new → IfErr r (IsSpreadFault middle) → (IsAtMostOne news → NeedsNoGrowth r)
    → (length before + length after + 2 ≤ 170 → NeedsNoGrowth r) → Prepares last level key entry end from.next old new r
mend_refused last level key added entry end before below next after from middle news old new (Ok told) some few opens turns same kept h narrow fits = record { same = same; checked = kept.0; more = kept.1; faults = tt }
mend_refused last level key added entry end before below next after from middle news old new (Err (Store store.Memory)) some few opens turns same kept h narrow fits =
    record { same = same; checked = kept.0; more = kept.1; faults = tt }
mend_refused last level key added entry end before below next after from middle news old new (Err (Store store.BadSize)) some few opens turns same kept h narrow fits =
    record { same = same; checked = kept.0; more = kept.1; faults = (omega arith, λ honest. by_news news narrow (opens honest) (turns honest)) }
  where
    long : 168 < length before + length after
    long = elim (cases_lt 168 (length before + length after)) [
      | inl more ↦ more
      | inr less ↦ absurd (fits (omega arith)).1
    ]

    by_news : (t : Told) → (IsAtMostOne t → NeedsNoGrowth (Err (Store store.BadSize))) → OpensTo last old.store.pages key level entry end before below next after
        → Turns last old.store.pages key added (level - 1) below next from middle t
        → (full : ℕ) × EndsFull last old.store.pages key level entry end full × (4294967295 < from.next + full)
    by_news Same slim o turn = absurd (slim tt).1
    by_news Gone slim o turn = absurd (slim tt).1
    by_news (One other) slim o turn = absurd (slim tt).1
    by_news (Two left right) slim o turn = full_here last old.store.pages key added level entry end before below next after from middle left right some o turn long h
mend_refused last level key added entry end before below next after from middle news old new (Err e) some few opens turns same kept h narrow fits = absurd h

-- the page that stands there and fits opens to what its entries tell
pub opens_page : (pages : List (List ℕ)) (last : ℕ) (key : Key) (level : ℕ) (entry : Entry) (end : Option Key) (before : List Entry) (below : Entry) (next : Option Key) (after : List Entry)
    (page : List ℕ) → slice_get pages entry.page ≡ Some page → Fits last page level entry end
    → (x : FallsTo key (node_on page).entries end below next) × (x.before ≡ before) × (x.after ≡ after) → OpensTo last pages key level entry end before below next after
opens_page pages last key level entry end before below next after page at fits to =
    let is = page_is pages entry.page page at in
    let parts = subst (λ (p : List ℕ). (x : FallsTo key (node_on p).entries end below next) × (x.before ≡ before) × (x.after ≡ after)) (sym is) to in
    record {
      named = record { there = at ∙ ap (λ (p : List ℕ). Some p) (sym is); fits = subst (λ (p : List ℕ). Fits last p level entry end) (sym is) fits };
      falls = parts.0;
      before_is = parts.1;
      after_is = parts.2;
    }
