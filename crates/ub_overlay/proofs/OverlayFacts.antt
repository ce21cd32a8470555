-- What puts and additions make of the pages of an overlay.
use Rattle.std.proofs.Common.{get_or, length-append, ◌≡◌, ◌≢◌, ◌<◌, ◌≤◌, ◌+◌, ◌++◌, ℕ, zero, suc, List, [], ◌∷◌, Some, None, true, false, length, take, replicate, nat_eq, refl, sym, ap, ◌∙◌, inl, inr, arith, rules, slice_get, slice_set, length-set}
use Rattle.std.proofs.lemmas.Bool.{cases_Bool, cases_lt, eqb-true, eq-eqb}
use Rattle.std.specs.Prelude.{Result, Ok, Err, OnOk, OnErr}
use Rattle.std.specs.Result.{is_err}
use Rattle.ub_store.specs.declared.fault.StoreFault.{StoreFault}
use Rattle.std.proofs.lemmas.List.{length-replicate, take_more}
use Rattle.ub_store.specs.Facts.{page_count, zero_page, IsPage, WritesAt, Extends}
use Rattle.ub_journal.specs.Image.{IsUntouched, put_all, resized}
use Rattle.ub_journal.specs.declared.journal.Change.{Change}
use Rattle.ub_journal.proofs.Applied.{length_put_all, length_sized, put_untouched, put_push}
use Rattle.ub_journal.proofs.Lists.{get_set_same}
use Rattle.ub_journal.specs.inner.TornClock.{get_set_other, get_resized}
use Rattle.ub_overlay.specs.Changes.{change, changed_page, put_change, AreAbove, AreBelow, Ascend}
use Rattle.ub_overlay.specs.Overlay.{OverlayView, overlay_facts, pages_of, with_change, IsOverlay}
use Rattle.ub_overlay.proofs.ChangeFacts.{compared, below, equal, above}

-- an overlay has as many pages as it says
pub count_is : {S : Type 0} (v : OverlayView S) → length (pages_of v) ≡ v.count
count_is v = length_put_all v.changes (resized v.count v.below.pages) ∙ length_sized v.count v.below.pages

module _ {X : Type 0} where
  set_twice : (xs : List X) (n : ℕ) (x y : X) → slice_set (slice_set xs n x) n y ≡ slice_set xs n y
  set_twice [] n x y = refl
  set_twice (z ∷ xs) zero x y = refl
  set_twice (z ∷ xs) (suc n) x y = ap (λ zs. z ∷ zs) (set_twice xs n x y)

  set_apart : (xs : List X) (n m : ℕ) (x y : X) → n ≢ m → slice_set (slice_set xs n x) m y ≡ slice_set (slice_set xs m y) n x
  set_apart [] n m x y ne = refl
  set_apart (z ∷ xs) zero zero x y ne = absurd (ne refl)
  set_apart (z ∷ xs) zero (suc m) x y ne = refl
  set_apart (z ∷ xs) (suc n) zero x y ne = refl
  set_apart (z ∷ xs) (suc n) (suc m) x y ne = ap (λ zs. z ∷ zs) (set_apart xs n m x y (λ e. ne (ap suc e)))

  set_before : (xs ys : List X) (n : ℕ) (x : X) → n < length xs → slice_set (xs ++ ys) n x ≡ slice_set xs n x ++ ys
  set_before [] ys n x h = absurd (omega arith)
  set_before (z ∷ xs) ys zero x h = refl
  set_before (z ∷ xs) ys (suc n) x h = ap (λ zs. z ∷ zs) (set_before xs ys n x (omega arith))

  set_last : (xs : List X) (n : ℕ) (x y : X) → n ≡ length xs → slice_set (xs ++ x ∷ []) n y ≡ xs ++ y ∷ []
  set_last [] zero x y e = refl
  set_last [] (suc n) x y e = cc
  set_last (z ∷ xs) zero x y e = cc
  set_last (z ∷ xs) (suc n) x y e = ap (λ zs. z ∷ zs) (set_last xs n x y (omega (arith, e)))

  take_some : (k m : ℕ) (z : X) → k ≤ m → take k (replicate m z) ≡ replicate k z
  take_some zero m z h = refl
  take_some (suc k) zero z h = absurd (omega arith)
  take_some (suc k) (suc m) z h = ap (λ zs. z ∷ zs) (take_some k m z (omega arith))

  take_filled : (k m n : ℕ) (xs : List X) (z : X) → k ≤ length xs + m → k ≤ length xs + n → take k (xs ++ replicate m z) ≡ take k (xs ++ replicate n z)
  take_filled k m n [] z a b = take_some k m z (omega (arith, a)) ∙ sym (take_some k n z (omega (arith, b)))
  take_filled zero m n (x ∷ xs) z a b = refl
  take_filled (suc k) m n (x ∷ xs) z a b = ap (λ zs. x ∷ zs) (take_filled k m n xs z (omega (arith, a)) (omega (arith, b)))

-- with a page more
resized_more : (k : ℕ) (t : List (List ℕ))
    → resized (k + 1) t ≡ resized k t ++ get_or (t ++ replicate (k + 1) zero_page) k zero_page ∷ []
resized_more k t =
    take_more (t ++ replicate (k + 1) zero_page) k zero_page (omega (arith, length-append t (replicate (k + 1) zero_page), length-replicate (k + 1) zero_page))
    ∙ ap (λ l. l ++ get_or (t ++ replicate (k + 1) zero_page) k zero_page ∷ []) (take_filled k (k + 1) k t zero_page (omega arith) (omega arith))

-- numbers above one are apart from it
pub above_apart : (n m : ℕ) (cs : List Change) → n ≤ m → AreAbove m cs → IsUntouched cs n
above_apart n m [] le h = tt
above_apart n m (c ∷ cs) le h = (λ e. let over = h.0 in omega (arith, e, le, over), above_apart n m cs le h.1)

-- a page that none of the changes is of may be put before them or after
pub put_apart : (cs : List Change) (t : List (List ℕ)) (n : ℕ) (page : List ℕ) → IsUntouched cs n → put_all cs (slice_set t n page) ≡ slice_set (put_all cs t) n page
put_apart [] t n page h = refl
put_apart (c ∷ cs) t n page h =
    ap (put_all cs) (set_apart t n c.number page c.page (λ e. h.0 (sym e))) ∙ put_apart cs (slice_set t c.number c.page) n page h.1

-- what was put among the changes is put over the pages
pub put_changed : (n : ℕ) (page : List ℕ) (cs : List Change) (t : List (List ℕ)) → Ascend cs
    → put_all (put_change (change n page) cs) t ≡ slice_set (put_all cs t) n page
put_changed n page [] t asc = refl
put_changed n page (d ∷ ds) t asc = elim (compared n d.number) [
  | below is less ↦ rw is (put_apart (d ∷ ds) t n page ((λ e. omega (arith, e, less)), above_apart n d.number ds (omega (arith, less)) asc.0))
  | equal is same ↦ rw is (
      ap (put_all ds) (sym (set_twice t n d.page page)) ∙ put_apart ds (slice_set t n d.page) n page (above_apart n d.number ds (omega (arith, same)) asc.0)
      ∙ ap (λ m. slice_set (put_all ds (slice_set t m d.page)) n page) same)
  | above is more ↦ rw is (put_changed n page ds (slice_set t d.number d.page) asc.1)
]

-- a number that is untouched now was so before, and isn't the one that was put
pub untouched_before : (n m : ℕ) (page : List ℕ) (cs : List Change) → IsUntouched (put_change (change n page) cs) m → (n ≢ m) × IsUntouched cs m
untouched_before n m page [] h = (h.0, tt)
untouched_before n m page (d ∷ ds) h = elim (compared n d.number) [
  | below is less ↦ let k : IsUntouched (change n page ∷ d ∷ ds) m = rw is at h in (k.0, k.1)
  | equal is same ↦ let k : IsUntouched (change n page ∷ ds) m = rw is at h in (k.0, (λ e. k.0 (same ∙ e), k.1))
  | above is more ↦ let k : IsUntouched (d ∷ put_change (change n page) ds) m = rw is at h in let on = untouched_before n m page ds k.1 in (on.0, (k.0, on.1))
]

above_more : (n m : ℕ) (cs : List Change) → n ≤ m → AreAbove m cs → AreAbove n cs
above_more n m [] le h = tt
above_more n m (c ∷ cs) le h = (let over = h.0 in omega (arith, le, over), above_more n m cs le h.1)

above_put : (k n : ℕ) (page : List ℕ) (cs : List Change) → k < n → AreAbove k cs → AreAbove k (put_change (change n page) cs)
above_put k n page [] less h = (less, tt)
above_put k n page (d ∷ ds) less h = elim (compared n d.number) [
  | below is _ ↦ rw is (less, h)
  | equal is _ ↦ rw is (less, h.1)
  | above is _ ↦ rw is (h.0, above_put k n page ds less h.1)
]

pub ascend_put : (n : ℕ) (page : List ℕ) (cs : List Change) → Ascend cs → Ascend (put_change (change n page) cs)
ascend_put n page [] asc = (tt, tt)
ascend_put n page (d ∷ ds) asc = elim (compared n d.number) [
  | below is less ↦ rw is ((less, above_more n d.number ds (omega (arith, less)) asc.0), asc)
  | equal is same ↦ rw is (above_more n d.number ds (omega (arith, same)) asc.0, asc.1)
  | above is more ↦ rw is (above_put d.number n page ds more asc.0, ascend_put n page ds asc.1)
]

pub below_put : (k n : ℕ) (page : List ℕ) (cs : List Change) → n < k → AreBelow k cs → AreBelow k (put_change (change n page) cs)
below_put k n page [] less h = (less, tt)
below_put k n page (d ∷ ds) less h = elim (compared n d.number) [
  | below is _ ↦ rw is (less, h)
  | equal is _ ↦ rw is (less, h.1)
  | above is _ ↦ rw is (h.0, below_put k n page ds less h.1)
]

below_more : (k m : ℕ) (cs : List Change) → k ≤ m → AreBelow k cs → AreBelow m cs
below_more k m [] le h = tt
below_more k m (c ∷ cs) le h = (let under = h.0 in omega (arith, le, under), below_more k m cs le h.1)

-- a number past the end stands last
put_last : (k : ℕ) (page : List ℕ) (cs : List Change) → AreBelow k cs → put_change (change k page) cs ≡ cs ++ change k page ∷ []
put_last k page [] h = refl
put_last k page (d ∷ ds) h = elim (compared k d.number) [
  | below is less ↦ absurd (let under = h.0 in omega (arith, less, under))
  | equal is same ↦ absurd (let under = h.0 in omega (arith, same, under))
  | above is more ↦ rw is (ap (λ cs. d ∷ cs) (put_last k page ds h.1))
]

-- changes below the end leave what stands after it
put_within : (cs : List Change) (t more : List (List ℕ)) (k : ℕ) → k ≡ length t → AreBelow k cs → put_all cs (t ++ more) ≡ put_all cs t ++ more
put_within [] t more k e h = refl
put_within (c ∷ cs) t more k e h =
    ap (put_all cs) (set_before t more c.number c.page (let under = h.0 in omega (arith, e, under)))
    ∙ put_within cs (slice_set t c.number c.page) more k (e ∙ sym (length-set t c.number c.page)) h.1

-- a page that was added stands after those that there were
added_last : (k : ℕ) (cs : List Change) (t : List (List ℕ)) → AreBelow k cs
    → put_all (put_change (change k zero_page) cs) (resized (k + 1) t) ≡ put_all cs (resized k t) ++ zero_page ∷ []
added_last k cs t within =
    let last = get_or (t ++ replicate (k + 1) zero_page) k zero_page in
    ap (λ ds. put_all ds (resized (k + 1) t)) (put_last k zero_page cs within) ∙ put_push cs (resized (k + 1) t) (change k zero_page)
    ∙ ap (λ u. slice_set (put_all cs u) k zero_page) (resized_more k t)
    ∙ ap (λ u. slice_set u k zero_page) (put_within cs (resized k t) (last ∷ []) k (sym (length_sized k t)) within)
    ∙ set_last (put_all cs (resized k t)) k last zero_page (sym (length_put_all cs (resized k t) ∙ length_sized k t))

-- the page that is held under a number is the one there
held_page : (n : ℕ) (page : List ℕ) (cs : List Change) (t : List (List ℕ)) → Ascend cs → n < length t → changed_page cs n ≡ Some page
    → slice_get (put_all cs t) n ≡ Some page
held_page n page [] t asc within found = cc
held_page n page (c ∷ cs) t asc within found = elim (cases_Bool (nat_eq n c.number)) [
  | inl same ↦
      let e : n ≡ c.number = eqb-true n c.number same in
      let is : Some c.page ≡ Some page = rw same at found in
      put_untouched cs (slice_set t c.number c.page) n (above_apart n c.number cs (omega (arith, e)) asc.0)
      ∙ ap (λ m. slice_get (slice_set t m c.page) n) (sym e) ∙ get_set_same t n c.page within ∙ is
  | inr other ↦ held_page n page cs (slice_set t c.number c.page) asc.1 (rw (length-set t c.number c.page) within) (rw other at found)
]

pub not_held : (n : ℕ) (cs : List Change) → changed_page cs n ≡ None → IsUntouched cs n
not_held n [] none = tt
not_held n (c ∷ cs) none = elim (cases_Bool (nat_eq n c.number)) [
  | inl same ↦ let is : Some c.page ≡ None = rw same at none in cc
  | inr other ↦ (λ e. let t : nat_eq n c.number ≡ true = eq-eqb n c.number (sym e) in cc, not_held n cs (rw other at none))
]

is_held : (n : ℕ) (page : List ℕ) (cs : List Change) → changed_page cs n ≡ Some page → ¬ (IsUntouched cs n)
is_held n page [] found h = cc
is_held n page (c ∷ cs) found h = elim (cases_Bool (nat_eq n c.number)) [
  | inl same ↦ h.0 (sym (eqb-true n c.number same))
  | inr other ↦ is_held n page cs (rw other at found) h.1
]

pub past_untouched : (n k : ℕ) (cs : List Change) → k ≤ n → AreBelow k cs → IsUntouched cs n
past_untouched n k [] le h = tt
past_untouched n k (c ∷ cs) le h = (λ e. let under = h.0 in omega (arith, e, le, under), past_untouched n k cs le h.1)

-- of an overlay, after a page was put
pub still_overlay : {S : Type 0} (v : OverlayView S) (n : ℕ) (page : List ℕ) → IsOverlay v → n < v.count → IsOverlay (with_change (change n page) v)
still_overlay v n page is within = record {
  ascend = ascend_put n page v.changes is.ascend;
  within = below_put v.count n page v.changes within is.within;
  some = is.some;
  added = λ m past less h. is.added m past less (untouched_before n m page v.changes h).1;
}

-- with a page more
abbrev pub with_page : {S : Type 0} → OverlayView S → OverlayView S
with_page v = record (with_change (change v.count zero_page) v) { count = v.count + 1 }

pub grown_overlay : {S : Type 0} (v : OverlayView S) → IsOverlay v → IsOverlay (with_page v)
grown_overlay v is = record {
  ascend = ascend_put v.count zero_page v.changes is.ascend;
  within = below_put (v.count + 1) v.count zero_page v.changes (omega arith) (below_more v.count (v.count + 1) v.changes (omega arith) is.within);
  some = λ there. omega arith;
  added = λ m past less h.
      let before = untouched_before v.count m zero_page v.changes h in
      let apart = before.0 in
      is.added m past (omega (arith, less, apart)) before.1;
}

pub written : {S : Type 0} (v : OverlayView S) (n : ℕ) (page : List ℕ) → IsOverlay v
    → WritesAt {A = Unit {0}} n page (overlay_facts v) (overlay_facts (with_change (change n page) v)) (Ok tt)
written v n page is =
    let put : pages_of (with_change (change n page) v) ≡ slice_set (pages_of v) n page = put_changed n page v.changes (resized v.count v.below.pages) is.ascend in
    record {
      frame = refl;
      count = count_is (with_change (change n page) v) ∙ sym (count_is v);
      flushed = inr refl;
      written = λ honest. put;
      others = λ honest m ne. ap (λ (l : List (List ℕ)). slice_get l m) put ∙ get_set_other (pages_of v) n m page ne;
      device = λ e. search rules;
    }

pub grown : {S : Type 0} (v : OverlayView S) (n : ℕ) → IsOverlay v → Extends (overlay_facts v) (overlay_facts (with_page v)) (Ok n)
grown v n is = record {
  frame = refl;
  flushed = inr refl;
  added = (count_is (with_page v) ∙ ap (λ k. k + 1) (sym (count_is v)), λ honest. added_last v.count v.changes v.below.pages is.within);
  failed = tt;
  device = λ e. search rules;
}

-- the page of a number, of one that is held, and of one that the store below gave
pub held_is : {S : Type 0} (v : OverlayView S) (n : ℕ) (page : List ℕ) → IsOverlay v → n < v.count → changed_page v.changes n ≡ Some page → IsPage (overlay_facts v) n page
held_is v n page is within found honest =
    held_page n page v.changes (resized v.count v.below.pages) is.ascend (rw (length_sized v.count v.below.pages) within) found

pub below_is : {S : Type 0} (v : OverlayView S) (n : ℕ) (page : List ℕ) → n < v.count → n < page_count v.below → changed_page v.changes n ≡ None → IsPage v.below n page
    → IsPage (overlay_facts v) n page
below_is v n page within there none of honest =
    put_untouched v.changes (resized v.count v.below.pages) n (not_held n v.changes none)
    ∙ get_resized v.count n v.below.pages zero_page within there ∙ of honest

-- a page that isn't held is one of the store below
pub is_below : {S : Type 0} (v : OverlayView S) (n : ℕ) → IsOverlay v → n < v.count → changed_page v.changes n ≡ None → n < page_count v.below
is_below v n is within none = elim (cases_lt n (page_count v.below)) [
  | inl there ↦ there
  | inr past ↦ absurd (is.added n past within (not_held n v.changes none))
]

pub past_is : {S : Type 0} {v : OverlayView S} (n : ℕ) → IsOverlay v → v.count ≤ n → page_count (overlay_facts v) ≤ n
past_is {v} n is past = rw (count_is v) past

pub there_is : {S : Type 0} {v : OverlayView S} (n : ℕ) → IsOverlay v → n < v.count → n < page_count (overlay_facts v)
there_is {v} n is there = rw (count_is v) there

pub not_past : {S : Type 0} {v : OverlayView S} (n : ℕ) → IsOverlay v → n < v.count → page_count (overlay_facts v) ≤ n → ⊥
not_past {v} n is there past = let far : v.count ≤ n = rw (count_is v) at past in omega (arith, there, far)

pub is_in : {A : Type 0} (result : Result A StoreFault) (P : Type 0) → P → OnOk result P
is_in (Ok x) P h = h
is_in (Err e) P h = tt

-- what a read below answered, for a page that isn't held
pub page_read : {S : Type 0} {v : OverlayView S} (n : ℕ) (page : List ℕ) (result : Result (Unit {0}) StoreFault) → IsOverlay v → n < v.count → changed_page v.changes n ≡ None
    → OnOk result (IsPage v.below n page) → OnOk result (IsPage (overlay_facts v) n page)
page_read {v} n page (Ok x) is within none of = below_is v n page within (is_below v n is within none) none of
page_read {v} n page (Err e) is within none of = tt

pub not_missing : {S : Type 0} {v : OverlayView S} (n : ℕ) → IsOverlay v → n < v.count → changed_page v.changes n ≡ None → page_count v.below ≤ n → ⊥
not_missing {v} n is within none past = let there = is_below v n is within none in omega (arith, there, past)

-- what a call ensured where it answered Ok, and where it answered a fault
pub was_ok : {A E : Type 0} (r : Result A E) (P : Type 0) → false ≡ is_err r → OnOk r P → P
was_ok (Ok x) P e h = h
was_ok (Err x) P e h = cc

pub was_err : {A E : Type 0} (r : Result A E) (P : Type 0) → true ≡ is_err r → OnErr r P → P
was_err (Ok x) P e h = cc
was_err (Err x) P e h = h

pub full_is : {S : Type 0} {v : OverlayView S} (m : ℕ) → IsOverlay v → v.count ≡ m → page_count (overlay_facts v) ≡ m
full_is {v} m is full = count_is v ∙ full

pub count_too : {S : Type 0} {v : OverlayView S} (m : ℕ) → IsOverlay v → page_count (overlay_facts v) ≡ m → v.count ≡ m
count_too {v} m is full = sym (count_is v) ∙ full

pub room_is : {S : Type 0} {v : OverlayView S} (m : ℕ) → IsOverlay v → v.count < m → page_count (overlay_facts v) < m
room_is {v} m is less = rw (count_is v) less
