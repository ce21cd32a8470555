-- A table that is made where no page was.
use Rattle.std.proofs.Common.{◌≡◌, ◌≢◌, ◌≤◌, ◌∙◌, ℕ, suc, List, [], ◌∷◌, Option, None, Some, Result, length, drop, slice_get, ap, arith, inl, inr, refl, sym, subst}
use Rattle.std.proofs.lemmas.Bool.{cases_lt}
use Rattle.std.proofs.lemmas.Option.{slice_get_past, slice_get_within}
use Rattle.ub_store.specs.Facts.{zero_page}
use Rattle.ub_journal.specs.Crash.{Resizes, Stays, TearsPage, with_count}
use Rattle.ub_journal.specs.Image.{Finds, Image, Journal, StandsFor, resized}
use Rattle.ub_journal.specs.Place.{IsClock, IsDurable, IsHonest, Lasts, LeavesNow, LeavesOnly, PlaceFacts, SameTable, Steps}
use Rattle.ub_journal.specs.declared.place.Failed.{Failed}
use Rattle.ub_journal.proofs.Applied.{length_applied}
use Rattle.ub_journal.proofs.Lists.{same_all}
use Rattle.ub_journal.proofs.Moments.{At, begins, joined, lasts, runs, stays, steps}
use Rattle.ub_keeping.specs.Found.{MayFinish}
use Rattle.ub_keeping.specs.Kept.{IsPartOf, MayBegin}
use Rattle.ub_keeping.specs.inner.Made.{HasOthers, HasZero}

-- a page of zeros is a part
pub zero_part : (pages : List (List ℕ)) (c : Image) → HasZero c → IsPartOf pages c
zero_part pages c is = (is.0, inr (inl is.1))

-- the file gets its length
pub zero_sized : (count : ℕ) (d c : Image) → 1 ≤ count → HasZero d → Resizes count d c → HasZero c
zero_sized count d c some is sized =
    let long = slice_get_within d.table 0 zero_page is.1 in
    (ap (λ (i : Image). i.journal) sized.same ∙ is.0, sized.kept 0 (omega (arith, some)) long ∙ is.1)

-- another page is put
pub zero_torn : (n : ℕ) (d c : Image) → n ≢ 0 → HasZero d → TearsPage n d c → HasZero c
zero_torn n d c ne is torn =
    let long = slice_get_within d.table 0 zero_page is.1 in
    (ap (λ (i : Image). i.journal) torn.same ∙ is.0, torn.others 0 (λ e. ne (sym e)) long ∙ is.1)

-- all pages but the first
pub record HasBackOf (pages : List (List ℕ)) (c : Image) : Type 0 where
  pub journal : c.journal ≡ None
  pub count : length c.table ≡ length pages
  pub others : (n : ℕ) → n ≢ 0 → slice_get c.table n ≡ slice_get pages n

back_drop : (t pages : List (List ℕ)) → ((n : ℕ) → n ≢ 0 → slice_get t n ≡ slice_get pages n) → drop 1 t ≡ drop 1 pages
back_drop [] [] same = refl
back_drop [] (p ∷ pages) same = same_all [] pages (λ n. same (suc n) (λ e. omega (arith, e)))
back_drop (x ∷ t) [] same = same_all t [] (λ n. same (suc n) (λ e. omega (arith, e)))
back_drop (x ∷ t) (p ∷ pages) same = same_all t pages (λ n. same (suc n) (λ e. omega (arith, e)))

pub back_part : (pages : List (List ℕ)) (c : Image) → HasBackOf pages c → IsPartOf pages c
back_part pages c is = (is.journal, inr (inr (back_drop c.table pages is.others)))

pub back_torn : (pages : List (List ℕ)) (d c : Image) → 1 ≤ length pages → HasBackOf pages d → TearsPage 0 d c → HasBackOf pages c
back_torn pages d c some is torn =
    let same : length c.table ≡ length pages = omega (arith, torn.no_shorter, torn.no_longer, is.count, some) in
    record {
      journal = ap (λ (i : Image). i.journal) torn.same ∙ is.journal;
      count = same;
      others = λ n ne. elim (cases_lt n (length d.table)) [
        | inl less ↦ torn.others n ne less ∙ is.others n ne
        | inr past ↦ slice_get_past c.table n (omega (arith, past, same, is.count)) ∙ sym (slice_get_past pages n (omega (arith, past, is.count)))
      ];
    }

pub back_of : (pages : List (List ℕ)) (old new c : Image) → HasOthers pages old new → HasZero c → SameTable new c → HasBackOf pages c
back_of pages old new c has is same = record {
  journal = is.0;
  count = ap length same.0 ∙ has.count;
  others = λ n ne. ap (λ (t : List (List ℕ)). slice_get t n) same.0 ∙ has.others n ne;
}

-- the first page comes
empty_is : (t : List (List ℕ)) → length t ≡ 0 → t ≡ []
empty_is [] none = refl
empty_is (p ∷ t) none = absurd (omega (arith, none))

abbrev pub IsBlank : Image → Type 0
IsBlank c = (c.journal ≡ None) × (c.table ≡ [])

abbrev pub HasOne : Image → Type 0
HasOne c = (c.journal ≡ None) × (length c.table ≤ 1)

pub one_part : (pages : List (List ℕ)) (c : Image) → HasOne c → IsPartOf pages c
one_part pages c is = (is.0, inl is.1)

module _ (pages : List (List ℕ)) (old a : PlaceFacts) (empty : length old.seen.table ≡ 0) (alone : old.seen.journal ≡ None) (same : a.seen ≡ old.seen) (durable : IsDurable a) (honest : IsHonest a)
    (clock : IsClock a) where
  pub blank : At (IsPartOf pages) IsBlank a a
  blank = begins (IsPartOf pages) IsBlank honest clock (λ c left. let is = durable c left in (
    is.1 ∙ ap (λ (i : Image). i.journal) same ∙ alone,
    is.0.0 ∙ ap (λ (i : Image). i.table) same ∙ empty_is old.seen.table empty,
  )) (λ c is. (is.0, inl (subst (λ (t : List (List ℕ)). length t ≤ 1) (sym is.1) (omega arith))))

  pub one_sized : {b : PlaceFacts} {A : Type 0} {r : Result A Failed} → Steps (Resizes 1) a b r → At (IsPartOf pages) HasOne a b
  one_sized sized = steps HasOne blank sized (λ d c is step. (
    ap (λ (i : Image). i.journal) step.same ∙ is.0,
    let none = ap length is.1 in omega (arith, step.no_longer, none),
  )) (one_part pages)

  pub one_synced : {b s : PlaceFacts} {A B : Type 0} {r : Result A Failed} {q : Result B Failed} → Steps (Resizes 1) a b r → Steps Stays b s q → At (IsPartOf pages) HasOne a s
  one_synced sized synced = stays (one_sized sized) synced (one_part pages)

  -- and is one of zeros
  pub zero_lasts : {b s : PlaceFacts} {A B : Type 0} {r : Result A Failed} {q : Result B Failed} → Steps (Resizes 1) a b r → Steps Stays b s q → b.seen ≡ with_count 1 a.seen → Lasts SameTable b s
      → LeavesNow HasZero s
  zero_lasts {b} sized synced written done c left =
      let none : a.seen.table ≡ [] = ap (λ (i : Image). i.table) same ∙ empty_is old.seen.table empty in
      let table : b.seen.table ≡ zero_page ∷ [] = ap (λ (i : Image). i.table) written ∙ ap (λ (t : List (List ℕ)). resized 1 t) none in
      (((one_synced sized synced).now_is c left).0, ap (λ (t : List (List ℕ)). slice_get t 0) ((done.durable c left).0 ∙ table))

nothing : (t : List (List ℕ)) (rest : ℕ) (x : Option Journal) (after : ℕ) → StandsFor t rest x [] after → (x ≡ None) × (t ≡ [])
nothing t rest None after stands = (refl, sym stands.0)
nothing t rest (Some j) after stands =
    let some = stands.0.some.0 in
    let none = ap length stands.1 in
    let long = length_applied j t in
    absurd (omega (arith, some, none, long))

-- where no page was, what a crash leaves while nothing is finished is what it might have left, or no page
pub finish_begins : (pages : List (List ℕ)) (old : PlaceFacts) → length old.seen.table ≡ 0 → (c : Image) → MayFinish old c → MayBegin pages old c
finish_begins pages old empty c may = elim may [
  | inl was ↦ inl was
  | inr stands ↦
      let is = nothing c.table c.rest c.journal old.seen.rest (stands [] old.seen.rest (inr ((λ j same fits. let some = fits.some.1 in omega (arith, some, empty)), sym (empty_is old.seen.table empty), refl))) in
      inr (is.0, inl (subst (λ (t : List (List ℕ)). length t ≤ 1) (sym is.1) (omega arith)))
]

-- what is found there is nothing
pub found_none : (image : Image) (pages : List (List ℕ)) (after : ℕ) → Finds image pages after → length image.table ≡ 0 → length pages ≡ 0
found_none image pages after finds empty = elim finds [
  | inl here ↦ let some = here.2.some.1 in absurd (omega (arith, some, empty))
  | inr none ↦ ap length none.1 ∙ empty
]

-- one run after the other
pub begin_joined : (pages : List (List ℕ)) (old mid new : PlaceFacts) → IsClock mid → LeavesOnly (MayBegin pages old) old mid → LeavesOnly (MayBegin pages mid) mid new → LeavesOnly (MayBegin pages old) old new
begin_joined pages old mid new clock one two = joined one two (λ i is. is) (λ i may. elim may [
  | inl was ↦ one.each i (clock.counts_now old.moment i one.later was)
  | inr part ↦ inr part
])

pub part_joined : (pages : List (List ℕ)) (old mid new : PlaceFacts) → LeavesOnly old.may_leave old mid → LeavesOnly (IsPartOf pages) mid new → LeavesOnly (MayBegin pages old) old new
part_joined pages old mid new one two = joined one two (λ i is. inl is) (λ i is. inr is)

-- the pages are put behind a page of zeros
module _ (pages : List (List ℕ)) {old : PlaceFacts} (some : 1 ≤ length pages) (honest : IsHonest old) (clock : IsClock old) (zero : LeavesNow HasZero old) where
  pub fill_sized : (count : ℕ) {a : PlaceFacts} {A : Type 0} {r : Result A Failed} → count ≡ length pages → Steps (Resizes count) old a r → At (IsPartOf pages) HasZero old a
  fill_sized count is sized = steps HasZero (begins (IsPartOf pages) HasZero honest clock zero (zero_part pages)) sized (λ d c has step. zero_sized count d c (omega (arith, is, some)) has step) (zero_part pages)

  pub fill_put : (count : ℕ) {a b : PlaceFacts} {A : Type 0} {r : Result A Failed} → count ≡ length pages → Steps (Resizes count) old a r → b.honest ≡ a.honest → LeavesOnly HasZero a b → LeavesNow HasZero b
      → At (IsPartOf pages) HasZero old b
  fill_put count is sized same run now = runs HasZero (fill_sized count is sized) same run (zero_part pages) now

pub fill_back : (pages : List (List ℕ)) (a : PlaceFacts) {old b s : PlaceFacts} {A : Type 0} {r : Result A Failed} → At (IsPartOf pages) HasZero old b → Steps Stays b s r → HasOthers pages a.seen b.seen → Lasts SameTable b s
    → At (IsPartOf pages) (HasBackOf pages) old s
fill_back pages a {b = b} at synced others done =
    let now = lasts (SameTable b.seen) (stays at synced (zero_part pages)) done.durable in
    record { honest = now.honest; run = now.run; now_is = λ c left. let is = now.now_is c left in back_of pages a.seen b.seen c others is.0 is.1 }

pub fill_head : (pages : List (List ℕ)) {old s w : PlaceFacts} {A : Type 0} {r : Result A Failed} → 1 ≤ length pages → At (IsPartOf pages) (HasBackOf pages) old s → Steps (TearsPage 0) s w r
    → At (IsPartOf pages) (HasBackOf pages) old w
fill_head pages some at put = steps (HasBackOf pages) at put (λ d c is torn. back_torn pages d c some is torn) (back_part pages)
