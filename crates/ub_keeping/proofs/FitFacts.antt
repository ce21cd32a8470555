-- Whether a journal is one of a table, by what stands there.
use Rattle.std.proofs.Common.{◌≡◌, ◌≢◌, ◌<◌, ◌≤◌, ◌+◌, ◌-◌, ◌↔◌, Bool, IsTrue, IfOk, Result, Ok, Err, ℕ, zero, suc, List, [], ◌∷◌, Some, length, drop, get_or, slice_get, slice_set, refl, subst, sym, ap, arith, ◌∙◌, inl, inr}
use Rattle.std.proofs.lemmas.Bool.{cases_eq, cases_lt}
use Rattle.std.proofs.lemmas.List.{drop_more, length-drop, length-set}
use Rattle.std.proofs.lemmas.Option.{get_or_from_slice_get}
use Rattle.ub_journal.specs.Image.{Image, Journal, AreAscending, Fits, HasBack, IsJournal, IsMarkedFrom, IsUntouched, numbers_of, put_all, resized}
use Rattle.ub_journal.specs.declared.journal.Change.{Change}
use Rattle.ub_journal.specs.inner.TornClock.{get_set_other}
use Rattle.ub_journal.proofs.Applied.{length_sized, put_untouched, sized_already}
use Rattle.ub_journal.proofs.Lists.{get_set_same}
use Rattle.ub_store.specs.Facts.{zero_page}
use Rattle.ub_keeping.specs.inner.Fitting.{AreThere, LeaveFirst}

-- changes, each of a page above this one, none of a page of this number
untouched_below : (above count n : ℕ) (cs : List Change) → AreAscending above count (numbers_of cs) → n ≤ above → IsUntouched cs n
untouched_below above count n [] are le = tt
untouched_below above count n (c ∷ cs) are le = let less = are.0 in ((λ e. omega (arith, e)), untouched_below c.number count n cs are.2 (omega arith))

-- so many of these as there are pages from one on are of all of them
full : (above count : ℕ) (cs : List Change) (n : ℕ) → AreAscending above count (numbers_of cs) → count ≤ above + 1 + length cs → above < n → n < count → IsUntouched cs n → ⊥
full above count [] n are many more less free = omega arith
full above count (c ∷ cs) n are many more less free =
    let up = are.0 in let few = ascending_many c.number count cs are.1 are.2 in
    elim (cases_eq c.number n) [
      | inl e ↦ free.0 e
      | inr ne ↦ full c.number count cs n are.2 (omega arith) (omega (arith, ne)) less free.1
    ]
  where
    ascending_many : (above count : ℕ) (cs : List Change) → above < count → AreAscending above count (numbers_of cs) → above + length cs < count
    ascending_many above count [] less are = omega arith
    ascending_many above count (c ∷ cs) less are = let more = ascending_many c.number count cs are.1 are.2 in let up = are.0 in omega arith

-- these changes are of all pages from one on
abbrev Cover : ℕ → ℕ → List Change → Type 0
Cover from count cs = (n : ℕ) → from ≤ n → n < count → IsUntouched cs n → ⊥

-- then there are as many of them as of those pages
many_cover : (above from count : ℕ) (cs : List Change) → AreAscending above count (numbers_of cs) → Cover from count cs → count ≤ from + length cs
many_cover above from count [] are cover = elim (cases_lt from count) [
  | inl less ↦ absurd (cover from (omega arith) less tt)
  | inr le ↦ omega arith
]
many_cover above from count (c ∷ cs) are cover =
    elim (cases_lt c.number from) [
      | inl before ↦ let more = many_cover c.number from count cs are.2 (λ n le less free. cover n le less ((λ e. omega (arith, e)), free)) in omega arith
      | inr le ↦ elim (cases_eq c.number from) [
        | inl e ↦ let more = many_cover c.number (from + 1) count cs are.2 (λ n le less free. cover n (omega arith) less ((λ same. omega (arith, same, e)), free)) in omega arith
        | inr ne ↦ let less = are.1 in
            absurd (cover from (omega arith) (omega (arith, ne)) (ne, untouched_below c.number count from cs are.2 (omega arith)))
      ]
    ]

-- without those of pages before that, they still are
cover_drop : (above from count : ℕ) (cs : List Change) (i : ℕ) (none : Change) → AreAscending above count (numbers_of cs) → i < length cs → (get_or cs i none).number < from
    → Cover from count cs → count ≤ from + (length cs - (i + 1))
cover_drop above from count [] i none are less before cover = absurd (omega arith)
cover_drop above from count (c ∷ cs) zero none are less before cover =
    let more = many_cover c.number from count cs are.2 (λ n le less free. cover n le less ((λ e. omega (arith, e)), free)) in omega arith
cover_drop above from count (c ∷ cs) (suc i) none are less before cover =
    let up = later c.number count cs i none are.2 (omega arith) in
    let more = cover_drop c.number from count cs i none are.2 (omega arith) before (λ n le less free. cover n le less ((λ e. omega (arith, e)), free)) in
    omega arith
  where
    later : (above count : ℕ) (cs : List Change) (i : ℕ) (none : Change) → AreAscending above count (numbers_of cs) → i < length cs → above < (get_or cs i none).number
    later above count [] i none are less = absurd (omega arith)
    later above count (c ∷ cs) zero none are less = are.0
    later above count (c ∷ cs) (suc i) none are less = let more = later c.number count cs i none are.2 (omega arith) in let up = are.0 in omega arith

-- changes that leave the first pages alone are of all others
cover_of : (pages count : ℕ) (cs : List Change) → 1 ≤ pages → LeaveFirst pages count cs → Cover pages count cs
cover_of pages count cs some leave n le less free = let wrong = leave n less (λ e. omega (arith, e)) free in omega arith

pub too_few : (pages count : ℕ) (cs : List Change) → 1 ≤ pages → AreAscending 0 count (numbers_of cs) → length cs < count - pages → LeaveFirst pages count cs → ⊥
too_few pages count cs some are few leave = let many = many_cover 0 pages count cs are (cover_of pages count cs some leave) in omega arith

untouched_drop : (cs : List Change) (i n : ℕ) → IsUntouched cs n → IsUntouched (drop i cs) n
untouched_drop cs zero n free = free
untouched_drop [] (suc i) n free = tt
untouched_drop (c ∷ cs) (suc i) n free = untouched_drop cs i n free.1

-- those from one on that is of this page or a later one
ascending_drop : (above from count : ℕ) (cs : List Change) (i : ℕ) (none : Change) → AreAscending above count (numbers_of cs) → i < length cs → from < (get_or cs i none).number
    → AreAscending from count (numbers_of (drop i cs))
ascending_drop above from count [] i none are less up = absurd (omega arith)
ascending_drop above from count (c ∷ cs) zero none are less up = (up, are.1, are.2)
ascending_drop above from count (c ∷ cs) (suc i) none are less up = ascending_drop c.number from count cs i none are.2 (omega arith) up

pub last_tells : (pages count : ℕ) (cs : List Change) (i : ℕ) (none : Change) → 1 ≤ pages → pages < count → AreAscending 0 count (numbers_of cs) → count - pages ≤ length cs → i ≡ length cs - (count - pages)
    → (pages ≤ (get_or cs i none).number) ↔ LeaveFirst pages count cs
last_tells pages count cs i none some more are many at = (
  (λ le n less ne free. elim (cases_lt n pages) [
    | inl before ↦ before
    | inr past ↦ absurd (full (pages - 1) count (drop i cs) n (ascending_drop 0 (pages - 1) count cs i none are (omega arith) (omega arith)) (omega (arith, length-drop i cs)) (omega arith) less (untouched_drop cs i n free))
  ]),
  (λ leave. elim (cases_lt (get_or cs i none).number pages) [
    | inl before ↦ let few = cover_drop 0 pages count cs i none are (omega arith) before (cover_of pages count cs some leave) in absurd (omega arith)
    | inr le ↦ le
  ]),
)

-- one change more
pub there_next : (cs : List Change) (i : ℕ) (none : Change) (t : List (List ℕ)) → i < length cs
    → AreThere (drop i cs) t ↔ ((slice_get t (get_or cs i none).number ≡ Some (get_or cs i none).page) × AreThere (drop (i + 1) cs) t)
there_next cs i none t less = rw (drop_more cs i none less) (λ all. all, λ all. all)

-- pages that stand are put for nothing
set_same : (t : List (List ℕ)) (n : ℕ) (page : List ℕ) → slice_get t n ≡ Some page → slice_set t n page ≡ t
set_same [] n page e = refl
set_same (p ∷ t) zero page e = let same : p ≡ page = cc in ap (λ (q : List ℕ). q ∷ t) (sym same)
set_same (p ∷ t) (suc n) page e = ap (λ (s : List (List ℕ)). p ∷ s) (set_same t n page e)

put_none : (cs : List Change) (t : List (List ℕ)) → AreThere cs t → put_all cs t ≡ t
put_none [] t are = refl
put_none (c ∷ cs) t are = ap (put_all cs) (set_same t c.number c.page are.0) ∙ put_none cs t are.1

-- pages that were put stand there
all_put : (above count : ℕ) (cs : List Change) (t : List (List ℕ)) → AreAscending above count (numbers_of cs) → count ≤ length t → AreThere cs (put_all cs t)
all_put above count [] t are long = tt
all_put above count (c ∷ cs) t are long =
    let less = are.1 in (
      put_untouched cs (slice_set t c.number c.page) c.number (untouched_below c.number count c.number cs are.2 (omega arith)) ∙ get_set_same t c.number c.page (omega arith),
      all_put c.number count cs (slice_set t c.number c.page) are.2 (omega (arith, length-set t c.number c.page)),
    )

there_same : (above count : ℕ) (cs : List Change) (t u : List (List ℕ)) → AreAscending above count (numbers_of cs) → ((n : ℕ) → n ≢ 0 → slice_get t n ≡ slice_get u n) → AreThere cs u → AreThere cs t
there_same above count [] t u are same there = tt
there_same above count (c ∷ cs) t u are same there =
    let up = are.0 in
    (same c.number (λ e. omega (arith, e)) ∙ there.0, there_same c.number count cs t u are.2 same there.1)

-- where the table has its new length, all pages but the first are the new ones where the changes stand
pub back_there : (j : Journal) (t : List (List ℕ)) → IsJournal j → length t ≡ j.count → AreThere j.changes t ↔ HasBack j t
back_there j t is long = (
  (λ there. (
    long,
    λ n ne. sym (
        get_set_other (put_all j.changes (resized j.count t)) 0 n j.head ne
        ∙ ap (λ (u : List (List ℕ)). slice_get (put_all j.changes u) n) (sized_already j.count t long)
        ∙ ap (λ (u : List (List ℕ)). slice_get u n) (put_none j.changes t there)),
  )),
  (λ back. there_same 0 j.count j.changes t (put_all j.changes (resized j.count t)) is.ascending
      (λ n ne. back.1 n ne ∙ get_set_other (put_all j.changes (resized j.count t)) 0 n j.head ne)
      (all_put 0 j.count j.changes (resized j.count t) is.ascending (let size = length_sized j.count t in omega arith))),
)

-- where the first page isn't the one from before, and no byte stands after the last one, the journal is one of the table where its
-- changes stand
pub fits_there : (j : Journal) (t : List (List ℕ)) (page : List ℕ) (rest : ℕ) → IsJournal j → length t ≡ j.count → rest ≡ 0 → LeaveFirst (length t) j.count j.changes
    → slice_get t 0 ≡ Some page → (IsMarkedFrom j.before page → ⊥) → AreThere j.changes t ↔ Fits j t rest
fits_there j t page rest is long none leave first apart = (
  (λ there. record { some = (is.some, let some = is.some in omega arith); complete = leave; stands = inr ((back_there j t is long).0 there, none) }),
  (λ fits. elim fits.stands [
    | inl front ↦ absurd (apart (subst (λ (p : List ℕ). IsMarkedFrom j.before p) (get_or_from_slice_get t 0 page zero_page first) front))
    | inr back ↦ (back_there j t is long).1 back.0
  ]),
)

-- the numbers are below the count
pub below_at : (above count : ℕ) (cs : List Change) (i : ℕ) (none : Change) → AreAscending above count (numbers_of cs) → i < length cs → (get_or cs i none).number < count
below_at above count [] i none are less = absurd (omega arith)
below_at above count (c ∷ cs) zero none are less = are.1
below_at above count (c ∷ cs) (suc i) none are less = below_at c.number count cs i none are.2 (omega arith)

pub if_ok : {A E : Type 0} (P Q : A → Type 0) (r : Result A E) → IfOk r P → ((a : A) → P a → Q a) → IfOk r Q
if_ok P Q (Ok a) is more = more a is
if_ok P Q (Err e) is more = is

-- what a walk over the changes tells of what is seen is so of the same that was seen before
pub same_there : (a b : Image) (xs ys : List Change) (said : Bool) (F : Type 0) → a ≡ b → xs ≡ ys → (IsTrue said ↔ AreThere xs a.table) → (AreThere ys b.table ↔ F)
    → IsTrue said ↔ F
same_there a b xs ys said F same are told fits =
    let one = subst (λ (i : Image). IsTrue said ↔ AreThere xs i.table) same told in
    let two = subst (λ (cs : List Change). IsTrue said ↔ AreThere cs b.table) are one in
    (λ t. fits.0 (two.0 t), λ f. two.1 (fits.1 f))
