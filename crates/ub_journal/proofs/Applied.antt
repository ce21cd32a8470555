-- What a journal makes of a table depends on the pages alone that it leaves.
use Rattle.std.proofs.Common.{◌≡◌, ◌≢◌, ◌<◌, ◌++◌, ◌+◌, ◌∷◌, [], ◌∙◌, ℕ, zero, suc, List, Some, length, replicate, take, slice_get, slice_set, inl, inr, ap, arith, refl, sym, subst, length-set}
use Rattle.std.proofs.lemmas.Bool.{cases_eq, cases_lt}
use Rattle.std.proofs.lemmas.List.{take_at}
use Rattle.std.proofs.lemmas.List.Elements.{All-get_or}
use Rattle.std.proofs.lemmas.Option.{slice_get_past, get_or_from_slice_get, slice_get_within, slice_get-get_or}
use Rattle.ub_journal.specs.Image.{ChangesOthers, Journal, Fits, HasBack, IsComplete, IsUntouched, applied, put_all, resized}
use Rattle.ub_store.specs.Facts.{zero_page}
use Rattle.ub_journal.specs.declared.journal.Change.{Change}
use Rattle.ub_journal.specs.inner.TornClock.{get_set_other, get_resized}
use Rattle.ub_journal.proofs.Lists.{get_set_both, length_resized, set_first, take_next}

pub length_put_all : (cs : List Change) (t : List (List ℕ)) → length (put_all cs t) ≡ length t
length_put_all [] t = refl
length_put_all (c ∷ cs) t = length_put_all cs (slice_set t c.number c.page) ∙ length-set t c.number c.page

pub put_untouched : (cs : List Change) (t : List (List ℕ)) (m : ℕ) → IsUntouched cs m → slice_get (put_all cs t) m ≡ slice_get t m
put_untouched [] t m h = refl
put_untouched (c ∷ cs) t m h =
    put_untouched cs (slice_set t c.number c.page) m h.1 ∙ get_set_other t c.number m c.page (λ e. h.0 (sym e))

pub put_agree : (cs : List Change) (t u : List (List ℕ)) (m : ℕ) → length t ≡ length u → (IsUntouched cs m → slice_get t m ≡ slice_get u m)
    → slice_get (put_all cs t) m ≡ slice_get (put_all cs u) m
put_agree [] t u m l h = h tt
put_agree (c ∷ cs) t u m l h =
    put_agree cs (slice_set t c.number c.page) (slice_set u c.number c.page) m
    (length-set t c.number c.page ∙ l ∙ sym (length-set u c.number c.page))
    (λ later. elim (cases_eq m c.number) [
      | inl here ↦ subst (λ k. slice_get (slice_set t c.number c.page) k ≡ slice_get (slice_set u c.number c.page) k) (sym here) (get_set_both t u c.number c.page l)
      | inr apart ↦ get_set_other t c.number m c.page apart ∙ h ((λ e. apart (sym e)), later) ∙ sym (get_set_other u c.number m c.page apart)
    ])

pub length_sized : (k : ℕ) (t : List (List ℕ)) → length (resized k t) ≡ k
length_sized k t = length_resized k t zero_page

pub sized_already : (k : ℕ) (t : List (List ℕ)) → length t ≡ k → resized k t ≡ t
sized_already k t is = take_at t (replicate k zero_page) k is

pub length_applied : (j : Journal) (t : List (List ℕ)) → length (applied j t) ≡ j.count
length_applied j t =
    length-set (put_all j.changes (resized j.count t)) 0 j.head ∙ length_put_all j.changes (resized j.count t) ∙ length_sized j.count t

-- the journal leaves these pages, and they are the same in both tables
abbrev pub AgreeWithin : Journal → List (List ℕ) → List (List ℕ) → Type 0
AgreeWithin j t u = (n : ℕ) → n < j.count → n ≢ 0 → IsUntouched j.changes n → slice_get t n ≡ slice_get u n

still_there : (t u : List (List ℕ)) (n : ℕ) → n < length u → slice_get t n ≡ slice_get u n → n < length t
still_there t u n within same = slice_get_within t n _ (same ∙ slice_get-get_or u n [] within)

pub complete_too : (j : Journal) (t u : List (List ℕ)) → IsComplete j u → AgreeWithin j t u → IsComplete j t
complete_too j t u whole agree n less ne left = still_there t u n (whole n less ne left) (agree n less ne left)

pub applied_agree : (j : Journal) (t u : List (List ℕ)) → IsComplete j u → AgreeWithin j t u → applied j t ≡ applied j u
applied_agree j t u whole agree =
    set_first (put_all j.changes (resized j.count t)) (put_all j.changes (resized j.count u)) j.head
    (length_put_all j.changes (resized j.count t) ∙ sizes ∙ sym (length_put_all j.changes (resized j.count u)))
    (λ m ne. put_agree j.changes (resized j.count t) (resized j.count u) m sizes (λ left. elim (cases_lt m j.count) [
      | inl less ↦ get_resized j.count m t zero_page less (complete_too j t u whole agree m less ne left)
          ∙ agree m less ne left ∙ sym (get_resized j.count m u zero_page less (whole m less ne left))
      | inr past ↦ slice_get_past (resized j.count t) m (rw (length_sized j.count t) past)
          ∙ sym (slice_get_past (resized j.count u) m (rw (length_sized j.count u) past))
    ]))
  where
    sizes : length (resized j.count t) ≡ length (resized j.count u)
    sizes = length_sized j.count t ∙ sym (length_sized j.count u)

-- all pages but the first stand once they were put
pub put_back : (j : Journal) (t : List (List ℕ)) → HasBack j (put_all j.changes (resized j.count t))
put_back j t = (
  size,
  λ n ne.
      sym (
      get_set_other (put_all j.changes (resized j.count made)) 0 n j.head ne
      ∙ put_agree j.changes (resized j.count made) (resized j.count t) n (length_sized j.count made ∙ sym (length_sized j.count t)) (λ left. again n left)
      ),
)
  where
    made : List (List ℕ)
    made = put_all j.changes (resized j.count t)

    size : length (put_all j.changes (resized j.count t)) ≡ j.count
    size = length_put_all j.changes (resized j.count t) ∙ length_sized j.count t

    again : (n : ℕ) → IsUntouched j.changes n → slice_get (resized j.count (put_all j.changes (resized j.count t))) n ≡ slice_get (resized j.count t) n
    again n left = ap (λ (l : List (List ℕ)). slice_get l n) (sized_already j.count (put_all j.changes (resized j.count t)) size) ∙ put_untouched j.changes (resized j.count t) n left

pub put_push : (cs : List Change) (t : List (List ℕ)) (c : Change) → put_all (cs ++ c ∷ []) t ≡ slice_set (put_all cs t) c.number c.page
put_push [] t c = refl
put_push (d ∷ cs) t c = put_push cs (slice_set t d.number d.page) c

pub put_more : (cs : List Change) (t : List (List ℕ)) (i : ℕ) (c : Change) → slice_get cs i ≡ Some c
    → slice_set (put_all (take i cs) t) c.number c.page ≡ put_all (take (i + 1) cs) t
put_more cs t i c is = sym (ap (λ (l : List Change). put_all l t) (take_next cs i c is) ∙ put_push (take i cs) t c)

-- what is so of all changes is so of one of them
pub among : (j : Journal) → ChangesOthers j → (i : ℕ) (c : Change) → slice_get j.changes i ≡ Some c → (c.number ≢ 0) × (c.number < j.count)
among j others i c is =
    subst (λ (d : Change). (d.number ≢ 0) × (d.number < j.count)) (get_or_from_slice_get j.changes i c c is)
    (All-get_or (λ (d : Change). (d.number ≢ 0) × (d.number < j.count)) j.changes i c (slice_get_within j.changes i c is) others)

pub touched : (cs : List Change) (i : ℕ) (d : Change) → slice_get cs i ≡ Some d → ¬ (IsUntouched cs d.number)
touched [] i d is h = cc
touched (c ∷ cs) zero d is h = let same : c ≡ d = cc in h.0 (ap (λ (e : Change). e.number) same)
touched (c ∷ cs) (suc i) d is h = touched cs i d is h.1

pub put_same : (j : Journal) (t : List (List ℕ)) → IsComplete j t → applied j (put_all j.changes (resized j.count t)) ≡ applied j t
put_same j t whole =
    applied_agree j (put_all j.changes (resized j.count t)) t whole
    (λ n less ne left. put_untouched j.changes (resized j.count t) n left ∙ get_resized j.count n t zero_page less (whole n less ne left))

pub put_fits : (j : Journal) (t : List (List ℕ)) (rest : ℕ) → Fits j t rest → Fits j (put_all j.changes (resized j.count t)) 0
put_fits j t rest fits =
    let back = put_back j t in
    let size : length (put_all j.changes (resized j.count t)) ≡ j.count = back.0 in
    record {
      some = (fits.some.0, omega (arith, size, fits.some.0));
      complete = λ n less ne left. omega (arith, size, less);
      stands = inr (back, refl);
    }
