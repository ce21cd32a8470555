-- The journal that makes a table anew.
use Rattle.std.proofs.Common.{◌≡◌, ◌<◌, ◌≤◌, ◌+◌, ◌-◌, ◌∙◌, ◌^◌, ℕ, zero, suc, List, [], ◌∷◌, ◌++◌, Some, length, drop, slice_get, slice_set, ap, arith, inl, inr, refl, sym, subst, length-set}
use Rattle.std.proofs.lemmas.Bool.{cases_eq}
use Rattle.std.proofs.lemmas.Option.{get_or_from_slice_get, slice_get_within}
use Rattle.ub_store.specs.Facts.{zero_page}
use Rattle.ub_journal.specs.Crash.{with_page}
use Rattle.ub_journal.specs.Image.{AreAscending, Image, IsComplete, IsJournal, IsMarkedFrom, IsUntouched, applied, first_page, numbers_of, put_all, resized}
use Rattle.ub_journal.specs.inner.TornClock.{get_set_other}
use Rattle.ub_journal.proofs.Applied.{length_sized}
use Rattle.ub_journal.proofs.Lists.{get_set_same, same_all}
use Rattle.ub_journal_page.proofs.LawFacts.{change_others}
use Rattle.ub_keeping.specs.Kept.{numbered, replacing}
use Rattle.ub_keeping.specs.inner.Made.{HasOthers, IsMadeOf, PutsUpTo}

ascending : (above n count : ℕ) (pages : List (List ℕ)) → above < n → n + length pages ≤ count → AreAscending above count (numbers_of (numbered n pages))
ascending above n count [] less few = tt
ascending above n count (page ∷ pages) less few = (less, omega (arith, few), ascending n (n + 1) count pages (omega arith) (omega (arith, few)))

length_tail : (pages : List (List ℕ)) → 1 ≤ length pages → 1 + length (drop 1 pages) ≤ length pages
length_tail [] some = absurd (omega arith)
length_tail (page ∷ pages) some = omega arith

-- it is a journal that pages can hold
pub replacing_is : (before : List ℕ) (pages : List (List ℕ)) → 1 ≤ length pages → length pages < 2 ^ 32 → IsJournal (replacing before pages)
replacing_is before pages some few = record {
  some = some;
  few = few;
  ascending = ascending 0 1 (length pages) (drop 1 pages) (omega arith) (length_tail pages some);
}

-- it leaves no page but the first
all_numbered : (n m : ℕ) (pages : List (List ℕ)) → n ≤ m → m < n + length pages → IsUntouched (numbered n pages) m → ⊥
all_numbered n m [] le less free = omega (arith, le, less)
all_numbered n m (page ∷ pages) le less free = elim (cases_eq n m) [
  | inl e ↦ free.0 e
  | inr ne ↦ all_numbered (n + 1) m pages (omega (arith, le, ne)) (omega (arith, less)) free.1
]

tail_long : (pages : List (List ℕ)) (n : ℕ) → n < length pages → n < 1 + length (drop 1 pages)
tail_long [] n less = absurd (omega arith)
tail_long (page ∷ pages) n less = omega (arith, less)

leaves_none : (before : List ℕ) (pages t : List (List ℕ)) → IsComplete (replacing before pages) t
leaves_none before pages t n less ne free = absurd (all_numbered 1 n (drop 1 pages) (omega (arith, ne)) (tail_long pages n less) free)

-- pages put behind others
put_numbered : (front pages old : List (List ℕ)) (n : ℕ) → n ≡ length front → length old ≡ length pages → put_all (numbered n pages) (front ++ old) ≡ front ++ pages
put_numbered front [] [] n at same = refl
put_numbered front [] (o ∷ old) n at same = absurd (omega (arith, same))
put_numbered front (page ∷ pages) [] n at same = absurd (omega (arith, same))
put_numbered front (page ∷ pages) (o ∷ old) n at same =
    ap (put_all (numbered (n + 1) pages)) (set_behind front old n o page at) ∙ put_numbered (front ++ page ∷ []) pages old (n + 1) (omega (arith, at, length_push front page)) (omega (arith, same))
    ∙ push_assoc front pages page
  where
    push_assoc : (front pages : List (List ℕ)) (page : List ℕ) → (front ++ page ∷ []) ++ pages ≡ front ++ page ∷ pages
    push_assoc [] pages page = refl
    push_assoc (f ∷ front) pages page = ap (λ (t : List (List ℕ)). f ∷ t) (push_assoc front pages page)

    length_push : (front : List (List ℕ)) (page : List ℕ) → length (front ++ page ∷ []) ≡ length front + 1
    length_push [] page = refl
    length_push (f ∷ front) page = let more = length_push front page in omega (arith, more)

    set_behind : (front old : List (List ℕ)) (n : ℕ) (o page : List ℕ) → n ≡ length front → slice_set (front ++ o ∷ old) n page ≡ (front ++ page ∷ []) ++ old
    set_behind [] old zero o page at = refl
    set_behind [] old (suc n) o page at = absurd (omega (arith, at))
    set_behind (f ∷ front) old zero o page at = absurd (omega (arith, at))
    set_behind (f ∷ front) old (suc n) o page at = ap (λ (t : List (List ℕ)). f ∷ t) (set_behind front old n o page (omega (arith, at)))

-- it makes these pages of any table
made_anew : (pages sized : List (List ℕ)) → 1 ≤ length pages → length sized ≡ length pages → slice_set (put_all (numbered 1 (drop 1 pages)) sized) 0 (first_page pages) ≡ pages
made_anew [] sized some same = absurd (omega arith)
made_anew (page ∷ pages) [] some same = absurd (omega (arith, same))
made_anew (page ∷ pages) (o ∷ old) some same =
    ap (λ (t : List (List ℕ)). slice_set t 0 page) (put_numbered (o ∷ []) pages old 1 refl (omega (arith, same)))

pub makes_pages : (before : List ℕ) (pages t : List (List ℕ)) → 1 ≤ length pages → applied (replacing before pages) t ≡ pages
makes_pages before pages t some = made_anew pages (resized (length pages) t) some (length_sized (length pages) t)

-- and is one of a table with this first page
pub replacing_made : (before : List ℕ) (pages t : List (List ℕ)) → 1 ≤ length pages → length pages < 2 ^ 32 → slice_get t 0 ≡ Some before → IsMadeOf (replacing before pages) t
replacing_made before pages t some few there =
    let front : IsMarkedFrom before (first_page t) = subst (λ (page : List ℕ). IsMarkedFrom before page) (sym (get_or_from_slice_get t 0 before zero_page there)) refl in
    let long = slice_get_within t 0 before there in
    record {
      front = front;
      fits = λ rest. record { some = (some, omega (arith, long)); complete = leaves_none before pages t; stands = inl front };
      others = change_others (replacing before pages) (replacing_is before pages some few);
    }

pub first_none : (pages : List (List ℕ)) → length pages ≡ 0 → zero_page ≡ first_page pages
first_none [] none = refl
first_none (page ∷ pages) none = absurd (omega (arith, none))

length_numbered : (n : ℕ) (pages : List (List ℕ)) → length (numbered n pages) ≡ length pages
length_numbered n [] = refl
length_numbered n (page ∷ pages) = ap suc (length_numbered (n + 1) pages)

pub many_changes : (pages : List (List ℕ)) → length (numbered 1 (drop 1 pages)) ≡ length pages - 1
many_changes [] = refl
many_changes (page ∷ pages) = length_numbered 1 pages ∙ omega arith

get_numbered : (n at k : ℕ) (pages : List (List ℕ)) (page : List ℕ) → k ≡ n + at → slice_get pages at ≡ Some page → slice_get (numbered n pages) at ≡ Some record { number = k; page = page }
get_numbered n at k [] page is there = absurd (let wrong = there in cc)
get_numbered n zero k (p ∷ pages) page is there =
    let same : p ≡ page = cc in
    let first : n ≡ k = omega (arith, is) in
    rw (same, first) refl
get_numbered n (suc at) k (p ∷ pages) page is there = get_numbered (n + 1) at k pages page (omega (arith, is)) there

pub change_told : (pages : List (List ℕ)) (at k : ℕ) (page : List ℕ) → k ≡ at + 1 → slice_get pages k ≡ Some page → slice_get (numbered 1 (drop 1 pages)) at ≡ Some record { number = k; page = page }
change_told [] at k page is there = absurd (let wrong = there in cc)
change_told (p ∷ pages) at zero page is there = absurd (omega (arith, is))
change_told (p ∷ pages) at (suc k) page is there = get_numbered 1 at (suc k) pages page (omega (arith, is)) (subst (λ (m : ℕ). slice_get pages m ≡ Some page) (omega (arith, is)) there)

-- pages put one by one
pub puts_none : (pages : List (List ℕ)) (old : Image) → length old.table ≡ length pages → PutsUpTo 1 pages old old
puts_none pages old long = record { same = refl; count = long; others = λ m ne less. absurd (omega (arith, ne, less)) }

pub puts_next : (n : ℕ) (pages : List (List ℕ)) (page : List ℕ) (old mid new : Image) → PutsUpTo n pages old mid → n < length pages → slice_get pages n ≡ Some page → new ≡ with_page n page mid
    → PutsUpTo (n + 1) pages old new
puts_next n pages page old mid new puts less there put =
    let table : new.table ≡ slice_set mid.table n page = ap (λ (i : Image). i.table) put in
    record {
      same = put ∙ ap (with_page n page) puts.same ∙ ap (λ (t : List (List ℕ)). record old { table = t }) (sym table);
      count = ap length table ∙ length-set mid.table n page ∙ puts.count;
      others = λ m ne up. elim (cases_eq m n) [
        | inl e ↦
            ap (λ (t : List (List ℕ)). slice_get t m) table ∙ ap (slice_get (slice_set mid.table n page)) e ∙ get_set_same mid.table n page (omega (arith, less, puts.count)) ∙ sym there
            ∙ ap (slice_get pages) (sym e)
        | inr apart ↦ ap (λ (t : List (List ℕ)). slice_get t m) table ∙ get_set_other mid.table n m page apart ∙ puts.others m ne (omega (arith, up, apart))
      ];
    }

-- with the first one they are all there
pub all_there : (pages : List (List ℕ)) (page : List ℕ) (old new : Image) → HasOthers pages old new → slice_get pages 0 ≡ Some page → slice_set new.table 0 page ≡ pages
all_there pages page old new has first = same_all (slice_set new.table 0 page) pages (λ m. elim (cases_eq m 0) [
  | inl e ↦
      let long = slice_get_within pages 0 page first in
      ap (slice_get (slice_set new.table 0 page)) e ∙ get_set_same new.table 0 page (omega (arith, long, has.count)) ∙ sym first ∙ ap (slice_get pages) (sym e)
  | inr ne ↦ get_set_other new.table 0 m page ne ∙ has.others m ne
])
