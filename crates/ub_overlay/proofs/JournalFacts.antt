-- The journal of an overlay's changes makes its pages of those below.
use Rattle.std.proofs.Common.{◌≡◌, ◌≢◌, ◌<◌, ℕ, zero, suc, List, [], ◌∷◌, Option, Some, None, slice_get, slice_set, refl, sym, ap, ◌∙◌, inl, inr, arith}
use Rattle.std.proofs.lemmas.List.Elements.{All-from_recursion}
use Rattle.std.proofs.lemmas.Option.{get_or_from_slice_get, slice_get_within}
use Rattle.std.specs.List.{AllByRecursion}
use Rattle.std.specs.Option.{unwrap_or}
use Rattle.std.proofs.lemmas.Bool.{cases_lt}
use Rattle.ub_store.specs.Facts.{page_count, zero_page}
use Rattle.ub_journal.specs.Image.{AreAscending, HasFront, IsJournal, IsUntouched, numbers_of, put_all, resized}
use Rattle.ub_journal.specs.declared.journal.Change.{Change}
use Rattle.ub_journal.proofs.Applied.{put_untouched}
use Rattle.ub_journal.specs.inner.TornClock.{get_resized}
use Rattle.ub_overlay.specs.Changes.{change, AreAbove, AreBelow, Ascend}
use Rattle.ub_overlay.specs.Journal.{ChangedView, IsJournalOf, journal_from}
use Rattle.ub_overlay.specs.Overlay.{OverlayView, pages_of, IsOverlay}
use Rattle.ub_overlay.specs.inner.Split.{IsSplit, IsSplitOf}
use Rattle.ub_overlay.proofs.OverlayFacts.{put_apart, above_apart}

set_same : {X : Type 0} (xs : List X) (n : ℕ) (x : X) → slice_get xs n ≡ Some x → slice_set xs n x ≡ xs
set_same [] n x e = refl
set_same (y ∷ xs) zero x e = let same : y ≡ x = cc in ap (λ z. z ∷ xs) (sym same)
set_same (y ∷ xs) (suc n) x e = ap (λ zs. y ∷ zs) (set_same xs n x e)

others_are : (cs : List Change) (count : ℕ) → IsUntouched cs 0 → AreBelow count cs → AllByRecursion (λ c. (c.number ≢ 0) × (c.number < count)) cs
others_are [] count apart below = tt
others_are (c ∷ cs) count apart below = ((apart.0, below.0), others_are cs count apart.1 below.1)

-- changes that ascend from above this number, and lie within, have numbers that do
numbers_ascend : (above count : ℕ) (cs : List Change) → AreAbove above cs → AreBelow count cs → Ascend cs → AreAscending above count (numbers_of cs)
numbers_ascend above count [] after within asc = tt
numbers_ascend above count (c ∷ cs) after within asc = (after.0, within.0, numbers_ascend c.number count cs asc.0 within.1 asc.1)

above_first : (cs : List Change) → IsUntouched cs 0 → AreAbove 0 cs
above_first [] apart = tt
above_first (c ∷ cs) apart = (let other = apart.0 in omega (arith, other), above_first cs apart.1)

-- the first page, put over the others of the journal, makes the pages of all changes
made : {S : Type 0} (v : OverlayView S) (before : List ℕ) (first : Option (List ℕ)) (others : List Change) → IsOverlay v → 0 < page_count v.below
    → slice_get v.below.pages 0 ≡ Some before → IsSplit v.changes first others
    → slice_set (put_all others (resized v.count v.below.pages)) 0 (unwrap_or first before) ≡ pages_of v
made v before (Some page) others is some there taken =
    let asc : Ascend (change 0 page ∷ others) = rw taken at is.ascend in
    sym (put_apart others (resized v.count v.below.pages) 0 page (above_apart 0 0 others (omega arith) asc.0))
    ∙ ap (λ cs. put_all cs (resized v.count v.below.pages)) (sym taken)
made v before None others is some there kept =
    let fewer : 0 < v.count = is.some some in
    let stands : slice_get (put_all v.changes (resized v.count v.below.pages)) 0 ≡ Some before =
    put_untouched v.changes (resized v.count v.below.pages) 0 kept.1
    ∙ get_resized v.count 0 v.below.pages zero_page (omega (arith, fewer)) some ∙ there in
    ap (λ cs. slice_set (put_all cs (resized v.count v.below.pages)) 0 before) (sym kept.0)
    ∙ set_same (put_all v.changes (resized v.count v.below.pages)) 0 before stands

-- the other changes are of none but other pages, ascend, lie within, and are all that there are but for the first page
record AreOthers {S : Type 0} (v : OverlayView S) (others : List Change) : Type 0 where
  apart : IsUntouched others 0
  ascend : Ascend others
  within : AreBelow v.count others
  rest : (n : ℕ) → n ≢ 0 → IsUntouched others n → IsUntouched v.changes n

are_others : {S : Type 0} (v : OverlayView S) (first : Option (List ℕ)) (others : List Change) → IsOverlay v → IsSplit v.changes first others → AreOthers v others
are_others v (Some page) others is taken =
    let asc : Ascend (change 0 page ∷ others) = rw taken at is.ascend in
    let within : AreBelow v.count (change 0 page ∷ others) = rw taken at is.within in
    record {
      apart = above_apart 0 0 others (omega arith) asc.0;
      ascend = asc.1;
      within = within.1;
      rest = λ n ne h. rw taken ((λ e. ne (sym e)), h);
    }
are_others v None others is kept = record {
  apart = rw kept.0 at kept.1;
  ascend = rw kept.0 at is.ascend;
  within = rw kept.0 at is.within;
  rest = λ n ne h. rw kept.0 h;
}

module _ {S : Type 0} (v : OverlayView S) (c : ChangedView) (is : IsOverlay v) (split : IsSplitOf v.changes v.count c) (before : List ℕ) where
  pub journal_is : slice_get v.below.pages 0 ≡ Some before → IsJournalOf v (journal_from before c)
  journal_is first =
      let some : 0 < page_count v.below = slice_get_within v.below.pages 0 before first in
      let are = are_others v c.first c.others is split.split in
      let fewer : 0 < v.count = is.some some in
      let front : HasFront (journal_from before c) v.below.pages = rw (get_or_from_slice_get v.below.pages 0 before zero_page first) refl in
      record {
        front = front;
        fits = λ after. record {
          some = (rw split.count_is (omega (arith, fewer)), some);
          complete = λ n less ne left. elim (cases_lt n (page_count v.below)) [
            | inl there ↦ there
            | inr past ↦ absurd (is.added n past (rw split.count_is at less) (are.rest n ne left))
          ];
          stands = inl front;
        };
        others = rw split.count_is (All-from_recursion (λ d. (d.number ≢ 0) × (d.number < v.count)) c.others (others_are c.others v.count are.apart are.within));
        ascend = are.ascend;
        makes = rw split.count_is (made v before c.first c.others is some first split.split);
      }

  pub spells : 0 < v.count → IsJournal (journal_from before c)
  spells some =
      let are = are_others v c.first c.others is split.split in
      record {
        some = rw split.count_is (omega (arith, some));
        few = rw split.count_is split.few;
        ascending = rw split.count_is (numbers_ascend 0 v.count c.others (above_first c.others are.apart) are.within are.ascend);
      }
