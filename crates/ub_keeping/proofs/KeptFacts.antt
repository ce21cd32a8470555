-- What is kept at a place.
use Rattle.std.proofs.Common.{◌≡◌, ◌≤◌, ◌∙◌, ◌⊎◌, ℕ, List, [], ◌∷◌, None, Some, Result, Ok, Err, OnErr, length, slice_get, ap, arith, inl, inr, refl, sym, subst}
use Rattle.ub_journal.specs.Image.{Finds, Fits, HasFront, Image, Journal, Stands, StandsForOld, applied, first_page}
use Rattle.ub_journal.specs.Place.{Follows, IsClock, IsDurable, IsHonest, IsReady, Lasts, LeavesOnly, PlaceFacts, SameJournal, SameTable}
use Rattle.ub_journal.specs.Crash.{Stays, with_count, with_page}
use Rattle.ub_journal.proofs.Moments.{joined}
use Rattle.ub_keeping.specs.Calm.{IsCalm}
use Rattle.ub_keeping.specs.Kept.{IsKept, MayKeep, MayMake}
use Rattle.ub_keeping.specs.Found.{MayFinish}
use Rattle.ub_keeping.specs.Store.{store_facts}
use Rattle.ub_keeping.specs.inner.Made.{HasOthers, HasPage, IsMadeOf}
use Rattle.ub_keeping.proofs.FoundFacts.{stands_after}
use Rattle.ub_keeping.proofs.MadeFacts.{all_there}
use Rattle.ub_keeping.proofs.StoreFacts.{pages_honest}
use Rattle.ub_overlay.specs.Journal.{ChangedView, IsJournalOf, journal_from}
use Rattle.ub_overlay.specs.Overlay.{OverlayView, pages_of}
use Rattle.ub_store.specs.Facts.{StoreFacts}

-- a commit may begin
pub ready_of : (j : Journal) (old mid : PlaceFacts) → mid.seen ≡ old.seen → IsDurable mid → IsMadeOf j old.seen.table → old.seen.journal ≡ None → IsReady j mid
ready_of j old mid same durable made none = record {
  rest = record { durable = durable; no_journal = ap (λ (i : Image). i.journal) same ∙ none };
  front = subst (λ (i : Image). HasFront j i.table) (sym same) made.front;
  fits = subst (λ (i : Image). Fits j i.table i.rest) (sym same) (made.fits old.seen.rest);
  others = made.others;
}

-- looks before that
pub keep_after : (pages : List (List ℕ)) (a b : PlaceFacts) → IsHonest a → IsCalm a b → (image : Image) → MayKeep pages b image → MayKeep pages a image
keep_after pages a b honest calm image may = elim may [
  | inl was ↦ inl (calm.quiet.leaves honest image was)
  | inr new ↦ inr (subst (λ (s : Image). StandsForOld s image ⊎ Stands image pages 0) (calm.seen honest) new)
]

pub keep_joined : (pages : List (List ℕ)) (a b c : PlaceFacts) → IsHonest a → IsCalm a b → LeavesOnly (MayKeep pages b) b c → LeavesOnly (MayKeep pages a) a c
keep_joined pages a b c honest calm run = joined (calm.quiet.any_moment honest) run (λ i is. inl is) (keep_after pages a b honest calm)

-- what is seen at the end is what a crash may leave then
pub seen_at_end : (P : Image → Type 0) (a b : PlaceFacts) → IsClock b → LeavesOnly P a b → P b.seen
seen_at_end P a b clock run = run.each b.seen (clock.counts_now a.moment b.seen run.later clock.seen_may_stay)

first_there : (t : List (List ℕ)) → 1 ≤ length t → slice_get t 0 ≡ Some (first_page t)
first_there [] some = absurd (omega arith)
first_there (page ∷ t) some = refl

module _ {S : Type 0} (v : OverlayView S) (facts : PlaceFacts) (count reads writes : ℕ) (changed : ChangedView) (below : v.below ≡ store_facts facts count reads writes)
    (tells : (before : List ℕ) → slice_get v.below.pages 0 ≡ Some before → IsJournalOf v (journal_from before changed)) where
  same_pages : IsHonest facts → v.below.pages ≡ facts.seen.table
  same_pages honest = ap (λ (f : StoreFacts). f.pages) below ∙ pages_honest facts.honest count facts.seen.table honest

  of_first : HasPage facts → IsJournalOf v (journal_from (first_page facts.seen.table) changed)
  of_first page = tells (first_page facts.seen.table) (ap (λ (t : List (List ℕ)). slice_get t 0) (same_pages page.0) ∙ first_there facts.seen.table page.1)

  -- the changed pages of an overlay make a journal of the table
  pub made_of : HasPage facts → IsMadeOf (journal_from (first_page facts.seen.table) changed) facts.seen.table
  made_of page =
      let j = journal_from (first_page facts.seen.table) changed in
      record {
        front = subst (λ (t : List (List ℕ)). HasFront j t) (same_pages page.0) (of_first page).front;
        fits = λ rest. subst (λ (t : List (List ℕ)). Fits j t rest) (same_pages page.0) ((of_first page).fits rest);
        others = (of_first page).others;
      }

  -- which makes the overlay's pages of it
  pub made_pages : HasPage facts → applied (journal_from (first_page facts.seen.table) changed) facts.seen.table ≡ pages_of v
  made_pages page = ap (applied (journal_from (first_page facts.seen.table) changed)) (sym (same_pages page.0)) ∙ (of_first page).makes

pub on_err : {A E X : Type 0} (r : Result A E) → X → OnErr r X
on_err (Ok a) x = tt
on_err (Err e) x = x

-- a table is made where one was found
pub make_joined : (pages : List (List ℕ)) (old mid new : PlaceFacts) → IsClock mid → LeavesOnly (MayFinish old) old mid → Finds old.seen mid.seen.table mid.seen.rest
    → LeavesOnly (MayKeep pages mid) mid new → LeavesOnly (MayMake pages old) old new
make_joined pages old mid new clock one found two = joined one two (λ i is. inl is) (λ i may. elim may [
  | inl was ↦ inl (one.each i (clock.counts_now old.moment i one.later was))
  | inr kept ↦ elim kept [
    | inl same ↦ inl (inr (stands_after old.seen i mid.seen.table mid.seen.rest found same))
    | inr these ↦ inr these
  ]
])

-- the pages stand where there was none, the first of them put last
pub begun_of : (pages : List (List ℕ)) (page : List ℕ) (count : ℕ) (old sized filled synced put whole last : PlaceFacts) → slice_get pages 0 ≡ Some page → old.seen.journal ≡ None
    → sized.seen ≡ with_count count old.seen → HasOthers pages sized.seen filled.seen → synced.seen ≡ filled.seen → put.seen ≡ with_page 0 page synced.seen
    → Lasts SameTable put whole → Lasts SameJournal whole last → Follows Stays whole last → IsKept pages last
begun_of pages page count old sized filled synced put whole last first none resized others same written table journal stays =
    let seen : last.seen ≡ put.seen = journal.seen ∙ table.seen in
    let after : put.seen ≡ with_page 0 page filled.seen = written ∙ ap (with_page 0 page) same in
    let before : filled.seen ≡ record sized.seen { table = filled.seen.table } = others.same in
    let all : put.seen.table ≡ pages = ap (λ (i : Image). i.table) after ∙ all_there pages page sized.seen filled.seen others first in
    let gone : put.seen.journal ≡ None = ap (λ (i : Image). i.journal) after ∙ ap (λ (i : Image). i.journal) before ∙ ap (λ (i : Image). i.journal) resized ∙ none in
    let no_rest : put.seen.rest ≡ 0 = ap (λ (i : Image). i.rest) after ∙ ap (λ (i : Image). i.rest) before ∙ ap (λ (i : Image). i.rest) resized in
    record {
      rest = record {
        durable = λ c left.
            let from = stays c left in
            let lasts = table.durable c (subst whole.may_leave from.2 from.1) in
            ((lasts.0 ∙ ap (λ (i : Image). i.table) (sym seen), lasts.1 ∙ ap (λ (i : Image). i.rest) (sym seen)), journal.durable c left ∙ ap (λ (i : Image). i.journal) (sym journal.seen));
        no_journal = ap (λ (i : Image). i.journal) seen ∙ gone;
      };
      table = ap (λ (i : Image). i.table) seen ∙ all;
      whole = ap (λ (i : Image). i.rest) seen ∙ no_rest;
    }
