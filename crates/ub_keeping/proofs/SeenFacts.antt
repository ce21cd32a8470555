-- Journals and tables that are seen at a place.
use Rattle.std.proofs.Common.{◌≡◌, ◌≢◌, ◌<◌, ◌≤◌, ◌⊎◌, ◌↔◌, ◌∙◌, ℕ, Bool, false, IsTrue, List, ◌+◌, drop, get_or, None, Some, length, slice_get, ap, arith, inl, inr, sym, subst}
use Rattle.std.proofs.lemmas.Bool.{false≢true, true≢false}
use Rattle.std.proofs.lemmas.Option.{get_or_from_slice_get}
use Rattle.ub_store.specs.Facts.{zero_page}
use Rattle.ub_journal.specs.Crash.{with_count}
use Rattle.ub_journal.specs.Image.{Finds, Fits, Image, IsJournal, IsMarkedFrom, Journal, applied, first_page}
use Rattle.ub_journal.specs.Place.{IsClock, IsCommitted, IsHonest, LeavesOnly, PlaceFacts}
use Rattle.ub_journal.proofs.Applied.{length_sized}
use Rattle.ub_journal.proofs.Moments.{weaker}
use Rattle.ub_keeping.specs.Calm.{IsCalm, IsQuiet}
use Rattle.ub_keeping.specs.Found.{HasNoJournal, IsUnsized, MayFinish, StandsAlone}
use Rattle.ub_keeping.specs.Kept.{IsKept, MayKeep}
use Rattle.ub_keeping.specs.inner.Fitting.{AreThere, LeaveFirst}
use Rattle.ub_keeping.specs.inner.Made.{HasPage, IsMadeOf}
use Rattle.ub_keeping.proofs.CalmFacts.{still, quiet_same, seen_calm, told_calm}
use Rattle.ub_keeping.proofs.FitFacts.{there_next}
use Rattle.ub_keeping.proofs.FoundFacts.{finds_one}
use Rattle.ub_keeping.proofs.KeptFacts.{keep_joined}
use Rattle.ub_overlay.specs.Journal.{ChangedView, journal_from}
use Rattle.ub_journal.specs.declared.journal.Change.{Change}

pub quiet_keeps : (pages : List (List ℕ)) (a b : PlaceFacts) → IsQuiet a b → IsHonest a → LeavesOnly (MayKeep pages a) a b
quiet_keeps pages a b quiet honest = weaker (quiet.any_moment honest) (λ i is. inl is)

-- the journal that is seen is none of the table
pub none_fits : (j : Journal) (a b : PlaceFacts) (said : Bool) → IsCalm a b → (IsHonest a → a.seen.journal ≡ Some j) → (IsHonest b → IsTrue said ↔ Fits j b.seen.table b.seen.rest) → said ≡ false
    → IsHonest a → HasNoJournal a.seen
none_fits j a b said calm is fits not honest other same of =
    let both : Some other ≡ Some j = sym same ∙ is honest in
    let one : other ≡ j = cc in
    true≢false (sym ((fits (still a b calm.quiet.honest honest)).1 (subst (λ (i : Image). Fits j i.table i.rest) (sym (calm.seen honest)) (subst (λ (k : Journal). Fits k a.seen.table a.seen.rest) one of))) ∙ not)

pub none_seen : (image : Image) → image.journal ≡ None → HasNoJournal image
none_seen image none j same = let wrong : None ≡ Some j = sym none ∙ same in cc

-- no journal with no pages is one of a table
pub empty_fits : (image : Image) (other : Journal) → image.journal ≡ Some other → other.count ≡ 0 → HasNoJournal image
empty_fits image other beside empty j same fits =
    let both : Some other ≡ Some j = sym beside ∙ same in
    let one : other ≡ j = cc in
    let some = fits.some.0 in
    let none : j.count ≡ 0 = ap (λ (k : Journal). k.count) (sym one) ∙ empty in
    omega (arith, some, none)

-- a journal that was made of the table with the first page that was read
module _ (changed : ChangedView) (old read : PlaceFacts) (page : List ℕ) (calm : IsCalm old read) (some : 1 ≤ length old.seen.table) (first : IsHonest old → slice_get old.seen.table 0 ≡ Some page) where
  page_same : IsHonest old → first_page old.seen.table ≡ page
  page_same honest = get_or_from_slice_get old.seen.table 0 page zero_page (first honest)

  pub made_seen : (HasPage old → IsMadeOf (journal_from (first_page old.seen.table) changed) old.seen.table) → IsHonest read → IsMadeOf (journal_from page changed) read.seen.table
  made_seen made = seen_calm (λ i. IsMadeOf (journal_from page changed) i.table) old read calm
      (λ honest. subst (λ (p : List ℕ). IsMadeOf (journal_from p changed) old.seen.table) (page_same honest) (made (honest, some)))

  makes_seen : (pages : List (List ℕ)) → (HasPage old → applied (journal_from (first_page old.seen.table) changed) old.seen.table ≡ pages) → IsHonest old
      → applied (journal_from page changed) read.seen.table ≡ pages
  makes_seen pages makes honest =
      ap (λ (i : Image). applied (journal_from page changed) i.table) (calm.seen honest)
      ∙ ap (λ (p : List ℕ). applied (journal_from p changed) old.seen.table) (sym (page_same honest))
      ∙ makes (honest, some)

  pub kept_seen : (pages : List (List ℕ)) (last : PlaceFacts) → (HasPage old → applied (journal_from (first_page old.seen.table) changed) old.seen.table ≡ pages)
      → (IsHonest read → IsKept (applied (journal_from page changed) read.seen.table) last) → IsHonest old → IsKept pages last
  kept_seen pages last makes kept honest =
      subst (λ (ps : List (List ℕ)). IsKept ps last) (makes_seen pages makes honest) (kept (still old read calm.quiet.honest honest))

  pub run_seen : (pages : List (List ℕ)) (last : PlaceFacts) → (HasPage old → applied (journal_from (first_page old.seen.table) changed) old.seen.table ≡ pages)
      → (IsHonest read → LeavesOnly (MayKeep (applied (journal_from page changed) read.seen.table) read) read last) → IsHonest old → LeavesOnly (MayKeep pages old) old last
  run_seen pages last makes run honest =
      keep_joined pages old read last honest calm
      (subst (λ (ps : List (List ℕ)). LeavesOnly (MayKeep ps read) read last) (makes_seen pages makes honest) (run (still old read calm.quiet.honest honest)))

-- a table of so many pages
pub sized_count : (n : ℕ) (pages : List (List ℕ)) (old sized : Image) → n ≡ length pages → sized ≡ with_count n old → length sized.table ≡ length pages
sized_count n pages old sized is written = ap (λ (i : Image). length i.table) written ∙ length_sized n old.table ∙ is

pub page_there : (pages : List (List ℕ)) (filled synced : Image) → 1 ≤ length pages → synced ≡ filled → length filled.table ≡ length pages → 0 < length synced.table
page_there pages filled synced some same count = let long = ap (λ (i : Image). length i.table) same in omega (arith, some, long, count)

-- the table by itself, where no journal is one of it
pub alone_found : (pages : List (List ℕ)) (old mid : PlaceFacts) → IsCalm old mid → (IsHonest old → HasNoJournal old.seen) → (IsHonest mid → (pages ≡ mid.seen.table) × (mid.seen.rest ≡ 0)) → IsHonest old
    → Finds old.seen pages 0
alone_found pages old mid calm none is honest =
    let at = told_calm (λ i. (pages ≡ i.table) × (i.rest ≡ 0)) old mid calm is honest in inr (none honest, at.0, sym at.1)

pub alone_unsized : (old mid : PlaceFacts) → IsCalm old mid → (IsHonest old → HasNoJournal old.seen) → mid.seen.rest ≢ 0 → IsHonest old → IsUnsized old.seen
alone_unsized old mid calm none some honest = inr (λ pages after finds. inl (λ e. elim finds [
  | inl here ↦ none honest here.0 here.1 here.2
  | inr is ↦ some (ap (λ (i : Image). i.rest) (calm.seen honest) ∙ sym is.2 ∙ e)
]))

-- what was read through a call that changes nothing, while a journal is finished
pub quiet_finishes : (a b : PlaceFacts) → IsQuiet a b → IsHonest a → LeavesOnly (MayFinish a) a b
quiet_finishes a b quiet honest = weaker (quiet.any_moment honest) (λ i is. inl is)

pub none_found : (old mid : PlaceFacts) → IsCalm old mid → (IsHonest old → old.seen.journal ≡ None) → IsHonest old → Finds old.seen mid.seen.table mid.seen.rest
none_found old mid calm none honest =
    inr (none_seen old.seen (none honest), ap (λ (i : Image). i.table) (calm.seen honest), ap (λ (i : Image). i.rest) (calm.seen honest))

-- a place with which nothing was done
pub same_keeps : (pages : List (List ℕ)) (a : PlaceFacts) → (IsHonest a → IsClock a) → IsHonest a → LeavesOnly (MayKeep pages a) a a
same_keeps pages a clock = quiet_keeps pages a a (quiet_same a clock)

pub seen_keeps : (pages : List (List ℕ)) (a : PlaceFacts) → (IsHonest a → IsClock a) → IsHonest a → MayKeep pages a a.seen
seen_keeps pages a clock honest = inl (clock honest).seen_may_stay

pub finds_as : (image : Image) (p q : List (List ℕ)) (a b : ℕ) → p ≡ q → b ≡ a → Finds image q b → Finds image p a
finds_as image p q a b same rest found = subst (λ (n : ℕ). Finds image p n) rest (subst (λ (ps : List (List ℕ)). Finds image ps b) (sym same) found)

pub stands_alone : (image : Image) (pages : List (List ℕ)) → image.journal ≡ None → (pages ≡ image.table) × (image.rest ≡ 0) → StandsAlone image pages
stands_alone image pages none is = record { journal = none; table = sym is.0; rest = is.1 }

pub unsized_rest : (image : Image) (table : List (List ℕ)) (rest : ℕ) → Finds image table rest → rest ≢ 0 → IsUnsized image
unsized_rest image table rest found some = inr (λ pages after finds. inl (λ e. some ((finds_one image table pages rest after found finds).1 ∙ e)))

pub healed_found : (j : Journal) (old mid new : PlaceFacts) → IsCalm old mid → (IsHonest old → old.seen.journal ≡ Some j) → (IsHonest old → Fits j old.seen.table old.seen.rest) → (IsHonest mid → IsCommitted j mid new)
    → IsHonest old → Finds old.seen new.seen.table new.seen.rest
healed_found j old mid new calm seen fits done honest =
    let is = done (still old mid calm.quiet.honest honest) in
    inl (j, seen honest, fits honest, is.table ∙ ap (λ (i : Image). applied j i.table) (calm.seen honest), is.whole)

-- a journal whose first page from before is the one that stands there is one of the table
pub marked_fits : (j : Journal) (t : List (List ℕ)) (page : List ℕ) (rest n : ℕ) → IsJournal j → n ≢ 0 → n ≡ length t → LeaveFirst n j.count j.changes → slice_get t 0 ≡ Some page → IsMarkedFrom j.before page
    → Fits j t rest
marked_fits j t page rest n is some many leave first marked = record {
  some = (is.some, omega (arith, some, many));
  complete = subst (λ (k : ℕ). LeaveFirst k j.count j.changes) many leave;
  stands = inl (subst (λ (p : List ℕ). IsMarkedFrom j.before p) (sym (get_or_from_slice_get t 0 page zero_page first)) marked);
}

-- one change more that stands there, and one that doesn't
pub there_more : (cs : List Change) (i : ℕ) (none : Change) (t : List (List ℕ)) (read : List ℕ) → i < length cs → slice_get t (get_or cs i none).number ≡ Some read → read ≡ (get_or cs i none).page
    → AreThere cs t ↔ AreThere (drop i cs) t → AreThere cs t ↔ AreThere (drop (i + 1) cs) t
there_more cs i none t read less at same so =
    let next = there_next cs i none t less in
    ((λ all. (next.0 (so.0 all)).1), λ more. so.1 (next.1 (at ∙ ap (λ (p : List ℕ). Some p) same, more)))

pub there_not : (cs : List Change) (i : ℕ) (none : Change) (t : List (List ℕ)) (read : List ℕ) → i < length cs → slice_get t (get_or cs i none).number ≡ Some read → (read ≡ (get_or cs i none).page → ⊥)
    → AreThere cs t ↔ AreThere (drop i cs) t → IsTrue false ↔ AreThere cs t
there_not cs i none t read less at apart so = (
  (λ wrong. absurd (false≢true wrong)),
  λ all.
      let both : Some read ≡ Some (get_or cs i none).page = sym at ∙ ((there_next cs i none t less).0 (so.0 all)).0 in
      absurd (apart (let same : read ≡ (get_or cs i none).page = cc in same)),
)

-- a journal is none of the table where its first page isn't the one from before, and bytes stand after the last page, or there are more or fewer pages than it tells
pub unmarked_unfit : (j : Journal) (t : List (List ℕ)) (page : List ℕ) (rest : ℕ) → slice_get t 0 ≡ Some page → (IsMarkedFrom j.before page → ⊥) → (rest ≢ 0) ⊎ (length t ≢ j.count) → Fits j t rest → ⊥
unmarked_unfit j t page rest first apart other fits = elim fits.stands [
  | inl front ↦ apart (subst (λ (p : List ℕ). IsMarkedFrom j.before p) (get_or_from_slice_get t 0 page zero_page first) front)
  | inr back ↦ elim other [ inl some ↦ some back.1 | inr ne ↦ ne back.0.0 ]
]
