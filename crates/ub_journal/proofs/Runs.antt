-- The runs of calls of the steps, one after the other.
use Rattle.std.proofs.Common.{◌≡◌, ◌≢◌, ◌∙◌, ℕ, Some, None, Result, slice_get, inl, inr, ap, sym, subst, refl}
use Rattle.ub_journal.specs.Crash.{Drafts, Removes, Resizes, Stays, TearsMark, TearsPage, with_draft, with_journal, with_mark, with_page}
use Rattle.ub_journal.specs.Image.{Image, Journal, Fits, HasBack, HasFront, Recovers, Stands, applied, first_page, marked, put_all, resized}
use Rattle.ub_journal.specs.Place.{IsClock, IsCommitted, IsDurable, IsFound, IsHonest, IsSame, Lasts, LeavesNow, LeavesOnly, PlaceFacts, SameDraft, SameJournal, SameTable, Steps}
use Rattle.ub_journal.specs.declared.place.Failed.{Failed}
use Rattle.ub_journal.specs.inner.Way.{HasBegun, HasCompleted, IsCompleted, IsDrafted, IsMarked, IsOnTheWay, Puts, with_others}
use Rattle.ub_journal.specs.declared.journal.Change.{Change}
use Rattle.ub_journal.proofs.Applied.{among, put_back, put_fits, put_same, touched}
use Rattle.ub_journal.proofs.Marking.{first_marked, found_recovers, mark_torn}
use Rattle.ub_journal.proofs.Moments.{At, begins, joined, lasts, stays, steps}
use Rattle.ub_journal.proofs.Settling.{IsBeside, head_put, head_torn, journal_goes, settling_begins}
use Rattle.ub_journal.proofs.Way.{way_begins, way_fits, way_front, way_marks, way_puts, way_resizes, way_stands}

-- a draft is written
abbrev pub Drafted : PlaceFacts → PlaceFacts → Type 0
Drafted start now = At (IsSame start.seen) (IsSame start.seen) start now

pub draft_begun : {start a : PlaceFacts} {A : Type 0} {r : Result A Failed} → IsDurable start → IsHonest start → IsClock start → Steps Drafts start a r → Drafted start a
draft_begun {start = start} durable honest clock call =
    steps (IsSame start.seen) (begins (IsSame start.seen) (IsSame start.seen) honest clock durable (λ c same. same)) call (λ d c same drafts. (
      (ap (λ (i : Image). i.table) drafts ∙ same.0.0, ap (λ (i : Image). i.rest) drafts ∙ same.0.1),
      ap (λ (i : Image). i.journal) drafts ∙ same.1,
    )) (λ c same. same)

pub draft_lasts : (j : Journal) {start a b : PlaceFacts} → Drafted start b → a.seen ≡ with_draft j start.seen → Lasts SameDraft a b → IsDrafted j start b
draft_lasts j {start = start} {b = b} at written done =
    let seen : b.seen ≡ with_draft j start.seen = done.seen ∙ written in
    record {
      durable = λ c left. let same = at.now_is c left in (
        (same.0.0 ∙ ap (λ (i : Image). i.table) (sym seen), same.0.1 ∙ ap (λ (i : Image). i.rest) (sym seen)),
        same.1 ∙ ap (λ (i : Image). i.journal) (sym seen),
      );
      lasts = λ c left. done.durable c left ∙ ap (λ (i : Image). i.draft) (sym done.seen);
      seen = seen;
    }

-- the first page is marked
module _ (j : Journal) {start : PlaceFacts} (begun : HasBegun j start) (honest : IsHonest start) (clock : IsClock start) where
  -- what a crash leaves once the mark was put
  abbrev pub Marked : Image → Type 0
  Marked c = IsOnTheWay j start.seen.table c × Recovers j start.seen c

  pub mark_put : {a b : PlaceFacts} {A B : Type 0} {r : Result A Failed} {s : Result B Failed} → Steps Stays start a r → Steps TearsMark a b s
      → first_page start.seen.table ≢ marked j.before → At (Recovers j start.seen) Marked start b
  mark_put read put apart =
      let fits = begun.found.left.fits in
      let is = begun.found.left.journal in
      let at = begins (Recovers j start.seen) (IsSame start.seen) honest clock begun.found.durable (λ c same. found_recovers j start.seen c fits (same.1 ∙ is) same.0) in
      let after = stays at read (λ c same. found_recovers j start.seen c fits (same.1 ∙ is) same.0) in
      steps Marked after put (λ d c same torn. (
        way_marks j start.seen.table start.seen.rest fits d c (way_begins j start.seen.table start.seen.rest fits d same.0.0 (same.1 ∙ is)) torn,
        mark_torn j start.seen d c fits begun.front apart (same.1 ∙ is) same.0 torn,
      )) (λ c so. so.1)

  pub mark_synced : {a b e : PlaceFacts} {A B C : Type 0} {r : Result A Failed} {s : Result B Failed} {t : Result C Failed} → Steps Stays start a r → Steps TearsMark a b s → Steps Stays b e t
      → first_page start.seen.table ≢ marked j.before → At (Recovers j start.seen) Marked start e
  mark_synced read put sync apart = stays (mark_put read put apart) sync (λ c so. so.1)

  pub mark_lasts : (was : Image) {b e : PlaceFacts} → At (Recovers j start.seen) Marked start e → IsClock e → was ≡ start.seen → b.seen ≡ with_mark was → Lasts SameTable b e → IsMarked j start e
  mark_lasts was {e = e} at now seen put done =
      let fits = begun.found.left.fits in
      let stays_on = (at.now_is e.seen now.seen_may_stay).0 in
      let here = way_fits j start.seen.table start.seen.rest fits e.seen begun.front stays_on in
      record {
        begun = record {
          found = record {
            durable = λ c left.
                let same = done.durable c left in
                ((same.0 ∙ ap (λ (i : Image). i.table) (sym done.seen), same.1 ∙ ap (λ (i : Image). i.rest) (sym done.seen)), (at.now_is c left).0.journal ∙ sym stays_on.journal);
            left = record { journal = stays_on.journal; fits = here.0; others = begun.found.left.others };
          };
          front = way_front j start.seen.table start.seen.rest fits e.seen begun.front stays_on;
        };
        way = stays_on;
        mark = first_marked j start.seen.table e.seen.table fits.some.1 begun.front (ap (λ (i : Image). i.table) (done.seen ∙ put ∙ ap with_mark seen));
      }

-- the pages are put
module _ (j : Journal) {start : PlaceFacts} (begun : HasBegun j start) (honest : IsHonest start) (clock : IsClock start) where
  pub pages_resized : {a : PlaceFacts} {A : Type 0} {r : Result A Failed} (count : ℕ) → count ≡ j.count → Steps (Resizes count) start a r → At (Puts j start.seen) (Puts j start.seen) start a
  pages_resized {a = a} {r = r} count is call =
      let left = begun.found.left in
      let at = begins (Puts j start.seen) (Puts j start.seen) honest clock (λ c now. let same = begun.found.durable c now in (
        way_begins j start.seen.table start.seen.rest left.fits c same.0.0 (same.1 ∙ left.journal),
        (rw same.0.0 left.fits.some.1, ap first_page same.0.0),
      )) (λ c so. so) in
      steps (Puts j start.seen) at (subst (λ n. Steps (Resizes n) start a r) is call) (λ d c so step. way_resizes j start.seen.table start.seen.rest left.fits d c so step) (λ c so. so)

  pub another_put : {a b : PlaceFacts} {A : Type 0} {r : Result A Failed} (i : ℕ) (x : Change) → slice_get j.changes i ≡ Some x → At (Puts j start.seen) (Puts j start.seen) start a
      → Steps (TearsPage x.number) a b r → At (Puts j start.seen) (Puts j start.seen) start b
  another_put i x is at call =
      let which = among j begun.found.left.others i x is in
      steps (Puts j start.seen) at call
      (λ d c so torn. way_puts j start.seen.table start.seen.rest begun.found.left.fits d c x.number which.0 (touched j.changes i x is) so torn) (λ c so. so)

-- all pages but the first are put, after the first was marked
module _ (j : Journal) {start mid : PlaceFacts} (is_marked : IsMarked j start mid) (fits : Fits j start.seen.table start.seen.rest) (front : HasFront j start.seen.table) where
  same_made : applied j mid.seen.table ≡ applied j start.seen.table
  same_made = (way_fits j start.seen.table start.seen.rest fits mid.seen front is_marked.way).1

  pub puts_recover : (c : Image) → Puts j mid.seen c → Recovers j start.seen c
  puts_recover c (way, keeps) =
      let begun = is_marked.begun in (
        subst (λ pages. Stands c pages 0) same_made (way_stands j mid.seen.table mid.seen.rest begun.found.left.fits c begun.front way),
        λ first alone. inr (inl (keeps.1 ∙ is_marked.mark)),
      )

  pub others_put : {a : PlaceFacts} → IsHonest a → LeavesOnly (Recovers j start.seen) start mid → LeavesOnly (Puts j mid.seen) mid a → (LeavesNow (Puts j mid.seen) a)
      → At (Recovers j start.seen) (Puts j mid.seen) start a
  others_put honest one two now = record { honest = honest; run = joined one two (λ c so. so) puts_recover; now_is = now }

  pub others_last : {a b : PlaceFacts} → At (Recovers j start.seen) (Puts j mid.seen) start b → IsClock b → a.seen ≡ with_others j mid.seen → Lasts SameTable a b → IsCompleted j start b
  others_last {b = b} at now put done =
      let seen : b.seen ≡ with_others j mid.seen = done.seen ∙ put in
      let here = at.now_is b.seen now.seen_may_stay in
      let left = is_marked.begun.found.left in
      let made : b.seen.table ≡ put_all j.changes (resized j.count mid.seen.table) = ap (λ (i : Image). i.table) seen in
      let whole : b.seen.rest ≡ 0 = ap (λ (i : Image). i.rest) seen in
      record {
        completed = record {
          found = record {
            durable = λ c stays. let same = done.durable c stays in (
              (same.0 ∙ ap (λ (i : Image). i.table) (sym done.seen), same.1 ∙ ap (λ (i : Image). i.rest) (sym done.seen)),
              (at.now_is c stays).0.journal ∙ sym here.0.journal,
            );
            left = record {
              journal = here.0.journal;
              fits = subst (Fits j b.seen.table) (sym whole) (subst (λ t. Fits j t 0) (sym made) (put_fits j mid.seen.table mid.seen.rest left.fits));
              others = left.others;
            };
          };
          back = subst (HasBack j) (sym made) (put_back j mid.seen.table);
          whole = whole;
        };
        same = ap (applied j) made ∙ put_same j mid.seen.table left.fits.complete ∙ same_made;
      }

-- what recovers from all pages but the first recovers from what they were made of
pub recovers_on : (j : Journal) (start mid c : Image) → applied j mid.table ≡ applied j start.table → HasBack j mid.table → mid.rest ≡ 0 → Recovers j mid c → Recovers j start c
recovers_on j start mid c same back whole (stands, alone) = (
  subst (λ pages. Stands c pages 0) same stands,
  λ first was. alone first (inr (inr (back, whole))),
)

-- before the first step
pub found_begins : (j : Journal) {start a : PlaceFacts} {A : Type 0} {r : Result A Failed} → IsFound j start → IsHonest start → IsClock start → Steps Stays start a r
    → LeavesOnly (Recovers j start.seen) start a
found_begins j {start = start} found honest clock read =
    let so : (c : Image) → IsSame start.seen c → Recovers j start.seen c = λ c same. found_recovers j start.seen c found.left.fits (same.1 ∙ found.left.journal) same.0 in
    (stays (begins (Recovers j start.seen) (IsSame start.seen) honest clock found.durable so) read so).run

-- the first page is put, and the journal goes
module _ (j : Journal) {start : PlaceFacts} (completed : HasCompleted j start) (honest : IsHonest start) (clock : IsClock start) where
  abbrev pub HeadPut : Image → Type 0
  HeadPut c = (c.journal ≡ Some j) × (c.rest ≡ 0) × Recovers j start.seen c

  abbrev pub Gone : Image → Type 0
  Gone c = (c.table ≡ applied j start.seen.table) × (c.rest ≡ 0) × Recovers j start.seen c

  whole_fits : Fits j start.seen.table 0
  whole_fits = subst (Fits j start.seen.table) completed.whole completed.found.left.fits

  pub head_written : {a : PlaceFacts} {A : Type 0} {r : Result A Failed} → Steps (TearsPage 0) start a r → At (Recovers j start.seen) HeadPut start a
  head_written call =
      let beside : (c : Image) → IsSame start.seen c → IsBeside j start.seen.table c = λ c same. (same.0.0, same.0.1 ∙ completed.whole, same.1 ∙ completed.found.left.journal) in
      let at = begins (Recovers j start.seen) (IsSame start.seen) honest clock completed.found.durable (λ c same. settling_begins j start.seen.table whole_fits completed.back start.seen c refl (beside c same)) in
      steps HeadPut at call (λ d c same torn. head_torn j start.seen.table whole_fits completed.back start.seen d c refl (beside d same) torn) (λ c so. so.2)

  pub head_synced : {a b : PlaceFacts} {A B : Type 0} {r : Result A Failed} {s : Result B Failed} → Steps (TearsPage 0) start a r → Steps Stays a b s → At (Recovers j start.seen) HeadPut start b
  head_synced put sync = stays (head_written put) sync (λ c so. so.2)

  pub head_is : (after : Image) → after ≡ with_page 0 j.head start.seen → after.table ≡ applied j start.seen.table
  head_is after written = ap (λ (i : Image). i.table) written ∙ head_put j start.seen.table whole_fits completed.back

  pub journal_removed : {a b e : PlaceFacts} {A B C : Type 0} {r : Result A Failed} {s : Result B Failed} {t : Result C Failed} → Steps (TearsPage 0) start a r → Steps Stays a b s → Steps Removes b e t
      → a.seen ≡ with_page 0 j.head start.seen → Lasts SameTable a b → At (Recovers j start.seen) Gone start e
  journal_removed {a = a} put sync gone written done =
      let at = lasts (SameTable a.seen) (head_synced put sync) done.durable in
      steps Gone at gone (λ d c so goes. journal_goes j start.seen.table whole_fits completed.back start.seen d c refl (so.1.0 ∙ head_is a.seen written, so.0.1, so.0.0) goes) (λ c so. so.2)

  pub settled : (was : Image) {e f : PlaceFacts} → At (Recovers j start.seen) Gone start f → IsClock f → e.seen ≡ with_journal None was → Lasts SameJournal e f → IsCommitted j start f
  settled was {f = f} at now removed done =
      let here = at.now_is f.seen now.seen_may_stay in
      record {
        rest = record {
          durable = λ c left. let so = at.now_is c left in ((so.0 ∙ sym here.0, so.1 ∙ sym here.1), done.durable c left ∙ ap (λ (i : Image). i.journal) (sym done.seen));
          no_journal = ap (λ (i : Image). i.journal) (done.seen ∙ removed);
        };
        table = here.0;
        whole = here.1;
      }
