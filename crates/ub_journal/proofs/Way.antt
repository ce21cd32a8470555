-- While all pages but the first are put, a crash leaves what stands for the new table.
use Rattle.std.proofs.Common.{◌≡◌, ◌≢◌, ◌≤◌, ◌<◌, ◌∷◌, [], ◌∙◌, ℕ, List, Some, length, slice_get, slice_set, get_or, inl, ap, arith, refl, sym, subst, set-set, get_or-set_same}
use Rattle.std.proofs.lemmas.Option.{slice_get_within, slice_get-get_or, unwrap_or-slice_get}
use Rattle.std.specs.Option.{unwrap_or}
use Rattle.ub_store.specs.Facts.{zero_page}
use Rattle.ub_journal.specs.Image.{Image, Journal, Fits, HasFront, IsUntouched, Stands, StandsFor, applied, first_page}
use Rattle.ub_journal.specs.Crash.{Resizes, TearsMark, TearsPage}
use Rattle.ub_journal.specs.inner.Way.{IsOnTheWay, KeepsFirst, Puts}
use Rattle.ub_journal.proofs.Applied.{applied_agree, complete_too}
use Rattle.ub_journal.specs.inner.TornClock.{get_set_other}

-- a journal that fits stands for what it makes of the table
pub stands_by : (j : Journal) (c : Image) (pages : List (List ℕ)) → c.journal ≡ Some j → Fits j c.table c.rest → applied j c.table ≡ pages → Stands c pages 0
stands_by j c pages is fits same = subst (λ o. StandsFor c.table c.rest o pages 0) (sym is) (fits, sym same, refl)

first_kept : (d c : Image) → 1 ≤ length d.table → slice_get c.table 0 ≡ slice_get d.table 0 → (1 ≤ length c.table) × (first_page c.table ≡ first_page d.table)
first_kept d c some same = (
  (let within : 0 < length c.table = slice_get_within c.table 0 _ (same ∙ slice_get-get_or d.table 0 [] (omega arith)) in omega arith),
  sym (unwrap_or-slice_get c.table 0 zero_page) ∙ ap (λ o. unwrap_or o zero_page) same ∙ unwrap_or-slice_get d.table 0 zero_page,
)

-- the first page stays where another one is put, or torn
first_put : (old : List (List ℕ)) (d c : Image) (number : ℕ) → number ≢ 0 → KeepsFirst old d.table → TearsPage number d c → KeepsFirst old c.table
first_put old d c number apart first torn =
    let kept = first_kept d c first.0 (torn.others 0 (λ e. apart (sym e)) (omega (arith, first.0))) in
    (kept.0, kept.1 ∙ first.1)

first_resized : (old : List (List ℕ)) (count : ℕ) (d c : Image) → 1 ≤ count → KeepsFirst old d.table → Resizes count d c → KeepsFirst old c.table
first_resized old count d c some first step =
    let kept = first_kept d c first.0 (step.kept 0 (omega (arith, some)) (omega (arith, first.0))) in
    (kept.0, kept.1 ∙ first.1)

module _ (j : Journal) (old : List (List ℕ)) (rest : ℕ) (fits : Fits j old rest) where
  -- what is so stands for the new table
  pub way_fits : (c : Image) → HasFront j old → IsOnTheWay j old c → Fits j c.table c.rest × (applied j c.table ≡ applied j old)
  way_fits c front way = (
    record {
      some = (fits.some.0, way.some);
      complete = complete_too j c.table old fits.complete way.kept;
      stands = inl (way.front ∙ front);
    },
    applied_agree j c.table old fits.complete way.kept,
  )

  pub way_stands : (c : Image) → HasFront j old → IsOnTheWay j old c → Stands c (applied j old) 0
  way_stands c front way = let all = way_fits c front way in stands_by j c (applied j old) way.journal all.0 all.1

  pub way_front : (c : Image) → HasFront j old → IsOnTheWay j old c → HasFront j c.table
  way_front c front way = way.front ∙ front

  -- before the first step
  pub way_begins : (c : Image) → c.table ≡ old → c.journal ≡ Some j → IsOnTheWay j old c
  way_begins c table is = record {
    journal = is;
    some = rw table fits.some.1;
    front = rw table refl;
    kept = λ n less ne left. ap (λ (l : List (List ℕ)). slice_get l n) table;
  }

  -- the mark, and where it is torn
  pub way_marks : (d c : Image) → IsOnTheWay j old d → TearsMark d c → IsOnTheWay j old c
  way_marks d c way torn = record {
    journal = ap (λ (i : Image). i.journal) torn.same ∙ way.journal;
    some = rw (torn.table, length_set_list d.table) way.some;
    front = rw (torn.table) (ap (λ (p : List ℕ). slice_set p 5 0) (get_or-set_same d.table 0 _ zero_page way.some) ∙ set-set (first_page d.table) 5 torn.byte 0 ∙ way.front);
    kept = λ n less ne left. ap (λ (l : List (List ℕ)). slice_get l n) torn.table ∙ get_set_other d.table 0 n _ ne ∙ way.kept n less ne left;
  }
    where
      length_set_list : (t : List (List ℕ)) → length (slice_set t 0 (slice_set (get_or t 0 zero_page) 5 torn.byte)) ≡ length t
      length_set_list [] = refl
      length_set_list (p ∷ t) = refl

  -- another length
  pub way_resizes : (d c : Image) → Puts j (record d { table = old }) d → Resizes j.count d c → Puts j (record d { table = old }) c
  way_resizes d c (way, keeps) step =
      let first = first_kept d c way.some (step.kept 0 (omega (arith, fits.some.0)) (omega (arith, way.some))) in (
        record {
          journal = ap (λ (i : Image). i.journal) step.same ∙ way.journal;
          some = first.0;
          front = rw first.1 way.front;
          kept = λ n less ne left.
              let within : n < length d.table = complete_too j d.table old fits.complete way.kept n less ne left in
              step.kept n less within ∙ way.kept n less ne left;
        },
        first_resized old j.count d c fits.some.0 keeps step,
      )

  -- a page of the journal's
  pub way_puts : (d c : Image) (number : ℕ) → number ≢ 0 → ¬ (IsUntouched j.changes number) → Puts j (record d { table = old }) d → TearsPage number d c → Puts j (record d { table = old }) c
  way_puts d c number apart touched (way, keeps) torn =
      let first = first_kept d c way.some (torn.others 0 (λ e. apart (sym e)) (omega (arith, way.some))) in (
        record {
          journal = ap (λ (i : Image). i.journal) torn.same ∙ way.journal;
          some = first.0;
          front = rw first.1 way.front;
          kept = λ n less ne left.
              let within : n < length d.table = complete_too j d.table old fits.complete way.kept n less ne left in
              torn.others n (λ e. touched (subst (IsUntouched j.changes) e left)) within ∙ way.kept n less ne left;
        },
        first_put old d c number apart keeps torn,
      )
