-- Where all pages but the first stand, a crash leaves what stands for the new table, whatever the first page is.
use Rattle.std.proofs.Common.{◌≡◌, ◌≢◌, ◌∙◌, ℕ, List, Some, length, slice_get, slice_set, inl, inr, ap, arith, refl, sym, subst, length-set}
use Rattle.std.proofs.lemmas.Bool.{cases_eq, cases_lt}
use Rattle.std.proofs.lemmas.Option.{slice_get_past}
use Rattle.ub_journal.specs.Image.{Image, Journal, Fits, HasBack, Recovers, applied, put_all, resized}
use Rattle.ub_journal.specs.Crash.{Removes, TearsPage}
use Rattle.ub_journal.proofs.Applied.{applied_agree, complete_too, length_put_all, length_sized}
use Rattle.ub_journal.specs.inner.TornClock.{get_set_other}
use Rattle.ub_journal.proofs.Lists.{get_set_same, same_all}
use Rattle.ub_journal.proofs.Way.{stands_by}

-- a journal stands beside these pages, with no bytes after them
abbrev pub IsBeside : Journal → List (List ℕ) → Image → Type 0
IsBeside j t c = (c.table ≡ t) × (c.rest ≡ 0) × (c.journal ≡ Some j)

module _ (j : Journal) (old : List (List ℕ)) (fits : Fits j old 0) (back : HasBack j old) where
  -- pages that are these but for the first
  module _ (t : List (List ℕ)) (count : length t ≡ j.count) (same : (n : ℕ) → n ≢ 0 → slice_get t n ≡ slice_get old n) where
    pub but_first : applied j t ≡ applied j old
    but_first = applied_agree j t old fits.complete (λ n less ne left. same n ne)

    pub but_first_back : HasBack j t
    but_first_back = (count, λ n ne. same n ne ∙ back.1 n ne ∙ ap (λ (l : List (List ℕ)). slice_get l n) (sym but_first))

    pub but_first_fits : Fits j t 0
    but_first_fits = record {
      some = (fits.some.0, omega (arith, count, fits.some.0));
      complete = complete_too j t old fits.complete (λ n less ne left. same n ne);
      stands = inr (but_first_back, refl);
    }

  -- with the journal beside them
  but_first_recovers : (seen c : Image) → seen.table ≡ old → (count : length c.table ≡ j.count) → (same : (n : ℕ) → n ≢ 0 → slice_get c.table n ≡ slice_get old n)
      → c.rest ≡ 0 → c.journal ≡ Some j → Recovers j seen c
  but_first_recovers seen c was count same rest is = (
    stands_by j c (applied j seen.table) is (subst (Fits j c.table) (sym rest) (but_first_fits c.table count same)) (but_first c.table count same ∙ ap (applied j) (sym was)),
    λ first alone. inr (inr (but_first_back c.table count same, rest)),
  )

  -- before the first step
  pub settling_begins : (seen c : Image) → seen.table ≡ old → IsBeside j old c → Recovers j seen c
  settling_begins seen c was (table, rest, is) = but_first_recovers seen c was (ap length table ∙ back.0) (λ n ne. ap (λ (l : List (List ℕ)). slice_get l n) table) rest is

  -- the first page, and where it is torn
  pub head_torn : (seen d c : Image) → seen.table ≡ old → IsBeside j old d → TearsPage 0 d c → (c.journal ≡ Some j) × (c.rest ≡ 0) × Recovers j seen c
  head_torn seen d c was (table, rest, is) torn =
      let size : length d.table ≡ j.count = ap length table ∙ back.0 in
      let same : (n : ℕ) → n ≢ 0 → slice_get c.table n ≡ slice_get old n = λ n ne. elim (cases_lt n (length d.table)) [
        | inl less ↦ torn.others n ne less ∙ ap (λ (l : List (List ℕ)). slice_get l n) table
        | inr past ↦ slice_get_past c.table n (omega (arith, torn.no_longer, past, torn.no_shorter, size, fits.some.0))
            ∙ sym (slice_get_past old n (rw table at past))
      ] in
      let count : length c.table ≡ j.count = omega (arith, torn.no_shorter, torn.no_longer, back.0, ap length table, fits.some.0) in
      let is_still : c.journal ≡ Some j = ap (λ (i : Image). i.journal) torn.same ∙ is in
      let no_rest : c.rest ≡ 0 = torn.rest (omega (arith, size, fits.some.0)) ∙ rest in
      (is_still, no_rest, but_first_recovers seen c was count same no_rest is_still)

  -- the first page was put
  pub head_put : slice_set old 0 j.head ≡ applied j old
  head_put = same_all (slice_set old 0 j.head) (applied j old) (λ n. elim (cases_eq n 0) [
    | inl zero_is ↦ subst (λ k. slice_get (slice_set old 0 j.head) k ≡ slice_get (applied j old) k) (sym zero_is) first
    | inr ne ↦ get_set_other old 0 n j.head ne ∙ back.1 n ne
  ])
    where
      first : slice_get (slice_set old 0 j.head) 0 ≡ slice_get (applied j old) 0
      first = get_set_same old 0 j.head (omega (arith, fits.some.1)) ∙ sym (get_set_same (put_all j.changes (resized j.count old)) 0 j.head (omega (arith, length_put_all j.changes (resized j.count old), length_sized j.count old, fits.some.0)))

  -- it lasts, and the journal goes
  pub journal_goes : (seen d c : Image) → seen.table ≡ old → IsBeside j (applied j old) d → Removes d c → (c.table ≡ applied j old) × (c.rest ≡ 0) × Recovers j seen c
  journal_goes seen d c was (table, rest, is) goes = elim goes [
    | inl still ↦ rw still (table, rest, but_first_recovers seen d was count same rest is)
    | inr gone ↦ rw gone (table, rest, ((ap (applied j) was ∙ sym table, sym rest), λ first alone. inr (inr (but_first_back d.table count same, rest))))
  ]
    where
      made : d.table ≡ slice_set old 0 j.head
      made = table ∙ sym head_put

      count : length d.table ≡ j.count
      count = ap length made ∙ length-set old 0 j.head ∙ back.0

      same : (n : ℕ) → n ≢ 0 → slice_get d.table n ≡ slice_get old n
      same n ne = ap (λ (l : List (List ℕ)). slice_get l n) made ∙ get_set_other old 0 n j.head ne
