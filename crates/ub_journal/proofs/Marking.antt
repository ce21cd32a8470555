-- What the file alone is while its first page is marked.
use Rattle.std.proofs.Common.{◌≡◌, ◌≢◌, ◌≤◌, ◌∷◌, [], ◌∙◌, ℕ, List, Some, length, drop, slice_get, slice_set, inl, inr, ap, arith, refl, sym, subst, set-set, get_or-set_same, length-set}
use Rattle.ub_store.specs.Facts.{zero_page}
use Rattle.ub_journal.specs.Image.{Image, Journal, Fits, HasFront, IsAlone, Recovers, applied, first_page, marked}
use Rattle.ub_journal.specs.Crash.{TearsMark}
use Rattle.ub_journal.specs.Place.{SameTable}
use Rattle.ub_journal.specs.inner.TornClock.{get_set_other}
use Rattle.ub_journal.proofs.Settling.{but_first_back}
use Rattle.ub_journal.proofs.Way.{stands_by, way_begins, way_marks, way_stands}

rest : (t : List (List ℕ)) (p : List ℕ) → drop 1 (slice_set t 0 p) ≡ drop 1 t
rest [] p = refl
rest (q ∷ t) p = refl

-- the file alone is what its pages are, and the bytes after them
pub same_alone : (j : Journal) (first seen c : Image) → IsAlone j first seen → SameTable seen c → IsAlone j first c
same_alone j first seen c alone same =
    subst (λ r. IsAlone j first (record c { rest = r })) (sym same.1)
    (subst (λ t. IsAlone j first (record c { table = t; rest = seen.rest })) (sym same.0) alone)

-- the first page, once it is marked
pub first_marked : (j : Journal) (old t : List (List ℕ)) → 1 ≤ length old → HasFront j old → t ≡ slice_set old 0 (marked (first_page old)) → first_page t ≡ marked j.before
first_marked j old t some front is =
    ap (λ (l : List (List ℕ)). first_page l) is ∙ get_or-set_same old 0 (marked (first_page old)) zero_page (omega arith)
    ∙ sym (set-set (first_page old) 5 0 1) ∙ ap (λ (p : List ℕ). slice_set p 5 1) front ∙ set-set j.before 5 0 1

-- the mark is put, or torn, on one that wasn't marked
mark_alone : (j : Journal) (first seen d c : Image) → Fits j seen.table seen.rest → first_page seen.table ≢ marked j.before → IsAlone j first seen → SameTable seen d → TearsMark d c
    → IsAlone j first c
mark_alone j first seen d c fits apart alone same torn = elim alone [
  | inl still ↦ inl (
    ap (λ (l : List (List ℕ)). drop 1 l) is ∙ rest seen.table (slice_set (first_page seen.table) 5 torn.byte) ∙ still.0,
    ap (λ (l : List (List ℕ)). slice_set (first_page l) 5 0) is
        ∙ ap (λ (p : List ℕ). slice_set p 5 0) (get_or-set_same seen.table 0 (slice_set (first_page seen.table) 5 torn.byte) zero_page (omega (arith, fits.some.1)))
        ∙ set-set (first_page seen.table) 5 torn.byte 0 ∙ still.1,
    rest_is ∙ still.2,
  )
  | inr more ↦ elim more [
    | inl marks ↦ absurd (apart marks)
    | inr (back, whole) ↦ inr (inr (
      but_first_back j seen.table (subst (Fits j seen.table) whole fits) back c.table
          (ap length is ∙ length-set seen.table 0 (slice_set (first_page seen.table) 5 torn.byte) ∙ back.0)
          (λ n ne. ap (λ (l : List (List ℕ)). slice_get l n) is ∙ get_set_other seen.table 0 n (slice_set (first_page seen.table) 5 torn.byte) ne),
      rest_is ∙ whole,
    ))
  ]
]
  where
    is : c.table ≡ slice_set seen.table 0 (slice_set (first_page seen.table) 5 torn.byte)
    is = torn.table ∙ ap (λ (l : List (List ℕ)). slice_set l 0 (slice_set (first_page l) 5 torn.byte)) same.0

    rest_is : c.rest ≡ seen.rest
    rest_is = torn.rest (rw same.0 fits.some.1) ∙ same.1

-- where the journal stands beside the table, before the first step
pub found_recovers : (j : Journal) (seen c : Image) → Fits j seen.table seen.rest → c.journal ≡ Some j → SameTable seen c → Recovers j seen c
found_recovers j seen c fits is same = (
  stands_by j c (applied j seen.table) is (subst (Fits j c.table) (sym same.1) (subst (λ t. Fits j t seen.rest) (sym same.0) fits)) (ap (applied j) same.0),
  λ first alone. same_alone j first seen c alone same,
)

-- the mark, on one that wasn't marked
pub mark_torn : (j : Journal) (seen d c : Image) → Fits j seen.table seen.rest → HasFront j seen.table → first_page seen.table ≢ marked j.before → d.journal ≡ Some j → SameTable seen d → TearsMark d c
    → Recovers j seen c
mark_torn j seen d c fits front apart is same torn = (
  way_stands j seen.table seen.rest fits c front (way_marks j seen.table seen.rest fits d c (way_begins j seen.table seen.rest fits d same.0 is) torn),
  λ first alone. mark_alone j first seen d c fits apart alone same torn,
)
