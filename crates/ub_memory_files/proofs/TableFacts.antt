-- Table files in memory: what is told where what is found at one is no store's pages.
use Rattle.std.proofs.Common.{◌≡◌, ◌≤◌, length, Option, Some, None, refl, sym, ◌∙◌, arith, inl, inr}
use Rattle.std.proofs.lemmas.Bool.{cases_Bool, eqb-true}
use Rattle.std.specs.Prelude.{Err, IsErrOf, eqb}
use Rattle.ub_files.specs.Files.{Held, IsTorn}
use Rattle.ub_journal.specs.Image.{Image, Journal}
use Rattle.ub_keeping.specs.Found.{IsUnsized}
use Rattle.ub_memory_files.specs.Tables.{held_beside, IsSeenAs}

beside_torn : (beside : Option Journal) (image : Image) → image.journal ≡ beside → length image.table ≤ 4294967295 → IsUnsized image
    → IsTorn (held_beside beside image.table image.rest)
beside_torn (Some j) image is few unsized = tt
beside_torn None image is few (inl many) = absurd (omega arith)
beside_torn None image is few (inr torn) =
    elim (torn image.table image.rest (inr (λ j seen. (let clash : None ≡ Some j = sym is ∙ seen in cc), refl, refl))) [
      | inl some ↦ elim (cases_Bool (eqb image.rest 0)) [
        | inl t ↦ absurd (some (eqb-true image.rest 0 t))
        | inr n ↦ rw n tt
      ]
      | inr many ↦ absurd (omega arith)
    ]

-- what is found to be no store's pages is told to be that
pub found_torn : (held : Held) (image : Image) → IsSeenAs held image → length image.table ≤ 4294967295 → IsUnsized image → IsTorn held
found_torn held image (inl is) few unsized = rw is tt
found_torn held image (inr is) few unsized = rw is (beside_torn image.journal image refl few unsized)

-- a result that is one fault is no other
pub fault_of : {A E : Type 0} (e f : E) → IsErrOf {T = A} (Err e) f → e ≡ f
fault_of e f is = cc
