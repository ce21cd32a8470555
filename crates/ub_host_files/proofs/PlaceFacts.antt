-- Of a place of the system nothing is told but how many pages and bytes it has, and how many calls failed: so what calls say of it
-- follows from that count.
use Rattle.std.proofs.Common.{◌≡◌, ℕ, refl}
use Rattle.std.specs.Prelude.{Option, Some, None, Result, Ok, Err, IfOk, IfSome, IsTrue, OnOk}
use Rattle.ub_host_files.proofs.HostFacts.{vacuous}
use Rattle.ub_host_files.specs.Host.{facts_of_place, is_honest_host}
use Rattle.ub_journal.specs.Image.{Image}
use Rattle.ub_journal.specs.Place.{Steps, counted}
use Rattle.ub_journal.specs.declared.place.Failed.{Failed}

-- nothing is to be shown of an honest place
pub void_on_ok : {A E : Type 0} (P : Type 0) (result : Result A E) → OnOk result (IsTrue is_honest_host → P)
void_on_ok P (Ok done) = λ honest. vacuous honest
void_on_ok P (Err fault) = tt

pub void_if_ok : {A E : Type 0} (P : A → Type 0) (result : Result A E) → IfOk result (λ found. IsTrue is_honest_host → P found)
void_if_ok P (Ok found) = λ honest. vacuous honest
void_if_ok P (Err fault) = tt

pub none_found : {A E : Type 0} (P : A → Type 0) (result : Result (Option A) E) → IfOk result (λ found. found ≡ None) → IfOk result (λ found. IfSome found P)
none_found P (Ok None) is = tt
none_found P (Ok (Some found)) is = absurd (cc is)
none_found P (Err fault) is = tt

pub steps : {A : Type 0} (step : Image → Image → Type 0) (pages rest failures new_pages new_rest new_failures : ℕ) (result : Result A Failed)
    → new_failures ≡ counted result failures
    → Steps step (facts_of_place pages rest failures) (facts_of_place new_pages new_rest new_failures) result
steps step pages rest failures new_pages new_rest new_failures result e = record {
  counts = record { honest = refl; failures = e };
  leaves = λ honest. vacuous honest;
  time = λ honest. vacuous honest;
}
