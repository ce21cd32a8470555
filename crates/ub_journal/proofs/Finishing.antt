-- What a place that was only read still is, and how failures of calls one after the other are counted.
use Rattle.std.proofs.Common.{◌≡◌, ◌∙◌, ℕ, Ok, Err, Result, IsTrue, ap, subst, sym}
use Rattle.std.proofs.lemmas.Bool.{false≢true}
use Rattle.std.specs.Result.{IsErr}
use Rattle.ub_store.specs.Facts.{raised}
use Rattle.ub_journal.specs.Crash.{Stays}
use Rattle.ub_journal.specs.Image.{Fits, Image, Journal}
use Rattle.ub_journal.specs.Place.{Counts, IsFound, IsHonest, IsSame, PlaceFacts, Steps, counted}
use Rattle.ub_journal.specs.declared.place.Failed.{Failed}

-- a place that is honest after a call was so before it
pub was_so : {a b : PlaceFacts} {A : Type 0} {result : Result A Failed} → Counts a b result → IsHonest b → IsHonest a
was_so counts honest = subst IsTrue counts.honest honest

-- a journal that is found still is, once the place was read
pub found_stays : (j : Journal) {start a : PlaceFacts} {A : Type 0} {r : Result A Failed} → IsFound j start → IsHonest start → Steps Stays start a r
    → a.seen ≡ start.seen → IsFound j a
found_stays j {start = start} found honest read seen = record {
  durable = λ c left.
      let from = read.leaves honest c left in
      subst (λ i. IsSame i c) (sym seen) (subst (IsSame start.seen) from.2 (found.durable from.0 from.1));
  left = record {
    journal = ap (λ (i : Image). i.journal) seen ∙ found.left.journal;
    fits = subst (λ (i : Image). Fits j i.table i.rest) (sym seen) found.left.fits;
    others = found.left.others;
  };
}

-- a call that failed in nothing, and another one after it
pub both_count : {A B : Type 0} {a b c : PlaceFacts} {x : A} {r : Result B Failed} → Counts {A = A} a b (Ok x) → Counts {A = B} b c r → Counts {A = B} a c r
both_count {r = r} one two = record { honest = two.honest ∙ one.honest; failures = two.failures ∙ ap (counted r) one.failures }

-- and one after it that failed
pub both_fail : {A B C : Type 0} {a b c : PlaceFacts} {x : A} {f : Failed} {r : Result C Failed} → Counts {A = A} a b (Ok x) → Counts {A = B} b c (Err f) → IsErr r
    → Counts {A = C} a c r
both_fail {r = Err g} one two is = record { honest = two.honest ∙ one.honest; failures = two.failures ∙ ap (λ (n : ℕ). raised n 1) one.failures }
both_fail {r = Ok y} one two is = absurd (false≢true is)
