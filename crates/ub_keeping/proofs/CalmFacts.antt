-- A place that is only looked at.
use Rattle.std.proofs.Common.{◌≡◌, IsTrue, Result, inl, inr, subst, sym, arith, ◌≢◌, ◌<◌, ◌∙◌, ℕ, length, refl}
use Rattle.ub_journal.specs.Crash.{Stays}
use Rattle.ub_journal.specs.Image.{Image}
use Rattle.ub_journal.specs.Place.{Elapses, Follows, IsClock, IsHonest, Looks, PlaceFacts, Steps}
use Rattle.ub_journal.specs.declared.fault.JournalFault.{JournalFault}
use Rattle.ub_journal.specs.declared.place.Failed.{Failed}
use Rattle.ub_journal.proofs.Moments.{joined}
use Rattle.ub_keeping.specs.Calm.{IsCalm, IsQuiet}

-- honest as before, an old place is honest where the new one is
pub still : (a b : PlaceFacts) → b.honest ≡ a.honest → IsHonest a → IsHonest b
still a b same honest = subst IsTrue (sym same) honest

-- a call that changes nothing of what a crash may leave
pub quiet_of : {a b : PlaceFacts} → b.honest ≡ a.honest → (IsHonest a → Follows Stays a b) → (IsHonest a → Elapses a b) → (IsHonest a → IsClock a) → IsQuiet a b
quiet_of {a} {b} same follows elapses clock =
    let leaves : IsHonest a → (image : Image) → b.may_leave image → a.may_leave image = λ honest image left.
    let from = follows honest image left in subst a.may_leave from.2 from.1 in
    record {
      honest = same;
      leaves = leaves;
      any_moment = λ honest. let time = elapses honest in record {
        later = time.later;
        each = λ c left. elim (time.nothing_else a.moment c (omega arith) left) [ inl was ↦ (clock honest).only_now c was | inr now ↦ leaves honest c now ];
        before = λ t c le left. elim (time.nothing_else t c le left) [ inl was ↦ inl was | inr now ↦ inr (leaves honest c now) ];
      };
    }

pub quiet_step : {A : Type 0} {a b : PlaceFacts} {result : Result A Failed} → Steps Stays a b result → (IsHonest a → IsClock a) → IsQuiet a b
quiet_step step clock = quiet_of step.counts.honest step.leaves step.time clock

pub calm_step : {A : Type 0} {a b : PlaceFacts} {result : Result A Failed} → Steps Stays a b result → (IsHonest a → b.seen ≡ a.seen) → (IsHonest a → IsClock a) → IsCalm a b
calm_step step seen clock = record { quiet = quiet_step step clock; seen = seen }

pub calm_look : {A : Type 0} {a b : PlaceFacts} {result : Result A JournalFault} → Looks a b result → (IsHonest a → IsClock a) → IsCalm a b
calm_look look clock = record { quiet = quiet_of look.honest look.leaves look.time clock; seen = look.seen }

-- a place that is looked at twice
pub quiet_same : (a : PlaceFacts) → (IsHonest a → IsClock a) → IsQuiet a a
quiet_same a clock = record {
  honest = refl;
  leaves = λ honest image left. left;
  any_moment = λ honest. record { later = omega arith; each = λ c left. (clock honest).only_now c left; before = λ t c le left. inl left };
}

pub quiet_then : (a b c : PlaceFacts) → IsCalm a b → IsQuiet b c → IsQuiet a c
quiet_then a b c one two = record {
  honest = two.honest ∙ one.quiet.honest;
  leaves = λ honest image left. one.quiet.leaves honest image (two.leaves (still a b one.quiet.honest honest) image left);
  any_moment = λ honest. joined (one.quiet.any_moment honest) (two.any_moment (still a b one.quiet.honest honest)) (λ i is. is) (λ i is. one.quiet.leaves honest i is);
}

pub calm_then : (a b c : PlaceFacts) → IsCalm a b → IsCalm b c → IsCalm a c
calm_then a b c one two = record {
  quiet = quiet_then a b c one two.quiet;
  seen = λ honest. two.seen (still a b one.quiet.honest honest) ∙ one.seen honest;
}

-- what was seen before is seen
pub seen_calm : (P : Image → Type 0) (a b : PlaceFacts) → IsCalm a b → (IsHonest a → P a.seen) → IsHonest b → P b.seen
seen_calm P a b calm is honest = let first = subst (λ b. IsTrue b) calm.quiet.honest honest in subst P (sym (calm.seen first)) (is first)

pub pages_calm : (a b : PlaceFacts) (n : ℕ) → IsCalm a b → (IsHonest a → n ≡ length a.seen.table) → IsHonest b → n ≡ length b.seen.table
pages_calm a b n calm = seen_calm (λ i. n ≡ length i.table) a b calm

pub some_calm : (a b : PlaceFacts) (n : ℕ) → IsCalm a b → n ≡ length a.seen.table → n ≢ 0 → IsHonest b → 0 < length b.seen.table
some_calm a b n calm many some = seen_calm (λ i. 0 < length i.table) a b calm (λ honest. omega (arith, many, some))

-- and the other way round
pub told_calm : (P : Image → Type 0) (a b : PlaceFacts) → IsCalm a b → (IsHonest b → P b.seen) → IsHonest a → P a.seen
told_calm P a b calm is honest = subst P (calm.seen honest) (is (still a b calm.quiet.honest honest))
