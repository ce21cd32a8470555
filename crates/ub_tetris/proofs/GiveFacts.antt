-- The rows of a value after the first of them was given, as whole answers of a step.
use Rattle.std.proofs.Common.{◌≡◌, List, Option, Some, None, Result, Ok, Err, refl, subst, sym}
use Rattle.std.specs.Result.{IsErrAnd}
use Rattle.ub_planning.specs.Plan.{PlanView}
use Rattle.ub_table.specs.declared.row.Row.{Row}
use Rattle.ub_tetris.proofs.EffectFacts.{swept_as, swept_short, swept_with}
use Rattle.ub_tetris.proofs.StepsFacts.{awaits_still}
use Rattle.ub_tetris.proofs.TurnFacts.{as_err}
use Rattle.ub_tetris.proofs.ValueFacts.{given_broken, never_rests, never_rests_on, rests_still, value_answers, value_step}
use Rattle.ub_tetris.specs.Calls.{GivesRow, GivesValue}
use Rattle.ub_tetris.specs.Effects.{of_read, of_reading}
use Rattle.ub_tetris.specs.Sweep.{SweepView}
use Rattle.ub_tetris.specs.Held.{HeldRow}
use Rattle.ub_tetris.specs.declared.course.Course.{Course}
use Rattle.ub_tetris.specs.inner.Events.{Ahead, ahead_on}
use Rattle.ub_tetris.specs.inner.Kept.{TakesValue}
use Rattle.ub_tree.specs.View.{TreeView}
use Rattle.ub_tree.specs.declared.read_fault.ReadFault.{ReadFault}
use Rattle.ub_tree.specs.declared.read_fault.ReadFault.TheVariants as read

module _ {A : Type 0} (rows : A → List Row) (plan : PlanView) (s : SweepView) (old new : TreeView) where
  -- asking for the first was ended by a fault
  pub first_refused : (mid : SweepView) (r : Result (Option A) ReadFault) (e : ReadFault) → IsErrAnd r (λ f. f ≡ e) → GivesRow plan s mid old new (Err (of_read e)) → GivesValue plan s mid old new (of_reading r) rows
  first_refused mid r e is gives = as_err r e is (λ q. GivesValue plan s mid old new q rows) (record {
    next = λ given rest fetched unread of some. tt;
    broken = gives.broken;
    rests = λ working none empty. never_rests_on (of_read e) s mid old new (gives.rests working none empty);
    answers = tt;
    effect = swept_as plan (of_read e) s mid mid old new gives.effect;
  })

  -- there is none
  pub first_none : (mid : SweepView) (o : Option Row) → o ≡ None → GivesRow plan s mid old new (Ok o) → GivesValue plan s mid old new (Ok None) rows
  first_none mid o none told =
      let gives : GivesRow plan s mid old new (Ok None) = subst (λ (p : Option Row). GivesRow plan s mid old new (Ok p)) none told in
      record {
        next = λ given rest fetched unread of some. gives.next given rest fetched unread of;
        broken = λ given rest fetched unread of. tt;
        rests = λ working none empty. rests_still (Ok None) s mid old new (gives.rests working none empty);
        answers = gives.answers;
        effect = swept_with plan None s mid mid old new (refl, refl, refl) gives.effect None;
      }

  module _ (mid new_s : SweepView) (o : Option Row) (first : Row) (some : o ≡ Some first) (told : GivesRow plan s mid old new (Ok o)) (still : new_s ≡ record mid { held = new_s.held }) where
    gives : GivesRow plan s mid old new (Ok (Some first))
    gives = subst (λ (p : Option Row). GivesRow plan s mid old new (Ok p)) some told

    -- and then memory was refused
    pub others_refused : (r : Result (Option A) ReadFault) → IsErrAnd r (λ f. f ≡ read.Memory) → GivesValue plan s new_s old new (of_reading r) rows
    others_refused r is = as_err r read.Memory is (λ q. GivesValue plan s new_s old new q rows) (record {
      next = λ given rest fetched unread of grouped. tt;
      broken = λ given rest fetched unread of. given_broken plan old new s mid given rest fetched unread first of (gives.next given rest fetched unread of);
      rests = λ working none empty. never_rests (Some first) first s mid old new refl (gives.rests working none empty);
      answers = tt;
      effect = swept_short plan (Some first) s mid new_s old new (awaits_still mid new_s still) gives.effect (Err read.Memory) refl;
    })

    -- or the others were taken
    pub others_taken : (value : A) → TakesValue mid.dim first mid.held new_s.held (rows value) → GivesValue plan s new_s old new (Ok (Some value)) rows
    others_taken value takes = record {
      next = λ given rest fetched unread of grouped. value_step plan new mid new_s given rest fetched unread first (rows value) grouped (gives.next given rest fetched unread of) takes still;
      broken = λ given rest fetched unread of. tt;
      rests = λ working none empty. never_rests (Some first) first s mid old new refl (gives.rests working none empty);
      answers = value_answers plan old s mid new_s first (rows value) takes still gives.answers;
      effect = swept_with plan (Some first) s mid new_s old new (awaits_still mid new_s still) gives.effect (Some value);
    }

-- those of the sweep's own dimension were taken
pub dim_taken : (ahead : Ahead) (course : Course) (first : Row) (held left : List HeldRow) (rows : List Row) → ahead ≡ ahead_on course ahead.stretches → TakesValue course.dim first held left rows
    → TakesValue ahead.dim first held left rows
dim_taken ahead course first held left rows is takes = subst (λ (v : Ahead). TakesValue v.dim first held left rows) (sym is) takes
