use Rattle.std.proofs.Common.{◌∙◌, None, Option, Some, rules, subst, sym}
use Rattle.ub_index.proofs.Common.{Aims, AreChecked, before_of, FindsAfter, GivesAfter, IsSought, Key, option_copied, OutOfRegion, Region}
use Rattle.ub_index.proofs.BehindFacts.{is_later, not_crossed}
use Rattle.ub_index.proofs.FoundFacts.{goal_given}
use Rattle.ub_index.proofs.StepFacts.{refused_after}
use Rattle.ub_index.proofs.index.Index.later_region.Goals as goal

pub returns-in-Some : goal.returns-in-Some
returns-in-Some g c = record {
  given = search rules;
  later = search rules;
  small = search rules;
  found = search rules;
  forgotten = search rules;
  effect =
      refused_after (Option (Key × Region)) (Option Region) (IsSought c.args.self.now c.args.pager.now.store (Aims c.args.goal.now) (option_copied c.args.after)) c.args.self.now
      c.args.pager.now c.region_after.new.pager c.forget.new.self c.in_ok-from.field-0 c.self.inside.root OutOfRegion c.in_ok-from.ensures.effect c.forget.ensures.same
      (λ m page ne held. sym (c.forget.ensures.others m ne) ∙ held) c.forget.ensures.gone
      (λ sure honest.
      let found = subst (λ (o : Option (Key × Region)). FindsAfter c.args.self.now c.args.pager.now.store (Aims c.args.goal.now) (option_copied c.args.after) o) c.in-Some.is (c.in_ok-from.ensures.found sure) in
      absurd (not_crossed c.args.self.now c.args.pager.now.store (Aims c.args.goal.now) (option_copied c.args.after) c.in-Some.from c.in-Some.region found honest
      (before_of c.in-Some.region.first c.in-Some.from (sym c.is_before.ensures ∙ c.if-is_before.true))));
}

pub returns-in-Some-2 : goal.returns-in-Some-2
returns-in-Some-2 g c =
    let given : AreChecked c.args.self.now.last c.args.pager.now → GivesAfter c.args.self.now c.args.pager.now.store (Aims c.args.goal.now) (option_copied c.args.after) (Some c.in-Some.region) = search rules in
    record {
      given = given;
      later = λ sure.
          is_later c.args.self.now c.args.pager.now.store (Aims c.args.goal.now) (option_copied c.args.after) c.in-Some.from c.in-Some.region
          (subst (λ (o : Option (Key × Region)). FindsAfter c.args.self.now c.args.pager.now.store (Aims c.args.goal.now) (option_copied c.args.after) o) c.in-Some.is (c.in_ok-from.ensures.found sure))
          (sym c.is_before.ensures ∙ c.if-is_before.false);
      small = search rules;
      found = λ sure is. goal_given c.args.self.now c.args.pager.now.store is (option_copied c.args.after) c.args.goal.now (Some c.in-Some.region) (given sure);
      forgotten = search rules;
      effect = search rules;
    }

pub returns-in-None : goal.returns-in-None
returns-in-None g c =
    let given : AreChecked c.args.self.now.last c.args.pager.now → GivesAfter c.args.self.now c.args.pager.now.store (Aims c.args.goal.now) (option_copied c.args.after) None = search rules in
    record {
      given = given;
      later = search rules;
      small = search rules;
      found = λ sure is. goal_given c.args.self.now c.args.pager.now.store is (option_copied c.args.after) c.args.goal.now None (given sure);
      forgotten = search rules;
      effect = search rules;
    }
