use Rattle.std.proofs.Common.{◌∙◌, subst, sym}
use Rattle.ub_index.proofs.Common.{before_of, IsBefore, Key, precedes_of, true≢false}
use Rattle.ub_index.proofs.AlongFacts.{is_none, none_aimless, none_crossed, none_elsewhere}
use Rattle.ub_index.proofs.walking.next_slot.Goals as goal

pub returns-in_default : goal.returns-in_default
returns-in_default c = none_aimless c.args.boxes.now c.args.last c.args.from.now c.args.leaf.now c.args.page.now c.args.count (c.aim.ensures.none (is_none c.aim.result c.in_default.not-Some))

pub returns-then-not-ends_before : goal.returns-then-not-ends_before
returns-then-not-ends_before c =
    none_elsewhere c.args.boxes.now c.args.last c.args.from.now c.args.leaf.now c.args.page.now c.args.count c.in-Some.key c.in-Some.ensures.found
    (λ near. let yes = c.ends_before.ensures.1 near in let no = c.if-not-ends_before.true in cc)

pub returns-then-is_before : goal.returns-then-is_before
returns-then-is_before c =
    none_crossed c.args.boxes.now c.args.last c.args.from.now c.args.leaf.now c.args.page.now c.args.count c.in-Some.key c.slot_behind-slot.result c.in-Some.ensures.found c.slot_behind-slot.ensures
    (rw c.first_at.ensures at (before_of c.first_at.result c.args.from.now (sym c.is_before.ensures ∙ c.if-is_before.true)))

pub returns-else-is_before : goal.returns-else-is_before
returns-else-is_before c = (
  c.in-Some.key,
  c.in-Some.ensures.found,
  c.ends_before.ensures.0 c.if-not-ends_before.false,
  c.slot_behind-slot.ensures,
  subst (λ (k : Key). ¬ (IsBefore k c.args.from.now)) c.first_at.ensures
      (λ sooner. true≢false (sym (precedes_of c.first_at.result c.args.from.now sooner) ∙ (sym c.is_before.ensures ∙ c.if-is_before.false))),
)
