use Rattle.std.proofs.Common.{◌<◌, ◌^◌, option_copied, subst, sym}
use Rattle.ub_tree.proofs.Common.{AreGivenNext, is_written, IsGivenAny, Meeting, TreeView}
use Rattle.ub_tree.proofs.CallFacts.{last_small}
use Rattle.ub_tree.proofs.HandedFacts.{are_next, told_given}
use Rattle.ub_tree.proofs.SearchFacts.{sought_refused}
use Rattle.ub_tree.proofs.tree.Tree.hand_next.Goals as goal

pub hand_next-requires-clause-given : goal.hand_next-requires-clause-given
hand_next-requires-clause-given g c sure =
    subst (λ (v : TreeView). IsGivenAny v.inner.index v.store (option_copied c.args.after)) (sym c.self.view_is) (told_given c.args.self.now (option_copied c.args.after) c.requires.told)

pub returns-clause-met : goal.returns-clause-met
returns-clause-met g c =
    let (met, takes, given) = c.in_ok-hand_next.ensures.met in (
      met,
      are_next c.args.boxes.now c.args.self.now (option_copied c.args.after) met
          (subst (λ (v : TreeView). AreGivenNext v.inner.index v.store (Meeting c.args.boxes.now) (option_copied c.args.after) met) c.self.view_is (given c.self.invariant.checked)),
      takes,
    )

pub returns-in_err-hand_next-clause-effect : goal.returns-in_err-hand_next-clause-effect
returns-in_err-hand_next-clause-effect g c =
    let t = c.self.inside in
    let small = subst (λ n. n < 2 ^ 128) (sym c.self.invariant.last_is) (last_small t.schema.dims t.schema.counts.few_dims) in
    rw (← c.self.view_is) (sought_refused t.schema t.index t.count t.next t.rows (is_written t.mark) t.is_failed t.pager c.hand_next.new.pager _ (Unit {0}) c.from_residual.result c.in_err-hand_next.field-0.0 small c.self.invariant.checked
    c.from_residual.ensures.1 c.in_err-hand_next.ensures.effect)
