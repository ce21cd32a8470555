use Rattle.std.proofs.Common.{◌∙◌, ℕ, Err, Ok, ap, option_copied, subst, sym}
use Rattle.ub_index.proofs.Common.{HandsLeaf, IndexView, Meeting}
use Rattle.ub_index.proofs.AlongFacts.{takes_none}
use Rattle.ub_index.proofs.NextFacts.{handed, handed_none, next_crossed, next_refused}
use Rattle.ub_index.proofs.WalkingFacts.{view_so}
use Rattle.ub_index.proofs.index.Index.hand_next.Goals as goal

pub returns-in_default : goal.returns-in_default
returns-in_default g c =
    handed_none (g.T.RegionSink.Takes c.args.boxes.now) c.args.self.now c.args.boxes.now (option_copied c.args.after) c.args.sink.now c.args.pager.now c.requires.given
    (takes_none (g.T.RegionSink.Takes c.args.boxes.now) c.args.self.now c.args.boxes.now (record { z = 0; number = 0 }) c.args.sink.now) (sym c.start_after.ensures ∙ c.in_default.is)

pub returns-in_err-on : goal.returns-in_err-on
returns-in_err-on g c =
    next_refused (g.T.RegionSink.Takes c.args.boxes.now) c.args.self.now c.args.boxes.now (option_copied c.args.after) c.args.sink.now c.args.pager.now c.requires.given
    c.in-Some.from (sym c.start_after.ensures ∙ c.in-Some.is) c.hand_leaf.new.sink c.hand_leaf.new.pager c.from_residual.result c.in_err-on.field-0.0 c.from_residual.ensures.1
    (subst (λ (v : IndexView). HandsLeaf (g.T.RegionSink.Takes c.args.boxes.now) v (Meeting c.args.boxes.now) c.in-Some.from c.args.sink.now c.hand_leaf.new.sink c.args.pager.now c.hand_leaf.new.pager (Err c.in_err-on.field-0.0))
    (view_so c.args.self.now c.root-root.result c.last-last.result c.root-root.ensures.root c.last-last.ensures) c.in_err-on.ensures)

pub returns-then-ends_before : goal.returns-then-ends_before
returns-then-ends_before g c =
    handed (g.T.RegionSink.Takes c.args.boxes.now) c.args.self.now c.args.boxes.now (option_copied c.args.after) c.args.sink.now c.args.pager.now c.requires.given
    c.in-Some.from (sym c.start_after.ensures ∙ c.in-Some.is) c.hand_leaf.new.sink c.hand_leaf.new.pager c.in_ok-on.on (c.ends_before.ensures.0 c.if-ends_before.true)
    (subst (λ (v : IndexView). HandsLeaf (g.T.RegionSink.Takes c.args.boxes.now) v (Meeting c.args.boxes.now) c.in-Some.from c.args.sink.now c.hand_leaf.new.sink c.args.pager.now c.hand_leaf.new.pager (Ok c.in_ok-on.on))
    (view_so c.args.self.now c.root-root.result c.last-last.result c.root-root.ensures.root c.last-last.ensures) c.in_ok-on.ensures)

pub returns : goal.returns
returns g c =
    next_crossed (g.T.RegionSink.Takes c.args.boxes.now) c.args.self.now c.args.boxes.now (option_copied c.args.after) c.args.sink.now c.args.pager.now c.requires.given
    c.in-Some.from (sym c.start_after.ensures ∙ c.in-Some.is) c.hand_leaf.new.sink c.hand_leaf.new.pager c.forget.new.self c.in_ok-on.on
    (subst (λ (v : IndexView). HandsLeaf (g.T.RegionSink.Takes c.args.boxes.now) v (Meeting c.args.boxes.now) c.in-Some.from c.args.sink.now c.hand_leaf.new.sink c.args.pager.now c.hand_leaf.new.pager (Ok c.in_ok-on.on))
    (view_so c.args.self.now c.root-root.result c.last-last.result c.root-root.ensures.root c.last-last.ensures) c.in_ok-on.ensures)
    (λ near. let yes = c.ends_before.ensures.1 near in let no = c.if-ends_before.false in cc)
    c.forget.ensures.same c.root-root.result.0 (ap (λ (p : ℕ × ℕ). p.0) c.root-root.ensures.root) (λ m page ne held. sym (c.forget.ensures.others m ne) ∙ held) c.forget.ensures.gone
