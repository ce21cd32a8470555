use Rattle.std.proofs.Common.{◌<◌, ◌^◌, ◌∙◌, IsTrue, Err, ap, subst, sym}
use Rattle.ub_tree.proofs.Common.{fault_of_tree, is_written, TreeView}
use Rattle.ub_tree.proofs.CallFacts.{last_small}
use Rattle.ub_tree.proofs.StretchFacts.{opens_refused}
use Rattle.ub_tree.proofs.tree.Tree.open_stretch.Goals as goal

pub returns-in-Err : goal.returns-in-Err
returns-in-Err g c =
    let t = c.self.inside in
    let small = subst (λ n. n < 2 ^ 128) (sym c.self.invariant.last_is) (last_small t.schema.dims t.schema.counts.few_dims) in
    let works = c.if-has_failed.false in
    let told = c.has_failed.ensures in
    let view = ap (λ (v : TreeView). v.is_failed) c.self.view_is in
    let working : ¬ (IsTrue t.is_failed) = λ failed. cc in
    rw (← c.self.view_is) (opens_refused (g.T.StretchSink.Takes c.args.boxes.now) t.schema t.index t.count t.next t.rows (is_written t.mark) t.is_failed t.pager c.open_stretch.new.pager
    c.args.boxes.now c.args.stretch.now c.args.sink.now c.open_stretch.new.sink working _ (Err c.from-in-Err.result) c.in-Err.fault small c.requires.some
    (c.from-in-Err.ensures ∙ ap fault_of_tree c.from.ensures) c.in-Err.ensures)
