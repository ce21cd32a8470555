use Rattle.std.proofs.Common.{◌-◌, ◌∙◌, Err, ap}
use Rattle.ub_tree.proofs.Common.{is_written, StoreFault}
use Rattle.ub_tree.proofs.GrownFacts.{grow_device, grow_memory, grow_size}
use Rattle.ub_tree.proofs.tree.Tree.grow.Goals as goal

pub returns-in-Err-Device : goal.returns-in-Err-Device
returns-in-Err-Device g c =
    let t = c.self.inside in
    rw (c.failing.ensures.failed, c.failing.ensures.fault, ← c.self.view_is) (grow_device t.schema t.index t.count t.next t.rows (is_written t.mark) t.is_failed t.pager c.grow.new.pager (c.args.change.now.next - c.args.change.now.start) c.grow.result
    c.grow.ensures.grows c.grow.ensures.same c.grow.ensures.trace c.grow.ensures.refused (c.in-Err-Device.is ∙ ap (λ (f : StoreFault). Err f) c.in-Err-Device.field-0-is))

pub returns-in-Err-Memory : goal.returns-in-Err-Memory
returns-in-Err-Memory g c =
    let t = c.self.inside in
    rw (← c.self.view_is) (grow_memory t.schema t.index t.count t.next t.rows (is_written t.mark) t.is_failed t.pager c.grow.new.pager (c.args.change.now.next - c.args.change.now.start) c.grow.result
    c.grow.ensures.grows c.grow.ensures.same c.grow.ensures.trace c.grow.ensures.refused (c.in-Err-Memory.is ∙ ap (λ (f : StoreFault). Err f) c.in-Err-Memory.field-0-is))

pub returns-in-Err-BadSize : goal.returns-in-Err-BadSize
returns-in-Err-BadSize g c =
    let t = c.self.inside in
    rw (← c.self.view_is) (grow_size t.schema t.index t.count t.next t.rows (is_written t.mark) t.is_failed t.pager c.grow.new.pager (c.args.change.now.next - c.args.change.now.start) c.grow.result
    c.grow.ensures.grows c.grow.ensures.same c.grow.ensures.trace c.grow.ensures.refused (c.in-Err-BadSize.is ∙ ap (λ (f : StoreFault). Err f) c.in-Err-BadSize.field-0-is))
