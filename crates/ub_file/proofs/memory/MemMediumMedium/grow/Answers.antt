-- A page of zeros is added; a failed growth adds none, and may leave a part of one.
use Rattle.std.proofs.Common.{length, ap, ◌∙◌, arith}
use Rattle.ub_file.specs.Memory.{MemView}
use Rattle.ub_file.proofs.MemoryFacts.{grown, no_room, not_grown}
use Rattle.ub_file.proofs.memory.MemMediumMedium.grow.Goals as goal

pub invariant_of-self : goal.invariant_of-self
invariant_of-self c = (c.self.invariant.0, omega arith)

pub returns-then-is_due-clause-effect : goal.returns-then-is_due-clause-effect
returns-then-is_due-clause-effect c =
    not_grown c.args.self.now _ c.failed_write.new.self c.failed_write.result (c.self.view_is ∙ c.is_due.ensures.counted)
    c.failed_write.ensures.counted c.failed_write.ensures.fault

pub invariant_of-self-in-Ok : goal.invariant_of-self-in-Ok
invariant_of-self-in-Ok c =
    let same = ap (λ (v : MemView). length v.pages) (c.self-2.view_is ∙ c.is_due.ensures.counted) in
    let room = c.requires.room in
    let added = c.in-Ok.ensures.len in
    (omega arith, omega arith)

pub invariant_of-self-in-Err : goal.invariant_of-self-in-Err
invariant_of-self-in-Err c = (rw c.in-Err.ensures.items c.self-2.invariant.0, c.self-2.invariant.1)

pub returns-in-Ok-clause-effect : goal.returns-in-Ok-clause-effect
returns-in-Ok-clause-effect c = grown c.args.self.now _ c.push.new.self.items (c.self-2.view_is ∙ c.is_due.ensures.counted) c.in-Ok.ensures.items

pub returns-in-Err-clause-effect : goal.returns-in-Err-clause-effect
returns-in-Err-clause-effect c = no_room c.args.self.now _ c.push.new.self.items (c.self-2.view_is ∙ c.is_due.ensures.counted) c.in-Err.ensures.items
