-- The page is put in its place, or the failure alone is counted.
use Rattle.std.proofs.Common.{length, ap, ◌∙◌, arith}
use Rattle.std.proofs.lemmas.List.{length-set}
use Rattle.ub_file.specs.Memory.{MemView}
use Rattle.ub_file.proofs.MemoryFacts.{written_at, not_written}
use Rattle.ub_file.proofs.memory.MemMediumMedium.write_page.Goals as goal

pub returns-then-is_due-clause-effect : goal.returns-then-is_due-clause-effect
returns-then-is_due-clause-effect c =
    not_written c.args.n c.args.page.now c.args.self.now c.is_due.new.self c.failed_write.new.self c.failed_write.result
    c.is_due.ensures.counted c.failed_write.ensures.counted c.failed_write.ensures.fault

pub returns-then-is_due-clause-rest : goal.returns-then-is_due-clause-rest
returns-then-is_due-clause-rest c = ap (λ (v : MemView). v.rest) c.failed_write.ensures.counted ∙ ap (λ (v : MemView). v.rest) c.is_due.ensures.counted

pub index_mut-requires : goal.index_mut-requires
index_mut-requires c =
    let same = ap (λ (v : MemView). length v.pages) (c.self.view_is ∙ c.is_due.ensures.counted) in
    let there = c.requires.there in
    omega arith

pub invariant_of-self : goal.invariant_of-self
invariant_of-self c = (rw (length-set c.self.inside.pages.items c.args.n c.args.page.now) c.self.invariant.0, c.self.invariant.1)

pub returns-clause-effect : goal.returns-clause-effect
returns-clause-effect c = written_at c.args.n c.args.page.now c.args.self.now _ (c.self.view_is ∙ c.is_due.ensures.counted)

pub returns-clause-rest : goal.returns-clause-rest
returns-clause-rest c = ap (λ (v : MemView). v.rest) (c.self.view_is ∙ c.is_due.ensures.counted)
