use Rattle.std.proofs.Common.{refl}
use Rattle.ub_memory_files.specs.declared.entries.MemFile.TheVariants.{Left}
use Rattle.ub_memory_files.proofs.EntryFacts.{left_all}
use Rattle.ub_memory_files.proofs.tables.leave.Goals as goal

pub returns-then-is_left : goal.returns-then-is_left
returns-then-is_left c =
    left_all c.args.path.now c.args.entries.now c.exchange.new.entries c.exchange.result (Left c.args.place) (c.is_left.ensures c.if-is_left.true) refl c.exchange.ensures
