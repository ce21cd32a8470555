use Rattle.std.proofs.Common.{refl}
use Rattle.ub_memory_files.specs.Memory.{facts_in_memory, paths_told}
use Rattle.ub_memory_files.proofs.ClockFacts.{runs_same}
use Rattle.ub_memory_files.proofs.memory.MemFilesFiles.close_text.Goals as goal

pub returns-clause-crash : goal.returns-clause-crash
returns-clause-crash c =
    let files = c.args.self.now in
    runs_same (facts_in_memory files.entries.items files.reads files.tables (paths_told files.readings)) files.entries.items files.entries.items (λ path ne. refl)
