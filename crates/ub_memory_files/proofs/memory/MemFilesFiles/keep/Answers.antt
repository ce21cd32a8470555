use Rattle.ub_files.specs.Files.{HasPages}
use Rattle.ub_overlay.specs.Overlay.{pages_of}
use Rattle.ub_memory_files.specs.Memory.{facts_in_memory, held_in, paths_told}
use Rattle.ub_memory_files.proofs.ClockFacts.{either_of, runs_but}
use Rattle.ub_memory_files.proofs.memory.MemFilesFiles.keep.Goals as goal

pub returns-clause-crash : goal.returns-clause-crash
returns-clause-crash c =
    let files = c.args.self.now in
    let new = c.keep_at-kept.new.entries.items in
    runs_but (facts_in_memory files.entries.items files.reads files.tables (paths_told files.readings)) c.args.path.now
    (λ held. HasPages held (pages_of c.args.store)) files.entries.items new c.keep_at-kept.ensures.others
    (either_of (λ held. HasPages held (pages_of c.args.store)) c.keep_at-kept.result (held_in new c.args.path.now)
    (held_in files.entries.items c.args.path.now) tt c.keep_at-kept.ensures.kept c.keep_at-kept.ensures.either)
