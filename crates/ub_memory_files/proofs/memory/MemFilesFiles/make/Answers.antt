use Rattle.std.proofs.Common.{◌⊎◌}
use Rattle.ub_files.specs.Files.{HasPages, IsEmpty, IsPart}
use Rattle.ub_memory_files.specs.Memory.{facts_in_memory, held_in, paths_told}
use Rattle.ub_memory_files.proofs.ClockFacts.{either_of, or_more, runs_but}
use Rattle.ub_memory_files.proofs.memory.MemFilesFiles.make.Goals as goal

pub returns-clause-crash : goal.returns-clause-crash
returns-clause-crash g c =
    let files = c.args.self.now in
    let new = c.make_at-made.new.entries.items in
    let was = held_in files.entries.items c.args.path.now in
    runs_but (facts_in_memory files.entries.items files.reads files.tables (paths_told files.readings)) c.args.path.now
    (λ held. HasPages held (g.P.Pages.pages c.args.pages.now) ⊎ (IsEmpty was × IsPart held (g.P.Pages.pages c.args.pages.now))) files.entries.items new c.make_at-made.ensures.others
    (or_more (either_of (λ held. HasPages held (g.P.Pages.pages c.args.pages.now)) c.make_at-made.result (held_in new c.args.path.now)
    was tt c.make_at-made.ensures.made c.make_at-made.ensures.either))
