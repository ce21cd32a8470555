use Rattle.std.proofs.Common.{◌∙◌, sym}
use Rattle.ub_memory_files.proofs.EntryFacts.{held_none, held_place}
use Rattle.ub_memory_files.proofs.entries.file_at.Goals as goal

pub returns-in-Some : goal.returns-in-Some
returns-in-Some c =
    (held_place c.args.entries.now c.args.path.now c.in-Some.place c.index-entries-place.result (sym c.place_of.ensures.place ∙ c.in-Some.is)).1

pub returns-in-None : goal.returns-in-None
returns-in-None c = held_none c.args.entries.now c.args.path.now (sym c.place_of.ensures.place ∙ c.in-None.is)
