use Rattle.ub_memory_files.proofs.EntryFacts.{held_push}
use Rattle.ub_memory_files.proofs.entries.add.Goals as goal

pub returns-clause-put : goal.returns-clause-put
returns-clause-put c = rw c.in_ok-push.ensures.items (held_push c.args.entries.now.items c.args.path.now _ c.requires.free c.in_ok-name.ensures.ok)
