use Rattle.ub_memory_files.specs.Memory.{held_in}
use Rattle.ub_journal.specs.Torn.{torn_facts}
use Rattle.ub_memory_files.proofs.TableFacts.{fault_of, found_torn}
use Rattle.ub_memory_files.proofs.tables.change_at.Goals as goal

pub returns-in-Err-change-clause-torn : goal.returns-in-Err-change-clause-torn
returns-in-Err-change-clause-torn c = λ is.
    found_torn (held_in c.args.entries.now c.args.path.now) (torn_facts c.in-Ok.place).seen c.in-Ok.ensures.seen c.in-Ok.ensures.few
    (c.in-Err-change.ensures.torn (fault_of c.in-Err-change.rejected.fault _ is) c.in-Ok.ensures.honest)
