use Rattle.ub_memory_files.specs.Memory.{held_in}
use Rattle.ub_journal.specs.Torn.{torn_facts}
use Rattle.ub_memory_files.proofs.TableFacts.{fault_of, found_torn}
use Rattle.ub_memory_files.proofs.tables.open_at.Goals as goal

pub returns-in-Err-clause-torn : goal.returns-in-Err-clause-torn
returns-in-Err-clause-torn c = λ is.
    found_torn (held_in c.args.entries.now c.args.path.now) (torn_facts c.in_ok-place.place).seen c.in_ok-place.ensures.seen c.in_ok-place.ensures.few
    (c.in-Err.ensures.torn (fault_of c.in-Err.rejected.fault _ is) c.in_ok-place.ensures.honest)
