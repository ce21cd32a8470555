use Rattle.ub_host_files.proofs.HostFacts.{same_facts, vacuous}
use Rattle.ub_host_files.proofs.host.HostFilesFiles.close_text.Goals as goal

pub returns-clause-faults : goal.returns-clause-faults
returns-clause-faults g c = c.told.ensures.faults

pub returns-clause-effect : goal.returns-clause-effect
returns-clause-effect g c = same_facts c.told.ensures.reads c.told.ensures.tables

pub returns-clause-crash : goal.returns-clause-crash
returns-clause-crash g c = λ honest. vacuous honest
