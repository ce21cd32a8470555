use Rattle.ub_host_files.proofs.HostFacts.{reads_file, untold_bytes, vacuous}
use Rattle.ub_host_files.proofs.host.HostFilesFiles.open_text.Goals as goal

pub returns-clause-text : goal.returns-clause-text
returns-clause-text g c = untold_bytes c.told.result

pub returns-clause-faults : goal.returns-clause-faults
returns-clause-faults g c = c.told.ensures.faults

pub returns-clause-effect : goal.returns-clause-effect
returns-clause-effect g c = reads_file c.args.path.now c.args.self.now.failures.reads c.args.self.now.failures.tables c.told.new.failures.reads c.told.new.failures.tables c.told.result c.told.ensures.reads c.told.ensures.tables

pub returns-clause-crash : goal.returns-clause-crash
returns-clause-crash g c = λ honest. vacuous honest
