use Rattle.ub_host_files.proofs.HostFacts.{any_text, reads_file, vacuous}
use Rattle.ub_host_files.proofs.host.HostFilesFiles.read.Goals as goal

pub returns-clause-text : goal.returns-clause-text
returns-clause-text g c = any_text (λ text. text.items) c.args.self.now.failures.reads c.args.self.now.failures.tables c.args.path.now c.take_text.result

pub returns-clause-faults : goal.returns-clause-faults
returns-clause-faults g c = c.take_text.ensures.faults

pub returns-clause-effect : goal.returns-clause-effect
returns-clause-effect g c = reads_file c.args.path.now c.args.self.now.failures.reads c.args.self.now.failures.tables c.take_text.new.failures.reads c.take_text.new.failures.tables c.take_text.result c.take_text.ensures.reads c.take_text.ensures.tables

pub returns-clause-crash : goal.returns-clause-crash
returns-clause-crash g c = λ honest. vacuous honest
