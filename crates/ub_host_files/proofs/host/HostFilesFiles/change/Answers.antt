use Rattle.ub_host_files.proofs.HostFacts.{changes_file, lent, vacuous}
use Rattle.ub_host_files.proofs.host.HostFilesFiles.change.Goals as goal

pub returns-clause-lent : goal.returns-clause-lent
returns-clause-lent g c = lent c.args.self.now.failures.reads c.args.self.now.failures.tables c.args.path.now c.change_at.result c.change_at.ensures.fresh

pub returns-clause-torn : goal.returns-clause-torn
returns-clause-torn g c = λ torn. tt

pub returns-clause-faults : goal.returns-clause-faults
returns-clause-faults g c = c.change_at.ensures.faults

pub returns-clause-effect : goal.returns-clause-effect
returns-clause-effect g c = changes_file c.args.path.now c.args.self.now.failures.reads c.args.self.now.failures.tables c.change_at.new.failures.reads c.change_at.new.failures.tables c.change_at.result c.change_at.ensures.reads c.change_at.ensures.tables

pub returns-clause-crash : goal.returns-clause-crash
returns-clause-crash g c = λ honest. vacuous honest
