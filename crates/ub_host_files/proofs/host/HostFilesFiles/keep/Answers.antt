use Rattle.ub_host_files.proofs.HostFacts.{keeps_file, lasting, vacuous}
use Rattle.ub_overlay.specs.Overlay.{pages_of}
use Rattle.ub_host_files.specs.Host.{clock_of_host}
use Rattle.ub_host_files.proofs.host.HostFilesFiles.keep.Goals as goal

pub returns-clause-faults : goal.returns-clause-faults
returns-clause-faults g c = c.keep_at.ensures.faults

pub returns-clause-effect : goal.returns-clause-effect
returns-clause-effect g c = keeps_file c.args.path.now (pages_of c.args.store) c.args.self.now.failures.reads c.args.self.now.failures.tables c.keep_at.new.failures.reads c.keep_at.new.failures.tables c.keep_at.result c.keep_at.ensures.reads c.keep_at.ensures.tables

pub returns-clause-crash : goal.returns-clause-crash
returns-clause-crash g c = λ honest. vacuous honest

pub returns-clause-lasts : goal.returns-clause-lasts
returns-clause-lasts g c = lasting c.args.path.now (pages_of c.args.store) c.args.self.now.failures.reads c.args.self.now.failures.tables clock_of_host c.keep_at.result
