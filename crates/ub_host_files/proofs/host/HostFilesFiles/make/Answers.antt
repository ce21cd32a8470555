use Rattle.ub_host_files.proofs.HostFacts.{lasting, makes_file, vacuous}
use Rattle.ub_host_files.specs.Host.{clock_of_host}
use Rattle.ub_host_files.proofs.host.HostFilesFiles.make.Goals as goal

pub returns-clause-faults : goal.returns-clause-faults
returns-clause-faults g c = c.make_at.ensures.faults

pub returns-clause-effect : goal.returns-clause-effect
returns-clause-effect g c = makes_file c.args.path.now (g.P.Pages.pages c.args.pages.now) c.args.self.now.failures.reads c.args.self.now.failures.tables c.make_at.new.failures.reads c.make_at.new.failures.tables c.make_at.result c.make_at.ensures.reads c.make_at.ensures.tables

pub returns-clause-crash : goal.returns-clause-crash
returns-clause-crash g c = λ honest. vacuous honest

pub returns-clause-lasts : goal.returns-clause-lasts
returns-clause-lasts g c = lasting c.args.path.now (g.P.Pages.pages c.args.pages.now) c.args.self.now.failures.reads c.args.self.now.failures.tables clock_of_host c.make_at.result
