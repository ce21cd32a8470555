use Rattle.std.proofs.Common.{arith}
use Rattle.ub_file.proofs.HostFacts.{host_count}
use Rattle.ub_file.proofs.host.HostFileMedium.length.Goals as goal

pub returns-clause-bytes : goal.returns-clause-bytes
returns-clause-bytes g c =
    rw (← c.self.view_is, host_count (g.R.RawFile.facts c.self.inside.file).honest c.self.inside.length (g.R.RawFile.facts c.self.inside.file).bytes)
    (omega arith)
