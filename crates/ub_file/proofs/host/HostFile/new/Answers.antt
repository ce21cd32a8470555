use Rattle.std.proofs.Common.{sym}
use Rattle.ub_file.proofs.HostFacts.{told_untouched}
use Rattle.ub_file.proofs.host.HostFile.new.Goals as goal

pub invariant_of-result : goal.invariant_of-result
invariant_of-result g c = λ t. told_untouched c.args.length (g.R.RawFile.facts c.args.file) (c.requires.untouched t)
