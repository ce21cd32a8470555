use Rattle.ub_script.proofs.ExportFacts.{exports_are_loaded}
use Rattle.ub_script.proofs.law.exports_are_loaded.Goals as goal

pub returns : goal.returns
returns c = exports_are_loaded
