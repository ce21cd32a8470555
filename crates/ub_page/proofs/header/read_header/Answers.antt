use Rattle.std.proofs.Common.{rules}
use Rattle.ub_page.proofs.HeaderFacts.{not_refused}
use Rattle.ub_table.specs.declared.fault.PageFault.TheVariants.{OldFormat}
use Rattle.ub_page.proofs.header.read_header.Goals as goal

pub returns-then-contains-clause-exact : goal.returns-then-contains-clause-exact
returns-then-contains-clause-exact c = λ h is clean e. absurd (not_refused h c.args.page.now is clean e OldFormat (search rules))
