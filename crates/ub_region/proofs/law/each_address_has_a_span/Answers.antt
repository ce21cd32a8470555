use Rattle.ub_region.proofs.Laws.{each_address_has_a_span}
use Rattle.ub_region.proofs.law.each_address_has_a_span.Goals as goal

pub returns : goal.returns
returns c = each_address_has_a_span
