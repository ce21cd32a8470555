use Rattle.ub_region.proofs.RegionFacts.{parts}
use Rattle.ub_region.proofs.region_page.write_region.Goals as goal

pub returns-clause-reads_back : goal.returns-clause-reads_back
returns-clause-reads_back c = (parts c.args.schema.now (record { first = c.args.first; rows = c.args.rows.now }) _ c.requires (rw c.of.ensures at c.write.ensures)).on
