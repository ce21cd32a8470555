use Rattle.ub_table.proofs.MaskFacts.{few}
use Rattle.ub_table.proofs.schema.Schema.signed.Goals as goal

pub returns-clause-few : goal.returns-clause-few
returns-clause-few c = few c.args.self.now.dims c.args.self.now.signed c.args.self.now.counts.few_dims c.args.self.now.mask
