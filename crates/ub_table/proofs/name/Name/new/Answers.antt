use Rattle.std.proofs.Common.{◌∙◌, sym}
use Rattle.ub_table.proofs.NameFacts.{length-name}
use Rattle.ub_table.proofs.name.Name.new.Goals as goal

pub padded-requires : goal.padded-requires
padded-requires c = length-name c.args.text.now (sym c.is_name.ensures ∙ c.if-not-is_name.false)
