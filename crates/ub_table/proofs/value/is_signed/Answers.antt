use Rattle.std.proofs.Common.{sym, ◌∙◌}
use Rattle.std.proofs.lemmas.Bool.{le-ltb}
use Rattle.ub_table.proofs.MaskFacts.{none_signed}
use Rattle.ub_table.proofs.value.is_signed.Goals as goal

pub returns-else-dim-lt32 : goal.returns-else-dim-lt32
returns-else-dim-lt32 c =
    le-ltb c.args.dim 32 c.if-dim-lt32.false ∙ sym (none_signed c.args.signed c.args.dim c.ranges.signed.fits c.if-dim-lt32.false)
