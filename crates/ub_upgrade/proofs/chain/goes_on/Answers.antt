use Rattle.std.proofs.Common.{◌∙◌, sym}
use Rattle.ub_upgrade.proofs.ReadFacts.{begun_after, begun_first}
use Rattle.ub_upgrade.proofs.chain.goes_on.Goals as goal

pub returns-in-Some : goal.returns-in-Some
returns-in-Some c before begun met =
    begun_after before c.args.entries.now c.in-Some.last _ c.is_before.result begun c.requires.ascending (sym met.last ∙ c.in-Some.is) c.requires.some c.is_before.ensures

pub returns-in-None : goal.returns-in-None
returns-in-None c before begun met =
    begun_first before c.args.entries.now _ c.is_equal.result (sym met.last ∙ c.in-None.is) c.requires.ascending c.requires.some c.is_equal.ensures
