use Rattle.std.proofs.Common.{subst, sym}
use Rattle.ub_index.proofs.Common.{Entry, FallsTo, node_on}
use Rattle.ub_index.proofs.FitFacts.{falls}
use Rattle.ub_index.proofs.descent.place_in.Goals as goal

pub returns-clause-falls : goal.returns-clause-falls
returns-clause-falls c = λ key slot.
    subst (λ (e : Entry). FallsTo key (node_on c.args.page.now).entries c.args.end e c.first_after.result) (sym c.entry_at.ensures)
    (falls c.args.page.now key c.args.end c.first_after.result c.args.count c.args.slot c.requires.count slot c.first_after.ensures)
