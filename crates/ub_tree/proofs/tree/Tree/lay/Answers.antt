use Rattle.ub_tree.proofs.LaidFacts.{laid_not, laid_parts, laid_tree}
use Rattle.ub_tree.proofs.tree.Tree.lay.Goals as goal

pub over-requires : goal.over-requires
over-requires g c = laid_parts c.args.begun c.args.next c.args.grown.now c.in-Ok.head c.in-Ok.index c.in-Ok.pager c.requires c.in-Ok.ensures.laid

pub returns-in-Ok : goal.returns-in-Ok
returns-in-Ok g c =
    let made = laid_tree c.args.begun c.args.next c.args.grown.now c.in-Ok.head c.in-Ok.index c.in-Ok.pager c.requires c.in-Ok.ensures.laid in
    rw c.over.ensures (record { laid = made; unopened = λ _. tt; refused = tt; same = tt; counts = tt })

pub returns-in-Err : goal.returns-in-Err
returns-in-Err g c =
    rw c.from.ensures (laid_not g.S.PageStore.facts c.args.begun c.args.next c.args.grown.now c.in-Err.refused.store c.in-Err.refused.fault c.in-Err.ensures)
