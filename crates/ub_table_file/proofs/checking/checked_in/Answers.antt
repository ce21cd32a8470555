use Rattle.std.proofs.Common.{inl}
use Rattle.ub_table_file.specs.Commands.{IsTreeOf}
use Rattle.ub_table_file.proofs.CheckFacts.{tree_ill, tree_text}
use Rattle.ub_table_file.proofs.checking.checked_in.Goals as goal

pub returns-in-Ok-clause-text : goal.returns-in-Ok-clause-text
returns-in-Ok-clause-text g c =
    let of : IsTreeOf (g.S.PageStore.facts c.args.store) c.in-Ok.tree = record { opened = c.in-Ok.ensures.opened; sound = c.in-Ok.ensures.sound } in
    tree_text (λ text. text.items) (g.S.PageStore.facts c.args.store) c.in-Ok.tree of c.checked_tree-left.result.1 c.checked_tree-left.ensures c.counts_text.result c.counts_text.ensures

pub returns-in-Ok-clause-refused : goal.returns-in-Ok-clause-refused
returns-in-Ok-clause-refused g c =
    let of : IsTreeOf (g.S.PageStore.facts c.args.store) c.in-Ok.tree = record { opened = c.in-Ok.ensures.opened; sound = c.in-Ok.ensures.sound } in
    tree_ill (λ text. text.items) (g.S.PageStore.facts c.args.store) c.in-Ok.tree of c.checked_tree-left.result.1 c.checked_tree-left.ensures c.counts_text.result c.counts_text.ensures

pub checked_tree-left-requires-clause-unchanged : goal.checked_tree-left-requires-clause-unchanged
checked_tree-left-requires-clause-unchanged g c = c.in-Ok.ensures.opened.unchanged

pub checked_tree-left-requires-clause-working : goal.checked_tree-left-requires-clause-working
checked_tree-left-requires-clause-working g c = c.in-Ok.ensures.opened.working

pub returns-in-Err-clause-refused : goal.returns-in-Err-clause-refused
returns-in-Err-clause-refused g c = (inl c.in-Err.ensures.refused, c.in-Err.ensures.sound)
