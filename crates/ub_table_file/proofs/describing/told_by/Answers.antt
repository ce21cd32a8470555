use Rattle.std.proofs.Common.{inl}
use Rattle.ub_table_file.proofs.DescribeFacts.{never_old, old_refused, old_same, old_told, tree_refused, tree_told}
use Rattle.ub_table_file.proofs.FileFacts.{not_so}
use Rattle.ub_table_file.proofs.describing.told_by.Goals as goal

pub returns-in-Ok-clause-text : goal.returns-in-Ok-clause-text
returns-in-Ok-clause-text g c = tree_told c.told_by_tree.result.1 (λ text. text.items) (g.S.PageStore.facts c.args.store) c.in-Ok.tree c.in-Ok.ensures.opened c.told_by_tree.ensures.text

pub returns-then-is_old_format-clause-text : goal.returns-then-is_old_format-clause-text
returns-then-is_old_format-clause-text g c =
    old_told c.told_by_old.result.1 (λ text. text.items) (g.S.PageStore.facts c.args.store) (g.S.PageStore.facts c.in-Err.refused.store) c.in-Err.refused.fault
    c.in-Err.ensures.kept (c.is_old_format.ensures.0 c.if-is_old_format.true) c.told_by_old.ensures.text

pub told_by_tree-requires-clause-unchanged : goal.told_by_tree-requires-clause-unchanged
told_by_tree-requires-clause-unchanged g c = c.in-Ok.ensures.opened.unchanged

pub told_by_tree-requires-clause-working : goal.told_by_tree-requires-clause-working
told_by_tree-requires-clause-working g c = c.in-Ok.ensures.opened.working

pub returns-in-Ok-clause-refused : goal.returns-in-Ok-clause-refused
returns-in-Ok-clause-refused g c =
    tree_refused c.told_by_tree.result.1 (g.S.PageStore.facts c.args.store) c.told_by_tree.ensures.refused

pub returns-then-is_old_format-clause-refused : goal.returns-then-is_old_format-clause-refused
returns-then-is_old_format-clause-refused g c =
    let is = c.is_old_format.ensures.0 c.if-is_old_format.true in
    let same = old_same (g.S.PageStore.facts c.args.store) (g.S.PageStore.facts c.in-Err.refused.store) c.in-Err.refused.fault c.in-Err.ensures.kept is in
    old_refused c.told_by_old.result.1 (g.S.PageStore.facts c.args.store) (g.S.PageStore.facts c.in-Err.refused.store) c.in-Err.refused.fault same is c.in-Err.ensures.refused
    (λ header honest rooted. never_old c.in-Err.refused.fault is (c.in-Err.ensures.exact header honest rooted)) c.told_by_old.ensures.refused

pub returns-else-is_old_format-clause-refused : goal.returns-else-is_old_format-clause-refused
returns-else-is_old_format-clause-refused g c = (
  inl (not_so c.is_old_format.result _ c.is_old_format.ensures.1 c.if-is_old_format.false, c.in-Err.ensures.refused),
  λ header honest rooted. c.in-Err.ensures.exact header honest rooted,
)
