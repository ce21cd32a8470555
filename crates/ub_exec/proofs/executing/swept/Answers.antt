use Rattle.std.proofs.Common.{◌≢◌, ◌≡◌, ◌∙◌, [], ap, sym}
use Rattle.std.proofs.lemmas.Bool.{MatchBool-at_false, MatchBool-at_true}
use Rattle.ub_exec.proofs.ExecFacts.{swept_where}
use Rattle.ub_query.specs.Shape.{Asked}
use Rattle.ub_exec.proofs.executing.swept.Goals as goal

pub swept_groups-requires : goal.swept_groups-requires
swept_groups-requires g c = c.requires

pub swept_rows-requires : goal.swept_rows-requires
swept_rows-requires g c = c.requires

pub returns-then-is_grouped : goal.returns-then-is_grouped
returns-then-is_grouped g c =
    swept_where (Unit {0}) (c.args.plan.now.asked.group ≢ []) c.args.plan.now c.args.tree.now c.swept_groups.new.tree c.swept_groups.result c.swept_groups.ensures
    (λ any none. MatchBool-at_true _ _ c.if-is_grouped.true c.is_grouped.ensures (ap (λ (q : Asked). q.group) c.query.ensures ∙ none))

pub returns-else-is_grouped : goal.returns-else-is_grouped
returns-else-is_grouped g c =
    swept_where (Unit {0}) (c.args.plan.now.asked.group ≡ []) c.args.plan.now c.args.tree.now c.swept_rows.new.tree c.swept_rows.result c.swept_rows.ensures
    (λ any. sym (ap (λ (q : Asked). q.group) c.query.ensures) ∙ MatchBool-at_false _ _ c.if-is_grouped.false c.is_grouped.ensures)
