use Rattle.std.proofs.Common.{◌++◌, ◌∷◌, ◌∙◌, [], List, ap}
use Rattle.ub_table.specs.declared.row.Row.{Row}
use Rattle.ub_tetris.proofs.ValueFacts.{AreTakenAt-more, one_fewer}
use Rattle.ub_tetris.proofs.held.HeldRows.take_value.Goals as goal

pub loop-row-smaller : goal.loop-row-smaller
loop-row-smaller c = one_fewer c.args.dim c.coordinate-value.result c.loop-row.self c.take_first_at.new.self c.in-Some.row c.in-Some.ensures

pub loop-row-preserved : goal.loop-row-preserved
loop-row-preserved c =
    let (others, are, taken) = c.loop-row.invariant in (
      others ++ c.in-Some.row ∷ [],
      c.in_ok-push-2.ensures.items ∙ ap (λ (rows : List Row). rows ++ c.in-Some.row ∷ []) are,
      AreTakenAt-more c.args.dim c.coordinate-value.result others c.in-Some.row c.args.self.now c.loop-row.self c.take_first_at.new.self taken c.in-Some.ensures,
    )
