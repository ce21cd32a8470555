use Rattle.std.proofs.Common.{arith, ◌≡◌, ◌<◌, ◌*◌, List, Some, slice_get, take, drop, length, ap, sym, subst, ◌∙◌}
use Rattle.ub_answer.proofs.CutFacts.{length-cut, piece-within, piece-at}
use Rattle.ub_query.specs.declared.cell.Cell.{Cell}
use Rattle.ub_answer.proofs.cells.Cells.row.Goals as goal

pub overflow_mul-index : goal.overflow_mul-index
overflow_mul-index c =
    let count = sym (length-cut c.self.inside.count c.self.inside.width c.self.inside.cells.items) ∙ ap length c.self.view_is in
    let below : c.args.index < c.self.inside.count = let within = c.requires in omega arith in
    let fits = piece-within c.args.index c.self.inside.count c.self.inside.width (length c.self.inside.cells.items) below c.self.invariant in
    let long = ap length c.as_slice-cells.ensures.value in
    let short = c.as_slice-cells.type_inv.0 in
    record { fits = omega arith }

pub piece-requires : goal.piece-requires
piece-requires c =
    let count = sym (length-cut c.self.inside.count c.self.inside.width c.self.inside.cells.items) ∙ ap length c.self.view_is in
    let below : c.args.index < c.self.inside.count = let within = c.requires in omega arith in
    let fits = piece-within c.args.index c.self.inside.count c.self.inside.width (length c.self.inside.cells.items) below c.self.invariant in
    let long = ap length c.as_slice-cells.ensures.value in
    omega arith

pub returns : goal.returns
returns c =
    let count = sym (length-cut c.self.inside.count c.self.inside.width c.self.inside.cells.items) ∙ ap length c.self.view_is in
    let below : c.args.index < c.self.inside.count = let within = c.requires in omega arith in
    subst (λ (rows : List (List Cell)). slice_get rows c.args.index ≡ Some c.piece.result.now) c.self.view_is
    (piece-at c.args.index c.self.inside.count c.self.inside.width c.self.inside.cells.items c.piece.result.now below c.self.invariant
    (c.piece.ensures ∙ ap (λ (xs : List Cell). take c.self.inside.width (drop (c.args.index * c.self.inside.width) xs)) c.as_slice-cells.ensures.value))
