use Rattle.std.proofs.Common.{rules}
use Rattle.std.proofs.lemmas.Int.{to_z-of_z}
use Rattle.std.specs.Int.{w128}
use Rattle.ub_boxes.proofs.CutFacts.{cut_after}
use Rattle.ub_boxes.proofs.cuts.put_cut_after.Goals as goal

pub returns : goal.returns
returns c =
    let of = rw (to_z-of_z w128 c.args.value (search rules)) at c.saturating_add.ensures in
    let same = to_z-of_z w128 c.saturating_add.result (search rules) in
    let cut = cut_after c.args.schema.now c.args.dim c.args.value c.saturating_add.result (search rules) of in
    rw (← cut) (rw same at c.put_cut.ensures)
