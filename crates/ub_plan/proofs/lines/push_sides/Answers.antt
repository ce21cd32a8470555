use Rattle.std.proofs.Common.{◌≡◌, ◌++◌, List, ℕ, codes, length, refl, subst, arith}
use Rattle.std.proofs.lemmas.Option.{slice_get_read}
use Rattle.std.specs.List.{join_by}
use Rattle.ub_plan.proofs.LineFacts.{side_next, sides_all}
use Rattle.ub_plan.proofs.lines.push_sides.Goals as goal

pub loop-dim-preserved : goal.loop-dim-preserved
loop-dim-preserved c =
    let before = c.loop-dim-test.true in
    let names = c.columns-names.ensures.columns in
    let first = rw names at c.min.ensures in
    let both = c.min-dims.ensures in
    side_next c.args.schema.now _ _ _ _ c.args.schema.now.columns c.args.lo.now c.args.hi.now c.loop-dim.dim _ _ c.loop-dim.invariant c.in_ok-push_gap.ensures c.in_ok-push_side.ensures refl
    (slice_get_read c.args.schema.now.columns (length c.args.schema.now.columns) c.loop-dim.dim _ refl (omega arith) (rw names at c.index-names-dim.is)) (omega arith) (omega arith)

pub returns : goal.returns
returns c =
    let after = c.loop-dim-test.false in
    let names = c.columns-names.ensures.columns in
    let first = rw names at c.min.ensures in
    let both = c.min-dims.ensures in
    subst (λ (t : List (List ℕ)). c.loop-dim.text.items ≡ c.args.text.now.items ++ join_by (λ side. side) (codes ", ") t)
    (sides_all c.args.schema.now 0 c.args.schema.now.columns c.args.lo.now c.args.hi.now c.loop-dim.dim (omega arith)) c.loop-dim.invariant
