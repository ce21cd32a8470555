use Rattle.std.proofs.Common.{◌≡◌, ◌∙◌, ◌++◌, ◌∷◌, [], ap, sym, length, get_or, refl, arith, rules}
use Rattle.std.proofs.lemmas.List.{length-append}
use Rattle.std.specs.Option.{option_map_or}
use Rattle.ub_boxes.proofs.GridFacts.{is_ordered}
use Rattle.ub_boxes.proofs.RunFacts.{up_to-grown, up_to-ended, up_to-all, grown-is, is_interval}
use Rattle.ub_boxes.specs.Truths as truth
use Rattle.ub_boxes.proofs.covering.add_runs.Goals as goal
use Rattle.ub_boxes.proofs.covering.add_runs.Goals.{then-covers, else-covers+in_ok-add_run}

pub loop-interval-preserved : goal.loop-interval-preserved
loop-interval-preserved c =
    let i = get_or c.args.side.now c.loop-interval.interval-index (record { low = 0; high = 0 }) in
    let corner : c.lo.result.now ≡ c.args.front.now.lo ++ i.low ∷ [] = c.lo.ensures.lo ∙ ap (λ b. b.lo) c.widened.ensures in
    let test : c.covers.result ≡ truth.covers c.args.schema.now (truth.shape_of c.args.filter) (c.args.front.now.lo ++ i.low ∷ []) =
    c.covers.ensures ∙ ap (truth.covers c.args.schema.now (truth.shape_of c.args.filter)) corner in
    elim c.if-covers.branch [
      | then-covers w ↦
          let low : w.map_or-low.result ≡ option_map_or (λ r. r.low) c.loop-interval.run i.low = search rules in
          rw (w.boxes-is, w.run-is, grown-is c.loop-interval.run i w.map_or-low.result low)
          (up_to-grown _ _ c.loop-interval.run c.args.side.now c.loop-interval.interval-index _ c.loop-interval-test.true _ _ c.loop-interval.invariant (sym test ∙ w.if-covers.true))
      | else-covers+in_ok-add_run w ↦
          rw (w.boxes-is, w.run-is)
          (up_to-ended _ _ c.loop-interval.run c.args.side.now c.loop-interval.interval-index _ c.loop-interval-test.true _ _ c.loop-interval.invariant _ (sym test ∙ w.if-covers.false) w.in_ok-add_run.ensures)
    ]

pub loop-interval-init : goal.loop-interval-init
loop-interval-init c = record { left = refl; followed = (0, c.requires.side) }

pub widened-requires-clause-room : goal.widened-requires-clause-room
widened-requires-clause-room c =
    let few = c.args.schema.now.counts.few_dims in
    let dims = c.requires.dims in
    omega arith

pub widened-requires-clause-ordered : goal.widened-requires-clause-ordered
widened-requires-clause-ordered c = is_ordered 0 c.args.side.now c.loop-interval.interval-index _ c.requires.side c.loop-interval-test.true

pub covers-requires : goal.covers-requires
covers-requires c = ap length (c.lo.ensures.lo ∙ ap (λ b. b.lo) c.widened.ensures) ∙ (length-append c.args.front.now.lo _ ∙ c.requires.dims)

pub offset_bounds-side-interval-index : goal.offset_bounds-side-interval-index
offset_bounds-side-interval-index c = search rules

pub add_run-requires-clause-dims : goal.add_run-requires-clause-dims
add_run-requires-clause-dims c = c.requires.dims

pub add_run-requires-clause-run : goal.add_run-requires-clause-run
add_run-requires-clause-run c = is_interval c.loop-interval.run _ c.loop-interval.invariant.followed

pub add_run-requires-2-clause-dims : goal.add_run-requires-2-clause-dims
add_run-requires-2-clause-dims c = c.requires.dims

pub add_run-requires-2-clause-run : goal.add_run-requires-2-clause-run
add_run-requires-2-clause-run c = is_interval c.loop-interval.run _ c.loop-interval.invariant.followed

pub returns-in_err-add_run : goal.returns-in_err-add_run
returns-in_err-add_run c = search rules

pub returns : goal.returns
returns c =
    let all = up_to-all _ _ c.loop-interval.run c.args.side.now c.loop-interval.interval-index c.loop-interval-test.false _ _ c.loop-interval.invariant in
    rw all at c.add_run-2.ensures
