-- The least of the two halves is the least of the span.
use Rattle.std.proofs.Common.{◌∙◌, ℕ, ap, min, refl, Some}
use Rattle.ub_bigmin.proofs.EventFacts.{no_span, least_clamped, least_both, least_low, least_high, least_second}
use Rattle.ub_bigmin.proofs.event.least_in_box.Goals as goal

pub returns-then-to-from : goal.returns-then-to-from
returns-then-to-from c =
    no_span c.shape.result c.args.zbox.now c.shape.ensures.corners c.args.dim c.args.from c.args.to c.min-to.result (c.min-to.ensures ∙ ap (λ (n : ℕ). min c.args.to n) c.last.ensures) c.if-to-from.true

pub returns-then-is_least : goal.returns-then-is_least
returns-then-is_least c =
    least_clamped c.shape.result c.args.zbox.now c.shape.ensures.corners c.args.dim c.args.from c.args.to c.min-to.result (c.min-to.ensures ∙ ap (λ (n : ℕ). min c.args.to n) c.last.ensures) _
    (least_second c.args.zbox.now c.args.dim c.args.from c.min-to.result c.free_places-free.result c.free_places-free.ensures.halved _ (c.if-is_least.ensures refl) c.least_up_to-high.ensures)

pub returns-in-Some-Some : goal.returns-in-Some-Some
returns-in-Some-Some c =
    let low = rw c.in-Some-Some.is-0 at c.least_from-low.ensures in
    let high = rw c.in-Some-Some.is-1 at c.least_up_to-high.ensures in
    least_clamped c.shape.result c.args.zbox.now c.shape.ensures.corners c.args.dim c.args.from c.args.to c.min-to.result (c.min-to.ensures ∙ ap (λ (n : ℕ). min c.args.to n) c.last.ensures) (Some _)
    (rw c.min.ensures (least_both c.args.zbox.now c.args.dim c.args.from c.min-to.result c.free_places-free.result c.free_places-free.ensures.halved c.in-Some-Some.a c.in-Some-Some.b low high))

pub returns-in-Some-None : goal.returns-in-Some-None
returns-in-Some-None c =
    let low = rw c.in-Some-None.is-0 at c.least_from-low.ensures in
    let high = rw c.in-Some-None.is-1 at c.least_up_to-high.ensures in
    least_clamped c.shape.result c.args.zbox.now c.shape.ensures.corners c.args.dim c.args.from c.args.to c.min-to.result (c.min-to.ensures ∙ ap (λ (n : ℕ). min c.args.to n) c.last.ensures) (Some _)
    (least_low c.args.zbox.now c.args.dim c.args.from c.min-to.result c.free_places-free.result c.free_places-free.ensures.halved c.in-Some-None.a low high)

pub returns-in-None-default : goal.returns-in-None-default
returns-in-None-default c =
    let low = rw c.in-None-default.is-0 at c.least_from-low.ensures in
    least_clamped c.shape.result c.args.zbox.now c.shape.ensures.corners c.args.dim c.args.from c.args.to c.min-to.result (c.min-to.ensures ∙ ap (λ (n : ℕ). min c.args.to n) c.last.ensures) _
    (least_high c.args.zbox.now c.args.dim c.args.from c.min-to.result c.free_places-free.result c.free_places-free.ensures.halved _ low c.least_up_to-high.ensures)
