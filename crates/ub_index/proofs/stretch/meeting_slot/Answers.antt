use Rattle.std.proofs.Common.{◌-◌, arith}
use Rattle.ub_index.proofs.Common.{entry_at}
use Rattle.ub_index.proofs.FitFacts.{few_count}
use Rattle.ub_index.proofs.StretchSteps.{meets_later, none_behind, none_found, none_later}
use Rattle.ub_index.proofs.stretch.meeting_slot.Goals as goal

pub returns-then-from-count : goal.returns-then-from-count
returns-then-from-count c =
    none_behind c.args.boxes.now c.args.last (c.args.stretch.now.level - 1) c.args.page.now c.args.count c.requires.count c.args.stretch.now.span.next c.requires.fits.ascends c.requires.fits.is.is.entries c.args.from
    (omega (arith, c.if-from-count.true))

pub returns-in_default : goal.returns-in_default
returns-in_default c =
    none_found c.args.boxes.now c.args.last (c.args.stretch.now.level - 1) c.args.page.now c.args.count c.requires.count c.args.stretch.now.span.next c.requires.fits.ascends c.requires.fits.is.is.entries c.args.from
    c.part_at-part.result c.part_at-part.ensures c.next_in_any.result c.in_default.not-Some c.next_in_any.ensures

pub slot_in-requires-clause-few : goal.slot_in-requires-clause-few
slot_in-requires-clause-few c =
    few_count c.args.page.now c.args.last c.args.stretch.now.level c.args.count (entry_at c.args.stretch.now.span) c.args.stretch.now.span.next c.requires.count c.requires.fits.is.is

pub returns-then-z-end_at : goal.returns-then-z-end_at
returns-then-z-end_at c =
    let near = c.end_at.ensures in
    meets_later c.args.boxes.now c.args.last (c.args.stretch.now.level - 1) c.args.page.now c.args.count c.requires.count c.args.stretch.now.span.next c.requires.fits.ascends c.requires.fits.is.is.entries c.args.from
    c.part_at-part.result c.part_at-part.ensures c.in-Some.z c.in-Some.ensures (omega (arith, c.if-z-part.false)) (omega (arith, c.if-z-end_at.true)) c.slot_in.result c.slot_in.ensures

pub returns-else-z-end_at : goal.returns-else-z-end_at
returns-else-z-end_at c =
    let near = c.end_at.ensures in
    none_later c.args.boxes.now c.args.last (c.args.stretch.now.level - 1) c.args.page.now c.args.count c.requires.count c.args.stretch.now.span.next c.requires.fits.ascends c.requires.fits.is.is.entries c.args.from
    c.part_at-part.result c.part_at-part.ensures c.in-Some.z c.in-Some.ensures (omega (arith, c.if-z-end_at.false))
