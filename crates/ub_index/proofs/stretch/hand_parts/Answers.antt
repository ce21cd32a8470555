use Rattle.std.proofs.Common.{◌≡◌, ◌++◌, ◌∷◌, [], arith, subst}
use Rattle.ub_index.proofs.Common.{MeetsAny, parts_on, slice_get_within, Stretch}
use Rattle.ub_index.proofs.StretchSteps.{handed_all, handed_more, none_next, slot_within, takes_more}
use Rattle.ub_index.proofs.stretch.hand_parts.Goals as goal

pub part_at-requires-clause-within : goal.part_at-requires-clause-within
part_at-requires-clause-within g c =
    let (le, part, at, meets, none) = c.in-Some.ensures in
    slot_within c.args.last c.args.stretch.now c.args.page.now c.args.count c.in-Some.slot part c.requires.count at

pub overflow_add-behind : goal.overflow_add-behind
overflow_add-behind g c =
    let lt = slot_within c.args.last c.args.stretch.now c.args.page.now c.args.count c.in-Some.slot c.part_at.result c.requires.count c.part_at.ensures in
    let few = c.ranges.count.fits in
    omega arith

pub loop-slot-smaller : goal.loop-slot-smaller
loop-slot-smaller g c =
    let le = c.in-Some.ensures.0 in
    let lt = slice_get_within (parts_on c.args.last c.args.stretch.now c.args.page.now) c.in-Some.slot c.part_at.result c.part_at.ensures in
    omega arith

pub loop-slot-preserved : goal.loop-slot-preserved
loop-slot-preserved g c =
    let (handed, so_far, takes) = c.loop-slot.invariant in
    let (le, part, at, meets, none) = c.in-Some.ensures in
    let here = c.part_at.ensures in
    let same : part ≡ c.part_at.result = cc in (
      handed ++ c.part_at.result ∷ [],
      handed_more (MeetsAny c.args.boxes.now) (parts_on c.args.last c.args.stretch.now c.args.page.now) c.loop-slot.behind c.in-Some.slot c.part_at.result handed so_far le here
          (subst (λ (p : Stretch). MeetsAny c.args.boxes.now p) same meets) none,
      takes_more (g.T.StretchSink.Takes c.args.boxes.now) c.args.sink.now c.loop-slot.sink c.push.new.self handed (c.part_at.result ∷ []) takes c.in_ok-push.ensures,
    )

pub returns : goal.returns
returns g c =
    let (handed, so_far, takes) = c.loop-slot.invariant in (
      handed,
      handed_all (MeetsAny c.args.boxes.now) (parts_on c.args.last c.args.stretch.now c.args.page.now) c.loop-slot.behind handed so_far
          (none_next c.args.boxes.now (parts_on c.args.last c.args.stretch.now c.args.page.now) c.loop-slot.behind c.meeting_slot.result c.in_default.not-Some c.meeting_slot.ensures),
      takes,
    )
