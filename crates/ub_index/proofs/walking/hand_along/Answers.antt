use Rattle.std.proofs.Common.{◌++◌, ◌∷◌, [], inl, inr, List, Option, Some, None, append-nil, refl, subst, sym, arith}
use Rattle.ub_index.proofs.Common.{FollowOn, IsBefore, IsSlotNext, Key, Meeting, node_on, Region}
use Rattle.ub_index.proofs.AlongFacts.{follow_more, is_none, later_on, next_begun, next_later, none_there, one_aim, stands_met, stands_next}
use Rattle.ub_index.proofs.StretchSteps.{takes_more}
use Rattle.ub_index.proofs.walking.hand_along.Goals as goal

pub next_slot-requires-clause-few : goal.next_slot-requires-clause-few
next_slot-requires-clause-few g c = let same = c.requires.count in let few = c.requires.ends.head.2 in omega arith

pub place_in-place-requires-clause-within : goal.place_in-place-requires-clause-within
place_in-place-requires-clause-within g c = c.in-Some.ensures.3.within

pub place_in-place-requires-clause-few : goal.place_in-place-requires-clause-few
place_in-place-requires-clause-few g c = let same = c.requires.count in let few = c.requires.ends.head.2 in omega arith

pub push-requires-clause-meets : goal.push-requires-clause-meets
push-requires-clause-meets g c =
    let stands = stands_next c.args.boxes.now c.args.last c.args.leaf.now c.args.page.now c.args.count c.in-Some.slot c.loop.on c.place_in-place.result c.region_at-region.result
    c.in-Some.ensures c.place_in-place.ensures.entry c.place_in-place.ensures.falls c.region_at-region.ensures.region c.region_at-region.ensures.small in
    stands_met c.args.boxes.now c.args.last c.args.leaf.now c.args.page.now c.requires.ends c.requires.comes.2.within c.loop.on c.loop.invariant.begun c.region_at-region.result stands

pub loop-init : goal.loop-init
loop-init g c = record {
  handed = ([], refl, λ start taken has. subst (λ (these : List Region). g.T.RegionSink.Takes c.args.boxes.now start these c.args.sink.now) (sym (append-nil taken)) has);
  within = let same = c.requires.count in let some = c.requires.ends.head.1 in omega arith;
  begun = λ aim is.
      subst (λ (k : Key). ¬ (IsBefore k c.args.leaf.now.place.entry.first)) (one_aim c.args.boxes.now c.args.last c.args.from.now c.requires.comes.0 aim c.requires.comes.1 is)
      c.requires.comes.2.place.from;
  later = inl refl;
  moved = λ some. absurd (omega (arith, some));
}

pub loop-preserved : goal.loop-preserved
loop-preserved g c =
    let (handed, follow, takes) = c.loop.invariant.handed in
    let stands = stands_next c.args.boxes.now c.args.last c.args.leaf.now c.args.page.now c.args.count c.in-Some.slot c.loop.on c.place_in-place.result c.region_at-region.result
    c.in-Some.ensures c.place_in-place.ensures.entry c.place_in-place.ensures.falls c.region_at-region.ensures.region c.region_at-region.ensures.small in
    let later = next_later c.args.boxes.now c.args.last c.args.leaf.now c.args.page.now c.requires.ends c.requires.comes.2.within c.loop.on c.loop.invariant.begun c.region_at-region.result stands
    c.in-Some-next.next c.in-Some-next.is in
    let further = later_on c.args.from.now c.loop.on c.in-Some-next.next c.loop.invariant.later later in
    record {
      handed = (
        handed ++ c.region_at-region.result ∷ [],
        subst (λ (o : Option Key). FollowOn c.args.last (Meeting c.args.boxes.now) c.args.leaf.now (node_on c.args.page.now).entries (Some c.args.from.now) (handed ++ c.region_at-region.result ∷ []) o) c.in-Some-next.is
            (follow_more c.args.last (Meeting c.args.boxes.now) c.args.leaf.now (node_on c.args.page.now).entries (Some c.args.from.now) handed c.loop.on c.region_at-region.result follow stands),
        takes_more (g.T.RegionSink.Takes c.args.boxes.now) c.args.sink.now c.loop.sink c.push.new.self handed (c.region_at-region.result ∷ []) takes c.in_ok-push.ensures,
      );
      within = c.in-Some.ensures.3.within;
      begun = next_begun c.args.boxes.now c.args.last c.args.leaf.now c.args.page.now c.requires.ends c.requires.comes.2.within c.loop.on c.loop.invariant.begun c.region_at-region.result stands
          c.in-Some-next.next c.in-Some-next.is;
      later = inr further;
      moved = λ some. further;
    }

pub returns-in_default-next : goal.returns-in_default-next
returns-in_default-next g c =
    let (handed, follow, takes) = c.loop.invariant.handed in
    let stands = stands_next c.args.boxes.now c.args.last c.args.leaf.now c.args.page.now c.args.count c.in-Some.slot c.loop.on c.place_in-place.result c.region_at-region.result
    c.in-Some.ensures c.place_in-place.ensures.entry c.place_in-place.ensures.falls c.region_at-region.ensures.region c.region_at-region.ensures.small in
    record {
      regions = handed ++ c.region_at-region.result ∷ [];
      takes = takes_more (g.T.RegionSink.Takes c.args.boxes.now) c.args.sink.now c.loop.sink c.push.new.self handed (c.region_at-region.result ∷ []) takes c.in_ok-push.ensures;
      follow = subst (λ (o : Option Key). FollowOn c.args.last (Meeting c.args.boxes.now) c.args.leaf.now (node_on c.args.page.now).entries (Some c.args.from.now) (handed ++ c.region_at-region.result ∷ []) o)
          (is_none c.region_at-region.result.next c.in_default-next.not-Some)
          (follow_more c.args.last (Meeting c.args.boxes.now) c.args.leaf.now (node_on c.args.page.now).entries (Some c.args.from.now) handed c.loop.on c.region_at-region.result follow stands);
      stays = tt;
    }

pub returns-in_default : goal.returns-in_default
returns-in_default g c =
    let (handed, follow, takes) = c.loop.invariant.handed in
    record {
      regions = handed;
      takes = takes;
      follow = follow;
      stays = λ stuck. elim c.loop.invariant.later [
        | inl same ↦
            subst (λ (k : Key). IsSlotNext c.args.last (Meeting c.args.boxes.now) c.args.leaf.now c.args.page.now c.args.count k None) same
            (none_there c.args.boxes.now c.args.last c.loop.on c.args.leaf.now c.args.page.now c.args.count c.next_slot.result c.in_default.not-Some c.next_slot.ensures)
        | inr later ↦ absurd (stuck later)
      ];
    }

pub returns-after-loop : goal.returns-after-loop
returns-after-loop g c =
    let (handed, follow, takes) = c.loop.invariant.handed in
    record {
      regions = handed;
      takes = takes;
      follow = follow;
      stays = λ stuck. absurd (stuck (c.loop.invariant.moved (omega (arith, c.loop-test.false))));
    }
