use Rattle.std.proofs.Common.{rules}
use Rattle.library_examples.proofs.SortedFacts.{none_left, passed, taken, whole}
use Rattle.library_examples.proofs.sorted.addresses_in.Goals as goal
use Rattle.library_examples.proofs.sorted.addresses_in.Goals.{else-loop-place-test, then-loop-place-test+in_default}

pub loop-place-preserved-then-next-sorted : goal.loop-place-preserved-then-next-sorted
loop-place-preserved-then-next-sorted c = record {
  within = search rules;
  those = taken c.args.zbox.now c.args.sorted.now c.loop-place.found.items c.requires c.loop-place.place (search rules) c.loop-place.invariant.those
      c.next_in_box.result c.next_in_box.ensures c.in-Some.next _ c.in-Some.is (search rules) c.in_ok-push.ensures.items;
}

pub loop-place-preserved : goal.loop-place-preserved
loop-place-preserved c = record {
  within = c.first_from-place.ensures.within;
  those = (passed c.args.zbox.now c.args.sorted.now c.loop-place.found.items c.requires c.loop-place.place (search rules) c.loop-place.invariant.those
      c.next_in_box.result c.next_in_box.ensures c.in-Some.next _ c.in-Some.is (search rules) c.first_from-place.ensures.within c.first_from-place.ensures.point).1;
}

pub returns : goal.returns
returns c = elim c.loop-place-test.branch [
  | else-loop-place-test w ↦ whole c.args.zbox.now c.args.sorted.now c.loop-place.found.items c.loop-place.place (search rules) c.loop-place.invariant.those
  | then-loop-place-test+in_default w ↦
      none_left c.args.zbox.now c.args.sorted.now c.loop-place.found.items c.requires c.loop-place.place (search rules) c.loop-place.invariant.those
      w.next_in_box.result w.next_in_box.ensures (search rules)
]
