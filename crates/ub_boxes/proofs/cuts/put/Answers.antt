use Rattle.std.proofs.Common.{◌∙◌, sym, arith}
use Rattle.ub_boxes.proofs.CutFacts.{put_place, put_within, put_no_place}
use Rattle.ub_boxes.proofs.cuts.put.Goals as goal

pub index-requires : goal.index-requires
index-requires c = let p = put_within c.args.cut _ _ _ _ c.deref.ensures.value c.place_of.ensures c.in-Some.is in omega arith

pub insert-requires : goal.insert-requires
insert-requires c = let p = put_within c.args.cut _ _ _ _ c.deref.ensures.value c.place_of.ensures c.in-Some.is in omega arith

pub returns-in-Some : goal.returns-in-Some
returns-in-Some c =
    let p = put_place c.args.cut _ _ _ _ _ c.deref.ensures.value c.place_of.ensures c.in-Some.is c.index.ensures in
    sym (p.0 c.if-index-cut.true)

pub returns-in_ok-insert-in-Some-2 : goal.returns-in_ok-insert-in-Some-2
returns-in_ok-insert-in-Some-2 c =
    let p = put_place c.args.cut _ _ _ _ _ c.deref.ensures.value c.place_of.ensures c.in-Some.is c.index.ensures in
    c.in_ok-insert-in-Some-2.ensures.items ∙ sym (p.1 c.if-index-cut.false)

pub returns-in_ok-push-in-None : goal.returns-in_ok-push-in-None
returns-in_ok-push-in-None c =
    c.in_ok-push-in-None.ensures.items ∙ sym (put_no_place c.args.cut _ _ _ c.deref.ensures.value c.place_of.ensures c.in-None.is)
