use Rattle.std.proofs.Common.{refl, [], Some, option_copied, sym}
use Rattle.std.proofs.lemmas.List.{append-nil}
use Rattle.ub_exec.proofs.AheadFacts.{come_next, first_ahead}
use Rattle.ub_tree.proofs.Laws.{next_is_the_first}
use Rattle.ub_exec.proofs.RefusedFacts.{no_answer, same_search}
use Rattle.ub_exec.proofs.walking.take_next.Goals as goal

pub returns-in-Some-clause-gives : goal.returns-in-Some-clause-gives
returns-in-Some-clause-gives g c =
    (first_ahead c.args.boxes.now c.args.tree.now (option_copied c.args.after) c.args.ahead.now.items c.in-Some.region c.pop_front.new.self.items (rw c.in-Some.is at c.pop_front.ensures.items)
    c.requires.ahead).0

pub returns-in-Some-clause-left : goal.returns-in-Some-clause-left
returns-in-Some-clause-left g c =
    (first_ahead c.args.boxes.now c.args.tree.now (option_copied c.args.after) c.args.ahead.now.items c.in-Some.region c.pop_front.new.self.items (rw c.in-Some.is at c.pop_front.ensures.items)
    c.requires.ahead).1

pub returns-in-Some-clause-found : goal.returns-in-Some-clause-found
returns-in-Some-clause-found g c sound =
    next_is_the_first c.args.tree.now c.args.boxes.now (option_copied c.args.after) (Some c.in-Some.region) sound
    ((first_ahead c.args.boxes.now c.args.tree.now (option_copied c.args.after) c.args.ahead.now.items c.in-Some.region c.pop_front.new.self.items (rw c.in-Some.is at c.pop_front.ensures.items)
    c.requires.ahead).0)

pub hand_next-requires-clause-began : goal.hand_next-requires-clause-began
hand_next-requires-clause-began g c = (c.pop_front.new.self, [], sym (append-nil c.pop_front.new.self.items))

pub returns-clause-gives : goal.returns-clause-gives
returns-clause-gives g c =
    let (met, are, takes) = c.in_ok-hand_next.ensures.met in
    (come_next c.args.boxes.now c.args.tree.now (option_copied c.args.after) c.args.ahead.now.items c.pop_front.new.self.items c.hand_next.new.sink.items c.pop_front-2.new.self.items
    c.pop_front.result c.pop_front-2.result met c.in_default.not-Some c.pop_front.ensures.items c.pop_front.ensures.rest are
    (takes c.pop_front.new.self [] (sym (append-nil c.pop_front.new.self.items))) c.pop_front-2.ensures.items c.pop_front-2.ensures.rest).0

pub returns-clause-left : goal.returns-clause-left
returns-clause-left g c =
    let (met, are, takes) = c.in_ok-hand_next.ensures.met in
    (come_next c.args.boxes.now c.args.tree.now (option_copied c.args.after) c.args.ahead.now.items c.pop_front.new.self.items c.hand_next.new.sink.items c.pop_front-2.new.self.items
    c.pop_front.result c.pop_front-2.result met c.in_default.not-Some c.pop_front.ensures.items c.pop_front.ensures.rest are
    (takes c.pop_front.new.self [] (sym (append-nil c.pop_front.new.self.items))) c.pop_front-2.ensures.items c.pop_front-2.ensures.rest).1

pub returns-clause-found : goal.returns-clause-found
returns-clause-found g c sound =
    let (met, are, takes) = c.in_ok-hand_next.ensures.met in
    next_is_the_first c.args.tree.now c.args.boxes.now (option_copied c.args.after) c.pop_front-2.result sound
    (come_next c.args.boxes.now c.args.tree.now (option_copied c.args.after) c.args.ahead.now.items c.pop_front.new.self.items c.hand_next.new.sink.items c.pop_front-2.new.self.items
    c.pop_front.result c.pop_front-2.result met c.in_default.not-Some c.pop_front.ensures.items c.pop_front.ensures.rest are
    (takes c.pop_front.new.self [] (sym (append-nil c.pop_front.new.self.items))) c.pop_front-2.ensures.items c.pop_front-2.ensures.rest).0

pub returns-in-Some-clause-effect : goal.returns-in-Some-clause-effect
returns-in-Some-clause-effect g c =
    record { same = refl; faults = tt }

pub hand_next-requires-clause-told : goal.hand_next-requires-clause-told
hand_next-requires-clause-told g c =
    c.requires.told

pub returns-in_err-hand_next-clause-found : goal.returns-in_err-hand_next-clause-found
returns-in_err-hand_next-clause-found g c sound =
    no_answer c.from_residual.result _ _ c.from_residual.ensures.1

pub returns-in_err-hand_next-clause-gives : goal.returns-in_err-hand_next-clause-gives
returns-in_err-hand_next-clause-gives g c =
    no_answer c.from_residual.result _ _ c.from_residual.ensures.1

pub returns-in_err-hand_next-clause-left : goal.returns-in_err-hand_next-clause-left
returns-in_err-hand_next-clause-left g c =
    no_answer c.from_residual.result _ _ c.from_residual.ensures.1

pub returns-in_err-hand_next-clause-effect : goal.returns-in_err-hand_next-clause-effect
returns-in_err-hand_next-clause-effect g c =
    same_search c.from_residual.result _ c.args.tree.now c.hand_next.new.self c.from_residual.ensures.1 c.in_err-hand_next.ensures.effect

pub returns-clause-effect : goal.returns-clause-effect
returns-clause-effect g c =
    record { same = c.in_ok-hand_next.ensures.effect.same; faults = tt }
