use Rattle.std.proofs.Common.{[], None, IfSome, Option, arith, refl, subst, sym}
use Rattle.ub_plan.proofs.MetFacts.{counted_all, counted_less, counted_met, counted_on, last_told, none_is, refused_then, some_is}
use Rattle.ub_tree.specs.Spans.{Region}
use Rattle.ub_tree.specs.Told.{IsRegionOf}
use Rattle.ub_tree.specs.View.{TreeView}
use Rattle.ub_plan.proofs.explaining.count_met.Goals as goal

pub loop-init : goal.loop-init
loop-init g c = record { same = refl; found = ([], refl, omega arith) }

pub hand_next-requires-clause-told : goal.hand_next-requires-clause-told
hand_next-requires-clause-told g c =
    let (found, first, counted) = c.loop.invariant.found in
    subst (λ (o : Option Region). IfSome o (IsRegionOf c.loop.tree)) (sym c.as_ref.ensures.value)
    (subst (λ (t : TreeView). IfSome c.loop.met.last (IsRegionOf t)) (sym c.loop.invariant.same) (last_told c.args.boxes.now c.args.tree.now None found c.loop.met.last tt first))

pub hand_next-requires-clause-began : goal.hand_next-requires-clause-began
hand_next-requires-clause-began g c =
    let (found, first, counted) = c.loop.invariant.found in
    (record { count = c.loop.met.count; last = None }, [], (omega arith, refl))

pub returns-in_err-hand_next-clause-effect : goal.returns-in_err-hand_next-clause-effect
returns-in_err-hand_next-clause-effect g c =
    let (found, first, counted) = c.loop.invariant.found in
    refused_then c.args.boxes.now c.args.tree.now c.from_residual.result c.in_err-hand_next.field-0.0 found c.loop.met.last c.hand_next.new.self c.from_residual.ensures.1 first
    (rw c.loop.invariant.same at (rw c.as_ref.ensures.value at c.in_err-hand_next.ensures.effect))

pub returns-then-is_none-clause-counted : goal.returns-then-is_none-clause-counted
returns-then-is_none-clause-counted g c =
    let (found, first, counted) = c.loop.invariant.found in
    let (met, next, takes) = rw c.loop.invariant.same at (rw c.as_ref.ensures.value at c.in_ok-hand_next.ensures.met) in
    let (more, kept) = takes (record { count = c.loop.met.count; last = None }) [] (omega arith, refl) in
    let (all, is) = counted_all c.args.boxes.now c.args.tree.now found met c.loop.met.last c.hand_next.new.sink.last c.loop.met.count c.hand_next.new.sink.count first counted next more kept (none_is c.hand_next.new.sink.last c.is_none.result c.is_none.ensures c.if-is_none.true) in
    (found, all, is)

pub returns-then-is_none-clause-met : goal.returns-then-is_none-clause-met
returns-then-is_none-clause-met g c sound =
    let (found, first, counted) = c.loop.invariant.found in
    let (met, next, takes) = rw c.loop.invariant.same at (rw c.as_ref.ensures.value at c.in_ok-hand_next.ensures.met) in
    let (more, kept) = takes (record { count = c.loop.met.count; last = None }) [] (omega arith, refl) in
    let (all, is) = counted_all c.args.boxes.now c.args.tree.now found met c.loop.met.last c.hand_next.new.sink.last c.loop.met.count c.hand_next.new.sink.count first counted next more kept (none_is c.hand_next.new.sink.last c.is_none.result c.is_none.ensures c.if-is_none.true) in
    counted_met c.args.tree.now c.args.boxes.now found c.hand_next.new.sink.count sound all is

pub returns-then-is_none-clause-effect : goal.returns-then-is_none-clause-effect
returns-then-is_none-clause-effect g c = record { same = (rw c.loop.invariant.same at c.in_ok-hand_next.ensures.effect.same); faults = tt }

pub loop-smaller : goal.loop-smaller
loop-smaller g c =
    let (found, first, counted) = c.loop.invariant.found in
    let (met, next, takes) = rw c.loop.invariant.same at (rw c.as_ref.ensures.value at c.in_ok-hand_next.ensures.met) in
    let (more, kept) = takes (record { count = c.loop.met.count; last = None }) [] (omega arith, refl) in
    counted_less c.args.boxes.now c.args.tree.now found met c.loop.met.last c.hand_next.new.sink.last c.loop.met.count c.hand_next.new.sink.count first counted next more kept (some_is c.hand_next.new.sink.last c.is_none.result c.is_none.ensures c.if-is_none.false)

pub loop-preserved : goal.loop-preserved
loop-preserved g c =
    let (found, first, counted) = c.loop.invariant.found in
    let (met, next, takes) = rw c.loop.invariant.same at (rw c.as_ref.ensures.value at c.in_ok-hand_next.ensures.met) in
    let (more, kept) = takes (record { count = c.loop.met.count; last = None }) [] (omega arith, refl) in
    record {
      same = rw c.loop.invariant.same at c.in_ok-hand_next.ensures.effect.same;
      found = counted_on c.args.boxes.now c.args.tree.now found met c.loop.met.last c.hand_next.new.sink.last c.loop.met.count c.hand_next.new.sink.count first counted next more kept (some_is c.hand_next.new.sink.last c.is_none.result c.is_none.ensures c.if-is_none.false);
    }
