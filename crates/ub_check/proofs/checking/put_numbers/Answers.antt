use Rattle.std.proofs.Common.{◌≡◌, ◌≤◌, ◌+◌, suc, Some, slice_get, slice_index_or, length, subst, arith}
use Rattle.ub_check.proofs.Common.{IsPutTo, slice_get-get_or}
use Rattle.ub_check.proofs.CheckingFacts.{put_all, put_more, put_not}
use Rattle.ub_check.proofs.checking.put_numbers.Goals as goal

pub returns-then-not-put-clause-refused : goal.returns-then-not-put-clause-refused
returns-then-not-put-clause-refused c = λ met has _.
    let given = c.args.given.now in
    let i = c.loop-number.number-index in
    let at : slice_get given i ≡ Some (slice_index_or given i 0) = slice_get-get_or given i 0 c.loop-number-test.true in
    put_not given c.args.numbers.now c.loop-number.numbers i (slice_index_or given i 0) c.loop-number.invariant at (λ m h less. c.put.ensures.refused m h c.if-not-put.true less) met has

pub loop-number-preserved : goal.loop-number-preserved
loop-number-preserved c =
    let given = c.args.given.now in
    let i = c.loop-number.number-index in
    let at : slice_get given i ≡ Some (slice_index_or given i 0) = slice_get-get_or given i 0 c.loop-number-test.true in
    let one : suc i ≡ i + 1 = omega arith in
    subst (λ (j : _). IsPutTo given c.args.numbers.now c.put.new.self j) one
    (put_more given c.args.numbers.now c.loop-number.numbers i (slice_index_or given i 0) c.loop-number.invariant at
    c.put.new.self c.put.ensures.bound (λ m h. c.put.ensures.new m h c.if-not-put.false))

pub returns-clause-new : goal.returns-clause-new
returns-clause-new c = λ met has _.
    let end = c.loop-number-test.false in
    let le : length c.args.given.now ≤ c.loop-number.number-index = omega arith in
    put_all c.args.given.now c.args.numbers.now c.loop-number.numbers c.loop-number.number-index le c.loop-number.invariant met has
