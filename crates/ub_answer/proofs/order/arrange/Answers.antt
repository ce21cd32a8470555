use Rattle.std.proofs.Common.{rules}
use Rattle.std.proofs.lemmas.List.Sorted.{ranks_by}
use Rattle.std.specs.Ordering.{is_lt}
use Rattle.ub_answer.proofs.order.arrange.Goals as goal

pub returns-in-Some-clause-arranged : goal.returns-in-Some-clause-arranged
returns-in-Some-clause-arranged g c cmp total compares =
    let sorted = c.sort_unstable_by.ensures.sorted (λ a b. is_lt (cmp a b)) (ranks_by total (λ e. e)) compares in
    search (rules, sorted)

pub returns-in_default-clause-arranged : goal.returns-in_default-clause-arranged
returns-in_default-clause-arranged g c cmp total compares =
    let sorted = c.sort_unstable_by.ensures.sorted (λ a b. is_lt (cmp a b)) (ranks_by total (λ e. e)) compares in
    search (rules, sorted)
