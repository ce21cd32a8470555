use Rattle.std.proofs.lemmas.List.Sorted.{IsNonDecreasingBy-from_sort}
use Rattle.library_examples.proofs.sorted.diagonal.Goals as goal

pub returns : goal.returns
returns c = IsNonDecreasingBy-from_sort (λ x. x) _ c.sort_unstable.ensures.sorted
