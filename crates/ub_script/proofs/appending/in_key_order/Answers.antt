use Rattle.std.proofs.Common.{List, rules, subst}
use Rattle.std.proofs.lemmas.Fn.{always_returns_same}
use Rattle.std.specs.List.Sorted.{IsPermutation}
use Rattle.ub_script.proofs.ByKeyFacts.{pair_less, sorted_same}
use Rattle.ub_table.specs.Region.{key_of}
use Rattle.ub_table.specs.declared.row.Row.{Row}
use Rattle.ub_script.proofs.appending.in_key_order.Goals as goal

pub returns : goal.returns
returns c = record {
  same = subst (λ (rows : List Row). IsPermutation rows c.sort_by_cached_key.new.self.items) c.in_ok-ordered.ensures c.sort_by_cached_key.ensures.permutation;
  sorted = sorted_same _ _ _ (λ a b. pair_less (key_of c.args.shape a).z (key_of c.args.shape b).z a.number b.number)
      (c.in_ok-sort_by_cached_key.ensures.sorted (λ (row : Row). ((key_of c.args.shape row).z, row.number)) (always_returns_same _ _ _ (λ a r f k. search rules)));
}
