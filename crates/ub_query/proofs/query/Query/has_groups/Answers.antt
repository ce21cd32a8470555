use Rattle.std.proofs.Common.{rules, ◌≡◌, ◌↔◌, IsTrue, Bool, subst, sym}
use Rattle.ub_query.proofs.Laws.{group_queries_are_told}
use Rattle.ub_query.specs.Posed.{IsGroupQuery, has_groups}
use Rattle.ub_query.specs.Shape.{asked}
use Rattle.ub_query.proofs.query.Query.has_groups.Goals as goal

pub returns-else-not-is_empty-clause-groups : goal.returns-else-not-is_empty-clause-groups
returns-else-not-is_empty-clause-groups c =
    let told : c.has_aggregate.result ≡ has_groups (asked c.args.self.now) = search rules in
    subst (λ (b : Bool). IsTrue b ↔ IsGroupQuery (asked c.args.self.now)) (sym told) (group_queries_are_told (asked c.args.self.now))
