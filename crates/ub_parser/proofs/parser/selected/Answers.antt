use Rattle.std.proofs.Common.{◌↔◌, IsTrue, inr, subst}
use Rattle.ub_query.specs.Posed.{IsGroupQuery}
use Rattle.ub_query.specs.Shape.{Asked}
use Rattle.ub_syntax.specs.Tree.{select_of}
use Rattle.ub_parser.proofs.GroupFacts.{tells_grouping}
use Rattle.ub_parser.proofs.KnownFacts.{are_columns}
use Rattle.ub_parser.proofs.parser.selected.Goals as goal

pub unknown_name-requires-clause-names : goal.unknown_name-requires-clause-names
unknown_name-requires-clause-names c = c.requires.written.names_are

pub returns-in-Some-clause-refused : goal.returns-in-Some-clause-refused
returns-in-Some-clause-refused c = inr c.in-Some.ensures.first

pub returns-in-Some-misgrouped-clause-refused : goal.returns-in-Some-misgrouped-clause-refused
returns-in-Some-misgrouped-clause-refused c = inr c.in-Some-misgrouped.ensures

pub misgrouped-requires-clause-names : goal.misgrouped-requires-clause-names
misgrouped-requires-clause-names c =
    are_columns c.args.source.now c.args.schema.now (select_of c.args.syntax.now) c.requires.written c.in_default.ensures.known

pub misgrouped-requires-clause-named : goal.misgrouped-requires-clause-named
misgrouped-requires-clause-named c = c.in_default.ensures.first

pub misgrouped-requires-clause-groups : goal.misgrouped-requires-clause-groups
misgrouped-requires-clause-groups c =
    tells_grouping c.args.source.now c.args.schema.now (select_of c.args.syntax.now) c.has_groups.result
    (subst (λ (x : Asked). IsTrue c.has_groups.result ↔ IsGroupQuery x) c.in_ok-query.ensures.asked c.has_groups.ensures.groups)
