use Rattle.std.proofs.Common.{◌∙◌, ap, sym}
use Rattle.ub_query.specs.Shape.{Asked}
use Rattle.ub_exec.proofs.grouping.swept_groups.Goals as goal

pub all_groups-requires-clause-posed : goal.all_groups-requires-clause-posed
all_groups-requires-clause-posed g c =
    c.requires

pub all_groups-requires-clause-whole : goal.all_groups-requires-clause-whole
all_groups-requires-clause-whole g c =
    sym (ap (λ (q : Asked). q.limit) c.query.ensures) ∙ c.in-None.is

pub first_groups-requires : goal.first_groups-requires
first_groups-requires g c =
    c.requires

pub returns-in-None : goal.returns-in-None
returns-in-None g c =
    c.all_groups.ensures

pub returns-in-Some : goal.returns-in-Some
returns-in-Some g c =
    c.first_groups.ensures
