use Rattle.ub_host_files.proofs.HostFacts.{vacuous}
use Rattle.ub_host_files.proofs.PlaceFacts.{none_found, void_if_ok}
use Rattle.ub_host_files.proofs.place.HostPlacePlace.journal.Goals as goal

pub returns-in_default-clause-seen : goal.returns-in_default-clause-seen
returns-in_default-clause-seen g c = λ honest. vacuous honest

pub returns-in_default-clause-journal : goal.returns-in_default-clause-journal
returns-in_default-clause-journal g c = tt

pub returns-in_default-clause-damaged : goal.returns-in_default-clause-damaged
returns-in_default-clause-damaged g c = λ e honest. vacuous honest

pub returns-in-Ok-clause-seen : goal.returns-in-Ok-clause-seen
returns-in-Ok-clause-seen g c = void_if_ok _ c.take_journal.result

pub returns-in-Ok-clause-journal : goal.returns-in-Ok-clause-journal
returns-in-Ok-clause-journal g c = c.take_journal.ensures.journal

pub returns-in-Ok-clause-damaged : goal.returns-in-Ok-clause-damaged
returns-in-Ok-clause-damaged g c = λ e honest. vacuous honest

pub returns-in-Err-clause-seen : goal.returns-in-Err-clause-seen
returns-in-Err-clause-seen g c = void_if_ok _ c.unopened.result

pub returns-in-Err-clause-journal : goal.returns-in-Err-clause-journal
returns-in-Err-clause-journal g c = none_found _ c.unopened.result c.unopened.ensures.none

pub returns-in-Err-clause-damaged : goal.returns-in-Err-clause-damaged
returns-in-Err-clause-damaged g c = λ e honest. vacuous honest
