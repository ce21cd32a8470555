use Rattle.ub_host_files.proofs.PlaceFacts.{void_on_ok}
use Rattle.ub_host_files.proofs.place.HostPlacePlace.publish.Goals as goal

pub returns-clause-published : goal.returns-clause-published
returns-clause-published g c = void_on_ok _ c.tell.result
