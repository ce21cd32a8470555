use Rattle.ub_host_files.proofs.PlaceFacts.{void_on_ok}
use Rattle.ub_host_files.proofs.place.HostPlacePlace.resize.Goals as goal

pub returns-clause-written : goal.returns-clause-written
returns-clause-written g c = void_on_ok _ c.tell.result
