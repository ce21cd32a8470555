use Rattle.ub_host_files.proofs.PlaceFacts.{void_on_ok}
use Rattle.ub_host_files.proofs.place.HostPlacePlace.sync_folder.Goals as goal

pub returns-clause-done : goal.returns-clause-done
returns-clause-done g c = void_on_ok _ c.tell.result
