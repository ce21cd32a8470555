use Rattle.std.proofs.Common.{◌≡◌}
use Rattle.ub_host_files.proofs.PlaceFacts.{steps, void_on_ok}
use Rattle.ub_journal.specs.Place.{counted}
use Rattle.ub_host_files.proofs.place.HostPlacePlace.write_page.Goals as goal

pub returns-clause-written : goal.returns-clause-written
returns-clause-written g c = void_on_ok _ c.tell.result

pub returns-clause-effect : goal.returns-clause-effect
returns-clause-effect g c =
    let e : c.tell.new.self.failures ≡ counted c.tell.result c.args.self.now.failures = cc in
    steps _ c.args.self.now.pages c.args.self.now.rest c.args.self.now.failures c.tell.new.self.pages c.tell.new.self.rest c.tell.new.self.failures c.tell.result e
