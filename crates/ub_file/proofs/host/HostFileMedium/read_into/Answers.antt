use Rattle.std.proofs.Common.{◌≡◌, ◌<◌, ◌/◌, length, rules}
use Rattle.ub_file.proofs.HostFacts.{has_page, has_read, host_count}
use Rattle.ub_file.proofs.host.HostFileMedium.read_into.Goals as goal

pub returns-clause-page : goal.returns-clause-page
returns-clause-page g c =
    let there : c.args.n < c.self.inside.length / 4096 =
    rw (host_count (g.R.RawFile.facts c.self.inside.file).honest c.self.inside.length (g.R.RawFile.facts c.self.inside.file).bytes) at (rw (← c.self.view_is) at c.requires.there) in
    let all : length c.args.page.now ≡ 4096 = search rules in
    let whole : length c.read_exact_at.new.bytes ≡ 4096 = search rules in
    rw (← c.self.view_is)
    (has_page c.args.n c.self.inside.length c.self.inside.reads c.tell.new.refusals c.args.page.now c.read_exact_at.new.bytes
    (g.R.RawFile.facts c.self.inside.file) (g.R.RawFile.facts c.read_exact_at.new.self) c.read_exact_at.result c.tell.result
    there all whole (λ t. rw c.place.ensures at (c.read_exact_at.ensures.effect t)) c.tell.ensures)

pub returns-clause-effect : goal.returns-clause-effect
returns-clause-effect g c =
    rw (← c.self.view_is)
    (has_read c.args.n c.self.inside.length c.self.inside.reads c.self.inside.writes c.tell.new.refusals c.args.page.now c.read_exact_at.new.bytes
    (g.R.RawFile.facts c.self.inside.file) (g.R.RawFile.facts c.read_exact_at.new.self) c.read_exact_at.result c.tell.result
    c.read_exact_at.ensures.honest (λ t. rw c.place.ensures at (c.read_exact_at.ensures.effect t)) c.tell.ensures)
