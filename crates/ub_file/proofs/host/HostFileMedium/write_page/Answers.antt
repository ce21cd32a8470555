use Rattle.std.proofs.Common.{◌≡◌, ◌<◌, ◌/◌, ◌∙◌, arith, length, rules, sym}
use Rattle.ub_file.proofs.HostFacts.{has_written, host_count, told_after_write}
use Rattle.ub_file.proofs.host.HostFileMedium.write_page.Goals as goal

pub invariant_of-self : goal.invariant_of-self
invariant_of-self g c = λ t.
    let was = sym c.write_all_at.ensures.honest ∙ t in
    let there : c.args.n < c.self.inside.length / 4096 =
    rw (host_count (g.R.RawFile.facts c.self.inside.file).honest c.self.inside.length (g.R.RawFile.facts c.self.inside.file).bytes) at (rw (← c.self.view_is) at c.requires.there) in
    let whole : length c.args.page.now ≡ 4096 = search rules in
    rw c.saturating_add-self-inside.ensures (
    told_after_write c.args.n c.self.inside.length c.self.inside.reads c.self.inside.writes c.tell.new.refusals c.self.inside.changes c.self.inside.sure c.args.page.now
    (g.R.RawFile.facts c.self.inside.file) (g.R.RawFile.facts c.write_all_at.new.self) c.write_all_at.result c.tell.result
    there whole (c.self.invariant was) (rw c.place.ensures at (c.write_all_at.ensures.effect was)) c.tell.ensures)

pub returns-clause-effect : goal.returns-clause-effect
returns-clause-effect g c =
    let there : c.args.n < c.self.inside.length / 4096 =
    rw (host_count (g.R.RawFile.facts c.self.inside.file).honest c.self.inside.length (g.R.RawFile.facts c.self.inside.file).bytes) at (rw (← c.self.view_is) at c.requires.there) in
    let whole : length c.args.page.now ≡ 4096 = search rules in
    rw (← c.self.view_is)
    (has_written c.args.n c.self.inside.length c.self.inside.reads c.self.inside.writes c.tell.new.refusals c.args.page.now
    (g.R.RawFile.facts c.self.inside.file) (g.R.RawFile.facts c.write_all_at.new.self) c.write_all_at.result c.tell.result
    there whole c.write_all_at.ensures.honest (λ t. rw c.place.ensures at (c.write_all_at.ensures.effect t)) c.tell.ensures)
