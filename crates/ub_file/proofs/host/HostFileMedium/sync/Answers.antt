-- Where the length wasn't sure, it was set first, and the pages stay.
use Rattle.std.proofs.Common.{◌∙◌, ap, subst}
use Rattle.ub_file.specs.Host.{HostView, facts_on}
use Rattle.ub_file.proofs.HostFacts.{has_synced}
use Rattle.ub_file.proofs.host.HostFileMedium.sync.Goals as goal
use Rattle.ub_store.specs.Facts.{Syncs}

pub returns-clause-effect : goal.returns-clause-effect
returns-clause-effect g c =
    let sure = ap (λ (v : HostView _). v.sure) c.self.view_is ∙ c.in_ok-set_surely.ensures.set in
    subst (λ f. Syncs {A = Unit {0}} f (facts_on (g.R.RawFile.facts c.sync_all.new.self) c.self.inside.length c.self.inside.reads c.tell.new.refusals) c.tell.result) c.in_ok-set_surely.ensures.facts (
    rw (← c.self.view_is) (
    has_synced c.self.inside.length c.self.inside.reads c.self.inside.writes c.tell.new.refusals
    (g.R.RawFile.facts c.self.inside.file) (g.R.RawFile.facts c.sync_all.new.self) c.sync_all.result c.tell.result
    (λ t. (c.self.invariant t).length_is sure) c.sync_all.ensures.honest c.sync_all.ensures.effect c.tell.ensures))
