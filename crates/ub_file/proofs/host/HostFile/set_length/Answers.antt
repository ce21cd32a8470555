-- Of an honest file the length that was set is sure, and after a refusal zeros stand past the one that is kept.
use Rattle.std.proofs.Common.{◌∙◌, sym}
use Rattle.ub_file.proofs.HostFacts.{told_after_length, told_after_refusal}
use Rattle.ub_file.proofs.host.HostFile.set_length.Goals as goal

pub invariant_of-self : goal.invariant_of-self
invariant_of-self g c = λ t.
    let was = sym c.set_len.ensures.honest ∙ t in
    rw c.saturating_add-self-inside.ensures (
    told_after_length c.args.size c.self.inside.length c.self.inside.reads c.self.inside.writes c.tell-done.new.refusals c.self.inside.changes
    c.self.inside.sure c.is_ok-self-inside.result (g.R.RawFile.facts c.self.inside.file) (g.R.RawFile.facts c.set_len.new.self) c.set_len.result c.tell-done.result
    c.if-self.true c.is_ok-self-inside.ensures.value (c.self.invariant was) (c.set_len.ensures.effect was) c.tell-done.ensures)

pub invariant_of-self-else-self : goal.invariant_of-self-else-self
invariant_of-self-else-self g c = λ t.
    let was = sym c.set_len.ensures.honest ∙ t in
    rw c.saturating_add-self-inside.ensures (
    told_after_refusal c.args.size c.self.inside.length c.self.inside.reads c.self.inside.writes c.tell-done.new.refusals c.self.inside.changes
    c.self.inside.sure c.is_ok-self-inside.result (g.R.RawFile.facts c.self.inside.file) (g.R.RawFile.facts c.set_len.new.self) c.set_len.result c.tell-done.result
    c.if-self.false c.is_ok-self-inside.ensures.value (c.self.invariant was) (c.set_len.ensures.effect was) c.tell-done.ensures)
