use Rattle.std.proofs.Common.{refl, sym, ap, ◌∙◌}
use Rattle.std.specs.Option.{option_copied_mut}
use Rattle.ub_store.proofs.Lookups as facts
use Rattle.ub_store.proofs.kept.Kept.write.Goals as goal
use Rattle.ub_store.proofs.kept.Kept.write.Goals.{in-Some, in_default}

pub returns-clause-renewed : goal.returns-clause-renewed
returns-clause-renewed c = elim c.match-peek_mut.branch [
  | in-Some w ↦ rw (w.self-inside-is, ← c.self.view_is) (facts.renew_same c.args.n c.self.inside.pages.entries _)
  | in_default w ↦ rw (w.self-inside-is, ← c.self.view_is)
      (facts.renew_none c.args.n c.self.inside.pages.entries c.args.page.now (sym c.peek_mut.ensures.value ∙ ap option_copied_mut w.in_default.is))
]

pub returns-clause-others : goal.returns-clause-others
returns-clause-others c m ne = elim c.match-peek_mut.branch [
  | in-Some w ↦ rw (w.self-inside-is, ← c.self.view_is) (facts.renew_others c.args.n m c.self.inside.pages.entries _ ne)
  | in_default w ↦ rw (w.self-inside-is, ← c.self.view_is) refl
]
