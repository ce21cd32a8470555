use Rattle.std.proofs.Common.{inl, refl}
use Rattle.ub_keeping.proofs.StoreFacts.{past_count, within_count, write_store}
use Rattle.ub_keeping.proofs.store.PlaceStorePageStore.write_page.Goals as goal

pub returns-then-n-self-clause-missing : goal.returns-then-n-self-clause-missing
returns-then-n-self-clause-missing g c = rw (← c.self.view_is) (λ e. past_count (g.P.Place.facts c.self.inside.place).honest c.self.inside.count c.args.n (g.P.Place.facts c.self.inside.place).seen.table c.self.invariant.0 c.if-n-self.true, λ past. refl)

pub returns-clause-missing : goal.returns-clause-missing
returns-clause-missing g c = rw (← c.self.view_is) (λ wrong. cc, λ past. absurd (within_count (g.P.Place.facts c.self.inside.place).honest c.self.inside.count c.args.n (g.P.Place.facts c.self.inside.place).seen.table c.self.invariant.0 c.if-n-self.false past))

pub returns-clause-effect : goal.returns-clause-effect
returns-clause-effect g c = rw (← c.self.view_is) (record {
  frame = write_store (g.P.Place.facts c.self.inside.place) c.self.inside.count c.self.inside.reads c.self.inside.writes c.saturating_add-self-inside.result _ c.saturating_add-self-inside.ensures;
  count = refl;
  flushed = inl refl;
  written = tt;
  others = λ honest m ne. refl;
  device = λ is. refl;
})
