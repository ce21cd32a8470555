use Rattle.std.proofs.Common.{◌∙◌, inl, refl, sym}
use Rattle.ub_keeping.proofs.StoreFacts.{table_count, write_store}
use Rattle.ub_keeping.proofs.store.PlaceStorePageStore.extend.Goals as goal

pub returns-then-self-clause-full : goal.returns-then-self-clause-full
returns-then-self-clause-full g c = rw (← c.self.view_is) (λ e. table_count (g.P.Place.facts c.self.inside.place).honest c.self.inside.count (g.P.Place.facts c.self.inside.place).seen.table c.self.invariant.0 ∙ c.if-self.true, λ full. refl)

pub returns-clause-full : goal.returns-clause-full
returns-clause-full g c = rw (← c.self.view_is) (λ wrong. cc, λ full. absurd (c.if-self.false (sym (table_count (g.P.Place.facts c.self.inside.place).honest c.self.inside.count (g.P.Place.facts c.self.inside.place).seen.table c.self.invariant.0) ∙ full)))

pub returns-clause-effect : goal.returns-clause-effect
returns-clause-effect g c = rw (← c.self.view_is) (record {
  frame = write_store (g.P.Place.facts c.self.inside.place) c.self.inside.count c.self.inside.reads c.self.inside.writes c.saturating_add-self-inside.result _ c.saturating_add-self-inside.ensures;
  flushed = inl refl;
  added = tt;
  failed = inl refl;
  device = λ is. refl;
})
