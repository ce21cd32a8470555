use Rattle.std.proofs.Common.{refl}
use Rattle.ub_keeping.proofs.StoreFacts.{failed_view, page_of, past_count, read_view, within_count}
use Rattle.ub_overlay.proofs.OverlayFacts.{was_ok}
use Rattle.ub_keeping.proofs.store.PlaceStorePageStore.read_into.Goals as goal

pub returns-then-n-self-clause-missing : goal.returns-then-n-self-clause-missing
returns-then-n-self-clause-missing g c = rw (← c.self.view_is) (λ e. past_count (g.P.Place.facts c.self.inside.place).honest c.self.inside.count c.args.n (g.P.Place.facts c.self.inside.place).seen.table c.self.invariant.0 c.if-n-self.true, λ past. refl)

pub returns-then-is_err-clause-missing : goal.returns-then-is_err-clause-missing
returns-then-is_err-clause-missing g c = rw (← c.self.view_is) (λ wrong. cc, λ past. absurd (within_count (g.P.Place.facts c.self.inside.place).honest c.self.inside.count c.args.n (g.P.Place.facts c.self.inside.place).seen.table c.self.invariant.0 c.if-n-self.false past))

pub returns-then-is_err-clause-kept : goal.returns-then-is_err-clause-kept
returns-then-is_err-clause-kept g c = rw (← c.self.view_is) (λ past. absurd (within_count (g.P.Place.facts c.self.inside.place).honest c.self.inside.count c.args.n (g.P.Place.facts c.self.inside.place).seen.table c.self.invariant.0 c.if-n-self.false past))

pub returns-then-is_err-clause-effect : goal.returns-then-is_err-clause-effect
returns-then-is_err-clause-effect g c = record {
  same = failed_view g.P.Place.facts c.args.self.now c.read_one.new.self _ _ c.self-2.view_is c.read_one.ensures.same c.saturating_add-self-inside.ensures c.read_one.ensures.honest c.read_one.ensures.seen;
  device = λ is. refl;
}

pub returns-clause-page : goal.returns-clause-page
returns-clause-page g c =
    let place = g.P.Place.facts c.args.self.now.place in
    page_of place.honest c.args.self.now.count c.args.n place.seen.table c.read_one.new.page (was_ok c.read_one.result _ c.if-is_err.ensures.value c.read_one.ensures.page)

pub returns-clause-missing : goal.returns-clause-missing
returns-clause-missing g c = rw (← c.self.view_is) (λ wrong. cc, λ past. absurd (within_count (g.P.Place.facts c.self.inside.place).honest c.self.inside.count c.args.n (g.P.Place.facts c.self.inside.place).seen.table c.self.invariant.0 c.if-n-self.false past))

pub returns-clause-kept : goal.returns-clause-kept
returns-clause-kept g c = rw (← c.self.view_is) (λ past. absurd (within_count (g.P.Place.facts c.self.inside.place).honest c.self.inside.count c.args.n (g.P.Place.facts c.self.inside.place).seen.table c.self.invariant.0 c.if-n-self.false past))

pub returns-clause-effect : goal.returns-clause-effect
returns-clause-effect g c = record {
  same = read_view g.P.Place.facts c.args.self.now c.read_one.new.self c.read_one.ensures.same c.read_one.ensures.honest c.read_one.ensures.seen;
  device = λ is. refl;
}
