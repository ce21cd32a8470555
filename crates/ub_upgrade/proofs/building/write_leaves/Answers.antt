use Rattle.std.proofs.Common.{◌-◌, ◌∙◌, ◌++◌, [], ◌∷◌, ap, arith, refl, subst, sym, List, rules}
use Rattle.ub_upgrade.proofs.Common.{adds_self, adds_trans, AreBelow, directory_page, Entry, HeadingView, honest_after, index_page, IsPage, IsReadUpTo}
use Rattle.ub_upgrade.proofs.Common.{length-append, Level, not_after, page_count, StoreFacts}
use Rattle.ub_upgrade.proofs.LeafFacts.{begun_way, more_way, read_ended, refused_by, same_store}
use Rattle.ub_upgrade.proofs.building.write_leaves.Goals as goal

pub loop-place-init : goal.loop-place-init
loop-place-init g c =
    let start = c.args.pager.now in
    let first = c.pages-first.ensures in
    record {
      within = omega arith;
      start = first;
      more = omega arith;
      few = omega arith;
      some = omega arith;
      full = λ more. omega arith;
      old = refl;
      adds = adds_self start;
      counts = (refl, refl);
      way = begun_way (g.O.PageStore.facts c.args.old.now) start.store c.args.heading.now start.store.pages c.pages-first.result
          (page_count start.store - c.pages-first.result) c.heading.inside.root
          (sym (ap (λ (h : HeadingView). h.root) c.heading.view_is)) c.requires.root c.requires.small c.requires.regions (omega arith);
    }

pub returns-in_err-part-clause-over : goal.returns-in_err-part-clause-over
returns-in_err-part-clause-over g c = record {
  refused =
      let inv = c.loop-place.invariant in
      let way = inv.way in
      let regions = ap (λ (h : HeadingView). h.regions) c.heading.view_is in
      let going = c.loop-place-test.true in
      let up = subst (λ (s : StoreFacts). IsReadUpTo s c.args.heading.now way.chain way.entries c.loop-place.place.next) (sym inv.old) (way.going (omega arith)) in
      refused_by (g.O.PageStore.facts c.args.old.now) (g.O.PageStore.facts c.loop-place.old) c.args.pager.now.store c.args.heading.now c.from_residual.result c.in_err-part.field-0.0
      c.from_residual.ensures.1 inv.old (c.in_err-part.ensures.refused way.chain way.entries c.args.pager.now.store up way.met);
  there = search rules;
  effect =
      let inv = c.loop-place.invariant in
      let way = inv.way in
      let regions = ap (λ (h : HeadingView). h.regions) c.heading.view_is in
      let going = c.loop-place-test.true in
      let up = subst (λ (s : StoreFacts). IsReadUpTo s c.args.heading.now way.chain way.entries c.loop-place.place.next) (sym inv.old) (way.going (omega arith)) in
      read_ended Level (g.O.PageStore.facts c.args.old.now) (g.O.PageStore.facts c.loop-place.old) (g.O.PageStore.facts c.read_part.new.old) c.args.heading.now c.args.pager.now c.loop-place.pager
      c.from_residual.result c.in_err-part.field-0.0 c.from_residual.ensures.1 inv.old c.in_err-part.ensures.effect inv.adds inv.counts
      (λ new. c.in_err-part.ensures.refused way.chain way.entries new up way.met);
}

pub loop-place-preserved : goal.loop-place-preserved
loop-place-preserved g c =
    let inv = c.loop-place.invariant in
    let way = inv.way in
    let start = c.args.pager.now in
    let now = c.loop-place.pager in
    let then = c.add_index_page.new.pager in
    let part = c.in_ok-part.part in
    let told = c.in_ok-part.ensures in
    let listing = told.tells.listing in
    let some = listing.some in
    let fits = told.tells.part.0 in
    let place = c.loop-place.place in
    let met = (c.place_behind-place.ensures.met way.entries way.met).met in
    let was = way.met.met in
    let long = length-append way.entries part.entries in
    let entries = c.entries.ensures.entries in
    let more = inv.more in
    let few = inv.few in
    let regions = ap (λ (h : HeadingView). h.regions) c.heading.view_is in
    let going = c.loop-place-test.true in
    let full = inv.full (omega arith) in
    let count = c.in_default.ensures.added.0 in
    let same = same_store (g.O.PageStore.facts c.args.old.now) (g.O.PageStore.facts c.loop-place.old) (g.O.PageStore.facts c.read_part.new.old) inv.old c.in_ok-part.ensures.effect in
    record {
      within = omega arith;
      start = inv.start;
      more = omega arith;
      few = omega arith;
      some = omega arith;
      full = λ left. omega arith;
      old = same;
      adds = adds_trans start now then inv.adds c.in_default.ensures.effect.adds;
      counts = not_after start.store now.store then.store inv.counts c.in_default.ensures.effect.counts;
      way = more_way (g.O.PageStore.facts c.args.old.now) start.store c.args.heading.now now.store.pages then.store.pages c.pages-first.result place c.place_behind-place.result part way
          (omega arith) more listing (subst (λ (s : StoreFacts). IsPage s place.next (directory_page part)) inv.old told.tells.page) told.tells.part told.begun
          (subst (λ (s : StoreFacts). AreBelow (page_count s) part.entries) inv.old told.tells.below)
          (λ honest. let still = honest_after start now inv.adds honest in
          c.in_default.ensures.added.1 still ∙ ap (λ (es : List Entry). now.store.pages ++ index_page (record { level = 1; entries = es }) ∷ []) entries)
          c.place_behind-place.ensures.met c.place_behind-place.ensures.next;
    }
