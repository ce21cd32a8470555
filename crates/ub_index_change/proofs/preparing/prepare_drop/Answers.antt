use Rattle.std.proofs.Common.{[], None, ap, rules, subst, sym}
use Rattle.ub_index_change.proofs.Common.{AreIndexPages, Change, ChangeView, if_ok, IsPrepared, LowersTo, page_count, PagerView, so_far}
use Rattle.ub_index_change.proofs.DropFacts.{dropped_effect, dropped_low, dropped_makes}
use Rattle.ub_index_change.proofs.SheetFacts.{dropped_pages}
use Rattle.ub_index_change.proofs.preparing.prepare_drop.Goals as goal

pub returns : goal.returns
returns g c = record {
  made = search rules;
  pages = λ honest.
      if_ok c.lowered.result (LowersTo c.args.pager.now.store.pages c.in_ok-change.change) _
      (λ (change : ChangeView) lowered.
      subst (λ (v : ChangeView). AreIndexPages c.args.index.now.last v.sheets) (sym lowered.same)
      (dropped_pages c.args.index.now c.args.pager.now.store c.args.region.now.first c.in_ok-change.change c.in_ok-change.ensures.bounds.0 c.in_ok-change.ensures.bounds.2 c.in_ok-change.ensures.bounds.3
      (search rules) (search (rules, honest))))
      (search (rules, honest));
  ready = λ i is own at later.
      let honest = is.honest in
      let first : IsPrepared c.args.index.now c.args.pager.now.store c.args.region.now.first None (page_count c.args.pager.now.store) (so_far [] (page_count c.args.pager.now.store)) c.in_ok-change.change =
      search (rules, honest) in
      if_ok c.lowered.result (LowersTo c.args.pager.now.store.pages c.in_ok-change.change) _
      (λ (change : ChangeView) lowered.
      dropped_makes c.args.index.now c.args.pager.now.store i c.args.region.now c.in_ok-change.ensures.bounds.0 c.in_ok-change.ensures.bounds.1 (search rules) is own at later c.in_ok-change.change
      first.0 first.1 first.2 first.3 change lowered)
      (search (rules, honest));
  low = λ i is own at later.
      let honest = is.honest in
      let first : IsPrepared c.args.index.now c.args.pager.now.store c.args.region.now.first None (page_count c.args.pager.now.store) (so_far [] (page_count c.args.pager.now.store)) c.in_ok-change.change =
      search (rules, honest) in
      if_ok c.lowered.result (LowersTo c.args.pager.now.store.pages c.in_ok-change.change) _
      (λ (change : ChangeView) lowered.
      dropped_low c.args.index.now c.args.pager.now.store i c.args.region.now c.in_ok-change.ensures.bounds.0 c.in_ok-change.ensures.bounds.1 (search rules) is own at later c.in_ok-change.change
      first.0 first.1 first.2 first.3 change lowered)
      (search (rules, honest));
  next = search rules;
  forgotten = search rules;
  effect =
      dropped_effect Change c.args.index.now c.last.result c.args.region.now.first c.args.pager.now c.prepare.new.pager c.lowered.new.pager c.in_ok-change.change c.lowered.result
      c.last.ensures
      (ap (λ (p : PagerView). p.store) c.in_ok-change.ensures.effect.same) (ap (λ (p : PagerView). p.trace) c.in_ok-change.ensures.effect.same) (c.in_ok-change.ensures.effect.checked, c.in_ok-change.ensures.effect.more)
      (λ honest. search (rules, honest)) c.lowered.ensures.effect;
}
