use Rattle.std.proofs.Common.{◌+◌, [], refl, rules}
use Rattle.ub_index_change.proofs.Common.{added_at, ChangeView, if_ok, page_count, so_far}
use Rattle.ub_index_change.proofs.FullFacts.{takes_needed}
use Rattle.ub_index_change.proofs.ReadyFacts.{IsAddition, added_both}
use Rattle.ub_index_change.proofs.SheetFacts.{added_pages}
use Rattle.ub_index_change.proofs.preparing.prepare_add.Goals as goal

pub returns : goal.returns
returns g c = record {
  made = search rules;
  few = search rules;
  takes = λ honest.
      if_ok c.prepare.result (IsAddition c.args.index.now c.args.pager.now.store c.args.region.now c.args.first.now) _
      (λ (change : ChangeView) made.
      takes_needed c.args.index.now c.args.pager.now.store c.args.region.now.first (added_at c.args.first.now c.args.pager.now.store) (page_count c.args.pager.now.store)
      (so_far [] (page_count c.args.pager.now.store + 1)) made.0 made.1 change refl (search rules) made.2 made.3)
      (search (rules, honest));
  pages = λ honest leads within.
      if_ok c.prepare.result (IsAddition c.args.index.now c.args.pager.now.store c.args.region.now c.args.first.now) _
      (λ (change : ChangeView) made.
      added_pages c.args.index.now c.args.pager.now.store c.args.region.now c.args.first.now change c.prepare.ensures.bounds.0 c.prepare.ensures.bounds.2 c.prepare.ensures.bounds.3 (search rules) leads within made)
      (search (rules, honest));
  ready = λ i is own at within.
      let honest = is.honest in
      if_ok c.prepare.result (IsAddition c.args.index.now c.args.pager.now.store c.args.region.now c.args.first.now) _
      (λ (change : ChangeView) made.
      (added_both c.args.index.now c.args.pager.now.store i c.args.region.now c.args.first.now change c.prepare.ensures.bounds.0 c.prepare.ensures.bounds.1 (search rules) is own at within made).0)
      (search (rules, honest));
  fills = λ i is own at within.
      let honest = is.honest in
      if_ok c.prepare.result (IsAddition c.args.index.now c.args.pager.now.store c.args.region.now c.args.first.now) _
      (λ (change : ChangeView) made.
      (added_both c.args.index.now c.args.pager.now.store i c.args.region.now c.args.first.now change c.prepare.ensures.bounds.0 c.prepare.ensures.bounds.1 (search rules) is own at within made).1)
      (search (rules, honest));
  forgotten = search rules;
  effect = search rules;
}
