use Rattle.std.proofs.Common.{◌+◌, ◌-◌, ◌≤◌, ◌∙◌, length, List, ap, arith, subst, sym, rules}
use Rattle.ub_index_change.proofs.Common.{both_on, Entry, if_ok, IsHonest, Mends, NeedsNoGrowth, pager_so, PagerView, steps_keep, StoreFacts, Told, Turns}
use Rattle.ub_index_change.specs.declared.turning.Opened.{Opened}
use Rattle.ub_index_change.proofs.BelowFacts.{still_on}
use Rattle.ub_index_change.proofs.ClimbFacts.{below_refused, mend_refused, open_refused, turns_on}
use Rattle.ub_index_change.proofs.turning.+turn.Goals as goal

pub returns-in_err-opened : goal.returns-in_err-opened
returns-in_err-opened g t c = record {
  turned = search rules;
  few = search rules;
  narrow = search rules;
  still = search rules;
  forgotten = search rules;
  effect =
      open_refused Told Opened c.args.last c.args.level c.args.aim.now.key c.args.place.now.entry c.args.place.now.next c.args.sheets.now.next c.args.pager.now c.open.new.pager
      c.from_residual.result c.in_err-opened.field-0.0 (omega (arith, c.if-level-eq0.false)) c.from_residual.ensures.1 c.in_err-opened.ensures.effect;
}

pub returns-in_err-news : goal.returns-in_err-news
returns-in_err-news g t c = record {
  turned = search rules;
  few = search rules;
  narrow = search rules;
  still = search rules;
  forgotten = search rules;
  effect =
      below_refused Told Told c.args.last c.args.level c.args.aim.now.key c.args.place.now.entry c.in_ok-opened.opened.below.entry c.args.place.now.next c.in_ok-opened.opened.below.next
      c.args.sheets.now.next c.args.pager.now c.open.new.pager c.turn.new.pager c.from_residual-in_err-news.result c.in_err-news.field-0.0 (omega (arith, c.if-level-eq0.false))
      (ap (λ (p : PagerView). p.store) c.in_ok-opened.ensures.effect.same) (ap (λ (p : PagerView). p.trace) c.in_ok-opened.ensures.effect.same) (steps_keep c.in_ok-opened.ensures.effect)
      (λ honest. let o = c.in_ok-opened.ensures.opened honest in record { named = o.named; falls = o.falls })
      c.from_residual-in_err-news.ensures.1 c.in_err-news.ensures.effect;
}

pub returns : goal.returns
returns g t c = record {
  turned = λ honest.
      let same = ap (λ (p : PagerView). p.store) c.in_ok-opened.ensures.effect.same in
      let turns = subst (λ (s : StoreFacts). Turns c.args.last s.pages c.args.aim.now.key c.args.aim.now.added (c.args.level - 1) c.in_ok-opened.opened.below.entry c.in_ok-opened.opened.below.next c.args.sheets.now
      c.turn.new.sheets c.in_ok-news.news) same
      (c.in_ok-news.ensures.turned (subst (λ (s : StoreFacts). IsHonest s) (sym same) honest)) in
      if_ok c.mend.result
      (Mends c.args.level c.args.place.now.entry c.in_ok-opened.opened.before.items c.in_ok-opened.opened.below.entry c.deref.result.now c.in_ok-news.news c.turn.new.sheets c.mend.new.self) _
      (λ told mends.
      turns_on c.args.last c.args.pager.now.store.pages c.args.aim.now.key c.args.aim.now.added c.args.level c.args.place.now.entry c.args.place.now.next
      c.in_ok-opened.opened.before.items c.in_ok-opened.opened.after.items c.in_ok-opened.opened.below.entry c.in_ok-opened.opened.below.next c.args.sheets.now c.turn.new.sheets c.mend.new.self
      c.in_ok-news.news told (omega (arith, c.if-level-eq0.false)) (c.in_ok-opened.ensures.opened honest) turns
      (subst (λ (xs : List Entry). Mends c.args.level c.args.place.now.entry c.in_ok-opened.opened.before.items c.in_ok-opened.opened.below.entry xs c.in_ok-news.news c.turn.new.sheets c.mend.new.self told)
      c.deref.ensures.value mends))
      c.mend.ensures.told;
  few = search rules;
  narrow = search rules;
  still = λ none.
      still_on c.args.level c.args.place.now.entry c.in_ok-opened.opened.before.items c.in_ok-opened.opened.below.entry c.deref.result.now c.in_ok-news.news c.args.sheets.now c.turn.new.sheets c.mend.new.self
      c.mend.result c.mend.ensures.told (c.mend.ensures.narrow (c.in_ok-news.ensures.narrow none).0).0 (c.in_ok-news.ensures.still none);
  forgotten = search rules;
  effect =
      mend_refused c.args.last c.args.level c.args.aim.now.key c.args.aim.now.added c.args.place.now.entry c.args.place.now.next c.in_ok-opened.opened.before.items
      c.in_ok-opened.opened.below.entry c.in_ok-opened.opened.below.next c.in_ok-opened.opened.after.items c.args.sheets.now c.turn.new.sheets c.in_ok-news.news c.args.pager.now c.turn.new.pager
      c.mend.result (omega (arith, c.if-level-eq0.false)) (c.in_ok-news.ensures.few).1 (λ honest. c.in_ok-opened.ensures.opened honest)
      (λ honest.
      let same = ap (λ (p : PagerView). p.store) c.in_ok-opened.ensures.effect.same in
      subst (λ (s : StoreFacts). Turns c.args.last s.pages c.args.aim.now.key c.args.aim.now.added (c.args.level - 1) c.in_ok-opened.opened.below.entry c.in_ok-opened.opened.below.next c.args.sheets.now
      c.turn.new.sheets c.in_ok-news.news) same (c.in_ok-news.ensures.turned (subst (λ (s : StoreFacts). IsHonest s) (sym same) honest)))
      (pager_so c.args.pager.now c.turn.new.pager c.args.pager.now.store
      (ap (λ (p : PagerView). p.store) c.in_ok-news.ensures.effect.same ∙ ap (λ (p : PagerView). p.store) c.in_ok-opened.ensures.effect.same)
      (ap (λ (p : PagerView). p.trace) c.in_ok-news.ensures.effect.same ∙ ap (λ (p : PagerView). p.trace) c.in_ok-opened.ensures.effect.same))
      (both_on c.args.last c.args.pager.now c.open.new.pager c.turn.new.pager (steps_keep c.in_ok-opened.ensures.effect) (c.in_ok-news.ensures.effect.checked, c.in_ok-news.ensures.effect.more))
      c.mend.ensures.refused c.mend.ensures.narrow
      (subst (λ (xs : List Entry). length c.in_ok-opened.opened.before.items + length xs + 2 ≤ 170 → NeedsNoGrowth c.mend.result) c.deref.ensures.value c.mend.ensures.fits);
}
