use Rattle.std.proofs.Common.{◌≡◌, ◌≤◌, ◌+◌, ◌∙◌, ℕ, Err, IfErr, ap, rules, subst}
use Rattle.ub_index_change.proofs.Common.{Change, index_view, IndexView, IsSettleFault, Keeps, Prepares, Told, Turns, TurnsRoot}
use Rattle.ub_index.specs.declared.descent.Place.{Place}
use Rattle.ub_index_change.proofs.ReadyFacts.{settled_all, turn_refused}
use Rattle.ub_index_change.proofs.preparing.prepare.Goals as goal

pub returns : goal.returns
returns g c = record {
  bounds = search rules;
  made = search rules;
  few = search rules;
  narrow = search rules;
  forgotten = search rules;
  still = search rules;
  effect =
      let root = c.root-root.result.0 in
      let levels = c.root-root.result.1 in
      let last = c.last.result in
      let is : index_view root levels last ≡ c.args.index.now =
      ap (λ (p : ℕ × ℕ). index_view p.0 p.1 last) c.root-root.ensures.root ∙ ap (λ (n : ℕ). index_view c.args.index.now.root c.args.index.now.levels n) c.last.ensures in
      settled_all Told Change c.args.index.now c.args.aim.now.key c.args.aim.now.added c.args.sheets c.turn.new.sheets c.args.pager.now c.turn.new.pager c.in_ok-told.told c.settled.result
      (subst (λ (v : IndexView). c.turn.new.sheets.next ≤ c.args.sheets.next + v.levels) is c.in_ok-told.ensures.few.1) (search rules)
      (λ honest.
      subst (λ (v : IndexView). TurnsRoot v c.args.pager.now.store c.args.aim.now.key c.args.aim.now.added c.args.sheets c.turn.new.sheets c.in_ok-told.told) is
      (subst (λ (p : Place). Turns last c.args.pager.now.store.pages c.args.aim.now.key c.args.aim.now.added levels p.entry p.next c.args.sheets c.turn.new.sheets c.in_ok-told.told)
      c.root_place-place.ensures (c.in_ok-told.ensures.turned honest)))
      c.in_ok-told.ensures.effect.same (subst (λ (v : IndexView). Keeps v.last c.args.pager.now c.turn.new.pager) is (c.in_ok-told.ensures.effect.checked, c.in_ok-told.ensures.effect.more))
      (subst (λ (v : IndexView). IfErr c.settled.result (IsSettleFault v.root v.levels c.in_ok-told.told c.turn.new.sheets)) is c.settled.ensures.refused);
}

pub returns-in_err-told : goal.returns-in_err-told
returns-in_err-told g c = record {
  bounds = search rules;
  made = search rules;
  few = search rules;
  narrow = search rules;
  forgotten = search rules;
  still = search rules;
  effect =
      let root = c.root-root.result.0 in
      let levels = c.root-root.result.1 in
      let last = c.last.result in
      let is : index_view root levels last ≡ c.args.index.now =
      ap (λ (p : ℕ × ℕ). index_view p.0 p.1 last) c.root-root.ensures.root ∙ ap (λ (n : ℕ). index_view c.args.index.now.root c.args.index.now.levels n) c.last.ensures in
      turn_refused Change Told root levels last c.args.index.now c.args.aim.now.key c.args.aim.now.added c.args.sheets c.args.pager.now c.turn.new.pager
      c.from_residual.result c.in_err-told.field-0.0 is c.from_residual.ensures.1
      (subst (λ (p : Place). Prepares {A = Told} last levels c.args.aim.now.key p.entry p.next c.args.sheets.next c.args.pager.now c.turn.new.pager (Err c.in_err-told.field-0.0))
      c.root_place-place.ensures c.in_err-told.ensures.effect);
}
