use Rattle.std.proofs.Common.{arith, ◌∙◌, ap, sym}
use Rattle.std.specs.Option.{is_some, option_map}
use Rattle.std.specs.Box.{with_value}
use Rattle.ub_overlay.proofs.SlotFacts as facts
use Rattle.ub_overlay.proofs.changes.Changes.write.Goals as goal
use Rattle.ub_overlay.proofs.changes.Changes.write.Goals.{in-Some, in-None}

pub returns-then-at-len-clause-held : goal.returns-then-at-len-clause-held
returns-then-at-len-clause-held c = rw (← c.self.view_is)
    (sym (ap is_some (facts.found c.args.n c.self.inside.slots.items ∙ facts.no_page c.self.inside.slots.items c.args.n (omega (arith, c.len.ensures, c.if-at-len.true)))))

pub returns-clause-held : goal.returns-clause-held
returns-clause-held c =
    let page = facts.found c.args.n c.self.inside.slots.items
    ∙ facts.slot_page c.self.inside.slots.items c.args.n _ _ (omega (arith, c.len.ensures, c.if-at-len.false)) c.index_mut.ensures.value in
    rw (← c.self.view_is) (elim c.match-index_mut.branch [
      | in-Some w ↦ w.result-is ∙ sym (ap is_some (page ∙ ap (option_map (λ b. b.value)) w.in-Some.is))
      | in-None w ↦ w.result-is ∙ sym (ap is_some (page ∙ ap (option_map (λ b. b.value)) w.in-None.is))
    ])

pub returns-clause-written : goal.returns-clause-written
returns-clause-written c t = elim c.match-index_mut.branch [
  | in-Some w ↦ rw (w.self-inside-is, ← c.self.view_is)
      (facts.put_at c.args.n (with_value w.in-Some.held c.args.page.now) c.self.inside.slots.items (omega (arith, c.len.ensures, c.if-at-len.false)))
  | in-None w ↦ let bad = rw w.result-is at t in cc
]
