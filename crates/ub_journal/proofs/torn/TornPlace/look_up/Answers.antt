use Rattle.std.proofs.Common.{◌∙◌, arith, subst, sym, take}
use Rattle.std.proofs.lemmas.List.{take_all}
use Rattle.ub_journal.specs.Torn.{HoldsAt, first_image, seen_after}
use Rattle.ub_journal.proofs.TornFacts.{seen_at}
use Rattle.ub_journal.proofs.torn.TornPlace.look_up.Goals as goal

pub loop-deed-preserved : goal.loop-deed-preserved
loop-deed-preserved c =
    let inv = c.loop-deed.invariant in
    let first = first_image c.args.self.now in
    let xs = c.as_slice-deed-items.result.now in
    record {
      items = inv.items;
      holds = subst (λ i. HoldsAt i c.args.n c.redo.new.count c.redo.new.page) (sym (seen_at first xs c.loop-deed.deed-index c.deed-item.result (omega arith) c.deed-item.is))
          (c.redo.ensures (seen_after first (take c.loop-deed.deed-index xs)) inv.holds);
    }

pub returns : goal.returns
returns c =
    let inv = c.loop-deed.invariant in
    let xs = c.as_slice-deed-items.result.now in
    record {
      seen = subst (λ l. HoldsAt (seen_after (first_image c.args.self.now) l) c.args.n c.loop-deed.count c.loop-deed.page)
          (take_all c.loop-deed.deed-index xs (omega arith) ∙ inv.items) inv.holds;
    }
