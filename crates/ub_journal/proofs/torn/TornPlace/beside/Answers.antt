use Rattle.std.proofs.Common.{◌∙◌, arith, subst, sym, take}
use Rattle.std.proofs.lemmas.List.{take_all}
use Rattle.ub_journal.specs.Torn.{first_image, seen_after}
use Rattle.ub_journal.specs.inner.TornBeside.{IsBeside}
use Rattle.ub_journal.proofs.TornFacts.{seen_at}
use Rattle.ub_journal.proofs.torn.TornPlace.beside.Goals as goal

pub loop-deed-preserved : goal.loop-deed-preserved
loop-deed-preserved c =
    let inv = c.loop-deed.invariant in
    let first = first_image c.args.self.now in
    let xs = c.as_slice-deed-items.result.now in
    record {
      items = inv.items;
      beside = subst (IsBeside c.after-found.result) (sym (seen_at first xs c.loop-deed.deed-index c.deed-item.result (omega arith) c.deed-item.is))
          (c.after-found.ensures (seen_after first (take c.loop-deed.deed-index xs)) inv.beside);
    }

pub returns : goal.returns
returns c =
    let inv = c.loop-deed.invariant in
    let xs = c.as_slice-deed-items.result.now in
    subst (λ l. IsBeside c.loop-deed.found (seen_after (first_image c.args.self.now) l)) (take_all c.loop-deed.deed-index xs (omega arith) ∙ inv.items) inv.beside
