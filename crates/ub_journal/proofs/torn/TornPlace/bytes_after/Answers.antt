use Rattle.std.proofs.Common.{◌≡◌, ◌∙◌, arith, subst, ap, take}
use Rattle.std.proofs.lemmas.List.{take_all}
use Rattle.ub_journal.specs.Image.{Image}
use Rattle.ub_journal.specs.Torn.{first_image, seen_after}
use Rattle.ub_journal.proofs.TornFacts.{seen_at}
use Rattle.ub_journal.proofs.torn.TornPlace.bytes_after.Goals as goal

pub loop-deed-preserved : goal.loop-deed-preserved
loop-deed-preserved c =
    let inv = c.loop-deed.invariant in
    let first = first_image c.args.self.now in
    let xs = c.as_slice-deed-items.result.now in
    record {
      items = inv.items;
      rest = ap (λ (i : Image). i.rest) (seen_at first xs c.loop-deed.deed-index c.deed-item.result (omega arith) c.deed-item.is)
          ∙ c.rest_after-rest.ensures (seen_after first (take c.loop-deed.deed-index xs)) inv.rest;
    }

pub returns : goal.returns
returns c =
    let inv = c.loop-deed.invariant in
    let xs = c.as_slice-deed-items.result.now in
    subst (λ l. (seen_after (first_image c.args.self.now) l).rest ≡ c.loop-deed.rest) (take_all c.loop-deed.deed-index xs (omega arith) ∙ inv.items) inv.rest
