use Rattle.std.proofs.Common.{[], ◌∷◌, refl}
use Rattle.ub_journal_page.proofs.NumberFacts.{none_on}
use Rattle.ub_journal_page.proofs.numbers.spell_head.Goals as goal

pub returns : goal.returns
returns c =
    let one = c.put.ensures [] refl (none_on _ refl) in
    let two = c.put-2.ensures (_ ∷ []) refl one in
    let three = c.put-3.ensures (_ ∷ _ ∷ []) refl two in
    c.put-4.ensures (_ ∷ _ ∷ _ ∷ []) refl three
