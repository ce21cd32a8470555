use Rattle.std.proofs.Common.{◌≡◌, ◌∙◌, ℕ, List, ap, arith, length, take, drop, ◌+◌}
use Rattle.ub_index_change.proofs.Common.{entries_on, Entry, falls_around, first_or, length-node_on, node_on}
use Rattle.ub_index_change.proofs.turning.opened_at.Goals as goal

pub around-requires-clause-within : goal.around-requires-clause-within
around-requires-clause-within c =
    let all : c.as_slice.result.now ≡ (node_on c.args.page.now).entries =
    c.as_slice.ensures.entries ∙ (c.read_entries-held.ensures ∙ ap (λ (n : ℕ). entries_on 16 n c.args.page.now) c.requires.count) in
    let long = ap (λ (xs : List Entry). length xs) all ∙ length-node_on c.args.page.now in
    omega (arith, c.slot_in-slot.ensures.within, c.requires.count, long)

pub returns-clause-falls : goal.returns-clause-falls
returns-clause-falls c =
    let all : c.as_slice.result.now ≡ (node_on c.args.page.now).entries =
    c.as_slice.ensures.entries ∙ (c.read_entries-held.ensures ∙ ap (λ (n : ℕ). entries_on 16 n c.args.page.now) c.requires.count) in
    let behind = c.in_ok-before.ensures.after ∙ ap (λ (xs : List Entry). drop (c.slot_in-slot.result + 1) xs) all in
    falls_around c.args.page.now c.args.key.now c.args.end c.first_of.result c.args.count c.slot_in-slot.result c.entry_at.result _ _ c.entry_at.ensures c.requires.count
    c.slot_in-slot.ensures (c.first_of.ensures ∙ ap (λ (xs : List Entry). first_or xs c.args.end) (c.deref.ensures.value ∙ behind))
    (c.in_ok-before.ensures.before ∙ ap (λ (xs : List Entry). take c.slot_in-slot.result xs) all) behind
