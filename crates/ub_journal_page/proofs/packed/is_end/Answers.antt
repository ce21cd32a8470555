use Rattle.std.proofs.Common.{◌≡◌, ◌+◌, sym, ◌∙◌}
use Rattle.std.proofs.lemmas.Bool.{eq-eqb}
use Rattle.ub_journal_page.specs.Pages.{byte_parts}
use Rattle.ub_journal_page.proofs.StreamFacts.{full_on, rest_blank}
use Rattle.ub_journal_page.proofs.packed.is_end.Goals as goal

pub returns-then-within-eq0 : goal.returns-then-within-eq0
returns-then-within-eq0 c ps long three read =
    let count : c.args.pages ≡ 3 + byte_parts c.args.cursor.now.place = sym c.from.ensures ∙ c.if-from-cursor.true in
    ((λ yes. (count, full_on ps c.args.cursor.now.place c.args.cursor.now.page read c.if-within-eq0.true (long ∙ count))), (λ are. eq-eqb _ 0 c.if-within-eq0.true))

pub returns-else-within-eq0 : goal.returns-else-within-eq0
returns-else-within-eq0 c ps long three read =
    let count : c.args.pages ≡ 3 + byte_parts c.args.cursor.now.place = sym c.from.ensures ∙ c.if-from-cursor.true in
    let both = rest_blank ps c.args.cursor.now.place c.args.cursor.now.page read c.if-within-eq0.false (long ∙ count) in
    ((λ yes. (count, both.0 (c.are_zero.ensures.0 yes))), (λ are. c.are_zero.ensures.1 (both.1 are.1)))
