use Rattle.std.proofs.Common.{◌≡◌, ◌∙◌, ap, get_or, List, ℕ, map}
use Rattle.ub_region.proofs.IndexFacts.{number_of_key, other_number, same_number}
use Rattle.ub_region.proofs.region_page.RegionPage.has_at.Goals as goal
use Rattle.ub_table.specs.declared.row.Key.{Key}

pub returns-then-key-numbers : goal.returns-then-key-numbers
returns-then-key-numbers c = λ own there.
    let v = c.args.self.now in
    let found = c.key.ensures in
    let same : c.key.result ≡ own = cc in
    let number = ap (λ (ns : List ℕ). get_or ns c.args.i 0) c.numbers.ensures.numbers ∙ number_of_key v.dims v.region.rows c.args.i own there in
    rw same (same_number c.args.key.now own (c.if-key-numbers.true ∙ number))

pub returns-else-key-numbers : goal.returns-else-key-numbers
returns-else-key-numbers c = λ own there.
    let v = c.args.self.now in
    let number = ap (λ (ns : List ℕ). get_or ns c.args.i 0) c.numbers.ensures.numbers ∙ number_of_key v.dims v.region.rows c.args.i own there in
    other_number c.args.key.now own _ number c.if-key-numbers.false
