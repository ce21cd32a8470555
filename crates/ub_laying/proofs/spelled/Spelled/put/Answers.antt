use Rattle.std.proofs.Common.{◌≡◌, ◌<◌, ◌∙◌, ℕ, List, Some, ap, arith, length, slice_get, subst, sym}
use Rattle.ub_laying.proofs.SpelledFacts.{length_from, page_at}
use Rattle.ub_laying.proofs.spelled.Spelled.put.Goals as goal
use Rattle.ub_laying.specs.Spelled.{held_or, spelled}

pub index-requires : goal.index-requires
index-requires c =
    let inside = c.self.inside in
    let there = subst (λ (pages : List (List ℕ)). c.args.n < length pages) (sym c.self.view_is) c.requires in
    omega (arith, there, length_from (spelled inside.schema.now inside.grown.now) 0 inside.held.items, inside.held.ok.0)

pub returns : goal.returns
returns c =
    let inside = c.self.inside in
    let spell = spelled inside.schema.now inside.grown.now in
    let there = subst (λ (pages : List (List ℕ)). c.args.n < length pages) (sym c.self.view_is) c.requires in
    subst (λ (pages : List (List ℕ)). slice_get pages c.args.n ≡ Some c.put_page.new.page) c.self.view_is
    (page_at spell c.args.n inside.held.items c.index.result.now there ∙ ap Some (ap (held_or (spell c.args.n)) (sym c.index.ensures) ∙ sym c.put_page.ensures))
