use Rattle.std.proofs.Common.{◌++◌, List, ap, arith, ◌∙◌}
use Rattle.ub_answer.proofs.ShapedFacts.{rows-of_both}
use Rattle.ub_query.specs.Meaning.{limited}
use Rattle.ub_query.specs.declared.cell.Cell.{Cell}
use Rattle.ub_answer.proofs.cells.Cells.extend.Goals as goal

pub overflow_add-self : goal.overflow_add-self
overflow_add-self c =
    let both = rows-of_both c.self.inside.count c.self.inside.width c.more.inside.count c.more.inside.width c.self.inside.cells.items c.more.inside.cells.items
    c.extend_from_slice.new.self.items c.args.self.now c.args.more.now c.self.invariant c.more.invariant c.self.view_is c.more.view_is c.requires.wide
    (c.in_ok-extend_from_slice.ensures.items ∙ ap (λ (cells : List Cell). c.self.inside.cells.items ++ cells) c.as_slice.ensures.value)
    c.width_of-self-inside.result c.width_of-self-inside.ensures.none c.width_of-self-inside.ensures.some in
    let long = c.extend_from_slice.new.self.ok in
    let short = c.extend_from_slice.new.self.small in
    record { fits = omega arith }

pub invariant_of-self-2 : goal.invariant_of-self-2
invariant_of-self-2 c =
    let both = rows-of_both c.self.inside.count c.self.inside.width c.more.inside.count c.more.inside.width c.self.inside.cells.items c.more.inside.cells.items
    c.extend_from_slice.new.self.items c.args.self.now c.args.more.now c.self.invariant c.more.invariant c.self.view_is c.more.view_is c.requires.wide
    (c.in_ok-extend_from_slice.ensures.items ∙ ap (λ (cells : List Cell). c.self.inside.cells.items ++ cells) c.as_slice.ensures.value)
    c.width_of-self-inside.result c.width_of-self-inside.ensures.none c.width_of-self-inside.ensures.some in
    both.1

pub returns : goal.returns
returns c =
    let both = rows-of_both c.self.inside.count c.self.inside.width c.more.inside.count c.more.inside.width c.self.inside.cells.items c.more.inside.cells.items
    c.extend_from_slice.new.self.items c.args.self.now c.args.more.now c.self.invariant c.more.invariant c.self.view_is c.more.view_is c.requires.wide
    (c.in_ok-extend_from_slice.ensures.items ∙ ap (λ (cells : List Cell). c.self.inside.cells.items ++ cells) c.as_slice.ensures.value)
    c.width_of-self-inside.result c.width_of-self-inside.ensures.none c.width_of-self-inside.ensures.some in
    c.keep_first.ensures ∙ ap (limited c.args.limit) both.2
