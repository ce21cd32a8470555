-- Each group puts its line behind those before, and all of them are cut into lines again.
use Rattle.std.proofs.Common.{◌≡◌, ◌*◌, ◌++◌, ◌∙◌, ℕ, Bor, List, ap, arith, length, subst, sym, take}
use Rattle.std.proofs.lemmas.Result.{IfOk-from_err}
use Rattle.std.proofs.lemmas.List.{take_all}
use Rattle.std.specs.List.{AllByRecursion, flat_map}
use Rattle.ub_answer.proofs.CutFacts.{more-long, pieces-next}
use Rattle.ub_answer.specs.declared.groups.Values.{Values}
use Rattle.ub_answer.specs.inner.Cut.{cut}
use Rattle.ub_query.specs.declared.cell.Cell.{Cell}
use Rattle.ub_answer.proofs.groups.cells_of_entries.Goals as goal

pub loop-entry-preserved : goal.loop-entry-preserved
loop-entry-preserved c = record {
  count = more-long c.loop-entry.entry-index (length c.args.items.now) (length c.loop-entry.cells.items) (length c.push_cells.new.cells.items)
      c.loop-entry.invariant.count
      c.in_ok-push_cells.ensures.count;
  cells = pieces-next (λ (e : Bor Values × Bor (List Cell)). take (length c.args.items.now) e.1.now) c.args.entries.now c.loop-entry.entry-index
      c.entry-item.result
      c.loop-entry.cells.items c.push_cells.new.cells.items c.loop-entry-test.true c.loop-entry.invariant.cells
      (c.in_ok-push_cells.ensures.cells ∙ ap (λ (e : Bor Values × Bor (List Cell)). c.loop-entry.cells.items ++ take (length c.args.items.now) e.1.now)
      c.entry-item.is);
}

pub returns-in_err-push_cells-clause-lines : goal.returns-in_err-push_cells-clause-lines
returns-in_err-push_cells-clause-lines c = IfOk-from_err c.from_residual.result _ c.from_residual.ensures.0

pub returns-in_err-push_cells-clause-wide : goal.returns-in_err-push_cells-clause-wide
returns-in_err-push_cells-clause-wide c = IfOk-from_err c.from_residual.result _ c.from_residual.ensures.0

pub new-requires : goal.new-requires
new-requires c =
    let within = c.loop-entry.auto.entry-index-end in
    let past = c.loop-entry-test.false in
    let all : c.loop-entry.entry-index ≡ length c.args.entries.now = omega arith in
    c.loop-entry.invariant.count ∙ ap (λ (n : ℕ). n * length c.args.items.now) all

pub returns-clause-lines : goal.returns-clause-lines
returns-clause-lines c =
    let all = take_all c.loop-entry.entry-index c.args.entries.now c.loop-entry-test.false in
    let whole = c.loop-entry.invariant.cells ∙ ap (flat_map (λ (e : Bor Values × Bor (List Cell)). take (length c.args.items.now) e.1.now)) all in
    c.of_cells.ensures ∙ c.new.ensures.rows ∙ ap (cut (length c.args.entries.now) (length c.args.items.now)) whole

pub returns-clause-wide : goal.returns-clause-wide
returns-clause-wide c =
    subst (λ (rows : List (List Cell)). AllByRecursion (λ cells. length cells ≡ length c.args.items.now) rows) (sym c.of_cells.ensures) c.new.ensures.wide
