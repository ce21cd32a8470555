use Rattle.std.proofs.Common.{◌≡◌, ◌∙◌, [], arith, length, refl, slice_index_or, sym}
use Rattle.std.proofs.lemmas.List.{length-map}
use Rattle.ub_script.proofs.EndFacts.{no_answer}
use Rattle.ub_script.proofs.LineFacts.{line_end, line_next, made_of}
use Rattle.ub_script.proofs.text.push_row.Goals as goal
use Rattle.ub_script.specs.Text.{cell_text}

pub cell-requires-clause-place : goal.cell-requires-clause-place
cell-requires-clause-place c =
    let wide = c.width-place-end.ensures c.args.index [] c.requires in
    let within = c.loop-place-test.true in
    omega arith

pub loop-place-preserved : goal.loop-place-preserved
loop-place-preserved c =
    line_next _ _ _ _ c.loop-place.place _ _ _ c.loop-place.invariant c.in_ok-push_comma.ensures c.in_ok-push_cell.ensures refl
    (made_of cell_text (slice_index_or c.args.rows.now c.args.index []) c.loop-place.place c.cell.result c.cell.ensures)

pub returns : goal.returns
returns c =
    let row = slice_index_or c.args.rows.now c.args.index [] in
    let wide = c.width-place-end.ensures c.args.index [] c.requires in
    let all : c.loop-place.place ≡ length row = omega (arith, c.loop-place-test.false, c.loop-place.auto.place-end) in
    line_end _ _ _ _ c.loop-place.place (all ∙ sym (length-map row cell_text)) c.loop-place.invariant c.in_ok-push.ensures.items

pub returns-in_err-push_comma : goal.returns-in_err-push_comma
returns-in_err-push_comma c = no_answer c.from_residual.result _ _ c.from_residual.ensures.1

pub returns-in_err-push_cell : goal.returns-in_err-push_cell
returns-in_err-push_cell c = no_answer c.from_residual-in_err-push_cell.result _ _ c.from_residual-in_err-push_cell.ensures.1

pub returns-in_err-push : goal.returns-in_err-push
returns-in_err-push c = no_answer c.from_residual-in_err-push.result _ _ c.from_residual-in_err-push.ensures.1
