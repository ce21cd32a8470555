use Rattle.std.proofs.Common.{◌≡◌, ◌∙◌, arith, length, refl, sym}
use Rattle.std.proofs.lemmas.List.{length-map}
use Rattle.ub_query.specs.Cells.{title}
use Rattle.ub_script.proofs.EndFacts.{no_answer}
use Rattle.ub_script.proofs.LineFacts.{line_end, line_next, made_at}
use Rattle.ub_script.proofs.text.push_titles.Goals as goal

pub loop-place-preserved : goal.loop-place-preserved
loop-place-preserved c =
    line_next _ _ _ _ c.loop-place.place _ _ _ c.loop-place.invariant c.in_ok-push_comma.ensures c.in_ok-push_title.ensures refl
    (made_at (title c.args.schema.now) c.args.items.now c.loop-place.place _ c.loop-place-test.true)

pub returns : goal.returns
returns c =
    let all : c.loop-place.place ≡ length c.args.items.now = omega (arith, c.loop-place-test.false, c.loop-place.auto.place-end) in
    line_end _ _ _ _ c.loop-place.place (all ∙ sym (length-map c.args.items.now (title c.args.schema.now))) c.loop-place.invariant c.in_ok-push.ensures.items

pub returns-in_err-push_comma : goal.returns-in_err-push_comma
returns-in_err-push_comma c = no_answer c.from_residual.result _ _ c.from_residual.ensures.1

pub returns-in_err-push_title : goal.returns-in_err-push_title
returns-in_err-push_title c = no_answer c.from_residual-in_err-push_title.result _ _ c.from_residual-in_err-push_title.ensures.1

pub returns-in_err-push : goal.returns-in_err-push
returns-in_err-push c = no_answer c.from_residual-in_err-push.result _ _ c.from_residual-in_err-push.ensures.1
