-- The laws of an EXPLAIN, as specs/Laws.antt states them.
use Rattle.std.proofs.Common.{◌≡◌, ◌∙◌, ℕ, List, length, ap, refl, sym}
use Rattle.ub_plan.proofs.SideFacts.{each_dimension}
use Rattle.ub_planning.proofs.Laws.{meeting_of, those_one}
use Rattle.ub_plan.specs.Explained.{explain_text}
use Rattle.ub_plan.specs.Laws.{ExplainsHaveAText, ExplainsHaveOneText, ExplainsNameEachDimension}
use Rattle.ub_planning.specs.Visits.{Span, Meets, spans_of}

pub explains_have_a_text : ExplainsHaveAText
explains_have_a_text schema plan regions =
    let (meeting, those) = meeting_of schema plan.covering.boxes regions in
    (explain_text schema plan (length meeting) (length regions), record { met = length meeting; met_are = (meeting, those, refl); text_is = refl })

pub explains_have_one_text : ExplainsHaveOneText
explains_have_one_text schema plan regions first second a b =
    let same : a.met_are.0 ≡ b.met_are.0 =
    those_one (λ (span : Span). Meets plan.covering.boxes span.from span.to) (spans_of schema regions) a.met_are.0 b.met_are.0 a.met_are.1 b.met_are.1 in
    let met : a.met ≡ b.met = a.met_are.2 ∙ ap (λ (spans : List Span). length spans) same ∙ sym b.met_are.2 in
    a.text_is ∙ ap (λ (n : ℕ). explain_text schema plan n (length regions)) met ∙ sym b.text_is

pub explains_name_each_dimension : ExplainsNameEachDimension
explains_name_each_dimension schema q b there = each_dimension schema q b there
