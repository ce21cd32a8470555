use Rattle.std.proofs.Common.{rules, ◌<◌, ◌+◌, ◌++◌, ℕ, List, length, take, ap, arith, ◌∙◌, refl, sym}
use Rattle.std.specs.Result.{IsErrOf}
use Rattle.std.proofs.lemmas.List.{length-append, length-drop, take_at}
use Rattle.ub_journal.specs.declared.fault.JournalFault.TheVariants.{Damaged}
use Rattle.ub_journal_page.specs.Pages.{number_bytes}
use Rattle.ub_journal_page.specs.inner.Parts.{stream}
use Rattle.ub_journal_page.proofs.PackedFacts.{two_bytes}
use Rattle.std.proofs.lemmas.Result.{IfOk-weaker}
use Rattle.ub_journal_page.proofs.ExitFacts.{looks_last, on_ok, refused}
use Rattle.ub_journal_page.proofs.packed.read_front.Goals as goal

pub returns-in_err-read_bytes-clause-damaged : goal.returns-in_err-read_bytes-clause-damaged
returns-in_err-read_bytes-clause-damaged g c told honest number held rest small few is =
    let bytes : List ℕ = stream (g.S.PageStore.facts c.args.store.now).pages in
    let size = ap length is in
    let front : List ℕ = number_bytes number ++ number_bytes held in
    let wrong : IsErrOf c.read_bytes.result Damaged → ⊥ =
    λ t. let short : length bytes < c.args.cursor.now.place + 8 = c.read_bytes.ensures.damaged t honest in
    omega (arith, short, size, length-drop c.args.cursor.now.place bytes, length-append front rest, two_bytes number held) in
    search (rules, wrong)

pub returns-clause-damaged : goal.returns-clause-damaged
returns-clause-damaged g c told honest number held rest small few is =
    c.front_of.ensures.damaged told number held small few
    (c.in_ok-read_bytes.ensures.bytes honest ∙ ap (take 8) is ∙ take_at (number_bytes number ++ number_bytes held) rest 8 (two_bytes number held))

pub returns-in_err-read_bytes-clause-effect : goal.returns-in_err-read_bytes-clause-effect
returns-in_err-read_bytes-clause-effect g c = refused c.from_residual.result _ _ _ _ refl c.from_residual.ensures.1 c.in_err-read_bytes.ensures.effect

pub returns-clause-few : goal.returns-clause-few
returns-clause-few g c = IfOk-weaker c.front_of.result _ _ (λ x h. (h.0, h.1)) c.front_of.ensures.front

pub returns-clause-place : goal.returns-clause-place
returns-clause-place g c = on_ok c.front_of.result c.in_ok-read_bytes.ensures.place

pub returns-clause-read : goal.returns-clause-read
returns-clause-read g c = on_ok c.front_of.result c.in_ok-read_bytes.ensures.read

pub returns-clause-front : goal.returns-clause-front
returns-clause-front g c = IfOk-weaker c.front_of.result _ _ (λ x h honest. sym (c.in_ok-read_bytes.ensures.bytes honest) ∙ h.2) c.front_of.ensures.front

pub returns-clause-effect : goal.returns-clause-effect
returns-clause-effect g c = looks_last c.front_of.result _ _ c.in_ok-read_bytes.ensures.effect.same c.front_of.ensures.fault
