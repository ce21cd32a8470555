use Rattle.std.proofs.Common.{◌∙◌, List, Some, ap, ℕ, length, subst, sym, refl}
use Rattle.ub_journal_page.specs.Reading.{BearsOut}
use Rattle.ub_journal_page.proofs.PageFacts.{few_changes}
use Rattle.ub_journal_page.proofs.ReadFacts.{first_is, spelled}
use Rattle.std.proofs.lemmas.Result.{IfOk-weaker}
use Rattle.ub_journal_page.proofs.ExitFacts.{fault_of, looks_damaged, looks_last, never_memory, refused}
use Rattle.ub_journal.specs.declared.fault.JournalFault.TheVariants.{Damaged, Memory}
use Rattle.ub_journal_page.proofs.reading.read_head.Goals as goal

pub returns-clause-damaged : goal.returns-clause-damaged
returns-clause-damaged g c told honest j spells =
    let pages = (g.S.PageStore.facts c.args.store.now).pages in
    let s = spelled pages j spells in
    let bears = subst (λ (n : ℕ). BearsOut n s.version (length j.changes)) (sym c.pages-pages.ensures) s.bears in
    c.head_on.ensures.damaged told s.version j.count (length j.changes) spells.0.some spells.0.few (few_changes j spells.0) bears
    (first_is j pages c.read_page.new.page s (c.in_ok-read_page.ensures.page honest))

pub returns-then-pages-eq0-clause-effect : goal.returns-then-pages-eq0-clause-effect
returns-then-pages-eq0-clause-effect g c = looks_damaged _ _ refl

pub returns-in_err-read_page-clause-damaged : goal.returns-in_err-read_page-clause-damaged
returns-in_err-read_page-clause-damaged g c = λ told honest j spells. c.in_err-read_page.ensures.damaged (fault_of c.from_residual.result _ Damaged c.from_residual.ensures.1 told)

pub returns-in_err-read_page-clause-memory : goal.returns-in_err-read_page-clause-memory
returns-in_err-read_page-clause-memory g c = λ told. c.in_err-read_page.ensures.memory (fault_of c.from_residual.result _ Memory c.from_residual.ensures.1 told)

pub returns-in_err-read_page-clause-effect : goal.returns-in_err-read_page-clause-effect
returns-in_err-read_page-clause-effect g c = refused c.from_residual.result _ _ _ _ refl c.from_residual.ensures.1 c.in_err-read_page.ensures.effect

pub returns-clause-head : goal.returns-clause-head
returns-clause-head g c =
    IfOk-weaker c.head_on.result _ _ (λ h is honest. record { some = is.0; few = is.1; first = c.in_ok-read_page.ensures.page honest ∙ ap (λ (p : List ℕ). Some p) is.4 }) c.head_on.ensures.head

pub returns-clause-there : goal.returns-clause-there
returns-clause-there g c = IfOk-weaker c.head_on.result _ _ (λ h is. subst (λ (n : ℕ). BearsOut n h.version h.changes) c.pages-pages.ensures is.3) c.head_on.ensures.head

pub returns-clause-few : goal.returns-clause-few
returns-clause-few g c = IfOk-weaker c.head_on.result _ _ (λ x h. h.2) c.head_on.ensures.head

pub returns-clause-memory : goal.returns-clause-memory
returns-clause-memory g c = λ told. absurd (never_memory c.head_on.result c.head_on.ensures.fault told)

pub returns-clause-effect : goal.returns-clause-effect
returns-clause-effect g c = looks_last c.head_on.result _ _ c.in_ok-read_page.ensures.effect.same c.head_on.ensures.fault
