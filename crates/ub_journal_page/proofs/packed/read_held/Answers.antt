use Rattle.ub_journal_page.specs.inner.Parts.{stream}
use Rattle.std.proofs.Common.{drop, refl}
use Rattle.ub_journal_page.proofs.StreamFacts.{held_read}
use Rattle.ub_journal_page.proofs.ExitFacts.{looks_ok, not_ok, refused}
use Rattle.ub_journal_page.proofs.packed.read_held.Goals as goal

pub returns-clause-page : goal.returns-clause-page
returns-clause-page g c honest =
    held_read c.args.page.now c.read_bytes.new.target (drop c.args.cursor.now.place (stream (g.S.PageStore.facts c.args.store.now).pages)) c.args.held c.requires.blank c.requires.held
    (c.in_ok-read_bytes.ensures.bytes honest)

pub returns-in_err-read_bytes-clause-effect : goal.returns-in_err-read_bytes-clause-effect
returns-in_err-read_bytes-clause-effect g c = refused c.from_residual.result _ _ _ _ refl c.from_residual.ensures.1 c.in_err-read_bytes.ensures.effect

pub returns-clause-read : goal.returns-clause-read
returns-clause-read g c = c.in_ok-read_bytes.ensures.read

pub returns-clause-damaged : goal.returns-clause-damaged
returns-clause-damaged g c = λ told honest. absurd (not_ok _ _ told)

pub returns-clause-effect : goal.returns-clause-effect
returns-clause-effect g c = looks_ok _ _ _ c.in_ok-read_bytes.ensures.effect.same
