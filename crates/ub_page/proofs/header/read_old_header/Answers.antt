use Rattle.std.proofs.Common.{◌≡◌, ◌∙◌, refl, rules}
use Rattle.ub_page.proofs.HeaderFacts.{not_fault_of, old_byte, old_parts, old_not_refused}
use Rattle.ub_table.specs.declared.fault.PageFault.TheVariants.{WrongKind}
use Rattle.ub_page.proofs.header.read_old_header.Goals as goal

pub returns-then-not-contains-clause-exact : goal.returns-then-not-contains-clause-exact
returns-then-not-contains-clause-exact c = λ old is clean e. absurd (old_not_refused old c.args.page.now is clean e WrongKind (search rules))

pub returns-in_err-header-clause-exact : goal.returns-in_err-header-clause-exact
returns-in_err-header-clause-exact c = λ old is clean e.
    let version : c.u8_at-version.result ≡ old.version = c.u8_at-version.ensures ∙ (old_parts old c.args.page.now is e).kind.1 in
    absurd (not_fault_of old.version old.header c.args.page.now (old_byte old.version is.version) is.header clean e _ (rw version at c.in_err-header.ensures.refused))

pub returns-clause-exact : goal.returns-clause-exact
returns-clause-exact c = λ old is clean e.
    let version : c.u8_at-version.result ≡ old.version = c.u8_at-version.ensures ∙ (old_parts old c.args.page.now is e).kind.1 in
    (refl, (version, (c.in_ok-header.ensures.exact old.header (rw version is.header) clean (rw version e)).1))
