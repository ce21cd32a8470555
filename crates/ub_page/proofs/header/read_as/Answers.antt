use Rattle.std.proofs.Common.{◌≡◌, ◌∙◌, sym, refl, true}
use Rattle.std.proofs.Math.Facts.{Fits-lt-pow}
use Rattle.ub_page.proofs.HeaderFacts.{parts, same, is_header, not_fault_of, padding_fault}
use Rattle.ub_page.proofs.header.read_as.Goals as goal

pub returns-in_err-header-clause-exact : goal.returns-in_err-header-clause-exact
returns-in_err-header-clause-exact c = λ h is clean e. absurd (not_fault_of c.args.version h c.args.page.now (Fits-lt-pow c.ranges.version) is clean e _ c.in_err-header.ensures.refused)

pub returns-then-not-is_same-clause-refused : goal.returns-then-not-is_same-clause-refused
returns-then-not-is_same-clause-refused c =
    let read = c.in_ok-header.ensures in
    padding_fault c.args.version c.in_ok-header.header c.args.page.now (Fits-lt-pow c.ranges.version) read.numbers.0 read.numbers.1 read.names.0 read.names.1 read.clean.0 read.clean.1 read.clean.2
    (λ e. let yes : c.is_same.result ≡ true = c.is_same.ensures.1 (c.page.ensures ∙ c.spell.ensures.page ∙ e) in let no = c.if-not-is_same.true in cc)

pub returns-then-not-is_same-clause-exact : goal.returns-then-not-is_same-clause-exact
returns-then-not-is_same-clause-exact c = λ h is clean e.
    let read = c.in_ok-header.ensures in
    let fault = padding_fault c.args.version c.in_ok-header.header c.args.page.now (Fits-lt-pow c.ranges.version) read.numbers.0 read.numbers.1 read.names.0 read.names.1 read.clean.0 read.clean.1 read.clean.2
    (λ e. let yes : c.is_same.result ≡ true = c.is_same.ensures.1 (c.page.ensures ∙ c.spell.ensures.page ∙ e) in let no = c.if-not-is_same.true in cc) in
    absurd (fault.4 h is e)

pub returns-clause-found : goal.returns-clause-found
returns-clause-found c =
    let read = c.in_ok-header.ensures in (
      is_header c.args.version c.in_ok-header.header c.args.page.now read.numbers.0 read.numbers.1 read.small.0 read.small.1 read.names.0 read.names.1 read.clean.2,
      read.clean.1,
      sym (sym (c.page.ensures ∙ c.spell.ensures.page) ∙ c.is_same.ensures.0 c.if-not-is_same.false),
    )

pub returns-clause-exact : goal.returns-clause-exact
returns-clause-exact c = λ h is clean e.
    let read = c.in_ok-header.ensures in
    let on = parts c.args.version h c.args.page.now (Fits-lt-pow c.ranges.version) is e in
    (refl, same c.in_ok-header.header h (read.numbers.0 ∙ on.numbers) (read.names.0 ∙ on.name) (read.names.1 ∙ on.columns) (read.clean.1 ∙ sym clean))

pub spell-requires : goal.spell-requires
spell-requires c = let read = c.in_ok-header.ensures in rw read.numbers.0 read.numbers.1
