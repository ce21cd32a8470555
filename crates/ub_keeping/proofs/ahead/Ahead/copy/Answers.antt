use Rattle.std.proofs.Common.{◌∙◌, ◌-◌, ap, arith}
use Rattle.ub_journal.specs.Place.{page_in}
use Rattle.ub_keeping.proofs.ahead.Ahead.copy.Goals as goal

pub returns-clause-copied : goal.returns-clause-copied
returns-clause-copied c is =
    let from = c.if-n-self.false in
    let within = c.if-n-self-2.false in (
      c.args.n - c.args.self.now.first,
      omega (arith, from, within),
      omega (arith, from, within),
      c.copy_page.ensures ∙ ap (page_in (c.args.n - c.args.self.now.first)) c.as_slice.ensures.value,
    )
