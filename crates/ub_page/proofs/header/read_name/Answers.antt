use Rattle.std.proofs.Common.{◌≡◌, ◌≤◌, ◌+◌, ◌-◌, ◌∙◌, refl, sym, arith}
use Rattle.ub_bytes.specs.Bytes.{number_at}
use Rattle.ub_page.proofs.HeaderFacts.{named}
use Rattle.ub_page.proofs.header.read_name.Goals as goal

pub returns-clause-name : goal.returns-clause-name
returns-clause-name c =
    let room = c.requires in
    let width : c.args.offset + 33 - (c.args.offset + 1) ≡ 32 = omega arith in
    let len : c.from-len.result ≡ number_at 1 c.args.offset c.args.page.now = c.from-len.ensures ∙ c.u8_at.ensures in
    let short : c.from-len.result ≤ 32 = omega (arith, c.if-len-gt-MAX_NAME_LEN.false) in
    named c.args.page.now c.in_ok-name.name c.args.offset c.from-len.result _ width c.told-page room len short c.in_ok-name.ensures.text (c.in_ok-name.ensures.valid.0 refl)
    (sym c.block_of.ensures ∙ c.are_equal.ensures.0 c.if-not-are_equal.false)
