use Rattle.std.proofs.Common.{◌+◌, ◌*◌, ◌≤◌, ◌-◌, drop, arith, ◌∙◌}
use Rattle.byteorder.specs.Numbers.{big_from-take}
use Rattle.ub_journal_page.specs.inner.Numbers.{number_at}
use Rattle.ub_journal_page.proofs.numbers.number_in.Goals as goal

pub returns : goal.returns
unfolding number_at
returns c =
    let within = c.requires in
    let fits : 0 + 4 ≤ 4096 - 4 * c.args.i = omega arith in
    c.read_u32.ensures ∙ big_from-take 0 4 (4096 - 4 * c.args.i) (drop (4 * c.args.i) c.args.page.now) fits
