use Rattle.std.proofs.Common.{drop, refl, arith, ◌∙◌}
use Rattle.byteorder.specs.Numbers.{big_from-take}
use Rattle.ub_journal_page.specs.inner.Numbers.{number_at}
use Rattle.ub_journal_page.proofs.numbers.numbers_before.Goals as goal

pub returns : goal.returns
unfolding number_at
returns c =
    let second = c.read_u32-2.ensures ∙ big_from-take 0 4 4 (drop 4 c.args.front.now) (omega arith) in
    let first = c.read_u32.ensures in
    rw (first, second) refl
