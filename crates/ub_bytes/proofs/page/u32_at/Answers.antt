use Rattle.std.proofs.Common.{◌+◌, ◌≤◌, ◌-◌, drop, arith, ◌∙◌}
use Rattle.byteorder.specs.Numbers.{big_from-take}
use Rattle.ub_bytes.specs.Bytes.{number_at}
use Rattle.ub_bytes.proofs.page.u32_at.Goals as goal

pub returns : goal.returns
unfolding number_at
returns c =
    let within = c.requires in
    let fits : 0 + 4 ≤ 4096 - c.args.offset = omega arith in
    c.read_u32.ensures ∙ big_from-take 0 4 (4096 - c.args.offset) (drop c.args.offset c.args.page.now) fits
