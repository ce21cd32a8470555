use Rattle.std.proofs.Common.{◌≡◌, ◌∙◌, ◌+◌, ◌-◌, ◌*◌, ℕ, ap, arith, drop, take}
use Rattle.ub_keeping.proofs.ahead.copy_page.Goals as goal

pub returns : goal.returns
returns c = let as_long : c.args.at * 4096 + 4096 - c.args.at * 4096 ≡ 4096 = omega arith in
    c.copy_from_slice.ensures.after ∙ ap (λ (n : ℕ). take n (drop (c.args.at * 4096) c.args.bytes.now)) as_long
