use Rattle.std.proofs.Common.{◌+◌, arith, ℕ, ◌≡◌, get_or, add-zero, ap}
use Rattle.std.proofs.lemmas.List.{get_or-drop}
use Rattle.ub_bytes.specs.Bytes.{number_at}
use Rattle.ub_bytes.proofs.page.u8_at.Goals as goal

pub returns : goal.returns
unfolding number_at
returns c =
    let moved = get_or-drop c.args.offset c.args.page.now 0 0 in
    let same : get_or c.args.page.now (c.args.offset + 0) 0 ≡ get_or c.args.page.now c.args.offset 0 = ap (λ (n : ℕ). get_or c.args.page.now n 0) (add-zero c.args.offset) in
    omega (arith, moved, same)
