use Rattle.std.proofs.Common.{◌≡◌, ◌≤◌, ◌+◌, ◌*◌, ℕ, length, arith}
use Rattle.ub_region.proofs.LaneFacts.{IsMaskTo-chunk, IsMaskTo-all}
use Rattle.ub_region.proofs.masks.mask_of_all.Goals as goal

pub loop-chunk-preserved : goal.loop-chunk-preserved
loop-chunk-preserved c =
    let n : ℕ = 8 * c.loop-chunk.chunk in
    let all = c.requires in
    let test = c.loop-chunk-test.true in
    let next : n + 8 ≡ 8 * (c.loop-chunk.chunk + 1) = omega arith in
    let there : n + 8 ≤ length c.args.column.now = omega arith in
    let few : length c.args.column.now ≤ 64 = omega arith in
    rw (c.from.ensures, ← next) (IsMaskTo-chunk c.args.lo c.args.hi n c.loop-chunk.mask c.within.result c.args.column.now there few c.within.type_inv c.within.ensures c.loop-chunk.invariant)

pub returns : goal.returns
returns c =
    let all = c.requires in
    let test = c.loop-chunk-test.false in
    IsMaskTo-all c.args.lo c.args.hi (8 * c.loop-chunk.chunk) c.loop-chunk.mask c.args.column.now (omega arith) c.loop-chunk.invariant
