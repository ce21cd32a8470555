use Rattle.std.proofs.Common.{◌≡◌, ◌-◌, ◌+◌, ◌*◌, ℕ, length, take, drop, replicate, refl, subst, arith}
use Rattle.std.proofs.lemmas.List.{drop_all}
use Rattle.ub_journal_page.proofs.HeldFacts.{block_before, held_none}
use Rattle.ub_journal_page.proofs.held.held_in.Goals as goal

pub loop-i-init : goal.loop-i-init
loop-i-init c = let long = c.told-page in drop_all 4096 c.args.page.now (omega arith)

pub loop-i-preserved : goal.loop-i-preserved
loop-i-preserved c =
    let less = c.loop-i-test.true in
    let from : ℕ = 4096 - 64 * c.loop-i.i - 64 in
    let same : from ≡ 4096 - 64 * (c.loop-i.i + 1) = omega arith in
    let all : 4096 - 64 * c.loop-i.i - (4096 - 64 * c.loop-i.i - 64) ≡ 64 = omega arith in
    let block = c.are_zero.ensures.0 c.if-not-are_zero.false in
    let blank : take 64 (drop from c.args.page.now) ≡ replicate (length (take 64 (drop from c.args.page.now))) 0 =
    subst (λ (n : ℕ). take n (drop from c.args.page.now) ≡ replicate (length (take n (drop from c.args.page.now))) 0) all block in
    let more = block_before c.args.page.now c.loop-i.i (4096 - 64 * c.loop-i.i) from c.told-page refl less refl c.loop-i.invariant blank in
    subst (λ (n : ℕ). drop n c.args.page.now ≡ replicate (4096 - n) 0) same more

pub returns-clause-held : goal.returns-clause-held
returns-clause-held c = let past = c.loop-i-test.false in held_none c.args.page.now (4096 - 64 * c.loop-i.i) c.told-page (omega arith) c.loop-i.invariant
