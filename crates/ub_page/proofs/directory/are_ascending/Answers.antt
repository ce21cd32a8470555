use Rattle.std.proofs.Common.{refl, arith, sym, ◌∙◌, ◌≤◌, ◌-◌, length, drop}
use Rattle.std.proofs.lemmas.List.{length-drop}
use Rattle.ub_page.proofs.EntryFacts.{short_ascending, ascending_step}
use Rattle.ub_page.proofs.directory.are_ascending.Goals as goal

pub returns : goal.returns
returns c =
    let done = c.loop-i-test.false in
    let short : length (drop (c.loop-i.i - 1) c.args.entries.now) ≤ 1 = omega (arith, length-drop (c.loop-i.i - 1) c.args.entries.now) in
    (λ yes. c.loop-i.invariant.1 (short_ascending _ short), λ all. refl)

pub loop-i-preserved : goal.loop-i-preserved
loop-i-preserved c =
    let step = ascending_step c.args.entries.now c.loop-i.i _ c.loop-i.auto.i c.loop-i-test.true (sym c.is_before.ensures ∙ c.if-not-is_before.false) in
    let so_far = c.loop-i.invariant in
    (λ all. step.0 (so_far.0 all), λ rest. so_far.1 (step.1 rest))
