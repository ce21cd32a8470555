use Rattle.std.proofs.Common.{◌≡◌, ◌+◌, ◌-◌, ◌*◌, ◌∙◌, sym, arith}
use Rattle.std.proofs.lemmas.Bool.{leb-true, le-leb}
use Rattle.ub_page.proofs.IndexFacts.{both_pass, range_step, well_rest, well_more, well_last}
use Rattle.ub_page.proofs.PageLaws.{number_lt}
use Rattle.ub_page.proofs.check.are_well.Goals as goal

pub loop-slot-preserved : goal.loop-slot-preserved
loop-slot-preserved c =
    let at = c.loop-slot.slot in
    let some = c.loop-slot.auto.slot in
    let more = c.loop-slot-test.true in
    let inv = c.loop-slot.invariant in
    let same : at + 1 - 1 ≡ at = omega arith in
    let tests = both_pass c.loop-slot.are_well _ in
    let entry_tests = both_pass c.is_named.result c.is_before.result in
    record {
      before = rw same c.entry_at-entry.ensures;
      named = λ yes. c.is_named.ensures.0 (entry_tests.0 (tests.0 yes).1).0;
      so_far = (
        λ all.
            let old = inv.so_far.0 all in
            let rest = well_rest c.args.last at c.args.count c.args.page.now some more old.1 in
            let here = ((range_step c.args.last at c.args.count c.args.page.now more).0 (rw same at rest.1.0)).0 in
            let named = c.is_named.ensures.1 (rw c.entry_at-entry.ensures (here.number, here.some_page)) in
            let later = c.is_before.ensures ∙ rw (inv.before, c.entry_at-entry.ensures) rest.0 in
            (tests.1 (old.0, entry_tests.1 (named, later)), rest.1),
        λ rest.
            let passed = tests.0 rest.0 in
            let named = rw inv.before at (inv.named passed.0) in
            let later = rw (inv.before, c.entry_at-entry.ensures) at (sym c.is_before.ensures ∙ (entry_tests.0 passed.1).1) in
            let small = number_lt 4 (16 + 24 * (at - 1) + 20) c.args.page.now c.fits-page in
            inv.so_far.1 (passed.0, well_more c.args.last at c.args.count c.args.page.now some more named small later rest.1),
      );
    }

pub returns-then-are_well : goal.returns-then-are_well
returns-then-are_well c =
    let inv = c.loop-slot.invariant in
    let passed = c.if-are_well.true in
    let named = rw inv.before at (inv.named passed) in
    let done : c.loop-slot.slot ≡ c.args.count = omega arith in
    let small = number_lt 4 (16 + 24 * (c.loop-slot.slot - 1) + 20) c.args.page.now c.fits-page in
    let last = well_last c.args.last c.loop-slot.slot c.args.count c.args.page.now c.loop-slot.auto.slot done named small in
    let same = inv.before in (
      λ yes. inv.so_far.1 (passed, last.1 (rw same at (leb-true _ _ yes))),
      λ all. rw same (le-leb _ _ (last.0 (inv.so_far.0 all).1)),
    )
