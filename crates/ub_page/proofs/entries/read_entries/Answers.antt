use Rattle.std.proofs.Common.{◌∷◌, [], arith, length-append}
use Rattle.ub_page.proofs.EntryFacts.{entries_step}
use Rattle.ub_page.proofs.entries.read_entries.Goals as goal

pub loop-i-preserved : goal.loop-i-preserved
loop-i-preserved c =
    let more = c.loop-i-test.true in
    let len = c.loop-i.invariant.len in
    record {
      entries = rw (c.push.ensures, c.read_entry.ensures) (entries_step c.loop-i.entries _ c.args.page.now c.loop-i.i c.args.count more c.loop-i.invariant.entries);
      len = rw c.push.ensures (omega (arith, length-append c.loop-i.entries (c.read_entry.result ∷ [])));
    }
