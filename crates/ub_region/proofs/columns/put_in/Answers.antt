use Rattle.std.proofs.Common.{◌≡◌, arith}
use Rattle.ub_region.proofs.ShiftFacts.{put_at, put_last}
use Rattle.ub_region.proofs.columns.put_in.Goals as goal
use Rattle.ub_region.proofs.columns.put_in.Goals.{then-index-len, else-index-len}

pub returns-clause-put : goal.returns-clause-put
returns-clause-put g c =
    let room = c.requires.room in
    let within = c.requires.within in
    let long = c.told-column in
    elim c.if-index-len.branch [
      | then-index-len w ↦ rw w.column-is (put_at c.args.column.now w.copy_within.new.self c.args.index c.args.len c.args.value w.copy_within.ensures.after within (omega arith))
      | else-index-len w ↦
          let last : c.args.index ≡ c.args.len = omega (arith, w.if-index-len.false) in
          rw w.column-is (put_last c.args.column.now c.args.index c.args.len c.args.value last (omega arith))
    ]
