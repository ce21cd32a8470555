use Rattle.std.proofs.Common.{arith}
use Rattle.ub_bytes.specs.Bytes.{number_bytes}
use Rattle.ub_bytes.proofs.DraftFacts.{put_over}
use Rattle.ub_bytes.proofs.spelling.write_u64.Goals as goal

pub returns : goal.returns
unfolding number_bytes
returns c =
    let room = c.requires in
    put_over c.args.offset 8 c.args.target.now (number_bytes 8 c.args.x) c.write_u64.new.buf (omega arith) c.write_u64.ensures
