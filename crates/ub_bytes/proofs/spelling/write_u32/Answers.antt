use Rattle.std.proofs.Common.{arith}
use Rattle.ub_bytes.specs.Bytes.{number_bytes}
use Rattle.ub_bytes.proofs.DraftFacts.{put_over}
use Rattle.ub_bytes.proofs.spelling.write_u32.Goals as goal

pub returns : goal.returns
unfolding number_bytes
returns c =
    let room = c.requires in
    put_over c.args.offset 4 c.args.target.now (number_bytes 4 c.args.x) c.write_u32.new.buf (omega arith) c.write_u32.ensures
