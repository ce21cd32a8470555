use Rattle.std.proofs.Common.{◌≡◌, ◌+◌, ◌-◌, arith, length}
use Rattle.acceptance_page.proofs.FakeFacts.{put_within}
use Rattle.acceptance_page.proofs.file_fake.copy_at.Goals as goal

pub returns : goal.returns
returns c =
    let count : (c.args.place + length c.args.new.now) - c.args.place ≡ length c.args.new.now = omega arith in
    rw (count, c.copy_from_slice.ensures.after) (put_within c.args.place c.args.new.now c.args.bytes.now c.requires.within)
