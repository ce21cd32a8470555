use Rattle.std.proofs.Common.{arith}
use Rattle.acceptance_page.proofs.FakeFacts.{half_way}
use Rattle.acceptance_page.proofs.file_fake.FakeFile.go_half.Goals as goal

pub returns-clause-between : goal.returns-clause-between
returns-clause-between c =
    half_way c.args.size c.midpoint-half.result c.args.self.now.bytes.items c.resize.new.bytes.items c.resize.result (omega arith) (omega arith)
    c.resize.ensures.set c.resize.ensures.kept
