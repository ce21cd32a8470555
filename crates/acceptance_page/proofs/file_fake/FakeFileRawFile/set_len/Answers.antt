use Rattle.std.proofs.Common.{◌∙◌, ap, rules}
use Rattle.acceptance_page.proofs.FakeFacts.{nowhere}
use Rattle.acceptance_page.specs.declared.file_fake.FakeFile.{FakeFile}
use Rattle.acceptance_page.proofs.file_fake.FakeFileRawFile.set_len.Goals as goal

pub returns-else-resize-clause-effect : goal.returns-else-resize-clause-effect
returns-else-resize-clause-effect c =
    let same = c.resize.ensures.kept c.if-resize.false ∙ ap (λ (f : FakeFile). f.bytes.items) c.is_due.ensures in
    let between = nowhere c.args.length c.args.self.now.bytes.items c.resize.new.bytes.items same in
    search (rules, between)
