use Rattle.ub_page.proofs.DirectoryFacts.{spelled}
use Rattle.ub_page.proofs.directory.write_directory.Goals as goal
use Rattle.std.proofs.Common.{◌∙◌}

pub returns : goal.returns
returns c = c.write_entries.ensures ∙ spelled c.args.entries.now c.args.next

pub write_entries-requires : goal.write_entries-requires
write_entries-requires c = c.requires.1.few
