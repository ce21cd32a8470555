use Rattle.ub_file.proofs.HostFacts.{pages_kept, reads_of, set_of}
use Rattle.ub_file.proofs.host.HostFile.keep_pages.Goals as goal

pub returns-clause-facts : goal.returns-clause-facts
returns-clause-facts g c =
    rw (reads_of c.args.self.now c.set_length.new.self c.set_length.result c.set_length.ensures.same)
    (pages_kept c.args.size c.args.self.now.length c.set_length.new.self.length c.args.self.now.reads c.args.self.now.writes c.set_length.new.self.writes
    (g.R.RawFile.facts c.args.self.now.file) (g.R.RawFile.facts c.set_length.new.self.file) c.set_length.result
    c.requires.as_many c.set_length.ensures.honest c.set_length.ensures.effect
    (set_of c.args.size c.args.self.now c.set_length.new.self c.set_length.result c.set_length.ensures.fault c.set_length.ensures.same c.set_length.ensures.set c.set_length.ensures.kept))
