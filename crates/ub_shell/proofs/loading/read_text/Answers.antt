use Rattle.std.proofs.Common.{ap}
use Rattle.ub_files.specs.Files.{FilesFacts}
use Rattle.ub_table_file.proofs.Laws.{runs_both, still_honest}
use Rattle.ub_shell.proofs.TextFacts.{given_text, read_failed, read_to_end}
use Rattle.ub_shell.proofs.loading.read_text.Goals as goal

pub read_asked-read-requires-clause-numbers : goal.read_asked-read-requires-clause-numbers
read_asked-read-requires-clause-numbers g c = c.requires.numbers

pub read_asked-read-requires-clause-mask : goal.read_asked-read-requires-clause-mask
read_asked-read-requires-clause-mask g c = c.requires.mask

pub returns-in-Ok-close_text-clause-read : goal.returns-in-Ok-close_text-clause-read
returns-in-Ok-close_text-clause-read g c =
    let given = c.read_asked-read.ensures in
    (given.text, given_text _ _ given.text c.in-Ok.ensures.text given.text_is, given.reads)

pub returns-in-Ok-close_text-clause-effect : goal.returns-in-Ok-close_text-clause-effect
returns-in-Ok-close_text-clause-effect g c =
    read_to_end _ (g.F.Files.facts c.args.files.now) (g.F.Files.facts c.open_text.new.self) (g.F.Files.facts c.close_text.new.self) _ c.in-Ok.ensures.effect _ c.in-Ok-close_text.ensures.effect

pub returns-in-Err-close_text-clause-effect : goal.returns-in-Err-close_text-clause-effect
returns-in-Err-close_text-clause-effect g c =
    read_failed _ (g.F.Files.facts c.args.files.now) (g.F.Files.facts c.open_text.new.self) (g.F.Files.facts c.close_text.new.self) _ c.in-Ok.ensures.effect c.in-Err-close_text.fault
    c.in-Err-close_text.ensures.effect

pub returns-in-Ok-close_text-clause-crash : goal.returns-in-Ok-close_text-clause-crash
returns-in-Ok-close_text-clause-crash g c =
    let old = g.F.Files.facts c.args.files.now in
    let mid = g.F.Files.facts c.open_text.new.self in
    runs_both old mid _ _ _ (still_honest old mid (ap (λ (f : FilesFacts). f.honest) c.in-Ok.ensures.effect.same)) c.in-Ok.ensures.crash c.in-Ok-close_text.ensures.crash

pub returns-in-Err-close_text-clause-crash : goal.returns-in-Err-close_text-clause-crash
returns-in-Err-close_text-clause-crash g c =
    let old = g.F.Files.facts c.args.files.now in
    let mid = g.F.Files.facts c.open_text.new.self in
    runs_both old mid _ _ _ (still_honest old mid (ap (λ (f : FilesFacts). f.honest) c.in-Ok.ensures.effect.same)) c.in-Ok.ensures.crash c.in-Err-close_text.ensures.crash
