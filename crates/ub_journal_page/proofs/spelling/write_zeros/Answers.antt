use Rattle.std.proofs.Common.{ℕ, List, subst}
use Rattle.std.specs.Io.KnownBytes.{Appends}
use Rattle.std.specs.Result.{OnOk}
use Rattle.ub_journal_page.proofs.SpellFacts.{zeros_part}
use Rattle.ub_journal_page.proofs.spelling.write_zeros.Goals as goal

pub returns : goal.returns
returns g c =
    let less = c.requires in
    let some = c.if-within-eq0.false in
    subst (λ (bytes : List ℕ). OnOk c.write_all.result (Appends (g.W.Write.contents c.args.out.now) (g.W.Write.contents c.write_all.new.self) bytes)) (zeros_part c.args.within less some) c.write_all.ensures.bytes
