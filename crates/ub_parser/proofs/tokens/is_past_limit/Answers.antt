-- A number of few digits isn't past the limit.
use Rattle.std.proofs.Common.{◌≤◌, ◌-◌, length, drop, arith}
use Rattle.std.proofs.lemmas.List.{length-take}
use Rattle.ub_lexer.specs.Tokens.{text_of}
use Rattle.ub_parser.proofs.NumberFacts.{short_fits}
use Rattle.ub_parser.proofs.tokens.is_past_limit.Goals as goal

pub returns-then-digits-le-SHORT : goal.returns-then-digits-le-SHORT
returns-then-digits-le-SHORT c =
    let t = c.args.digits.now in
    let text = text_of c.args.source.now t in
    let few : length text ≤ 19 = let cut = length-take (t.to - t.from) (drop t.from c.args.source.now) in omega arith in
    let le = short_fits text c.requires.1.1 few in
    (λ is. cc, λ lt. absurd (omega arith))
