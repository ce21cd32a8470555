use Rattle.std.proofs.Common.{◌≡◌, map, drop}
use Rattle.ub_syntax.specs.Symbols as spec
use Rattle.ub_syntax.proofs.symbol.symbol_among.Given as goal

-- none of the words before is the text
abbrev pub invariant-loop-word : goal.invariant-loop-word
invariant-loop-word l =
    spec.symbol_among (map (λ word. (word.0.now, word.1)) (drop l.word-index l.words)) l.text
    ≡ spec.symbol_among (map (λ word. (word.0.now, word.1)) l.words) l.text
