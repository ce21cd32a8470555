use Rattle.std.proofs.Common.{◌≡◌, ◌∙◌, sym}
use Rattle.ub_lexer.specs.Tokens.{text_of}
use Rattle.ub_syntax.specs.Symbols.{keywords, symbol_among}
use Rattle.ub_syntax.proofs.SymbolFacts.{name_unless_keyword}
use Rattle.ub_syntax.proofs.symbol.symbol_of.Goals as goal

pub returns-in-Word-clause-keywords : goal.returns-in-Word-clause-keywords
unfolding keywords
returns-in-Word-clause-keywords c = λ is.
    let same : c.symbol_among.result ≡ symbol_among keywords (text_of c.args.source.now c.args.token.now) = c.symbol_among.ensures in
    let told = name_unless_keyword (text_of c.args.source.now c.args.token.now) in
    (λ h. told.0 (sym same ∙ h), λ h. same ∙ told.1 h)
