use Rattle.std.proofs.Common.{◌≡◌, Some, sym, ◌∙◌}
use Rattle.ub_syntax.proofs.Clauses.{all_read}
use Rattle.ub_syntax.proofs.Equal.{symbol_eq}
use Rattle.ub_syntax.specs.declared.symbol.Symbol.TheVariants as symbol
use Rattle.ub_syntax.proofs.builder.Reader.selection.Goals as goal

pub returns-then-eq : goal.returns-then-eq
returns-then-eq c =
    let e : c.symbol.result ≡ Some symbol.Star = symbol_eq c.symbol.result symbol.Star (sym c.eq.ensures ∙ c.if-eq.true) in
    all_read _ _ _ (sym c.symbol.ensures ∙ e) c.advance.ensures
