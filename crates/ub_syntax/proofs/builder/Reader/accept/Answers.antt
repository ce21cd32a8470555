use Rattle.std.proofs.Common.{◌≡◌, Some, sym, ◌∙◌}
use Rattle.ub_syntax.proofs.Equal.{symbol_eq}
use Rattle.ub_syntax.proofs.Inserts.{symbol_other}
use Rattle.ub_syntax.proofs.Parts.{accepts_it, leaves_it}
use Rattle.ub_syntax.proofs.Turns.{same_symbol}
use Rattle.ub_syntax.proofs.builder.Reader.accept.Goals as goal

pub returns-then-is_next : goal.returns-then-is_next
returns-then-is_next c =
    let e : c.symbol.result ≡ Some c.args.symbol = symbol_eq c.symbol.result c.args.symbol (sym c.eq-is_next.ensures ∙ c.if-is_next.true) in
    rw c.if-is_next.true (accepts_it c.args.symbol c.args.self.now c.advance.new.self c.advance.result (sym c.symbol.ensures ∙ e) c.advance.ensures)

pub returns-else-is_next : goal.returns-else-is_next
returns-else-is_next c =
    let other = symbol_other c.symbol.result c.args.symbol (same_symbol c.args.symbol) (sym c.eq-is_next.ensures ∙ c.if-is_next.false) in
    rw c.if-is_next.false (leaves_it c.args.symbol c.args.self.now (λ e. other (c.symbol.ensures ∙ e)))
