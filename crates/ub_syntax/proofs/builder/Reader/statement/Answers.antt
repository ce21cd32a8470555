-- The first symbol tells which of the three is read.
use Rattle.std.proofs.Common.{refl, sym, ◌∙◌}
use Rattle.ub_syntax.specs.declared.symbol.Symbol.TheVariants as symbol
use Rattle.ub_syntax.proofs.Changes.{insert_is_read, delete_is_read, select_is_read}
use Rattle.ub_syntax.proofs.Equal.{symbol_eq}
use Rattle.ub_syntax.proofs.Inserts.{symbol_other}
use Rattle.ub_syntax.proofs.builder.Reader.statement.Goals as goal

pub returns-then-eq : goal.returns-then-eq
returns-then-eq c s is =
    insert_is_read _ _ (sym c.symbol-first.ensures ∙ symbol_eq c.symbol-first.result symbol.Insert (sym c.eq.ensures ∙ c.if-eq.true)) c.in_ok-insertion.ensures s is

pub returns-then-eq-2 : goal.returns-then-eq-2
returns-then-eq-2 c s is =
    delete_is_read _ _ (sym c.symbol-first.ensures ∙ symbol_eq c.symbol-first.result symbol.Delete (sym c.eq-2.ensures ∙ c.if-eq-2.true)) c.in_ok-deletion.ensures s is

pub returns : goal.returns
returns c s is =
    select_is_read _ _
    (λ e. symbol_other c.symbol-first.result symbol.Insert refl (sym c.eq.ensures ∙ c.if-eq.false) (c.symbol-first.ensures ∙ e))
    (λ e. symbol_other c.symbol-first.result symbol.Delete refl (sym c.eq-2.ensures ∙ c.if-eq-2.false) (c.symbol-first.ensures ∙ e))
    c.in_ok-select.ensures s is
