use Rattle.std.proofs.Common.{arith, sym, ◌∙◌, inl, inr}
use Rattle.ub_lexer.proofs.Pieces.{comment_piece, pair_piece, pair_second, single_piece}
use Rattle.ub_lexer.proofs.lexer.sign_at.Goals as goal

pub returns-then-next-eq45 : goal.returns-then-next-eq45
returns-then-next-eq45 c =
    let next = c.byte_at-next.ensures in
    comment_piece c.args.source.now c.args.at c.run_end.result (next.inside (omega (arith, c.if-next-eq45.true)))
    c.if-first-eq45.true (sym next.value ∙ c.if-next-eq45.true) c.run_end.ensures

pub returns-in-Some : goal.returns-in-Some
returns-in-Some c =
    let next = c.byte_at-next.ensures in
    let sign = c.in-Some.ensures in
    let here = rw next.value at sign in
    pair_piece c.args.source.now c.args.at c.in-Some.kind (next.inside (pair_second _ _ sign.0)) here.0 here.1

pub returns-in-None : goal.returns-in-None
returns-in-None c =
    let next = c.byte_at-next.ensures in
    single_piece c.args.source.now c.args.at c.single_kind.result c.requires.inside c.requires.no_word c.single_kind.ensures
    (rw next.value at c.in-None.ensures)
    (λ first second. elim c.else-first-eq45.either [
      | inl w ↦ w.1 (next.value ∙ second)
      | inr w ↦ w first
    ])
