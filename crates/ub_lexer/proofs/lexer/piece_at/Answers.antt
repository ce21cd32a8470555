use Rattle.std.proofs.Common.{◌∙◌, sym}
use Rattle.ub_lexer.proofs.Pieces.{separator_piece, word_piece, number_piece}
use Rattle.ub_lexer.proofs.lexer.piece_at.Goals as goal

pub returns-then-is_separator : goal.returns-then-is_separator
returns-then-is_separator c = separator_piece c.args.source.now c.args.at c.requires (sym c.is_separator.ensures ∙ c.if-is_separator.true)

pub returns-then-is_letter : goal.returns-then-is_letter
returns-then-is_letter c = word_piece c.args.source.now c.args.at c.run_end.result c.requires (sym c.is_letter.ensures ∙ c.if-is_letter.true) c.run_end.ensures

pub returns-then-is_ascii_digit : goal.returns-then-is_ascii_digit
returns-then-is_ascii_digit c = number_piece c.args.source.now c.args.at c.run_end-then-is_ascii_digit.result c.requires (sym c.is_ascii_digit.ensures.value ∙ c.if-is_ascii_digit.true) c.run_end-then-is_ascii_digit.ensures
