use Rattle.std.proofs.Common.{◌∙◌, sym, refl}
use Rattle.ub_table.proofs.NameFacts.{is_name-rest}
use Rattle.ub_table.proofs.name.is_name.Goals as goal

pub returns-then-has_word_bytes : goal.returns-then-has_word_bytes
returns-then-has_word_bytes c =
    let len = c.has_name_len.ensures.0 c.if-not-has_name_len.false in
    let letter = sym c.is_letter.ensures ∙ c.if-not-is_letter.false in
    let bytes = sym c.has_word_bytes.ensures ∙ c.if-has_word_bytes.true in
    rw (c.is_keyword.ensures, is_name-rest c.args.text.now len.0 len.1 letter, bytes) refl
