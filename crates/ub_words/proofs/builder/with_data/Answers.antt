use Rattle.ub_words.proofs.builder.with_data.Goals as goal

pub returns : goal.returns
returns c =
    λ app is.
    let first = c.with_word-command.ensures app is in
    let second = c.with_word-command-2.ensures _ first in
    let third = c.with_dims-command.ensures _ second in
    let fourth = c.with_signed-command.ensures _ third in
    let fifth = c.with_page_rows-command.ensures _ fourth in
    c.with_name.ensures _ fifth
