use Rattle.std.proofs.Common.{◌∙◌, inl, inr, sym}
use Rattle.ub_words.proofs.GivenFacts.{at_none, at_some, text_read, zipped}
use Rattle.ub_words.proofs.given.try_words.Goals as goal

pub returns-in-Some : goal.returns-in-Some
returns-in-Some c =
    let both = at_some _ _ _ _ c.in-Some.ensures (zipped _ _ _ _ _ _ c.data_words.ensures (text_read (λ text. text.now) _ _ c.text_given.ensures)) in
    record { data_is = both.0; script_is = both.1 }

pub returns-in-None : goal.returns-in-None
returns-in-None c = λ source script name dims page_rows signed given.
    elim (at_none _ _ _ c.in-None.ensures (zipped _ _ _ _ _ _ c.data_words.ensures (text_read (λ text. text.now) _ _ c.text_given.ensures))) [
      | inl none ↦ none source name dims page_rows signed given.data_is
      | inr none ↦ let bad = sym none ∙ given.script_is in cc
    ]
