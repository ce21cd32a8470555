use Rattle.std.proofs.Common.{◌∙◌, ap}
use Rattle.clap.specs.Words.{app_of}
use Rattle.ub_words.proofs.AskFacts.{taken_by, refused_by}
use Rattle.ub_words.proofs.words.read_words.Goals as goal

pub returns-in-Ok : goal.returns-in-Ok
returns-in-Ok c =
    c.asked_by_matches.ensures _
    (taken_by _ _ c.in-Ok.matches (ap app_of c.into_inner.ensures ∙ c.in_ok-program.ensures.0) c.in-Ok.ensures.matches c.in-Ok.ensures.kinds)

pub returns-in-Err : goal.returns-in-Err
returns-in-Err c =
    c.asked_by_refused.ensures
    (refused_by _ _ c.in-Err.error (ap app_of c.into_inner.ensures ∙ c.in_ok-program.ensures.0) c.in-Err.ensures.kinds)
