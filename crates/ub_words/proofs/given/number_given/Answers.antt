use Rattle.std.proofs.Common.{arith}
use Rattle.std.specs.Str.Parse.{ParsesUnsigned, ExplainsUnsignedError, HasUnsignedDigitsIfOk}
use Rattle.clap.specs.Words.{found_of, rows_of}
use Rattle.ub_words.specs.CommandLine.{IsNumberGiven}
use Rattle.ub_words.proofs.GivenFacts.{number_only, number_read, number_unread, number_within}
use Rattle.ub_words.proofs.given.number_given.Goals as goal
use Rattle.ub_words.proofs.given.number_given.Goals.{else-least-number-via-then-least-number+else-number-most, else-least-number-via-else-least-number}

pub returns-in_default : goal.returns-in_default
returns-in_default c =
    let none = c.in_default.ensures.value in
    λ number given. number_unread _ (λ bs r. ParsesUnsigned 32 10 bs r × ExplainsUnsignedError 10 bs r × HasUnsignedDigitsIfOk bs r) (λ u x g. g.0)
    (found_of c.args.matches.now) c.args.id.now none c.args.least c.args.most number c.ranges.most.fits given

pub returns-then-number-most : goal.returns-then-number-most
returns-then-number-most c =
    let read : IsNumberGiven (rows_of (found_of c.args.matches.now)) c.args.id.now c.in-Some.number c.in-Some.number c.in-Some.number =
    number_read _ (λ bs r. ParsesUnsigned 32 10 bs r × ExplainsUnsignedError 10 bs r × HasUnsignedDigitsIfOk bs r) (λ u x g. g.0)
    (found_of c.args.matches.now) c.args.id.now c.in-Some.number c.in-Some.ensures.none c.in-Some.ensures.value in
    number_within _ _ _ _ _ _ _ read c.if-least-number.true c.if-number-most.true

pub returns-else-least-number : goal.returns-else-least-number
returns-else-least-number c =
    let read : IsNumberGiven (rows_of (found_of c.args.matches.now)) c.args.id.now c.in-Some.number c.in-Some.number c.in-Some.number =
    number_read _ (λ bs r. ParsesUnsigned 32 10 bs r × ExplainsUnsignedError 10 bs r × HasUnsignedDigitsIfOk bs r) (λ u x g. g.0)
    (found_of c.args.matches.now) c.args.id.now c.in-Some.number c.in-Some.ensures.none c.in-Some.ensures.value in
    λ number given.
    let same = number_only _ _ _ _ _ _ _ _ read given in
    let low = given.at_least in
    let high = given.at_most in
    elim c.else-least-number.branch [
      | else-least-number-via-then-least-number+else-number-most w ↦ let above = w.if-number-most in omega (arith, above)
      | else-least-number-via-else-least-number w ↦ let below = w.if-least-number in omega (arith, below)
    ]
