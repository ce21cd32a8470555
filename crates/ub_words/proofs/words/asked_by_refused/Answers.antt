use Rattle.std.proofs.Common.{◌≢◌, ◌∙◌, inl, inr, rules}
use Rattle.clap.specs.declared.error.kind.ErrorKind.TheVariants.{DisplayHelp, DisplayVersion}
use Rattle.clap.specs.Values.{kind_of}
use Rattle.ub_words.proofs.AskFacts.{no_help_refused, nothing_by_refusal, some_fault}
use Rattle.ub_words.proofs.words.asked_by_refused.Goals as goal

pub returns-in-Some : goal.returns-in-Some
returns-in-Some c =
    let no_help : kind_of c.args.error.now ≢ DisplayHelp = λ same. c.in_default.not-DisplayHelp (c.kind.ensures ∙ same) in
    let no_version : kind_of c.args.error.now ≢ DisplayVersion = λ same. c.in_default.not-DisplayVersion (c.kind.ensures ∙ same) in
    λ has. elim has [
      | inl memory ↦ absurd (c.in_default.not-OutOfMemory (c.kind.ensures ∙ memory))
      | inr among ↦ inr (some_fault _ _ among, c.in-Some.ensures, no_help_refused _ _ among no_help no_version)
    ]

pub returns-in_ok-usage_lines-in-None : goal.returns-in_ok-usage_lines-in-None
returns-in_ok-usage_lines-in-None c =
    let no_help : kind_of c.args.error.now ≢ DisplayHelp = λ same. c.in_default.not-DisplayHelp (c.kind.ensures ∙ same) in
    let no_version : kind_of c.args.error.now ≢ DisplayVersion = λ same. c.in_default.not-DisplayVersion (c.kind.ensures ∙ same) in
    λ has. elim has [
      | inl memory ↦ absurd (c.in_default.not-OutOfMemory (c.kind.ensures ∙ memory))
      | inr among ↦ (nothing_by_refusal _ (some_fault _ _ among) (no_help_refused _ _ among no_help no_version) c.in-None.ensures, c.in_ok-usage_lines-in-None.ensures)
    ]

pub returns-in_ok-usage_lines-in-DisplayHelp : goal.returns-in_ok-usage_lines-in-DisplayHelp
returns-in_ok-usage_lines-in-DisplayHelp c = search rules
