use Rattle.std.proofs.Common.{◌∙◌, List, subst, sym}
use Rattle.std.specs.List.{Any}
use Rattle.ub_lexer.proofs.Spans.{AreSpelled-tokens}
use Rattle.ub_lexer.proofs.Unique.{same_tokens}
use Rattle.ub_lexer.specs.Tokens.{AreTokens}
use Rattle.ub_lexer.specs.declared.token.Token.{Token}
use Rattle.ub_script.proofs.AskingFacts.{found_if, only_asks}
use Rattle.ub_script.specs.Script.{IsChangeWord}
use Rattle.ub_script.proofs.asking.Script.may_change.Goals as goal

pub has_change_word-requires : goal.has_change_word-requires
has_change_word-requires c = rw c.deref.ensures.value (AreSpelled-tokens c.self.inside.source.now c.self.inside.tokens.items c.self.invariant)

pub returns-clause-asks : goal.returns-clause-asks
returns-clause-asks c is = rw (← c.self.view_is)
    (only_asks c.self.inside.source.now c.deref.result.now
    (λ ts are. c.deref.ensures.value ∙ same_tokens c.self.inside.source.now c.self.inside.tokens.items ts c.self.invariant are) (c.has_change_word.ensures.none is))

pub returns-clause-exact : goal.returns-clause-exact
returns-clause-exact c =
    let source = c.self.inside.source.now in
    let P : Token → Type 0 = λ t. IsChangeWord source t in
    let tokens : AreTokens source c.deref.result.now = rw c.deref.ensures.value c.self.invariant in
    rw (← c.self.view_is) (
      λ found. (c.deref.result.now, tokens, c.has_change_word.ensures.found found),
      λ has. found_if P c.has_change_word.result c.deref.result.now c.has_change_word.ensures.none
          (subst (λ (ts : List Token). Any P ts) (sym (c.deref.ensures.value ∙ same_tokens source c.self.inside.tokens.items has.0 c.self.invariant has.1)) has.2),
    )
