use Rattle.std.proofs.Common.{◌≡◌, ◌∙◌, sym, refl, List, [], ◌∷◌, Option, None, slice_get}
use Rattle.ub_lexer.specs.declared.token.Token.{Token}
use Rattle.acceptance_parts.proofs.syntax.are_so.Goals as goal

none_past : (ts : List Token) → ◌≡◌ {A = Option Token} None (slice_get ts 0) → ts ≡ []
none_past [] e = refl
none_past (t ∷ ts) e = cc

pub build-requires-clause-few : goal.build-requires-clause-few
build-requires-clause-few c = λ s is. none_past _ (sym c.in-None.is ∙ c.too_many.ensures s is)
