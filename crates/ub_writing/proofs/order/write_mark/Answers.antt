use Rattle.std.proofs.Common.{arith, [], sym, subst}
use Rattle.std.proofs.lemmas.Grind.{common_steps}
use Rattle.std.specs.Prelude.{List, ℕ}
use Rattle.ub_store.specs.Cache.{Renews}
use Rattle.ub_writing.specs.Puts.{IsPutPage}
use Rattle.ub_writing.proofs.HeldFacts.{renews_none}
use Rattle.ub_writing.proofs.MarkFacts.{marked_first}
use Rattle.ub_writing.proofs.order.write_mark.Goals as goal

pub returns-clause-marked : goal.returns-clause-marked
returns-clause-marked g c =
    marked_first c.args.schema.now c.first_header.result c.extend.new.self.store c.put_header.new.pager.store c.put_header.result _
    (record { in_range = c.put_header.ensures.header; unclean = c.first_header.ensures.unclean; schema_is = c.first_header.ensures.schema })
    c.put_header.ensures.effect (grind (arith, common_steps)) (λ honest. grind (arith, common_steps))

pub returns-in_err-extend-clause-held : goal.returns-in_err-extend-clause-held
returns-in_err-extend-clause-held g c =
    subst (λ (pages : List (ℕ × List ℕ)). Renews (IsPutPage []) c.args.pager.now.cached pages) (sym c.extend.ensures.cached) (renews_none (IsPutPage []) c.args.pager.now.cached)
