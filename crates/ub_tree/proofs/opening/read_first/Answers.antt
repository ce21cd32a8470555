use Rattle.std.proofs.Common.{List, inl, ℕ, refl, subst, sym}
use Rattle.ub_tree.proofs.Common.{IsIndexKind, page_still, pager_so}
use Rattle.ub_tree.proofs.HeldFacts.{header_no_kind, kind_checked}
use Rattle.ub_tree.proofs.opening.read_first.Goals as goal

pub returns-in-Ok-clause-checked : goal.returns-in-Ok-clause-checked
returns-in-Ok-clause-checked g c = λ last.
    kind_checked last 0 c.args.pager.now c.bring.new.self _ c.in_ok-bring.ensures.effect.same c.in_ok-bring.ensures.others c.cached.result.now c.cached.ensures.held
    (subst (λ (p : List ℕ). ¬ (IsIndexKind p)) (sym c.in-Ok.ensures.found.2) (header_no_kind c.in-Ok.header))

pub returns-in-Err-clause-effect : goal.returns-in-Err-clause-effect
returns-in-Err-clause-effect g c = record {
  same = pager_so c.args.pager.now c.bring.new.self c.args.pager.now.store c.in_ok-bring.ensures.effect.same c.in_ok-bring.ensures.trace;
  faults = (c.cached.result.now, page_still _ _ _ _ _ c.in_ok-bring.ensures.effect c.cached.ensures.page, inl (refl, c.in-Err.ensures.refused));
}
