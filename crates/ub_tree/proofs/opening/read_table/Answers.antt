use Rattle.std.proofs.Common.{◌∙◌, Err, ℕ, ap, subst, sym, rules}
use Rattle.ub_tree.proofs.Common.{index_view, IndexView, IsHonest, keeps_on, KeepsChecked, last_address, Opens}
use Rattle.ub_index.specs.Opening.{IsPassing, IsRooted}
use Rattle.ub_index.specs.declared.index.Index.{Index}
use Rattle.ub_tree.proofs.OpeningFacts.{root_passes, root_refused}
use Rattle.ub_tree.proofs.opening.read_table.Goals as goal

pub returns-in_err-index : goal.returns-in_err-index
returns-in_err-index g c =
    let h = c.in_ok-header.header in
    let mid = c.read_first.new.pager in
    record {
      header = search rules;
      index = search rules;
      checked = search rules;
      rooted = search rules;
      exact = let exact = subst (λ (last : ℕ). IsHonest mid.store → IsRooted (index_view h.root h.levels last) mid.store → IsPassing c.in_err-index.field-0.0)
          (c.last-last.ensures ∙ ap last_address c.shape.ensures) c.in_err-index.ensures.exact in
          root_passes c.args.pager.now mid c.open.new.pager h c.in_ok-header.ensures.effect c.in_ok-header.ensures.header c.in_err-index.field-0.0 c.from_residual-in_err-index.result
          c.from_residual-in_err-index.ensures.1 exact;
      effect = let effect = subst (λ (last : ℕ). Opens {A = Index} (index_view h.root h.levels last) mid c.open.new.pager (Err c.in_err-index.field-0.0))
          (c.last-last.ensures ∙ ap last_address c.shape.ensures) c.in_err-index.ensures.effect in
          root_refused c.args.pager.now mid c.open.new.pager h c.in_ok-header.ensures.effect c.in_ok-header.ensures.header c.in_err-index.field-0.0 Index c.from_residual-in_err-index.result
          c.from_residual-in_err-index.ensures.1 effect;
    }

pub returns : goal.returns
returns g c = record {
  header = search rules;
  index = search rules;
  checked = let h = c.in_ok-header.header in
      let mid = c.read_first.new.pager in
      let last = ap (λ (v : IndexView). v.last) c.in_ok-index.ensures.index in
      subst (λ (n : ℕ). KeepsChecked n c.args.pager.now c.open.new.pager) (sym last)
      (keeps_on c.last-last.result c.args.pager.now mid c.open.new.pager (c.in_ok-header.ensures.checked c.last-last.result) c.in_ok-index.ensures.effect.checked);
  rooted = search rules;
  exact = search rules;
  effect = search rules;
}
