use Rattle.std.proofs.Common.{[], ◌∷◌, ◌∙◌, Bool, IsTrue, ℕ, ap, arith, subst, rules}
use Rattle.ub_tree.proofs.Common.{keeps_on, KeepsChecked, last_address, only_region, region_no_kind, region_page, StoreFacts}
use Rattle.ub_tree.proofs.CreationFacts.{empty_is_region}
use Rattle.ub_tree.proofs.HeldFacts.{written_checked}
use Rattle.ub_tree.proofs.creation.lay_out.Goals as goal

pub returns : goal.returns
returns g c = record {
  index = search rules;
  count = search rules;
  pages = search rules;
  first = search rules;
  trace = search rules;
  checked = let mid = c.write_first_pages.new.pager in
      keeps_on (last_address c.args.schema.now.dims) c.args.pager.now mid c.create.new.pager
      (written_checked (last_address c.args.schema.now.dims) (region_page c.args.schema.now only_region ∷ []) c.args.pager.now mid (subst (λ (b : Bool). IsTrue b) (ap (λ (s : StoreFacts). s.honest) c.in_ok-write_first_pages.ensures.left))
      (region_no_kind c.args.schema.now only_region (empty_is_region c.args.schema.now), tt) c.in_ok-write_first_pages.ensures.held)
      (subst (λ (n : ℕ). KeepsChecked n mid c.create.new.pager) (c.last.ensures ∙ ap last_address c.shape.ensures) (c.in_ok-index.ensures.checked (omega arith)));
  left = search rules;
  refused = search rules;
}
