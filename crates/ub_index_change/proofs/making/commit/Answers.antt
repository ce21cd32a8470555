use Rattle.std.proofs.Common.{List, subst, sym, rules}
use Rattle.ub_index_change.proofs.Common.{AreBelow, AreIndexPages, if_err, IsPutFault, Sheet}
use Rattle.ub_index_change.proofs.making.commit.Goals as goal

pub returns-in_err-put_all : goal.returns-in_err-put_all
returns-in_err-put_all g c = record {
  now = search rules;
  left = search rules;
  trace = search rules;
  stand = search rules;
  kept = search rules;
  checked = λ good.
      c.in_err-put_all.ensures.checked c.args.index.now.last (subst (λ (xs : List Sheet). AreIndexPages c.args.index.now.last xs) (sym c.sheets.ensures.sheets) good);
  same = search rules;
  refused =
      let next = c.args.change.now.next in
      if_err (IsPutFault next c.args.change.now.sheets c.args.pager.now.store) c.from_residual.result c.in_err-put_all.field-0.0 c.from_residual.ensures.1
      (subst (λ (xs : List Sheet). IsPutFault next xs c.args.pager.now.store c.in_err-put_all.field-0.0) c.sheets.ensures.sheets
      (c.in_err-put_all.ensures.refused next (subst (λ (xs : List Sheet). AreBelow next xs) (sym c.sheets.ensures.sheets) c.sheets.ensures.below)));
}

pub returns : goal.returns
returns g c = record {
  now = search rules;
  left = search rules;
  trace = search rules;
  stand = search rules;
  kept = search rules;
  checked = λ good.
      c.in_ok-put_all.ensures.checked c.args.index.now.last (subst (λ (xs : List Sheet). AreIndexPages c.args.index.now.last xs) (sym c.sheets.ensures.sheets) good);
  same = search rules;
  refused = search rules;
}
