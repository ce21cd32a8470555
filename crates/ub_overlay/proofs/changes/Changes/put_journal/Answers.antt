use Rattle.std.proofs.Common.{◌∙◌, [], ap, get_or, refl}
use Rattle.std.proofs.lemmas.List.{take_all}
use Rattle.std.proofs.lemmas.Result.{on_ok_weaker}
use Rattle.ub_journal.specs.declared.journal.Change.{Change}
use Rattle.ub_overlay.specs.Changes.{change, put_change, put_each}
use Rattle.ub_overlay.proofs.ThroughFacts.{each_more}
use Rattle.ub_overlay.proofs.changes.Changes.put_journal.Goals as goal

pub loop-change-init : goal.loop-change-init
loop-change-init c = record {
  same = refl;
  items = c.as_slice-change-items.ensures.value;
  put = refl;
}

pub loop-change-preserved : goal.loop-change-preserved
loop-change-preserved c =
    let inv = c.loop-change.invariant in
    let xs = c.as_slice-change-items.result.now in
    let i = c.loop-change.change-index in
    let none : Change = record { number = 0; page = [] } in
    record {
      same = inv.same;
      items = inv.items;
      put = c.in_ok-put.ensures.put ∙ ap (put_change (change (get_or xs i none).number (get_or xs i none).page)) inv.put
          ∙ each_more xs c.args.self.now i none c.loop-change-test.true;
    }

pub returns : goal.returns
returns c =
    let inv = c.loop-change.invariant in
    let xs = c.as_slice-change-items.result.now in
    let i = c.loop-change.change-index in
    on_ok_weaker c.put-2.result (λ put. put ∙ ap (put_change (change 0 c.args.journal.now.head))
    (inv.put ∙ ap (λ l. put_each l c.args.self.now) (take_all i xs c.loop-change-test.false ∙ inv.items))) c.put-2.ensures.put
