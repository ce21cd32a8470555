use Rattle.std.proofs.Common.{◌≡◌, ◌∙◌, [], Some, ap, inl, inr, slice_get, slice_index_or}
use Rattle.ub_index_change.proofs.Common.{if_err, IsPutFault, Sheet, StoreFacts}
use Rattle.std.proofs.lemmas.Option.{slice_get-get_or}
use Rattle.ub_index_change.proofs.PutFacts.{put_fault, put_keeps, puts_more, stands_more, then_done}
use Rattle.ub_index_change.proofs.making.put_all.Goals as goal

pub loop-sheet-preserved : goal.loop-sheet-preserved
loop-sheet-preserved g c =
    let inv = c.loop-sheet.invariant in
    let none : Sheet = record { number = 0; page = [] } in
    let sheet : Sheet = slice_index_or c.args.sheets.now c.loop-sheet.sheet-index none in
    let at : slice_get c.args.sheets.now c.loop-sheet.sheet-index ≡ Some (slice_index_or c.args.sheets.now c.loop-sheet.sheet-index (record { number = 0; page = [] })) =
    slice_get-get_or c.args.sheets.now c.loop-sheet.sheet-index (record { number = 0; page = [] }) c.loop-sheet-test.true in
    let honesty = ap (λ (s : StoreFacts). s.honest) inv.same in
    record {
      trace = c.in_ok-put.ensures.trace ∙ inv.trace;
      kept = puts_more c.put.result c.args.sheets.now c.args.pager.now.store c.loop-sheet.pager.store c.put.new.self.store c.loop-sheet.sheet-index sheet honesty inv.kept at c.put.ensures.effect;
      stand = λ once honest.
          stands_more c.args.sheets.now c.loop-sheet.sheet-index sheet c.args.pager.now.store c.loop-sheet.pager.store c.put.new.self.store honesty at c.in_ok-put.ensures.there
          c.in_ok-put.ensures.effect once honest (inv.stand once honest);
      checked = λ last good.
          put_keeps last c.args.sheets.now c.loop-sheet.sheet-index sheet c.args.pager.now c.loop-sheet.pager c.put.new.self (ap (λ (s : StoreFacts). s.honest) c.in_ok-put.ensures.effect.frame) at good
          (inv.checked last good) (inl c.in_ok-put.ensures.renewed) c.in_ok-put.ensures.others;
      same = then_done c.args.pager.now.store c.loop-sheet.pager.store c.put.new.self.store inv.same c.in_ok-put.ensures.effect.frame;
    }

pub returns-in_err-put-clause-checked : goal.returns-in_err-put-clause-checked
returns-in_err-put-clause-checked g c = λ last good.
    let inv = c.loop-sheet.invariant in
    put_keeps last c.args.sheets.now c.loop-sheet.sheet-index _ c.args.pager.now c.loop-sheet.pager c.put.new.self (ap (λ (s : StoreFacts). s.honest) c.in_err-put.ensures.effect.frame)
    (slice_get-get_or c.args.sheets.now c.loop-sheet.sheet-index (record { number = 0; page = [] }) c.loop-sheet-test.true) good
    (inv.checked last good) (inr c.in_err-put.ensures.forgotten) c.in_err-put.ensures.others

pub returns-in_err-put-clause-refused : goal.returns-in_err-put-clause-refused
returns-in_err-put-clause-refused g c = λ count below.
    let inv = c.loop-sheet.invariant in
    if_err (IsPutFault count c.args.sheets.now c.args.pager.now.store) c.from_residual.result c.in_err-put.field-0.0 c.from_residual.ensures.1
    (put_fault (Unit {0}) c.args.sheets.now c.loop-sheet.sheet-index _ c.args.pager.now.store c.loop-sheet.pager.store c.in_err-put.field-0.0
    (slice_get-get_or c.args.sheets.now c.loop-sheet.sheet-index (record { number = 0; page = [] }) c.loop-sheet-test.true) inv.same inv.kept.count
    c.in_err-put.ensures.faults c.in_err-put.ensures.effect.device c.in_err-put.ensures.missing count below)
