use Rattle.std.proofs.Common.{◌≡◌, ◌<◌, ◌^◌, true, arith, ap}
use Rattle.ub_page.proofs.IndexFacts.{not_refused, head_fault, padding_fault, is_node, spelled}
use Rattle.ub_page.proofs.check.check_index.Goals as goal
use Rattle.ub_page.specs.Index.{IsIndexFault, IsBlankBehind, HasNodeEntries, HasNodeOrder}
use Rattle.ub_page.specs.declared.index.Head.{Head}
use Rattle.ub_bytes.specs.Bytes.{number_at}
use Rattle.ub_table.specs.declared.fault.PageFault.TheVariants.{BadRow, BadOrder, BadPadding}

pub returns-in_err-head-clause-exact : goal.returns-in_err-head-clause-exact
returns-in_err-head-clause-exact c = λ node is e.
    let small : c.args.last < 256 ^ 16 = omega arith in
    absurd (not_refused node c.args.page.now c.args.last small is e _ (head_fault c.args.last c.args.page.now _ c.in_err-head.ensures.refused))

pub returns-then-not-are_in_range-clause-exact : goal.returns-then-not-are_in_range-clause-exact
returns-then-not-are_in_range-clause-exact c = λ node is e.
    let small : c.args.last < 256 ^ 16 = omega arith in
    let head = c.in_ok-head.ensures.passed in
    let count = ap (λ (h : Head). h.count) c.in_ok-head.ensures.head in
    let fault : IsIndexFault c.args.last c.args.page.now BadRow = (
      head.0,
      head.1,
      λ all.
          let yes : c.are_in_range.result ≡ true = c.are_in_range.ensures.1 (rw count all) in let not_so = c.if-not-are_in_range.true in cc,
    ) in
    absurd (not_refused node c.args.page.now c.args.last small is e BadRow fault)

pub returns-then-not-are_well-clause-exact : goal.returns-then-not-are_well-clause-exact
returns-then-not-are_well-clause-exact c = λ node is e.
    let small : c.args.last < 256 ^ 16 = omega arith in
    let head = c.in_ok-head.ensures.passed in
    let count = ap (λ (h : Head). h.count) c.in_ok-head.ensures.head in
    let entries : HasNodeEntries c.args.last c.args.page.now = rw count at (c.are_in_range.ensures.0 c.if-not-are_in_range.false) in
    let fault : IsIndexFault c.args.last c.args.page.now BadOrder = (
      head.0,
      head.1,
      entries,
      λ all.
          let yes : c.are_well.result ≡ true = c.are_well.ensures.1 (rw count (entries, all)) in let not_so = c.if-not-are_well.true in cc,
    ) in
    absurd (not_refused node c.args.page.now c.args.last small is e BadOrder fault)

pub returns-then-not-is_blank_behind-clause-refused : goal.returns-then-not-is_blank_behind-clause-refused
returns-then-not-is_blank_behind-clause-refused c =
    let small : c.args.last < 256 ^ 16 = omega arith in
    let head = c.in_ok-head.ensures.passed in
    let count = ap (λ (h : Head). h.count) c.in_ok-head.ensures.head in
    let well = c.are_well.ensures.0 c.if-not-are_well.false in
    let entries : HasNodeEntries c.args.last c.args.page.now = rw count at well.0 in
    let order : HasNodeOrder c.args.page.now = rw count at well.1 in
    padding_fault c.args.page.now c.args.last small head.0 head.1 entries order
    (λ blank. let yes : c.is_blank_behind.result ≡ true = c.is_blank_behind.ensures.1 (rw count blank) in let not_so = c.if-not-is_blank_behind.true in cc)

pub returns-then-not-is_blank_behind-clause-exact : goal.returns-then-not-is_blank_behind-clause-exact
returns-then-not-is_blank_behind-clause-exact c = λ node is e.
    let small : c.args.last < 256 ^ 16 = omega arith in
    let head = c.in_ok-head.ensures.passed in
    let count = ap (λ (h : Head). h.count) c.in_ok-head.ensures.head in
    let well = c.are_well.ensures.0 c.if-not-are_well.false in
    let entries : HasNodeEntries c.args.last c.args.page.now = rw count at well.0 in
    let order : HasNodeOrder c.args.page.now = rw count at well.1 in
    let fault : IsIndexFault c.args.last c.args.page.now BadPadding = padding_fault c.args.page.now c.args.last small head.0 head.1 entries order
    (λ blank. let yes : c.is_blank_behind.result ≡ true = c.is_blank_behind.ensures.1 (rw count blank) in let not_so = c.if-not-is_blank_behind.true in cc) in
    absurd (not_refused node c.args.page.now c.args.last small is e BadPadding fault)

pub returns-clause-found : goal.returns-clause-found
returns-clause-found c =
    let head = c.in_ok-head.ensures.passed in
    let count = ap (λ (h : Head). h.count) c.in_ok-head.ensures.head in
    let well = c.are_well.ensures.0 c.if-not-are_well.false in
    let entries : HasNodeEntries c.args.last c.args.page.now = rw count at well.0 in
    let order : HasNodeOrder c.args.page.now = rw count at well.1 in
    let blank : IsBlankBehind (number_at 2 2 c.args.page.now) c.args.page.now = rw count at (c.is_blank_behind.ensures.0 c.if-not-is_blank_behind.false) in
    (is_node c.args.page.now c.args.last head.1 entries order, spelled c.args.page.now c.told-page c.fits-page head.0 head.1 blank)
