use Rattle.std.proofs.Common.{◌∙◌, ap, Ok, Result, arith}
use Rattle.ub_page.proofs.IndexFacts.{parts, node_same}
use Rattle.ub_page.proofs.index.read_index.Goals as goal
use Rattle.ub_page.specs.Index.{Node}
use Rattle.ub_page.specs.declared.index.Head.{Head}
use Rattle.ub_page.proofs.PageLaws.{small_address, length-entries_on}
use Rattle.ub_table.specs.declared.fault.PageFault.{PageFault}
use Rattle.ub_zaddr.specs.Address.{last_address}

pub read_entries-requires : goal.read_entries-requires
read_entries-requires c =
    let few = c.in_ok-head.ensures.found.0.few in
    let count = ap (λ (h : Head). h.count) c.in_ok-head.ensures.head in
    let long = length-entries_on 16 c.in_ok-head.head.count c.args.page.now in
    rw (← long) (rw count few)

pub returns-clause-exact : goal.returns-clause-exact
returns-clause-exact c = λ node is e.
    let dims = c.args.schema.now.dims in
    let small = small_address dims (last_address dims) c.args.schema.now.counts.few_dims (omega arith) in
    let on = (parts node c.args.page.now (last_address dims) small is e).on in
    let answer : Node → Result Node PageFault = λ n. Ok n in
    ap answer (node_same c.in_ok-head.head c.read_entries.result c.args.page.now c.in_ok-head.ensures.head c.read_entries.ensures ∙ on)
