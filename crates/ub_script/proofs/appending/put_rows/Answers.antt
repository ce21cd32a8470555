use Rattle.std.proofs.Common.{◌≡◌, ◌≤◌, ◌+◌, ◌∙◌, ap, arith, length}
use Rattle.ub_script.proofs.AppendFacts.{order_is, order_later, order_rows, puts_all}
use Rattle.ub_script.specs.Appending.{IsOrderOf}
use Rattle.ub_table.specs.declared.schema.Schema.{Schema}
use Rattle.ub_script.proofs.appending.put_rows.Goals as goal

pub put_all-requires-clause-rows : goal.put_all-requires-clause-rows
put_all-requires-clause-rows g c =
    let a = c.args.tree.now in
    let next : c.next-first.result ≡ a.next = c.next-first.ensures.next in
    let range = c.next-first.ensures.range in
    let many = c.if-rows-first.false in
    let is : IsOrderOf a c.args.rows.now c.as_slice.result.now = order_is a c.shape.result c.next-first.result c.args.rows.now c.in_ok-ordered.ordered.items c.as_slice.result.now
    (c.shape.ensures ∙ ap (λ (s : Schema). s.dims) c.schema.ensures) next c.as_slice.ensures.value c.in_ok-ordered.ensures in
    order_rows a c.args.rows.now c.as_slice.result.now c.requires (omega arith) (omega arith) is

pub put_all-requires-clause-later : goal.put_all-requires-clause-later
put_all-requires-clause-later g c =
    let a = c.args.tree.now in
    let next : c.next-first.result ≡ a.next = c.next-first.ensures.next in
    let range = c.next-first.ensures.range in
    let many = c.if-rows-first.false in
    let is : IsOrderOf a c.args.rows.now c.as_slice.result.now = order_is a c.shape.result c.next-first.result c.args.rows.now c.in_ok-ordered.ordered.items c.as_slice.result.now
    (c.shape.ensures ∙ ap (λ (s : Schema). s.dims) c.schema.ensures) next c.as_slice.ensures.value c.in_ok-ordered.ensures in
    order_later a a c.args.rows.now c.as_slice.result.now c.requires (omega arith) (omega arith) is

pub returns : goal.returns
returns g c =
    let a = c.args.tree.now in
    let next : c.next-first.result ≡ a.next = c.next-first.ensures.next in
    let range = c.next-first.ensures.range in
    let many = c.if-rows-first.false in
    let is : IsOrderOf a c.args.rows.now c.as_slice.result.now = order_is a c.shape.result c.next-first.result c.args.rows.now c.in_ok-ordered.ordered.items c.as_slice.result.now
    (c.shape.ensures ∙ ap (λ (s : Schema). s.dims) c.schema.ensures) next c.as_slice.ensures.value c.in_ok-ordered.ensures in
    puts_all a c.put_all.new.tree c.args.rows.now c.as_slice.result.now c.requires (omega arith) (omega arith) is c.put_all.result c.put_all.ensures.put c.put_all.ensures.stopped
