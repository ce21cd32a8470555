use Rattle.std.proofs.Common.{Err, Ok, ap, arith, subst, sym}
use Rattle.ub_laying.proofs.BegunFacts.{few_pages, laid_for, laid_not}
use Rattle.ub_laying.proofs.begun.Begun.lay.Goals as goal
use Rattle.ub_laying.specs.Begun.{BegunView, CanLay, IsLaidFor, LaysBegun, begun_view}
use Rattle.ub_table.specs.declared.schema.Schema.{Schema}

pub lay_regions-requires-clause-room : goal.lay_regions-requires-clause-room
lay_regions-requires-clause-room g c =
    let few = few_pages c.args.self.schema c.args.next c.args.grown.now c.requires in
    let less = few.1 in
    let one = c.self.invariant.count in
    omega arith

pub returns-in-Ok : goal.returns-in-Ok
returns-in-Ok g c =
    let facts = g.S.PageStore.facts in
    let schema = c.self.inside.schema in
    let old = c.self.inside.pager in
    let grown = c.args.grown.now in
    let can : CanLay schema c.args.next grown =
    subst (λ (s : Schema). CanLay s c.args.next grown) (sym (ap (λ (b : BegunView). b.schema) c.self.view_is)) c.requires in
    let made = laid_for schema c.args.next grown old c.lay_regions.new.pager c.in-Ok.root can c.self.invariant c.in-Ok.ensures in
    let laid : IsLaidFor (begun_view schema old.store) c.args.next grown c.header_of-header.result c.new-index.result c.lay_regions.new.pager =
    rw (c.header_of-header.ensures, c.new-index.ensures, c.last-end.ensures, c.shape.ensures) made in
    subst (λ (b : BegunView). LaysBegun facts b c.args.next grown (Ok (c.header_of-header.result, c.new-index.result, c.lay_regions.new.pager))) c.self.view_is
    (record { laid = laid; unopened = λ _. tt; refused = tt; same = tt; counts = tt })

pub returns-in-Err : goal.returns-in-Err
returns-in-Err g c =
    let facts = g.S.PageStore.facts in
    let schema = c.self.inside.schema in
    let old = c.self.inside.pager in
    let grown = c.args.grown.now in
    let can : CanLay schema c.args.next grown =
    subst (λ (s : Schema). CanLay s c.args.next grown) (sym (ap (λ (b : BegunView). b.schema) c.self.view_is)) c.requires in
    subst (λ (b : BegunView). LaysBegun facts b c.args.next grown (Err (record { store = c.into_store.result; fault = c.in-Err.fault }))) c.self.view_is
    (laid_not facts schema c.args.next grown old c.lay_regions.new.pager (record { store = c.into_store.result; fault = c.in-Err.fault }) can c.self.invariant c.in-Err.ensures c.into_store.ensures)
