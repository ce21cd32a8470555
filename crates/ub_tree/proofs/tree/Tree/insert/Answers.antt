use Rattle.std.proofs.Common.{◌∙◌, ap, arith, subst}
use Rattle.ub_tree.proofs.Common.{Inserts, measures_of, numbered, Row, row_of, Schema, TreeView}
use Rattle.ub_tree.proofs.NewFacts.{new_values, words_of}
use Rattle.ub_tree.proofs.tree.Tree.insert.Goals as goal

pub insert_row-requires : goal.insert_row-requires
insert_row-requires g c =
    let s : Schema = c.args.self.now.schema in
    let few = s.counts.few_measures in
    let covers = s.counts.covers_dims in
    rw c.row_of-row.ensures.row (new_values s.dims (measures_of s) c.self.inside.next c.args.dims.now c.args.measures.now c.requires.dims c.requires.measures s.counts.few_dims (omega arith)
    (words_of c.args.dims.now c.type_inv.dims) c.row_of-row.ensures.words)

pub returns : goal.returns
returns g c =
    let a = c.args.self.now in
    let is = c.row_of-row.ensures.row ∙ ap (λ (v : TreeView). row_of v.next c.args.dims.now c.args.measures.now) c.self.view_is in
    subst (λ (row : Row). Inserts (numbered a.next row) a c.insert_row.new.self c.insert_row.result) is c.insert_row.ensures
