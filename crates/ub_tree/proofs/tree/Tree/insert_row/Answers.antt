use Rattle.std.proofs.Common.{◌≡◌, ◌∙◌, ap, arith, subst}
use Rattle.ub_tree.proofs.Common.{Inserts, IsRow, IsSound, measures_of, next_free, numbered, regions, Row, TreeView}
use Rattle.ub_tree.proofs.GrowFacts.{inserts_next}
use Rattle.ub_tree.proofs.NewFacts.{numbered_row}
use Rattle.ub_tree.proofs.tree.Tree.insert_row.Goals as goal

pub returns : goal.returns
returns g c =
    let a = c.args.self.now in
    let b = c.insert_numbered.new.self in
    let r = c.insert_numbered.result in
    let said = c.insert_numbered.ensures in
    let is : c.self.inside.next ≡ a.next = ap (λ (v : TreeView). v.next) c.self.view_is in
    let row : Row = numbered c.self.inside.next c.args.row.now in
    let fewer = c.self.invariant.fewer in
    let last_next = c.self.invariant.last_next in
    let not_last = c.if-self-eq-NEXT_END.false in
    let good : IsRow a.schema.dims (measures_of a.schema) row = numbered_row a.schema.dims (measures_of a.schema) row
    (record { dims_rest = c.requires.dims_rest; dims_words = c.requires.dims_words; measures_rest = c.requires.measures_rest; measures_words = c.requires.measures_words }) (omega arith, omega arith) in
    let free = λ (sound : IsSound a). next_free a.schema a.next c.self.inside.next (regions a) sound.regions_are (omega arith) in
    subst (λ n. Inserts (numbered n c.args.row.now) a b r) is (inserts_next a b row r good is (λ last. not_last (is ∙ last)) free said)
