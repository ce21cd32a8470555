-- The items that are listed are those that the selection lists.
use Rattle.std.proofs.lemmas.List.Elements.{All-same}
use Rattle.ub_syntax.specs.declared.syntax.Item.{Item}
use Rattle.ub_parser.specs.Known.{IsKnownItem}
use Rattle.ub_parser.proofs.sense.items.Goals as goal

pub listed-requires : goal.listed-requires
listed-requires c =
    let known = rw c.in-Listed.is at c.requires in
    All-same (λ (item : Item). IsKnownItem c.args.source.now c.args.schema.now item) c.as_slice.result.now _ c.as_slice.ensures known
