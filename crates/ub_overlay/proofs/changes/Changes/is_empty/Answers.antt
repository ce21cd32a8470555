use Rattle.std.proofs.Common.{◌∙◌, ap}
use Rattle.std.specs.List.{list_any}
use Rattle.std.specs.Option.{is_some}
use Rattle.ub_overlay.proofs.SlotFacts as facts
use Rattle.ub_overlay.proofs.changes.Changes.is_empty.Goals as goal

pub returns : goal.returns
returns c =
    let any = c.is_any_held.ensures ∙ ap (list_any is_some) c.as_slice.ensures.value in
    rw (← c.self.view_is) (facts.empty_is c.is_any_held.result c.self.inside.slots.items any)
