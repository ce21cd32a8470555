use Rattle.std.proofs.Common.{◌++◌, ℕ, List, ap, sym}
use Rattle.ub_boxes.specs.Points.{total}
use Rattle.ub_plan.proofs.LineFacts.{most_text, none_below, put_on}
use Rattle.ub_plan.proofs.lines.push_total.Goals as goal

pub returns-in-None : goal.returns-in-None
returns-in-None c =
    put_on c.extend_from_slice.result _ _ _ _ c.extend_from_slice.ensures.items
    (ap (λ (t : List ℕ). c.args.text.now.items ++ t) (sym (most_text (total c.args.boxes.now) (none_below (total c.args.boxes.now) c.total.result c.requires c.in-None.is c.total.ensures))))
