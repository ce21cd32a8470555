use Rattle.std.proofs.Common.{◌∙◌, Some, length, option_map, sym, ap, inr}
use Rattle.csv.specs.Records.{fields_of}
use Rattle.ub_load.specs.Appending as spec
use Rattle.ub_load.proofs.PlacedFacts.{content_within, length-arranged, placed_is_of_fields, placed_of_other_length}
use Rattle.ub_load.proofs.PutFacts.{accepted_values}
use Rattle.ub_load.proofs.rows.read_placed.Goals as goal

pub returns-then-len-width-clause-refused : goal.returns-then-len-width-clause-refused
returns-then-len-width-clause-refused c =
    inr (placed_of_other_length c.args.axes c.args.width c.args.places.now c.args.number (fields_of c.args.fields.now) (λ e. c.if-len-width.true (c.len.ensures ∙ e)))

pub told_at-requires-clause-columns : goal.told_at-requires-clause-columns
told_at-requires-clause-columns c =
    let ordered = spec.arranged c.args.places.now (fields_of c.args.fields.now) in
    content_within c.args.axes c.args.places.now c.args.number ordered _ (length-arranged c.args.places.now (fields_of c.args.fields.now))
    (rw c.in_ok-arrange.ensures at c.in-Err.ensures.refused)

pub returns-in-Ok-clause-suit : goal.returns-in-Ok-clause-suit
returns-in-Ok-clause-suit c =
    rw c.in-Ok.ensures.value
    (accepted_values c.args.axes (length c.args.places.now) c.args.number (fields_of c.arrange.new.ordered) c.requires.few_dims c.requires.covers_dims c.requires.few_columns c.in-Ok.ensures.accepted)

pub returns-in-Ok-clause-accepted : goal.returns-in-Ok-clause-accepted
returns-in-Ok-clause-accepted c =
    let good = rw c.in_ok-arrange.ensures at c.in-Ok.ensures.accepted in
    placed_is_of_fields c.args.axes c.args.width c.args.places.now c.args.number (fields_of c.args.fields.now) (sym c.len.ensures ∙ c.if-len-width.false)
    ∙ ap (option_map (spec.told_at c.args.places.now)) good

pub returns-in-Err-clause-refused : goal.returns-in-Err-clause-refused
returns-in-Err-clause-refused c =
    let bad = rw c.in_ok-arrange.ensures at c.in-Err.ensures.refused in
    inr (
    placed_is_of_fields c.args.axes c.args.width c.args.places.now c.args.number (fields_of c.args.fields.now) (sym c.len.ensures ∙ c.if-len-width.false)
    ∙ ap (option_map (spec.told_at c.args.places.now)) bad
    ∙ ap Some (sym c.told_at.ensures)
    )
