use Rattle.std.proofs.Common.{◌≡◌, ◌∙◌, ap, refl, sym, Some}
use Rattle.ub_memory_files.specs.Memory.{place_in, told}
use Rattle.ub_memory_files.proofs.EntryFacts.{held_none, held_place, held_set}
use Rattle.ub_memory_files.proofs.entries.exchange.Goals as goal

pub returns-in-Some : goal.returns-in-Some
returns-in-Some c =
    let found : place_in c.args.entries.now c.args.path.now ≡ Some c.in-Some.place = sym c.place_of.ensures.place ∙ c.in-Some.is in
    let at = held_place c.args.entries.now c.args.path.now c.in-Some.place c.index-entries-place.result found in
    let set = held_set c.args.entries.now c.args.path.now c.in-Some.place c.index-entries-place.result _ found refl in
    (at.1 ∙ ap told (sym c.replace.ensures.value), (set.0 ∙ ap told c.replace.ensures.after, set.1))

pub returns-in-None : goal.returns-in-None
returns-in-None c =
    (refl, held_none c.args.entries.now c.args.path.now (sym c.place_of.ensures.place ∙ c.in-None.is), refl)
