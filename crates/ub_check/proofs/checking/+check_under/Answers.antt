use Rattle.std.proofs.Common.{Err, ◌≡◌, ◌≤◌, ◌<◌, ◌+◌, ◌-◌, suc, ℕ, List, OnOk, length, slice_index_or, arith, rules, subst, sym}
use Rattle.ub_check.proofs.Common.{Entry, IsWalkedTo, NamesFitting, Steps, TakesOn, Walks}
use Rattle.ub_check.proofs.CheckingFacts.{below_stops, entry_there, page_stops, page_taken, walked_more}
use Rattle.ub_check.proofs.checking.+check_under.Goals as goal

pub returns-then-level-eq0-clause-taken : goal.returns-then-level-eq0-clause-taken
returns-then-level-eq0-clause-taken g t c =
    subst (λ (n : ℕ). OnOk c.check_region.result (TakesOn c.args.schema.now c.args.last n c.args.entry.now c.args.end c.args.pager.now.store c.args.walk.now c.check_region.new.walk))
    (sym c.if-level-eq0.true) c.check_region.ensures.taken

pub returns-in_err-entries-clause-effect : goal.returns-in_err-entries-clause-effect
returns-in_err-entries-clause-effect g t c =
    let low = c.if-level-eq0.false in
    let one : suc (c.args.level - 1) ≡ c.args.level = omega arith in
    subst (λ (n : ℕ). Walks c.args.schema.now c.args.last n c.args.entry.now c.args.end c.args.walk.now c.args.pager.now c.entries_at.new.pager c.from_residual.result) one
    (page_stops c.args.schema.now c.args.last (c.args.level - 1) c.args.entry.now c.args.end c.args.walk.now c.args.pager.now _ c.from_residual.result c.in_err-entries.field-0.0
    c.entries_at.new.pager c.from_residual.ensures.1
    (subst (λ (n : ℕ). Steps c.args.last n c.args.entry.now c.args.end c.args.pager.now c.entries_at.new.pager (Err c.in_err-entries.field-0.0)) (sym one) c.in_err-entries.ensures.effect))

pub returns-in_err-check_under-clause-effect : goal.returns-in_err-check_under-clause-effect
returns-in_err-check_under-clause-effect g t c =
    let low = c.if-level-eq0.false in
    let level : suc (c.args.level - 1) ≡ c.args.level = omega arith in
    let entries = c.in_ok-entries.entries.items in
    let i = c.loop-i.i in
    let within : i < length entries = search rules in
    let read : c.index.result.now ≡ slice_index_or entries i c.index.result.now = search rules in
    let here = entry_there entries _ i c.index.result.now c.args.end c.first_from-next.result within read c.as_slice.ensures.value c.first_from-next.ensures in
    subst (λ (n : ℕ). Walks c.args.schema.now c.args.last n c.args.entry.now c.args.end c.args.walk.now c.args.pager.now c.check_under.new.pager c.from_residual-in_err-check_under.result) level
    (below_stops c.args.schema.now c.args.last (c.args.level - 1) c.args.entry.now c.args.end c.args.walk.now c.args.pager.now entries c.entries_at.new.pager c.in_ok-entries.ensures.effect.same c.in_ok-entries.ensures.effect.checked
    (λ honest. subst (λ (n : ℕ). NamesFitting c.args.last c.args.pager.now.store.pages n c.args.entry.now c.args.end) (sym level) (c.in_ok-entries.ensures.named honest))
    (λ honest. c.in_ok-entries.ensures.entries honest) c.loop-i.pager c.loop-i.walk i c.index.result.now c.first_from-next.result c.loop-i.invariant here.0 here.1
    c.from_residual-in_err-check_under.result c.in_err-check_under.field-0.0 c.check_under.new.pager c.from_residual-in_err-check_under.ensures.1 c.in_err-check_under.ensures.effect)

pub loop-i-preserved : goal.loop-i-preserved
loop-i-preserved g t c =
    let entries = c.in_ok-entries.entries.items in
    let i = c.loop-i.i in
    let within : i < length entries = search rules in
    let read : c.index.result.now ≡ slice_index_or entries i c.index.result.now = search rules in
    let here = entry_there entries _ i c.index.result.now c.args.end c.first_from-next.result within read c.as_slice.ensures.value c.first_from-next.ensures in
    let one : suc i ≡ i + 1 = omega arith in
    subst (λ (j : ℕ). IsWalkedTo c.args.schema.now c.args.last (c.args.level - 1) entries c.args.end c.entries_at.new.pager c.check_under.new.pager c.args.walk.now c.check_under.new.walk j) one
    (walked_more c.args.schema.now c.args.last (c.args.level - 1) entries c.args.end c.entries_at.new.pager c.loop-i.pager c.args.walk.now c.loop-i.walk i
    c.index.result.now c.first_from-next.result c.loop-i.invariant here.0 here.1 c.check_under.new.pager c.check_under.new.walk
    c.in_ok-check_under.ensures.effect.same c.in_ok-check_under.ensures.effect.checked c.in_ok-check_under.ensures.bound c.in_ok-check_under.ensures.taken)

pub returns-clause-taken : goal.returns-clause-taken
returns-clause-taken g t c =
    let low = c.if-level-eq0.false in
    let one : suc (c.args.level - 1) ≡ c.args.level = omega arith in
    let end : length c.in_ok-entries.entries.items ≤ c.loop-i.i = search rules in
    subst (λ (n : ℕ). TakesOn c.args.schema.now c.args.last n c.args.entry.now c.args.end c.args.pager.now.store c.args.walk.now c.loop-i.walk) one
    (page_taken c.args.schema.now c.args.last (c.args.level - 1) c.args.entry.now c.args.end c.args.walk.now c.args.pager.now c.in_ok-entries.entries.items c.entries_at.new.pager
    c.in_ok-entries.ensures.effect.same c.in_ok-entries.ensures.effect.checked
    (λ honest. subst (λ (n : ℕ). NamesFitting c.args.last c.args.pager.now.store.pages n c.args.entry.now c.args.end) (sym one) (c.in_ok-entries.ensures.named honest))
    (λ honest. c.in_ok-entries.ensures.entries honest) c.loop-i.pager c.loop-i.walk c.loop-i.i end c.loop-i.invariant)
