use Rattle.std.proofs.Common.{◌≡◌, ◌<◌, ◌≤◌, ◌/◌, ◌*◌, length, slice_index_or, arith, refl, rules}
use Rattle.ub_check.proofs.Common.{get_or_read_under}
use Rattle.ub_check.proofs.NumberFacts.{is_new, put_has}
use Rattle.ub_check.proofs.numbers.Numbers.put.Goals as goal

pub returns-clause-new : goal.returns-clause-new
returns-clause-new c = λ met has _.
    let words = c.self.inside.words.items in
    let below : c.args.number < c.args.self.now.bound = search rules in
    let room : c.self.inside.bound ≤ 64 * length words = c.self.invariant in
    let bound : c.args.number < c.self.inside.bound = search rules in
    let within : c.args.number / 64 < length words = omega arith in
    let read : c.index-word.result.now ≡ slice_index_or words (c.args.number / 64) c.index-word.result.now = search rules in
    let here : c.index-word.result.now ≡ slice_index_or words (c.args.number / 64) 0 = get_or_read_under words (c.args.number / 64) (length words) c.index-word.result.now 0 read within refl in
    let there = rw (← c.self.view_is) at has in (
      below,
      is_new c.self.inside.bound c.args.number c.index-word.result.now words met here there c.if-word-number-eq1.false,
      put_has words c.args.number c.index-word.result.now within here c.self.inside.bound met there,
    )
