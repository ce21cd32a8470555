use Rattle.std.proofs.Common.{◌+◌, ◌-◌, ◌*◌, ◌∷◌, [], refl, sym, arith, length-append}
use Rattle.std.proofs.lemmas.Result.{err_from_is_err_and}
use Rattle.ub_page.proofs.HeaderFacts.{names_next, valid_next, names_step}
use Rattle.ub_page.proofs.header.read_columns.Goals as goal

pub returns-in_err-read_name-clause-refused : goal.returns-in_err-read_name-clause-refused
returns-in_err-read_name-clause-refused c =
    let some = c.requires.some in
    let next = valid_next 65 c.args.count 98 (c.args.count - 1) c.args.page.now (omega arith) refl refl in
    let p = err_from_is_err_and c.from_residual.result c.from_residual.ensures.1 in
    rw (p.1, p.2) (c.in_err-read_name.ensures.refused.0, λ all. c.in_err-read_name.ensures.refused.1 (next.0 all).0)

pub loop-i-init : goal.loop-i-init
loop-i-init c =
    let some = c.requires.some in
    let next = valid_next 65 c.args.count 98 (c.args.count - 1) c.args.page.now (omega arith) refl refl in
    let names = names_next 65 c.args.count 98 (c.args.count - 1) c.args.page.now (omega arith) refl refl in
    let first = c.in_ok-read_name.ensures.name in
    record {
      names = rw (c.new-columns.ensures, first.0) (sym names);
      len = rw c.new-columns.ensures refl;
      valid = (λ all. (next.0 all).1, λ rest. next.1 (first.1, rest));
    }

pub returns-in_err-read_name-2-clause-refused : goal.returns-in_err-read_name-2-clause-refused
returns-in_err-read_name-2-clause-refused c =
    let more = c.loop-i-test.true in
    let next = valid_next (65 + 33 * c.loop-i.i) (c.args.count - c.loop-i.i) (65 + 33 * (c.loop-i.i + 1)) (c.args.count - (c.loop-i.i + 1)) c.args.page.now (omega arith) (omega arith) (omega arith) in
    let p = err_from_is_err_and c.from_residual-in_err-read_name-2.result c.from_residual-in_err-read_name-2.ensures.1 in
    rw (p.1, p.2) (c.in_err-read_name-2.ensures.refused.0, λ all. c.in_err-read_name-2.ensures.refused.1 (next.0 (c.loop-i.invariant.valid.0 all)).0)

pub loop-i-preserved : goal.loop-i-preserved
loop-i-preserved c =
    let more = c.loop-i-test.true in
    let here = c.in_ok-read_name-2.ensures.name in
    let next = valid_next (65 + 33 * c.loop-i.i) (c.args.count - c.loop-i.i) (65 + 33 * (c.loop-i.i + 1)) (c.args.count - (c.loop-i.i + 1)) c.args.page.now (omega arith) (omega arith) (omega arith) in
    let len = c.loop-i.invariant.len in
    record {
      names = rw (c.push.ensures, here.0) (names_step c.loop-i.columns _ c.args.page.now c.loop-i.i c.args.count more c.loop-i.invariant.names);
      len = rw c.push.ensures (omega (arith, length-append c.loop-i.columns (c.in_ok-read_name-2.field-0 ∷ [])));
      valid = (λ all. (next.0 (c.loop-i.invariant.valid.0 all)).1, λ rest. c.loop-i.invariant.valid.1 (next.1 (here.1, rest)));
    }
