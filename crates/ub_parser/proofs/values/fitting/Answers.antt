-- One value more, and all of them.
use Rattle.std.proofs.Common.{◌∙◌, ap, inr, List, map, take_all, arith, rules, w64}
use Rattle.std.proofs.lemmas.Int.{to_z-of_z}
use Rattle.std.proofs.lemmas.Result.{err_from_is_err_and}
use Rattle.ub_parser.proofs.ValueFacts.{unfit_at, fits_more, fits_all, more_values}
use Rattle.ub_parser.specs.Sense.{value_of}
use Rattle.ub_syntax.specs.declared.syntax.Value.{Value}
use Rattle.ub_parser.proofs.values.fitting.Goals as goal

pub returns-in_err-value-clause-refused : goal.returns-in_err-value-clause-refused
returns-in_err-value-clause-refused c =
    let p = err_from_is_err_and c.from_residual-in_err-value.result c.from_residual-in_err-value.ensures.1 in
    rw (p.1, p.2) (inr (
      _,
      unfit_at c.args.source.now c.args.schema.now c.args.literals.now c.loop-column.column _ c.loop-column-test.true c.loop-column.invariant.1 c.in_err-value.ensures.refused.1,
      c.in_err-value.ensures.refused.0,
    ))

pub loop-column-preserved : goal.loop-column-preserved
loop-column-preserved c = (
  more_values c.args.source.now c.args.literals.now c.loop-column.column c.loop-column.values.items c.push.new.self.items _ _ c.loop-column-test.true c.loop-column.invariant.0 c.in-Ok.ensures.items
      (to_z-of_z w64 c.in_ok-value.value (search rules) ∙ c.in_ok-value.ensures.value),
  fits_more c.args.source.now c.args.schema.now c.args.literals.now c.loop-column.column _ c.loop-column-test.true c.loop-column.invariant.1 c.in_ok-value.ensures.fits,
)

pub returns-clause-values : goal.returns-clause-values
returns-clause-values c =
    c.loop-column.invariant.0 ∙ ap (λ (vs : List Value). map (λ v. value_of c.args.source.now v.literal) vs) (take_all c.loop-column.column c.args.literals.now (omega arith))

pub returns-clause-fit : goal.returns-clause-fit
returns-clause-fit c = fits_all c.args.source.now c.args.schema.now c.args.literals.now c.loop-column.column (omega arith) c.loop-column.invariant.1
