-- What a column can hold, a measure can.
use Rattle.std.proofs.Common.{◌∙◌, sym}
use Rattle.ub_table.proofs.Laws.{fits_some_measure}
use Rattle.ub_table.specs.Value.{axes_of}
use Rattle.ub_parser.proofs.values.fit.Goals as goal

pub measure-requires : goal.measure-requires
measure-requires c = fits_some_measure (axes_of c.args.schema.now) c.args.column _ (sym c.fits.ensures ∙ c.if-fits.true)
