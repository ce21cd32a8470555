use Rattle.ub_index.proofs.Common.{Fits, FitsAtEnds, IsUnfit, IsUnfitAtEnds}
use Rattle.ub_index.proofs.HeldFacts.{err_so, fits_checked, ok_so, unfit_checked}
use Rattle.ub_index.proofs.descent.fits_so.Goals as goal

pub returns-else-is_read-clause-found : goal.returns-else-is_read-clause-found
returns-else-is_read-clause-found c = λ was.
    ok_so c.fits_at_ends.result (FitsAtEnds c.args.page.now c.args.level c.args.place.now.entry c.args.place.now.next)
    (Fits c.args.last c.args.page.now c.args.level c.args.place.now.entry c.args.place.now.next)
    (fits_checked c.args.last c.args.page.now c.args.level c.args.place.now.entry c.args.place.now.next (was c.if-is_read.false)) c.fits_at_ends.ensures.found

pub returns-else-is_read-clause-refused : goal.returns-else-is_read-clause-refused
returns-else-is_read-clause-refused c = λ was.
    err_so c.fits_at_ends.result (IsUnfitAtEnds c.args.page.now c.args.level c.args.place.now.entry c.args.place.now.next)
    (IsUnfit c.args.last c.args.page.now c.args.level c.args.place.now.entry c.args.place.now.next)
    (unfit_checked c.args.last c.args.page.now c.args.level c.args.place.now.entry c.args.place.now.next (was c.if-is_read.false)) c.fits_at_ends.ensures.refused
