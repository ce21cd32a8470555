use Rattle.std.proofs.Common.{◌<◌, ◌^◌, arith}
use Rattle.ub_index.proofs.Common.{Fits, FitsAtEnds, IsUnfit, IsUnfitAtEnds}
use Rattle.ub_index.proofs.HeldFacts.{ends_of, err_so, fits_of, ok_so, unfit_of}
use Rattle.ub_index.proofs.descent.fits.Goals as goal

pub returns-clause-found : goal.returns-clause-found
returns-clause-found c =
    let found = c.in_ok-check_index.ensures.found in
    ok_so c.fits_at_ends.result (FitsAtEnds c.args.page.now c.args.level c.args.place.now.entry c.args.place.now.next) (Fits c.args.last c.args.page.now c.args.level c.args.place.now.entry c.args.place.now.next)
    (fits_of c.args.last c.args.page.now c.args.level c.args.place.now.entry c.args.place.now.next (record { spelled = found.1; is = found.0 })) c.fits_at_ends.ensures.found

pub returns-clause-exact : goal.returns-clause-exact
returns-clause-exact c = λ fits.
    let small : c.args.last < 256 ^ 16 = omega arith in
    c.fits_at_ends.ensures.exact (ends_of c.args.last c.args.page.now c.args.level c.args.place.now.entry c.args.place.now.next small fits)

pub returns-clause-refused : goal.returns-clause-refused
returns-clause-refused c =
    let found = c.in_ok-check_index.ensures.found in
    err_so c.fits_at_ends.result (IsUnfitAtEnds c.args.page.now c.args.level c.args.place.now.entry c.args.place.now.next)
    (IsUnfit c.args.last c.args.page.now c.args.level c.args.place.now.entry c.args.place.now.next)
    (λ e unfit. unfit_of c.args.last c.args.page.now c.args.level c.args.place.now.entry c.args.place.now.next e (record { spelled = found.1; is = found.0 }) unfit) c.fits_at_ends.ensures.refused
