use Rattle.std.proofs.Common.{◌-◌, ◌++◌, Err, Ok, ℕ, List, ap, refl, rules, subst}
use Rattle.ub_check.proofs.Common.{AreNew, HasJust, PagerView, ReadsAt, Region}
use Rattle.ub_check.proofs.CheckingFacts.{pager_read, region_not_new, region_refused, region_stands, region_taken}
use Rattle.ub_check.proofs.checking.check_region.Goals as goal

pub returns-in_err-read_region-clause-effect : goal.returns-in_err-read_region-clause-effect
returns-in_err-read_region-clause-effect g c =
    region_refused c.args.schema.now c.args.last c.args.entry.now c.args.end c.args.walk.now c.args.pager.now c.if-walk-eq0.false (Unit {0}) c.from_residual.result c.in_err-read_region.field-0.0
    c.read_region.new.pager c.read_region.new.page c.from_residual.ensures.1 c.in_err-read_region.ensures.trace
    (subst (λ (r : Region). ReadsAt {A = Unit {0}} c.args.schema.now r c.args.pager.now c.read_region.new.pager c.read_region.new.page (Err c.in_err-read_region.field-0.0)) c.region_at-region.ensures.region
    c.in_err-read_region.ensures.read)

pub returns-then-not-put_numbers-clause-effect : goal.returns-then-not-put_numbers-clause-effect
returns-then-not-put_numbers-clause-effect g c =
    let read = subst (λ (r : Region). ReadsAt {A = Unit {0}} c.args.schema.now r c.args.pager.now c.read_region.new.pager c.read_region.new.page (Ok tt)) c.region_at-region.ensures.region
    c.in_ok-read_region.ensures.read in
    let region = c.read_region.new.page.region in
    let numbers = c.numbers.ensures.numbers in
    record {
      same = pager_read c.args.pager.now c.read_region.new.pager c.args.pager.now.store (ap (λ (p : PagerView). p.store) read.same) c.in_ok-read_region.ensures.trace;
      checked = read.checked c.args.last;
      faults = region_not_new c.args.schema.now c.args.last c.args.entry.now c.args.end c.args.walk.now c.args.pager.now c.if-walk-eq0.false region
          (region_stands c.args.schema.now c.args.last c.args.entry.now c.args.end c.args.walk.now c.args.pager.now c.if-walk-eq0.false c.read_region.new.pager c.read_region.new.page read)
          (λ met has. subst (λ (ns : List ℕ). ¬ (AreNew c.args.walk.now.numbers.bound met ns)) numbers (c.put_numbers.ensures.refused met has c.if-not-put_numbers.true));
    }

pub returns-clause-taken : goal.returns-clause-taken
returns-clause-taken g c =
    let read = subst (λ (r : Region). ReadsAt {A = Unit {0}} c.args.schema.now r c.args.pager.now c.read_region.new.pager c.read_region.new.page (Ok tt)) c.region_at-region.ensures.region
    c.in_ok-read_region.ensures.read in
    let region = c.read_region.new.page.region in
    let numbers = c.numbers.ensures.numbers in
    region_taken c.args.schema.now c.args.last c.args.entry.now c.args.end c.args.walk.now c.args.pager.now c.if-walk-eq0.false region
    (region_stands c.args.schema.now c.args.last c.args.entry.now c.args.end c.args.walk.now c.args.pager.now c.if-walk-eq0.false c.read_region.new.pager c.read_region.new.page read)
    (record { left = c.args.walk.now.left - 1; rows = c.saturating_add-walk.result; numbers = c.put_numbers.new.numbers; region = c.read_region.new.page }) refl
    (search rules)
    (λ met has.
    let put = c.put_numbers.ensures.new met has c.if-not-put_numbers.false in (
      subst (λ (ns : List ℕ). AreNew c.args.walk.now.numbers.bound met ns) numbers put.0,
      subst (λ (ns : List ℕ). HasJust c.put_numbers.new.numbers (met ++ ns)) numbers put.1,
    ))

pub returns-clause-effect : goal.returns-clause-effect
returns-clause-effect g c =
    let read = subst (λ (r : Region). ReadsAt {A = Unit {0}} c.args.schema.now r c.args.pager.now c.read_region.new.pager c.read_region.new.page (Ok tt)) c.region_at-region.ensures.region
    c.in_ok-read_region.ensures.read in
    record {
      same = pager_read c.args.pager.now c.read_region.new.pager c.args.pager.now.store (ap (λ (p : PagerView). p.store) read.same) c.in_ok-read_region.ensures.trace;
      checked = read.checked c.args.last;
      faults = tt;
    }
