use Rattle.std.proofs.Common.{◌≡◌, ◌∙◌, refl, sym, ap, true}
use Rattle.ub_region.specs.RegionPage.{region_page, region_on}
use Rattle.ub_region.proofs.RegionFacts.{parts, is_region, not_refused, same_view}
use Rattle.ub_region.proofs.SpelledFacts.{spelled, padding_fault, blank_behind, end_is}
use Rattle.ub_region.proofs.region_page.RegionPage.take_in.Goals as goal
use Rattle.ub_table.specs.Region.{IsRegion}

pub returns-in_err-take_in_fields-clause-exact : goal.returns-in_err-take_in_fields-clause-exact
returns-in_err-take_in_fields-clause-exact c = λ region is e. absurd (not_refused c.args.schema.now region c.args.page.now is e _ c.in_err-take_in_fields.ensures.refused)

pub returns-then-not-is_blank_from-clause-refused : goal.returns-then-not-is_blank_from-clause-refused
returns-then-not-is_blank_from-clause-refused c =
    let read = c.in_ok-take_in_fields.ensures in
    let end = end_is c.args.schema.now c.args.page.now c.take_in_fields.new.self.region c.len.result c.end_of.result read.region.1 c.len.ensures.len c.end_of.ensures in
    padding_fault c.args.schema.now c.args.page.now read.range.0 read.range.1 read.range.2 read.order.0 read.order.1
    (λ blank. let yes : c.is_blank_from.result ≡ true = c.is_blank_from.ensures.1 (rw end blank) in let no = c.if-not-is_blank_from.true in cc)

pub returns-then-not-is_blank_from-clause-exact : goal.returns-then-not-is_blank_from-clause-exact
returns-then-not-is_blank_from-clause-exact c = λ region is e.
    let read = c.in_ok-take_in_fields.ensures in
    let end = end_is c.args.schema.now c.args.page.now c.take_in_fields.new.self.region c.len.result c.end_of.result read.region.1 c.len.ensures.len c.end_of.ensures in
    let blank = blank_behind c.args.schema.now region c.args.page.now is e in
    let yes : c.is_blank_from.result ≡ true = c.is_blank_from.ensures.1 (rw end blank) in let no = c.if-not-is_blank_from.true in absurd (cc)

pub returns-clause-found : goal.returns-clause-found
returns-clause-found c =
    let read = c.in_ok-take_in_fields.ensures in
    let end = end_is c.args.schema.now c.args.page.now c.take_in_fields.new.self.region c.len.result c.end_of.result read.region.1 c.len.ensures.len c.end_of.ensures in
    let blank = rw end at (c.is_blank_from.ensures.0 c.if-not-is_blank_from.false) in
    let whole : c.args.page.now ≡ region_page c.args.schema.now (region_on c.args.schema.now c.args.page.now)
    = spelled c.args.schema.now c.args.page.now c.told-page c.fits-page read.range.0 read.range.1 blank in
    let is : IsRegion c.args.schema.now (region_on c.args.schema.now c.args.page.now) = is_region c.args.schema.now c.args.page.now c.fits-page read.range.1 read.range.2 read.order.0 read.order.1 in
    (rw (sym read.region.1) at is, whole ∙ ap (region_page c.args.schema.now) (sym read.region.1))

pub returns-clause-exact : goal.returns-clause-exact
returns-clause-exact c = λ region is e.
    let read = c.in_ok-take_in_fields.ensures in
    let on = parts c.args.schema.now region c.args.page.now is e in
    (refl, same_view c.take_in_fields.new.self c.args.schema.now.dims region read.region.0 (read.region.1 ∙ on.on))
