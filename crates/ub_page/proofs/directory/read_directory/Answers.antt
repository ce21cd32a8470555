use Rattle.std.proofs.Common.{◌≡◌, ◌<◌, ◌^◌, ◌∙◌, ap, arith, true, Ok, Result}
use Rattle.ub_page.specs.Directory.{Listing, directory_page}
use Rattle.ub_page.proofs.DirectoryFacts.{is_listing, parts, not_refused, padding_fault}
use Rattle.ub_page.proofs.directory.read_directory.Goals as goal
use Rattle.ub_table.specs.declared.fault.PageFault.{PageFault}

pub returns-in_err-directory-clause-exact : goal.returns-in_err-directory-clause-exact
returns-in_err-directory-clause-exact c = λ listing is e. absurd (not_refused listing c.args.page.now c.args.schema.now.dims c.args.schema.now.counts.few_dims is e _ c.in_err-directory.ensures.refused)

pub returns-then-not-is_same-clause-refused : goal.returns-then-not-is_same-clause-refused
returns-then-not-is_same-clause-refused c =
    let read = c.in_ok-directory.ensures in
    let written : c.page.result.now ≡ directory_page c.in_ok-directory.directory = c.page.ensures ∙ rw (c.entries.ensures.entries, c.next.ensures) at c.write_directory.ensures in
    padding_fault c.in_ok-directory.directory c.args.page.now c.args.schema.now.dims c.args.schema.now.counts.few_dims
    read.listing.0 read.listing.1 read.listing.2 read.entries.0 read.entries.1
    (λ e. let yes : c.is_same.result ≡ true = c.is_same.ensures.1 (written ∙ e) in let no = c.if-not-is_same.true in cc)

pub returns-then-not-is_same-clause-exact : goal.returns-then-not-is_same-clause-exact
returns-then-not-is_same-clause-exact c = λ listing is e.
    let read = c.in_ok-directory.ensures in
    let written : c.page.result.now ≡ directory_page c.in_ok-directory.directory = c.page.ensures ∙ rw (c.entries.ensures.entries, c.next.ensures) at c.write_directory.ensures in
    let fault = padding_fault c.in_ok-directory.directory c.args.page.now c.args.schema.now.dims c.args.schema.now.counts.few_dims
    read.listing.0 read.listing.1 read.listing.2 read.entries.0 read.entries.1
    (λ e. let yes : c.is_same.result ≡ true = c.is_same.ensures.1 (written ∙ e) in let no = c.if-not-is_same.true in cc) in
    absurd (fault.4 listing is e)

pub returns-clause-exact : goal.returns-clause-exact
returns-clause-exact c = λ listing is e.
    let on = parts listing c.args.page.now c.args.schema.now.dims c.args.schema.now.counts.few_dims is e in
    let same : c.in_ok-directory.directory ≡ listing = c.in_ok-directory.ensures.listing.0 ∙ on.on in
    let answer : Listing → Result Listing PageFault = λ d. Ok d in
    ap answer same

pub write_directory-requires : goal.write_directory-requires
write_directory-requires c =
    let read = c.in_ok-directory.ensures in
    let small : c.next.result < 2 ^ 32 = (let fits = c.next.type_inv in omega arith) in (
      c.args.schema.now.dims,
      rw (c.entries.ensures.entries, c.next.ensures)
          (is_listing c.in_ok-directory.directory c.args.page.now c.args.schema.now.dims read.listing.0 read.listing.2 read.entries.0 read.entries.1 (rw c.next.ensures at small)),
    )
