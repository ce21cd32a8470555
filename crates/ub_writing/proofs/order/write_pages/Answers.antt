use Rattle.std.proofs.Common.{◌∷◌, []}
use Rattle.ub_writing.specs.Puts.{IsPutPage}
use Rattle.ub_writing.proofs.HeldFacts.{put_later, put_one, renews_more, renews_then}
use Rattle.ub_writing.proofs.order.write_pages.Goals as goal

pub returns-clause-held : goal.returns-clause-held
returns-clause-held g c =
    let first = c.args.first.1.now in
    let second = c.args.second.1.now in
    let both = IsPutPage (first ∷ second ∷ []) in
    renews_then both c.args.pager.now.cached c.write_page.new.pager.cached _
    (renews_more (IsPutPage (first ∷ [])) both c.args.pager.now.cached _ (put_one first (second ∷ [])) c.write_page.ensures.held)
    (renews_more (IsPutPage (second ∷ [])) both c.write_page.new.pager.cached _ (put_later first (second ∷ [])) c.write_page-2.ensures.held)
