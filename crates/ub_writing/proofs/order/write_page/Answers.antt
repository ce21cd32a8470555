use Rattle.std.proofs.Common.{◌∷◌, [], sym, subst}
use Rattle.ub_store.specs.Cache.{Renews}
use Rattle.ub_store.specs.View.{PagerView}
use Rattle.ub_writing.specs.Puts.{IsPutPage}
use Rattle.ub_writing.proofs.HeldFacts.{put_first, put_held, put_none, renews_more, renews_none, renews_then}
use Rattle.ub_writing.proofs.order.write_page.Goals.{in-Due+in_ok-put_header, in_default}
use Rattle.ub_writing.proofs.order.write_page.Goals as goal

pub returns-clause-held : goal.returns-clause-held
returns-clause-held g c =
    let pages = c.args.page.now ∷ [] in
    renews_then (IsPutPage pages) c.args.pager.now.cached c.match-mark.pager.cached _
    (elim c.match-mark.branch [
      | in-Due+in_ok-put_header w ↦ subst (λ (v : PagerView). Renews (IsPutPage pages) c.args.pager.now.cached v.cached) (sym w.pager-is)
          (renews_more (IsPutPage []) (IsPutPage pages) c.args.pager.now.cached _ (put_none pages) w.put_header.ensures.held)
      | in_default w ↦ subst (λ (v : PagerView). Renews (IsPutPage pages) c.args.pager.now.cached v.cached) (sym w.pager-is) (renews_none (IsPutPage pages) c.args.pager.now.cached)
    ])
    (put_held (IsPutPage pages) c.args.n c.args.page.now _ _ c.put.result (put_first c.args.page.now []) c.put.ensures.renewed c.put.ensures.forgotten c.put.ensures.others)
