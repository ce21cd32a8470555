use Rattle.std.proofs.Common.{◌-◌, ◌++◌, ◌∙◌, ap, arith, replicate, sym, take}
use Rattle.ub_store.specs.Facts.{zero_page}
use Rattle.ub_journal.specs.Image.{resized}
use Rattle.ub_journal.specs.Torn.{done}
use Rattle.ub_journal.specs.declared.torn.Deed.{Deed}
use Rattle.ub_journal.proofs.Lists.{take_filled}
use Rattle.ub_journal.proofs.torn.put_again.Goals as goal

pub returns-in_ok-resize-in-Resize : goal.returns-in_ok-resize-in-Resize
returns-in_ok-resize-in-Resize c i is =
    let size = c.in-Resize.size in
    let pages = c.args.pages.now in
    ap (λ (d : Deed). (done d i).table) c.in-Resize.is ∙ ap (resized size) is ∙ take_filled size size pages.items zero_page (omega arith)
    ∙ ap (λ n. take size pages.items ++ replicate (size - n) zero_page) (sym pages.ok.0) ∙ sym c.in_ok-resize-in-Resize.ensures.items
