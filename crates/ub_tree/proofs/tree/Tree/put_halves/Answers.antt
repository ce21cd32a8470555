use Rattle.std.proofs.Common.{ap, ◌<◌, ◌∙◌, ◌∷◌, [], true, Ok, Err, subst, sym, refl, length, Bool, IsTrue}
use Rattle.ub_tree.proofs.Common.{is_written, IsRegion, page_count, region_no_kind, region_page, Store, StoreFacts, StoreFault, tree_view, TreeView}
use Rattle.ub_tree.proofs.PartFacts.{marks_then}
use Rattle.ub_tree.proofs.ReadingFacts.{only_device, past_pages}
use Rattle.ub_tree.proofs.WriteFacts.{ended_by, others_written, put_is, write_refused, wrote_tree}
use Rattle.ub_tree.proofs.HeldFacts.{tree_written, written_checked}
use Rattle.ub_tree.proofs.tree.Tree.put_halves.Goals as goal

pub returns-in-Ok-clause-effect : goal.returns-in-Ok-clause-effect
returns-in-Ok-clause-effect g c =
    let t = c.self.inside in
    rw (← c.self.view_is) (record {
      frame = wrote_tree t.schema t.index t.count t.next t.rows (is_written t.mark) (is_written c.put_halves.new.mark) t.is_failed t.is_failed t.pager c.put_halves.new.pager {T = Unit {0}} (Ok tt) c.in-Ok.ensures.effect.same c.in-Ok.ensures.trace;
      kept = c.put_halves.ensures.marks.kept;
      marked = λ not_first own_not_first honest had is. marks_then t.schema t.mark c.put_halves.new.mark (c.args.number ∷ c.args.region.now.page ∷ []) t.pager.store c.put_halves.new.pager.store
          c.self.invariant.mark_is c.put_halves.ensures.marks (not_first, (own_not_first, tt)) honest had is;
      done = refl;
      faults = tt;
      others = others_written (0 ∷ c.args.number ∷ c.args.region.now.page ∷ []) t.pager.store c.put_halves.new.pager.store c.put_halves.ensures.marks.others;
    })

pub returns-in-Err-clause-effect : goal.returns-in-Err-clause-effect
returns-in-Err-clause-effect g c =
    let t = c.self.inside in
    let old : TreeView = tree_view t.schema t.index t.count t.next t.rows (is_written t.mark) t.is_failed t.pager in
    let new : TreeView = tree_view t.schema t.index t.count t.next t.rows (is_written c.put_halves.new.mark) true c.put_halves.new.pager in
    let page : c.args.region.now.page < page_count t.pager.store = subst (λ (v : TreeView). c.args.region.now.page < page_count v.store) (sym c.self.view_is) c.requires.own in
    let number : c.args.number < page_count t.pager.store = subst (λ (v : TreeView). c.args.number < page_count v.store) (sym c.self.view_is) c.requires.there in
    let device = only_device {U = Unit {0}} c.in-Err.fault c.in-Err.ensures.faults (λ no_page. past_pages (length t.pager.store.pages) c.args.number c.args.region.now.page number page (c.in-Err.ensures.missing no_page)) in
    rw (c.failing.ensures.failed, c.failing.ensures.fault, ← c.self.view_is) (record {
      frame = wrote_tree t.schema t.index t.count t.next t.rows (is_written t.mark) (is_written c.put_halves.new.mark) t.is_failed true t.pager c.put_halves.new.pager {T = Unit {0}} (Err (Store c.in-Err.fault)) (c.in-Err.ensures.effect.same ∙ put_is (Unit {0}) (Unit {0}) c.in-Err.fault t.pager.store c.put_halves.new.pager.store) c.in-Err.ensures.trace;
      kept = c.put_halves.ensures.marks.kept;
      marked = λ not_first own_not_first honest had is. marks_then t.schema t.mark c.put_halves.new.mark (c.args.number ∷ c.args.region.now.page ∷ []) t.pager.store c.put_halves.new.pager.store
          c.self.invariant.mark_is c.put_halves.ensures.marks (not_first, (own_not_first, tt)) honest had is;
      done = tt;
      faults = write_refused c.in-Err.fault old new device (c.in-Err.ensures.effect.device (ap (λ (f : StoreFault). Err f) device))
          (ended_by t.schema t.index t.count t.next t.rows (is_written t.mark) (is_written c.put_halves.new.mark) t.is_failed true t.pager c.put_halves.new.pager (Unit {0}) c.in-Err.fault refl c.in-Err.ensures.effect.same c.in-Err.ensures.trace);
      others = others_written (0 ∷ c.args.number ∷ c.args.region.now.page ∷ []) t.pager.store c.put_halves.new.pager.store c.put_halves.ensures.marks.others;
    })

pub invariant_of-self : goal.invariant_of-self
invariant_of-self g c =
    let t = c.self.inside in
    let left = subst (λ (v : TreeView). IsRegion v.schema c.args.left.now.region) (sym c.self.view_is) c.requires.left in
    let right = subst (λ (v : TreeView). IsRegion v.schema c.args.right.now.region) (sym c.self.view_is) c.requires.right in
    tree_written t.schema t.index t.count t.next t.rows t.mark t.pager c.put_halves.new.pager c.self.invariant
    (written_checked t.index.last (region_page t.schema c.args.right.now.region ∷ region_page t.schema c.args.left.now.region ∷ []) t.pager c.put_halves.new.pager
    (subst (λ (b : Bool). IsTrue b) (ap (λ (s : StoreFacts). s.honest) c.put_halves.ensures.effect.same))
    (region_no_kind t.schema c.args.right.now.region right, (region_no_kind t.schema c.args.left.now.region left, tt)) c.put_halves.ensures.held)
    c.put_halves.new.mark c.put_halves.ensures.marks.stays

pub invariant_of-self-in-Err : goal.invariant_of-self-in-Err
invariant_of-self-in-Err g c =
    let t = c.self.inside in
    let left = subst (λ (v : TreeView). IsRegion v.schema c.args.left.now.region) (sym c.self.view_is) c.requires.left in
    let right = subst (λ (v : TreeView). IsRegion v.schema c.args.right.now.region) (sym c.self.view_is) c.requires.right in
    tree_written t.schema t.index t.count t.next t.rows t.mark t.pager c.put_halves.new.pager c.self.invariant
    (written_checked t.index.last (region_page t.schema c.args.right.now.region ∷ region_page t.schema c.args.left.now.region ∷ []) t.pager c.put_halves.new.pager
    (subst (λ (b : Bool). IsTrue b) (ap (λ (s : StoreFacts). s.honest) c.put_halves.ensures.effect.same))
    (region_no_kind t.schema c.args.right.now.region right, (region_no_kind t.schema c.args.left.now.region left, tt)) c.put_halves.ensures.held)
    c.put_halves.new.mark c.put_halves.ensures.marks.stays
