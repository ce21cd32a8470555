use Rattle.std.proofs.Common.{◌<◌, ◌^◌, ◌∙◌, ◌∷◌, [], true, Ok, Err, ap, subst, sym, refl, length, Bool, IsTrue, ℕ, List, Some, rules}
use Rattle.ub_tree.proofs.Common.{is_written, IsRegion, IsRegionThere, Key, region_no_kind, region_page, Store, StoreFacts, StoreFault, tree_view, TreeView}
use Rattle.ub_tree.proofs.CallFacts.{last_small}
use Rattle.ub_tree.proofs.PutFacts.{own_page, put_rows, told_there}
use Rattle.ub_tree.proofs.ReadingFacts.{only_device, past_page}
use Rattle.ub_tree.proofs.WriteFacts.{ended_by, marks_first, others_written, put_is, write_refused, wrote_tree}
use Rattle.ub_tree.proofs.HeldFacts.{tree_written, written_checked}
use Rattle.ub_tree.proofs.tree.Tree.rewrite.Goals as goal

pub returns-in-Ok : goal.returns-in-Ok
returns-in-Ok g c =
    let t = c.self.inside in
    let old : TreeView = tree_view t.schema t.index t.count t.next t.rows (is_written t.mark) t.is_failed t.pager in
    let there : IsRegionThere old c.args.region.now = subst (λ (v : TreeView). IsRegionThere v c.args.region.now) (sym c.self.view_is) c.requires.there in
    record {
      same = search rules;
      written = let rows = c.args.page.now.region.rows in
          let good = subst (λ (v : TreeView). IsRegion v.schema (record { first = c.args.region.now.first; rows = rows })) (sym c.self.view_is) c.requires.region in
          let spells = ap (λ (k : Key). region_page t.schema (record { first = k; rows = rows })) c.requires.first in
          rw (← c.self.view_is) (λ i stored at.
          put_rows t.schema t.index t.count t.next t.rows (is_written t.mark) (is_written c.put_region.new.mark) t.is_failed t.pager c.put_region.new.pager i c.args.region.now
          (region_page t.schema c.args.page.now.region) rows c.in-Ok.ensures.put (ap (λ (s : StoreFacts). s.honest) c.in-Ok.ensures.effect.same ∙ stored.honest) stored at good spells);
      told = let small = subst (λ n. n < 2 ^ 128) (sym c.self.invariant.last_is) (last_small t.schema.dims t.schema.counts.few_dims) in
          let good = subst (λ (v : TreeView). IsRegion v.schema (record { first = c.args.region.now.first; rows = c.args.page.now.region.rows })) (sym c.self.view_is) c.requires.region in
          let is = subst (λ (k : Key). IsRegion t.schema (record { first = k; rows = c.args.page.now.region.rows })) (sym c.requires.first) good in
          rw (← c.self.view_is) (told_there t.schema t.index t.count t.next t.rows (is_written t.mark) (is_written c.put_region.new.mark) t.is_failed t.pager c.put_region.new.pager c.args.region.now
          (region_page t.schema c.args.page.now.region) c.root-root.ensures.some small there c.args.page.now.region is refl (ap (λ (s : StoreFacts). s.honest) c.in-Ok.ensures.effect.same) c.in-Ok.ensures.put);
      put = let spells = ap (λ (k : Key). region_page t.schema (record { first = k; rows = c.args.page.now.region.rows })) c.requires.first in
          rw (← c.self.view_is) (λ honest. c.in-Ok.ensures.put.written honest ∙ ap (λ (page : List ℕ). Some page) spells);
      faults = search rules;
      stays = search rules;
      effect = rw (← c.self.view_is) (record {
        frame = wrote_tree t.schema t.index t.count t.next t.rows (is_written t.mark) (is_written c.put_region.new.mark) t.is_failed t.is_failed t.pager c.put_region.new.pager {T = Unit {0}} (Ok tt) c.in-Ok.ensures.effect.same c.in-Ok.ensures.trace;
        marked = marks_first t.schema t.index t.count t.next t.rows (is_written t.mark) (is_written c.put_region.new.mark) t.is_failed t.is_failed t.pager c.put_region.new.pager t.mark c.put_region.new.mark (c.args.region.now.page ∷ []) refl refl c.self.invariant.mark_is c.put_region.ensures.marks
            (λ honest. (own_page old c.args.region.now c.root-root.ensures.some honest there.told, tt));
        done = refl;
        faults = tt;
        kept = others_written (0 ∷ c.args.region.now.page ∷ []) t.pager.store c.put_region.new.pager.store c.put_region.ensures.marks.others;
        count = c.put_region.ensures.marks.others.count;
      });
    }

pub returns-in-Err : goal.returns-in-Err
returns-in-Err g c = record {
  same = search rules;
  written = search rules;
  told = search rules;
  put = search rules;
  faults = search rules;
  stays = search rules;
  effect = let t = c.self.inside in
      let old : TreeView = tree_view t.schema t.index t.count t.next t.rows (is_written t.mark) t.is_failed t.pager in
      let new : TreeView = tree_view t.schema t.index t.count t.next t.rows (is_written c.put_region.new.mark) true c.put_region.new.pager in
      let there : IsRegionThere old c.args.region.now = subst (λ (v : TreeView). IsRegionThere v c.args.region.now) (sym c.self.view_is) c.requires.there in
      let device = only_device {U = Unit {0}} c.in-Err.fault c.in-Err.ensures.faults (λ no_page. past_page (length t.pager.store.pages) c.args.region.now.page there.there (c.in-Err.ensures.missing no_page)) in
      rw (c.failing.ensures.failed, c.failing.ensures.fault, ← c.self.view_is) (record {
        frame = wrote_tree t.schema t.index t.count t.next t.rows (is_written t.mark) (is_written c.put_region.new.mark) t.is_failed true t.pager c.put_region.new.pager {T = Unit {0}} (Err (Store c.in-Err.fault)) (c.in-Err.ensures.effect.same ∙ put_is (Unit {0}) (Unit {0}) c.in-Err.fault t.pager.store c.put_region.new.pager.store) c.in-Err.ensures.trace;
        marked = marks_first t.schema t.index t.count t.next t.rows (is_written t.mark) (is_written c.put_region.new.mark) t.is_failed true t.pager c.put_region.new.pager t.mark c.put_region.new.mark (c.args.region.now.page ∷ []) refl refl c.self.invariant.mark_is c.put_region.ensures.marks
            (λ honest. (own_page old c.args.region.now c.root-root.ensures.some honest there.told, tt));
        done = tt;
        faults = write_refused c.in-Err.fault old new device (c.in-Err.ensures.effect.device (ap (λ (f : StoreFault). Err f) device))
            (ended_by t.schema t.index t.count t.next t.rows (is_written t.mark) (is_written c.put_region.new.mark) t.is_failed true t.pager c.put_region.new.pager (Unit {0}) c.in-Err.fault refl c.in-Err.ensures.effect.same c.in-Err.ensures.trace);
        kept = others_written (0 ∷ c.args.region.now.page ∷ []) t.pager.store c.put_region.new.pager.store c.put_region.ensures.marks.others;
        count = c.put_region.ensures.marks.others.count;
      });
}

pub invariant_of-self : goal.invariant_of-self
invariant_of-self g c =
    let t = c.self.inside in
    let good = subst (λ (v : TreeView). IsRegion v.schema (record { first = c.args.region.now.first; rows = c.args.page.now.region.rows })) (sym c.self.view_is) c.requires.region in
    let is = subst (λ (k : Key). IsRegion t.schema (record { first = k; rows = c.args.page.now.region.rows })) (sym c.requires.first) good in
    tree_written t.schema t.index t.count t.next t.rows t.mark t.pager c.put_region.new.pager c.self.invariant
    (written_checked t.index.last (region_page t.schema c.args.page.now.region ∷ []) t.pager c.put_region.new.pager (subst (λ (b : Bool). IsTrue b) (ap (λ (s : StoreFacts). s.honest) c.put_region.ensures.effect.same))
    (region_no_kind t.schema c.args.page.now.region is, tt) c.put_region.ensures.held)
    c.put_region.new.mark c.put_region.ensures.marks.stays

pub invariant_of-self-in-Err : goal.invariant_of-self-in-Err
invariant_of-self-in-Err g c =
    let t = c.self.inside in
    let good = subst (λ (v : TreeView). IsRegion v.schema (record { first = c.args.region.now.first; rows = c.args.page.now.region.rows })) (sym c.self.view_is) c.requires.region in
    let is = subst (λ (k : Key). IsRegion t.schema (record { first = k; rows = c.args.page.now.region.rows })) (sym c.requires.first) good in
    tree_written t.schema t.index t.count t.next t.rows t.mark t.pager c.put_region.new.pager c.self.invariant
    (written_checked t.index.last (region_page t.schema c.args.page.now.region ∷ []) t.pager c.put_region.new.pager (subst (λ (b : Bool). IsTrue b) (ap (λ (s : StoreFacts). s.honest) c.put_region.ensures.effect.same))
    (region_no_kind t.schema c.args.page.now.region is, tt) c.put_region.ensures.held)
    c.put_region.new.mark c.put_region.ensures.marks.stays
