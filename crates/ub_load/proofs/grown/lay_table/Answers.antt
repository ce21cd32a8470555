use Rattle.std.proofs.Common.{refl, subst, sym}
use Rattle.ub_laying.specs.Begun.{CanLay}
use Rattle.ub_laying.specs.Spelled.{grown_facts}
use Rattle.ub_load.proofs.LaidFacts.{grown_tree}
use Rattle.ub_load.proofs.grown.lay_table.Goals as goal
use Rattle.ub_table.specs.declared.schema.Schema.{Schema}

pub lay-requires : goal.lay-requires
lay-requires c =
    subst (λ (s : Schema). CanLay s c.args.table.now.next c.args.table.now.grown) (sym c.in-Ok.ensures.begun.schema_is) c.requires

pub returns-in-Ok-lay : goal.returns-in-Ok-lay
returns-in-Ok-lay c =
    let table = c.args.table.now in
    record {
      laid = λ text axes page_rows name is.
          grown_tree table (grown_facts c.over-store.result) c.in-Ok.begun c.in-Ok-lay.tree c.in-Ok.ensures.begun c.in-Ok-lay.ensures.laid refl text axes page_rows name is;
      refused = tt;
    }
