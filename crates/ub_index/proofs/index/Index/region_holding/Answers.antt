use Rattle.std.proofs.Common.{Result, Ok, Err, IfOk, subst, sym}
use Rattle.ub_index.proofs.Common.{AreChecked, entries_in, first_keys, Gives, index_holding, IndexFault, IndexView, IsIndexOn, IsRegionAt, Key, Region}
use Rattle.ub_index.proofs.Common.{StoreFacts}
use Rattle.ub_index.proofs.WayFacts.{way_ends_at}
use Rattle.ub_index.proofs.index.Index.region_holding.Goals as goal

holding_given : (r : Result Region IndexFault) (index : IndexView) (store : StoreFacts) (key : Key) → IsIndexOn index store → IfOk r (Gives index store key)
    → IfOk r (IsRegionAt (entries_in index store) (index_holding key (first_keys (entries_in index store))))
holding_given (Ok region) index store key is given = way_ends_at index store key region is (given.way is.honest)
holding_given (Err fault) index store key is given = tt

pub returns-clause-region : goal.returns-clause-region
returns-clause-region g c = λ sure is.
    holding_given c.descend.result c.args.self.now c.args.pager.now.store c.args.key.now is
    (subst (λ (index : IndexView). IfOk c.descend.result (Gives index c.args.pager.now.store c.args.key.now)) c.self.view_is (c.descend.ensures.given (subst (λ (index : IndexView). AreChecked index.last c.args.pager.now) (sym c.self.view_is) sure)))
