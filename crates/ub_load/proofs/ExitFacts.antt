-- What a result tells where another one told it.
use Rattle.std.proofs.Common.{◌≡◌, Result, Ok, Err, IfErr, IfOk, subst, sym}
use Rattle.std.specs.Result.{IsErrAnd}
use Rattle.ub_load.specs.Loading.{IsNewFault}
use Rattle.ub_load.specs.Refusals.{fault_of_tree}
use Rattle.ub_load.specs.declared.fault.LoadFault.{LoadFault}
use Rattle.ub_load.proofs.ToldFacts.{new_fault}
use Rattle.ub_store.specs.Facts.{StoreFacts}
use Rattle.ub_tree.specs.Calls.{IsCreateFault}
use Rattle.ub_tree.specs.declared.fault.TreeFault.{TreeFault}

-- what is said of a value, or of a refusal, is also said so
pub value_so : {T E : Type 0} (P Q : T → Type 0) (r : Result T E) → IfOk r P → ((x : T) → P x → Q x) → IfOk r Q
value_so P Q (Ok x) h f = f x h
value_so P Q (Err e) h f = tt

pub fault_so : {T E : Type 0} (P Q : E → Type 0) (r : Result T E) → IfErr r P → ((e : E) → P e → Q e) → IfErr r Q
fault_so P Q (Ok x) h f = tt
fault_so P Q (Err e) h f = f e h

-- a new tree's refusal, told as the loader's
pub new_refusal : (facts : StoreFacts) (fault : TreeFault) (f : LoadFault) → f ≡ fault_of_tree fault → IsCreateFault facts fault → IsNewFault facts f
new_refusal facts fault f is h = subst (λ (f : LoadFault). IsNewFault facts f) (sym is) (new_fault facts fault h)

-- a refusal that is handed on
pub refused_so : {T E : Type 0} (P : E → Type 0) (r : Result T E) (e : E) → IsErrAnd r (λ x. x ≡ e) → P e → IfErr r P
refused_so P (Ok x) e is h = tt
refused_so P (Err f) e is h = subst P (sym is) h
