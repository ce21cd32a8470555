-- What the parts of the loader promise each other.
use Rattle.std.specs.Prelude.{◌≡◌, Option, Some, None, Result, IfErr, IfOk, OnOk}
use Rattle.ub_load.specs.declared.fault.LoadFault.{LoadFault}

-- something was to be read of a text, with this answer: it is what this says, and nothing in it is refused; or the first thing that is
pub record Reads {A : Type 0} (Is : A → Type 0) (refusal : Option LoadFault) (result : Result A LoadFault) : Type 0 where
  pub value : IfOk result Is
  pub accepted : OnOk result (refusal ≡ None)
  pub refused : IfErr result (λ fault. refusal ≡ Some fault)
