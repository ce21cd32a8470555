-- What contracts see of a store that fails when it is told to.
use Rattle.std.specs.Prelude.{◌≡◌, ◌≢◌, ◌-◌, ℕ, refl, true, Result, Err}
use Rattle.std.specs.Coded.{Coded, code_by, coded×, coded_ℕ}
use Rattle.ub_store.specs.Facts.{StoreFacts, raised}
use Rattle.ub_store.specs.declared.fault.StoreFault.{StoreFault}
use Rattle.ub_store.specs.declared.fault.StoreFault.TheVariants.{Device}

-- the store within, at which call from here on the failure is due (0: never), and how many reads and how many other calls
-- failed here
pub record FaultyView (S : Type 0) : Type 0 where
  pub inner : S
  pub due : ℕ
  pub reads : ℕ
  pub writes : ℕ

-- the same facts of a store that can fail, with so many failures more
abbrev pub with_failures : StoreFacts → ℕ → ℕ → StoreFacts
with_failures facts reads writes = record facts {
  can_fail = true;
  failed_reads = raised facts.failed_reads reads;
  failed_writes = raised facts.failed_writes writes;
}

module _ {S : Type 0} where
  -- the view of its parts
  abbrev pub faulty_view : S → ℕ → ℕ → ℕ → FaultyView S
  faulty_view inner due reads writes = record { inner = inner; due = due; reads = reads; writes = writes }

  -- a view is stored as the tuple of its parts
  abbrev pub faulty_code : Coded S → Coded (FaultyView S)
  faulty_code code = code_by (S × (ℕ × (ℕ × ℕ))) (coded× code (coded× coded_ℕ (coded× coded_ℕ coded_ℕ)))
      (λ v. (v.inner, (v.due, (v.reads, v.writes)))) (λ p. faulty_view p.0 p.1.0 p.1.1.0 p.1.1.1) (λ _. refl)

  -- its facts: those of the store within, with the failures here
  abbrev pub faulty_facts : (S → StoreFacts) → FaultyView S → StoreFacts
  faulty_facts facts v = with_failures (facts v.inner) v.reads v.writes

  -- after a read that was due to fail
  abbrev pub read_failed : FaultyView S → FaultyView S
  read_failed v = record v { due = 0; reads = raised v.reads 1 }

  -- after another call that was due to fail
  abbrev pub write_failed : FaultyView S → FaultyView S
  write_failed v = record v { due = 0; writes = raised v.writes 1 }

  -- a call that is due to fail answers Device and leaves this view: it doesn't reach the store within. Any other is counted,
  -- has this effect on the store within, and changes nothing else
  pub record Passes {A : Type 0} (facts : S → StoreFacts) (effect : StoreFacts → StoreFacts → Result A StoreFault → Type 0)
      (failed old new : FaultyView S) (result : Result A StoreFault) : Type 0 where
    pub due : old.due ≡ 1 → (result ≡ Err Device) × (new ≡ failed)
    pub passed : old.due ≢ 1
        → (new ≡ record old { inner = new.inner; due = old.due - 1 }) × effect (facts old.inner) (facts new.inner) result
