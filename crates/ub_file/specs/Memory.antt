-- What contracts see of a medium in memory.
use Rattle.std.specs.Prelude.{ℕ, List, refl, true}
use Rattle.std.specs.Coded.{Coded, code_by, coded×, coded_ℕ, coded_list}
use Rattle.ub_store.specs.Facts.{StoreFacts}

-- its whole pages, the bytes after them, at which call from here on the failure is due (0: never), and how many reads and how
-- many other calls failed
pub record MemView : Type 0 where
  pub pages : List (List ℕ)
  pub rest : ℕ
  pub due : ℕ
  pub reads : ℕ
  pub writes : ℕ

-- the view of its parts
abbrev pub mem_view : List (List ℕ) → ℕ → ℕ → ℕ → ℕ → MemView
mem_view pages rest due reads writes = record {
  pages = pages;
  rest = rest;
  due = due;
  reads = reads;
  writes = writes;
}

-- a view is stored as the tuple of its parts
abbrev pub mem_code : Coded MemView
mem_code = code_by (List (List ℕ) × (ℕ × (ℕ × (ℕ × ℕ)))) (coded× (coded_list (coded_list coded_ℕ)) (coded× coded_ℕ (coded× coded_ℕ (coded× coded_ℕ coded_ℕ))))
    (λ v. (v.pages, (v.rest, (v.due, (v.reads, v.writes))))) (λ p. mem_view p.0 p.1.0 p.1.1.0 p.1.1.1.0 p.1.1.1.1) (λ _. refl)

-- it is honest, can fail, and what is written lasts as long as memory does
abbrev pub mem_facts : MemView → StoreFacts
mem_facts v = record {
  honest = true;
  can_fail = true;
  pages = v.pages;
  synced = v.pages;
  failed_reads = v.reads;
  failed_writes = v.writes;
}
