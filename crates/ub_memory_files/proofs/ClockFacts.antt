-- Files in memory: what a crash leaves of them after a call.
use Rattle.std.proofs.Common.{◌≡◌, ◌≢◌, ◌⊎◌, ◌∙◌, ℕ, List, ap, arith, inl, inr, refl, subst, sym}
use Rattle.std.proofs.lemmas.Bool.{cases_Bool}
use Rattle.std.proofs.lemmas.Slice.Eq.{bytes_eq-Decides}
use Rattle.std.specs.Prelude.{Err, Ok, OnErr, OnOk, Result}
use Rattle.std.specs.Str.{bytes_eq}
use Rattle.ub_files.specs.Clock.{Folder, IsSameBut, IsSameFolder, Runs}
use Rattle.ub_files.specs.Files.{FilesFacts, Held, standard_input, untold}
use Rattle.ub_memory_files.specs.Memory.{clock_in_memory, held_in, IsReadIn, KeepsOthers}
use Rattle.ub_memory_files.specs.declared.entries.Entry.{Entry}

-- where all paths but standard input hold what they did
pub runs_same : (files : FilesFacts) (old new : List Entry) → ((path : List ℕ) → path ≢ standard_input → held_in new path ≡ held_in old path)
    → Runs IsSameFolder files (clock_in_memory old) (clock_in_memory new)
runs_same files old new same = λ honest. record {
  later = omega arith;
  now = λ c is. (c, (λ path ne. is path ne ∙ same path ne), λ path ne. refl);
  since = λ t c earlier is. inr (c, (λ path ne. is path ne ∙ same path ne), λ path ne. refl);
}

at_path : (Is : Held → Type 0) (c held was : Held) → c ≡ held → (held ≡ was) ⊎ Is held → (c ≡ was) ⊎ Is c
at_path Is c held was left (inl same) = inl (left ∙ same)
at_path Is c held was left (inr is) = inr (subst Is (sym left) is)

named : {A B : Type 0} (either : A ⊎ B) (E : Type 0) → E → A ⊎ (E × B)
named (inl a) E e = inl a
named (inr b) E e = inr (e, b)

same_but : (path : List ℕ) (Is : Held → Type 0) (old new : List Entry) (c : Folder) → KeepsOthers path old new
    → (held_in new path ≡ held_in old path) ⊎ Is (held_in new path) → IsSameFolder (held_in new) c → IsSameBut path Is (held_in old) c
same_but path Is old new c others either left other ne = elim (cases_Bool (bytes_eq other path)) [
  | inl t ↦ let e = (bytes_eq-Decides other path).0 t in
      named (at_path Is (c other) (held_in new other) (held_in old other) (left other ne)
      (subst (λ p. (held_in new p ≡ held_in old p) ⊎ Is (held_in new p)) (sym e) either)) (other ≡ path) e
  | inr n ↦ inl (left other ne ∙ others other (λ e. let t = (bytes_eq-Decides other path).1 e in cc))
]

-- where all paths hold what they did but one, which holds that or what is so of it
pub runs_but : (files : FilesFacts) (path : List ℕ) (Is : Held → Type 0) (old new : List Entry) → KeepsOthers path old new
    → (held_in new path ≡ held_in old path) ⊎ Is (held_in new path)
    → Runs (IsSameBut path Is) files (clock_in_memory old) (clock_in_memory new)
runs_but files path Is old new others either = λ honest. record {
  later = omega arith;
  now = λ c left. (held_in old, (λ p ne. refl), same_but path Is old new c others either left);
  since = λ t c earlier left. inr (held_in old, (λ p ne. refl), same_but path Is old new c others either left);
}

-- what a path holds after a result: pages, or at a fault what it did or nothing that is told
pub either_of : {E : Type 0} (Is : Held → Type 0) (result : Result (Unit {0}) E) (held was : Held) → Is untold → OnOk result (Is held)
    → OnErr result ((held ≡ was) ⊎ (held ≡ untold)) → (held ≡ was) ⊎ Is held
either_of Is (Ok x) held was none done either = inr done
either_of Is (Err e) held was none done (inl same) = inl same
either_of Is (Err e) held was none done (inr left) = inr (subst Is (sym left) none)

-- one of two is one of three
pub or_more : {A B C : Type 0} → A ⊎ B → A ⊎ (B ⊎ C)
or_more (inl a) = inl a
or_more (inr b) = inr (inl b)

-- where a text was read, all paths but standard input hold what they did
pub read_same : {A E : Type 0} (path : List ℕ) (old new : List Entry) (result : Result A E) → IsReadIn path old new result
    → (other : List ℕ) → other ≢ standard_input → held_in new other ≡ held_in old other
read_same path old new result effect other ne = elim (cases_Bool (bytes_eq other path)) [
  | inl t ↦ let e = (bytes_eq-Decides other path).0 t in
      ap (λ entries. held_in entries other) (effect.kept (subst (λ p. p ≢ standard_input) e ne))
  | inr n ↦ effect.others other (λ e. let t = (bytes_eq-Decides other path).1 e in cc)
]
