-- The list of files: where a path's file stands, and what the others hold after it was exchanged.
use Rattle.std.proofs.Common.{◌≡◌, ◌≢◌, ◌<◌, ℕ, eqb, zero, suc, List, [], ◌∷◌, ◌++◌, length, Option, Some, None, true, false, cond, refl, sym, ap, ◌∙◌, arith, inl, inr, set, get_or, string_bytes, subst}
use Rattle.std.proofs.lemmas.Bool.{cases_Bool}
use Rattle.std.proofs.lemmas.Slice.Eq.{bytes_eq-Decides}
use Rattle.std.specs.Option.{ok_or, option_map}
use Rattle.std.specs.Prelude.{◌↔◌, IfErr, IfOk, IsErrOf, MatchOption, MatchResult, Result, Ok, Err}
use Rattle.std.specs.Str.{bytes_eq}
use Rattle.ub_files.specs.Files.{Held, absent, bytes, standard_input, untold}
use Rattle.ub_journal.specs.Image.{Journal}
use Rattle.ub_journal.specs.Torn.{torn_facts}
use Rattle.ub_memory_files.specs.Memory.{held_in, place_in, told, HoldsAll, IsReadIn, IsSetTo}
use Rattle.ub_memory_files.specs.Tables.{held_beside, whole_or_torn}
use Rattle.ub_memory_files.specs.declared.entries.Entry.{Entry}
use Rattle.ub_memory_files.specs.declared.entries.MemFile.{MemFile}
use Rattle.ub_memory_files.specs.declared.entries.MemFile.TheVariants.{Text, Table, Left}

no_later : (o : Option ℕ) → option_map suc o ≡ None → o ≡ None
no_later None h = refl
no_later (Some i) h = cc

-- a path that has no place holds nothing
pub held_none : (es : List Entry) (path : List ℕ) → place_in es path ≡ None → held_in es path ≡ absent
held_none [] path h = refl
held_none (e ∷ es) path h = elim (cases_Bool (bytes_eq (string_bytes e.name) path)) [
  | inl t ↦ let h' = rw t at h in cc
  | inr n ↦ rw n (held_none es path (no_later (place_in es path) (rw n at h)))
]

-- what holds of a place that was found, in the list from there on
by_place : (P : ℕ → Type 0) (o : Option ℕ) (i : ℕ) → option_map suc o ≡ Some i → ((j : ℕ) → o ≡ Some j → P (suc j)) → P i
by_place P None i h k = cc
by_place P (Some j) i h k = let same : suc j ≡ i = cc in rw same at (k j refl)

-- the file at the place of a path is what the path holds
pub held_place : (es : List Entry) (path : List ℕ) (i : ℕ) (d : Entry) → place_in es path ≡ Some i
    → (i < length es) × (held_in es path ≡ told (get_or es i d).file)
held_place [] path i d h = cc
held_place (e ∷ es) path i d h = elim (cases_Bool (bytes_eq (string_bytes e.name) path)) [
  | inl t ↦ let first : 0 ≡ i = let h' = rw t at h in cc in rw (← first, t) (omega arith, refl)
  | inr n ↦ rw n (by_place (λ (j : ℕ). (j < length (e ∷ es)) × (held_in es path ≡ told (get_or (e ∷ es) j d).file)) (place_in es path) i (rw n at h)
      (λ j found. let rest = held_place es path j d found in let within = rest.0 in (omega arith, rest.1)))
]

-- a name that is one path is no other one
no_other : (name path other : List ℕ) → bytes_eq name path ≡ true → other ≢ path → bytes_eq name other ≡ false
no_other name path other is ne = elim (cases_Bool (bytes_eq name other)) [
  | inl t ↦ absurd (ne (sym ((bytes_eq-Decides name other).0 t) ∙ (bytes_eq-Decides name path).0 is))
  | inr n ↦ n
]

set_first : (f e : Entry) (es : List Entry) (path : List ℕ) → bytes_eq (string_bytes f.name) path ≡ true → e.name ≡ f.name
    → IsSetTo path (told e.file) (f ∷ es) (e ∷ es)
set_first f e es path is same =
    let named : bytes_eq (string_bytes e.name) path ≡ true = rw same is in (
      rw named refl,
      λ other ne.
          let old : bytes_eq (string_bytes f.name) other ≡ false = no_other (string_bytes f.name) path other is ne in
          let new : bytes_eq (string_bytes e.name) other ≡ false = rw same old in
          rw (old, new) refl,
    )

set_later : (f : Entry) (es new : List Entry) (path : List ℕ) (held : Held) → bytes_eq (string_bytes f.name) path ≡ false
    → IsSetTo path held es new → IsSetTo path held (f ∷ es) (f ∷ new)
set_later f es new path held is h =
    (rw is h.0, λ other ne. ap (λ (x : Held). cond (bytes_eq (string_bytes f.name) other) (told f.file) x) (h.1 other ne))

-- where another file stands at the place of a path, that path holds it, and the others what they did
pub held_set : (es : List Entry) (path : List ℕ) (i : ℕ) (d e : Entry) → place_in es path ≡ Some i → e.name ≡ (get_or es i d).name
    → IsSetTo path (told e.file) es (set es i e)
held_set [] path i d e h same = cc
held_set (f ∷ es) path i d e h same = elim (cases_Bool (bytes_eq (string_bytes f.name) path)) [
  | inl t ↦ first i (let h' = rw t at h in cc) t same
  | inr n ↦ by_place (λ (j : ℕ). e.name ≡ (get_or (f ∷ es) j d).name → IsSetTo path (told e.file) (f ∷ es) (set (f ∷ es) j e))
      (place_in es path) i (rw n at h)
      (λ j found named. set_later f es (set es j e) path (told e.file) n (held_set es path j d e found named)) same
]
  where
    first : (j : ℕ) → 0 ≡ j → bytes_eq (string_bytes f.name) path ≡ true → e.name ≡ (get_or (f ∷ es) j d).name
        → IsSetTo path (told e.file) (f ∷ es) (set (f ∷ es) j e)
    first zero z t named = set_first f e es path t named
    first (suc j) z t named = cc

-- a table file is there
whole_there : (table : List (List ℕ)) (rest : ℕ) → whole_or_torn table rest ≢ absent
whole_there table rest h = elim (cases_Bool (eqb rest 0)) [
  | inl t ↦ let h' = rw t at h in cc
  | inr n ↦ let h' = rw n at h in cc
]

beside_there : (beside : Option Journal) (table : List (List ℕ)) (rest : ℕ) → held_beside beside table rest ≢ absent
beside_there None table rest h = whole_there table rest h
beside_there (Some j) table rest h = cc

there : (file : MemFile) → told file ≢ absent
there (Text text) h = cc
there (Table place) h = beside_there (torn_facts place).seen.journal (torn_facts place).seen.table (torn_facts place).seen.rest h
there (Left place) h = cc

-- where a file is put behind all others at a path that held nothing, that path holds it, and the others what they did
pub held_push : (es : List Entry) (path : List ℕ) (e : Entry) → held_in es path ≡ absent → string_bytes e.name ≡ path
    → IsSetTo path (told e.file) es (es ++ e ∷ [])
held_push [] path e h same =
    let named : bytes_eq (string_bytes e.name) path ≡ true = (bytes_eq-Decides (string_bytes e.name) path).1 same in
    (rw named refl, λ other ne. rw (no_other (string_bytes e.name) path other named ne) refl)
held_push (f ∷ es) path e h same = elim (cases_Bool (bytes_eq (string_bytes f.name) path)) [
  | inl t ↦ absurd (there f.file (rw t at h))
  | inr n ↦ set_later f es (es ++ e ∷ []) path (told e.file) n (held_push es path e (rw n at h) same)
]

-- where a path holds what it did, and all others too, all do
set_as_before : (path : List ℕ) (old new : List Entry) → IsSetTo path (held_in old path) old new → HoldsAll old new
set_as_before path old new is other = elim (cases_Bool (bytes_eq other path)) [
  | inl t ↦ let same = (bytes_eq-Decides other path).0 t in subst (λ p. held_in new p ≡ held_in old p) (sym same) is.0
  | inr n ↦ is.1 other (λ same. let t = (bytes_eq-Decides other path).1 same in cc)
]

-- standard input was used up, or holds no text
pub used_up_read : {T E : Type 0} (path : List ℕ) (old new : List Entry) (Is : T → Type 0) (taken : Option T) (fault : E) → path ≡ standard_input
    → MatchOption taken (((text : List ℕ) → held_in old path ≢ bytes text) × IsSetTo path (held_in old path) old new)
    (λ text. Is text × IsSetTo path (bytes []) old new)
    → IsReadIn path old new (ok_or taken fault)
used_up_read path old new Is None fault is h = record {
  kept = λ ne. absurd (ne is);
  others = h.1.1;
  used_up = tt;
  refused = set_as_before path old new h.1;
}
used_up_read path old new Is (Some text) fault is h = record {
  kept = λ ne. absurd (ne is);
  others = h.1.1;
  used_up = λ _. h.1.0;
  refused = tt;
}

-- so what is read is the text that was used up, and a fault comes exactly where there was none
pub text_taken : {T E : Type 0} (held : Held) (items : T → List ℕ) (Kept Done : Type 0) (taken : Option T) (fault : E)
    → MatchOption taken (((text : List ℕ) → held ≢ bytes text) × Kept) (λ text. (held ≡ bytes (items text)) × Done)
    → IfOk (ok_or taken fault) (λ text. held ≡ bytes (items text))
text_taken held items Kept Done None fault h = tt
text_taken held items Kept Done (Some text) fault h = h.0

pub none_taken : {T E : Type 0} (held : Held) (items : T → List ℕ) (Kept Done : Type 0) (taken : Option T) (fault : E)
    → MatchOption taken (((text : List ℕ) → held ≢ bytes text) × Kept) (λ text. (held ≡ bytes (items text)) × Done)
    → IsErrOf (ok_or taken fault) fault ↔ ((text : List ℕ) → held ≢ bytes text)
none_taken held items Kept Done None fault h = (λ is. h.0, λ no. refl)
none_taken held items Kept Done (Some text) fault h = (λ is. cc, λ no. absurd (no (items text) h.0))

pub fault_taken : {T E : Type 0} (Is : E → Type 0) (taken : Option T) (fault : E) → Is fault → IfErr (ok_or taken fault) Is
fault_taken Is None fault is = is
fault_taken Is (Some text) fault is = tt

-- where nothing was told of a path's file, and nothing is of the one that it was exchanged for, all hold what they did
pub left_all : (path : List ℕ) (old new : List Entry) (result : Result MemFile MemFile) (file : MemFile) → held_in old path ≡ untold → told file ≡ untold
    → MatchResult result (λ was. (held_in old path ≡ told was) × IsSetTo path (told file) old new)
    (λ back. (back ≡ file) × (held_in old path ≡ absent) × (new ≡ old))
    → HoldsAll old new
left_all path old new (Ok was) file none left h =
    set_as_before path old new (subst (λ held. IsSetTo path held old new) (left ∙ sym none) h.1)
left_all path old new (Err back) file none left h = λ other. ap (λ entries. held_in entries other) h.2
