-- Where regions begin, and when two keys are one.
use Rattle.std.proofs.Common.{◌≡◌, ℕ, List, true, Some, ◌∙◌, ap, slice_get}
use Rattle.ub_index.proofs.Common.{and_parts, Entry, eqb-true, first_keys, Key, option_map, slice_get-map}
use Rattle.ub_table.specs.Keys.{is_same}

pub first_at : (entries : List Entry) (i : ℕ) (entry : Entry) → slice_get entries i ≡ Some entry → slice_get (first_keys entries) i ≡ Some entry.first
first_at entries i entry at = slice_get-map (λ (e : Entry). e.first) entries i ∙ ap (option_map (λ (e : Entry). e.first)) at

abbrev key_with : ℕ → ℕ → Key
key_with z number = record { z = z; number = number }

pub same_key : (a b : Key) → is_same a b ≡ true → a ≡ b
same_key a b t = let parts = and_parts _ _ t in ap (λ (z : ℕ). key_with z a.number) (eqb-true a.z b.z parts.0) ∙ ap (key_with b.z) (eqb-true a.number b.number parts.1)
