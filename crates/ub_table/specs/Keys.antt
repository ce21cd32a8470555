-- Keys, in the order of the tree (Bayer 1997).
use Rattle.std.specs.Prelude.{◌==◌, nat_lt, Bool, true, ◌&&◌, ◌||◌, List, [], ◌∷◌, IsTrue}
use Rattle.ub_table.specs.declared.row.Key.{Key}

-- the key that no key is before
abbrev pub origin : Key
origin = record { z = 0; number = 0 }

-- whether a key is before another: by address, then by row number
abbrev pub precedes : Key → Key → Bool
precedes a b = nat_lt a.z b.z || ((a.z == b.z) && nat_lt a.number b.number)

abbrev pub IsBefore : Key → Key → Type 0
IsBefore a b = IsTrue (precedes a b)

abbrev pub is_same : Key → Key → Bool
is_same a b = (a.z == b.z) && (a.number == b.number)

-- whether a key is before the first of those that follow, if there are any
abbrev pub is_before_next : Key → List Key → Bool
is_before_next key [] = true
is_before_next key (next ∷ keys) = precedes key next

-- whether each key is before the next
abbrev pub are_ascending : List Key → Bool
are_ascending [] = true
are_ascending (key ∷ keys) = is_before_next key keys && are_ascending keys

-- each key is before the next
abbrev pub AreKeysAscending : List Key → Type 0
AreKeysAscending [] = Unit {0}
AreKeysAscending (a ∷ []) = Unit {0}
AreKeysAscending (a ∷ b ∷ keys) = IsBefore a b × AreKeysAscending (b ∷ keys)
