-- How many parts of each kind a statement may have.
use Rattle.std.specs.Prelude.{List, [], ◌∷◌, ◌++◌, map, drop, Option, Some, None}
use Rattle.ub_lexer.specs.declared.token.Token.{Token}
use Rattle.ub_syntax.specs.Tree.{Select, Stated, selects, inserts, deletes, Shape, both, either, neither, compares, between}
use Rattle.ub_syntax.specs.declared.syntax.Item.{Item}
use Rattle.ub_syntax.specs.declared.syntax.Item.TheVariants.{Column, Count, Aggregate}
use Rattle.ub_syntax.specs.declared.syntax.OrderKey.{OrderKey}
use Rattle.ub_syntax.specs.declared.syntax.Selection.{Selection}
use Rattle.ub_syntax.specs.declared.syntax.Selection.TheVariants.{All as Star, Listed}

-- the token with which an item begins
abbrev pub first_token : Item → Token
first_token (Column name) = name
first_token (Count first) = first
first_token (Aggregate aggregate first name) = first

-- the items that are written; `*` is none
abbrev pub listed : Selection → List Item
listed (Star star) = []
listed (Listed items) = items

-- the columns of the comparisons of a condition, in order
abbrev pub compared : Shape → List Token
compared (both a b) = compared a ++ compared b
compared (either a b) = compared a ++ compared b
compared (neither a) = compared a
compared (compares name operator v) = name ∷ []
compared (between name low high) = name ∷ []

abbrev pub comparisons : Option Shape → List Token
comparisons None = []
comparisons (Some c) = compared c

abbrev pub key_items : List OrderKey → List Item
key_items keys = map (λ key. key.item) keys

-- the tokens at which it has more than 8 items, 64 comparisons, 8 group columns or 8 order keys, in the order of its tokens
abbrev pub past_limits : Select → List Token
past_limits s =
    drop 8 (map first_token (listed s.selection)) ++ (drop 64 (comparisons s.filter)
    ++ (drop 8 s.group ++ drop 8 (map first_token (key_items s.order))))

-- the same of a statement; an INSERT may have any number of values
abbrev pub past_limits_of : Stated → List Token
past_limits_of (selects s) = past_limits s
past_limits_of (inserts i) = []
past_limits_of (deletes s) = past_limits s
