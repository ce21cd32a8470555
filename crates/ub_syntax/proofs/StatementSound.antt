-- Lexemes after which the machine may end are a statement.
use Rattle.std.proofs.Common.{◌≡◌, ◌⊎◌, ℕ, List, [], ◌∷◌, ◌++◌, Bool, true, false, Option, Some, None, Result, Ok, Err, refl, sym, ap, ◌∙◌, append_assoc, inl, inr, subst}
use Rattle.std.proofs.lemmas.Bool.{false≢true}
use Rattle.std.proofs.lemmas.List.{append-nil}
use Rattle.ub_lexer.specs.declared.token.Token.{Token}
use Rattle.ub_syntax.specs.Grammar.{Lexeme, symbol_of, Is, IsToken, AreJoined, IsCondition, IsOperand, IsItem, IsSelection, IsKey, IsLiteral, IsOptional, IsFilter, AreListedBy, IsLimit, IsExplain, IsSelect, IsValue, IsStatement}
use Rattle.ub_syntax.specs.Tree.{Shape, Select, rows_of, Stated, selects, inserts, deletes}
use Rattle.ub_syntax.specs.Machine.{Config, config, goals_of, if_ok, and_then, expand, turn_to, begin, items, item, after_item, limit, order, group, after_table, after_operand, after_group, after_direction, after_key, values, after_value, after_deleted, after_condition, follow, config_of, reads, start, may_end, can_end}
use Rattle.ub_syntax.specs.declared.symbol.Symbol.{Symbol}
use Rattle.ub_syntax.specs.declared.symbol.Symbol.TheVariants as symbol
use Rattle.ub_syntax.specs.declared.syntax.Item.{Item}
use Rattle.ub_syntax.specs.declared.syntax.Literal.{Literal}
use Rattle.ub_syntax.specs.declared.syntax.Value.{Value}
use Rattle.ub_syntax.specs.declared.syntax.Selection.{Selection}
use Rattle.ub_syntax.specs.declared.syntax.Selection.TheVariants.{All, Listed}
use Rattle.ub_syntax.specs.declared.syntax.OrderKey.{OrderKey}
use Rattle.ub_syntax.specs.declared.machine.Fixed.TheVariants as fixed
use Rattle.ub_syntax.specs.declared.machine.Goal.{Goal}
use Rattle.ub_syntax.specs.declared.machine.Goal.TheVariants as goal
use Rattle.ub_syntax.specs.declared.machine.Rest.{Rest}
use Rattle.ub_syntax.specs.declared.machine.Rest.TheVariants as rest
use Rattle.ub_syntax.specs.declared.machine.Row.{Row}
use Rattle.ub_syntax.specs.declared.machine.Row.TheVariants.{Nothing, One, Two, Three}
use Rattle.ub_syntax.specs.declared.machine.Turn.{Turn}
use Rattle.ub_syntax.specs.declared.machine.Refusal.{Refusal}
use Rattle.ub_syntax.proofs.GoalsSound.{StandAll, split, joined_more, lone, condition_more, one, two, three, alone, item_stands, goal_stands, none_given}

-- the fronts of a statement, part by part: up to SELECT
record Head (ls : List Lexeme) : Type 0 where
  pub explain : List Lexeme
  pub select : List Lexeme
  pub is_explained : Bool
  pub parts : ls ≡ explain ++ select
  pub explain_is : IsExplain explain is_explained
  pub select_is : Is symbol.Select select

-- up to the table's name
record Tabled (ls : List Lexeme) : Type 0 where
  pub head : List Lexeme
  pub items : List Lexeme
  pub from : List Lexeme
  pub name : List Lexeme
  pub selection : Selection
  pub table : Token
  pub parts : ls ≡ head ++ (items ++ (from ++ name))
  pub head_is : Head head
  pub items_are : IsSelection items selection
  pub from_is : Is symbol.From from
  pub name_is : IsToken symbol.Name name table

-- up to WHERE and its condition, which may be missing, and so on
record Filtered (n : ℕ) (ls : List Lexeme) : Type 0 where
  pub tabled : List Lexeme
  pub filter : List Lexeme
  pub condition : Option Shape
  pub parts : ls ≡ tabled ++ filter
  pub tabled_is : Tabled tabled
  pub filter_is : IsOptional (IsFilter n) filter condition

record Grouped (n : ℕ) (ls : List Lexeme) : Type 0 where
  pub filtered : List Lexeme
  pub group : List Lexeme
  pub names : List Token
  pub parts : ls ≡ filtered ++ group
  pub filtered_is : Filtered n filtered
  pub group_is : AreListedBy symbol.Group (IsToken symbol.Name) group names

record Ordered (n : ℕ) (ls : List Lexeme) : Type 0 where
  pub grouped : List Lexeme
  pub order : List Lexeme
  pub keys : List OrderKey
  pub parts : ls ≡ grouped ++ order
  pub grouped_is : Grouped n grouped
  pub order_is : AreListedBy symbol.Order IsKey order keys

record Limited (n : ℕ) (ls : List Lexeme) : Type 0 where
  pub ordered : List Lexeme
  pub limit : List Lexeme
  pub number : Option Token
  pub parts : ls ≡ ordered ++ limit
  pub ordered_is : Ordered n ordered
  pub limit_is : IsOptional IsLimit limit number

regrouped : (ls ordered limit grouped order filtered group tabled filter head items from name explain select : List Lexeme)
    → ls ≡ ordered ++ limit → ordered ≡ grouped ++ order → grouped ≡ filtered ++ group → filtered ≡ tabled ++ filter
    → tabled ≡ head ++ (items ++ (from ++ name)) → head ≡ explain ++ select
    → ls ≡ explain ++ (select ++ (items ++ (from ++ (name ++ (filter ++ (group ++ (order ++ limit)))))))
regrouped ls ordered limit grouped order filtered group tabled filter head items from name explain select e1 e2 e3 e4 e5 e6 =
    rw (e1, e2, e3, e4, e5, e6) (simp append_assoc)

select : (n : ℕ) (ls : List Lexeme) → Limited n ls → (s : Select) × IsSelect n ls s
select n ls h =
    let o = h.ordered_is in
    let g = o.grouped_is in
    let f = g.filtered_is in
    let t = f.tabled_is in
    let d = t.head_is in (
      record { is_explained = d.is_explained; selection = t.selection; table = t.table; filter = f.condition; group = g.names; order = o.keys; limit = h.number },
      record {
        explain = d.explain;
        select = d.select;
        items = t.items;
        from = t.from;
        name = t.name;
        filter = f.filter;
        group = g.group;
        order = o.order;
        limit = h.limit;
        parts = regrouped ls h.ordered h.limit o.grouped o.order g.filtered g.group f.tabled f.filter t.head t.items t.from t.name d.explain d.select
            h.parts o.parts g.parts f.parts t.parts d.parts;
        explain_is = d.explain_is;
        select_is = d.select_is;
        items_are = t.items_are;
        from_is = t.from_is;
        name_is = t.name_is;
        filter_is = f.filter_is;
        group_is = g.group_is;
        order_is = o.order_is;
        limit_is = h.limit_is;
      },
    )

-- what was read where each end is still to come
record Listing (ls : List Lexeme) : Type 0 where
  pub head : List Lexeme
  pub items : List Lexeme
  pub xs : List Item
  pub parts : ls ≡ head ++ items
  pub head_is : Head head
  pub items_are : AreJoined symbol.Comma IsItem items xs

record Conditioned (Before : List Lexeme → Type 0) (n : ℕ) (ls : List Lexeme) : Type 0 where
  pub tabled : List Lexeme
  pub word : List Lexeme
  pub list : List Lexeme
  pub condition : Shape
  pub parts : ls ≡ tabled ++ (word ++ list)
  pub tabled_is : Before tabled
  pub word_is : Is symbol.Where word
  pub condition_is : IsCondition n list condition

record Grouping (n : ℕ) (ls : List Lexeme) : Type 0 where
  pub filtered : List Lexeme
  pub word : List Lexeme
  pub by : List Lexeme
  pub list : List Lexeme
  pub names : List Token
  pub parts : ls ≡ filtered ++ (word ++ (by ++ list))
  pub filtered_is : Filtered n filtered
  pub word_is : Is symbol.Group word
  pub by_is : Is symbol.By by
  pub names_are : AreJoined symbol.Comma (IsToken symbol.Name) list names

record Ordering (n : ℕ) (ls : List Lexeme) : Type 0 where
  pub grouped : List Lexeme
  pub word : List Lexeme
  pub by : List Lexeme
  pub list : List Lexeme
  pub keys : List OrderKey
  pub parts : ls ≡ grouped ++ (word ++ (by ++ list))
  pub grouped_is : Grouped n grouped
  pub word_is : Is symbol.Order word
  pub by_is : Is symbol.By by
  pub keys_are : AreJoined symbol.Comma IsKey list keys

-- the last key may still get a direction
record Directing (n : ℕ) (ls : List Lexeme) : Type 0 where
  pub ordering : Ordering n ls
  pub direct : (direction : List Lexeme) → (Is symbol.Ascending direction ⊎ Is symbol.Descending direction)
      → (keys : List OrderKey) × AreJoined symbol.Comma IsKey (ordering.list ++ direction) keys

-- an INSERT up to VALUES
record Begun (ls : List Lexeme) : Type 0 where
  pub insert : List Lexeme
  pub into : List Lexeme
  pub name : List Lexeme
  pub word : List Lexeme
  pub table : Token
  pub parts : ls ≡ insert ++ (into ++ (name ++ word))
  pub insert_is : Is symbol.Insert insert
  pub into_is : Is symbol.Into into
  pub name_is : IsToken symbol.Name name table
  pub word_is : Is symbol.Values word

-- up to a value
record Valuing (ls : List Lexeme) : Type 0 where
  pub begun : List Lexeme
  pub left : List Lexeme
  pub list : List Lexeme
  pub xs : List Value
  pub parts : ls ≡ begun ++ (left ++ list)
  pub begun_is : Begun begun
  pub left_is : Is symbol.Open left
  pub values_are : AreJoined symbol.Comma IsValue list xs

-- a DELETE up to its table's name
record Deleting (ls : List Lexeme) : Type 0 where
  pub delete : List Lexeme
  pub from : List Lexeme
  pub name : List Lexeme
  pub word : Token
  pub table : Token
  pub parts : ls ≡ delete ++ (from ++ name)
  pub delete_is : IsToken symbol.Delete delete word
  pub from_is : Is symbol.From from
  pub name_is : IsToken symbol.Name name table

abbrev AtRest : ℕ → Rest → List Lexeme → Type 0
AtRest n rest.Start ls = ls ≡ []
AtRest n rest.Items ls = Head ls
AtRest n rest.AfterItem ls = Listing ls
AtRest n rest.AfterTable ls = Tabled ls
AtRest n rest.AfterOperand ls = Conditioned Tabled n ls
AtRest n rest.AfterGroup ls = Grouping n ls
AtRest n rest.AfterKey ls = Directing n ls
AtRest n rest.AfterDirection ls = Ordering n ls
AtRest n rest.Values ls = Begun ls
AtRest n rest.AfterValue ls = Valuing ls
AtRest n rest.AfterDeleted ls = Deleting ls
AtRest n rest.AfterCondition ls = Conditioned Deleting n ls
AtRest n rest.End ls = (s : Stated) × IsStatement n ls s

filtered_of_table : (n : ℕ) (ls : List Lexeme) → Tabled ls → Filtered n ls
filtered_of_table n ls h = record { tabled = ls; filter = []; condition = None; parts = sym (append-nil ls); tabled_is = h; filter_is = refl }

filtered_of_condition : (n : ℕ) (ls : List Lexeme) → Conditioned Tabled n ls → Filtered n ls
filtered_of_condition n ls h = record {
  tabled = h.tabled;
  filter = h.word ++ h.list;
  condition = Some h.condition;
  parts = h.parts;
  tabled_is = h.tabled_is;
  filter_is = (h.word, h.list, refl, h.word_is, h.condition_is);
}

grouped_of_filtered : (n : ℕ) (ls : List Lexeme) → Filtered n ls → Grouped n ls
grouped_of_filtered n ls h = record { filtered = ls; group = []; names = []; parts = sym (append-nil ls); filtered_is = h; group_is = refl }

group_of_names : (word by list : List Lexeme) (names : List Token) → Is symbol.Group word → Is symbol.By by → AreJoined symbol.Comma (IsToken symbol.Name) list names
    → AreListedBy symbol.Group (IsToken symbol.Name) (word ++ (by ++ list)) names
group_of_names word by list [] w b h = absurd h
group_of_names word by list (x ∷ xs) w b h = (word, by, list, refl, w, b, h)

grouped_of_names : (n : ℕ) (ls : List Lexeme) → Grouping n ls → Grouped n ls
grouped_of_names n ls h = record {
  filtered = h.filtered;
  group = h.word ++ (h.by ++ h.list);
  names = h.names;
  parts = h.parts;
  filtered_is = h.filtered_is;
  group_is = group_of_names h.word h.by h.list h.names h.word_is h.by_is h.names_are;
}

ordered_of_grouped : (n : ℕ) (ls : List Lexeme) → Grouped n ls → Ordered n ls
ordered_of_grouped n ls h = record { grouped = ls; order = []; keys = []; parts = sym (append-nil ls); grouped_is = h; order_is = refl }

order_of_keys : (word by list : List Lexeme) (keys : List OrderKey) → Is symbol.Order word → Is symbol.By by → AreJoined symbol.Comma IsKey list keys
    → AreListedBy symbol.Order IsKey (word ++ (by ++ list)) keys
order_of_keys word by list [] w b h = absurd h
order_of_keys word by list (x ∷ xs) w b h = (word, by, list, refl, w, b, h)

ordered_of_keys : (n : ℕ) (ls : List Lexeme) → Ordering n ls → Ordered n ls
ordered_of_keys n ls h = record {
  grouped = h.grouped;
  order = h.word ++ (h.by ++ h.list);
  keys = h.keys;
  parts = h.parts;
  grouped_is = h.grouped_is;
  order_is = order_of_keys h.word h.by h.list h.keys h.word_is h.by_is h.keys_are;
}

limited_of_ordered : (n : ℕ) (ls : List Lexeme) → Ordered n ls → Limited n ls
limited_of_ordered n ls h = record { ordered = ls; limit = []; number = None; parts = sym (append-nil ls); ordered_is = h; limit_is = refl }

selected : (n : ℕ) (ls : List Lexeme) → Limited n ls → (s : Stated) × IsStatement n ls s
selected n ls h = let s = select n ls h in (selects s.0, s.1)

ordered_ends : (n : ℕ) (ls : List Lexeme) → Ordered n ls → (s : Stated) × IsStatement n ls s
ordered_ends n ls h = selected n ls (limited_of_ordered n ls h)

filtered_ends : (n : ℕ) (ls : List Lexeme) → Filtered n ls → (s : Stated) × IsStatement n ls s
filtered_ends n ls h = ordered_ends n ls (ordered_of_grouped n ls (grouped_of_filtered n ls h))

deleted_parts : (ls tabled filter delete from name : List Lexeme) → ls ≡ tabled ++ filter → tabled ≡ delete ++ (from ++ name) → ls ≡ delete ++ (from ++ (name ++ filter))
deleted_parts ls tabled filter delete from name e1 e2 = rw (e1, e2) (simp append_assoc)

-- a DELETE and its condition, which may be missing
deleted : (n : ℕ) (ls tabled filter : List Lexeme) (condition : Option Shape) → ls ≡ tabled ++ filter → Deleting tabled → IsOptional (IsFilter n) filter condition
    → (s : Stated) × IsStatement n ls s
deleted n ls tabled filter condition e d f = (
  deletes (rows_of d.word d.table condition),
  record {
    delete = d.delete;
    from = d.from;
    name = d.name;
    filter = filter;
    word = d.word;
    table = d.table;
    condition = condition;
    parts = deleted_parts ls tabled filter d.delete d.from d.name e d.parts;
    delete_is = d.delete_is;
    from_is = d.from_is;
    name_is = d.name_is;
    filter_is = f;
    rows = refl;
  },
)

inserted_parts : (ls begun left list close insert into name word : List Lexeme) → ls ≡ begun ++ (left ++ (list ++ close)) → begun ≡ insert ++ (into ++ (name ++ word))
    → ls ≡ insert ++ (into ++ (name ++ (word ++ (left ++ (list ++ close)))))
inserted_parts ls begun left list close insert into name word e1 e2 = rw (e1, e2) (simp append_assoc)

-- an INSERT with the `)` after its values
inserted : (n : ℕ) (ls front close : List Lexeme) (token : Token) → ls ≡ front ++ close → Valuing front → IsToken symbol.Close close token
    → (s : Stated) × IsStatement n ls s
inserted n ls front close token e v is =
    let b = v.begun_is in
    let whole : ls ≡ v.begun ++ (v.left ++ (v.list ++ close)) =
    rw (e, v.parts) (simp append_assoc) in (
      inserts (record { table = b.table; values = v.xs; close = token }),
      record {
        insert = b.insert;
        into = b.into;
        name = b.name;
        word = b.word;
        left = v.left;
        values = v.list;
        close = close;
        parts = inserted_parts ls v.begun v.left v.list close b.insert b.into b.name b.word whole b.parts;
        insert_is = b.insert_is;
        into_is = b.into_is;
        name_is = b.name_is;
        word_is = b.word_is;
        left_is = v.left_is;
        values_are = v.values_are;
        close_is = is;
      },
    )

-- where the machine may end
ended : (n : ℕ) (r : Rest) (ls : List Lexeme) → AtRest n r ls → may_end r ≡ true → (s : Stated) × IsStatement n ls s
ended n rest.Start ls h e = absurd (false≢true e)
ended n rest.Items ls h e = absurd (false≢true e)
ended n rest.AfterItem ls h e = absurd (false≢true e)
ended n rest.AfterTable ls h e = filtered_ends n ls (filtered_of_table n ls h)
ended n rest.AfterOperand ls h e = filtered_ends n ls (filtered_of_condition n ls h)
ended n rest.AfterGroup ls h e = ordered_ends n ls (ordered_of_grouped n ls (grouped_of_names n ls h))
ended n rest.AfterKey ls h e = ordered_ends n ls (ordered_of_keys n ls h.ordering)
ended n rest.AfterDirection ls h e = ordered_ends n ls (ordered_of_keys n ls h)
ended n rest.Values ls h e = absurd (false≢true e)
ended n rest.AfterValue ls h e = absurd (false≢true e)
ended n rest.AfterDeleted ls h e = deleted n ls ls [] None (sym (append-nil ls)) h refl
ended n rest.AfterCondition ls h e =
    deleted n ls h.tabled (h.word ++ h.list) (Some h.condition) h.parts h.tabled_is (h.word, h.list, refl, h.word_is, h.condition_is)
ended n rest.End ls h e = h

-- what a turn leads to, where it is this one
turned : (n : ℕ) (row : Row) (r : Rest) (turn : Turn) (ls all : List Lexeme) → turn_to row r ≡ Ok turn → StandAll (goals_of turn.row) ls
    → (StandAll (goals_of row) ls → AtRest n r all) → AtRest n turn.rest all
turned n row r turn ls all e h at =
    let same : record { row = row; rest = r } ≡ turn = cc in
    subst (λ (t : Turn). AtRest n t.rest all) same (at (subst (λ (t : Turn). StandAll (goals_of t.row) ls) (sym same) h))

further2 : (ls a b x : List Lexeme) → ls ≡ a ++ b → ls ++ x ≡ a ++ (b ++ x)
further2 ls a b x e = rw e (simp append_assoc)

further3 : (ls a b c x : List Lexeme) → ls ≡ a ++ (b ++ c) → ls ++ x ≡ a ++ (b ++ (c ++ x))
further3 ls a b c x e = rw e (simp append_assoc)

further4 : (ls a b c d x : List Lexeme) → ls ≡ a ++ (b ++ (c ++ d)) → ls ++ x ≡ a ++ (b ++ (c ++ (d ++ x)))
further4 ls a b c d x e = rw e (simp append_assoc)

limit_turns : (n : ℕ) (s : Symbol) (l : Lexeme) (turn : Turn) (front ls : List Lexeme) → symbol_of l ≡ s → limit s ≡ Ok turn → StandAll (goals_of turn.row) ls
    → Ordered n front → AtRest n turn.rest (front ++ (l ∷ ls))
limit_turns n symbol.Limit l turn front ls is e h known =
    turned n (One (goal.Token fixed.Number)) rest.End turn ls (front ++ (l ∷ ls)) e h
    (λ stands. let number = one (goal.Token fixed.Number) ls stands in
    selected n (front ++ (l ∷ ls)) (record {
      ordered = front;
      limit = l ∷ ls;
      number = Some number.0.token;
      parts = refl;
      ordered_is = known;
      limit_is = (l ∷ [], ls, refl, (l, refl, is), (number.0, number.1, number.2, refl));
    }))
limit_turns n _ l turn front ls is e h known = none_given _ _ e

key_alone : (ls : List Lexeme) (x : Item) → IsItem ls x → (k : OrderKey) × IsKey ls k
key_alone ls x h = (record { item = x; is_descending = false }, (ls, [], sym (append-nil ls), h, inl (refl, inl refl)))

key_directed : (ls direction : List Lexeme) (x : Item) → IsItem ls x → (Is symbol.Ascending direction ⊎ Is symbol.Descending direction)
    → (k : OrderKey) × IsKey (ls ++ direction) k
key_directed ls direction x h (inl is) = (record { item = x; is_descending = false }, (ls, direction, refl, h, inl (refl, inr is)))
key_directed ls direction x h (inr is) = (record { item = x; is_descending = true }, (ls, direction, refl, h, inr (refl, is)))

order_turns : (n : ℕ) (s : Symbol) (l : Lexeme) (turn : Turn) (front ls : List Lexeme) → symbol_of l ≡ s → order s ≡ Ok turn → StandAll (goals_of turn.row) ls
    → Grouped n front → AtRest n turn.rest (front ++ (l ∷ ls))
order_turns n symbol.Order l turn front ls is e h known =
    turned n (Two (goal.Token fixed.By) goal.Item) rest.AfterKey turn ls (front ++ (l ∷ ls)) e h
    (λ stands.
    let p = two (goal.Token fixed.By) goal.Item ls stands in
    let x = p.4 in
    let key = key_alone p.1 x.0 x.1 in
    record {
      ordering = record {
        grouped = front;
        word = l ∷ [];
        by = p.0;
        list = p.1;
        keys = key.0 ∷ [];
        parts = ap (λ (k : List Lexeme). front ++ (l ∷ k)) p.2;
        grouped_is = known;
        word_is = (l, refl, is);
        by_is = p.3;
        keys_are = key.1;
      };
      direct = λ direction d. let k = key_directed p.1 direction x.0 x.1 d in (k.0 ∷ [], k.1);
    })
order_turns n s l turn front ls is e h known = limit_turns n s l turn front ls is e h (ordered_of_grouped n front known)

group_turns : (n : ℕ) (s : Symbol) (l : Lexeme) (turn : Turn) (front ls : List Lexeme) → symbol_of l ≡ s → group s ≡ Ok turn → StandAll (goals_of turn.row) ls
    → Filtered n front → AtRest n turn.rest (front ++ (l ∷ ls))
group_turns n symbol.Group l turn front ls is e h known =
    turned n (Two (goal.Token fixed.By) (goal.Token fixed.Name)) rest.AfterGroup turn ls (front ++ (l ∷ ls)) e h
    (λ stands.
    let p = two (goal.Token fixed.By) (goal.Token fixed.Name) ls stands in
    let name = p.4 in
    record {
      filtered = front;
      word = l ∷ [];
      by = p.0;
      list = p.1;
      names = name.0.token ∷ [];
      parts = ap (λ (k : List Lexeme). front ++ (l ∷ k)) p.2;
      filtered_is = known;
      word_is = (l, refl, is);
      by_is = p.3;
      names_are = (name.0, name.1, name.2, refl);
    })
group_turns n s l turn front ls is e h known = order_turns n s l turn front ls is e h (grouped_of_filtered n front known)

direction_turns : (n : ℕ) (s : Symbol) (l : Lexeme) (turn : Turn) (front ls : List Lexeme) → symbol_of l ≡ s → after_direction s ≡ Ok turn → StandAll (goals_of turn.row) ls
    → Ordering n front → AtRest n turn.rest (front ++ (l ∷ ls))
direction_turns n symbol.Comma l turn front ls is e h known =
    turned n (One goal.Item) rest.AfterKey turn ls (front ++ (l ∷ ls)) e h
    (λ stands.
    let x = one goal.Item ls stands in
    let key = key_alone ls x.0 x.1 in
    record {
      ordering = record {
        grouped = known.grouped;
        word = known.word;
        by = known.by;
        list = known.list ++ (l ∷ ls);
        keys = known.keys ++ key.0 ∷ [];
        parts = further4 front known.grouped known.word known.by known.list (l ∷ ls) known.parts;
        grouped_is = known.grouped_is;
        word_is = known.word_is;
        by_is = known.by_is;
        keys_are = joined_more symbol.Comma IsKey known.list known.keys (l ∷ []) ls key.0 known.keys_are (l, refl, is) key.1;
      };
      direct = λ direction d.
          let k = key_directed ls direction x.0 x.1 d in (
            known.keys ++ k.0 ∷ [],
            subst (λ (xs : List Lexeme). AreJoined symbol.Comma IsKey xs (known.keys ++ k.0 ∷ [])) (sym (append_assoc known.list (l ∷ ls) direction))
                (joined_more symbol.Comma IsKey known.list known.keys (l ∷ []) (ls ++ direction) k.0 known.keys_are (l, refl, is) k.1),
          );
    })
direction_turns n s l turn front ls is e h known = limit_turns n s l turn front ls is e h (ordered_of_keys n front known)

directed : (n : ℕ) (l : Lexeme) (front ls : List Lexeme) → (Is symbol.Ascending (l ∷ ls) ⊎ Is symbol.Descending (l ∷ ls)) → Directing n front → Ordering n (front ++ (l ∷ ls))
directed n l front ls d known =
    let o = known.ordering in
    let keys = known.direct (l ∷ ls) d in
    record {
      grouped = o.grouped;
      word = o.word;
      by = o.by;
      list = o.list ++ (l ∷ ls);
      keys = keys.0;
      parts = further4 front o.grouped o.word o.by o.list (l ∷ ls) o.parts;
      grouped_is = o.grouped_is;
      word_is = o.word_is;
      by_is = o.by_is;
      keys_are = keys.1;
    }

is_alone : (s : Symbol) (l : Lexeme) (ls : List Lexeme) → symbol_of l ≡ s → ls ≡ [] → Is s (l ∷ ls)
is_alone s l ls is none = (l, ap (λ (k : List Lexeme). l ∷ k) none, is)

key_turns : (n : ℕ) (s : Symbol) (l : Lexeme) (turn : Turn) (front ls : List Lexeme) → symbol_of l ≡ s → after_key s ≡ Ok turn → StandAll (goals_of turn.row) ls
    → Directing n front → AtRest n turn.rest (front ++ (l ∷ ls))
key_turns n symbol.Ascending l turn front ls is e h known =
    turned n Nothing rest.AfterDirection turn ls (front ++ (l ∷ ls)) e h (λ none. directed n l front ls (inl (is_alone symbol.Ascending l ls is none)) known)
key_turns n symbol.Descending l turn front ls is e h known =
    turned n Nothing rest.AfterDirection turn ls (front ++ (l ∷ ls)) e h (λ none. directed n l front ls (inr (is_alone symbol.Descending l ls is none)) known)
key_turns n s l turn front ls is e h known = direction_turns n s l turn front ls is e h known.ordering

names_turn : (n : ℕ) (s : Symbol) (l : Lexeme) (turn : Turn) (front ls : List Lexeme) → symbol_of l ≡ s → after_group s ≡ Ok turn → StandAll (goals_of turn.row) ls
    → Grouping n front → AtRest n turn.rest (front ++ (l ∷ ls))
names_turn n symbol.Comma l turn front ls is e h known =
    turned n (One (goal.Token fixed.Name)) rest.AfterGroup turn ls (front ++ (l ∷ ls)) e h
    (λ stands.
    let name = one (goal.Token fixed.Name) ls stands in
    record {
      filtered = known.filtered;
      word = known.word;
      by = known.by;
      list = known.list ++ (l ∷ ls);
      names = known.names ++ name.0.token ∷ [];
      parts = further4 front known.filtered known.word known.by known.list (l ∷ ls) known.parts;
      filtered_is = known.filtered_is;
      word_is = known.word_is;
      by_is = known.by_is;
      names_are = joined_more symbol.Comma (IsToken symbol.Name) known.list known.names (l ∷ []) ls name.0.token known.names_are (l, refl, is) (name.0, name.1, name.2, refl);
    })
names_turn n s l turn front ls is e h known = order_turns n s l turn front ls is e h (grouped_of_names n front known)

joint_turns : (Before : List Lexeme → Type 0) (n : ℕ) (l : Lexeme) (front ls : List Lexeme) → (Is symbol.And (l ∷ []) ⊎ Is symbol.Or (l ∷ []))
    → StandAll (goal.Operand n ∷ []) ls → Conditioned Before n front → Conditioned Before n (front ++ (l ∷ ls))
joint_turns Before n l front ls is stands known =
    let x = one (goal.Operand n) ls stands in
    let c = condition_more n known.list (l ∷ []) ls known.condition x.0 known.condition_is is x.1 in
    record {
      tabled = known.tabled;
      word = known.word;
      list = known.list ++ (l ∷ ls);
      condition = c.0;
      parts = further3 front known.tabled known.word known.list (l ∷ ls) known.parts;
      tabled_is = known.tabled_is;
      word_is = known.word_is;
      condition_is = c.1;
    }

where_turns : (Before : List Lexeme → Type 0) (n : ℕ) (l : Lexeme) (front ls : List Lexeme) → symbol_of l ≡ symbol.Where → StandAll (goal.Operand n ∷ []) ls
    → Before front → Conditioned Before n (front ++ (l ∷ ls))
where_turns Before n l front ls is stands known =
    let x = one (goal.Operand n) ls stands in
    record {
      tabled = front;
      word = l ∷ [];
      list = ls;
      condition = x.0;
      parts = refl;
      tabled_is = known;
      word_is = (l, refl, is);
      condition_is = lone (IsOperand n) ls x.0 x.1;
    }

operand_turns : (n : ℕ) (s : Symbol) (l : Lexeme) (turn : Turn) (front ls : List Lexeme) → symbol_of l ≡ s → after_operand n s ≡ Ok turn → StandAll (goals_of turn.row) ls
    → Conditioned Tabled n front → AtRest n turn.rest (front ++ (l ∷ ls))
operand_turns n symbol.And l turn front ls is e h known =
    turned n (One (goal.Operand n)) rest.AfterOperand turn ls (front ++ (l ∷ ls)) e h (λ stands. joint_turns Tabled n l front ls (inl (l, refl, is)) stands known)
operand_turns n symbol.Or l turn front ls is e h known =
    turned n (One (goal.Operand n)) rest.AfterOperand turn ls (front ++ (l ∷ ls)) e h (λ stands. joint_turns Tabled n l front ls (inr (l, refl, is)) stands known)
operand_turns n s l turn front ls is e h known = group_turns n s l turn front ls is e h (filtered_of_condition n front known)

table_turns : (n : ℕ) (s : Symbol) (l : Lexeme) (turn : Turn) (front ls : List Lexeme) → symbol_of l ≡ s → after_table n s ≡ Ok turn → StandAll (goals_of turn.row) ls
    → Tabled front → AtRest n turn.rest (front ++ (l ∷ ls))
table_turns n symbol.Where l turn front ls is e h known =
    turned n (One (goal.Operand n)) rest.AfterOperand turn ls (front ++ (l ∷ ls)) e h (λ stands. where_turns Tabled n l front ls is stands known)
table_turns n s l turn front ls is e h known = group_turns n s l turn front ls is e h (filtered_of_table n front known)

item_turns : (n : ℕ) (s : Symbol) (l : Lexeme) (turn : Turn) (front ls : List Lexeme) → symbol_of l ≡ s → after_item s ≡ Ok turn → StandAll (goals_of turn.row) ls
    → Listing front → AtRest n turn.rest (front ++ (l ∷ ls))
item_turns n symbol.Comma l turn front ls is e h known =
    turned n (One goal.Item) rest.AfterItem turn ls (front ++ (l ∷ ls)) e h
    (λ stands.
    let x = one goal.Item ls stands in
    record {
      head = known.head;
      items = known.items ++ (l ∷ ls);
      xs = known.xs ++ x.0 ∷ [];
      parts = further2 front known.head known.items (l ∷ ls) known.parts;
      head_is = known.head_is;
      items_are = joined_more symbol.Comma IsItem known.items known.xs (l ∷ []) ls x.0 known.items_are (l, refl, is) x.1;
    })
item_turns n symbol.From l turn front ls is e h known =
    turned n (One (goal.Token fixed.Name)) rest.AfterTable turn ls (front ++ (l ∷ ls)) e h
    (λ stands.
    let name = one (goal.Token fixed.Name) ls stands in
    record {
      head = known.head;
      items = known.items;
      from = l ∷ [];
      name = ls;
      selection = Listed known.xs;
      table = name.0.token;
      parts = further2 front known.head known.items (l ∷ ls) known.parts;
      head_is = known.head_is;
      items_are = known.items_are;
      from_is = (l, refl, is);
      name_is = (name.0, name.1, name.2, refl);
    })
item_turns n _ l turn front ls is e h known = none_given _ _ e

-- an item's turn
went : (r : Result Row Refusal) (t : Rest) (turn : Turn) → and_then r (λ row. turn_to row t) ≡ Ok turn → (row : Row) × (r ≡ Ok row) × (turn_to row t ≡ Ok turn)
went (Ok row) t turn e = (row, refl, e)
went (Err f) t turn e = none_given _ _ e

first_item : (n : ℕ) (s : Symbol) (l : Lexeme) (turn : Turn) (front ls : List Lexeme) → symbol_of l ≡ s → and_then (item s) (λ row. turn_to row rest.AfterItem) ≡ Ok turn
    → StandAll (goals_of turn.row) ls → Head front → AtRest n turn.rest (front ++ (l ∷ ls))
first_item n s l turn front ls is e h known =
    let w = went (item s) rest.AfterItem turn e in
    turned n w.0 rest.AfterItem turn ls (front ++ (l ∷ ls)) w.2 h
    (λ stands.
    let x = item_stands s l w.0 ls is w.1 stands in
    record { head = front; items = l ∷ ls; xs = x.0 ∷ []; parts = refl; head_is = known; items_are = x.1 })

items_turn : (n : ℕ) (s : Symbol) (l : Lexeme) (turn : Turn) (front ls : List Lexeme) → symbol_of l ≡ s → items s ≡ Ok turn → StandAll (goals_of turn.row) ls
    → Head front → AtRest n turn.rest (front ++ (l ∷ ls))
items_turn n symbol.Star l turn front ls is e h known =
    turned n (Two (goal.Token fixed.From) (goal.Token fixed.Name)) rest.AfterTable turn ls (front ++ (l ∷ ls)) e h
    (λ stands.
    let p = two (goal.Token fixed.From) (goal.Token fixed.Name) ls stands in
    let name = p.4 in
    record {
      head = front;
      items = l ∷ [];
      from = p.0;
      name = p.1;
      selection = All l.token;
      table = name.0.token;
      parts = ap (λ (k : List Lexeme). front ++ (l ∷ k)) p.2;
      head_is = known;
      items_are = alone symbol.Star l [] is refl;
      from_is = p.3;
      name_is = (name.0, name.1, name.2, refl);
    })
items_turn n s l turn front ls is e h known = first_item n s l turn front ls is e h known

begin_turns : (n : ℕ) (s : Symbol) (l : Lexeme) (turn : Turn) (front ls : List Lexeme) → symbol_of l ≡ s → begin s ≡ Ok turn → StandAll (goals_of turn.row) ls
    → front ≡ [] → AtRest n turn.rest (front ++ (l ∷ ls))
begin_turns n symbol.Explain l turn front ls is e h known =
    turned n (One (goal.Token fixed.Select)) rest.Items turn ls (front ++ (l ∷ ls)) e h
    (λ stands. record {
      explain = l ∷ [];
      select = ls;
      is_explained = true;
      parts = ap (λ (k : List Lexeme). k ++ (l ∷ ls)) known;
      explain_is = inr (refl, (l, refl, is));
      select_is = one (goal.Token fixed.Select) ls stands;
    })
begin_turns n symbol.Select l turn front ls is e h known =
    turned n Nothing rest.Items turn ls (front ++ (l ∷ ls)) e h
    (λ none. record {
      explain = [];
      select = l ∷ ls;
      is_explained = false;
      parts = ap (λ (k : List Lexeme). k ++ (l ∷ ls)) known;
      explain_is = inl (refl, refl);
      select_is = is_alone symbol.Select l ls is none;
    })
begin_turns n symbol.Insert l turn front ls is e h known =
    turned n (Three (goal.Token fixed.Into) (goal.Token fixed.Name) (goal.Token fixed.Values)) rest.Values turn ls (front ++ (l ∷ ls)) e h
    (λ stands.
    let p = three (goal.Token fixed.Into) (goal.Token fixed.Name) (goal.Token fixed.Values) ls stands in
    let name = p.5 in
    record {
      insert = l ∷ [];
      into = p.0;
      name = p.1;
      word = p.2;
      table = name.0.token;
      parts = ap (λ (k : List Lexeme). k ++ (l ∷ ls)) known ∙ ap (λ (k : List Lexeme). l ∷ k) p.3;
      insert_is = (l, refl, is);
      into_is = p.4;
      name_is = (name.0, name.1, name.2, refl);
      word_is = p.6;
    })
begin_turns n symbol.Delete l turn front ls is e h known =
    turned n (Two (goal.Token fixed.From) (goal.Token fixed.Name)) rest.AfterDeleted turn ls (front ++ (l ∷ ls)) e h
    (λ stands.
    let p = two (goal.Token fixed.From) (goal.Token fixed.Name) ls stands in
    let name = p.4 in
    record {
      delete = l ∷ [];
      from = p.0;
      name = p.1;
      word = l.token;
      table = name.0.token;
      parts = ap (λ (k : List Lexeme). k ++ (l ∷ ls)) known ∙ ap (λ (k : List Lexeme). l ∷ k) p.2;
      delete_is = alone symbol.Delete l [] is refl;
      from_is = p.3;
      name_is = (name.0, name.1, name.2, refl);
    })
begin_turns n _ l turn front ls is e h known = none_given _ _ e

-- a literal with its first token
value_of : (ls : List Lexeme) (v : Literal) → IsLiteral ls v → (x : Value) × IsValue ls x
value_of ls v (inl h) = let is = h.1 in (record { first = is.0.token; literal = v }, (is.0, [], is.1, refl, inl h))
value_of ls v (inr h) =
    let minus = h.4 in
    let whole : ls ≡ minus.0 ∷ h.2 = h.3 ∙ ap (λ (k : List Lexeme). k ++ h.2) minus.1 in
    (record { first = minus.0.token; literal = v }, (minus.0, h.2, whole, refl, inr h))

values_turn : (n : ℕ) (s : Symbol) (l : Lexeme) (turn : Turn) (front ls : List Lexeme) → symbol_of l ≡ s → values s ≡ Ok turn → StandAll (goals_of turn.row) ls
    → Begun front → AtRest n turn.rest (front ++ (l ∷ ls))
values_turn n symbol.Open l turn front ls is e h known =
    turned n (One goal.Literal) rest.AfterValue turn ls (front ++ (l ∷ ls)) e h
    (λ stands.
    let v = one goal.Literal ls stands in
    let x = value_of ls v.0 v.1 in
    record { begun = front; left = l ∷ []; list = ls; xs = x.0 ∷ []; parts = refl; begun_is = known; left_is = (l, refl, is); values_are = x.1 })
values_turn n _ l turn front ls is e h known = none_given _ _ e

value_turns : (n : ℕ) (s : Symbol) (l : Lexeme) (turn : Turn) (front ls : List Lexeme) → symbol_of l ≡ s → after_value s ≡ Ok turn → StandAll (goals_of turn.row) ls
    → Valuing front → AtRest n turn.rest (front ++ (l ∷ ls))
value_turns n symbol.Comma l turn front ls is e h known =
    turned n (One goal.Literal) rest.AfterValue turn ls (front ++ (l ∷ ls)) e h
    (λ stands.
    let v = one goal.Literal ls stands in
    let x = value_of ls v.0 v.1 in
    record {
      begun = known.begun;
      left = known.left;
      list = known.list ++ (l ∷ ls);
      xs = known.xs ++ x.0 ∷ [];
      parts = further3 front known.begun known.left known.list (l ∷ ls) known.parts;
      begun_is = known.begun_is;
      left_is = known.left_is;
      values_are = joined_more symbol.Comma IsValue known.list known.xs (l ∷ []) ls x.0 known.values_are (l, refl, is) x.1;
    })
value_turns n symbol.Close l turn front ls is e h known =
    turned n Nothing rest.End turn ls (front ++ (l ∷ ls)) e h
    (λ none. inserted n (front ++ (l ∷ ls)) front (l ∷ ls) l.token refl known (alone symbol.Close l ls is none))
value_turns n _ l turn front ls is e h known = none_given _ _ e

deleted_turns : (n : ℕ) (s : Symbol) (l : Lexeme) (turn : Turn) (front ls : List Lexeme) → symbol_of l ≡ s → after_deleted n s ≡ Ok turn → StandAll (goals_of turn.row) ls
    → Deleting front → AtRest n turn.rest (front ++ (l ∷ ls))
deleted_turns n symbol.Where l turn front ls is e h known =
    turned n (One (goal.Operand n)) rest.AfterCondition turn ls (front ++ (l ∷ ls)) e h (λ stands. where_turns Deleting n l front ls is stands known)
deleted_turns n _ l turn front ls is e h known = none_given _ _ e

condition_turns : (n : ℕ) (s : Symbol) (l : Lexeme) (turn : Turn) (front ls : List Lexeme) → symbol_of l ≡ s → after_condition n s ≡ Ok turn → StandAll (goals_of turn.row) ls
    → Conditioned Deleting n front → AtRest n turn.rest (front ++ (l ∷ ls))
condition_turns n symbol.And l turn front ls is e h known =
    turned n (One (goal.Operand n)) rest.AfterCondition turn ls (front ++ (l ∷ ls)) e h (λ stands. joint_turns Deleting n l front ls (inl (l, refl, is)) stands known)
condition_turns n symbol.Or l turn front ls is e h known =
    turned n (One (goal.Operand n)) rest.AfterCondition turn ls (front ++ (l ∷ ls)) e h (λ stands. joint_turns Deleting n l front ls (inr (l, refl, is)) stands known)
condition_turns n _ l turn front ls is e h known = none_given _ _ e

turns : (n : ℕ) (r : Rest) (l : Lexeme) (turn : Turn) (front ls : List Lexeme) → follow n r (symbol_of l) ≡ Ok turn → StandAll (goals_of turn.row) ls
    → AtRest n r front → AtRest n turn.rest (front ++ (l ∷ ls))
turns n rest.Start l turn front ls e h known = begin_turns n (symbol_of l) l turn front ls refl e h known
turns n rest.Items l turn front ls e h known = items_turn n (symbol_of l) l turn front ls refl e h known
turns n rest.AfterItem l turn front ls e h known = item_turns n (symbol_of l) l turn front ls refl e h known
turns n rest.AfterTable l turn front ls e h known = table_turns n (symbol_of l) l turn front ls refl e h known
turns n rest.AfterOperand l turn front ls e h known = operand_turns n (symbol_of l) l turn front ls refl e h known
turns n rest.AfterGroup l turn front ls e h known = names_turn n (symbol_of l) l turn front ls refl e h known
turns n rest.AfterKey l turn front ls e h known = key_turns n (symbol_of l) l turn front ls refl e h known
turns n rest.AfterDirection l turn front ls e h known = direction_turns n (symbol_of l) l turn front ls refl e h known
turns n rest.Values l turn front ls e h known = values_turn n (symbol_of l) l turn front ls refl e h known
turns n rest.AfterValue l turn front ls e h known = value_turns n (symbol_of l) l turn front ls refl e h known
turns n rest.AfterDeleted l turn front ls e h known = deleted_turns n (symbol_of l) l turn front ls refl e h known
turns n rest.AfterCondition l turn front ls e h known = condition_turns n (symbol_of l) l turn front ls refl e h known
turns n rest.End l turn front ls e h known = none_given _ _ e

-- the lexemes end a statement where such an end is to come
abbrev Completes : ℕ → Rest → List Lexeme → Type 0
Completes n r ls = (front : List Lexeme) → AtRest n r front → (s : Stated) × IsStatement n (front ++ ls) s

completes : (n : ℕ) (r : Rest) (l : Lexeme) (turn : Turn) (a b ls : List Lexeme) → follow n r (symbol_of l) ≡ Ok turn → StandAll (goals_of turn.row) a
    → ls ≡ a ++ b → Completes n turn.rest b → Completes n r (l ∷ ls)
completes n r l turn a b ls e h are rest front known =
    let s = rest (front ++ (l ∷ a)) (turns n r l turn front a e h known) in
    (s.0, subst (λ (k : List Lexeme). IsStatement n k s.0) (append_assoc front (l ∷ a) b ∙ ap (λ (k : List Lexeme). front ++ (l ∷ k)) (sym are)) s.1)

-- what a state's lexemes are
abbrev Accepts : ℕ → List Goal → Rest → List Lexeme → Type 0
Accepts n goals r ls = (a b : List Lexeme) × (ls ≡ a ++ b) × StandAll goals a × Completes n r b

by_goal : (n : ℕ) (g : Goal) (goals : List Goal) (r : Rest) (l : Lexeme) (row : Row) (ls : List Lexeme) → expand g (symbol_of l) ≡ Ok row
    → Accepts n (goals_of row ++ goals) r ls → Accepts n (g ∷ goals) r (l ∷ ls)
by_goal n g goals r l row ls e h =
    let p = split (goals_of row) goals h.0 h.3 in (
      l ∷ h.0,
      h.1,
      ap (λ (k : List Lexeme). l ∷ k) h.2,
      (l ∷ p.0, p.1, ap (λ (k : List Lexeme). l ∷ k) p.2, goal_stands g l row p.0 e p.3, p.4),
      h.4,
    )

by_rest : (n : ℕ) (r : Rest) (l : Lexeme) (turn : Turn) (ls : List Lexeme) → follow n r (symbol_of l) ≡ Ok turn
    → Accepts n (goals_of turn.row ++ []) turn.rest ls → Accepts n [] r (l ∷ ls)
by_rest n r l turn ls e h =
    let p = split (goals_of turn.row) [] h.0 h.3 in
    let same : ls ≡ p.0 ++ h.1 = h.2 ∙ ap (λ (k : List Lexeme). k ++ h.1) (p.2 ∙ ap (λ (k : List Lexeme). p.0 ++ k) p.4 ∙ append-nil p.0) in
    ([], l ∷ ls, refl, refl, completes n r l turn p.0 h.1 ls e p.3 same h.4)

-- what is done after a call that succeeds
pub after_ok : {T U V : Type 0} (t : Result T Refusal) (f : T → U) (k : U → Result V Refusal) (d : V) → and_then (if_ok f t) k ≡ Ok d
    → (x : T) × (t ≡ Ok x) × (k (f x) ≡ Ok d)
after_ok (Ok x) f k d e = (x, refl, e)
after_ok (Err r) f k d e = none_given _ _ e

accepts : (n : ℕ) (goals : List Goal) (r : Rest) (ls : List Lexeme) (d : Config) → reads n (config goals r) ls ≡ Ok d → can_end d ≡ true → Accepts n goals r ls
accepts n [] r [] d e ends =
    let same : config [] r ≡ d = cc in
    let here : may_end r ≡ true = ap can_end same ∙ ends in (
      [],
      [],
      refl,
      refl,
      λ front known.
          ended n r (front ++ []) (subst (AtRest n r) (sym (append-nil front)) known) here,
    )
accepts n (g ∷ goals) r [] d e ends =
    let same : config (g ∷ goals) r ≡ d = cc in
    let here : false ≡ true = ap can_end same ∙ ends in
    cc
accepts n [] r (l ∷ ls) d e ends =
    let t = after_ok (follow n r (symbol_of l)) (config_of []) (λ c. reads n c ls) d e in
    by_rest n r l t.0 ls t.1 (accepts n (goals_of t.0.row ++ []) t.0.rest ls d t.2 ends)
accepts n (g ∷ goals) r (l ∷ ls) d e ends =
    let t = after_ok (and_then (expand g (symbol_of l)) (λ row. turn_to row r)) (config_of goals) (λ c. reads n c ls) d e in
    let w = went (expand g (symbol_of l)) r t.0 t.1 in
    let same : record { row = w.0; rest = r } ≡ t.0 = let e2 = w.2 in cc in
    let more : reads n (config (goals_of w.0 ++ goals) r) ls ≡ Ok d = ap (λ (u : Turn). reads n (config_of goals u) ls) same ∙ t.2 in
    by_goal n g goals r l w.0 ls w.1 (accepts n (goals_of w.0 ++ goals) r ls d more ends)

-- lexemes after which the machine may end are a statement
pub accepted : (n : ℕ) (ls : List Lexeme) (d : Config) → reads n start ls ≡ Ok d → can_end d ≡ true → (s : Stated) × IsStatement n ls s
accepted n ls d e ends =
    let a = accepts n [] rest.Start ls d e ends in
    let s = a.4 [] refl in
    (s.0, subst (λ (k : List Lexeme). IsStatement n k s.0) (sym (a.2 ∙ ap (λ (k : List Lexeme). k ++ a.1) a.3)) s.1)
