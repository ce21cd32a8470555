-- How parts with a symbol between each two are read, one after the other.
use Rattle.std.proofs.Common.{◌≡◌, ◌≢◌, true, false, List, [], ◌∷◌, ◌++◌, Some, refl, sym, ap, ◌∙◌, append_assoc}
use Rattle.std.proofs.lemmas.List.{append-nil}
use Rattle.std.specs.List.{fold}
use Rattle.std.proofs.lemmas.List.Sums.{fold-append}
use Rattle.ub_syntax.specs.Grammar.{Lexeme, Is, AreJoined, IsChain}
use Rattle.ub_syntax.specs.Reading.{first_symbol, NotFirst, Reads, Accepts}
use Rattle.ub_syntax.specs.Tree.{Shape}
use Rattle.ub_syntax.specs.declared.symbol.Symbol.{Symbol}
use Rattle.ub_syntax.proofs.Parts.{cut, recut, first_is, accept_is}

-- the symbol and a part, once for each of these
abbrev pub Tails : {A : Type 0} → Symbol → (List Lexeme → A → Type 0) → List Lexeme → List A → Type 0
Tails s P ls [] = ls ≡ []
Tails s P ls (x ∷ xs) =
    (joint part rest : List Lexeme) × (ls ≡ joint ++ (part ++ rest)) × Is s joint × P part x × Tails s P rest xs

-- what ends a part is what follows it in the row or ends the row, and the row ends where the symbol doesn't follow
pub record Separates (s : Symbol) (inner ends : List Symbol) : Type 0 where
  pub joint : (ls : List Lexeme) → first_symbol ls ≡ Some s → NotFirst inner ls
  pub end : (ls : List Lexeme) → NotFirst ends ls → NotFirst inner ls
  pub other : (ls : List Lexeme) → NotFirst ends ls → first_symbol ls ≢ Some s

-- of what is joined these parts are read, and what is left goes on with the others
pub record Goes {A : Type 0} (s : Symbol) (P : List Lexeme → A → Type 0) (xs read : List A) (left rest : List Lexeme) : Type 0 where
  pub others : List A
  pub tail : List Lexeme
  pub all : xs ≡ read ++ others
  pub on : left ≡ tail ++ rest
  pub tails : Tails s P tail others

abbrev pub Joins : {A : Type 0} → Symbol → (List Lexeme → A → Type 0) → List Symbol → List Lexeme → List A → List Lexeme → Type 0
Joins {A} s P ends old read left =
    (used rest : List Lexeme) (xs : List A) → old ≡ used ++ rest → AreJoined s P used xs → NotFirst ends rest → Goes s P xs read left rest

-- the first part, and the tail of a row
pub record Split {A : Type 0} (s : Symbol) (P : List Lexeme → A → Type 0) (ls : List Lexeme) (x : A) (xs : List A) : Type 0 where
  pub part : List Lexeme
  pub tail : List Lexeme
  pub parts : ls ≡ part ++ tail
  pub is : P part x
  pub tails : Tails s P tail xs

pub split : {A : Type 0} (s : Symbol) (P : List Lexeme → A → Type 0) (ls : List Lexeme) (x : A) (xs : List A) → AreJoined s P ls (x ∷ xs) → Split s P ls x xs
split s P ls x [] w = record { part = ls; tail = []; parts = sym (append-nil ls); is = w; tails = refl }
split s P ls x (y ∷ ys) w =
    let r = split s P w.2 y ys w.6 in
    record {
      part = w.0;
      tail = w.1 ++ w.2;
      parts = w.3;
      is = w.4;
      tails = (w.1, r.part, r.tail, ap (λ (t : List Lexeme). w.1 ++ t) r.parts, w.5, r.is, r.tails);
    }

tails_follow : {A : Type 0} (s : Symbol) (P : List Lexeme → A → Type 0) (inner ends : List Symbol) (tail rest : List Lexeme) (xs : List A)
    → Separates s inner ends → Tails s P tail xs → NotFirst ends rest → NotFirst inner (tail ++ rest)
tails_follow s P inner ends tail rest [] sep t end = rw t (sep.end rest end)
tails_follow s P inner ends tail rest (x ∷ xs) sep t end =
    sep.joint (tail ++ rest) (first_is s t.0 ((t.1 ++ t.2) ++ rest) (tail ++ rest) t.4 (cut (tail ++ rest) tail rest t.0 (t.1 ++ t.2) refl t.3))

pub joined_start : {A : Type 0} (s : Symbol) (P : List Lexeme → A → Type 0) (inner ends : List Symbol) (old mid : List Lexeme) (x : A)
    → Separates s inner ends → Reads P inner old x mid → Joins s P ends old (x ∷ []) mid
joined_start s P inner ends old mid x sep r used rest [] e w end = absurd w
joined_start s P inner ends old mid x sep r used rest (y ∷ ys) e w end =
    let t = split s P used y ys w in
    let s1 = r t.part (t.tail ++ rest) y (cut old used rest t.part t.tail e t.parts) t.is (tails_follow s P inner ends t.tail rest ys sep t.tails end) in
    record { others = ys; tail = t.tail; all = rw s1.0 refl; on = s1.1; tails = t.tails }

more : {A : Type 0} (s : Symbol) (P : List Lexeme → A → Type 0) (inner ends : List Symbol) (left mid new rest tail : List Lexeme) (xs read others : List A) (x : A)
    → Separates s inner ends → Accepts s left true mid → Reads P inner mid x new → NotFirst ends rest
    → xs ≡ read ++ others → left ≡ tail ++ rest → Tails s P tail others → Goes s P xs (read ++ x ∷ []) new rest
more s P inner ends left mid new rest tail xs read [] x sep a r end all on t =
    let at : left ≡ rest = on ∙ ap (λ (u : List Lexeme). u ++ rest) t in
    let bad = a.stays (λ h. sep.other rest end (ap first_symbol (sym at) ∙ h)) in
    let never : ⊥ = cc in
    absurd never
more s P inner ends left mid new rest tail xs read (y ∷ ys) x sep a r end all on t =
    let s1 = accept_is s t.0 ((t.1 ++ t.2) ++ rest) left true mid a t.4 (cut left tail rest t.0 (t.1 ++ t.2) on t.3) in
    let s2 = r t.1 (t.2 ++ rest) y (recut mid t.1 t.2 rest s1.1) t.5 (tails_follow s P inner ends t.2 rest ys sep t.6 end) in
    record {
      others = ys;
      tail = t.2;
      all = all ∙ rw s2.0 (sym (append_assoc read (y ∷ []) ys));
      on = s2.1;
      tails = t.6;
    }

pub joined_more : {A : Type 0} (s : Symbol) (P : List Lexeme → A → Type 0) (inner ends : List Symbol) (old left mid new : List Lexeme) (read : List A) (x : A)
    → Separates s inner ends → Joins s P ends old read left → Accepts s left true mid → Reads P inner mid x new → Joins s P ends old (read ++ x ∷ []) new
joined_more s P inner ends old left mid new read x sep j a r used rest xs e w end =
    let g = j used rest xs e w end in
    more s P inner ends left mid new rest g.tail xs read g.others x sep a r end g.all g.on g.tails

last : {A : Type 0} (s : Symbol) (P : List Lexeme → A → Type 0) (inner ends : List Symbol) (left new rest tail : List Lexeme) (xs read others : List A)
    → Separates s inner ends → Accepts s left false new → NotFirst ends rest
    → xs ≡ read ++ others → left ≡ tail ++ rest → Tails s P tail others → (read ≡ xs) × (new ≡ rest)
last s P inner ends left new rest tail xs read [] sep a end all on t =
    let at : left ≡ rest = on ∙ ap (λ (u : List Lexeme). u ++ rest) t in
    let s1 = a.stays (λ h. sep.other rest end (ap first_symbol (sym at) ∙ h)) in
    (sym (all ∙ append-nil read), s1.1 ∙ at)
last s P inner ends left new rest tail xs read (y ∷ ys) sep a end all on t =
    let s1 = accept_is s t.0 ((t.1 ++ t.2) ++ rest) left false new a t.4 (cut left tail rest t.0 (t.1 ++ t.2) on t.3) in
    let never : ⊥ = cc in
    absurd never

pub joined_end : {A : Type 0} (s : Symbol) (P : List Lexeme → A → Type 0) (inner ends : List Symbol) (old left new : List Lexeme) (read : List A)
    → Separates s inner ends → Joins s P ends old read left → Accepts s left false new → Reads (AreJoined s P) ends old read new
joined_end s P inner ends old left new read sep j a used rest xs e w end =
    let g = j used rest xs e w end in
    last s P inner ends left new rest g.tail xs read g.others sep a end g.all g.on g.tails

-- the shapes read so far are grouped into this one, and what is left goes on
pub record Folds (s : Symbol) (group : Shape → Shape → Shape) (P : List Lexeme → Shape → Type 0) (ends : List Symbol) (old : List Lexeme) (folded : Shape) (left : List Lexeme) : Type 0 where
  pub first : Shape
  pub others : List Shape
  pub joins : Joins s P ends old (first ∷ others) left
  pub is : folded ≡ fold group first others

pub chain_start : (s : Symbol) (group : Shape → Shape → Shape) (P : List Lexeme → Shape → Type 0) (inner ends : List Symbol) (old mid : List Lexeme) (x : Shape)
    → Separates s inner ends → Reads P inner old x mid → Folds s group P ends old x mid
chain_start s group P inner ends old mid x sep r =
    record { first = x; others = []; joins = joined_start s P inner ends old mid x sep r; is = refl }

pub chain_more : (s : Symbol) (group : Shape → Shape → Shape) (P : List Lexeme → Shape → Type 0) (inner ends : List Symbol) (old left mid new : List Lexeme) (folded x : Shape)
    → Separates s inner ends → Folds s group P ends old folded left → Accepts s left true mid → Reads P inner mid x new → Folds s group P ends old (group folded x) new
chain_more s group P inner ends old left mid new folded x sep f a r =
    record {
      first = f.first;
      others = f.others ++ x ∷ [];
      joins = joined_more s P inner ends old left mid new (f.first ∷ f.others) x sep f.joins a r;
      is = ap (λ (c : Shape). group c x) f.is ∙ sym (fold-append group f.first f.others (x ∷ []));
    }

grouped : (group : Shape → Shape → Shape) (a b : Shape) (xs ys : List Shape) → a ∷ xs ≡ b ∷ ys → fold group a xs ≡ fold group b ys
grouped group a b xs ys e =
    let p : a ≡ b = cc in
    let q : xs ≡ ys = cc in
    rw (p, q) refl

pub chain_end : (s : Symbol) (group : Shape → Shape → Shape) (P : List Lexeme → Shape → Type 0) (inner ends : List Symbol) (old left new : List Lexeme) (folded : Shape)
    → Separates s inner ends → Folds s group P ends old folded left → Accepts s left false new → Reads (IsChain s group P) ends old folded new
chain_end s group P inner ends old left new folded sep f a used rest c e w end =
    let r = joined_end s P inner ends old left new (f.first ∷ f.others) sep f.joins a used rest (w.0 ∷ w.1) e w.2 end in
    (f.is ∙ grouped group f.first w.0 f.others w.1 r.0 ∙ sym w.3, r.1)
