-- The first symbol of a statement tells which of the three it is.
use Rattle.std.proofs.Common.{◌≡◌, ◌≢◌, ◌⊎◌, ℕ, List, ◌++◌, Option, Some, ap, ◌∙◌, inl, inr}
use Rattle.ub_syntax.specs.Grammar.{Lexeme, IsSelect, IsInsert, IsDelete}
use Rattle.ub_syntax.specs.Reading.{first_symbol}
use Rattle.ub_syntax.specs.Tree.{Select}
use Rattle.ub_syntax.specs.declared.symbol.Symbol.{Symbol}
use Rattle.ub_syntax.specs.declared.symbol.Symbol.TheVariants as symbol
use Rattle.ub_syntax.specs.declared.syntax.Insertion.{Insertion}
use Rattle.ub_syntax.proofs.Parts.{first_is, is_of}

pub insert_first : (ls : List Lexeme) (i : Insertion) → IsInsert ls i → first_symbol ls ≡ Some symbol.Insert
insert_first ls i is = first_is symbol.Insert is.insert _ ls is.insert_is is.parts

pub delete_first : (n : ℕ) (ls : List Lexeme) (s : Select) → IsDelete n ls s → first_symbol ls ≡ Some symbol.Delete
delete_first n ls s is = first_is symbol.Delete is.delete _ ls (is_of symbol.Delete is.delete is.word is.delete_is) is.parts

pub select_first : (n : ℕ) (ls : List Lexeme) (s : Select) → IsSelect n ls s → (first_symbol ls ≡ Some symbol.Select) ⊎ (first_symbol ls ≡ Some symbol.Explain)
select_first n ls s is = elim is.explain_is [
  | inl h ↦ inl (first_is symbol.Select is.select _ ls is.select_is (is.parts ∙ ap (λ (e : List Lexeme). e ++ (is.select ++ (is.items ++ (is.from ++ (is.name ++ (is.filter ++ (is.group ++ (is.order ++ is.limit)))))))) h.1))
  | inr h ↦ inr (first_is symbol.Explain is.explain _ ls h.1 is.parts)
]

two_firsts : (o : Option Symbol) (s t : Symbol) → o ≡ Some s → o ≡ Some t → s ≡ t
two_firsts o s t h k = cc

pub select_other : (n : ℕ) (ls : List Lexeme) (s : Select) (t : Symbol) → IsSelect n ls s → first_symbol ls ≡ Some t → t ≢ symbol.Select → t ≢ symbol.Explain → ⊥
select_other n ls s t is first a b = elim (select_first n ls s is) [
  | inl h ↦ a (two_firsts (first_symbol ls) t symbol.Select first h)
  | inr h ↦ b (two_firsts (first_symbol ls) t symbol.Explain first h)
]

pub select_no_insert : (ls : List Lexeme) (s : Select) → IsSelect 64 ls s → first_symbol ls ≢ Some symbol.Insert
select_no_insert ls s is first = select_other 64 ls s symbol.Insert is first (λ e. cc) (λ e. cc)

pub select_no_delete : (ls : List Lexeme) (s : Select) → IsSelect 64 ls s → first_symbol ls ≢ Some symbol.Delete
select_no_delete ls s is first = select_other 64 ls s symbol.Delete is first (λ e. cc) (λ e. cc)

pub delete_no_insert : (ls : List Lexeme) (s : Select) → IsDelete 64 ls s → first_symbol ls ≢ Some symbol.Insert
delete_no_insert ls s is first =
    let e : symbol.Delete ≡ symbol.Insert = two_firsts (first_symbol ls) symbol.Delete symbol.Insert (delete_first 64 ls s is) first in
    cc

pub insert_no_delete : (ls : List Lexeme) (i : Insertion) → IsInsert ls i → first_symbol ls ≢ Some symbol.Delete
insert_no_delete ls i is first =
    let e : symbol.Insert ≡ symbol.Delete = two_firsts (first_symbol ls) symbol.Insert symbol.Delete (insert_first ls i is) first in
    cc
