-- How a name lies in memory: a block of 32 bytes, its unused ones 0.
use Rattle.std.specs.Prelude.{◌≡◌, ◌≤◌, ◌-◌, ◌++◌, ℕ, List, length, take, replicate}
use Rattle.std.proofs.Common.{arith, sym, length-take-le}
use Rattle.ub_table.specs.Name.{IsName}

-- the first bytes of the block are a name, and the others are 0
pub record IsNameBlock (len : ℕ) (block : List ℕ) : Type 0 where
  pub name : IsName (take len block)
  pub short : len ≤ 32
  pub whole : length block ≡ 32
  pub padded : block ≡ take len block ++ replicate (32 - len) 0

pub length-block : (len : ℕ) (block : List ℕ) → IsNameBlock len block → length (take len block) ≡ len
length-block len block is =
    let short = is.short in
    let whole = is.whole in
    length-take-le len block (omega arith)

pub padded-block : (len : ℕ) (block : List ℕ) → IsNameBlock len block → take len block ++ replicate (32 - length (take len block)) 0 ≡ block
padded-block len block is = rw (length-block len block is) (sym is.padded)
