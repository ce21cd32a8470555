-- What the rule for names gives, and that a name and its zeros fill a block.
use Rattle.std.proofs.Common.{◌≡◌, ◌≤◌, ◌<◌, ◌-◌, ◌++◌, ◌&&◌, ℕ, Bool, true, false, List, length, take, replicate, refl, arith, nat_le, leb-true, le-leb, nat_lt, lt-ltb, not, slice_index}
use Rattle.std.specs.List.{list_all}
use Rattle.std.proofs.lemmas.List.{length-append, length-replicate}
use Rattle.std.proofs.Math.Seq.{take-append_seam}
use Rattle.ub_table.specs.Name.{IsName, is_name, is_letter, is_word_byte, is_keyword}
use Rattle.ub_table.specs.Block.{IsNameBlock}

both : (a b : Bool) → (a && b) ≡ true → (a ≡ true) × (b ≡ true)
both true b is = (refl, is)
both false b is = (cc, cc)

-- a name is no longer than 32 bytes
pub length-name : (text : List ℕ) → IsName text → length text ≤ 32
unfolding is_name
length-name text is =
    let lens = (both _ _ (both _ _ (both _ _ (both _ _ is).0).0).0).1 in
    leb-true (length text) 32 lens

-- a text of a name's length and first byte is a name if the rest of the rule holds
pub is_name-rest : (text : List ℕ) → 0 < length text → length text ≤ 32 → is_letter (slice_index text 0) ≡ true
    → is_name text ≡ (list_all is_word_byte text && not (is_keyword text))
unfolding is_name
is_name-rest text some few first =
    let more : nat_lt 0 (length text) ≡ true = lt-ltb 0 (length text) some in
    let less : nat_le (length text) 32 ≡ true = le-leb (length text) 32 few in
    rw (more, less, first) refl

-- a name and zeros are its block
pub name_block : (text : List ℕ) → IsName text → IsNameBlock (length text) (text ++ replicate (32 - length text) 0)
name_block text is =
    let zeros : List ℕ = replicate (32 - length text) 0 in
    let front : take (length text) (text ++ zeros) ≡ text = take-append_seam text zeros in
    let short : length text ≤ 32 = length-name text is in
    record {
      name = rw front is;
      short = short;
      whole = omega (arith, length-append text zeros, length-replicate {A = ℕ} (32 - length text) 0);
      padded = rw front refl;
    }
