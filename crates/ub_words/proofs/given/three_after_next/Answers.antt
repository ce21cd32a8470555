use Rattle.std.proofs.Common.{◌≡◌, sym, codes, rules}
use Rattle.std.specs.Prelude.{string_bytes}
use Rattle.ub_words.proofs.GivenFacts.{five}
use Rattle.ub_words.proofs.given.three_after_next.Goals as goal

pub returns-in-len5 : goal.returns-in-len5
returns-in-len5 c =
    let four = five string_bytes c.args.words.now _ _ _ _ c.in-len5.len_at_least c.in-len5.len_below c.command-item.is c.low-item.is c.high-item.is c.address-item.is in
    let next : string_bytes c.command-item.result ≡ codes "next" = search rules in
    let low = c.as_str-in-len5.ensures.value in
    let high = c.as_str-in-len5-2.ensures.value in
    let address = c.as_str-in-len5-3.ensures.value in
    (four.0, rw (low, high, address, sym next) four.1)
