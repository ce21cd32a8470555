use Rattle.std.proofs.Common.{arith, ◌*◌, sym}
use Rattle.ub_bytes.specs.Numbers.{first_numbers, word_in}
use Rattle.ub_bytes.proofs.DraftFacts.{IsDraft, after_put, fits_in, mid_long, put_len}
use Rattle.ub_bytes.proofs.WriteFacts.{length-first_numbers}
use Rattle.ub_bytes.proofs.draft.Draft.put_words.Goals as goal

pub invariant_of-self : goal.invariant_of-self
invariant_of-self c =
    let count = c.args.count in
    let column = c.args.column.now in
    let draft : IsDraft 4096 c.self.inside.len (4 * count) c.self.inside.page c.args.self.now
    = record { long = c.self.told; within = c.self.invariant.0; blank = c.self.invariant.1; is = c.self.view_is; room = c.requires.room } in
    let after = after_put draft (first_numbers 4 (word_in column) count) c.write_words.new.target (sym (length-first_numbers 4 (word_in column) count)) c.write_words.ensures in
    (after.0, after.1)

pub returns-clause-bytes : goal.returns-clause-bytes
returns-clause-bytes c =
    let count = c.args.count in
    let column = c.args.column.now in
    let draft : IsDraft 4096 c.self.inside.len (4 * count) c.self.inside.page c.args.self.now
    = record { long = c.self.told; within = c.self.invariant.0; blank = c.self.invariant.1; is = c.self.view_is; room = c.requires.room } in
    (after_put draft (first_numbers 4 (word_in column) count) c.write_words.new.target (sym (length-first_numbers 4 (word_in column) count)) c.write_words.ensures).2

pub returns-clause-len : goal.returns-clause-len
returns-clause-len c =
    let count = c.args.count in
    let column = c.args.column.now in
    let draft : IsDraft 4096 c.self.inside.len (4 * count) c.self.inside.page c.args.self.now
    = record { long = c.self.told; within = c.self.invariant.0; blank = c.self.invariant.1; is = c.self.view_is; room = c.requires.room } in
    put_len draft (first_numbers 4 (word_in column) count) c.write_words.new.target (sym (length-first_numbers 4 (word_in column) count)) c.write_words.ensures

pub write_words-requires-clause-room : goal.write_words-requires-clause-room
write_words-requires-clause-room c =
    let count = c.args.count in
    let draft : IsDraft 4096 c.self.inside.len (4 * count) c.self.inside.page c.args.self.now
    = record { long = c.self.told; within = c.self.invariant.0; blank = c.self.invariant.1; is = c.self.view_is; room = c.requires.room } in
    mid_long draft

pub slice_bounds-write_words-count : goal.slice_bounds-write_words-count
slice_bounds-write_words-count c = c.self.invariant.0

pub overflow_add-self : goal.overflow_add-self
overflow_add-self c =
    let count = c.args.count in
    let draft : IsDraft 4096 c.self.inside.len (4 * count) c.self.inside.page c.args.self.now
    = record { long = c.self.told; within = c.self.invariant.0; blank = c.self.invariant.1; is = c.self.view_is; room = c.requires.room } in
    let fits = fits_in draft in
    omega arith
