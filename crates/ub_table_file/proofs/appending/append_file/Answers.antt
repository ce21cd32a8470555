use Rattle.std.proofs.Common.{inl, inr, refl}
use Rattle.ub_table_file.proofs.AppendFacts.{append_same, append_still, appended_lasts, appended_safely}
use Rattle.ub_table_file.proofs.FileFacts.{has_read, not_read, not_so}
use Rattle.ub_table_file.proofs.LastFacts.{never_done, store_says}
use Rattle.ub_table_file.proofs.appending.append_file.Goals as goal

pub returns-in-Ok-clause-appends : goal.returns-in-Ok-clause-appends
returns-in-Ok-clause-appends g c = inr (
  not_so c.is_same.result _ c.is_same.ensures.1 c.if-is_same.false,
  inl (record {
    text = c.as_slice.result.now;
    mid = g.F.Files.facts c.read.new.self;
    read = has_read _ c.as_slice.result.now _ _ _ (rw c.as_slice.ensures.value c.in-Ok.ensures.text) c.in-Ok.ensures.effect;
    appends = c.append_text.ensures.appends;
  }),
)

pub returns-then-is_same-clause-appends : goal.returns-then-is_same-clause-appends
returns-then-is_same-clause-appends g c = inl (record { same = c.is_same.ensures.0 c.if-is_same.true; files = refl; tells = c.tell.ensures })

pub returns-in-Err-clause-appends : goal.returns-in-Err-clause-appends
returns-in-Err-clause-appends g c = inr (
  not_so c.is_same.result _ c.is_same.ensures.1 c.if-is_same.false,
  inr (not_read _ _ _ c.in-Err.fault _ _ _ c.in-Err.ensures.faults c.in-Err.ensures.effect c.tell_store_fault.ensures),
)

pub returns-in-Ok-clause-crash : goal.returns-in-Ok-clause-crash
returns-in-Ok-clause-crash g c =
    appended_safely c.args.asked.table.now c.args.asked.data.now c.as_slice.result.now (g.F.Files.facts c.args.files.now) (g.F.Files.facts c.read.new.self) _ _ _ (g.W.Out.facts c.args.out.now) (g.W.Out.facts c.append_text.new.out) c.append_text.result
    (has_read _ c.as_slice.result.now _ _ _ (rw c.as_slice.ensures.value c.in-Ok.ensures.text) c.in-Ok.ensures.effect)
    c.in-Ok.ensures.crash c.append_text.ensures.crash

pub returns-then-is_same-clause-crash : goal.returns-then-is_same-clause-crash
returns-then-is_same-clause-crash g c = append_still c.args.asked.table.now c.args.asked.data.now (g.F.Files.facts c.args.files.now) _ (g.W.Out.facts c.args.out.now) (g.W.Out.facts c.tell.new.out) c.tell.result

pub returns-in-Err-clause-crash : goal.returns-in-Err-clause-crash
returns-in-Err-clause-crash g c = append_same c.args.asked.table.now c.args.asked.data.now (g.F.Files.facts c.args.files.now) _ _ (g.W.Out.facts c.args.out.now) (g.W.Out.facts c.tell_store_fault.new.out) c.tell_store_fault.result c.in-Err.ensures.crash

pub returns-in-Ok-clause-lasts : goal.returns-in-Ok-clause-lasts
returns-in-Ok-clause-lasts g c = λ done. record {
  text = c.as_slice.result.now;
  mid = g.F.Files.facts c.read.new.self;
  read = has_read _ c.as_slice.result.now _ _ _ (rw c.as_slice.ensures.value c.in-Ok.ensures.text) c.in-Ok.ensures.effect;
  lasts = λ some. appended_lasts c.args.asked.table.now c.args.asked.data.now c.as_slice.result.now (g.F.Files.facts c.args.files.now) (g.F.Files.facts c.read.new.self) (g.F.Files.clock c.append_text.new.files) (g.W.Out.facts c.args.out.now) (g.W.Out.facts c.append_text.new.out) c.append_text.result
      (has_read _ c.as_slice.result.now _ _ _ (rw c.as_slice.ensures.value c.in-Ok.ensures.text) c.in-Ok.ensures.effect)
      (c.append_text.ensures.lasts some done);
}

pub returns-then-is_same-clause-lasts : goal.returns-then-is_same-clause-lasts
returns-then-is_same-clause-lasts g c = λ done. absurd (never_done _ _ _ _ c.tell.result c.tell.ensures refl done)

pub returns-in-Err-clause-lasts : goal.returns-in-Err-clause-lasts
returns-in-Err-clause-lasts g c = λ done. absurd (never_done _ _ _ _ c.tell_store_fault.result c.tell_store_fault.ensures (store_says c.in-Err.fault) done)
