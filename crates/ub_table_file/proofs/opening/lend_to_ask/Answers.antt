use Rattle.std.proofs.Common.{refl}
use Rattle.ub_table_file.proofs.FileFacts.{not_opened, opened_to_ask}
use Rattle.ub_table_file.proofs.opening.lend_to_ask.Goals as goal

pub returns-in-Ok : goal.returns-in-Ok
returns-in-Ok g c = record {
  lent = c.in-Ok.ensures.lent;
  opens = opened_to_ask c.args.path.now _ _ c.in-Ok.store c.in-Ok.ensures.effect;
  quiet = refl;
  unlent = tt;
  crash = c.in-Ok.ensures.crash;
}

pub returns-in-Err : goal.returns-in-Err
returns-in-Err g c = record {
  lent = tt;
  opens = tt;
  quiet = tt;
  unlent = not_opened _ _ _ c.in-Err.fault _ _ _ c.in-Err.ensures.faults (λ e. c.in-Err.ensures.torn e) c.in-Err.ensures.effect c.tell_store_fault.ensures;
  crash = c.in-Err.ensures.crash;
}
