use Rattle.std.proofs.Common.{rules, true}
use Rattle.clap.specs.Words.{App, new_app}
use Rattle.ub_words.specs.CommandLine.{IsCommandFor}
use Rattle.ub_words.proofs.AddFacts.{boxed_is}
use Rattle.ub_words.proofs.builder.bare_program.Goals as goal

pub returns : goal.returns
returns c =
    let bare : App = record (new_app c.args.name.now) {
      top = record (new_app c.args.name.now).top { has_version = true; subcommand_required = true };
    } in
    let is : IsCommandFor bare c.subcommand_required.result = (search rules, search rules) in
    boxed_is c.boxed.result c.subcommand_required.result bare c.boxed.ensures is
