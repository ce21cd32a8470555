-- What is added to a command in the making.
use Rattle.std.proofs.Common.{◌≡◌, sym, subst, IfOk, IsOkAnd, Result, Ok, Err, Box, Global, box_value, rules}
use Rattle.std.specs.declared.alloc.AllocError.{AllocError}
use Rattle.clap.specs.Words.{AddsArg, AddsSubcommand, App, Rule, with_rule, with_subcommand}
use Rattle.clap.specs.declared.builder.Arg.{Arg}
use Rattle.clap.specs.declared.builder.command.Command.{Command}
use Rattle.ub_words.specs.CommandLine.{IsArgFor, IsCommandFor}

-- a command in the making
abbrev Making : Type 0
Making = Result (Box Command Global) AllocError

-- what held of the command in the making, and one step more
pub kept : (result made : Making) (P : Command → Type 0) (R : Command → Command → Type 0) (Q : Command → Type 0) → IfOk result (λ after. IsOkAnd made (λ before. R (box_value before) (box_value after))) → IfOk made (λ before. P (box_value before)) → ((before after : Command) → P before → R before after → Q after) → IfOk result (λ after. Q (box_value after))
kept (Ok after) (Ok before) P R Q steps is so = so _ _ is steps
kept (Ok after) (Err e) P R Q steps is so = absurd steps
kept (Err e) made P R Q steps is so = tt

pub with_arg_added : (app : App) (rule : Rule) (before : Command) (arg : Arg) (after : Command) → IsCommandFor app before → IsArgFor rule arg → AddsArg before arg after → IsCommandFor (with_rule app rule) after
with_arg_added app rule before arg after is fits adds = search rules

pub with_command_added : (app under : App) (before below after : Command) → IsCommandFor app before → IsCommandFor under below → AddsSubcommand before below after → IsCommandFor (with_subcommand app under.top) after
with_command_added app under before below after is fits adds = search rules

-- a command that was put into a box is what it was
pub boxed_is : (result : Making) (command : Command) (app : App) → IfOk result (λ boxed. box_value boxed ≡ command) → IsCommandFor app command → IfOk result (λ made. IsCommandFor app (box_value made))
boxed_is (Ok made) command app same is = subst (IsCommandFor app) (sym same) is
boxed_is (Err e) command app same is = tt
