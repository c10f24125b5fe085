-- What the functions that build the command line say of what they made, for private clauses.
use Rattle.std.specs.Prelude.{◌≡◌, IfOk, false, Result}
use Rattle.std.specs.declared.alloc.AllocError.{AllocError}
use Rattle.clap.specs.Words.{App, Rule, app_of, rule_of}
use Rattle.clap.specs.declared.builder.arg.Arg.{Arg}
use Rattle.clap.specs.declared.builder.command.Command.{Command}
use Rattle.clap.specs.declared.builder.command.Command.TheViews.{out-Command as fields_of}

-- the argument is read by this rule, and is of its own command alone
unfoldable pub IsArg : Rule → Arg → Type 0
IsArg rule arg = (rule_of arg ≡ rule) × (arg.global ≡ false)

-- the command is this one, and each of its arguments is of one command alone
unfoldable pub IsCommand : App → Command → Type 0
IsCommand app command = (app_of command ≡ app) × ((fields_of command).has_globals ≡ false)

-- the command is this one, unless memory ran out
abbrev pub Builds : App → Result Command AllocError → Type 0
Builds app result = IfOk result (IsCommand app)
