-- What is known of the program's command once it is built.
use Rattle.std.proofs.Common.{◌≡◌, true, false, ap, Result, Ok, Err, IfOk}
use Rattle.std.specs.declared.alloc.AllocError.{AllocError}
use Rattle.clap.specs.Words.{App, app_of}
use Rattle.clap.specs.declared.builder.command.Command.{Command}
use Rattle.clap.specs.declared.builder.command.Command.TheViews.{out-Command as fields_of}
use Rattle.clap.specs.declared.builder.value_parser.ValueParser.{ValueParser}
use Rattle.adm_words.specs.Building.{IsCommand, Builds}
use Rattle.adm_words.specs.Program.{IsPhases, program_app}

pub app_is : (phases : ValueParser) (r : Result Command AllocError) → IsPhases phases → Builds (program_app phases) r
    → IfOk r (λ c. (phases : ValueParser) × IsPhases phases × (app_of c ≡ program_app phases))
unfolding IsCommand
app_is phases (Ok c) named built = (phases, named, built.0)
app_is phases (Err e) named built = tt

pub is_local : (phases : ValueParser) (r : Result Command AllocError) → Builds (program_app phases) r → IfOk r (λ c. (fields_of c).has_globals ≡ false)
unfolding IsCommand
is_local phases (Ok c) built = built.1
is_local phases (Err e) built = tt

pub wants_subcommand : (phases : ValueParser) (r : Result Command AllocError) → Builds (program_app phases) r → IfOk r (λ c. (fields_of c).subcommand_required ≡ true)
unfolding IsCommand
wants_subcommand phases (Ok c) built = ap (λ (a : App). a.top.subcommand_required) built.0
wants_subcommand phases (Err e) built = tt
