-- What each command must show of what it changes. What holds of all commands follows from it, with no case for each.
use Rattle.std.proofs.Common.{◌≡◌, ◌∙◌, ap, sym, subst, refl, [], Some, None}
use Rattle.std.specs.Prelude.{Option}
use Rattle.adm_types.specs.declared.commands.Command.{Command}
use Rattle.adm_types.specs.declared.commands.Refusal.{Refusal}
use Rattle.adm_types.specs.declared.commands.Reply.{Reply}
use Rattle.adm_types.specs.declared.commands.Reply.TheVariants.{Done}
use Rattle.adm_match.specs.Relisting.{OneBest}
use Rattle.adm_waiting.specs.Waiting.{OneIsFirst}
use Rattle.adm_round.specs.Outcomes.{AllotmentFits, OneAllotment, PosedWithoutFault}
use Rattle.adm_register.specs.declared.difference.Difference.{Difference}
use Rattle.adm_register.specs.State.{State}
use Rattle.adm_register.specs.Change.{after}
use Rattle.adm_register.specs.Fits.{Fit}
use Rattle.adm_register.specs.WellFormed.{WellFormed}
use Rattle.adm_commands.specs.History.{DrawsInOrder, DrawsStay}
use Rattle.adm_commands.specs.Commands.{MakesChange, KeptByTypes, refused}
use Rattle.adm_commands.specs.Rules.{without_row}
use Rattle.adm_commands.proofs.DrawsStay.{unchanged}
use Rattle.adm_commands.proofs.ImportAgain.{ImportsKnown}
use Rattle.adm_commands.proofs.ImportsStay.{ImportsStay, stay_alone}

-- where no row is refused no test fails
pub no_row : (o : Option Refusal) → without_row o ≡ None → o ≡ None
no_row None none = refl
no_row (Some refusal) none = cc

-- what says that rounds and fills have a result
pub record Laws : Type 0 where
  pub some_best : OneBest
  pub faultless : PosedWithoutFault
  pub some_first : OneIsFirst

pub record Shows (command : Command) : Type 0 where
  -- where it is not refused, it changes something, or nothing, and answers
  pub some : Laws → (old : State) → WellFormed old → refused old command ≡ None → (change : Difference) × (reply : Reply) × MakesChange old command change reply
  -- what it changes fits
  pub fits : (old : State) → KeptByTypes command → WellFormed old → AllotmentFits → refused old command ≡ None → (change : Difference) (reply : Reply)
      → MakesChange old command change reply → Fit old change
  -- where it is not refused when it follows itself, it changes nothing more
  pub again : (old new : State) (change : Difference) (reply : Reply) → WellFormed old → refused old command ≡ None → MakesChange old command change reply → new ≡ after old change
      → refused new command ≡ None → (more : Difference) (second : Reply) → MakesChange new command more second → after new more ≡ new
  -- what it changes is one
  pub one_change : OneAllotment → (old : State) (one other : Difference) (first second : Reply) → MakesChange old command one first → MakesChange old command other second → one ≡ other
  -- and so is what it answers
  pub one_reply : OneAllotment → (old : State) (one other : Difference) (first second : Reply) → MakesChange old command one first → MakesChange old command other second → first ≡ second
  -- draws that were made stay
  pub draws : (old new : State) (change : Difference) (reply : Reply) → DrawsInOrder old → refused old command ≡ None → MakesChange old command change reply → new ≡ after old change
      → DrawsInOrder new × DrawsStay old new
  -- and so do imported rows
  pub imports : (old new : State) (change : Difference) (reply : Reply) → ImportsKnown old → refused old command ≡ None → MakesChange old command change reply → new ≡ after old change
      → ImportsKnown new × ImportsStay old new

-- what a command must show that changes just this, is answered by Done, and changes neither draws nor imported rows
pub record ShowsOnly (command : Command) (only : State → Difference) : Type 0 where
  pub done : (old : State) → MakesChange old command (only old) Done
  pub is : (old : State) (change : Difference) (reply : Reply) → MakesChange old command change reply → (change ≡ only old) × (reply ≡ Done)
  pub fits : (old : State) → KeptByTypes command → WellFormed old → refused old command ≡ None → Fit old (only old)
  pub again : (old : State) → WellFormed old → refused old command ≡ None → refused (after old (only old)) command ≡ None
      → after (after old (only old)) (only (after old (only old))) ≡ after old (only old)
  pub no_draw : (old : State) → (only old).draws ≡ []
  pub no_import : (old : State) → (only old).imported ≡ []

pub shows_only : (command : Command) (only : State → Difference) → ShowsOnly command only → Shows command
shows_only command only it = record {
  some = λ laws old well accepted. (only old, Done, it.done old);
  fits = λ old kept well law accepted change reply done. subst (Fit old) (sym (it.is old change reply done).0) (it.fits old kept well accepted);
  again = λ old new change reply well first done is passes more second next.
      let now : new ≡ after old (only old) = is ∙ ap (after old) (it.is old change reply done).0 in
      ap (after new) (it.is new more second next).0 ∙ ap (λ s. after s (only s)) now ∙ it.again old well first (subst (λ s. refused s command ≡ None) now passes) ∙ sym now;
  one_change = λ law old one other first second x y. (it.is old one first x).0 ∙ sym (it.is old other second y).0;
  one_reply = λ law old one other first second x y. (it.is old one first x).1 ∙ sym (it.is old other second y).1;
  draws = λ old new change reply ordered accepted done is. unchanged old new change (ap (λ (c : Difference). c.draws) (it.is old change reply done).0 ∙ it.no_draw old) is ordered;
  imports = λ old new change reply known accepted done is. stay_alone old new change (ap (λ (c : Difference). c.imported) (it.is old change reply done).0 ∙ it.no_import old) is known;
}
