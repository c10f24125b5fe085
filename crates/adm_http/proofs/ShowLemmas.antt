-- What is shown of a desk.
use Rattle.std.proofs.Common.{◌≡◌, ℕ, List, Option, Some, None, Result, Ok, Err, refl, sym, ap, ◌∙◌}
use Rattle.std.specs.Prelude.{IfOk, option_map, string_bytes}
use Rattle.std.specs.declared.alloc.AllocError.{AllocError}
use Rattle.std.specs.declared.string.String.{String}
use Rattle.serde_json.specs.Data.{Data}
use Rattle.serde_json.specs.Written.{compact_text}
use Rattle.adm_types.specs.declared.draws.Draw.{Draw}
use Rattle.adm_register.specs.State.{State}
use Rattle.adm_letters.specs.Answers.{GivesText}
use Rattle.adm_letters.specs.declared.fault.LetterFault.{LetterFault}
use Rattle.adm_letters.specs.declared.fault.LetterFault.TheVariants as letter
use Rattle.adm_view.specs.Answers.{GivesText as GivesDraw, GivesEntry}
use Rattle.adm_view.specs.Draws.{draw_data_with_lots}
use Rattle.adm_view.specs.declared.fault.ViewFault.{ViewFault}
use Rattle.adm_http.specs.Shows.{IsShown, IsShownAs, IsMadeAs, IsDrawAs, IsEntryAs}
use Rattle.adm_http.specs.declared.request_handler.ShowResult.{ShowResult}
use Rattle.adm_http.specs.declared.request_handler.ShowResult.TheVariants.{Text, Missing, Memory, Failed}

-- what was given is shown
pub given_shown : {A : Type 0} (text : Option (List ℕ)) (fault : LetterFault) (given : Result (String A) LetterFault) (shown : ShowResult)
    → (fault ≡ letter.Memory → ⊥) → GivesText text fault given → IsShownAs given shown → IsShown text shown
given_shown (Some text) fault (Ok given) (Text made) other gives is = ap Some (sym gives ∙ sym is)
given_shown None fault (Ok given) (Text made) other gives is = absurd gives
given_shown text fault (Ok given) Missing other gives is = absurd is
given_shown text fault (Ok given) Memory other gives is = absurd is
given_shown text fault (Ok given) Failed other gives is = absurd is
given_shown text fault (Err e) (Text made) other gives is = absurd is
given_shown (Some text) fault (Err e) Missing other gives is = absurd (is gives)
given_shown None fault (Err e) Missing other gives is = refl
given_shown (Some text) fault (Err e) Memory other gives is = (text, refl)
given_shown None fault (Err e) Memory other gives is = absurd (other (sym gives ∙ is))
given_shown text fault (Err e) Failed other gives is = absurd is

-- the same of a text that is made unless memory runs out
pub always_shown : {A : Type 0} (text : List ℕ) (given : Result (String A) AllocError) (shown : ShowResult)
    → IfOk given (λ made. string_bytes made ≡ text) → IsMadeAs given shown → IsShown (Some text) shown
always_shown text (Ok given) (Text made) gives is = ap Some (sym gives ∙ sym is)
always_shown text (Ok given) Missing gives is = absurd is
always_shown text (Ok given) Memory gives is = absurd is
always_shown text (Ok given) Failed gives is = absurd is
always_shown text (Err e) (Text made) gives is = absurd is
always_shown text (Err e) Missing gives is = absurd is
always_shown text (Err e) Memory gives is = (text, refl)
always_shown text (Err e) Failed gives is = absurd is

-- the same of the text of a draw
pub draw_shown : {A : Type 0} (s : State) (wanted : Option Draw) (given : Result (String A) ViewFault) (shown : ShowResult)
    → GivesDraw (option_map (draw_data_with_lots s) wanted) given → IsDrawAs given shown
    → IsShown (option_map (λ draw. compact_text (draw_data_with_lots s draw)) wanted) shown
draw_shown s (Some draw) (Ok given) (Text made) gives is = ap Some (sym gives ∙ sym is)
draw_shown s None (Ok given) (Text made) gives is = absurd gives
draw_shown s wanted (Ok given) Missing gives is = absurd is
draw_shown s wanted (Ok given) Memory gives is = absurd is
draw_shown s wanted (Ok given) Failed gives is = absurd is
draw_shown s wanted (Err e) (Text made) gives is = absurd is
draw_shown s (Some draw) (Err e) Missing gives is = absurd (cc (sym gives ∙ is))
draw_shown s None (Err e) Missing gives is = refl
draw_shown s (Some draw) (Err e) Memory gives is = (compact_text (draw_data_with_lots s draw), refl)
draw_shown s None (Err e) Memory gives is = absurd (cc (sym gives ∙ is))
draw_shown s wanted (Err e) Failed gives is = absurd is

-- the same of the text of an entry
pub entry_shown : {A : Type 0} (wanted : Option Data) (given : Result (Option (String A)) AllocError) (shown : ShowResult)
    → GivesEntry wanted given → IsEntryAs given shown → IsShown (option_map compact_text wanted) shown
entry_shown (Some found) (Ok (Some given)) (Text made) gives is = ap Some (sym gives ∙ sym is)
entry_shown None (Ok (Some given)) (Text made) gives is = absurd gives
entry_shown wanted (Ok (Some given)) Missing gives is = absurd is
entry_shown wanted (Ok (Some given)) Memory gives is = absurd is
entry_shown wanted (Ok (Some given)) Failed gives is = absurd is
entry_shown wanted (Ok None) (Text made) gives is = absurd is
entry_shown (Some found) (Ok None) Missing gives is = absurd gives
entry_shown None (Ok None) Missing gives is = refl
entry_shown wanted (Ok None) Memory gives is = absurd is
entry_shown wanted (Ok None) Failed gives is = absurd is
entry_shown wanted (Err e) (Text made) gives is = absurd is
entry_shown wanted (Err e) Missing gives is = absurd is
entry_shown (Some found) (Err e) Memory gives is = (compact_text found, refl)
entry_shown None (Err e) Memory gives is = absurd gives
entry_shown wanted (Err e) Failed gives is = absurd is
