use Rattle.std.proofs.lemmas.Result.{IfOk-weaker}
use Rattle.std.proofs.Common.{◌∷◌, []}
use Rattle.adm_days.specs.Days.{day_text}
use Rattle.adm_letters.specs.LetterLines.{reminded_line, withdrawal_line}
use Rattle.adm_letters.proofs.Joined.{then_lines}
use Rattle.adm_letters.proofs.letters.put_reminded.Goals as goal

pub returns : goal.returns
returns c =
    let reminded = day_text c.args.reminded in
    IfOk-weaker c.withdrawal_line.result _ _
    (λ _ last. then_lines _ _ _ (reminded_line c.args.code.now c.args.name.now c.args.day.now reminded ∷ []) (withdrawal_line reminded ∷ [])
    (rw (c.as_str.ensures.value, c.day_text-reminded.ensures) at c.in_ok-reminded_line.ensures) (rw (c.as_str-2.ensures.value, c.day_text-reminded.ensures) at last))
    c.withdrawal_line.ensures
