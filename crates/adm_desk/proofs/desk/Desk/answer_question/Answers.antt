use Rattle.std.proofs.Common.{◌≡◌, List, ℕ, Bool, true, false, Some, None, Ok, refl, sym, subst}
use Rattle.std.specs.Prelude.{if◌then◌else◌}
use Rattle.std.proofs.lemmas.Option.{none-some, same_Some}
use Rattle.adm_wire.specs.WhatIfs.{what_if_of}
use Rattle.adm_wire.specs.declared.what_if.WhatIf.{WhatIf}
use Rattle.adm_register.specs.State.{State as Register}
use Rattle.adm_desk.specs.Questions.{AnswersQuestion, AnswersWhatIf}
use Rattle.adm_desk.specs.DeskState.{DeskState}
use Rattle.adm_desk.specs.declared.answer.LineAnswer.TheVariants.{Queried}
use Rattle.adm_desk.specs.declared.answer.WhatIfAnswer.{WhatIfAnswer}
use Rattle.adm_desk.specs.declared.answer.WhatIfAnswer.TheVariants.{School, Unanswered, Failed}
use Rattle.adm_desk.proofs.desk.Desk.answer_question.Goals as goal

-- a desk that shows its register has not failed
shown : {C : Type 0} (desk : DeskState C) (register : Register) → Some register ≡ (if desk.failed then None else Some desk.register) → (desk.failed ≡ false) × (register ≡ desk.register)
shown desk register is = by desk.failed refl is
  where
    by : (b : Bool) → desk.failed ≡ b → Some register ≡ (if b then None else Some desk.register) → (desk.failed ≡ false) × (register ≡ desk.register)
    by true failed is = absurd (none-some register (sym is))
    by false alive is = (alive, same_Some register desk.register is)

-- the answer of the desk is that of its register
what_if_answered : {C : Type 0} (desk : DeskState C) (bytes : List ℕ) (asked : WhatIf) (what_if_answer : WhatIfAnswer) → desk.failed ≡ false → what_if_of bytes ≡ Ok asked → AnswersQuestion desk.register asked what_if_answer → AnswersWhatIf desk bytes (Queried what_if_answer)
what_if_answered desk bytes asked (School school) alive asks is = (alive, (asked, asks, is))
what_if_answered desk bytes asked (Unanswered why) alive asks is = (alive, (asked, asks, is))
what_if_answered desk bytes asked Failed alive asks is = absurd is

pub returns : goal.returns
returns g c =
    let here = shown c.args.self.now c.in-Some.register.now c.in-Some.ensures.register in
    what_if_answered c.args.self.now c.args.bytes.now c.in-Ok.asked c.what_if_answer.result here.0 c.in-Ok.ensures (subst (λ (r : Register). AnswersQuestion r c.in-Ok.asked c.what_if_answer.result) here.1 c.what_if_answer.ensures)
