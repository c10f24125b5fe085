-- What a child would have by another list of its wanted schools, in the next round on a register (this profile).
use Rattle.std.specs.Prelude.{ℕ, List, Option, None, Some, option_map}
use Rattle.adm_match.specs.Market.{Code}
use Rattle.adm_match.specs.Relisting.{what_if_fault}
use Rattle.adm_match.specs.declared.what_ifs.WhatIfFault.{WhatIfFault}
use Rattle.adm_match.specs.declared.what_ifs.WhatIfFault.TheVariants as list
use Rattle.adm_register.specs.State.{State}
use Rattle.adm_commands.specs.Problem.{lots_fault}
use Rattle.adm_commands.specs.Commands.Round.{round_market}
use Rattle.adm_commands.specs.declared.problems.DrawFault.{DrawFault}
use Rattle.adm_commands.specs.declared.problems.DrawFault.TheVariants as draw
use Rattle.adm_commands.specs.declared.what_ifs.QuestionFault.{QuestionFault}
use Rattle.adm_commands.specs.declared.what_ifs.QuestionFault.TheVariants.{LotCount, LotsRepeated, UnknownChild, NotItsSchools, Memory}

-- why there is no answer, where the lots pose no problem
abbrev pub by_lots : DrawFault → QuestionFault
by_lots draw.LotCount = LotCount
by_lots draw.LotsRepeated = LotsRepeated
by_lots draw.Memory = Memory

-- why there is no answer, where the child may not list the schools
abbrev pub by_list : WhatIfFault → QuestionFault
by_list list.UnknownChild = UnknownChild
by_list list.NotItsSchools = NotItsSchools
by_list list.Memory = Memory

-- the lots are tested before the list
abbrev pub first_question_fault : Option DrawFault → Option WhatIfFault → Option QuestionFault
first_question_fault None fault = option_map by_list fault
first_question_fault (Some fault) later = Some (by_lots fault)

-- The first of these tests that fails: there is one lot for each pair; at no school two lots are equal; the child is an entrant of
-- the problem; and it wants each of the schools, none of which is repeated. A tenant does not want its own school.
abbrev pub question_fault : State → ℕ → List ℕ → List Code → Option QuestionFault
question_fault s child numbers schools = first_question_fault (lots_fault s numbers) (what_if_fault (round_market s numbers) child schools)
