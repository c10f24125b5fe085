-- The lines of a letter to a child. This profile's own form.
use Rattle.std.specs.Prelude.{ℕ, List, ◌++◌, codes, decimal}
use Rattle.adm_types.specs.declared.seasons.Phase.{Phase}
use Rattle.adm_types.specs.declared.seasons.Phase.TheVariants.{Primary, Secondary}
use Rattle.adm_waiting.specs.declared.lists.Waiting.{Waiting}

-- the name of a phase
abbrev pub phase_text : Phase → List ℕ
phase_text Primary = codes "primary"
phase_text Secondary = codes "secondary"

-- the entry year and the phase
unfoldable pub head_line : ℕ → List ℕ → List ℕ
head_line year phase = codes "Admission " ++ (decimal year ++ (codes " " ++ phase))

-- the line of the child: its number and its name
unfoldable pub child_line : ℕ → List ℕ → List ℕ
child_line number name = codes "Child " ++ (decimal number ++ (codes " " ++ name))

-- a child without a place
unfoldable pub no_place : List ℕ
no_place = codes "Place: none"

-- an offer, from its day on
unfoldable pub offered_line : List ℕ → List ℕ → List ℕ → List ℕ
offered_line code name day = codes "Place: " ++ (code ++ (codes " " ++ (name ++ (codes ", offered " ++ day))))

-- an offer of which the child was reminded
unfoldable pub reminded_line : List ℕ → List ℕ → List ℕ → List ℕ → List ℕ
reminded_line code name day reminded = codes "Place: " ++ (code ++ (codes " " ++ (name ++ (codes ", offered " ++ (day ++ (codes ", reminded " ++ reminded))))))

-- the line of an accepted place: the school's code and name
unfoldable pub accepted_line : List ℕ → List ℕ → List ℕ
accepted_line code name = codes "Place: " ++ (code ++ (codes " " ++ (name ++ codes ", accepted")))

-- the place of a plan
unfoldable pub plan_line : List ℕ → List ℕ → List ℕ
plan_line code name = codes "Place: " ++ (code ++ (codes " " ++ (name ++ codes ", plan")))

-- what may come after a reminder
unfoldable pub withdrawal_line : List ℕ → List ℕ
withdrawal_line reminded = codes "The offer may be withdrawn 14 days after " ++ (reminded ++ codes " if it is not answered.")

-- the child's entry on the waiting list of the school, where so many wait
unfoldable pub waiting_line : List ℕ → List ℕ → Waiting → ℕ → List ℕ
waiting_line code name entry waiting =
    codes "Waiting: " ++ (code ++ (codes " " ++ (name ++ (codes ", position " ++ (decimal entry.position ++ (codes " of " ++ (decimal waiting
    ++ (codes ", class " ++ (decimal entry.class ++ (codes ", " ++ (decimal entry.metres ++ codes " metres")))))))))))

-- a child that waits at no school
unfoldable pub waits_nowhere : List ℕ
waits_nowhere = codes "Waiting: nowhere"
