-- The waiting list of a school, line by line. This profile's own form.
use Rattle.std.specs.Prelude.{ℕ, ◌-◌, List, [], ◌∷◌, ◌++◌, codes, decimal, length, map, Option, option_map}
use Rattle.std.specs.FinMap.{get}
use Rattle.adm_types.specs.declared.rows.School.{School}
use Rattle.adm_waiting.specs.declared.lists.Waiting.{Waiting}
use Rattle.adm_register.specs.State.{State}
use Rattle.adm_register.specs.Rows.{places_at}
use Rattle.adm_register.specs.Waits.{list_of}
use Rattle.adm_letters.specs.Lines.{right, lines_text}

-- the school
unfoldable pub list_head : List ℕ → List ℕ → List ℕ
list_head code name = codes "Waiting list of " ++ (code ++ (codes " " ++ name))

-- the names of the columns
unfoldable pub columns : List ℕ
columns = right 5 (codes "Pos") ++ (right 9 (codes "Child") ++ (right 4 (codes "Cls") ++ right 9 (codes "Metres")))

-- a child that waits
unfoldable pub list_row : Waiting → List ℕ
list_row entry = right 5 (decimal entry.position) ++ (right 9 (decimal entry.child) ++ (right 4 (decimal entry.class) ++ right 9 (decimal entry.metres)))

-- how many wait, and how many places remain
unfoldable pub list_foot : ℕ → ℕ → List ℕ
list_foot waiting vacancies = codes "Waiting " ++ (decimal waiting ++ (codes ", vacancies " ++ decimal vacancies))

-- the waiting list of a school with so many places left
unfoldable pub list_lines : School → List Waiting → ℕ → List (List ℕ)
list_lines school waiting vacancies = list_head school.code school.name ∷ columns ∷ (map list_row waiting ++ list_foot (length waiting) vacancies ∷ [])

-- the waiting list of the school of a code, if there is such a school
abbrev pub list_text : State → List ℕ → Option (List ℕ)
list_text s code = option_map (λ school. lines_text (list_lines school (list_of s school) (school.pan - places_at s code))) (get s.schools code)
