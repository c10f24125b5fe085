-- The codes and the numbers by which the rows of a register name its schools and children.
use Rattle.std.proofs.Common.{◌≡◌, ℕ, true, List, [], ◌∷◌, subst}
use Rattle.std.specs.Prelude.{◌&&◌}
use Rattle.std.specs.List.{list_all}
use Rattle.std.specs.FinMap.{FinMap, contains_key}
use Rattle.std.proofs.lemmas.Bool.{and_parts}
use Rattle.adm_types.specs.Code.{is_code}
use Rattle.adm_types.specs.Limits.{is_child_number}
use Rattle.adm_types.specs.declared.seasons.Size.{Size}
use Rattle.adm_types.specs.declared.rows.School.{School}
use Rattle.adm_types.specs.Limits.{code_cmp}
use Rattle.adm_register.specs.State.{State as Register}
use Rattle.adm_register.specs.WellFormed.{WellFormed, AllRows, SchoolFits, are_schools}
use Rattle.adm_rows.proofs.MapRows.{row_there}

-- the code of a school that is there is a code
pub code_there : {size : Size} (schools : FinMap code_cmp School) → AllRows (SchoolFits size) schools → (code : List ℕ) → contains_key schools code ≡ true → is_code code ≡ true
code_there schools fit code there =
    let row = row_there schools code there in
    let fits = fit code row.0 row.1 in
    subst (λ c. is_code c ≡ true) fits.own_code fits.code_form

pub codes_there : {size : Size} (schools : FinMap code_cmp School) → AllRows (SchoolFits size) schools → (codes : List (List ℕ)) → are_schools schools codes ≡ true → list_all is_code codes ≡ true
codes_there schools fit [] there = there
codes_there schools fit (code ∷ codes) there =
    let parts = and_parts (contains_key schools code) (list_all (contains_key schools) codes) there in
    λ k. (code_there schools fit code parts.0 k) && (codes_there schools fit codes parts.1 k)

-- the number of a child that is there is a child's
pub number_there : (r : Register) → WellFormed r → (number : ℕ) → contains_key r.children number ≡ true → is_child_number number ≡ true
number_there r formed number there =
    let row = row_there r.children number there in
    let fits = formed.base.children_fit number row.0 row.1 in
    subst (λ n. is_child_number n ≡ true) fits.own_number fits.number_form
