-- Each route: what the router finds for its targets.
use Rattle.std.proofs.Common.{◌≡◌, ℕ, ◌==◌, List, [], ◌∷◌, ◌++◌, Some, None, Bool, true, false, cond, refl, sym, ap, ◌∙◌, lit<, codes}
use Rattle.matchit.specs.Rows.{Rows, RowsOf, prepend, param_token}
use Rattle.matchit.specs.Seek.{first, cuts, longest_suffix}
use Rattle.matchit.specs.Router.{RouteOf, map_key}
use Rattle.matchit.proofs.RenameLemmas.{first-rename}
use Rattle.adm_http.specs.Routes.{Found, at_end, with_part, child_after, route_of, row_of, all_routes}
use Rattle.adm_http.specs.declared.routes.Route.{Route}
use Rattle.adm_http.specs.declared.routes.Route.TheVariants.{Command, Import, Child, Letter, Pairs, SchoolPairs, Waiting, Round, WhatIf, Register, Draw, RegisterChild, RegisterSchool}
use Rattle.adm_http.proofs.RowLemmas.{text_by_test}
use Rattle.adm_http.proofs.FindLemmas.{IsBytes, key_of, ends, part_ends, suffix_ends, either_ends, last_found, next_found}

-- ---- a number for each route, and its row

abbrev key : Route → ℕ
key Letter = 0
key Child = 1
key Command = 2
key Round = 3
key Waiting = 4
key WhatIf = 5
key Pairs = 6
key SchoolPairs = 7
key Import = 8
key Register = 9
key Draw = 10
key RegisterChild = 11
key RegisterSchool = 12

abbrev pub route_row : Route → RouteOf Route
route_row route = (row_of route).1

row_at : ℕ → RouteOf Route
row_at k =
    cond (k == 0) (route_row Letter)
    (cond (k == 1) (route_row Child)
    (cond (k == 2) (route_row Command)
    (cond (k == 3) (route_row Round)
    (cond (k == 4) (route_row Waiting)
    (cond (k == 5) (route_row WhatIf)
    (cond (k == 6) (route_row Pairs)
    (cond (k == 7) (route_row SchoolPairs)
    (cond (k == 8) (route_row Import)
    (cond (k == 9) (route_row Register)
    (cond (k == 10) (route_row Draw)
    (cond (k == 11) (route_row RegisterChild)
    (route_row RegisterSchool))))))))))))

own_row : (r : Route) → r ≡ (route_row r).value
own_row Letter = refl
own_row Child = refl
own_row Command = refl
own_row Round = refl
own_row Waiting = refl
own_row WhatIf = refl
own_row Pairs = refl
own_row SchoolPairs = refl
own_row Import = refl
own_row Register = refl
own_row Draw = refl
own_row RegisterChild = refl
own_row RegisterSchool = refl

row_of_key : (r : Route) → row_at (key r) ≡ route_row r
unfolding row_at
row_of_key Letter = refl
row_of_key Child = refl
row_of_key Command = refl
row_of_key Round = refl
row_of_key Waiting = refl
row_of_key WhatIf = refl
row_of_key Pairs = refl
row_of_key SchoolPairs = refl
row_of_key Import = refl
row_of_key Register = refl
row_of_key Draw = refl
row_of_key RegisterChild = refl
row_of_key RegisterSchool = refl

-- ---- what is found

abbrev child_rows : Rows
child_rows = (codes "/letter", key Letter) ∷ ([], key Child) ∷ []

longest_child : (seg : List ℕ) (v : Bool) → cuts seg (47 ∷ []) ≡ v → longest_suffix seg child_rows ≡ cond v (47 ∷ []) []
longest_child seg true e = rw e refl
longest_child seg false e = rw e refl

abbrev school_rows : Rows
school_rows = (codes "/waiting", key Waiting) ∷ []

longest_school : (seg : List ℕ) (v : Bool) → cuts seg (47 ∷ []) ≡ v → longest_suffix seg school_rows ≡ cond v (47 ∷ []) []
longest_school seg true e = rw e refl
longest_school seg false e = rw e refl

-- the rows from the last group on
abbrev question_rows : Rows
question_rows = prepend (codes "/what-if") (([], key WhatIf) ∷ [])

abbrev from_school : Rows
from_school = prepend (codes "/school/") (prepend (param_token ∷ []) school_rows) ++ question_rows

abbrev from_round : Rows
from_round = prepend (codes "/round/") (prepend (param_token ∷ []) (([], key Round) ∷ [])) ++ from_school

abbrev from_register : Rows
from_register = prepend (codes "/register") (([], key Register) ∷ []) ++ from_round

abbrev from_register_school : Rows
from_register_school = prepend (codes "/register/school/") (prepend (param_token ∷ []) (([], key RegisterSchool) ∷ [])) ++ from_register

abbrev from_register_child : Rows
from_register_child = prepend (codes "/register/child/") (prepend (param_token ∷ []) (([], key RegisterChild) ∷ [])) ++ from_register_school

abbrev from_pairs : Rows
from_pairs = prepend (codes "/pairs") (([], key Pairs) ∷ []) ++ from_register_child

abbrev from_school_pairs : Rows
from_school_pairs = prepend (codes "/pairs/") (prepend (param_token ∷ []) (([], key SchoolPairs) ∷ [])) ++ from_pairs

abbrev from_import : Rows
from_import = prepend (codes "/import") (([], key Import) ∷ []) ++ from_school_pairs

abbrev from_draw : Rows
from_draw = prepend (codes "/draw/") (prepend (param_token ∷ []) (([], key Draw) ∷ [])) ++ from_import

abbrev from_command : Rows
from_command = prepend (codes "/command") (([], key Command) ∷ []) ++ from_draw

abbrev all_rows : Rows
all_rows = prepend (codes "/child/") (prepend (param_token ∷ []) child_rows) ++ from_command

all_found : (t : List ℕ) → IsBytes t → first all_rows t ≡ key_of key (route_of t)
unfolding route_of
all_found t small =
    next_found key t small (codes "/child/") (prepend (param_token ∷ []) child_rows) from_command child_after _
    (text_by_test (codes "/child/") refl) (lit< tt, refl, refl, (lit< tt, refl, refl, (lit< tt, refl, refl, tt)))
    (either_ends key child_rows Letter (codes "letter") (text_by_test (codes "/letter") refl) longest_child refl Child refl)
    (next_found key t small (codes "/command") (([], key Command) ∷ []) from_draw (at_end Command) _
    (text_by_test (codes "/command") refl) (lit< tt, refl, refl, (lit< tt, refl, refl, tt)) (ends key Command)
    (next_found key t small (codes "/draw/") (prepend (param_token ∷ []) (([], key Draw) ∷ [])) from_import (with_part Draw []) _
    (text_by_test (codes "/draw/") refl) (lit< tt, refl, refl, (lit< tt, refl, refl, tt)) (part_ends key Draw)
    (next_found key t small (codes "/import") (([], key Import) ∷ []) from_school_pairs (at_end Import) _
    (text_by_test (codes "/import") refl) (lit< tt, refl, refl, (lit< tt, refl, refl, tt)) (ends key Import)
    (next_found key t small (codes "/pairs/") (prepend (param_token ∷ []) (([], key SchoolPairs) ∷ [])) from_pairs (with_part SchoolPairs []) _
    (text_by_test (codes "/pairs/") refl)
    (lit< tt, refl, refl, (lit< tt, refl, refl, (lit< tt, refl, refl, (lit< tt, refl, refl, (lit< tt, refl, refl, (lit< tt, refl, refl, (lit< tt, refl, refl, tt)))))))
    (part_ends key SchoolPairs)
    (next_found key t small (codes "/pairs") (([], key Pairs) ∷ []) from_register_child (at_end Pairs) _
    (text_by_test (codes "/pairs") refl) (lit< tt, refl, refl, (lit< tt, refl, refl, tt)) (ends key Pairs)
    (next_found key t small (codes "/register/child/") (prepend (param_token ∷ []) (([], key RegisterChild) ∷ [])) from_register_school (with_part RegisterChild []) _
    (text_by_test (codes "/register/child/") refl) (
      lit< tt,
      refl,
      refl,
      (
        lit< tt,
        refl,
        refl,
        (
          lit< tt,
          refl,
          refl,
          (
            lit< tt,
            refl,
            refl,
            (
              lit< tt,
              refl,
              refl,
              (
                lit< tt,
                refl,
                refl,
                (lit< tt, refl, refl, (lit< tt, refl, refl, (lit< tt, refl, refl, (lit< tt, refl, refl, (lit< tt, refl, refl, tt))))),
              ),
            ),
          ),
        ),
      ),
    )
    (part_ends key RegisterChild)
    (next_found key t small (codes "/register/school/") (prepend (param_token ∷ []) (([], key RegisterSchool) ∷ [])) from_register (with_part RegisterSchool []) _
    (text_by_test (codes "/register/school/") refl) (
      lit< tt,
      refl,
      refl,
      (
        lit< tt,
        refl,
        refl,
        (
          lit< tt,
          refl,
          refl,
          (
            lit< tt,
            refl,
            refl,
            (
              lit< tt,
              refl,
              refl,
              (
                lit< tt,
                refl,
                refl,
                (lit< tt, refl, refl, (lit< tt, refl, refl, (lit< tt, refl, refl, (lit< tt, refl, refl, tt)))),
              ),
            ),
          ),
        ),
      ),
    )
    (part_ends key RegisterSchool)
    (next_found key t small (codes "/register") (([], key Register) ∷ []) from_round (at_end Register) _
    (text_by_test (codes "/register") refl) (lit< tt, refl, refl, (lit< tt, refl, refl, (lit< tt, refl, refl, tt))) (ends key Register)
    (next_found key t small (codes "/round/") (prepend (param_token ∷ []) (([], key Round) ∷ [])) from_school (with_part Round []) _
    (text_by_test (codes "/round/") refl) (lit< tt, refl, refl, (lit< tt, refl, refl, tt)) (part_ends key Round)
    (next_found key t small (codes "/school/") (prepend (param_token ∷ []) school_rows) question_rows (with_part Waiting (codes "/waiting")) _
    (text_by_test (codes "/school/") refl) (lit< tt, refl, refl, (lit< tt, refl, refl, tt))
    (suffix_ends key school_rows Waiting (codes "waiting") (text_by_test (codes "/waiting") refl) longest_school refl refl)
    (last_found key t small (codes "/what-if") (([], key WhatIf) ∷ []) (at_end WhatIf) (text_by_test (codes "/what-if") refl) (ends key WhatIf))))))))))))

every_found : (t : List ℕ) → IsBytes t → first all_routes t ≡ map_key row_at (key_of key (route_of t))
unfolding all_routes row_at
every_found t small = first-rename row_at all_rows t ∙ ap (map_key row_at) (all_found t small)

pub none_found : (t : List ℕ) (rows : RowsOf (RouteOf Route)) → IsBytes t → rows ≡ all_routes → first rows t ≡ None → None ≡ route_of t
none_found t rows small all none = by (route_of t) (sym (every_found t small) ∙ ap (λ r. first r t) (sym all) ∙ none)
  where
    by : (f : Found) → map_key row_at (key_of key f) ≡ None → None ≡ f
    by None e = refl
    by (Some x) e = absurd (cc e)

-- the route of a target, the part that its parameter takes, and its row
pub record IsFound (t : List ℕ) (found : RouteOf Route) : Type 0 where
  pub part : List ℕ
  pub route_is : route_of t ≡ Some (found.value, part)
  pub row_is : found ≡ route_row found.value

pub some_found : (t : List ℕ) (rows : RowsOf (RouteOf Route)) (found : RouteOf Route) → IsBytes t → rows ≡ all_routes → first rows t ≡ Some found
    → IsFound t found
some_found t rows found small all some = by (route_of t) refl (sym (every_found t small) ∙ ap (λ r. first r t) (sym all) ∙ some)
  where
    by : (f : Found) → route_of t ≡ f → map_key row_at (key_of key f) ≡ Some found → IsFound t found
    by None is e = absurd (cc e)
    by (Some x) is e =
        let same : route_row x.0 ≡ found = sym (row_of_key x.0) ∙ cc e in
        let value : x.0 ≡ found.value = own_row x.0 ∙ ap (λ (y : RouteOf Route). y.value) same in
        record { part = x.1; route_is = is ∙ ap (λ r. Some (r, x.1)) value; row_is = sym same ∙ ap route_row value }
