-- What the parameter of a route takes of a target.
use Rattle.std.proofs.Common.{◌≡◌, ℕ, List, [], ◌∷◌, ◌⊎◌, inl, inr, ⊎_elim, Some, refl, sym, ap, ◌∙◌, subst, codes, option_and_then}
use Rattle.std.specs.Prelude.{IsUtf8}
use Rattle.matchit.specs.Params.{walk}
use Rattle.matchit.specs.Rows.{RowsOf}
use Rattle.matchit.specs.Seek.{first}
use Rattle.matchit.specs.Router.{RouteOf}
use Rattle.adm_http.specs.Routes.{after_prefix, Found, or_found, at_end, with_part, child_after, route_of, all_routes}
use Rattle.adm_http.specs.declared.routes.Route.{Route}
use Rattle.adm_http.specs.declared.routes.Route.TheVariants.{Command, Import, Child, Letter, Pairs, SchoolPairs, Waiting, Round, WhatIf, Register, Draw, RegisterChild, RegisterSchool}
use Rattle.adm_http.proofs.FindLemmas.{IsBytes}
use Rattle.adm_http.proofs.FormLemmas.{Takes, takes_end, takes_suffix, of_either, under, under_either, under_end}
use Rattle.adm_http.proofs.RouteLemmas.{route_row, IsFound, some_found}

-- the part that a found route takes: nothing where it names none
abbrev TakesPart : Route × List ℕ → List ℕ → Type 0
TakesPart x t = (((route_row x.0).names ≡ []) × (x.1 ≡ [])) ⊎ Takes (route_row x.0) t x.1

takes_part : (t : List ℕ) (x : Route × List ℕ) → IsUtf8 t → route_of t ≡ Some x → TakesPart x t
unfolding route_of
takes_part t x text e =
    of_either a from_b x child
    (of_either b from_m x command (of_either m from_j x draw (of_either j from_i x rows_import (of_either i from_g x school_pairs
    (of_either g from_k x pairs (of_either k from_l x register_child (of_either l from_n x register_school (of_either n from_d x register
    (of_either d from_f x round (of_either f h x school question)))))))))) e
  where
    a : Found
    a = option_and_then child_after (after_prefix (codes "/child/") t)

    b : Found
    b = option_and_then (at_end Command) (after_prefix (codes "/command") t)

    d : Found
    d = option_and_then (with_part Round []) (after_prefix (codes "/round/") t)

    f : Found
    f = option_and_then (with_part Waiting (codes "/waiting")) (after_prefix (codes "/school/") t)

    g : Found
    g = option_and_then (at_end Pairs) (after_prefix (codes "/pairs") t)

    j : Found
    j = option_and_then (at_end Import) (after_prefix (codes "/import") t)

    i : Found
    i = option_and_then (with_part SchoolPairs []) (after_prefix (codes "/pairs/") t)

    h : Found
    h = option_and_then (at_end WhatIf) (after_prefix (codes "/what-if") t)

    m : Found
    m = option_and_then (with_part Draw []) (after_prefix (codes "/draw/") t)

    k : Found
    k = option_and_then (with_part RegisterChild []) (after_prefix (codes "/register/child/") t)

    l : Found
    l = option_and_then (with_part RegisterSchool []) (after_prefix (codes "/register/school/") t)

    n : Found
    n = option_and_then (at_end Register) (after_prefix (codes "/register") t)

    from_f : Found
    from_f = or_found f h

    from_d : Found
    from_d = or_found d from_f

    from_n : Found
    from_n = or_found n from_d

    from_l : Found
    from_l = or_found l from_n

    from_k : Found
    from_k = or_found k from_l

    from_g : Found
    from_g = or_found g from_k

    from_i : Found
    from_i = or_found i from_g

    from_j : Found
    from_j = or_found j from_i

    from_m : Found
    from_m = or_found m from_j

    from_b : Found
    from_b = or_found b from_m

    back : (r : Route) → x.0 ≡ r → Takes (route_row r) t x.1 → TakesPart x t
    back r is takes = inr (subst (λ k. Takes (route_row k) t x.1) (sym is) takes)

    unnamed : (r : Route) → (route_row r).names ≡ [] → x ≡ (r, []) → TakesPart x t
    unnamed r none is =
        inl (subst (λ k. (route_row k).names ≡ []) (sym (ap (λ (y : Route × List ℕ). y.0) is)) none, ap (λ (y : Route × List ℕ). y.1) is)

    child : a ≡ Some x → TakesPart x t
    child e =
        ⊎_elim
        (λ l. back Letter l.route_is (takes_suffix Letter (codes "/child/") (codes "/child/{no}/letter") (8, 10) refl refl (codes "letter") refl t x.1 text l.target_is l.flat))
        (λ r. back Child r.route_is (takes_end Child (codes "/child/") (codes "/child/{no}") (8, 10) refl refl t x.1 text r.target_is))
        (under_either Letter Child (codes "/child/") (codes "/letter") t x e)

    command : b ≡ Some x → TakesPart x t
    command e = unnamed Command refl (under_end Command (codes "/command") t x e)

    rows_import : j ≡ Some x → TakesPart x t
    rows_import e = unnamed Import refl (under_end Import (codes "/import") t x e)

    pairs : g ≡ Some x → TakesPart x t
    pairs e = unnamed Pairs refl (under_end Pairs (codes "/pairs") t x e)

    school_pairs : i ≡ Some x → TakesPart x t
    school_pairs e =
        let is = under SchoolPairs (codes "/pairs/") [] t x e in
        back SchoolPairs is.route_is (takes_end SchoolPairs (codes "/pairs/") (codes "/pairs/{code}") (8, 12) refl refl t x.1 text is.target_is)

    register : n ≡ Some x → TakesPart x t
    register e = unnamed Register refl (under_end Register (codes "/register") t x e)

    register_child : k ≡ Some x → TakesPart x t
    register_child e =
        let is = under RegisterChild (codes "/register/child/") [] t x e in
        back RegisterChild is.route_is
        (takes_end RegisterChild (codes "/register/child/") (codes "/register/child/{no}") (17, 19) refl refl t x.1 text is.target_is)

    register_school : l ≡ Some x → TakesPart x t
    register_school e =
        let is = under RegisterSchool (codes "/register/school/") [] t x e in
        back RegisterSchool is.route_is
        (takes_end RegisterSchool (codes "/register/school/") (codes "/register/school/{code}") (18, 22) refl refl t x.1 text is.target_is)

    draw : m ≡ Some x → TakesPart x t
    draw e =
        let is = under Draw (codes "/draw/") [] t x e in
        back Draw is.route_is (takes_end Draw (codes "/draw/") (codes "/draw/{no}") (7, 9) refl refl t x.1 text is.target_is)

    question : h ≡ Some x → TakesPart x t
    question e = unnamed WhatIf refl (under_end WhatIf (codes "/what-if") t x e)

    round : d ≡ Some x → TakesPart x t
    round e =
        let is = under Round (codes "/round/") [] t x e in
        back Round is.route_is (takes_end Round (codes "/round/") (codes "/round/{no}") (8, 10) refl refl t x.1 text is.target_is)

    school : f ≡ Some x → TakesPart x t
    school e =
        let is = under Waiting (codes "/school/") (codes "/waiting") t x e in
        back Waiting is.route_is
        (takes_suffix Waiting (codes "/school/") (codes "/school/{code}/waiting") (9, 13) refl refl (codes "waiting") refl t x.1 text is.target_is is.flat)

-- what the first parameter of a match gave
abbrev pub Gave : List (List ℕ × List ℕ) → List ℕ → Type 0
Gave walked part =
    ((walked ≡ []) × (part ≡ []))
    ⊎ ((p : List ℕ × List ℕ) × (rest : List (List ℕ × List ℕ)) × (walked ≡ p ∷ rest) × (IsUtf8 p.1 → part ≡ p.1))

pub found_part : (t : List ℕ) (rows : RowsOf (RouteOf Route)) (found : RouteOf Route) (walked : List (List ℕ × List ℕ)) (part : List ℕ)
    → IsUtf8 t → IsBytes t → rows ≡ all_routes → first rows t ≡ Some found
    → walked ≡ walk found.pattern found.text t found.names 0 0 → Gave walked part → Some (found.value, part) ≡ route_of t
found_part t rows found walked part text small all some walked_is gave =
    ap (λ l. Some (found.value, l)) (⊎_elim none taken (takes_part t (found.value, is.part) text is.route_is)) ∙ sym is.route_is
  where
    is : IsFound t found
    is = some_found t rows found small all some

    by_row : (r : RouteOf Route) → found ≡ r → walked ≡ walk r.pattern r.text t r.names 0 0
    by_row r e = walked_is ∙ ap (λ (x : RouteOf Route). walk x.pattern x.text t x.names 0 0) e

    none : ((route_row found.value).names ≡ []) × (is.part ≡ []) → part ≡ is.part
    none c =
        let empty : walked ≡ [] =
        by_row (route_row found.value) is.row_is ∙ ap (λ names. walk (route_row found.value).pattern (route_row found.value).text t names 0 0) c.0 in
        ⊎_elim (λ l. l.1 ∙ sym c.1) (λ r. absurd (cc (empty, r.2))) gave

    taken : Takes (route_row found.value) t is.part → part ≡ is.part
    taken takes =
        let one = by_row (route_row found.value) is.row_is ∙ takes.1 in
        ⊎_elim (λ l. absurd (cc (one, l.0))) (λ r. by_pair r.0 r.1 (sym r.2 ∙ one) takes.2 r.3) gave
      where
        by_pair : (p : List ℕ × List ℕ) (rest : List (List ℕ × List ℕ)) → p ∷ rest ≡ (takes.0, is.part) ∷ [] → IsUtf8 is.part
            → (IsUtf8 p.1 → part ≡ p.1) → part ≡ is.part
        by_pair p rest e utf8 shows =
            let same : p ≡ (takes.0, is.part) = cc e in
            let own = ap (λ (q : List ℕ × List ℕ). q.1) same in
            shows (subst IsUtf8 (sym own) utf8) ∙ own
