-- The targets of a found route, and what its parameter takes of them.
use Rattle.std.proofs.Common.{◌≡◌, ℕ, zero, suc, ◌<◌, ◌==◌, ◌&&◌, ◌⊎◌, inl, inr, List, [], ◌∷◌, ◌++◌, length, get_or, Option, Some, None, Bool, true, false, cond, nat_lt, refl, sym, ap, ◌∙◌, subst, arith, append-nil, lit<, bytes_eq, option_and_then}
use Rattle.std.specs.Prelude.{IsUtf8}
use Rattle.std.specs.List.{list_all}
use Rattle.std.specs.Cmp.Lexicographic.{bytes_decides}
use Rattle.std.proofs.lemmas.Bool.Decides.{nat_tests}
use Rattle.std.proofs.lemmas.Str.{IsUtf8-nil, IsUtf8-from_ascii, IsUtf8-take, IsUtf8-drop, IsCharBoundary-after_ascii, IsCharBoundary-at_seam}
use Rattle.std.proofs.Math.Seq.{take-append_seam}
use Rattle.matchit.specs.Params.{walk}
use Rattle.matchit.specs.Rows.{param_token}
use Rattle.matchit.specs.Seek.{has_slash}
use Rattle.matchit.specs.Router.{RouteOf}
use Rattle.adm_http.specs.Routes.{after_prefix, part_of, tail_of, Found, or_found, at_end, with_part, row}
use Rattle.adm_http.specs.declared.routes.Route.{Route}
use Rattle.adm_http.proofs.RowLemmas.{text_by_test}
use Rattle.adm_http.proofs.WalkLemmas.{walk_to_end, walk_to_suffix}

parts_whole : (x : List ℕ) → x ≡ part_of x ++ tail_of x
parts_whole [] = refl
parts_whole (b ∷ x) = by (b == 47) (parts_whole x)
  where
    by : (v : Bool) → x ≡ part_of x ++ tail_of x → b ∷ x ≡ cond v [] (b ∷ part_of x) ++ cond v (b ∷ x) (tail_of x)
    by true ih = refl
    by false ih = ap (λ l. b ∷ l) ih

part_flat : (x : List ℕ) → has_slash (part_of x) ≡ false
part_flat [] = refl
part_flat (b ∷ x) = by (b == 47) refl (part_flat x)
  where
    by : (v : Bool) → (b == 47) ≡ v → has_slash (part_of x) ≡ false → has_slash (cond v [] (b ∷ part_of x)) ≡ false
    by true e ih = refl
    by false e ih = rw e ih

after_is : (w t rest : List ℕ) → after_prefix w t ≡ Some rest → t ≡ w ++ rest
after_is [] t rest e = cc e
after_is (c ∷ w) [] rest e = absurd (cc e)
after_is (c ∷ w) (b ∷ t) rest e = by (c == b) refl (after_is w t rest) e
  where
    by : (v : Bool) → (c == b) ≡ v → (after_prefix w t ≡ Some rest → t ≡ w ++ rest) → cond v (after_prefix w t) None ≡ Some rest → b ∷ t ≡ c ∷ (w ++ rest)
    by true s ih h =
        let same : c ≡ b = grind (arith, nat_tests) in
        let others = ih h in
        cc (same, others)
    by false s ih h = absurd (cc h)

-- the route, its part and the text after it
record Parted (route : Route) (rest w : List ℕ) (x : Route × List ℕ) : Type 0 where
  route_is : x.0 ≡ route
  rest_is : rest ≡ x.1 ++ w
  flat : has_slash x.1 ≡ false

with_part_is : (route : Route) (w rest : List ℕ) (x : Route × List ℕ) → with_part route w rest ≡ Some x → Parted route rest w x
with_part_is route w rest x e = by (nat_lt 0 (length (part_of rest))) (bytes_eq (tail_of rest) w) refl e
  where
    by : (u v : Bool) → bytes_eq (tail_of rest) w ≡ v → cond (u && v) (Some (route, part_of rest)) None ≡ Some x → Parted route rest w x
    by true true tail h =
        let pair : (route, part_of rest) ≡ x = cc h in
        let tail_is : tail_of rest ≡ w = (bytes_decides (tail_of rest) w).0 tail in
        record {
          route_is = sym (ap (λ (y : Route × List ℕ). y.0) pair);
          rest_is = parts_whole rest ∙ ap (λ l. part_of rest ++ l) tail_is ∙ ap (λ (y : Route × List ℕ). y.1 ++ w) pair;
          flat = subst (λ (y : Route × List ℕ). has_slash y.1 ≡ false) pair (part_flat rest);
        }
    by true false tail h = absurd (cc h)
    by false v tail h = absurd (cc h)

-- what holds of the first of two that is found, where it holds of either
pub of_either : {P : Type 0} (a b : Found) (x : Route × List ℕ) → (a ≡ Some x → P) → (b ≡ Some x → P) → or_found a b ≡ Some x → P
of_either None b x first second e = second e
of_either (Some y) b x first second e = first e

-- a target of this route
pub record IsTargetOf (route : Route) (front w t : List ℕ) (x : Route × List ℕ) : Type 0 where
  pub route_is : x.0 ≡ route
  pub target_is : t ≡ front ++ (x.1 ++ w)
  pub flat : has_slash x.1 ≡ false

is_target : (route : Route) (front w t rest : List ℕ) (x : Route × List ℕ) → after_prefix front t ≡ Some rest → with_part route w rest ≡ Some x
    → IsTargetOf route front w t x
is_target route front w t rest x front_is e =
    let parted = with_part_is route w rest x e in
    record { route_is = parted.route_is; target_is = after_is front t rest front_is ∙ ap (λ l. front ++ l) parted.rest_is; flat = parted.flat }

pub under : (route : Route) (front w t : List ℕ) (x : Route × List ℕ) → option_and_then (with_part route w) (after_prefix front t) ≡ Some x
    → IsTargetOf route front w t x
under route front w t x e = by (after_prefix front t) refl e
  where
    by : (m : Option (List ℕ)) → after_prefix front t ≡ m → option_and_then (with_part route w) m ≡ Some x → IsTargetOf route front w t x
    by None is h = absurd (cc h)
    by (Some rest) is h = is_target route front w t rest x is h

-- the same of two routes, of which one ends after the part
pub under_either : (inner last : Route) (front w t : List ℕ) (x : Route × List ℕ)
    → option_and_then (λ rest. or_found (with_part inner w rest) (with_part last [] rest)) (after_prefix front t) ≡ Some x
    → IsTargetOf inner front w t x ⊎ IsTargetOf last front [] t x
under_either inner last front w t x e = by (after_prefix front t) refl e
  where
    by : (m : Option (List ℕ)) → after_prefix front t ≡ m
        → option_and_then (λ rest. or_found (with_part inner w rest) (with_part last [] rest)) m ≡ Some x
        → IsTargetOf inner front w t x ⊎ IsTargetOf last front [] t x
    by None is h = absurd (cc h)
    by (Some rest) is h =
        of_either (with_part inner w rest) (with_part last [] rest) x
        (λ a. inl (is_target inner front w t rest x is a)) (λ b. inr (is_target last front [] t rest x is b)) h

pub under_end : (route : Route) (w t : List ℕ) (x : Route × List ℕ) → option_and_then (at_end route) (after_prefix w t) ≡ Some x → x ≡ (route, [])
under_end route w t x e = by (after_prefix w t) e
  where
    by : (m : Option (List ℕ)) → option_and_then (at_end route) m ≡ Some x → x ≡ (route, [])
    by None h = absurd (cc h)
    by (Some []) h = cc h
    by (Some (b ∷ rest)) h = absurd (cc h)

-- ---- text

ascii_by_test : (w : List ℕ) → list_all (λ b. nat_lt b 128) w ≡ true → (i : ℕ) → get_or w i 0 < 128
ascii_by_test [] e i = lit< tt
ascii_by_test (b ∷ w) e zero = grind (arith, nat_tests)
ascii_by_test (b ∷ w) e (suc i) = ascii_by_test w (by (nat_lt b 128) e) i
  where
    by : (v : Bool) → (v && list_all (λ c. nat_lt c 128) w) ≡ true → list_all (λ c. nat_lt c 128) w ≡ true
    by true h = h
    by false h = absurd (cc h)

after_ascii : (front rest : List ℕ) → ((i : ℕ) → get_or front i 0 < 128) → IsUtf8 (front ++ rest) → IsUtf8 rest
after_ascii [] rest low whole = whole
after_ascii (b ∷ front) rest low whole =
    after_ascii front rest (λ i. low (suc i))
    (IsUtf8-drop (b ∷ (front ++ rest)) 1 whole (IsCharBoundary-after_ascii (b ∷ (front ++ rest)) 0 whole (omega arith) (low 0)))

utf8_part : (part w : List ℕ) → IsUtf8 (part ++ w) → IsUtf8 w → IsUtf8 part
utf8_part part w all rest =
    subst IsUtf8 (take-append_seam part w) (IsUtf8-take (part ++ w) (length part) all (IsCharBoundary-at_seam (part ++ w) part w refl rest))

-- what a parameter takes of a target
abbrev pub Takes : RouteOf Route → List ℕ → List ℕ → Type 0
Takes found t part = (name : List ℕ) × (walk found.pattern found.text t found.names 0 0 ≡ (name, part) ∷ []) × IsUtf8 part

module _ (route : Route) (front text : List ℕ) (name : ℕ × ℕ) (bytes : list_all (λ b. nat_lt b 256) front ≡ true)
    (ascii : list_all (λ b. nat_lt b 128) front ≡ true) where
  -- a parameter at the end
  pub takes_end : (t part : List ℕ) → IsUtf8 t → t ≡ front ++ (part ++ [])
      → Takes (row (front ++ param_token ∷ []) text (name ∷ []) route).1 t part
  takes_end t part utf8 t_is = (
    _,
    ap (λ p. walk (front ++ param_token ∷ []) text p (name ∷ []) 0 0) (t_is ∙ ap (λ l. front ++ l) (append-nil part))
        ∙ walk_to_end front text part name (text_by_test front bytes),
    utf8_part part [] (after_ascii front (part ++ []) (ascii_by_test front ascii) (subst IsUtf8 t_is utf8)) IsUtf8-nil,
  )

  -- a parameter before a slash and a text
  pub takes_suffix : (s : List ℕ) → list_all (λ b. nat_lt b 128) (47 ∷ s) ≡ true → (t part : List ℕ) → IsUtf8 t
      → t ≡ front ++ (part ++ 47 ∷ s) → has_slash part ≡ false
      → Takes (row (front ++ param_token ∷ (47 ∷ s)) text (name ∷ []) route).1 t part
  takes_suffix s suffix t part utf8 t_is flat = (
    _,
    ap (λ p. walk (front ++ param_token ∷ (47 ∷ s)) text p (name ∷ []) 0 0) t_is
        ∙ walk_to_suffix front text s part name (text_by_test front bytes) flat,
    utf8_part part (47 ∷ s) (after_ascii front (part ++ 47 ∷ s) (ascii_by_test front ascii) (subst IsUtf8 t_is utf8))
        (IsUtf8-from_ascii (47 ∷ s) (ascii_by_test (47 ∷ s) suffix)),
  )
