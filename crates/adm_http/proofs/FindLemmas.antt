-- What the router finds after a text, and below a parameter, as `route_of` defines it.
use Rattle.std.proofs.Common.{◌≡◌, ℕ, suc, ◌<◌, ◌==◌, ◌&&◌, List, [], ◌∷◌, ◌++◌, length, get_or, Option, Some, None, Bool, true, false, cond, nat_lt, refl, sym, ap, ◌∙◌, subst, arith, bytes_eq, option_and_then, option_map}
use Rattle.std.proofs.lemmas.Bool.Decides.{nat_tests}
use Rattle.adm_http.proofs.RowLemmas.{seek-plain, Diverges, first-union, first-after, parts_none, parts_some, flat_find, slash_none, and_false, cuts_flat, cuts_part, with_suffix_find}
use Rattle.matchit.specs.Rows.{Rows, prepend, param_token}
use Rattle.matchit.specs.Seek.{own, or_else, seek, first, has_slash, segment, cuts, longest_suffix, with_suffix}
use Rattle.matchit.specs.Level.{IsText}
use Rattle.matchit.proofs.SeekLemmas.{own-prepend, seek-empty, or_else-none}
use Rattle.adm_http.specs.Routes.{after_prefix, part_of, tail_of, Found, or_found, at_end, with_part}
use Rattle.adm_http.specs.declared.routes.Route.{Route}

-- each byte is below 256
abbrev pub IsBytes : List ℕ → Type 0
IsBytes t = (i : ℕ) → get_or t i 0 < 256

after_small : (w t rest : List ℕ) → IsBytes t → after_prefix w t ≡ Some rest → get_or rest 0 0 < 256
after_small [] t rest small e = let same : t ≡ rest = cc e in subst (λ (m : List ℕ). get_or m 0 0 < 256) same (small 0)
after_small (c ∷ w) [] rest small e = absurd (cc e)
after_small (c ∷ w) (b ∷ t) rest small e = by (c == b) (after_small w t rest (λ i. small (suc i))) e
  where
    by : (v : Bool) → (after_prefix w t ≡ Some rest → get_or rest 0 0 < 256) → cond v (after_prefix w t) None ≡ Some rest → get_or rest 0 0 < 256
    by true ih e = ih e
    by false ih e = absurd (cc e)

some_part : (b : ℕ) (p : List ℕ) → nat_lt 0 (length (b ∷ p)) ≡ true
some_part b p = grind (arith, nat_tests)

-- a number for each route
module _ (key : Route → ℕ) where
  abbrev pub key_of : Found → Option ℕ
  key_of found = option_map (λ r. key r.0) found

  key_cond : (v : Bool) (r : Route) (part : List ℕ) → key_of (cond v (Some (r, part)) None) ≡ cond v (Some (key r)) None
  key_cond true r part = refl
  key_cond false r part = refl

  key_or : (a b : Found) → key_of (or_found a b) ≡ or_else (key_of a) (key_of b)
  key_or None b = refl
  key_or (Some x) b = refl

  -- the rows find what the definition finds, in what follows a text
  abbrev pub FindsAs : Rows → (List ℕ → Found) → Type 0
  FindsAs rows find = (rest : List ℕ) → get_or rest 0 0 < 256 → first rows rest ≡ key_of (find rest)

  -- a route that ends
  pub ends : (route : Route) → FindsAs (([], key route) ∷ []) (at_end route)
  unfolding seek
  ends route [] small = refl
  ends route (y ∷ z) small = seek-plain (([], key route) ∷ []) y z refl refl ∙ seek-empty 0 z

  below : (rows : Rows) (find : List ℕ → Found) → None ≡ key_of (find [])
      → ((b : ℕ) (p : List ℕ) → b < 256 → first (prepend (param_token ∷ []) rows) (b ∷ p) ≡ key_of (find (b ∷ p)))
      → FindsAs (prepend (param_token ∷ []) rows) find
  unfolding seek
  below rows find none some [] small = own-prepend param_token [] rows ∙ none
  below rows find none some (b ∷ p) small = some b p small

  -- a route that a part ends
  pub part_ends : (route : Route) → FindsAs (prepend (param_token ∷ []) (([], key route) ∷ [])) (with_part route [])
  part_ends route = below (([], key route) ∷ []) (with_part route []) refl (λ b p small. by b p small (has_slash (b ∷ p)) refl)
    where
      by : (b : ℕ) (p : List ℕ) → b < 256 → (v : Bool) → has_slash (b ∷ p) ≡ v
          → first (prepend (param_token ∷ []) (([], key route) ∷ [])) (b ∷ p) ≡ key_of (with_part route [] (b ∷ p))
      by b p small false e =
          let parts = parts_none (b ∷ p) e in
          let some = some_part b p in
          flat_find (([], key route) ∷ []) b p small refl e ∙ sym (rw (parts.1, parts.2, some) refl)
      by b p small true e =
          let parts = parts_some (b ∷ p) e in
          let off : (nat_lt 0 (length (part_of (b ∷ p))) && bytes_eq (tail_of (b ∷ p)) []) ≡ false =
          and_false _ _ (ap (λ x. bytes_eq x []) parts.2) in
          slash_none (([], key route) ∷ []) b p small refl e ∙ sym (rw off refl)

  -- rows of which one goes on after a part with a slash and a text
  module _ (rows : Rows) (inner : Route) (s : List ℕ) (text : IsText (47 ∷ s))
      (long : (seg : List ℕ) (v : Bool) → cuts seg (47 ∷ []) ≡ v → longest_suffix seg rows ≡ cond v (47 ∷ []) [])
      (kept : with_suffix (47 ∷ []) rows ≡ prepend (47 ∷ s) (([], key inner) ∷ [])) where
    -- the part ends at a slash
    cut_found : (b : ℕ) (p : List ℕ) → b < 256 → has_slash (b ∷ p) ≡ true
        → first (prepend (param_token ∷ []) rows) (b ∷ p) ≡ key_of (with_part inner (47 ∷ s) (b ∷ p))
    cut_found b p small e = let parts = parts_some (b ∷ p) e in by parts.0 parts.1 parts.2 parts.3 (nat_lt 0 (length (part_of (b ∷ p)))) refl
      where
        by : (more : List ℕ) → segment (b ∷ p) ≡ part_of (b ∷ p) ++ 47 ∷ [] → tail_of (b ∷ p) ≡ 47 ∷ more
            → b ∷ p ≡ part_of (b ∷ p) ++ 47 ∷ more → (v : Bool) → nat_lt 0 (length (part_of (b ∷ p))) ≡ v
            → first (prepend (param_token ∷ []) rows) (b ∷ p) ≡ key_of (with_part inner (47 ∷ s) (b ∷ p))
        by more seg tail whole true v =
            let cut = ap (λ x. longest_suffix x rows) seg ∙ long (part_of (b ∷ p) ++ 47 ∷ []) true (cuts_part (part_of (b ∷ p)) ∙ v) in
            let some : 0 < length (part_of (b ∷ p)) = grind (arith, nat_tests) in
            with_suffix_find rows (47 ∷ s) (key inner) b p (part_of (b ∷ p)) more small text kept cut seg whole some
            ∙ sym (rw (v, tail) (key_cond (bytes_eq (47 ∷ more) (47 ∷ s)) inner (part_of (b ∷ p))))
        by more seg tail whole false v =
            let none = ap (λ x. longest_suffix x rows) seg ∙ long (part_of (b ∷ p) ++ 47 ∷ []) false (cuts_part (part_of (b ∷ p)) ∙ v) in
            slash_none rows b p small none e ∙ sym (rw v refl)

    flat_found : (b : ℕ) (p : List ℕ) → b < 256 → has_slash (b ∷ p) ≡ false → first (prepend (param_token ∷ []) rows) (b ∷ p) ≡ own rows
    flat_found b p small e =
        let parts = parts_none (b ∷ p) e in
        flat_find rows b p small (ap (λ x. longest_suffix x rows) parts.0 ∙ long (b ∷ p) false (cuts_flat (b ∷ p) e)) e

    -- a route that a part and a text end
    pub suffix_ends : own rows ≡ None → FindsAs (prepend (param_token ∷ []) rows) (with_part inner (47 ∷ s))
    suffix_ends none = below rows (with_part inner (47 ∷ s)) refl (λ b p small. by b p small (has_slash (b ∷ p)) refl)
      where
        by : (b : ℕ) (p : List ℕ) → b < 256 → (v : Bool) → has_slash (b ∷ p) ≡ v
            → first (prepend (param_token ∷ []) rows) (b ∷ p) ≡ key_of (with_part inner (47 ∷ s) (b ∷ p))
        by b p small true e = cut_found b p small e
        by b p small false e =
            let parts = parts_none (b ∷ p) e in
            let some = some_part b p in
            flat_found b p small e ∙ none ∙ sym (rw (parts.1, parts.2, some) refl)

    -- and one that the part ends
    pub either_ends : (last : Route) → own rows ≡ Some (key last)
        → FindsAs (prepend (param_token ∷ []) rows) (λ rest. or_found (with_part inner (47 ∷ s) rest) (with_part last [] rest))
    either_ends last is =
        below rows (λ rest. or_found (with_part inner (47 ∷ s) rest) (with_part last [] rest)) refl (λ b p small. by b p small (has_slash (b ∷ p)) refl)
      where
        by : (b : ℕ) (p : List ℕ) → b < 256 → (v : Bool) → has_slash (b ∷ p) ≡ v
            → first (prepend (param_token ∷ []) rows) (b ∷ p) ≡ key_of (or_found (with_part inner (47 ∷ s) (b ∷ p)) (with_part last [] (b ∷ p)))
        by b p small true e =
            let parts = parts_some (b ∷ p) e in
            let off : (nat_lt 0 (length (part_of (b ∷ p))) && bytes_eq (tail_of (b ∷ p)) []) ≡ false =
            and_false _ _ (ap (λ x. bytes_eq x []) parts.2) in
            cut_found b p small e
            ∙ sym (rw off (key_or (with_part inner (47 ∷ s) (b ∷ p)) None ∙ or_else-none (key_of (with_part inner (47 ∷ s) (b ∷ p)))))
        by b p small false e =
            let parts = parts_none (b ∷ p) e in
            let some = some_part b p in
            flat_found b p small e ∙ is ∙ sym (rw (parts.1, parts.2, some) refl)

  -- ---- rows below texts

  module _ (t : List ℕ) (small : IsBytes t) where
    -- the rows below the last text
    pub last_found : (w : List ℕ) (rows : Rows) (find : List ℕ → Found) → IsText w → FindsAs rows find
        → first (prepend w rows) t ≡ key_of (option_and_then find (after_prefix w t))
    last_found w rows find text finds = first-after w rows t text ∙ by (after_prefix w t) (λ rest e. after_small w t rest small e)
      where
        by : (m : Option (List ℕ)) → ((rest : List ℕ) → m ≡ Some rest → get_or rest 0 0 < 256)
            → option_and_then (first rows) m ≡ key_of (option_and_then find m)
        by None low = refl
        by (Some rest) low = finds rest (low rest refl)

    -- the rows below a text, and then others
    pub next_found : (w : List ℕ) (rows others : Rows) (find : List ℕ → Found) (found : Found) → IsText w → Diverges w others → FindsAs rows find
        → first others t ≡ key_of found → first (prepend w rows ++ others) t ≡ key_of (or_found (option_and_then find (after_prefix w t)) found)
    next_found w rows others find found text apart finds rest =
        first-union w rows others t apart
        ∙ (ap (λ x. or_else x (first others t)) (last_found w rows find text finds) ∙ ap (or_else (key_of (option_and_then find (after_prefix w t)))) rest)
        ∙ sym (key_or (option_and_then find (after_prefix w t)) found)
