-- The schools on the lists of a round's problem.
use Rattle.std.proofs.Common.{◌≡◌, ℕ, ◌+◌, ◌<◌, List, [], ◌∷◌, ◌++◌, length, map, Option, None, Some, Bool, true, false, cond, not, ◌||◌, inl, inr, refl, sym, ap, ◌∙◌, subst, arith, append-nil}
use Rattle.std.specs.Prelude.{bytes_eq, IfSome, option_map, ◌==◌}
use Rattle.std.specs.List.{list_any, position_or_len, cons_option}
use Rattle.std.specs.Option.{option_to_list}
use Rattle.std.proofs.lemmas.Bool.{cases_Bool, false≢true, and_parts, and_from, or_parts, or_left, or_right, not-true, not_from_false, not_from_true, eq-eqb}
use Rattle.std.proofs.lemmas.List.Folds.{list_any-append}
use Rattle.std.proofs.lemmas.Option.{same_Some}
use Rattle.std.proofs.lemmas.Slice.Eq.{bytes_eq-Decides}
use Rattle.adm_lists.proofs.Members.{In, any_in, finds, find_gives, from_filter_map}
use Rattle.adm_types.specs.declared.rows.Child.{Child}
use Rattle.adm_types.specs.Limits.{is_listed, is_without_repeat}
use Rattle.adm_match.specs.declared.problem.Wish.{Wish}
use Rattle.adm_match.specs.Market.{Code, preference_rank, some_pair, same_school, is_not_last}
use Rattle.adm_round.specs.declared.applicants.Site.{Site}
use Rattle.adm_round.specs.Round.{code_of_site, is_site}
use Rattle.adm_round.specs.Ranks.{site_of, wish_at, wishes_for}

pub code_swap : (s t : Code) → bytes_eq s t ≡ bytes_eq t s
code_swap s t = elim (cases_Bool (bytes_eq s t)) [
  | inl e ↦ e ∙ sym ((bytes_eq-Decides t s).1 (sym ((bytes_eq-Decides s t).0 e)))
  | inr f ↦ elim (cases_Bool (bytes_eq t s)) [
    | inl e ↦ absurd (false≢true (sym f ∙ (bytes_eq-Decides s t).1 (sym ((bytes_eq-Decides t s).0 e))))
    | inr g ↦ f ∙ sym g
  ]
]

pub code_self : (s : Code) → bytes_eq s s ≡ true
code_self s = (bytes_eq-Decides s s).1 refl

-- a site that has the code
pub record SiteAt (sites : List Site) (code : Code) : Type 0 where
  pub site : Site
  pub found : site_of sites code ≡ Some site
  pub among : In site sites
  pub at_code : code_of_site site ≡ code

pub site_known : (sites : List Site) (code : Code) → is_site sites code ≡ true → SiteAt sites code
site_known sites code h =
    let test : Site → Bool = λ site. bytes_eq (code_of_site site) code in
    let w = any_in test sites h in
    let f = finds test sites w.0 w.1 w.2 in
    let g = find_gives test sites f.0 f.1 in
    record { site = f.0; found = f.1; among = g.0; at_code = (bytes_eq-Decides (code_of_site f.0) code).0 g.1 }

abbrev pub school_of_wish : Wish → Code
school_of_wish w = w.school

-- each school of a list whose schools are sites gets a wish
pub schools_are : (sites : List Site) (lot : Code → ℕ → ℕ) (child : Child) (codes : List Code) → ((code : Code) → In code codes → is_site sites code ≡ true)
    → map school_of_wish (wishes_for (site_of sites) lot child codes) ≡ codes
schools_are sites lot child [] h = refl
schools_are sites lot child (c ∷ cs) h =
    let s = site_known sites c (h c (inl refl)) in
    ap (λ o. map school_of_wish (cons_option (option_map (wish_at lot child) o) (wishes_for (site_of sites) lot child cs))) s.found
    ∙ (λ i. s.at_code i ∷ schools_are sites lot child cs (λ x l. h x (inr l)) i)

-- a wish is at a school of the list, with the child's lot there
pub wish_is : (sites : List Site) (lot : Code → ℕ → ℕ) (child : Child) (codes : List Code) (w : Wish) → ((code : Code) → In code codes → is_site sites code ≡ true)
    → In w (wishes_for (site_of sites) lot child codes) → In w.school codes × (w.key.lot ≡ lot w.school child.no)
wish_is sites lot child codes w h i =
    let f = from_filter_map (λ code. option_map (wish_at lot child) (site_of sites code)) codes w i in
    let s = site_known sites f.0 (h f.0 f.1) in
    let same : wish_at lot child s.site ≡ w =
    same_Some (wish_at lot child s.site) w (sym (ap (λ o. option_map (wish_at lot child) o) s.found) ∙ f.2) in
    let here : f.0 ≡ w.school = sym s.at_code ∙ ap school_of_wish same in (
      subst (λ c. In c codes) here f.1,
      sym (ap (λ (x : Wish). x.key.lot) same) ∙ ap (λ c. lot c child.no) (ap school_of_wish same),
    )

any_schools : (p : Code → Bool) (ws : List Wish) → list_any (λ w. p w.school) ws ≡ list_any p (map school_of_wish ws)
any_schools p [] = refl
any_schools p (w ∷ ws) = λ i. p w.school || any_schools p ws i

pair_schools : (ws : List Wish) → some_pair same_school ws ≡ some_pair bytes_eq (map school_of_wish ws)
pair_schools [] = refl
pair_schools (w ∷ ws) = λ i. any_schools (bytes_eq w.school) ws i || pair_schools ws i

rank_schools : (ws : List Wish) (s : Code) → preference_rank ws s ≡ position_or_len (λ c. bytes_eq c s) (map school_of_wish ws)
rank_schools [] s = refl
rank_schools (w ∷ ws) s = ap (λ n. cond (not (bytes_eq w.school s)) (1 + n) 0) (rank_schools ws s)

length_schools : (ws : List Wish) → length ws ≡ length (map school_of_wish ws)
length_schools [] = refl
length_schools (w ∷ ws) = omega (arith, length_schools ws)

any_swap : (c : Code) (cs : List Code) → list_any (bytes_eq c) cs ≡ is_listed cs c
any_swap c [] = refl
any_swap c (x ∷ xs) = λ i. code_swap c x i || any_swap c xs i

once_pairs : (codes : List Code) → is_without_repeat codes ≡ true → some_pair bytes_eq codes ≡ false
once_pairs [] h = refl
once_pairs (c ∷ cs) h =
    let parts = and_parts (not (is_listed cs c)) (is_without_repeat cs) h in
    λ i. (any_swap c cs ∙ not-true (is_listed cs c) parts.0) i || once_pairs cs parts.1 i

-- the own school, which is none of the wanted, comes once more
once_more : (wanted : List Code) (own : Code) → is_without_repeat wanted ≡ true → is_listed wanted own ≡ false → is_without_repeat (wanted ++ own ∷ []) ≡ true
once_more [] own h n = refl
once_more (c ∷ cs) own h n =
    let parts = and_parts (not (is_listed cs c)) (is_without_repeat cs) h in
    let apart = or_parts (bytes_eq c own) (is_listed cs own) n in
    let test : Code → Bool = λ other. bytes_eq other c in
    and_from (not (is_listed (cs ++ own ∷ []) c)) (is_without_repeat (cs ++ own ∷ []))
    (not_from_false (is_listed (cs ++ own ∷ []) c)
    (list_any-append test cs (own ∷ []) ∙ (λ i. not-true (is_listed cs c) parts.0 i || ((code_swap own c ∙ apart.0) i || false))))
    (once_more cs own parts.1 apart.1)

listed_once : (wanted : List Code) (own : Option Code) → is_without_repeat wanted ≡ true → IfSome own (λ o. is_listed wanted o ≡ false) → is_without_repeat (wanted ++ option_to_list own) ≡ true
listed_once wanted None h n = ap is_without_repeat (append-nil wanted) ∙ h
listed_once wanted (Some own) h n = once_more wanted own h n

pub no_repeat : (ws : List Wish) (wanted : List Code) (own : Option Code) → map school_of_wish ws ≡ wanted ++ option_to_list own → is_without_repeat wanted ≡ true
    → IfSome own (λ o. is_listed wanted o ≡ false) → some_pair same_school ws ≡ false
no_repeat ws wanted own is h n =
    pair_schools ws ∙ (ap (some_pair bytes_eq) is ∙ once_pairs (wanted ++ option_to_list own) (listed_once wanted own h n))

pub none_any : {X : Type 0} (p : X → Bool) (xs : List X) → ((x : X) → In x xs → p x ≡ false) → list_any p xs ≡ false
none_any p [] h = refl
none_any p (x ∷ xs) h = λ i. h x (inl refl) i || none_any p xs (λ y l. h y (inr l)) i

pub no_unknown : (known : Code → Bool) (ws : List Wish) (codes : List Code) → map school_of_wish ws ≡ codes → ((code : Code) → In code codes → known code ≡ true)
    → list_any (λ w. not (known w.school)) ws ≡ false
no_unknown known ws codes is h =
    any_schools (λ c. not (known c)) ws
    ∙ (ap (list_any (λ c. not (known c))) is ∙ none_any (λ c. not (known c)) codes (λ c l. not_from_true (known c) (h c l)))

own_rank : (wanted : List Code) (own : Code) → is_listed wanted own ≡ false → position_or_len (λ c. bytes_eq c own) (wanted ++ own ∷ []) + 1 ≡ length (wanted ++ own ∷ [])
own_rank [] own n = ap (λ b. cond (not b) (1 + 0) 0 + 1) (code_self own)
own_rank (c ∷ cs) own n =
    let apart = or_parts (bytes_eq c own) (is_listed cs own) n in
    let first : position_or_len (λ x. bytes_eq x own) (c ∷ cs ++ own ∷ []) ≡ 1 + position_or_len (λ x. bytes_eq x own) (cs ++ own ∷ []) =
    ap (λ b. cond (not b) (1 + position_or_len (λ x. bytes_eq x own) (cs ++ own ∷ [])) 0) apart.0 in
    omega (arith, first, own_rank cs own apart.1)

rank_at_end : (ws : List Wish) (wanted : List Code) (own : Code) → map school_of_wish ws ≡ wanted ++ own ∷ [] → is_listed wanted own ≡ false → preference_rank ws own + 1 ≡ length ws
rank_at_end ws wanted own is n =
    let rank : preference_rank ws own ≡ position_or_len (λ c. bytes_eq c own) (wanted ++ own ∷ []) =
    rank_schools ws own ∙ ap (position_or_len (λ c. bytes_eq c own)) is in
    let all : length ws ≡ length (wanted ++ own ∷ []) = length_schools ws ∙ ap length is in
    omega (arith, rank, all, own_rank wanted own n)

-- the own school is the last of the list
pub own_last : (ws : List Wish) (wanted : List Code) (own : Option Code) → map school_of_wish ws ≡ wanted ++ option_to_list own
    → IfSome own (λ o. is_listed wanted o ≡ false) → is_not_last ws own ≡ false
own_last ws wanted None is n = refl
own_last ws wanted (Some own) is n =
    not_from_true (preference_rank ws own + 1 == length ws) (eq-eqb (preference_rank ws own + 1) (length ws) (rank_at_end ws wanted own is n))

-- so it is on the list
pub own_within : (ws : List Wish) (wanted : List Code) (own : Code) → map school_of_wish ws ≡ wanted ++ own ∷ [] → is_listed wanted own ≡ false → preference_rank ws own < length ws
own_within ws wanted own is n = let end = rank_at_end ws wanted own is n in omega (arith, end)

passes_before : (p : Code → Bool) (cs : List Code) → position_or_len p cs < length cs → list_any p cs ≡ true
passes_before p [] l = absurd (omega arith)
passes_before p (c ∷ cs) l = elim (cases_Bool (p c)) [
  | inl hit ↦ or_left (p c) (list_any p cs) hit
  | inr miss ↦
      let first : position_or_len p (c ∷ cs) ≡ 1 + position_or_len p cs = ap (λ b. cond (not b) (1 + position_or_len p cs) 0) miss in
      or_right (p c) (list_any p cs) (passes_before p cs (omega arith))
]

-- a school before the end of a list is on it
pub on_list : (ws : List Wish) (codes : List Code) (s : Code) → map school_of_wish ws ≡ codes → preference_rank ws s < length ws → is_listed codes s ≡ true
on_list ws codes s is l =
    let rank : preference_rank ws s ≡ position_or_len (λ c. bytes_eq c s) codes = rank_schools ws s ∙ ap (position_or_len (λ c. bytes_eq c s)) is in
    let all : length ws ≡ length codes = length_schools ws ∙ ap length is in
    passes_before (λ c. bytes_eq c s) codes (omega (arith, rank, all))
