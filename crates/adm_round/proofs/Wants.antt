-- Which children want each school, as applicants are added one after another.
use Rattle.std.proofs.Common.{◌≡◌, ℕ, ◌+◌, ◌<◌, List, [], ◌∷◌, ◌++◌, length, get_or, take, map, Option, None, Some, Bool, true, false, cond, ◌||◌, refl, sym, ap, ◌∙◌, inl, inr, append-nil}
use Rattle.std.specs.Prelude.{option_map, unwrap_or, filter, bytes_eq, Vec}
use Rattle.std.specs.declared.alloc.Global.{Global}
use Rattle.std.specs.BTreeMap.{BTreeMap, get, UpdatesBy}
use Rattle.std.proofs.lemmas.Bool.{cases_Bool, false≢true}
use Rattle.std.proofs.lemmas.List.Concat.{flat_map-append}
use Rattle.std.proofs.lemmas.List.Folds.{list_any-append}
use Rattle.std.proofs.lemmas.Map.Text.{is_eq-slice_cmp}
use Rattle.std.proofs.lemmas.Slice.Eq.{bytes_eq-Decides}
use Rattle.adm_lists.proofs.Walks.{next_of}
use Rattle.adm_types.specs.Limits.{is_listed}
use Rattle.adm_match.specs.Market.{Code}
use Rattle.adm_round.specs.declared.applicants.Applicant.{Applicant}
use Rattle.adm_round.specs.declared.applicants.Pair.{Pair}
use Rattle.adm_round.specs.declared.applicants.Site.{Site}
use Rattle.adm_round.specs.Round.{code_of_site, number_of, wants, pair_at, pairs_at, pairs}
use Rattle.adm_types.specs.Limits.{code_cmp}
use Rattle.adm_round.specs.Lookups.{children_for}

-- those of a look-up, or none
abbrev pub items_of : Option (Vec ℕ Global) → List ℕ
items_of found = unwrap_or (option_map (λ children. children.items) found) []

pub taken_out : (found : Option (Vec ℕ Global)) (empty : Vec ℕ Global) → empty.items ≡ [] → (unwrap_or found empty).items ≡ items_of found
taken_out None empty h = h
taken_out (Some v) empty h = refl

-- one child more wants the school
pub child_added : (old mid new : BTreeMap Code (Vec ℕ Global)) (school : Code) (child : ℕ) (children : Vec ℕ Global) → UpdatesBy code_cmp (code_cmp school) old mid None
    → UpdatesBy code_cmp (code_cmp school) mid new (Some children) → children.items ≡ children_for old school ++ child ∷ [] → (code : Code)
    → children_for new code ≡ children_for old code ++ cond (bytes_eq school code) (child ∷ []) []
child_added old mid new school child children out into is code = elim (cases_Bool (bytes_eq school code)) [
  | inl hit ↦
      let same : school ≡ code = (bytes_eq-Decides school code).0 hit in
      ap items_of (into.0 code ∙ ap (λ b. cond b (Some children) (get code_cmp mid code)) (is_eq-slice_cmp school code ∙ hit))
      ∙ (is ∙ (λ i. children_for old (same i) ++ cond (sym hit i) (child ∷ []) []))
  | inr miss ↦
      let apart = is_eq-slice_cmp school code ∙ miss in
      ap items_of (into.2 code apart ∙ out.2 code apart)
      ∙ (sym (append-nil (children_for old code)) ∙ ap (λ b. children_for old code ++ cond b (child ∷ []) []) (sym miss))
]

one_more : (b e : Bool) (xs : List ℕ) (x : ℕ) → (e ≡ true → b ≡ false) → (xs ++ cond b (x ∷ []) []) ++ cond e (x ∷ []) [] ≡ xs ++ cond (b || (e || false)) (x ∷ []) []
one_more true true xs x h = absurd (false≢true (sym (h refl)))
one_more true false xs x h = append-nil (xs ++ x ∷ [])
one_more false true xs x h = ap (λ ys. ys ++ x ∷ []) (append-nil xs)
one_more false false xs x h = append-nil (xs ++ [])

listed_more : (schools : List Code) (i : ℕ) (school code : Code) → i < length schools → school ≡ get_or schools i school
    → is_listed (take (i + 1) schools) code ≡ (is_listed (take i schools) code || (bytes_eq school code || false))
listed_more schools i school code l at =
    ap (λ (cs : List Code). is_listed cs code) (next_of schools i school l at) ∙ list_any-append (λ other. bytes_eq other code) (take i schools) (school ∷ [])

-- a school of the list that did not come before
pub wanting_more : (first old new : BTreeMap Code (Vec ℕ Global)) (schools : List Code) (i : ℕ) (school : Code) (child : ℕ) → i < length schools
    → school ≡ get_or schools i school → is_listed (take i schools) school ≡ false
    → ((code : Code) → children_for old code ≡ children_for first code ++ cond (is_listed (take i schools) code) (child ∷ []) [])
    → ((code : Code) → children_for new code ≡ children_for old code ++ cond (bytes_eq school code) (child ∷ []) []) → (code : Code)
    → children_for new code ≡ children_for first code ++ cond (is_listed (take (i + 1) schools) code) (child ∷ []) []
wanting_more first old new schools i school child l at fresh was now code =
    now code ∙ (ap (λ xs. xs ++ cond (bytes_eq school code) (child ∷ []) []) (was code)
    ∙ (one_more (is_listed (take i schools) code) (bytes_eq school code) (children_for first code) child
    (λ e. ap (is_listed (take i schools)) (sym ((bytes_eq-Decides school code).0 e)) ∙ fresh)
    ∙ ap (λ b. children_for first code ++ cond b (child ∷ []) []) (sym (listed_more schools i school code l at))))

-- a school of the list that came before
pub wanting_same : (first old : BTreeMap Code (Vec ℕ Global)) (schools : List Code) (i : ℕ) (school : Code) (child : ℕ) → i < length schools
    → school ≡ get_or schools i school → is_listed (take i schools) school ≡ true
    → ((code : Code) → children_for old code ≡ children_for first code ++ cond (is_listed (take i schools) code) (child ∷ []) []) → (code : Code)
    → children_for old code ≡ children_for first code ++ cond (is_listed (take (i + 1) schools) code) (child ∷ []) []
wanting_same first old schools i school child l at there was code =
    was code ∙ ap (λ b. children_for first code ++ cond b (child ∷ []) [])
    (kept (is_listed (take i schools) code) (bytes_eq school code) (λ e. ap (is_listed (take i schools)) (sym ((bytes_eq-Decides school code).0 e)) ∙ there)
    ∙ sym (listed_more schools i school code l at))
  where
    kept : (b e : Bool) → (e ≡ true → b ≡ true) → b ≡ (b || (e || false))
    kept true e h = refl
    kept false true h = h refl
    kept false false h = refl

-- the pairs of the children that want a school are those of the applicants
pub pairs_same : (school : Code) (applicants : List Applicant)
    → map (λ child. record { school = school; child = child }) (map number_of (filter (wants school) applicants)) ≡ map (pair_at school) (filter (wants school) applicants)
pairs_same school applicants = twice school (filter (wants school) applicants)
  where
    twice : (school : Code) (xs : List Applicant) → map (λ child. record { school = school; child = child }) (map number_of xs) ≡ map (pair_at school) xs
    twice school [] = refl
    twice school (x ∷ xs) = λ i. pair_at school x ∷ twice school xs i

pub pairs_more : (sites : List Site) (applicants : List Applicant) (i : ℕ) (site : Site) (school : Code) (children : List ℕ) (old new : List Pair) → i < length sites
    → site ≡ get_or sites i site → school ≡ code_of_site site → children ≡ map number_of (filter (wants school) applicants) → old ≡ pairs (take i sites) applicants
    → new ≡ old ++ map (λ child. record { school = school; child = child }) children → new ≡ pairs (take (i + 1) sites) applicants
pairs_more sites applicants i site school children old new l at here are was now =
    let more : map (λ child. record { school = school; child = child }) children ≡ pairs_at applicants site =
    ap (map (λ child. record { school = school; child = child })) are
    ∙ (pairs_same school applicants ∙ ap (λ (code : Code). map (pair_at code) (filter (wants code) applicants)) here) in
    now ∙ ((λ j. was j ++ more j)
    ∙ (ap (λ (xs : List Pair). pairs (take i sites) applicants ++ xs) (sym (append-nil (pairs_at applicants site)))
    ∙ (sym (flat_map-append (pairs_at applicants) (take i sites) (site ∷ [])) ∙ ap (λ (xs : List Site). pairs xs applicants) (sym (next_of sites i site l at)))))
