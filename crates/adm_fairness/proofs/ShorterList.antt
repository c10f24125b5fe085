-- A list that ends earlier hurts no child in the round of its register.
use Rattle.std.proofs.Common.{◌≡◌, ◌∙◌, ap, sym, subst, refl, cond, true, false, Bool, arith, ℕ, zero, suc, List, [], ◌∷◌, ◌++◌, length, map, take, Some, None, inl, inr, append-nil}
use Rattle.std.specs.Prelude.{◌⊎◌, not, Option, option_map, filter, bytes_eq, ⊤, All}
use Rattle.std.specs.List.{AllZip, AllByRecursion, filter_map, cons_option}
use Rattle.std.specs.Option.{option_to_list}
use Rattle.std.specs.Cmp.{nat_cmp_total}
use Rattle.std.specs.FinMap.{get, insert, entries, entries-insert, entries_sorted, get-entries, values}
use Rattle.std.proofs.lemmas.Option.{same_Some}
use Rattle.std.proofs.lemmas.Slice.Eq.{bytes_eq-Decides}
use Rattle.std.proofs.lemmas.List.Elements.{recursion_from_All}
use Rattle.adm_types.specs.declared.rows.Application.{Application}
use Rattle.adm_types.specs.declared.rows.Child.{Child}
use Rattle.adm_match.specs.declared.problem.Wish.{Wish}
use Rattle.adm_match.specs.Market.{Code, Candidate}
use Rattle.adm_match_laws.specs.Generous.{IsCutFrom, IsAsGenerous, NoLoss}
use Rattle.adm_round.specs.declared.applicants.Applicant.{Applicant}
use Rattle.adm_round.specs.declared.applicants.Site.{Site}
use Rattle.adm_round.specs.Round.{code_of_site, number_of, listed}
use Rattle.adm_round.specs.Ranks.{site_of, lot_at, wish_at, wishes_for, candidate_of}
use Rattle.adm_round.proofs.Faultless.{faultless}
use Rattle.adm_round.proofs.Walks.{wishes_append}
use Rattle.adm_register.specs.State.{State}
use Rattle.adm_register.specs.Wanted.{above, has_left, wanted_of, own_school}
use Rattle.adm_commands.specs.Commands.Round.{takes_part, applicant_of, round_applicants, sites, round_lots, round_market}
use Rattle.adm_commands.proofs.Posed.{posed}
use Rattle.adm_fairness.specs.ShorterLists.{first_listed, with_application, KeepsLots, NoLossByShorterList}
use Rattle.adm_fairness.proofs.Zipped.{zip_map, zip_with, zip_any, put_zip, take_whole}

-- ---- the beginning of a list

take_first : {X : Type 0} (xs ys : List X) → xs ≡ take (length xs) (xs ++ ys)
take_first [] [] = refl
take_first [] (y ∷ ys) = refl
take_first (x ∷ xs) ys = ap (λ zs. x ∷ zs) (take_first xs ys)

-- of a beginning what passes is a beginning of what passes
filter_taken : {X : Type 0} (p : X → Bool) (n : ℕ) (xs : List X) → (rest : List X) × (filter p xs ≡ filter p (take n xs) ++ rest)
filter_taken p zero [] = ([], refl)
filter_taken p (suc n) [] = ([], refl)
filter_taken p zero (x ∷ xs) = (filter p (x ∷ xs), refl)
filter_taken p (suc n) (x ∷ xs) =
    let after = filter_taken p n xs in (
      after.0,
      elim (p x) as (λ b. cond b (x ∷ filter p xs) (filter p xs) ≡ cond b (x ∷ filter p (take n xs)) (filter p (take n xs)) ++ after.0) [
        | true ↦ ap (λ ys. x ∷ ys) after.1
        | false ↦ after.1
      ],
    )

-- ---- an applicant then and now

-- the same applicant, or one without a place whose wanted schools are the first of those that it wanted
abbrev IsShorter : Applicant → Applicant → Type 0
IsShorter was now =
    (now ≡ was) ⊎ ((now.child ≡ was.child) × (was.own ≡ None) × (now.own ≡ None) × ((rest : List Code) × (was.wanted ≡ now.wanted ++ rest)))

abbrev BothShorter : Option Applicant → Option Applicant → Type 0
BothShorter None None = ⊤
BothShorter None (Some now) = ⊥
BothShorter (Some was) None = ⊥
BothShorter (Some was) (Some now) = IsShorter was now

both_same : (o : Option Applicant) → BothShorter o o
both_same None = tt
both_same (Some x) = inl refl

zip_next : (o q : Option Applicant) (os qs : List Applicant) → BothShorter o q → AllZip IsShorter os qs → AllZip IsShorter (cons_option o os) (cons_option q qs)
zip_next None None os qs both rest = rest
zip_next None (Some q) os qs both rest = absurd both
zip_next (Some o) None os qs both rest = absurd both
zip_next (Some o) (Some q) os qs both rest = (both, rest)

zip_some : {X : Type 0} (f : X → Option Applicant) (xs ys : List X) → AllZip (λ x y. BothShorter (f x) (f y)) xs ys → AllZip IsShorter (filter_map f xs) (filter_map f ys)
zip_some f [] [] h = tt
zip_some f [] (y ∷ ys) h = absurd h
zip_some f (x ∷ xs) [] h = absurd h
zip_some f (x ∷ xs) (y ∷ ys) h = zip_next (f x) (f y) (filter_map f xs) (filter_map f ys) h.0 (zip_some f xs ys h.1)

-- ---- a candidate then and now

site_code : (sites : List Site) (code : Code) (site : Site) → site_of sites code ≡ Some site → code_of_site site ≡ code
site_code [] code site there = cc
site_code (x ∷ xs) code site there =
    elim (bytes_eq (code_of_site x) code) as (λ b. bytes_eq (code_of_site x) code ≡ b → cond b (Some x) (site_of xs code) ≡ Some site → code_of_site site ≡ code) [
      | true ↦ λ hit found. ap code_of_site (sym (same_Some x site found)) ∙ (bytes_eq-Decides (code_of_site x) code).0 hit
      | false ↦ λ miss found. site_code xs code site found
    ] refl there

-- by the same lots the wishes are the same
module _ (sites : List Site) (child : Child) (second first : Code → ℕ → ℕ) where
  wish_same : (code : Code) → second code child.no ≡ first code child.no → option_map (wish_at second child) (site_of sites code) ≡ option_map (wish_at first child) (site_of sites code)
  wish_same code same = by (site_of sites code) refl
    where
      by : (o : Option Site) → site_of sites code ≡ o → option_map (wish_at second child) o ≡ option_map (wish_at first child) o
      by None at = refl
      by (Some site) at =
          let here : second (code_of_site site) child.no ≡ first (code_of_site site) child.no = subst (λ c. second c child.no ≡ first c child.no) (sym (site_code sites code site at)) same in
          λ i. Some (record (wish_at first child site) { key = record (wish_at first child site).key { lot = here i } })

  wishes_same : (codes : List Code) → AllByRecursion (λ code. second code child.no ≡ first code child.no) codes
      → wishes_for (site_of sites) second child codes ≡ wishes_for (site_of sites) first child codes
  wishes_same [] same = refl
  wishes_same (code ∷ codes) same = λ i. cons_option (wish_same code same.0 i) (wishes_same codes same.1 i)

-- the applicant has at each school of its list the same lot by both
abbrev SameLots : (Code → ℕ → ℕ) → (Code → ℕ → ℕ) → Applicant → Type 0
SameLots second first applicant = All (λ code. second code (number_of applicant) ≡ first code (number_of applicant)) (listed applicant)

candidate_cut : (sites : List Site) (second first : Code → ℕ → ℕ) (was now : Applicant) → IsShorter was now → SameLots second first now
    → IsCutFrom (candidate_of (site_of sites) second now) (candidate_of (site_of sites) first was)
candidate_cut sites second first was now shorter lots =
    let wishes : (child : Child) → List Code → List Wish = wishes_for (site_of sites) first in
    let same : wishes_for (site_of sites) second now.child (listed now) ≡ wishes now.child (listed now)
    = wishes_same sites now.child second first (listed now) (recursion_from_All (λ code. second code (number_of now) ≡ first code (number_of now)) (listed now) lots) in
    elim shorter [
      | inl it ↦ record {
        child = ap number_of it;
        list = subst (λ (ws : List Wish). ws ≡ take (length ws) (wishes was.child (listed was))) (sym (same ∙ ap (λ (a : Applicant). wishes a.child (listed a)) it))
            (sym (take_whole (wishes was.child (listed was))));
        tenant = ap (λ (a : Applicant). a.own) it;
      }
      | inr it ↦
          let all : wishes was.child (listed was) ≡ wishes now.child now.wanted ++ wishes now.child it.3.0
          = (λ i. wishes (sym it.0 i) (was.wanted ++ option_to_list (it.1 i)))
          ∙ (ap (wishes now.child) (append-nil was.wanted ∙ it.3.1)
          ∙ wishes_append (site_of sites) first now.child now.wanted it.3.0) in
          let few : wishes_for (site_of sites) second now.child (listed now) ≡ wishes now.child now.wanted
          = same ∙ (ap (λ o. wishes now.child (now.wanted ++ option_to_list o)) it.2 ∙ ap (wishes now.child) (append-nil now.wanted)) in
          record {
            child = ap (λ (c : Child). c.no) it.0;
            list = subst (λ (ws : List Wish). ws ≡ take (length ws) (wishes was.child (listed was))) (sym few)
                (subst (λ whole. wishes now.child now.wanted ≡ take (length (wishes now.child now.wanted)) whole) (sym all) (take_first (wishes now.child now.wanted) (wishes now.child it.3.0)));
            tenant = it.2 ∙ sym it.1;
          }
    ]

-- ---- the register

module _ (old : State) (application : Application) (count : ℕ) (there : get old.applications application.child ≡ Some application) (free : get old.places application.child ≡ None) where
  abbrev now : Application
  now = first_listed count application

  abbrev new : State
  new = with_application old now

  abbrev applicant : Application → Child → Applicant
  applicant of child = record { child = child; wanted = wanted_of old of; own = own_school (get old.places of.child) }

  shorter : BothShorter (applicant_of old application) (applicant_of old now)
  shorter =
      elim (takes_part old application) as (λ b. BothShorter (cond b (option_map (applicant application) (get old.children application.child)) None)
      (cond b (option_map (applicant now) (get old.children application.child)) None)) [
        | false ↦ tt
        | true ↦ by (get old.children application.child)
      ]
    where
      stays : Code → Bool
      stays code = not (has_left old.left application.child code)

      own : own_school (get old.places application.child) ≡ None
      own = ap own_school free

      whole : wanted_of old application ≡ filter stays application.list
      whole = λ i. filter stays (above (free i) application.list)

      first : wanted_of old now ≡ filter stays (take count application.list)
      first = λ i. filter stays (above (free i) (take count application.list))

      by : (o : Option Child) → BothShorter (option_map (applicant application) o) (option_map (applicant now) o)
      by None = tt
      by (Some child) =
          let taken = filter_taken stays count application.list in
          inr (refl, own, own, (taken.0, whole ∙ (taken.1 ∙ ap (λ ws. ws ++ taken.0) (sym first))))

  entrants_shorter : AllZip IsShorter (round_applicants old) (round_applicants new)
  entrants_shorter =
      let P : Application → Application → Type 0 = λ a b. BothShorter (applicant_of old a) (applicant_of old b) in
      let zipped = put_zip nat_cmp_total P (λ a. both_same (applicant_of old a)) application.child application now shorter (entries old.applications)
      (entries_sorted old.applications) (sym (get-entries old.applications application.child) ∙ there) in
      let put_in : AllZip P (values old.applications) (values (insert old.applications application.child now)) = subst
      (λ es. AllZip P (values old.applications) (map (λ e. e.1) es)) (sym (entries-insert nat_cmp_total old.applications application.child now)) zipped in
      zip_some (applicant_of old) (values old.applications) (values (insert old.applications application.child now)) put_in

  generous : (numbers drawn : List ℕ) → KeepsLots new (round_lots old numbers) (round_lots new drawn) → IsAsGenerous (round_market new drawn) (round_market old numbers)
  generous numbers drawn keeps =
      let first = lot_at (round_lots old numbers) in
      let second = lot_at (round_lots new drawn) in
      let was = candidate_of (site_of (sites old)) first in
      let is = candidate_of (site_of (sites old)) second in
      let zipped = zip_with IsShorter (λ a b. IsCutFrom (is b) (was a)) (SameLots second first) (candidate_cut (sites old) second first) (round_applicants old)
      (round_applicants new) entrants_shorter (recursion_from_All (SameLots second first) (round_applicants new) keeps) in
      record {
        entrants = zip_any (λ whole cut. IsCutFrom cut whole) (map was (round_applicants old)) (map is (round_applicants new)) (zip_pair was is (round_applicants old) (round_applicants new) zipped);
        places = λ s. omega arith;
      }
    where
      zip_pair : (f g : Applicant → Candidate) (xs ys : List Applicant) → AllZip (λ a b. IsCutFrom (g b) (f a)) xs ys → AllZip (λ whole cut. IsCutFrom cut whole) (map f xs) (map g ys)
      zip_pair f g xs ys h = zip_map (λ whole cut. IsCutFrom cut whole) f g xs ys h

pub no_loss_by_shorter_list_law : NoLoss → NoLossByShorterList
no_loss_by_shorter_list_law law old application count numbers drawn before after first second there free well fits keeps =
    let new = with_application old (first_listed count application) in
    law (round_market new drawn) (round_market old numbers) second.allocation first.allocation
    (faultless (sites new) (round_applicants new) (round_lots new drawn) (posed new drawn well fits))
    (generous old application count there free numbers drawn keeps) second.best first.best.stable
