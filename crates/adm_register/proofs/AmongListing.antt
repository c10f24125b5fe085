-- Who waits at a school is found among the applications that list it, or that list one of several schools.
use Rattle.std.proofs.Common.{◌≡◌, ◌∙◌, ap, sym, refl, cond, ℕ, Bool, true, false, List, [], ◌∷◌, Option, Some, None, inl, inr}
use Rattle.std.specs.Prelude.{filter, ◌&&◌, option_map}
use Rattle.std.specs.List.{filter_map, cons_option}
use Rattle.std.specs.FinMap.{get}
use Rattle.std.proofs.lemmas.Bool.{false≢true, cases_Bool}
use Rattle.adm_lists.proofs.Members.{none_in}
use Rattle.adm_types.specs.Limits.{is_listed}
use Rattle.adm_types.specs.declared.rows.Application.{Application}
use Rattle.adm_register.specs.State.{State}
use Rattle.adm_register.specs.WellFormed.{has_first_round}
use Rattle.adm_register.specs.declared.standings.Standing.{Standing}
use Rattle.adm_register.specs.Wanted.{wanted_of, wanted}
use Rattle.adm_register.specs.Waits.{is_waiting, lists_some, waiting_child, standing_of, standing_at, standings_of}
use Rattle.adm_register.proofs.WaitLemmas.{unlisted}
use Rattle.adm_register.proofs.RoundLemmas.{listed_in, in_listed}

-- what gives nothing wherever a test fails gives the same of those that pass
of_those : {X Y : Type 0} (p : X → Bool) (h : X → Option Y) → ((x : X) → p x ≡ false → h x ≡ None) → (xs : List X) → filter_map h (filter p xs) ≡ filter_map h xs
of_those p h none [] = refl
of_those p h none (x ∷ xs) =
    by (p x) refl (of_those p h none xs)
  where
    by : (b : Bool) → p x ≡ b → filter_map h (filter p xs) ≡ filter_map h xs → filter_map h (cond b (x ∷ filter p xs) (filter p xs)) ≡ cons_option (h x) (filter_map h xs)
    by true passes rest = ap (cons_option (h x)) rest
    by false fails rest = rest ∙ sym (ap (λ o. cons_option o (filter_map h xs)) (none x fails))

module _ (s : State) (codes : List (List ℕ)) (code : List ℕ) (among : is_listed codes code ≡ true) where
  -- one that lists none of the schools does not list this one
  lists_not : (application : Application) → lists_some codes application ≡ false → is_listed application.list code ≡ false
  lists_not application none = elim (cases_Bool (is_listed application.list code)) [
    | inl there ↦ absurd (false≢true (sym (none_in (is_listed codes) application.list code none (listed_in application.list code there)) ∙ among))
    | inr apart ↦ apart
  ]

  gives_nothing : (application : Application) → lists_some codes application ≡ false → waiting_child s code application ≡ None
  gives_nothing application none = ap (λ b. cond b (get s.children application.child) None) (sym (unlisted s application code (lists_not application none)))

  pub found_among : (applications : List Application) → filter_map (waiting_child s code) (filter (lists_some codes) applications) ≡ filter_map (waiting_child s code) applications
  found_among = of_those (lists_some codes) (waiting_child s code) gives_nothing

-- a school is among the schools of which it is one
pub one_of_itself : (code : List ℕ) → is_listed (code ∷ []) code ≡ true
one_of_itself code = in_listed (code ∷ []) code (inl refl)

-- before the first round nobody is on a waiting list
module _ (s : State) (child : ℕ) (none : has_first_round s.draws ≡ false) where
  nobody : (code : List ℕ) → is_waiting s child code ≡ false
  nobody code = by (get s.applications child) refl
    where
      by : (o : Option Application) → get s.applications child ≡ o → is_waiting s child code ≡ false
      by None is = rw is refl
      by (Some application) is = rw is (ap (λ b. b && is_listed (wanted_of s application) code) none)

  nowhere : (codes : List (List ℕ)) → filter_map (standing_at s child) codes ≡ []
  nowhere [] = refl
  nowhere (code ∷ codes) =
      ap (λ (o : Option (List ℕ × Standing)). cons_option o (filter_map (standing_at s child) codes)) (ap (option_map (λ standing. (code, standing))) (not_waiting (nobody code))) ∙ nowhere codes
    where
      not_waiting : is_waiting s child code ≡ false → standing_of s child code ≡ None
      not_waiting fails = rw fails refl

  pub nobody_stands : [] ≡ standings_of s child
  nobody_stands = sym (nowhere (wanted s child))
