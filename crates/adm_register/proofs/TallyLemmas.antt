-- What one walk over all applications counts at several schools is what the waiting list of each has.
use Rattle.std.proofs.Common.{◌≡◌, ◌∙◌, ap, sym, subst, refl, cond, ℕ, suc, ◌+◌, ◌-◌, ◌^◌, ◌<◌, ◌≤◌, Bool, true, false, List, [], ◌∷◌, ◌++◌, map, length, take, drop, get_or, Option, Some, None, inl, inr, arith}
use Rattle.std.specs.Prelude.{◌&&◌, not, count_by, option_map, fold, min}
use Rattle.std.specs.List.{filter_map, cons_option, list_all, position_or_len}
use Rattle.std.specs.FinMap.{get, values, nat_cmp-IsAntisymmetric}
use Rattle.std.specs.Cmp.{nat_cmp_total}
use Rattle.std.proofs.lemmas.Bool.{false≢true}
use Rattle.std.proofs.lemmas.List.{map-id, take-append-drop, take_all}
use Rattle.std.proofs.lemmas.List.Sums.{sum_by-cons, fold-append, count_by-le-length, position_or_len_is}
use Rattle.std.proofs.lemmas.Simd.{map-map}
use Rattle.std.proofs.lemmas.Bool.Decides.{nat_tests}
use Rattle.adm_lists.proofs.Members.{In, in_filter_map}
use Rattle.adm_lists.proofs.Maps.{in_values}
use Rattle.adm_types.specs.Limits.{is_listed, is_school_in_range}
use Rattle.adm_types.specs.declared.rows.Child.{Child}
use Rattle.adm_types.specs.declared.rows.Application.{Application}
use Rattle.adm_types.specs.declared.rows.School.{School}
use Rattle.adm_waiting.specs.declared.tallies.Tally.{Tally}
use Rattle.adm_waiting.specs.Waiting.{is_ahead}
use Rattle.adm_waiting.specs.Tallies.{is_ahead_of, tally_of, with_child}
use Rattle.adm_register.specs.declared.standings.Standing.{Standing}
use Rattle.adm_register.specs.State.{State}
use Rattle.adm_register.specs.WellFormed.{WellFormed, has_first_round}
use Rattle.adm_register.specs.Wanted.{wanted_of}
use Rattle.adm_register.specs.Waits.{waits, is_waiting, waiting_child, waiting_at, standing_at}
use Rattle.adm_register.specs.Tallies.{tally_among, tally_at, lists_tallied, has_school_in_range, with_waiting, with_application, with_applications, standing_in}
use Rattle.adm_register.proofs.WaitLemmas.{unlisted}

-- ---- the schools of tallies stay in range

school_kept : (tally : Tally) (o : Option Child) → (with_waiting tally o).school ≡ tally.school
school_kept tally None = refl
school_kept tally (Some child) = refl

pub in_range_kept : (s : State) (application : Application) (tallies : List Tally)
    → list_all has_school_in_range (map (with_application s application) tallies) ≡ list_all has_school_in_range tallies
in_range_kept s application [] = refl
in_range_kept s application (tally ∷ tallies) =
    λ i. is_school_in_range (school_kept tally (waiting_child s tally.school.code application) i) && in_range_kept s application tallies i

pub in_range_after : (s : State) (applications : List Application) (tallies : List Tally)
    → list_all has_school_in_range (with_applications s tallies applications) ≡ list_all has_school_in_range tallies
in_range_after s [] tallies = refl
in_range_after s (application ∷ applications) tallies =
    in_range_after s applications (map (with_application s application) tallies) ∙ in_range_kept s application tallies

-- so are those of children that wait, of whom none was counted
pub in_range_at : (s : State) → WellFormed s → (child : ℕ) (codes : List (List ℕ)) → list_all has_school_in_range (filter_map (tally_at s child) codes) ≡ true
in_range_at s well child [] = refl
in_range_at s well child (code ∷ codes) =
    by (is_waiting s child code) (get s.schools code) (get s.children child) refl (in_range_at s well child codes)
  where
    by : (b : Bool) (school : Option School) (row : Option Child) → get s.schools code ≡ school → list_all has_school_in_range (filter_map (tally_at s child) codes) ≡ true
        → list_all has_school_in_range (cons_option (cond b (tally_among school row) None) (filter_map (tally_at s child) codes)) ≡ true
    by false school row is rest = rest
    by true None row is rest = rest
    by true (Some school) None is rest = rest
    by true (Some school) (Some row) is rest =
        let fits : is_school_in_range school ≡ true = (well.base.schools_fit code school is).in_range in
        λ i. fits i && rest i

-- ---- an application that lists none of the schools

pub left_as_is : (s : State) (application : Application) (tally : Tally) → lists_tallied application.list tally ≡ false → with_application s application tally ≡ tally
left_as_is s application tally none = ap (λ b. with_waiting tally (cond b (get s.children application.child) None)) (sym (unlisted s application tally.school.code none))

-- nor does one change anything whose child is not there
pub nobody_there : (s : State) (application : Application) → get s.children application.child ≡ None → (tallies : List Tally) → map (with_application s application) tallies ≡ tallies
nobody_there s application none [] = refl
nobody_there s application none (tally ∷ tallies) =
    λ i. with_nobody (waits s application tally.school.code) i ∷ nobody_there s application none tallies i
  where
    with_nobody : (b : Bool) → with_waiting tally (cond b (get s.children application.child) None) ≡ tally
    with_nobody true = ap (with_waiting tally) none
    with_nobody false = refl

-- what stays where a test fails stays in front of the first that passes
front_fixed : (f : Tally → Tally) (p : Tally → Bool) → ((t : Tally) → p t ≡ false → f t ≡ t) → (ts : List Tally) → map f (take (position_or_len p ts) ts) ≡ take (position_or_len p ts) ts
front_fixed f p same [] = refl
front_fixed f p same (t ∷ ts) =
    elim (p t) as (λ b. p t ≡ b → map f (take (cond (not b) (1 + position_or_len p ts) 0) (t ∷ ts)) ≡ take (cond (not b) (1 + position_or_len p ts) 0) (t ∷ ts)) [
      | true ↦ λ hit. refl
      | false ↦ λ miss. more (position_or_len p ts) (same t miss) (front_fixed f p same ts)
    ] refl
  where
    more : (n : ℕ) → f t ≡ t → map f (take n ts) ≡ take n ts → map f (take (1 + n) (t ∷ ts)) ≡ take (1 + n) (t ∷ ts)
    more n first rest =
        let next : suc n ≡ 1 + n = omega arith in
        subst (λ k. map f (take k (t ∷ ts)) ≡ take k (t ∷ ts)) next (λ i. first i ∷ rest i)

module _ (s : State) (application : Application) (tallies : List Tally) (first : ℕ) (is : first ≡ position_or_len (lists_tallied application.list) tallies) where
  front : map (with_application s application) (take first tallies) ≡ take first tallies
  front = subst (λ n. map (with_application s application) (take n tallies) ≡ take n tallies) (sym is)
      (front_fixed (with_application s application) (lists_tallied application.list) (left_as_is s application) tallies)

  -- those in front of the first whose school it lists stay
  pub begun : tallies ≡ map (with_application s application) (take first tallies) ++ drop first tallies
  begun = sym (take-append-drop first tallies) ∙ ap (λ ts. ts ++ drop first tallies) (sym front)

  -- and where it lists none of the schools, all do
  pub none_listed : length tallies ≤ first → tallies ≡ map (with_application s application) tallies
  none_listed all =
      let whole : take first tallies ≡ tallies = take_all first tallies all in
      sym whole ∙ sym front ∙ ap (map (with_application s application)) whole

-- where none passes, the first that does is past the end
pub none_passes : {X : Type 0} (p : X → Bool) (xs : List X) → ((k : ℕ) (d : X) → k < length xs → p (get_or xs k d) ≡ false) → length xs ≡ position_or_len p xs
none_passes p [] none = refl
none_passes p (x ∷ xs) none =
    sym (position_or_len_is p (x ∷ xs) (length (x ∷ xs)) x (omega arith) (λ k within. none k x within) (λ less. absurd (omega (arith, less))))

-- ---- the child of one application at one school

module _ (s : State) (application : Application) (tally : Tally) (child : Child) (held : has_first_round s.draws ≡ true) (there : Some child ≡ get s.children application.child) where
  -- it is counted where it wants the school
  pub counted_if : (wants : Bool) → wants ≡ is_listed (wanted_of s application) tally.school.code → cond wants (with_child tally child) tally ≡ with_application s application tally
  counted_if wants is =
      let waits' : wants ≡ waits s application tally.school.code = is ∙ sym (ap (λ b. b && is_listed (wanted_of s application) tally.school.code) held) in
      by wants ∙ (λ i. with_waiting tally (cond (waits' i) (there i) None))
    where
      by : (b : Bool) → cond b (with_child tally child) tally ≡ with_waiting tally (cond b (Some child) None)
      by true = refl
      by false = refl

-- ---- what all applications give one tally

-- a tally with these numbers, each up to the greatest that it can hold
abbrev holding : Tally → ℕ → ℕ → Tally
holding tally position many = record tally { position = min position (2 ^ 64 - 1); many = min many (2 ^ 64 - 1) }

nothing_more : (n : ℕ) → n ≡ n + 0
nothing_more n = omega arith

raised : (n most : ℕ) → min (min n most + 1) most ≡ min (n + 1) most
raised n most = omega arith

raised_if : (b : Bool) (n most : ℕ) → cond b (min (min n most + 1) most) (min n most) ≡ min (n + cond b 1 0) most
raised_if true n most = raised n most
raised_if false n most = ap (λ k. min k most) (nothing_more n)

module _ (tally : Tally) where
  one_child : (position many : ℕ) (child : Child) → with_child (holding tally position many) child ≡ holding tally (position + cond (is_ahead_of tally child) 1 0) (many + 1)
  one_child position many child = λ i. record tally { position = raised_if (is_ahead_of tally child) position (2 ^ 64 - 1) i; many = raised many (2 ^ 64 - 1) i }

  module _ (s : State) where
    abbrev of_code : Application → Option Child
    of_code application = waiting_child s tally.school.code application

    abbrev counts : Tally → Application → Tally
    counts t application = with_application s application t

    all_counted : (applications : List Application) (position many : ℕ) → fold counts (holding tally position many) applications
        ≡ holding tally (position + count_by (is_ahead_of tally) (filter_map of_code applications)) (many + length (filter_map of_code applications))
    all_counted [] position many = λ i. holding tally (nothing_more position i) (nothing_more many i)
    all_counted (application ∷ applications) position many = by (of_code application) (all_counted applications)
      where
        by : (o : Option Child) → ((position many : ℕ) → fold counts (holding tally position many) applications
            ≡ holding tally (position + count_by (is_ahead_of tally) (filter_map of_code applications)) (many + length (filter_map of_code applications)))
            → fold counts (with_waiting (holding tally position many) o) applications
            ≡ holding tally (position + count_by (is_ahead_of tally) (cons_option o (filter_map of_code applications))) (many + length (cons_option o (filter_map of_code applications)))
        by None rest = rest position many
        by (Some child) rest =
            let more = sum_by-cons (λ (c : Child). cond (is_ahead_of tally c) 1 0) child (filter_map of_code applications) in
            let ahead : (position + cond (is_ahead_of tally child) 1 0) + count_by (is_ahead_of tally) (filter_map of_code applications)
            ≡ position + count_by (is_ahead_of tally) (child ∷ filter_map of_code applications) = omega (arith, more) in
            let waits' : (many + 1) + length (filter_map of_code applications) ≡ many + length (child ∷ filter_map of_code applications) = omega arith in
            ap (λ t. fold counts t applications) (one_child position many child) ∙ rest (position + cond (is_ahead_of tally child) 1 0) (many + 1)
            ∙ (λ i. holding tally (ahead i) (waits' i))

-- ---- all tallies

-- each tally is walked over by itself
pub each_counted : (s : State) (applications : List Application) (tallies : List Tally)
    → with_applications s tallies applications ≡ map (λ tally. fold (λ t application. with_application s application t) tally applications) tallies
each_counted s [] tallies = sym (map-id tallies)
each_counted s (application ∷ applications) tallies =
    each_counted s applications (map (with_application s application) tallies)
    ∙ map-map (λ tally. fold (λ t application. with_application s application t) tally applications) (with_application s application) tallies

-- one walk after another is one over both lists
pub counted_further : (s : State) (tallies : List Tally) (before more : List Application)
    → with_applications s (with_applications s tallies before) more ≡ with_applications s tallies (before ++ more)
counted_further s tallies before more = sym (fold-append (λ (counted : List Tally) (application : Application). map (with_application s application) counted) tallies before more)

-- ---- the standing at one school

length_given : {X Y : Type 0} (h : X → Option Y) (xs : List X) → length (filter_map h xs) ≤ length xs
length_given h [] = omega arith
length_given {X} {Y} h (x ∷ xs) = by (h x) (length_given h xs)
  where
    by : (o : Option Y) → length (filter_map h xs) ≤ length xs → length (cons_option o (filter_map h xs)) ≤ length (x ∷ xs)
    by None rest = omega arith
    by (Some y) rest = omega arith

count_short : {X : Type 0} (p : X → Bool) (xs : List X) (z : X) → In z xs → p z ≡ false → count_by p xs < length xs
count_short p [] z at fails = absurd at
count_short {X} p (x ∷ xs) z at fails =
    let more = sum_by-cons (λ (y : X). cond (p y) 1 0) x xs in
    elim at [
      | inl same ↦
          let here : cond {A = ℕ} (p x) 1 0 ≡ 0 = ap (λ b. cond {A = ℕ} b 1 0) (ap p same ∙ fails) in
          let most = count_by-le-length p xs in
          omega arith
      | inr later ↦
          let here = small (p x) in
          let rest = count_short p xs z later fails in
          omega arith
    ]
  where
    small : (b : Bool) → cond b 1 0 ≤ 1
    small true = omega arith
    small false = omega arith

not_ahead_of_itself : (school : School) (child : Child) → is_ahead school child child ≡ false
not_ahead_of_itself school child = grind (arith, nat_tests)

module _ (s : State) (well : WellFormed s) (child : ℕ) (room : length (values s.applications) ≤ 2 ^ 64 - 1) where
  abbrev after_all : Tally → List ℕ × Standing
  after_all tally = standing_in (fold (λ t application. with_application s application t) tally (values s.applications))

  -- a child that waits is among those that wait
  waits_there : (code : List ℕ) (row : Child) → is_waiting s child code ≡ true → get s.children child ≡ Some row → In row (waiting_at s code)
  waits_there code row waiting there = by (get s.applications child) refl waiting
    where
      by : (o : Option Application) → get s.applications child ≡ o → is_waiting s child code ≡ true → In row (waiting_at s code)
      by None none w = absurd (false≢true (rw none at w))
      by (Some application) some w =
          let own : application.child ≡ child = (well.base.applications_fit child application some).own_number in
          let waits' : waits s application code ≡ true = rw some at w in
          let given : waiting_child s code application ≡ Some row =
          (λ i. cond (waits' i) (get s.children (own i)) None) ∙ there in
          in_filter_map (waiting_child s code) (values s.applications) application row
          (in_values nat_cmp_total nat_cmp-IsAntisymmetric s.applications child application some) given

  counted_at : (code : List ℕ) (school : School) (row : Child) → school.code ≡ code → In row (waiting_at s code)
      → after_all (tally_of school row) ≡ (
        code,
        record {
          entry = record { position = 1 + count_by (λ other. is_ahead school other row) (waiting_at s code); child = row.no; class = (tally_of school row).class; metres = (tally_of school row).metres };
          many = length (waiting_at s code);
        },
      )
  counted_at code school row own there =
      let tally = tally_of school row in
      let few : length (waiting_at s code) ≤ length (values s.applications) = length_given (waiting_child s code) (values s.applications) in
      let short : count_by (λ other. is_ahead school other row) (waiting_at s code) < length (waiting_at s code) =
      count_short (λ other. is_ahead school other row) (waiting_at s code) row there (not_ahead_of_itself school row) in
      let position : min (1 + count_by (λ other. is_ahead school other row) (waiting_at s code)) (2 ^ 64 - 1) ≡ 1 + count_by (λ other. is_ahead school other row) (waiting_at s code) = omega arith in
      let many : min (0 + length (waiting_at s code)) (2 ^ 64 - 1) ≡ length (waiting_at s code) = omega arith in
      ap standing_in (all_counted tally s (values s.applications) 1 0)
      ∙ (λ i. standing_in (holding tally (1 + count_by (is_ahead_of tally) (waiting_at s (own i))) (0 + length (waiting_at s (own i)))))
      ∙ (λ i. (own i, record { entry = record { position = position i; child = tally.child; class = tally.class; metres = tally.metres }; many = many i }))

  one_standing : (code : List ℕ) → option_map after_all (tally_at s child code) ≡ standing_at s child code
  one_standing code = by (is_waiting s child code) (get s.schools code) (get s.children child) refl refl refl
    where
      by : (b : Bool) (school : Option School) (row : Option Child) → is_waiting s child code ≡ b → get s.schools code ≡ school → get s.children child ≡ row
          → option_map after_all (tally_at s child code) ≡ standing_at s child code
      by false school row waiting there known = rw waiting refl
      by true None row waiting there known = rw (waiting, there) refl
      by true (Some school) None waiting there known = rw (waiting, there, known) refl
      by true (Some school) (Some row) waiting there known =
          rw (waiting, there, known) (ap Some (counted_at code school row (well.base.schools_fit code school there).own_code (waits_there code row waiting known)))

  standings : (codes : List (List ℕ)) → map after_all (filter_map (tally_at s child) codes) ≡ filter_map (standing_at s child) codes
  standings [] = refl
  standings (code ∷ codes) =
      first (tally_at s child code) ∙ (λ i. cons_option (one_standing code i) (standings codes i))
    where
      first : (o : Option Tally) → map after_all (cons_option o (filter_map (tally_at s child) codes)) ≡ cons_option (option_map after_all o) (map after_all (filter_map (tally_at s child) codes))
      first None = refl
      first (Some tally) = refl

  -- what the tallies say when all have been counted
  pub all_standings : (codes : List (List ℕ)) (tallies : List Tally) → tallies ≡ with_applications s (filter_map (tally_at s child) codes) (values s.applications)
      → map standing_in tallies ≡ filter_map (standing_at s child) codes
  all_standings codes tallies are =
      ap (map standing_in) (are ∙ each_counted s (values s.applications) (filter_map (tally_at s child) codes))
      ∙ map-map standing_in (λ tally. fold (λ t application. with_application s application t) tally (values s.applications)) (filter_map (tally_at s child) codes)
      ∙ standings codes
