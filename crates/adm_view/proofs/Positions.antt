-- The position of a child is read off the ranks of those that wait, which a map has for each school that is asked for.
use Rattle.std.proofs.Common.{◌≡◌, ◌∙◌, ◌+◌, ◌<◌, ◌≤◌, inl, inr, ap, sym, subst, refl, cond, ℕ, ◌&&◌, List, [], ◌∷◌, ◌++◌, map, take, length, get_or, Bool, true, false, Option, Some, None, Vec, Global, arith}
use Rattle.std.specs.Prelude.{IsSorted, All, count_by}
use Rattle.std.specs.Ordering.{is_lt}
use Rattle.std.specs.Cmp.{IsTotalOrder}
use Rattle.std.specs.BTreeMap.{BTreeMap, get, UpdatesBy}
use Rattle.std.specs.FinMap as rows
use Rattle.std.proofs.lemmas.Bool.{cases_Bool, false≢true, and_parts}
use Rattle.std.proofs.lemmas.Bool.Decides.{nat_tests}
use Rattle.std.proofs.lemmas.Cmp.{nat_cmp_total, on_total, then_total}
use Rattle.std.proofs.lemmas.List.{length-map}
use Rattle.std.proofs.lemmas.List.Sorted.{length_permutation, sum_by-IsPermutation, ranks_by, sorted_far}
use Rattle.std.proofs.lemmas.List.Sums.{sum_by-cons}
use Rattle.std.proofs.lemmas.Option.{none-some, same_Some}
use Rattle.std.proofs.lemmas.Map.Text.{is_eq-slice_cmp}
use Rattle.std.proofs.lemmas.Slice.Eq.{bytes_eq-Decides}
use Rattle.std.specs.Str.{bytes_eq}
use Rattle.adm_lists.proofs.Members.{In, in_All, All_in, in_map, from_append}
use Rattle.adm_lists.proofs.Walks.{next_of}
use Rattle.adm_lists.proofs.Maps.{in_values}
use Rattle.std.specs.Cmp.Lexicographic.{nat_list_cmp_total}
use Rattle.adm_register.proofs.Maps.{code_cmp-IsAntisymmetric}
use Rattle.adm_register.proofs.RoundLemmas.{listed_in}
use Rattle.adm_types.specs.Limits.{code_cmp, is_listed}
use Rattle.adm_types.specs.declared.rows.School.{School}
use Rattle.adm_types.specs.declared.rows.Child.{Child}
use Rattle.adm_types.specs.declared.rows.Application.{Application}
use Rattle.adm_waiting.specs.Waiting.{is_ahead}
use Rattle.adm_register.specs.State.{State}
use Rattle.adm_register.specs.WellFormed.{WellFormed, has_first_round}
use Rattle.adm_register.specs.Wanted.{wanted_of, wanted}
use Rattle.adm_register.specs.Waits.{is_waiting, waiting_at, standing_of}
use Rattle.adm_view.specs.declared.waits.Rank.{Rank}
use Rattle.adm_view.specs.Waits.{rank_of, rank_cmp, is_rank_ahead, AreRanks, HasRanks, HasRanksAt, AddsRanks, HasWaits, HasWaitsOf, standing_among}

-- ---- ranks in order

rank_total : IsTotalOrder rank_cmp
rank_total = then_total (on_total (λ (r : Rank). r.class) nat_cmp_total) (on_total (λ (r : Rank). r.metres) nat_cmp_total)

abbrev before : Rank → Rank → Bool
before one other = is_lt (rank_cmp one other)

ahead_too : (x y one : Rank) → before y x ≡ false → is_rank_ahead y one ≡ true → is_rank_ahead x one ≡ true
ahead_too x y one h k = grind (arith, nat_tests)

-- of ranks in order, those that are ahead of one are in front
pub ahead_in_front : (xs : List Rank) (one : Rank) → IsSorted rank_cmp xs → (i j : ℕ) (d : Rank) → i ≤ j → j < length xs → is_rank_ahead (get_or xs j d) one ≡ true
    → is_rank_ahead (get_or xs i d) one ≡ true
ahead_in_front xs one up i j d l m h = ahead_too (get_or xs i d) (get_or xs j d) one (sorted_far before (ranks_by rank_total (λ (r : Rank). r)) xs up i j d l m) h

-- ---- the position

count_map : {X Y : Type 0} (f : X → Y) (p : Y → Bool) (xs : List X) → count_by p (map f xs) ≡ count_by (λ x. p (f x)) xs
count_map f p [] = refl
count_map {X} {Y} f p (x ∷ xs) =
    sum_by-cons (λ (w : Y). cond (p w) 1 0) (f x) (map f xs) ∙ ap (λ n. cond (p (f x)) 1 0 + n) (count_map f p xs)
    ∙ sym (sum_by-cons (λ (w : X). cond (p (f w)) 1 0) x xs)

module _ (s : State) (school : School) (ranks : List Rank) (are : AreRanks s school ranks) where
  -- as many ranks as children are ahead of a child
  counted : (child : Child) → count_by (λ (other : Rank). is_rank_ahead other (rank_of school child)) ranks ≡ count_by (λ (other : Child). is_ahead school other child) (waiting_at s school.code)
  counted child =
      sum_by-IsPermutation (λ (other : Rank). cond (is_rank_ahead other (rank_of school child)) 1 0) (map (rank_of school) (waiting_at s school.code)) ranks are.same
      ∙ count_map (rank_of school) (λ (other : Rank). is_rank_ahead other (rank_of school child)) (waiting_at s school.code)

  -- and there are as many ranks as children
  pub as_many : length ranks ≡ length (waiting_at s school.code)
  as_many = length_permutation (map (rank_of school) (waiting_at s school.code)) ranks are.same ∙ length-map (waiting_at s school.code) (rank_of school)

  at_own : (child : Child) → is_waiting s child.no school.code ≡ true → rows.get s.schools school.code ≡ Some school → rows.get s.children child.no ≡ Some child
      → Some (standing_among ranks child (rank_of school child)) ≡ standing_of s child.no school.code
  at_own child waits there known =
      (λ i. Some (record {
        entry = record { position = 1 + counted child i; child = child.no; class = (rank_of school child).class; metres = (rank_of school child).metres };
        many = as_many i;
      }))
      ∙ rw (waits, there, known) refl

  -- what the ranks say of a child that waits is its position
  pub standing_is : (child : Child) (code : List ℕ) → school.code ≡ code → is_waiting s child.no code ≡ true → rows.get s.schools code ≡ Some school → rows.get s.children child.no ≡ Some child
      → Some (standing_among ranks child (rank_of school child)) ≡ standing_of s child.no code
  standing_is child code own waits there known =
      subst (λ c. Some (standing_among ranks child (rank_of school child)) ≡ standing_of s child.no c) own
      (at_own child (subst (λ c. is_waiting s child.no c ≡ true) (sym own) waits) (ap (rows.get s.schools) own ∙ there) known)

-- ---- the map

module _ (s : State) (well : WellFormed s) (school : School) (old new : BTreeMap (List ℕ) (Vec Rank Global)) (ranks : Vec Rank Global) where
  -- the ranks of a school are put in
  pub ranks_put : rows.get s.schools school.code ≡ Some school → UpdatesBy code_cmp (code_cmp school.code) old new (Some ranks) → AreRanks s school ranks.items → AddsRanks s school.code old new
  ranks_put there updates are = record {
    here = λ x other. subst (HasRanks s new) (same_Some school x (sym there ∙ other)) own;
    kept = λ code had x other. kept_at code x other (had x other);
  }
    where
      own : HasRanks s new school
      own = (
        ranks,
        updates.0 school.code ∙ ap (λ b. cond b (Some ranks) (get code_cmp old school.code)) (is_eq-slice_cmp school.code school.code ∙ (bytes_eq-Decides school.code school.code).1 refl),
        are,
      )

      kept_at : (code : List ℕ) (x : School) → rows.get s.schools code ≡ Some x → HasRanks s old x → HasRanks s new x
      kept_at code x other had = elim (cases_Bool (bytes_eq school.code x.code)) [
        | inl hit ↦
            let code_is : school.code ≡ code = (bytes_eq-Decides school.code x.code).0 hit ∙ (well.base.schools_fit code x other).own_code in
            subst (HasRanks s new) (same_Some school x (sym there ∙ ap (rows.get s.schools) code_is ∙ other)) own
        | inr miss ↦ (had.0, updates.2 x.code (is_eq-slice_cmp school.code x.code ∙ miss) ∙ had.1, had.2)
      ]

-- where there is no school of this code, nothing has to be put in
pub none_put : (s : State) (code : List ℕ) (waits : BTreeMap (List ℕ) (Vec Rank Global)) → rows.get s.schools code ≡ None → AddsRanks s code waits waits
none_put s code waits none = record { here = λ school there. absurd (none-some school (sym none ∙ there)); kept = λ other had. had }

-- the ranks at one more code are put in
pub ranks_added : (s : State) (codes : List (List ℕ)) (i : ℕ) (code : List ℕ) (old new : BTreeMap (List ℕ) (Vec Rank Global)) → i < length codes → code ≡ get_or codes i code
    → AddsRanks s code old new → All (HasRanksAt s old) (take i codes) → All (HasRanksAt s new) (take (i + 1) codes)
ranks_added s codes i code old new within at adds so_far =
    subst (All (HasRanksAt s new)) (sym (next_of codes i code within at)) (in_All (HasRanksAt s new) (take i codes ++ code ∷ []) (λ x there. elim (from_append (take i codes) (code ∷ []) x there) [
      | inl earlier ↦ adds.kept x (All_in (HasRanksAt s old) (take i codes) x so_far earlier)
      | inr last ↦ elim last [ inl same ↦ subst (HasRanksAt s new) same adds.here | inr none ↦ absurd none ]
    ]))

-- where the ranks at the codes of all schools are put in, the map has those of each
pub has_waits : (s : State) (codes : List (List ℕ)) (waits : BTreeMap (List ℕ) (Vec Rank Global)) → codes ≡ map (λ (school : School). school.code) (rows.values s.schools)
    → All (HasRanksAt s waits) codes → HasWaits s waits
has_waits s codes waits are all = record {
  each = λ school there.
      let listed = in_map (λ (x : School). x.code) (rows.values s.schools) school (in_values nat_list_cmp_total code_cmp-IsAntisymmetric s.schools school.code school there) in
      All_in (HasRanksAt s waits) codes school.code all (subst (In school.code) (sym are) listed) school there;
}

-- a child wants each school at which it waits
waits_where_wanted : (s : State) (child : ℕ) (code : List ℕ) → is_waiting s child code ≡ true → In code (wanted s child)
waits_where_wanted s child code = by (rows.get s.applications child) refl
  where
    by : (found : Option Application) → rows.get s.applications child ≡ found → is_waiting s child code ≡ true → In code (wanted s child)
    by None is waiting = absurd (false≢true (sym (rw is refl) ∙ waiting))
    by (Some application) is waiting =
        let applies : (has_first_round s.draws && is_listed (wanted_of s application) code) ≡ true = sym (rw is refl) ∙ waiting in
        let listed : is_listed (wanted_of s application) code ≡ true = (and_parts (has_first_round s.draws) (is_listed (wanted_of s application) code) applies).1 in
        let same : wanted s child ≡ wanted_of s application = rw is refl in
        subst (In code) (sym same) (listed_in (wanted_of s application) code listed)

-- where the ranks at all schools that a child wants are put in, the map has those of each at which it waits
pub has_waits_of : (s : State) (child : ℕ) (codes : List (List ℕ)) (waits : BTreeMap (List ℕ) (Vec Rank Global)) → codes ≡ wanted s child → All (HasRanksAt s waits) codes
    → HasWaitsOf s child waits
has_waits_of s child codes waits are all = record {
  each = λ school there waiting.
      All_in (HasRanksAt s waits) codes school.code all (subst (In school.code) (sym are) (waits_where_wanted s child school.code waiting)) school there;
}

-- what the map has at the code of a school at which a child waits is its ranks
pub ranks_there : (s : State) (child : ℕ) (waits : BTreeMap (List ℕ) (Vec Rank Global)) (code : List ℕ) (school : School) → WellFormed s → HasWaitsOf s child waits
    → is_waiting s child code ≡ true → rows.get s.schools code ≡ Some school
    → (ranks : Vec Rank Global) × (get code_cmp waits code ≡ Some ranks) × AreRanks s school ranks.items × (school.code ≡ code)
ranks_there s child waits code school well has waiting there =
    let own : school.code ≡ code = (well.base.schools_fit code school there).own_code in
    let found = has.each school (ap (rows.get s.schools) own ∙ there) (ap (is_waiting s child) own ∙ waiting) in
    (found.0, ap (get code_cmp waits) (sym own) ∙ found.1, found.2, own)
