-- The entries of ranks in order are the waiting list of the children whose ranks these are.
use Rattle.std.proofs.Common.{◌≡◌, ◌⊎◌, ◌<◌, ◌≤◌, ◌+◌, ℕ, zero, suc, List, [], ◌∷◌, ◌++◌, map, take, length, get_or, Bool, true, false, cond, ◌&&◌, ◌||◌, inl, inr, refl, sym, ap, ◌∙◌, subst, arith}
use Rattle.std.specs.Prelude.{IsPermutation, IsSorted, All, Contains, count_by, ◌==◌, nat_lt, nat_eq}
use Rattle.std.specs.declared.cmp.Ordering.TheVariants.{Less}
use Rattle.std.specs.Ordering.{nat_cmp, is_lt}
use Rattle.std.specs.Cmp.{IsTotalOrder}
use Rattle.std.specs.List.{list_all, AllByRecursion, IsDistinct}
use Rattle.std.specs.List.Sorted.{IsStrictlySortedBy}
use Rattle.std.proofs.lemmas.Bool.{and_parts, and_from}
use Rattle.std.proofs.lemmas.Bool.Decides.{nat_tests}
use Rattle.std.proofs.lemmas.Cmp.{nat_cmp_total, on_total, then_total}
use Rattle.std.proofs.lemmas.List.{map_more}
use Rattle.std.proofs.lemmas.List.Sorted.{IsPermutation-sym, IsPermutation-map, All-permutation, length_permutation, sum_by-IsPermutation, ranks_by, sorted_far}
use Rattle.std.proofs.lemmas.List.Sums.{sum_by-cons}
use Rattle.std.proofs.lemmas.Map.Keys.{IsDistinct-head, IsDistinct-tail, IsDistinct-cons, IsDistinct-IsPermutation}
use Rattle.adm_lists.proofs.Members.{In, contains, in_moved, in_map, from_map, passes_in, list_all_in, All_in, in_All}
use Rattle.adm_lists.proofs.Rising.{rises}
use Rattle.adm_types.specs.declared.rows.School.{School}
use Rattle.adm_types.specs.declared.rows.Child.{Child}
use Rattle.adm_waiting.specs.declared.lists.Waiting.{Waiting}
use Rattle.adm_waiting.specs.declared.ranks.Rank.{Rank}
use Rattle.adm_waiting.specs.Waiting.{number_of_child, entry_of, is_listed_before, waiting_list, IsEntryFor}
use Rattle.adm_waiting.specs.Ranks.{rank_of, rank_cmp, is_rank_ahead, entry_among, IsRankInRange}
use Rattle.adm_waiting.proofs.Sorting.{child_of, only_order}

-- ---- the order of ranks

rank_total : IsTotalOrder rank_cmp
rank_total =
    then_total (on_total (λ (r : Rank). r.class) nat_cmp_total)
    (then_total (on_total (λ (r : Rank). r.metres) nat_cmp_total) (on_total (λ (r : Rank). r.child) nat_cmp_total))

abbrev before : Rank → Rank → Bool
before one other = is_lt (rank_cmp one other)

abbrev same_child : Rank → Rank → Bool
same_child one other = nat_eq one.child other.child

ahead_or_tied : (x y : Rank) → before x y ≡ true → (is_rank_ahead x y ≡ true) ⊎ ((x.class ≡ y.class) × (x.metres ≡ y.metres) × (x.child < y.child))
ahead_or_tied x y h = grind (arith, nat_tests)

ahead_too : (x y one : Rank) → before y x ≡ false → is_rank_ahead y one ≡ true → is_rank_ahead x one ≡ true
ahead_too x y one h k = grind (arith, nat_tests)

other_way : (x y : Rank) → same_child x y ≡ false → before y x ≡ false → before x y ≡ true
other_way x y h k = grind (arith, nat_tests)

not_ahead_itself : (x : Rank) → is_rank_ahead x x ≡ false
not_ahead_itself x = grind (arith, nat_tests)

ahead_chain : (x y z : Rank) → is_rank_ahead x y ≡ true → is_rank_ahead y z ≡ true → is_rank_ahead x z ≡ true
ahead_chain x y z h k = grind (arith, nat_tests)

far : (xs : List Rank) → IsSorted rank_cmp xs → (i j : ℕ) (d : Rank) → i ≤ j → j < length xs → before (get_or xs j d) (get_or xs i d) ≡ false
far xs up i j d l m = sorted_far before (ranks_by rank_total (λ (r : Rank). r)) xs up i j d l m

-- of ranks in order, those that are ahead of one are in front
pub ahead_in_front : (xs : List Rank) (one : Rank) → IsSorted rank_cmp xs → (i j : ℕ) (d : Rank) → i ≤ j → j < length xs → is_rank_ahead (get_or xs j d) one ≡ true
    → is_rank_ahead (get_or xs i d) one ≡ true
ahead_in_front xs one up i j d l m h = ahead_too (get_or xs i d) (get_or xs j d) one (far xs up i j d l m) h

far_rises : (xs : List Rank) → ((i j : ℕ) (d : Rank) → i ≤ j → j < length xs → before (get_or xs j d) (get_or xs i d) ≡ false) → IsDistinct same_child xs → rises before xs ≡ true
far_rises [] up apart = refl
far_rises (x ∷ xs) up apart =
    and_from (list_all (before x) xs) (rises before xs)
    (list_all_in (before x) xs (λ z there.
    let at : Contains xs z = contains xs z there in
    other_way x z (head xs (IsDistinct-head same_child x xs apart) z there)
    (ap (λ w. before w x) (sym at.2) ∙ up zero (suc at.0) z (omega arith) (omega (arith, at.1)))))
    (far_rises xs (λ i j d l m. up (suc i) (suc j) d (omega arith) (omega arith)) (IsDistinct-tail same_child x xs apart))
  where
    head : (ys : List Rank) → AllByRecursion (λ y. same_child x y ≡ false) ys → (z : Rank) → In z ys → same_child x z ≡ false
    head [] all z there = absurd there
    head (y ∷ ys) all z there = elim there [ inl same ↦ ap (same_child x) (sym same) ∙ all.0 | inr later ↦ head ys all.1 z later ]

less_other : (a b : ℕ) → nat_cmp a b ≡ Less → nat_eq a b ≡ false
less_other a b h = grind (arith, nat_tests)

all_other : (school : School) (number : ℕ) (children : List Child) → AllByRecursion (λ y. nat_cmp number y ≡ Less) (map number_of_child children)
    → AllByRecursion (λ y. nat_eq number y.child ≡ false) (map (rank_of school) children)
all_other school number [] all = tt
all_other school number (child ∷ children) all = (less_other number child.no all.0, all_other school number children all.1)

distinct_ranks : (school : School) (children : List Child) → IsStrictlySortedBy nat_cmp (map number_of_child children) → IsDistinct same_child (map (rank_of school) children)
unfolding IsStrictlySortedBy IsDistinct
distinct_ranks school [] sorted = tt
distinct_ranks school (child ∷ children) sorted =
    IsDistinct-cons same_child (rank_of school child) (map (rank_of school) children) (all_other school child.no children sorted.0) (distinct_ranks school children sorted.1)

swap : (x y : Rank) → same_child x y ≡ same_child y x
swap x y = grind (arith, nat_tests)

-- ---- counts

just_one : (b : Bool) → b ≡ true → cond {A = ℕ} b 1 0 ≡ 1
just_one b h = ap (λ c. cond {A = ℕ} c 1 0) h

no_one : (b : Bool) → b ≡ false → cond {A = ℕ} b 1 0 ≡ 0
no_one b h = ap (λ c. cond {A = ℕ} c 1 0) h

module _ {X : Type 0} (p : X → Bool) where
  pub count_to : (xs : List X) (i : ℕ) → i ≤ length xs → ((k : ℕ) (d : X) → 0 ≤ k → k < i → p (get_or xs k d) ≡ true)
      → ((k : ℕ) (d : X) → i ≤ k → k < length xs → p (get_or xs k d) ≡ false) → count_by p xs ≡ i
  count_to [] i bound front back = omega arith
  count_to (x ∷ xs) zero bound front back =
      let e = sum_by-cons (λ (y : X). cond (p y) 1 0) x xs in
      let here = no_one (p x) (back zero x (omega arith) (omega arith)) in
      let more = count_to xs zero (omega arith) (λ k d l m. absurd (omega arith)) (λ k d l m. back (suc k) d (omega arith) (omega arith)) in
      omega arith
  count_to (x ∷ xs) (suc i) bound front back =
      let e = sum_by-cons (λ (y : X). cond (p y) 1 0) x xs in
      let here = just_one (p x) (front zero x (omega arith) (omega arith)) in
      let more = count_to xs i (omega arith) (λ k d l m. front (suc k) d (omega arith) (omega arith)) (λ k d l m. back (suc k) d (omega arith) (omega arith)) in
      omega arith

  count_short : (xs : List X) (z : X) → In z xs → p z ≡ false → count_by p xs < length xs
  count_short [] z there h = absurd there
  count_short (x ∷ xs) z there h =
      let e = sum_by-cons (λ (y : X). cond (p y) 1 0) x xs in
      elim there [
        | inl same ↦
            let here = no_one (p x) (ap p same ∙ h) in
            let most = count_most xs in
            omega arith
        | inr later ↦
            let here = small (p x) in
            let more = count_short xs z later h in
            omega arith
      ]
    where
      small : (b : Bool) → cond b 1 0 ≤ 1
      small true = omega arith
      small false = omega arith

      count_most : (ys : List X) → count_by p ys ≤ length ys
      count_most [] = omega arith
      count_most (y ∷ ys) = let e = sum_by-cons (λ (w : X). cond (p w) 1 0) y ys in let here = small (p y) in let more = count_most ys in omega arith

  module _ (q : X → Bool) (both : (x : X) → p x ≡ true → q x ≡ true) where
    at_most : (x : X) → cond (p x) 1 0 ≤ cond (q x) 1 0
    at_most x = go (p x) (q x) (both x)
      where
        go : (a b : Bool) → (a ≡ true → b ≡ true) → cond a 1 0 ≤ cond b 1 0
        go false true h = omega arith
        go false false h = omega arith
        go true b h = subst (λ c. 1 ≤ cond c 1 0) (sym (h refl)) (omega arith)

    count_upto : (xs : List X) → count_by p xs ≤ count_by q xs
    count_upto [] = omega arith
    count_upto (x ∷ xs) =
        let e = sum_by-cons (λ (y : X). cond (p y) 1 0) x xs in
        let f = sum_by-cons (λ (y : X). cond (q y) 1 0) x xs in
        let here = at_most x in
        let more = count_upto xs in
        omega arith

    count_less : (xs : List X) (z : X) → In z xs → p z ≡ false → q z ≡ true → count_by p xs < count_by q xs
    count_less [] z there no' yes' = absurd there
    count_less (x ∷ xs) z there no' yes' =
        let e = sum_by-cons (λ (y : X). cond (p y) 1 0) x xs in
        let f = sum_by-cons (λ (y : X). cond (q y) 1 0) x xs in
        elim there [
          | inl same ↦
              let mine = no_one (p x) (ap p same ∙ no') in
              let other = just_one (q x) (ap q same ∙ yes') in
              let more = count_upto xs in
              omega arith
          | inr later ↦
              let here = at_most x in
              let more = count_less xs z later no' yes' in
              omega arith
        ]

count_map : {X Y : Type 0} (f : X → Y) (p : Y → Bool) (xs : List X) → count_by (λ x. p (f x)) xs ≡ count_by p (map f xs)
count_map f p [] = refl
count_map {X} {Y} f p (x ∷ xs) =
    sum_by-cons (λ (w : X). cond (p (f w)) 1 0) x xs ∙ ap (λ n. cond (p (f x)) 1 0 + n) (count_map f p xs)
    ∙ sym (sum_by-cons (λ (w : Y). cond (p w) 1 0) (f x) (map f xs))

-- ---- entries

by_position : (a b c d : ℕ) → a < c → (nat_lt a c || (a == c && nat_lt b d)) ≡ true
by_position a b c d h = grind (arith, nat_tests)

by_number : (a b c d : ℕ) → a ≡ c → b < d → (nat_lt a c || (a == c && nat_lt b d)) ≡ true
by_number a b c d h k = grind (arith, nat_tests)

entry_rises : (all : List Rank) (x y : Rank) → In x all → before x y ≡ true → is_listed_before (entry_among all x) (entry_among all y) ≡ true
entry_rises all x y there h = elim (ahead_or_tied x y h) [
  | inl ahead ↦
      let less : count_by (λ other. is_rank_ahead other x) all < count_by (λ other. is_rank_ahead other y) all =
      count_less (λ (other : Rank). is_rank_ahead other x) (λ (other : Rank). is_rank_ahead other y) (λ other k. ahead_chain other x y k ahead) all x there (not_ahead_itself x) ahead in
      by_position (entry_among all x).position x.child (entry_among all y).position y.child (omega arith)
  | inr tied ↦
      by_number (entry_among all x).position x.child (entry_among all y).position y.child
      (λ i. 1 + count_by (λ (other : Rank). nat_lt other.class (tied.0 i) || (other.class == tied.0 i && nat_lt other.metres (tied.1 i))) all) tied.2
]

entries_rise : (all xs : List Rank) → ((x : Rank) → In x xs → In x all) → rises before xs ≡ true → rises is_listed_before (map (entry_among all) xs) ≡ true
entries_rise all [] among up = refl
entries_rise all (x ∷ xs) among up =
    let parts = and_parts (list_all (before x) xs) (rises before xs) up in
    let first : list_all (is_listed_before (entry_among all x)) (map (entry_among all) xs) ≡ true =
    list_all_in (is_listed_before (entry_among all x)) (map (entry_among all) xs) (λ w there.
    let f = from_map (entry_among all) xs w there in
    ap (is_listed_before (entry_among all x)) (sym f.2) ∙ entry_rises all x f.0 (among x (inl refl)) (passes_in (before x) xs f.0 parts.0 f.1)) in
    and_from (list_all (is_listed_before (entry_among all x)) (map (entry_among all) xs)) (rises is_listed_before (map (entry_among all) xs)) first
    (entries_rise all xs (λ z there. among z (inr there)) parts.1)

-- one more entry of a walk over the ranks
pub entries_more : (ranks : List Rank) (i : ℕ) (rank : Rank) (ahead : ℕ) (list longer : List Waiting) → i < length ranks → rank ≡ get_or ranks i rank
    → ahead ≡ count_by (λ other. is_rank_ahead other rank) ranks
    → list ≡ map (entry_among ranks) (take i ranks) → longer ≡ list ++ record { position = 1 + ahead; child = rank.child; class = rank.class; metres = rank.metres } ∷ []
    → longer ≡ map (entry_among ranks) (take (i + 1) ranks)
entries_more ranks i rank ahead list longer within here counted made pushed =
    pushed ∙ (λ k. made k ++ record { position = 1 + counted k; child = rank.child; class = rank.class; metres = rank.metres } ∷ [])
    ∙ (λ k. map (entry_among ranks) (take i ranks) ++ entry_among ranks (here k) ∷ [])
    ∙ sym (map_more (entry_among ranks) ranks i rank within)

mapped : {X Y Z : Type 0} (f : X → Y) (g : Y → Z) (h : X → Z) → ((x : X) → h x ≡ g (f x)) → (xs : List X) → map h xs ≡ map g (map f xs)
mapped f g h same [] = refl
mapped f g h same (x ∷ xs) = λ i. same x i ∷ mapped f g h same xs i

module _ (school : School) (children : List Child) (sorted : List Rank) (same : IsPermutation (map (rank_of school) children) sorted) where
  abbrev rows : List Rank
  rows = map (rank_of school) children

  among_sorted : entry_among sorted ≡ entry_among rows
  among_sorted = λ i (one : Rank). record {
    position = 1 + sum_by-IsPermutation (λ (other : Rank). cond (is_rank_ahead other one) 1 0) rows sorted same i;
    child = one.child;
    class = one.class;
    metres = one.metres;
  }

  of_child : (child : Child) → entry_of school children child ≡ entry_among rows (rank_of school child)
  of_child child = λ i. record {
    position = 1 + count_map (rank_of school) (λ (other : Rank). is_rank_ahead other (rank_of school child)) children i;
    child = (rank_of school child).child;
    class = (rank_of school child).class;
    metres = (rank_of school child).metres;
  }

  pub same_entries : IsSorted rank_cmp sorted → IsStrictlySortedBy nat_cmp (map number_of_child children) → map (entry_among sorted) sorted ≡ waiting_list school children
  unfolding waiting_list
  same_entries up numbers =
      let entries : List Waiting = map (entry_of school children) children in
      let apart : IsDistinct same_child sorted = IsDistinct-IsPermutation same_child swap rows sorted same (distinct_ranks school children numbers) in
      let rise : rises is_listed_before (map (entry_among rows) sorted) ≡ true =
      entries_rise rows sorted (λ z there. in_moved sorted rows z (IsPermutation-sym rows sorted same) there) (far_rises sorted (far sorted up) apart) in
      let numbers' : IsStrictlySortedBy nat_cmp (map child_of entries) = subst (IsStrictlySortedBy nat_cmp) (mapped (entry_of school children) child_of number_of_child (λ _. refl) children) numbers in
      let moved : IsPermutation entries (map (entry_among rows) sorted) =
      subst (λ l. IsPermutation l (map (entry_among rows) sorted)) (sym (mapped (rank_of school) (entry_among rows) (entry_of school children) of_child children))
      (IsPermutation-map (entry_among rows) rows sorted same) in
      ap (λ f. map f sorted) among_sorted ∙ only_order entries (map (entry_among rows) sorted) numbers' moved rise

  as_many : (list : List Child) → length (map (rank_of school) list) ≡ length list
  as_many [] = refl
  as_many (child ∷ list) = ap suc (as_many list)

  -- the entry of a rank that is among them
  entry_for : (one : Rank) → In one sorted → IsRankInRange one → IsEntryFor children (entry_among sorted one)
  entry_for one there range =
      let g = from_map (rank_of school) children one (in_moved sorted rows one (IsPermutation-sym rows sorted same) there) in
      let short = count_short (λ (other : Rank). is_rank_ahead other one) sorted one there (not_ahead_itself one) in
      let long : length sorted ≡ length children = length_permutation rows sorted same ∙ as_many children in
      record {
        waits = contains (map number_of_child children) one.child (subst (λ n. In n (map number_of_child children)) (ap (λ (r : Rank). r.child) g.2) (in_map number_of_child children g.0 g.1));
        position_from = omega arith;
        position_upto = omega arith;
        class_upto = range.0;
        metres_upto = range.1;
      }

  pub each_entry : All IsRankInRange rows → All (IsEntryFor children) (map (entry_among sorted) sorted)
  each_entry all = in_All (IsEntryFor children) (map (entry_among sorted) sorted) (λ entry there.
      let f = from_map (entry_among sorted) sorted entry there in
      subst (IsEntryFor children) f.2 (entry_for f.0 f.1 (All_in IsRankInRange sorted f.0 (All-permutation IsRankInRange rows sorted same all) f.1)))
