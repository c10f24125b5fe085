-- Rows in the order of their keys, before and after the run of rows that a key belongs to.
use Rattle.std.proofs.Common.{◌≡◌, ◌∙◌, ap, sym, refl, cond, Bool, true, false, List, [], ◌∷◌, ◌++◌, Some, None}
use Rattle.std.specs.Prelude.{Option}
use Rattle.std.specs.declared.cmp.Ordering.{Ordering}
use Rattle.std.specs.declared.cmp.Ordering.TheVariants.{Less, Equal, Greater}
use Rattle.std.specs.Ordering.{eq_by_cmp, is_eq, match_ordering, ordering_reverse}
use Rattle.std.specs.Cmp.{IsTotalOrder, eq_by_cmp_equiv}
use Rattle.std.specs.BTreeMap.{insert_entry, is_at}
use Rattle.std.specs.Map.{lookup, keys_of, remove_entry}
use Rattle.std.specs.List.{AllByRecursion}
use Rattle.std.specs.List.Sorted.{IsStrictlySortedBy}
use Rattle.std.proofs.lemmas.Map.{lookup-remove_entry}
use Rattle.std.proofs.lemmas.Map.Keys.{IsDistinct-from_sorted}
use Rattle.adm_lists.proofs.Each.{each_weaker}

-- what holds of each of two lists joined holds of each of the first
pub all-first : {A : Type 0} (P : A → Type 0) (xs ys : List A) → AllByRecursion P (xs ++ ys) → AllByRecursion P xs
all-first P [] ys all = tt
all-first P (x ∷ xs) ys all = (all.0, all-first P xs ys all.1)

-- and of each of the second
pub all-second : {A : Type 0} (P : A → Type 0) (xs ys : List A) → AllByRecursion P (xs ++ ys) → AllByRecursion P ys
all-second P [] ys all = all
all-second P (x ∷ xs) ys all = all-second P xs ys all.1

pub keys-both : {K V : Type 0} (xs ys : List (K × V)) → keys_of (xs ++ ys) ≡ keys_of xs ++ keys_of ys
keys-both [] ys = refl
keys-both (x ∷ xs) ys = ap (λ ks. x.0 ∷ ks) (keys-both xs ys)

turned : (a b : Ordering) → a ≡ ordering_reverse b → b ≡ Less → a ≡ Greater
turned a Less e less = e
turned a Equal e less = cc
turned a Greater e less = cc

turned_back : (a b : Ordering) → a ≡ ordering_reverse b → b ≡ Greater → a ≡ Less
turned_back a Greater e greater = e
turned_back a Equal e greater = cc
turned_back a Less e greater = cc

module _ {K : Type 0} (R : K → K → Ordering) where
  pub sorted-second : (xs ys : List K) → IsStrictlySortedBy R (xs ++ ys) → IsStrictlySortedBy R ys
  unfolding IsStrictlySortedBy
  sorted-second [] ys sorted = sorted
  sorted-second (x ∷ xs) ys sorted = sorted-second xs ys sorted.1

  -- the keys before one of a sorted list are below it
  pub sorted-before : (xs : List K) (k : K) (ys : List K) → IsStrictlySortedBy R (xs ++ k ∷ ys) → AllByRecursion (λ x. R x k ≡ Less) xs
  unfolding IsStrictlySortedBy
  sorted-before [] k ys sorted = tt
  sorted-before (x ∷ xs) k ys sorted = ((all-second (λ y. R x y ≡ Less) xs (k ∷ ys) sorted.0).0, sorted-before xs k ys sorted.1)

  -- and those after it above
  pub sorted-after : (xs : List K) (k : K) (ys : List K) → IsStrictlySortedBy R (xs ++ k ∷ ys) → AllByRecursion (λ y. R k y ≡ Less) ys
  unfolding IsStrictlySortedBy
  sorted-after xs k ys sorted = (sorted-second xs (k ∷ ys) sorted).0

module _ {K : Type 0} {R : K → K → Ordering} (total : IsTotalOrder R) where
  pub above : (a b : K) → R a b ≡ Less → R b a ≡ Greater
  above a b less = turned (R b a) (R a b) (total.antisymm b a) less

  pub below : (a b : K) → R a b ≡ Greater → R b a ≡ Less
  below a b greater = turned_back (R b a) (R a b) (total.antisymm b a) greater

  -- what is below a key that is not above another is below that too
  pub below_both : (a b c : K) → R a b ≡ Less → (R b c ≡ Greater → ⊥) → R a c ≡ Less
  below_both a b c less not_above =
      elim (R b c) as (λ r. R b c ≡ r → R a c ≡ Less) [
        | Less ↦ λ is. total.trans a b c less is
        | Equal ↦ λ is. below c a (sym (total.congr b c a is) ∙ above a b less)
        | Greater ↦ λ is. absurd (not_above is)
      ] refl

  pub not_at : (r : Ordering) → r ≡ Less → is_eq r ≡ false
  not_at r e = ap is_eq e

  pub not_at_above : (r : Ordering) → r ≡ Greater → is_eq r ≡ false
  not_at_above r e = ap is_eq e

  module _ {V : Type 0} (k : K) where
    -- rows whose keys are below k come before what is looked up, put or removed at k
    pub lookup-after : (xs ys : List (K × V)) → AllByRecursion (λ x. R x k ≡ Less) (keys_of xs) → lookup (is_at (R k)) (xs ++ ys) ≡ lookup (is_at (R k)) ys
    lookup-after [] ys all = refl
    lookup-after (x ∷ xs) ys all = ap (λ b. cond b (Some x.1) (lookup (is_at (R k)) (xs ++ ys))) (not_at_above _ (above x.0 k all.0)) ∙ lookup-after xs ys all.1

    pub insert-after : (xs ys : List (K × V)) (v : V) → AllByRecursion (λ x. R x k ≡ Less) (keys_of xs) → insert_entry R (xs ++ ys) k v ≡ xs ++ insert_entry R ys k v
    insert-after [] ys v all = refl
    insert-after (x ∷ xs) ys v all =
        ap (λ r. match_ordering r ((k, v) ∷ x ∷ (xs ++ ys)) ((x.0, v) ∷ (xs ++ ys)) (x ∷ insert_entry R (xs ++ ys) k v)) (above x.0 k all.0) ∙ ap (λ rows. x ∷ rows) (insert-after xs ys v all.1)

    pub remove-after : (xs ys : List (K × V)) → AllByRecursion (λ x. R x k ≡ Less) (keys_of xs) → remove_entry (is_at (R k)) (xs ++ ys) ≡ xs ++ remove_entry (is_at (R k)) ys
    remove-after [] ys all = refl
    remove-after (x ∷ xs) ys all = ap (λ b. cond b (xs ++ ys) (x ∷ remove_entry (is_at (R k)) (xs ++ ys))) (not_at_above _ (above x.0 k all.0)) ∙ ap (λ rows. x ∷ rows) (remove-after xs ys all.1)

    -- and rows whose keys are above k come after it
    none-above : (ys : List (K × V)) → AllByRecursion (λ y. R k y ≡ Less) (keys_of ys) → lookup (is_at (R k)) ys ≡ None
    none-above [] all = refl
    none-above (y ∷ ys) all = ap (λ b. cond b (Some y.1) (lookup (is_at (R k)) ys)) (not_at _ all.0) ∙ none-above ys all.1

    remove-above : (ys : List (K × V)) → AllByRecursion (λ y. R k y ≡ Less) (keys_of ys) → remove_entry (is_at (R k)) ys ≡ ys
    remove-above [] all = refl
    remove-above (y ∷ ys) all = ap (λ b. cond b ys (y ∷ remove_entry (is_at (R k)) ys)) (not_at _ all.0) ∙ ap (λ rows. y ∷ rows) (remove-above ys all.1)

    insert-above : (ys : List (K × V)) (v : V) → AllByRecursion (λ y. R k y ≡ Less) (keys_of ys) → insert_entry R ys k v ≡ (k, v) ∷ ys
    insert-above [] v all = refl
    insert-above (y ∷ ys) v all = ap (λ r. match_ordering r ((k, v) ∷ y ∷ ys) ((y.0, v) ∷ ys) (y ∷ insert_entry R ys k v)) all.0

    pub lookup-before : (xs ys : List (K × V)) → AllByRecursion (λ y. R k y ≡ Less) (keys_of ys) → lookup (is_at (R k)) (xs ++ ys) ≡ lookup (is_at (R k)) xs
    lookup-before [] ys all = none-above ys all
    lookup-before (x ∷ xs) ys all = ap (cond (is_at (R k) x.0) (Some x.1)) (lookup-before xs ys all)

    pub insert-before : (xs ys : List (K × V)) (v : V) → AllByRecursion (λ y. R k y ≡ Less) (keys_of ys) → insert_entry R (xs ++ ys) k v ≡ insert_entry R xs k v ++ ys
    insert-before [] ys v all = insert-above ys v all
    insert-before (x ∷ xs) ys v all =
        elim (R k x.0) as (λ r. match_ordering r ((k, v) ∷ x ∷ (xs ++ ys)) ((x.0, v) ∷ (xs ++ ys)) (x ∷ insert_entry R (xs ++ ys) k v) ≡ match_ordering r
        ((k, v) ∷ x ∷ xs) ((x.0, v) ∷ xs) (x ∷ insert_entry R xs k v) ++ ys) [
          | Less ↦ refl
          | Equal ↦ refl
          | Greater ↦ ap (λ rows. x ∷ rows) (insert-before xs ys v all)
        ]

    pub remove-before : (xs ys : List (K × V)) → AllByRecursion (λ y. R k y ≡ Less) (keys_of ys) → remove_entry (is_at (R k)) (xs ++ ys) ≡ remove_entry (is_at (R k)) xs ++ ys
    remove-before [] ys all = remove-above ys all
    remove-before (x ∷ xs) ys all =
        elim (is_at (R k) x.0) as (λ b. cond b (xs ++ ys) (x ∷ remove_entry (is_at (R k)) (xs ++ ys)) ≡ cond b xs (x ∷ remove_entry (is_at (R k)) xs) ++ ys) [
          | true ↦ refl
          | false ↦ ap (λ rows. x ∷ rows) (remove-before xs ys all)
        ]

  module _ {V : Type 0} where
    all-inserted : (P : K → Type 0) (es : List (K × V)) (k : K) (v : V) → AllByRecursion P (keys_of es) → P k → AllByRecursion P (keys_of (insert_entry R es k v))
    all-inserted P [] k v all here = (here, tt)
    all-inserted P (e ∷ es) k v all here =
        elim (R k e.0) as (λ r. AllByRecursion P (keys_of (match_ordering r ((k, v) ∷ e ∷ es) ((e.0, v) ∷ es) (e ∷ insert_entry R es k v)))) [
          | Less ↦ (here, all)
          | Equal ↦ all
          | Greater ↦ (all.0, all-inserted P es k v all.1 here)
        ]

    all-removed : (P : K → Type 0) (test : K → Bool) (es : List (K × V)) → AllByRecursion P (keys_of es) → AllByRecursion P (keys_of (remove_entry test es))
    all-removed P test [] all = tt
    all-removed P test (e ∷ es) all =
        elim (test e.0) as (λ b. AllByRecursion P (keys_of (cond b es (e ∷ remove_entry test es)))) [
          | true ↦ all.1
          | false ↦ (all.0, all-removed P test es all.1)
        ]

    -- rows in order are so with one more, and with one less
    pub sorted-inserted : (es : List (K × V)) (k : K) (v : V) → IsStrictlySortedBy R (keys_of es) → IsStrictlySortedBy R (keys_of (insert_entry R es k v))
    unfolding IsStrictlySortedBy
    sorted-inserted [] k v sorted = (tt, tt)
    sorted-inserted (e ∷ es) k v sorted =
        elim (R k e.0) as (λ r. R k e.0 ≡ r → IsStrictlySortedBy R (keys_of (match_ordering r ((k, v) ∷ e ∷ es) ((e.0, v) ∷ es) (e ∷ insert_entry R es k v)))) [
          | Less ↦ λ is. ((is, each_weaker (λ y. R e.0 y ≡ Less) (λ y. R k y ≡ Less) (λ y less. total.trans k e.0 y is less) (keys_of es) sorted.0), sorted)
          | Equal ↦ λ is. sorted
          | Greater ↦ λ is. (all-inserted (λ y. R e.0 y ≡ Less) es k v sorted.0 (below k e.0 is), sorted-inserted es k v sorted.1)
        ] refl

    pub sorted-removed : (test : K → Bool) (es : List (K × V)) → IsStrictlySortedBy R (keys_of es) → IsStrictlySortedBy R (keys_of (remove_entry test es))
    unfolding IsStrictlySortedBy
    sorted-removed test [] sorted = tt
    sorted-removed test (e ∷ es) sorted =
        elim (test e.0) as (λ b. IsStrictlySortedBy R (keys_of (cond b es (e ∷ remove_entry test es)))) [
          | true ↦ sorted.1
          | false ↦ (all-removed (λ y. R e.0 y ≡ Less) test es sorted.0, sorted-removed test es sorted.1)
        ]

  swapped : {A : Type 0} (a b : Bool) (x y : A) (o : Option A) → (a ≡ true → b ≡ true → ⊥) → cond a (Some x) (cond b (Some y) o) ≡ cond b (Some y) (cond a (Some x) o)
  swapped true true x y o apart = absurd (apart refl refl)
  swapped true false x y o apart = refl
  swapped false true x y o apart = refl
  swapped false false x y o apart = refl

  again : {A : Type 0} (a : Bool) (x y : A) (o : Option A) → cond a (Some x) o ≡ cond a (Some x) (cond a (Some y) o)
  again true x y o = refl
  again false x y o = refl

  greater_is_not : (r : Ordering) → r ≡ Greater → is_eq r ≡ true → ⊥
  greater_is_not Less greater equal = cc
  greater_is_not Equal greater equal = cc
  greater_is_not Greater greater equal = cc

  module _ {V : Type 0} where
    -- what is at each key after a row was put
    pub lookup-inserted : (es : List (K × V)) (k : K) (v : V) (q : K) → lookup (is_at (R q)) (insert_entry R es k v) ≡ cond (is_at (R k) q) (Some v) (lookup (is_at (R q)) es)
    lookup-inserted [] k v q = ap (λ b. cond b (Some v) None) ((eq_by_cmp_equiv total).symm q k)
    lookup-inserted (e ∷ es) k v q =
        let laws = eq_by_cmp_equiv total in
        elim (R k e.0) as (λ r. R k e.0 ≡ r → lookup (is_at (R q)) (match_ordering r ((k, v) ∷ e ∷ es) ((e.0, v) ∷ es) (e ∷ insert_entry R es k v)) ≡ cond (is_at (R k) q)
        (Some v) (lookup (is_at (R q)) (e ∷ es))) [
          | Less ↦ λ is. ap (λ b. cond b (Some v) (lookup (is_at (R q)) (e ∷ es))) (laws.symm q k)
          | Equal ↦ λ is.
              let same : eq_by_cmp R q e.0 ≡ eq_by_cmp R k q = laws.symm q e.0 ∙ sym (laws.congr k e.0 q (ap is_eq is)) in
              ap (λ b. cond b (Some v) (lookup (is_at (R q)) es)) same ∙ again (eq_by_cmp R k q) v e.1 (lookup (is_at (R q)) es)
              ∙ ap (λ b. cond (eq_by_cmp R k q) (Some v) (cond b (Some e.1) (lookup (is_at (R q)) es))) (sym same)
          | Greater ↦ λ is.
              ap (λ o. cond (is_at (R q) e.0) (Some e.1) o) (lookup-inserted es k v q)
              ∙ swapped (is_at (R q) e.0) (is_at (R k) q) e.1 v (lookup (is_at (R q)) es) (λ first second. greater_is_not (R k e.0) is (laws.congr k q e.0 second ∙ first))
        ] refl

    -- and after one was cut
    pub lookup-removed : (es : List (K × V)) (k : K) (q : K) → IsStrictlySortedBy R (keys_of es)
        → lookup (is_at (R q)) (remove_entry (is_at (R k)) es) ≡ cond (is_at (R k) q) None (lookup (is_at (R q)) es)
    lookup-removed es k q sorted = lookup-remove_entry (eq_by_cmp_equiv total) (is_at (R k)) (λ x y e. (eq_by_cmp_equiv total).congr k x y e) q es (IsDistinct-from_sorted R (keys_of es) sorted)
