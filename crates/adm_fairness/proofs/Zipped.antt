-- Lists side by side, what a test leaves of them, and counts over both.
use Rattle.std.proofs.Common.{◌≡◌, ◌∙◌, ap, sym, subst, refl, cond, Bool, true, false, ℕ, zero, suc, ◌+◌, ◌<◌, ◌≤◌, List, [], ◌∷◌, length, take, map, Some, inl, inr, arith}
use Rattle.std.specs.Prelude.{◌&&◌, is_some, T, All, Any, count_by, filter}
use Rattle.std.specs.List.{AllZip, AllByRecursion, slice_get}
use Rattle.std.specs.declared.cmp.Ordering.{Ordering}
use Rattle.std.specs.declared.cmp.Ordering.TheVariants.{Less, Equal, Greater}
use Rattle.std.specs.Ordering.{is_eq}
use Rattle.std.specs.Cmp.{IsTotalOrder}
use Rattle.std.specs.FinMap.{find, put, is_sorted}
use Rattle.std.specs.FinMap.Entries.{by_order, length-put}
use Rattle.std.proofs.lemmas.Bool.{cases_Bool}
use Rattle.std.proofs.lemmas.Option.{none-some, same_Some, slice_get_within, slice_get-get_or, get_or_from_slice_get}
use Rattle.std.proofs.lemmas.List.Sums.{sum_by-cons}
use Rattle.adm_lists.proofs.Counts.{one_if}
use Rattle.adm_lists.proofs.Members.{In, from_filter}
use Rattle.adm_match.proofs.SideBySide.{count_no}
use Rattle.adm_fairness.proofs.Codes.{at_index, in_index}

-- ---- side by side

-- what is beside an element of the second list
pub zip_back : {X Y : Type 0} (R : X → Y → Type 0) (xs : List X) (ys : List Y) (k : ℕ) (y : Y) → AllZip R xs ys → slice_get ys k ≡ Some y → (x : X) × (slice_get xs k ≡ Some x) × R x y
zip_back R [] [] k y h at = absurd (none-some y at)
zip_back R [] (z ∷ zs) k y h at = absurd h
zip_back R (w ∷ ws) [] k y h at = absurd h
zip_back R (w ∷ ws) (z ∷ zs) zero y h at = (w, refl, subst (λ v. R w v) (same_Some z y at) h.0)
zip_back R (w ∷ ws) (z ∷ zs) (suc k) y h at = zip_back R ws zs k y h.1 at

later : (a b : Bool) → T (a && b) → T b
later true b p = p
later false b p = absurd p

all_same : {X : Type 0} (P : X → X → Type 0) → ((x : X) → P x x) → (xs : List X) → AllZip P xs xs
all_same P same [] = tt
all_same P same (x ∷ xs) = (same x, all_same P same xs)

-- what functions make of both
pub zip_map : {X Y : Type 0} (P : Y → Y → Type 0) (f g : X → Y) (xs ys : List X) → AllZip (λ x y. P (f x) (g y)) xs ys → AllZip P (map f xs) (map g ys)
zip_map P f g [] [] h = tt
zip_map P f g [] (y ∷ ys) h = absurd h
zip_map P f g (x ∷ xs) [] h = absurd h
zip_map P f g (x ∷ xs) (y ∷ ys) h = (h.0, zip_map P f g xs ys h.1)

-- what holds of a pair and of its second element
pub zip_with : {X Y : Type 0} (R S : X → Y → Type 0) (K : Y → Type 0) → ((x : X) (y : Y) → R x y → K y → S x y) → (xs : List X) (ys : List Y) → AllZip R xs ys → AllByRecursion K ys → AllZip S xs ys
zip_with R S K step [] [] h k = tt
zip_with R S K step [] (y ∷ ys) h k = absurd h
zip_with R S K step (x ∷ xs) [] h k = absurd h
zip_with R S K step (x ∷ xs) (y ∷ ys) h k = (step x y h.0 k.0, zip_with R S K step xs ys h.1 k.1)

-- each element of the second list has one beside it
pub zip_any : {X Y : Type 0} (R : X → Y → Type 0) (xs : List X) (ys : List Y) → AllZip R xs ys → All (λ y. Any (λ x. R x y) xs) ys
zip_any R xs ys h k y within =
    let found = zip_back R xs ys k _ h (slice_get-get_or ys k y within) in
    (k, found.0, slice_get_within xs k found.0 found.1, get_or_from_slice_get xs k found.0 found.0 found.1, found.2)

-- where a key has a value, a value put at it takes its place
pub put_zip : {K V : Type 0} {R : K → K → Ordering} (total : IsTotalOrder R) (P : V → V → Type 0) → ((v : V) → P v v) → (k : K) (row now : V) → P row now
    → (es : List (K × V)) → T (is_sorted R es) → find R k es ≡ Some row → AllZip P (map (λ e. e.1) es) (map (λ e. e.1) (put R k now es))
put_zip total P same k row now up [] sorted there = absurd (none-some row there)
put_zip {R = R} total P same k row now up (e ∷ es) sorted there =
    elim (R k e.0) as (λ o. R k e.0 ≡ o → AllZip P (map (λ x. x.1) (e ∷ es)) (map (λ x. x.1) (by_order o ((k, now) ∷ e ∷ es) ((e.0, now) ∷ es) (e ∷ put R k now es)))) [
      | Less ↦ λ p. absurd (
          let more = ap (λ o. length (by_order o ((k, now) ∷ e ∷ es) ((e.0, now) ∷ es) (e ∷ put R k now es))) p in
          let same_length = length-put R total k now (e ∷ es) sorted ∙ ap (λ b. cond b (length (e ∷ es)) (length (e ∷ es) + 1)) (ap is_some there) in
          omega (arith, more, same_length))
      | Equal ↦ λ p.
          let here = ap (λ o. cond (is_eq o) (Some e.1) (find R k es)) p in
          (subst (λ v. P v now) (same_Some row e.1 (sym there ∙ here)) up, all_same P same (map (λ x. x.1) es))
      | Greater ↦ λ p.
          let rest = ap (λ o. cond (is_eq o) (Some e.1) (find R k es)) p in
          (same e.1, put_zip total P same k row now up es (later _ _ sorted) (sym rest ∙ there))
    ] refl

-- a list beside what a function makes of it
pub zip_images : {X Y : Type 0} (R : X → Y → Type 0) (f : X → Y) (xs : List X) → ((k : ℕ) (x : X) → slice_get xs k ≡ Some x → R x (f x)) → AllZip R xs (map f xs)
zip_images R f [] each = tt
zip_images R f (x ∷ xs) each = (each 0 x refl, zip_images R f xs (λ k y yk. each (suc k) y yk))

-- what a test leaves of both, where it passes on both sides or on neither
pub zip_filtered : {X Y : Type 0} (R S : X → Y → Type 0) (p : X → Bool) (q : Y → Bool) (xs : List X) (ys : List Y) → ((x : X) (y : Y) → R x y → q y ≡ p x)
    → ((x : X) (y : Y) → R x y → p x ≡ true → S x y) → AllZip R xs ys → AllZip S (filter p xs) (filter q ys)
zip_filtered R S p q [] [] same step h = tt
zip_filtered R S p q [] (y ∷ ys) same step h = absurd h
zip_filtered R S p q (x ∷ xs) [] same step h = absurd h
zip_filtered R S p q (x ∷ xs) (y ∷ ys) same step h =
    let rest = zip_filtered R S p q xs ys same step h.1 in
    elim (cases_Bool (p x)) [
      | inl hit ↦
          let left : filter p (x ∷ xs) ≡ x ∷ filter p xs = ap (λ b. cond b (x ∷ filter p xs) (filter p xs)) hit in
          let right : filter q (y ∷ ys) ≡ y ∷ filter q ys = ap (λ b. cond b (y ∷ filter q ys) (filter q ys)) (same x y h.0 ∙ hit) in
          subst (λ us. AllZip S us (filter q (y ∷ ys))) (sym left) (subst (AllZip S (x ∷ filter p xs)) (sym right) (step x y h.0 hit, rest))
      | inr miss ↦
          let left : filter p (x ∷ xs) ≡ filter p xs = ap (λ b. cond b (x ∷ filter p xs) (filter p xs)) miss in
          let right : filter q (y ∷ ys) ≡ filter q ys = ap (λ b. cond b (y ∷ filter q ys) (filter q ys)) (same x y h.0 ∙ miss) in
          subst (λ us. AllZip S us (filter q (y ∷ ys))) (sym left) (subst (AllZip S (filter p xs)) (sym right) rest)
    ]

-- tests that agree side by side pass as often
pub count_zipped : {X Y : Type 0} (R : X → Y → Type 0) (p : X → Bool) (q : Y → Bool) (xs : List X) (ys : List Y) → AllZip R xs ys
    → ((k : ℕ) (x : X) (y : Y) → slice_get xs k ≡ Some x → slice_get ys k ≡ Some y → R x y → q y ≡ p x) → count_by q ys ≡ count_by p xs
count_zipped R p q [] [] h same = refl
count_zipped R p q [] (y ∷ ys) h same = absurd h
count_zipped R p q (x ∷ xs) [] h same = absurd h
count_zipped R p q (x ∷ xs) (y ∷ ys) h same = omega (
  arith,
  sum_by-cons (λ z. one_if (q z)) y ys,
  sum_by-cons (λ z. one_if (p z)) x xs,
  count_zipped R p q xs ys h.1 (λ k z w zk wk r. same (suc k) z w zk wk r),
  ap one_if (same 0 x y refl refl h.0),
)

-- ---- what a test leaves

-- an element that is left was there, and passes
pub left_at : {X : Type 0} (p : X → Bool) (xs : List X) (k : ℕ) (x : X) → slice_get (filter p xs) k ≡ Some x → (j : ℕ) × (slice_get xs j ≡ Some x) × (p x ≡ true)
left_at p xs k x at =
    let found = from_filter p xs x (in_index (filter p xs) k x at) in
    let j = at_index xs x found.0 in
    (j.0, j.1, found.1)

-- all are left where all pass
pub all_left : {X : Type 0} (xs : List X) → filter (λ (x : X). true) xs ≡ xs
all_left [] = refl
all_left (x ∷ xs) = ap (λ ys. x ∷ ys) (all_left xs)

-- two that are left were there in the same order
pub order_left : {X : Type 0} (p : X → Bool) (xs : List X) (i j : ℕ) (x y : X) → slice_get (filter p xs) i ≡ Some x → slice_get (filter p xs) j ≡ Some y → i < j
    → (k : ℕ) × (l : ℕ) × (slice_get xs k ≡ Some x) × (slice_get xs l ≡ Some y) × (k < l)
order_left p [] i j x y xi yj less = absurd (none-some x xi)
order_left p (z ∷ zs) i j x y xi yj less = elim (cases_Bool (p z)) [
  | inl hit ↦
      let all : filter p (z ∷ zs) ≡ z ∷ filter p zs = ap (λ b. cond b (z ∷ filter p zs) (filter p zs)) hit in
      first (λ i' j' xi' yj' less'. order_left p zs i' j' x y xi' yj' less') i j (ap (λ us. slice_get us i) (sym all) ∙ xi) (ap (λ us. slice_get us j) (sym all) ∙ yj) less
  | inr miss ↦
      let all : filter p (z ∷ zs) ≡ filter p zs = ap (λ b. cond b (z ∷ filter p zs) (filter p zs)) miss in
      let rest = order_left p zs i j x y (ap (λ us. slice_get us i) (sym all) ∙ xi) (ap (λ us. slice_get us j) (sym all) ∙ yj) less in
      (suc rest.0, suc rest.1, rest.2, rest.3, omega (arith, rest.4))
]
  where
    first : ((i' j' : ℕ) → slice_get (filter p zs) i' ≡ Some x → slice_get (filter p zs) j' ≡ Some y → i' < j' → (k : ℕ) × (l : ℕ) × (slice_get zs k ≡ Some x) × (slice_get zs l ≡ Some y) × (k < l))
        → (i j : ℕ) → slice_get (z ∷ filter p zs) i ≡ Some x → slice_get (z ∷ filter p zs) j ≡ Some y → i < j
        → (k : ℕ) × (l : ℕ) × (slice_get (z ∷ zs) k ≡ Some x) × (slice_get (z ∷ zs) l ≡ Some y) × (k < l)
    first below i zero xi yj less = absurd (omega (arith, less))
    first below zero (suc j) xi yj less =
        let l = left_at p zs j y yj in
        (zero, suc l.0, xi, l.1, omega arith)
    first below (suc i) (suc j) xi yj less =
        let rest = below i j xi yj (omega (arith, less)) in
        (suc rest.0, suc rest.1, rest.2, rest.3, omega (arith, rest.4))

-- what passes a second test passes as often among what the first leaves, where it passes the first too
pub count_left : {X : Type 0} (p q : X → Bool) (xs : List X) → ((k : ℕ) (x : X) → slice_get xs k ≡ Some x → p x ≡ false → q x ≡ false) → count_by q (filter p xs) ≡ count_by q xs
count_left p q [] out = refl
count_left p q (x ∷ xs) out =
    let rest = count_left p q xs (λ k y yk. out (suc k) y yk) in
    elim (cases_Bool (p x)) [
      | inl hit ↦ omega (
        arith,
        ap (count_by q) (ap (λ b. cond b (x ∷ filter p xs) (filter p xs)) hit),
        sum_by-cons (λ y. one_if (q y)) x (filter p xs),
        sum_by-cons (λ y. one_if (q y)) x xs,
        rest,
      )
      | inr miss ↦ omega (arith, ap (count_by q) (ap (λ b. cond b (x ∷ filter p xs) (filter p xs)) miss), count_no q x xs (out 0 x refl miss), rest)
    ]

-- no test passes more often among what another leaves
pub count_fewer : {X : Type 0} (p q : X → Bool) (xs : List X) → count_by q (filter p xs) ≤ count_by q xs
count_fewer p q [] = omega arith
count_fewer p q (x ∷ xs) =
    let rest = count_fewer p q xs in
    let whole = sum_by-cons (λ y. one_if (q y)) x xs in
    elim (cases_Bool (p x)) [
      | inl hit ↦ omega (arith, ap (count_by q) (ap (λ b. cond b (x ∷ filter p xs) (filter p xs)) hit), sum_by-cons (λ y. one_if (q y)) x (filter p xs), whole, rest)
      | inr miss ↦ omega (arith, ap (count_by q) (ap (λ b. cond b (x ∷ filter p xs) (filter p xs)) miss), whole, rest)
    ]

-- ---- the beginning of a list

pub take_upto : {X : Type 0} (n : ℕ) (xs : List X) → length (take n xs) ≤ length xs
take_upto zero [] = omega arith
take_upto (suc n) [] = omega arith
take_upto zero (x ∷ xs) = omega arith
take_upto (suc n) (x ∷ xs) = omega (arith, take_upto n xs)

pub take_whole : {X : Type 0} (xs : List X) → take (length xs) xs ≡ xs
take_whole [] = refl
take_whole (x ∷ xs) = ap (λ ys. x ∷ ys) (take_whole xs)

pub take_length : {X : Type 0} (n : ℕ) (xs : List X) → n ≤ length xs → length (take n xs) ≡ n
take_length zero [] fits = refl
take_length (suc n) [] fits = absurd (omega (arith, fits))
take_length zero (x ∷ xs) fits = refl
take_length (suc n) (x ∷ xs) fits = omega (arith, take_length n xs (omega (arith, fits)))

-- ---- more of two lists

-- what is weaker holds side by side too
pub zip_step : {X Y : Type 0} (R S : X → Y → Type 0) (xs : List X) (ys : List Y) → AllZip R xs ys → ((x : X) (y : Y) → R x y → S x y) → AllZip S xs ys
zip_step R S [] [] h step = tt
zip_step R S [] (y ∷ ys) h step = absurd h
zip_step R S (x ∷ xs) [] h step = absurd h
zip_step R S (x ∷ xs) (y ∷ ys) h step = (step x y h.0, zip_step R S xs ys h.1 step)

-- three lists, of which the second is beside the first and the third
pub zip_on : {X Y Z : Type 0} (R : X → Y → Type 0) (S : Y → Z → Type 0) (T : X → Z → Type 0) (xs : List X) (ys : List Y) (zs : List Z) → AllZip R xs ys → AllZip S ys zs
    → ((x : X) (y : Y) (z : Z) → In x xs → R x y → S y z → T x z) → AllZip T xs zs
zip_on R S T [] [] [] h g step = tt
zip_on R S T [] [] (z ∷ zs) h g step = absurd g
zip_on R S T [] (y ∷ ys) zs h g step = absurd h
zip_on R S T (x ∷ xs) [] zs h g step = absurd h
zip_on R S T (x ∷ xs) (y ∷ ys) [] h g step = absurd g
zip_on R S T (x ∷ xs) (y ∷ ys) (z ∷ zs) h g step = (step x y z (inl refl) h.0 g.0, zip_on R S T xs ys zs h.1 g.1 (λ u v w at. step u v w (inr at)))

-- no test passes more often among what a narrower test leaves
pub count_narrower : {X : Type 0} (p narrow q : X → Bool) (xs : List X) → ((x : X) → narrow x ≡ true → p x ≡ true) → count_by q (filter narrow xs) ≤ count_by q (filter p xs)
count_narrower p narrow q [] inside = omega arith
count_narrower p narrow q (x ∷ xs) inside =
    let rest = count_narrower p narrow q xs inside in
    elim (cases_Bool (narrow x)) [
      | inl hit ↦ omega (
        arith,
        ap (count_by q) (ap (λ b. cond b (x ∷ filter narrow xs) (filter narrow xs)) hit),
        ap (count_by q) (ap (λ b. cond b (x ∷ filter p xs) (filter p xs)) (inside x hit)),
        sum_by-cons (λ y. one_if (q y)) x (filter narrow xs),
        sum_by-cons (λ y. one_if (q y)) x (filter p xs),
        rest,
      )
      | inr miss ↦
          let none = ap (count_by q) (ap (λ b. cond b (x ∷ filter narrow xs) (filter narrow xs)) miss) in
          elim (cases_Bool (p x)) [
            | inl takes ↦ omega (arith, none, ap (count_by q) (ap (λ b. cond b (x ∷ filter p xs) (filter p xs)) takes), sum_by-cons (λ y. one_if (q y)) x (filter p xs), rest)
            | inr drops ↦ omega (arith, none, ap (count_by q) (ap (λ b. cond b (x ∷ filter p xs) (filter p xs)) drops), rest)
          ]
    ]
