-- Lists side by side: what is at one index of both, and what each gives.
use Rattle.std.proofs.Common.{◌≡◌, sym, subst, refl, ℕ, zero, suc, List, [], ◌∷◌, length, map, Option, Some, None, inl, inr, arith}
use Rattle.std.specs.Prelude.{⊤}
use Rattle.std.specs.List.{AllZip, filter_map, cons_option, slice_get}
use Rattle.std.proofs.lemmas.Option.{same_Some, none-some}
use Rattle.adm_lists.proofs.Members.{In}

-- ---- by indices

pub zip_length : {X Y : Type 0} (R : X → Y → Type 0) (xs : List X) (ys : List Y) → AllZip R xs ys → length ys ≡ length xs
zip_length R [] [] h = refl
zip_length R [] (y ∷ ys) h = absurd h
zip_length R (x ∷ xs) [] h = absurd h
zip_length R (x ∷ xs) (y ∷ ys) h = omega (arith, zip_length R xs ys h.1)

pub zip_there : {X Y : Type 0} (R : X → Y → Type 0) (xs : List X) (ys : List Y) (k : ℕ) (x : X) → AllZip R xs ys → slice_get xs k ≡ Some x → (y : Y) × (slice_get ys k ≡ Some y) × R x y
zip_there R [] ys k x h at = absurd (none-some x at)
zip_there R (z ∷ zs) [] k x h at = absurd h
zip_there R (z ∷ zs) (w ∷ ws) zero x h at = (w, refl, subst (λ v. R v w) (same_Some z x at) h.0)
zip_there R (z ∷ zs) (w ∷ ws) (suc k) x h at = zip_there R zs ws k x h.1 at

pub none_there : {X Y : Type 0} (R : X → Y → Type 0) (xs : List X) (ys : List Y) (k : ℕ) → AllZip R xs ys → slice_get xs k ≡ None → slice_get ys k ≡ None
none_there R [] [] k h at = refl
none_there R [] (y ∷ ys) k h at = absurd h
none_there R (x ∷ xs) [] k h at = absurd h
none_there R (x ∷ xs) (y ∷ ys) zero h at = absurd (none-some x (sym at))
none_there R (x ∷ xs) (y ∷ ys) (suc k) h at = none_there R xs ys k h.1 at

-- ---- what they give

-- both give something that is related, or both give nothing
abbrev pub BothGive : {Y Z : Type 0} → (Y → Z → Type 0) → Option Y → Option Z → Type 0
BothGive R None None = ⊤
BothGive R None (Some z) = ⊥
BothGive R (Some y) None = ⊥
BothGive R (Some y) (Some z) = R y z

pub zip_given : {X Y Z : Type 0} (R : Y → Z → Type 0) (f : X → Option Y) (g : X → Option Z) (xs : List X) → ((x : X) → In x xs → BothGive R (f x) (g x)) → AllZip R (filter_map f xs) (filter_map g xs)
zip_given R f g [] each = tt
zip_given {Y = Y} {Z = Z} R f g (x ∷ xs) each = next (f x) (g x) (each x (inl refl)) (zip_given R f g xs (λ y at. each y (inr at)))
  where
    next : (o : Option Y) (p : Option Z) → BothGive R o p → AllZip R (filter_map f xs) (filter_map g xs) → AllZip R (cons_option o (filter_map f xs)) (cons_option p (filter_map g xs))
    next None None both rest = rest
    next None (Some z) both rest = absurd both
    next (Some y) None both rest = absurd both
    next (Some y) (Some z) both rest = (both, rest)

pub zip_mapped : {X Y : Type 0} (R : X → X → Type 0) (S : Y → Y → Type 0) (f g : X → Y) (xs ys : List X) → AllZip R xs ys → ((x y : X) → In x xs → In y ys → R x y → S (f x) (g y)) → AllZip S (map f xs) (map g ys)
zip_mapped R S f g [] [] h step = tt
zip_mapped R S f g [] (y ∷ ys) h step = absurd h
zip_mapped R S f g (x ∷ xs) [] h step = absurd h
zip_mapped R S f g (x ∷ xs) (y ∷ ys) h step = (step x y (inl refl) (inl refl) h.0, zip_mapped R S f g xs ys h.1 (λ a b at bt. step a b (inr at) (inr bt)))

-- what each of two lists gives
pub zip_given_two : {X Y Z : Type 0} (P : X → X → Type 0) (R : Y → Z → Type 0) (f : X → Option Y) (g : X → Option Z) (xs ys : List X) → AllZip P xs ys
    → ((x y : X) → P x y → BothGive R (f x) (g y)) → AllZip R (filter_map f xs) (filter_map g ys)
zip_given_two P R f g [] [] h each = tt
zip_given_two P R f g [] (y ∷ ys) h each = absurd h
zip_given_two P R f g (x ∷ xs) [] h each = absurd h
zip_given_two {Y = Y} {Z = Z} P R f g (x ∷ xs) (y ∷ ys) h each = next (f x) (g y) (each x y h.0) (zip_given_two P R f g xs ys h.1 each)
  where
    next : (o : Option Y) (p : Option Z) → BothGive R o p → AllZip R (filter_map f xs) (filter_map g ys) → AllZip R (cons_option o (filter_map f xs)) (cons_option p (filter_map g ys))
    next None None given rest = rest
    next None (Some z) given rest = absurd given
    next (Some y) None given rest = absurd given
    next (Some y) (Some z) given rest = (given, rest)
