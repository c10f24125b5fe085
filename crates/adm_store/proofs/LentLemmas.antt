-- The parameters of rows, value by value.
use Rattle.std.proofs.Common.{◌≡◌, ◌∙◌, ℕ, List, [], ◌∷◌, ◌++◌, take, ap, subst, append_assoc}
use Rattle.sqlite_value.specs.declared.value.ValueRef.{ValueRef}
use Rattle.sqlite.specs.Order.{Row}
use Rattle.sqlite.specs.Values.{bound}

-- four values after others
pub four_after : {A : Type 0} (a b c d e : List A) (v w x y : A) → b ≡ a ++ v ∷ [] → c ≡ b ++ w ∷ [] → d ≡ c ++ x ∷ [] → e ≡ d ++ y ∷ [] → e ≡ a ++ v ∷ w ∷ x ∷ y ∷ []
four_after a b c d e v w x y one two three four =
    four ∙ ap (λ s. s ++ y ∷ []) (three ∙ ap (λ s. s ++ x ∷ []) (two ∙ ap (λ s. s ++ w ∷ []) one)) ∙ append_assoc ((a ++ v ∷ []) ++ w ∷ []) (x ∷ []) (y ∷ [])
    ∙ append_assoc (a ++ v ∷ []) (w ∷ []) (x ∷ y ∷ []) ∙ append_assoc a (v ∷ []) (w ∷ x ∷ y ∷ [])

-- five values after others
pub five_after : {A : Type 0} (a b c d e f : List A) (v w x y z : A) → b ≡ a ++ v ∷ [] → c ≡ b ++ w ∷ [] → d ≡ c ++ x ∷ [] → e ≡ d ++ y ∷ [] → f ≡ e ++ z ∷ []
    → f ≡ a ++ v ∷ w ∷ x ∷ y ∷ z ∷ []
five_after a b c d e f v w x y z one two three four five =
    five ∙ ap (λ s. s ++ z ∷ []) (four_after a b c d e v w x y one two three four) ∙ append_assoc a (v ∷ w ∷ x ∷ y ∷ []) (z ∷ [])

-- as many parameters, counted otherwise
pub as_many : (i j : ℕ) (parameters : List ValueRef) (row : Row) → i ≡ j → bound (take i parameters) ≡ row → bound (take j parameters) ≡ row
as_many i j parameters row same is = subst (λ n. bound (take n parameters) ≡ row) same is
