-- Options: what may be missing.
use Rattle.std.proofs.Common.{◌≡◌, refl, true, not, List, ◌++◌, Option, Some, None, is_some, option_map, IfNone}

-- what is not there is missing
pub none_of : {A : Type 0} (o : Option A) → not (is_some o) ≡ true → o ≡ None
none_of None e = refl
none_of (Some x) e = cc

-- what holds where it is missing gives what follows from that
pub if_none_weaker : {A : Type 0} (P Q : Type 0) (r : Option A) → IfNone r P → (P → Q) → IfNone r Q
if_none_weaker P Q None p f = f p
if_none_weaker P Q (Some x) p f = tt

-- a list, after what is before it
abbrev pub with_front : {A : Type 0} → List A → Option (List A) → Option (List A)
with_front front o = option_map (λ xs. front ++ xs) o
