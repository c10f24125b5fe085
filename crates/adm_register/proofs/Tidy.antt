-- Changes whose rows are in the order of their keys: none, one, or a list that rises.
use Rattle.std.proofs.Common.{refl, List, [], ◌∷◌, map}
use Rattle.std.specs.declared.cmp.Ordering.{Ordering}
use Rattle.std.specs.List.Sorted.{IsStrictlySortedBy}
use Rattle.adm_register.specs.Fits.{IsTidyIn}

-- nothing is tidy, and so is one row, or one key
module _ {K V : Type 0} (R : K → K → Ordering) (key : V → K) where
  pub tidy_none : IsTidyIn R key [] []
  unfolding IsStrictlySortedBy
  tidy_none = record { put_sorted = tt; cut_sorted = tt; apart = tt }

  pub tidy_put : (row : V) → IsTidyIn R key [] (row ∷ [])
  unfolding IsStrictlySortedBy
  tidy_put row = record { put_sorted = (tt, tt); cut_sorted = tt; apart = tt }

  -- and rows in order
  pub tidy_puts : (put : List V) → IsStrictlySortedBy R (map key put) → IsTidyIn R key [] put
  unfolding IsStrictlySortedBy
  tidy_puts put sorted = record { put_sorted = sorted; cut_sorted = tt; apart = tt }

  pub tidy_cut : (k : K) → IsTidyIn R key (k ∷ []) []
  unfolding IsStrictlySortedBy
  tidy_cut k = record { put_sorted = tt; cut_sorted = (tt, tt); apart = (refl, tt) }
