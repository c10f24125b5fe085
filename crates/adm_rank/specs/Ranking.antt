-- Which of two children ranks before the other at a school (School Admissions Code 2021, section 1; this profile).
use Rattle.std.specs.Prelude.{◌≡◌, ◌≢◌, ◌⊎◌, ◌↔◌, ℕ, Bool, true, false, ◌||◌, ◌&&◌, ◌==◌, nat_lt}
use Rattle.std.specs.declared.cmp.Ordering.{Ordering}
use Rattle.std.specs.declared.cmp.Ordering.TheVariants.{Less, Greater}
use Rattle.adm_types.specs.declared.rows.School.{School}
use Rattle.adm_types.specs.declared.rows.Child.{Child}
use Rattle.adm_rank.specs.Distance.{distance_of}
use Rattle.adm_rank.specs.Class.{class_of}
use Rattle.adm_rank.specs.declared.keys.RankKey.{RankKey}

-- the key of a child at a school, with its lot there
abbrev pub key_of : School → Child → ℕ → RankKey
key_of school child lot = record { class = class_of school child; distance = distance_of school.at child.home; lot = lot }

-- the smaller class, then the smaller distance, then the smaller lot
abbrev pub precedes : RankKey → RankKey → Bool
precedes a b =
    nat_lt a.class b.class
    || (a.class == b.class
    && (nat_lt a.distance b.distance || (a.distance == b.distance && nat_lt a.lot b.lot)))

-- The order of keys is strict, and of two keys with different lots one ranks before the other.
pub record IsStrictOrder : Type 0 where
  pub irreflexive : (a : RankKey) → precedes a a ≡ false
  pub asymmetric : (a b : RankKey) → precedes a b ≡ true → precedes b a ≡ false
  pub transitive : (a b c : RankKey) → precedes a b ≡ true → precedes b c ≡ true → precedes a c ≡ true
  pub total : (a b : RankKey) → a.lot ≢ b.lot → (precedes a b ≡ true) ⊎ (precedes b a ≡ true)

-- Keys compare as they rank: one is less than another exactly where it ranks before it, and greater exactly where the other ranks before it.
pub record ComparesByRank (compare : RankKey → RankKey → Ordering) : Type 0 where
  pub less : (a b : RankKey) → (compare a b ≡ Less) ↔ (precedes a b ≡ true)
  pub greater : (a b : RankKey) → (compare a b ≡ Greater) ↔ (precedes b a ≡ true)
