-- The order of keys that compares the class, then the distance, then the lot, is the order by which they rank.
use Rattle.std.proofs.Common.{◌≡◌, ◌∙◌, true, refl, sym, ap, arith}
use Rattle.std.specs.Ordering.{is_lt, is_gt, nat_cmp, ordering_then}
use Rattle.std.specs.declared.cmp.Ordering.{Ordering}
use Rattle.std.specs.declared.cmp.Ordering.TheVariants.{Less, Equal, Greater}
use Rattle.std.proofs.lemmas.Bool.Decides.{nat_tests}
use Rattle.adm_rank.specs.declared.keys.RankKey.{RankKey}
use Rattle.adm_rank.specs.Ranking.{precedes, ComparesByRank}

abbrev pub key_cmp : RankKey → RankKey → Ordering
key_cmp a b = ordering_then (nat_cmp a.class b.class) (ordering_then (nat_cmp a.distance b.distance) (nat_cmp a.lot b.lot))

is_less : (a b : RankKey) → is_lt (key_cmp a b) ≡ precedes a b
is_less a b = grind (arith, nat_tests)

is_greater : (a b : RankKey) → is_gt (key_cmp a b) ≡ precedes b a
is_greater a b = grind (arith, nat_tests)

less_if : (o : Ordering) → is_lt o ≡ true → o ≡ Less
less_if Less e = refl
less_if Equal e = cc
less_if Greater e = cc

greater_if : (o : Ordering) → is_gt o ≡ true → o ≡ Greater
greater_if Less e = cc
greater_if Equal e = cc
greater_if Greater e = refl

pub compares_by_rank : ComparesByRank key_cmp
compares_by_rank = record {
  less = λ a b. (λ e. sym (is_less a b) ∙ ap is_lt e, λ e. less_if (key_cmp a b) (is_less a b ∙ e));
  greater = λ a b. (λ e. sym (is_greater a b) ∙ ap is_gt e, λ e. greater_if (key_cmp a b) (is_greater a b ∙ e));
}
