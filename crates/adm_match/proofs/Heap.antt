-- A school that holds more than its quota: its last guest goes.
use Rattle.std.proofs.Common.{◌≡◌, ℕ, ◌+◌, ◌<◌, List, [], ◌∷◌, length, Option, None, Some, Bool, inr, refl, sym, ap, ◌∙◌, subst, arith}
use Rattle.std.specs.Prelude.{IfSome, IfNone, IsPermutation}
use Rattle.adm_match.specs.declared.held.Guest.{Guest}
use Rattle.adm_rank.specs.declared.keys.RankKey.{RankKey}
use Rattle.adm_match.specs.Holding.{Holding, holding_of, tenants_with, guests_with, RanksLast, Considers}
use Rattle.std.proofs.lemmas.List.Sorted.{length_permutation, IsPermutation-trans}

nil_if : (xs : List Guest) → length xs ≡ 0 → xs ≡ []
nil_if [] h = refl
nil_if (x ∷ xs) h = absurd (omega arith)

-- More than the quota are held: the last guest goes, if there is one.
pub takes_over : (old : Holding) (quota : ℕ) (mt : List ℕ) (mg ng : List Guest) (child : ℕ) (key : RankKey) (tenant : Bool) (out : Option ℕ) → quota ≡ old.quota
    → mt ≡ tenants_with old (record { child = child; key = key; tenant = tenant })
    → IsPermutation (guests_with old (record { child = child; key = key; tenant = tenant })) mg → quota < length mt + length mg → IfSome out (RanksLast mg ng)
    → IfNone out ((mg ≡ []) × (ng ≡ [])) → Considers old (holding_of quota mt ng) (record { child = child; key = key; tenant = tenant }) out
takes_over old quota mt mg ng child key tenant None q t p over some none = record {
  quota = q;
  tenants = t;
  guests = record {
    guests = subst (λ (x : List Guest). IsPermutation (guests_with old (record { child = child; key = key; tenant = tenant })) x) (none.0 ∙ sym none.1) p;
    may_stay = inr (nil_if (guests_with old (record { child = child; key = key; tenant = tenant }))
        (omega (arith, length_permutation (guests_with old (record { child = child; key = key; tenant = tenant })) mg p, ap length none.0)));
  };
}
takes_over old quota mt mg ng child key tenant (Some c) q t p over some none = record {
  quota = q;
  tenants = t;
  guests = record {
    over = omega (arith, over, q, ap length t, length_permutation (guests_with old (record { child = child; key = key; tenant = tenant })) mg p);
    last = record {
      guest = some.guest;
      is_child = some.is_child;
      last = some.last;
      others = IsPermutation-trans (guests_with old (record { child = child; key = key; tenant = tenant })) mg (some.guest ∷ ng) p some.others;
    };
  };
}
