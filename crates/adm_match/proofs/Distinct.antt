-- What the proof needs of a problem, as facts about its entrants.
use Rattle.std.proofs.Common.{◌≡◌, List, Some, false, inl, inr, refl, sym, ◌∙◌, subst}
use Rattle.std.proofs.lemmas.Bool.{cases_order}
use Rattle.adm_match.specs.declared.progress.Progress.{Progress}
use Rattle.adm_rank.specs.Ranking.{precedes}
use Rattle.adm_match.specs.Market.{Code, Market, is_tenant, key_at, both_precede}
use Rattle.adm_match.specs.Turns.{Shaped, AreRanked}
use Rattle.adm_match.specs.Distinct.{Distinct}
use Rattle.adm_match.proofs.Departure.{held_wish}
use Rattle.adm_match.proofs.Posed.{Posed, well_listed, list_apart, key_is, ranked_by, precedes_total, precedes_total', child_once}

pub distinct : (m : Market) → Posed m → Distinct m
distinct m h = record {
  well = well_listed m h;
  children = child_once m h;
  key_of = λ k e j w ek jw. key_is e.list j w (list_apart m h k e ek) jw;
  keys = λ k l d c j i w z apart dk cl jw iz same free free' before. elim (cases_order k l) [
    | inl is ↦ absurd (apart is)
    | inr other ↦ elim other [
      | inl less ↦
          let f = ranked_by m h w.school k l d c j i w z less dk cl jw iz refl (sym same) free free' in
          precedes_total z.key w.key f.2 before
      | inr more ↦
          let f = ranked_by m h w.school l k c d i j z w more cl dk iz jw (sym same) refl free' free in
          precedes_total' w.key z.key f.2 before
    ]
  ];
}

pub ranked_of : (m : Market) (rows : List Progress) (s : Code) → Distinct m → Shaped m rows → AreRanked m.entrants rows s
ranked_of m rows s h shaped k l d c apart gd gc before =
    let w = held_wish d gd.1.0 s (shaped.holds k d gd.1.0 gd.0 gd.1.1) gd.1.2 in
    let z = held_wish c gc.1.0 s (shaped.holds l c gc.1.0 gc.0 gc.1.1) gc.1.2 in
    let d_key : key_at d.list s ≡ Some w.0.key = subst (λ (t : Code). key_at d.list t ≡ Some w.0.key) w.2 (h.key_of k d gd.1.0.rejections w.0 gd.0 w.1) in
    let c_key : key_at c.list s ≡ Some z.0.key = subst (λ (t : Code). key_at c.list t ≡ Some z.0.key) z.2 (h.key_of l c gc.1.0.rejections z.0 gc.0 z.1) in
    let was : precedes w.0.key z.0.key ≡ false = sym (λ i. both_precede (d_key i) (c_key i)) ∙ before in
    (λ i. both_precede (c_key i) (d_key i))
    ∙ h.keys k l d c gd.1.0.rejections gc.1.0.rejections w.0 z.0 apart gd.0 gc.0 w.1 z.1 (w.2 ∙ sym z.2)
    (subst (λ (t : Code). is_tenant d t ≡ false) (sym w.2) gd.2) (subst (λ (t : Code). is_tenant c t ≡ false) (sym w.2) gc.2) was
