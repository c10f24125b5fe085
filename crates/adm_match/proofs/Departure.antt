-- The turn in which a school rejects an entrant: no stable allocation gives it that school.
use Rattle.std.proofs.Common.{◌≡◌, ◌≢◌, ℕ, ◌+◌, ◌<◌, ◌≤◌, List, length, set, None, Some, true, false, ◌||◌, ◌&&◌, inl, inr, refl, sym, ap, ◌∙◌, subst, arith}
use Rattle.std.specs.Prelude.{nat_lt}
use Rattle.std.specs.List.{slice_get, list_any}
use Rattle.std.proofs.lemmas.Bool.{cases_Bool, cases_lt, cases_eq, false≢true, and_from, or_left, or_right, lt-ltb}
use Rattle.std.proofs.lemmas.Option.{none-some, same_Some, slice_get_within}
use Rattle.adm_types.specs.Code.{has}
use Rattle.adm_match.specs.declared.problem.Wish.{Wish}
use Rattle.adm_match.specs.declared.progress.Progress.{Progress}
use Rattle.adm_match.specs.Market.{Code, Candidate, Market, preference_rank, assigned_rank, is_tenant, both_precede, ranks_before, quota_of}
use Rattle.adm_match.specs.Stability.{Allocation, count_at, is_guest, blocks, IsStable}
use Rattle.adm_match.specs.Turns.{held_at, IsWithin, WellListed, IsHeldByNext, Shaped, NoneLost, IsGuestAt, IsRejected, Sound}
use Rattle.adm_match.proofs.SideBySide.{more_pass, after_set}
use Rattle.adm_match.proofs.RanksAndBlocks.{has_true, has_tells, not_has, same_or_not, at_All, list_any_of, same_rank, ranks_before_trans, guest_from}
use Rattle.adm_match.proofs.Arrival.{Arrived, held_set_other, held_set_less, other_has, same_entrant, held_fact, shaped_set, guest_before}

-- the wish by which a school holds an entrant
pub held_wish : (e : Candidate) (r : Progress) (s : Code) → IsHeldByNext e r → r.school ≡ Some s → (w : Wish) × (slice_get e.list r.rejections ≡ Some w) × (w.school ≡ s)
held_wish e r s holds at = elim holds [
  | inl none ↦ absurd (none-some s (sym none ∙ at))
  | inr some ↦ (some.0, some.1, same_Some some.0.school s (sym some.2 ∙ at))
]

-- The school holds more than its quota, and d is the guest there that ranks last. In a stable allocation with d
-- at the school, of this problem or of one that it is within, another one of those held would not be
-- there, and it and the school would block.
pub not_lost : (m : Market) (rows : List Progress) (s : Code) (k : ℕ) (d : Candidate) (q : Progress) → WellListed m → Shaped m rows → NoneLost m rows
    → slice_get m.entrants k ≡ Some d → slice_get rows k ≡ Some q → q.school ≡ Some s → is_tenant d s ≡ false → quota_of m.seats s < held_at rows s
    → ((l : ℕ) (c : Candidate) → l ≢ k → IsGuestAt m.entrants rows s l c → ranks_before s c d ≡ true) → (o : Market) → IsWithin m o → (a : Allocation) → IsStable o a
    → q.rejections + 1 ≤ assigned_rank d.list (a d.child)
not_lost m rows s k d q well shaped lost at row here free over last o wide a stable =
    let w = held_wish d q s (shaped.holds k d q at row) here in
    elim (cases_lt q.rejections (assigned_rank d.list (a d.child))) [
      | inl less ↦ omega arith
      | inr most ↦ absurd (
          let least = lost o wide a stable k d q at row in
          let whole = wide.members k d at in
          let f = whole.1 in
          let d_rank : preference_rank d.list s ≡ q.rejections = ap (preference_rank d.list) (sym w.2) ∙ well.own_rank k d q.rejections w.0 at w.1 in
          let d_listed : preference_rank d.list s < length d.list = omega (arith, d_rank, slice_get_within d.list q.rejections w.0 w.1) in
          let there : a d.child ≡ Some s = same_rank d.list (a d.child) q.rejections w.0 w.1 (omega (arith, most, least)) ∙ ap Some w.2 in
          let there' : a f.child ≡ Some s = ap a (sym whole.3.child) ∙ there in
          let free' : is_tenant f s ≡ false = whole.3.tenant s ∙ free in
          let few = stable.feasible s (list_any_of (is_guest a s) o.entrants whole.0 f whole.2 (guest_from a s f there' free')) in
          let fewer = wide.counts (λ child. has (a child) s) in
          let one = more_pass (λ r. has r.school s) (λ e. has (a e.child) s) rows m.entrants shaped.same (omega (arith, few, fewer, wide.places s, over)) in
          let l = one.0 in
          let x = one.1 in
          let c = one.2 in
          let x_here : x.school ≡ Some s = (has_tells x.school s).0 one.5 in
          let z = held_wish c x s (shaped.holds l c x one.4 one.3) x_here in
          let c_rank : preference_rank c.list s ≡ x.rejections = ap (preference_rank c.list) (sym z.2) ∙ well.own_rank l c x.rejections z.0 one.4 z.1 in
          let c_listed : preference_rank c.list s < length c.list = omega (arith, c_rank, slice_get_within c.list x.rejections z.0 z.1) in
          let c_least = lost o wide a stable l c x one.4 one.3 in
          let c_whole = wide.members l c one.4 in
          let g = c_whole.1 in
          let c_elsewhere : assigned_rank c.list (a c.child) ≡ x.rejections → ⊥ = λ same. not_has (a c.child) s one.6 (same_rank c.list (a c.child) x.rejections z.0 z.1 same ∙ ap Some z.2) in
          let g_has : assigned_rank g.list (a c.child) ≡ assigned_rank g.list (a g.child) = ap (λ n. assigned_rank g.list (a n)) c_whole.3.child in
          let wants : preference_rank g.list s < assigned_rank g.list (a g.child) = omega (arith, c_whole.3.rank s c_listed, c_rank, c_least, c_elsewhere, c_whole.3.later (a c.child), g_has) in
          let room = nat_lt (count_at o a s) (quota_of o.seats s) in
          let behind = list_any (λ other. is_guest a s other && ranks_before s g other) o.entrants in
          let entitled : (is_tenant g s || (room || behind)) ≡ true = elim (cases_Bool (is_tenant c s)) [
            | inl tenant ↦ or_left (is_tenant g s) (room || behind) (c_whole.3.tenant s ∙ tenant)
            | inr guest ↦
                let apart : l ≢ k = λ same. not_has (a c.child) s one.6 (ap (λ (e : Candidate). a e.child) (sym (same_entrant m k l d c at one.4 same)) ∙ there) in
                let ranks = last l c apart (one.4, (x, one.3, x_here), guest) in
                let ranks' : ranks_before s g f ≡ true = (λ i. both_precede (c_whole.3.key s c_listed i) (whole.3.key s d_listed i)) ∙ ranks in
                or_right (is_tenant g s) (room || behind) (or_right room behind
                (list_any_of (λ other. is_guest a s other && ranks_before s g other) o.entrants whole.0 f whole.2
                (and_from (is_guest a s f) (ranks_before s g f) (guest_from a s f there' free') ranks')))
          ] in
          let blocking : blocks o a g s ≡ true = and_from (nat_lt (preference_rank g.list s) (assigned_rank g.list (a g.child))) (is_tenant g s || (room || behind)) (lt-ltb _ _ wants) entitled in
          let unblocked : blocks o a g s ≡ false = at_All (λ e. (t : Code) → blocks o a e t ≡ false) o.entrants c_whole.0 g stable.unblocked c_whole.2 s in
          false≢true (sym unblocked ∙ blocking))
    ]

-- The school that holds one too many rejects the guest that ranks last.
pub leave : (m : Market) (rows : List Progress) (i : ℕ) (s : Code) (k : ℕ) (d : Candidate) (q : Progress) → WellListed m → Arrived m rows i s
    → slice_get m.entrants k ≡ Some d → slice_get rows k ≡ Some q → q.school ≡ Some s → is_tenant d s ≡ false → quota_of m.seats s < held_at rows s
    → ((l : ℕ) (c : Candidate) → l ≢ k → IsGuestAt m.entrants rows s l c → ranks_before s c d ≡ true) → Sound m (set rows k (record q { school = None; rejections = q.rejections + 1 }))
leave m rows i s k d q well h at row here free over last =
    let v : Progress = record q { school = None; rejections = q.rejections + 1 } in
    let now = set rows k v in
    let w = held_wish d q s (h.shaped.holds k d q at row) here in
    let less : held_at now s + 1 ≡ held_at rows s = held_set_less rows k q v s row (has_true q.school s here) refl in
    let others : (t : Code) → t ≢ s → held_at now t ≡ held_at rows t = λ t n. held_set_other rows k q v t row (other_has q.school s t here n) refl in
    let before : (t : Code) (l : ℕ) (e : Candidate) → IsGuestAt m.entrants now t l e → (l ≢ k) × IsGuestAt m.entrants rows t l e = λ t l e g. guest_before m rows k v t l e refl g in
    let last_one : IsGuestAt m.entrants rows s k d = (at, (q, row, here), free) in
    let old : (l : ℕ) (e : Candidate) (x : Progress) (j : ℕ) (z : Wish) → slice_get m.entrants l ≡ Some e → slice_get rows l ≡ Some x → j < x.rejections
    → slice_get e.list j ≡ Some z → IsRejected m now e z.school
    = λ l e x j z el xl lt jz. elim (same_or_not z.school s) [
      | inl is ↦ subst (λ (t : Code). IsRejected m now e t) (sym is) (record {
        guest = h.guest_here l e x j z el xl lt jz is;
        full = omega (arith, less, h.full_here l e x j z el xl lt jz is);
        outranked = λ p c g.
            let was = before s p c g in
            elim (cases_eq p i) [
              | inl newcomer ↦
                  let old_last : k ≢ i = λ same. was.0 (newcomer ∙ sym same) in
                  ranks_before_trans s c d e (last p c was.0 was.1) (h.outranked_here l e x j z el xl lt jz is k d old_last last_one)
              | inr apart ↦ h.outranked_here l e x j z el xl lt jz is p c apart was.1
            ];
      })
      | inr n ↦ let was = h.rejected_there l e x j z el xl lt jz n in record {
        guest = was.guest;
        full = rw (others z.school n) was.full;
        outranked = λ p c g. was.outranked p c (before z.school p c g).1;
      }
    ] in
    record {
      shaped = shaped_set m rows k d v h.shaped at (h.shaped.children k d q at row) (inl refl) (omega (arith, slice_get_within d.list q.rejections w.0 w.1));
      within_quota = λ t l e g.
          let was = before t l e g in
          elim (same_or_not t s) [
            | inl is ↦
                let mine : IsGuestAt m.entrants rows s l e = subst (λ (u : Code). IsGuestAt m.entrants rows u l e) is was.1 in
                let most : held_at rows s ≤ quota_of m.seats s + 1 = elim (cases_eq l i) [
                  | inl newcomer ↦ h.within_quota_here k d (λ same. was.0 (newcomer ∙ sym same)) last_one
                  | inr apart ↦ h.within_quota_here l e apart mine
                ] in
                subst (λ (u : Code). held_at now u ≤ quota_of m.seats u) (sym is) (omega (arith, less, most))
            | inr n ↦ rw (others t n) (h.within_quota_there t l e n was.1)
          ];
      rejected = λ l e x j z el xl lt jz. elim (after_set rows k l v x xl) [
        | inr g ↦ old l e x j z el g.1 lt jz
        | inl g ↦
            let same : d ≡ e = same_entrant m k l d e at el g.0 in
            let below : j < q.rejections + 1 = omega (arith, ap (λ (y : Progress). y.rejections) g.1) in
            let mine : slice_get d.list j ≡ Some z = subst (λ (y : Candidate). slice_get y.list j ≡ Some z) (sym same) jz in
            subst (λ (y : Candidate). IsRejected m now y z.school) same (elim (cases_lt j q.rejections) [
              | inl less' ↦ old k d q j z at row less' mine
              | inr most ↦
                  let j_is : j ≡ q.rejections = omega (arith, most, below) in
                  let z_is : w.0 ≡ z = same_Some w.0 z (sym w.1 ∙ (ap (slice_get d.list) (sym j_is) ∙ mine)) in
                  subst (λ (t : Code). IsRejected m now d t) (sym w.2 ∙ ap (λ (y : Wish). y.school) z_is) (record {
                    guest = free;
                    full = omega (arith, less, over);
                    outranked = λ p c g'. let was = before s p c g' in last p c was.0 was.1;
                  })
            ])
      ];
      none_lost = λ o wide a stable. held_fact (λ e x. x.rejections ≤ assigned_rank e.list (a e.child)) m rows k d v at
          (not_lost m rows s k d q well h.shaped h.none_lost at row here free over last o wide a stable) (h.none_lost o wide a stable);
    }
