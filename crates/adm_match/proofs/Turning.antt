-- One turn of the queue: the rows, the schools' holdings and the queue after it.
use Rattle.std.proofs.Common.{◌≡◌, ◌≢◌, ◌⊎◌, ℕ, ◌+◌, ◌<◌, ◌≤◌, List, [], ◌∷◌, ◌++◌, length, set, Option, None, Some, Bool, false, cond, not, ◌&&◌, inl, inr, refl, sym, ap, ◌∙◌, subst, arith, length-set}
use Rattle.std.specs.Prelude.{option_map, unwrap_or, bytes_eq, count_by}
use Rattle.std.specs.List.{slice_get}
use Rattle.std.proofs.lemmas.Bool.{cases_Bool, cases_order, false≢true}
use Rattle.std.proofs.lemmas.Option.{none-some, same_Some, slice_get_within}
use Rattle.std.proofs.lemmas.Slice.Eq.{bytes_eq-Decides}
use Rattle.std.proofs.lemmas.List.Sorted.{length_permutation}
use Rattle.std.proofs.lemmas.List.Sums.{sum_by-cons}
use Rattle.adm_types.specs.Code.{has}
use Rattle.adm_match.specs.declared.problem.Wish.{Wish}
use Rattle.adm_match.specs.declared.problem.Seats.{Seats}
use Rattle.adm_match.specs.declared.held.Guest.{Guest}
use Rattle.adm_match.specs.declared.progress.Progress.{Progress}
use Rattle.adm_match.specs.Market.{Code, Candidate, Market, is_tenant, key_at, quota_of, some_pair, same_code}
use Rattle.adm_match.specs.Turns.{held_at, Shaped, Sound, IsFree, IsLast, NoGuest, held_by, with_rejection}
use Rattle.adm_match.specs.Distinct.{Distinct, Seated}
use Rattle.adm_match.specs.Holding.{Holding, Proposal, tenants_with, guests_with, HoldsAll, Rejects, Considers, guest_entry, guests_of, SameBag}
use Rattle.adm_match.specs.Queue.{IsMirror, Mirrored, Turned}
use Rattle.adm_match.proofs.SideBySide.{after_set}
use Rattle.adm_match.proofs.RanksAndBlocks.{has_true}
use Rattle.adm_match.proofs.Arrival.{stay, held_set_more, held_set_less, held_set_other, none_has, other_has}
use Rattle.adm_match.proofs.Departure.{leave, held_wish}
use Rattle.adm_match.proofs.Posed.{some_pair_not}
use Rattle.adm_match.proofs.Turn.{came, turns_left_leave}
use Rattle.adm_match.proofs.GivenByRows.{find_is}
use Rattle.adm_match.proofs.Mirror.{entry_is, entry_none, guests_set, entry_behind, bag_of, bag_rest, bag_contains, last_from_heap}

-- two seats at different indices have different codes
pub codes_apart : (seats : List Seats) (i j : ℕ) (a b : Seats) → some_pair same_code seats ≡ false → slice_get seats i ≡ Some a → slice_get seats j ≡ Some b → i ≢ j → a.code ≡ b.code → ⊥
codes_apart seats i j a b once ia jb apart same = elim (cases_order i j) [
  | inl is ↦ apart is
  | inr other ↦ elim other [
    | inl less ↦ false≢true (sym (some_pair_not same_code seats i j a b once ia jb less) ∙ (bytes_eq-Decides a.code b.code).1 same)
    | inr more ↦ false≢true (sym (some_pair_not same_code seats j i b a once jb ia more) ∙ (bytes_eq-Decides b.code a.code).1 (sym same))
  ]
]

-- the quota of a school is that of its seats
pub quota_at : (m : Market) (j : ℕ) (seat : Seats) → Seated m → slice_get m.seats j ≡ Some seat → quota_of m.seats seat.code ≡ seat.quota
quota_at m j seat h at =
    ap (λ (o : Option Seats). unwrap_or (option_map (λ (s : Seats). s.quota) o) 0)
    (find_is (λ (s : Seats). bytes_eq s.code seat.code) m.seats j seat at ((bytes_eq-Decides seat.code seat.code).1 refl)
    (λ i other less io. some_pair_not same_code m.seats i j other seat h.once io at less))

-- a written row that names neither before nor after the school leaves its guests
bag_other : (es : List Candidate) (rows : List Progress) (t : Code) (i : ℕ) (e : Candidate) (r v : Progress) → slice_get es i ≡ Some e → slice_get rows i ≡ Some r
    → has r.school t ≡ false → has v.school t ≡ false → SameBag (guests_of es (set rows i v) t) (guests_of es rows t)
bag_other es rows t i e r v ei ri was is p =
    let before : guest_entry i e r t ≡ [] = entry_none i e r t (ap (λ b. b && not (is_tenant e t)) was) in
    let after : guest_entry i e v t ≡ [] = entry_none i e v t (ap (λ b. b && not (is_tenant e t)) is) in
    let moved = bag_of _ _ (guests_set es rows t i e r v ei ri) p in
    sym ((λ k. count_by p (sym after k ++ guests_of es rows t)) ∙ (moved ∙ (λ k. count_by p (before k ++ guests_of es (set rows i v) t))))

-- what the entrant at an index proposes to the school of a wish, as a tenant of it or not
abbrev proposed : ℕ → Wish → Bool → Proposal
proposed i w tenant = record { child = i; key = w.key; tenant = tenant }

abbrev pub proposal_of : ℕ → Candidate → Wish → Proposal
proposal_of i e w = proposed i w (is_tenant e w.school)

-- the newcomer's school: how many it holds now, and which guests
pub came_here : (m : Market) (rows : List Progress) (i : ℕ) (e : Candidate) (r : Progress) (w : Wish) (seat : Seats) (old : Holding) → Distinct m
    → slice_get m.entrants i ≡ Some e → slice_get rows i ≡ Some r → r.school ≡ None → slice_get e.list r.rejections ≡ Some w → IsMirror m rows seat old
    → seat.code ≡ w.school → (length (tenants_with old (proposal_of i e w)) + length (guests_with old (proposal_of i e w)) ≡ held_at
    (set rows i (held_by r w.school)) w.school) × SameBag (guests_of m.entrants (set rows i (held_by r w.school)) w.school) (guests_with old (proposal_of i e w))
came_here m rows i e r w seat old d ei ri free next mirror code =
    let s = w.school in
    let v = held_by r s in
    let now = set rows i v in
    let more : held_at now s ≡ held_at rows s + 1 = held_set_more rows i r v s ri (none_has r.school s free) (has_true v.school s refl) in
    let count : length old.tenants + length old.guests ≡ held_at rows s = mirror.count ∙ ap (held_at rows) code in
    let bag : SameBag (guests_of m.entrants rows s) old.guests = λ p. ap (λ (c : Code). count_by p (guests_of m.entrants rows c)) (sym code) ∙ mirror.guests p in
    let before : guest_entry i e r s ≡ [] = entry_none i e r s (ap (λ b. b && not (is_tenant e s)) (none_has r.school s free)) in
    let moved : SameBag (guest_entry i e v s ++ guests_of m.entrants rows s) (guests_of m.entrants now s)
    = λ p. bag_of _ _ (guests_set m.entrants rows s i e r v ei ri) p ∙ (λ k. count_by p (before k ++ guests_of m.entrants now s)) in
    elim (cases_Bool (is_tenant e s)) [
      | inl tenant ↦
          let after : guest_entry i e v s ≡ [] = entry_none i e v s ((λ k. has v.school s && not (tenant k)) ∙ ap (λ b. b && false) (has_true v.school s refl)) in (
            subst (λ b. length (tenants_with old (proposed i w b)) + length (guests_with old (proposed i w b)) ≡ held_at now s) (sym tenant)
                (omega (arith, more, count, length_more old.tenants i)),
            λ p. sym (moved p) ∙ ((λ k. count_by p (after k ++ guests_of m.entrants rows s)) ∙ (bag p ∙ (λ k. count_by p (guests_with old (proposed i w (sym tenant k)))))),
          )
      | inr guest ↦
          let g : Guest = record { key = w.key; child = i } in
          let after : guest_entry i e v s ≡ (g ∷ []) = entry_is i e v s w.key refl guest (d.key_of i e r.rejections w ei next) in (
            subst (λ b. length (tenants_with old (proposed i w b)) + length (guests_with old (proposed i w b)) ≡ held_at now s) (sym guest) (omega (arith, more, count)),
            λ p. sym (moved p) ∙ ((λ k. count_by p (after k ++ guests_of m.entrants rows s))
                ∙ (one_more p g (guests_of m.entrants rows s) old.guests (bag p) ∙ (λ k. count_by p (guests_with old (proposed i w (sym guest k)))))),
          )
    ]
  where
    length_more : (xs : List ℕ) (x : ℕ) → length (xs ++ x ∷ []) ≡ length xs + 1
    length_more [] x = refl
    length_more (y ∷ ys) x = omega (arith, length_more ys x)

    one_more : (p : Guest → Bool) (g : Guest) (xs ys : List Guest) → count_by p xs ≡ count_by p ys → count_by p (g ∷ xs) ≡ count_by p (g ∷ ys)
    one_more p g xs ys h = omega (arith, h, sum_by-cons (λ x. cond (p x) 1 0) g xs, sum_by-cons (λ x. cond (p x) 1 0) g ys)

-- the mirror of a school at another index than the one written
other_mirror : (m : Market) (rows : List Progress) (i : ℕ) (e : Candidate) (r v : Progress) (seat : Seats) (held : Holding) → slice_get m.entrants i ≡ Some e
    → slice_get rows i ≡ Some r → has r.school seat.code ≡ false → has v.school seat.code ≡ false → IsMirror m rows seat held → IsMirror m (set rows i v) seat held
other_mirror m rows i e r v seat held ei ri was is h = record {
  quota = h.quota;
  count = h.count ∙ sym (held_set_other rows i r v seat.code ri was is);
  guests = λ p. bag_other m.entrants rows seat.code i e r v ei ri was is p ∙ h.guests p;
}

-- one school's holding is written
mirrored_set : (m : Market) (rows now : List Progress) (schools : List Holding) (at : ℕ) (seat : Seats) (new : Holding) → Mirrored m rows schools
    → slice_get m.seats at ≡ Some seat → IsMirror m now seat new
    → ((j : ℕ) (other : Seats) (held : Holding) → j ≢ at → slice_get m.seats j ≡ Some other → IsMirror m rows other held → IsMirror m now other held) → Mirrored m now (set schools at new)
mirrored_set m rows now schools at seat new h here mine rest = record {
  same = length-set schools at new ∙ h.same;
  each = λ j other held jo jk. elim (after_set schools at j new held jk) [
    | inl is ↦
        let seat_is : seat ≡ other = same_Some seat other (sym here ∙ (ap (slice_get m.seats) (sym is.0) ∙ jo)) in
        subst (λ (k : Holding). IsMirror m now other k) is.1 (subst (λ (x : Seats). IsMirror m now x new) seat_is mine)
    | inr is ↦ rest j other held is.0 jo (h.each j other held jo is.1)
  ];
}

-- the school that an entrant proposes to, and its holding
pub record Coming (m : Market) (rows : List Progress) (schools : List Holding) (i at : ℕ) (e : Candidate) (r : Progress) (w : Wish) (seat : Seats) (old : Holding) : Type 0 where
  pub distinct : Distinct m
  pub seated : Seated m
  pub sound : Sound m rows
  pub mirrored : Mirrored m rows schools
  pub entrant : slice_get m.entrants i ≡ Some e
  pub row : slice_get rows i ≡ Some r
  pub free : r.school ≡ None
  pub less : r.rejections < length e.list
  pub next : slice_get e.list r.rejections ≡ Some w
  pub seat_at : slice_get m.seats at ≡ Some seat
  pub code : seat.code ≡ w.school
  pub held_at : slice_get schools at ≡ Some old

-- who is free after the entrant at i has proposed to a school
free_after_coming : (es : List Candidate) (rows : List Progress) (i : ℕ) (r : Progress) (s : Code) (k : ℕ) → IsFree es (set rows i (held_by r s)) k → (k ≢ i) × IsFree es rows k
free_after_coming es rows i r s k f = elim (after_set rows i k (held_by r s) f.1 f.3) [
  | inl is ↦ absurd (none-some s (sym f.4 ∙ ap (λ (x : Progress). x.school) (sym is.1)))
  | inr is ↦ (is.0, (f.0, f.1, f.2, is.1, f.4, f.5))
]

free_after_leaving : (es : List Candidate) (rows : List Progress) (k : ℕ) (q : Progress) (l : ℕ) → IsFree es (set rows k (with_rejection q)) l → (l ≡ k) ⊎ IsFree es rows l
free_after_leaving es rows k q l f = elim (after_set rows k l (with_rejection q) f.1 f.3) [
  | inl is ↦ inl is.0
  | inr is ↦ inr (f.0, f.1, f.2, is.1, f.4, f.5)
]

empty_bag : (es : List Candidate) (rows : List Progress) (s : Code) (gs : List Guest) (m : Market) → m.entrants ≡ es → Distinct m → Shaped m rows
    → SameBag (guests_of es rows s) gs → gs ≡ [] → NoGuest es rows s
empty_bag es rows s gs m es_is d shaped bag none k e g =
    let ek : slice_get m.entrants k ≡ Some e = ap (λ (x : List Candidate). slice_get x k) es_is ∙ g.0 in
    let z = held_wish e g.1.0 s (shaped.holds k e g.1.0 ek g.1.1) g.1.2 in
    let key : key_at e.list s ≡ Some z.0.key = subst (λ (t : Code). key_at e.list t ≡ Some z.0.key) z.2 (d.key_of k e g.1.0.rejections z.0 ek z.1) in
    let there = bag_contains (guests_of es rows s) gs _ bag (entry_behind es rows s k e z.0.key g key) in
    omega (arith, there.1, ap length none)

-- nobody is rejected
pub turn_holds : (m : Market) (rows now : List Progress) (schools : List Holding) (i at : ℕ) (e : Candidate) (r : Progress) (w : Wish) (seat : Seats) (old new : Holding)
    → Coming m rows schools i at e r w seat old → now ≡ set rows i (held_by r w.school) → Considers old new (proposal_of i e w) None → Turned m rows now (set schools at new) i None
turn_holds m rows now schools i at e r w seat old new c now_is considers =
    subst (λ (x : List Progress). Turned m rows x (set schools at new) i None) (sym now_is) (
    let s = w.school in
    let mid = set rows i (held_by r s) in
    let here = came m rows mid i w (e, r, c.entrant, c.row, c.free, c.less) c.sound c.next refl in
    let mine = came_here m rows i e r w seat old c.distinct c.entrant c.row c.free c.next (c.mirrored.each at seat old c.seat_at c.held_at) c.code in
    let quota : quota_of m.seats s ≡ old.quota = ap (quota_of m.seats) (sym c.code) ∙ (quota_at m at seat c.seated c.seat_at ∙ sym (c.mirrored.each at seat old c.seat_at c.held_at).quota) in
    let holds : HoldsAll old new (proposal_of i e w) = considers.guests in
    let may_stay : (held_at mid s ≤ quota_of m.seats s) ⊎ NoGuest m.entrants mid s = elim holds.may_stay [
      | inl room ↦ inl (omega (arith, room, mine.0, quota))
      | inr none ↦ inr (empty_bag m.entrants mid s (guests_with old (proposal_of i e w)) m refl c.distinct here.0.shaped mine.1 none)
    ] in
    record {
      sound = stay m mid i s here.0 may_stay;
      mirrored = mirrored_set m rows mid schools at seat new c.mirrored c.seat_at (record {
        quota = considers.quota ∙ (c.mirrored.each at seat old c.seat_at c.held_at).quota;
        count = omega (arith, mine.0, ap length considers.tenants, length_permutation _ _ holds.guests, ap (held_at mid) c.code);
        guests = λ p. ap (λ (t : Code). count_by p (guests_of m.entrants mid t)) c.code ∙ (mine.1 p ∙ bag_of _ _ holds.guests p);
      }) (λ j other held apart jo was.
          let not_here : other.code ≢ s = λ same. codes_apart m.seats j at other seat c.seated.once jo c.seat_at apart (same ∙ sym c.code) in
          other_mirror m rows i e r (held_by r s) other held c.entrant c.row (none_has r.school other.code c.free) (other_has (Some s) s other.code refl not_here) was);
      falls = omega (arith, here.1);
      free = λ k f. inl (free_after_coming m.entrants rows i r s k f);
      within = tt;
    })

-- the guest that ranks last is rejected
pub record Leaving (m : Market) (mid : List Progress) (s : Code) (k : ℕ) (guest : Guest) : Type 0 where
  pub last : IsLast m.entrants mid s k
  pub child : k ≡ guest.child
  pub key : key_at last.0.list s ≡ Some guest.key

pub leaving : (m : Market) (rows mid : List Progress) (schools : List Holding) (i at : ℕ) (e : Candidate) (r : Progress) (w : Wish) (seat : Seats) (old new : Holding)
    (out : ℕ) → Coming m rows schools i at e r w seat old → mid ≡ set rows i (held_by r w.school) → (considers : Considers old new (proposal_of i e w) (Some out))
    → Leaving m mid w.school out considers.guests.last.guest
leaving m rows mid schools i at e r w seat old new out c mid_is considers =
    let s = w.school in
    let here = came m rows mid i w (e, r, c.entrant, c.row, c.free, c.less) c.sound c.next mid_is in
    let mine = came_here m rows i e r w seat old c.distinct c.entrant c.row c.free c.next (c.mirrored.each at seat old c.seat_at c.held_at) c.code in
    let bag : SameBag (guests_of m.entrants mid s) (guests_with old (proposal_of i e w)) = λ p. ap (λ (x : List Progress). count_by p (guests_of m.entrants x s)) mid_is ∙ mine.1 p in
    let gone : Rejects old new (proposal_of i e w) out = considers.guests in
    let last = last_from_heap m mid s (guests_with old (proposal_of i e w)) new.guests out c.distinct here.0.shaped bag gone.last in
    record { last = last.0; child = sym gone.last.is_child; key = last.1 }

pub turn_rejects : (m : Market) (rows mid now : List Progress) (schools : List Holding) (i at : ℕ) (e : Candidate) (r : Progress) (w : Wish) (seat : Seats)
    (old new : Holding) (k : ℕ) → Coming m rows schools i at e r w seat old → mid ≡ set rows i (held_by r w.school)
    → (considers : Considers old new (proposal_of i e w) (Some k)) → (gone : Leaving m mid w.school k considers.guests.last.guest)
    → now ≡ set mid k (with_rejection gone.last.1.1.0) → Turned m rows now (set schools at new) i (Some k)
turn_rejects m rows mid now schools i at e r w seat old new k c mid_is considers gone now_is =
    let s = w.school in
    let here = came m rows mid i w (e, r, c.entrant, c.row, c.free, c.less) c.sound c.next mid_is in
    let mine = came_here m rows i e r w seat old c.distinct c.entrant c.row c.free c.next (c.mirrored.each at seat old c.seat_at c.held_at) c.code in
    let mirror = c.mirrored.each at seat old c.seat_at c.held_at in
    let quota : quota_of m.seats s ≡ old.quota = ap (quota_of m.seats) (sym c.code) ∙ (quota_at m at seat c.seated c.seat_at ∙ sym mirror.quota) in
    let rejects : Rejects old new (proposal_of i e w) k = considers.guests in
    let guest = rejects.last.guest in
    let all = guests_with old (proposal_of i e w) in
    let count : length (tenants_with old (proposal_of i e w)) + length all ≡ held_at mid s = mine.0 ∙ ap (λ (x : List Progress). held_at x s) (sym mid_is) in
    let bag : SameBag (guests_of m.entrants mid s) all = λ p. ap (λ (x : List Progress). count_by p (guests_of m.entrants x s)) mid_is ∙ mine.1 p in
    let d = gone.last.0 in
    let g = gone.last.1 in
    let q = g.1.0 in
    let v = with_rejection q in
    let after = set mid k v in
    let over : quota_of m.seats s < held_at mid s = omega (arith, rejects.over, count, quota) in
    let less : held_at after s + 1 ≡ held_at mid s = held_set_less mid k q v s g.1.1 (has_true q.school s g.1.2) refl in
    let was_entry : guest_entry k d q s ≡ (guest ∷ []) = entry_is k d q s guest.key g.1.2 g.2 gone.key ∙ (λ l. record { key = guest.key; child = gone.child l } ∷ []) in
    let no_entry : guest_entry k d v s ≡ [] = entry_none k d v s refl in
    let split : SameBag (guests_of m.entrants mid s) (guest ∷ guests_of m.entrants after s)
    = λ p. (λ l. count_by p (sym no_entry l ++ guests_of m.entrants mid s))
    ∙ (bag_of _ _ (guests_set m.entrants mid s k d q v g.0 g.1.1) p ∙ (λ l. count_by p (was_entry l ++ guests_of m.entrants after s))) in
    let left_bag : SameBag (guests_of m.entrants after s) new.guests
    = bag_rest guest (guests_of m.entrants after s) new.guests (λ p. sym (split p) ∙ (bag p ∙ bag_of all (guest ∷ new.guests) rejects.last.others p)) in
    subst (λ (x : List Progress). Turned m rows x (set schools at new) i (Some k)) (sym now_is) (record {
      sound = leave m mid i s k d q c.distinct.well here.0 g.0 g.1.1 g.1.2 g.2 over gone.last.2;
      mirrored = mirrored_set m rows after schools at seat new c.mirrored c.seat_at (record {
        quota = considers.quota ∙ mirror.quota;
        count = omega (arith, count, less, ap length considers.tenants, length_permutation _ _ rejects.last.others, ap (held_at after) c.code);
        guests = λ p. ap (λ (t : Code). count_by p (guests_of m.entrants after t)) c.code ∙ left_bag p;
      }) (λ j other held apart jo was.
          let not_here : other.code ≢ s = λ same. codes_apart m.seats j at other seat c.seated.once jo c.seat_at apart (same ∙ sym c.code) in
          let came_other : IsMirror m mid other held = subst (λ (x : List Progress). IsMirror m x other held) (sym mid_is)
          (other_mirror m rows i e r (held_by r s) other held c.entrant c.row (none_has r.school other.code c.free) (other_has (Some s) s other.code refl not_here) was) in
          other_mirror m mid k d q v other held g.0 g.1.1 (other_has q.school s other.code g.1.2 not_here) refl came_other);
      falls = omega (arith, here.1, turns_left_leave m mid k q s g.1.1 g.1.2);
      free = λ l f. elim (free_after_leaving m.entrants mid k q l f) [
        | inl is ↦ inr (ap Some (sym is))
        | inr still ↦ inl (free_after_coming m.entrants rows i r s l (subst (λ (x : List Progress). IsFree m.entrants x l) mid_is still))
      ];
      within = omega (arith, length-set mid k v, slice_get_within mid k q g.1.1);
    })
