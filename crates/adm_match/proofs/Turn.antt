-- One turn: what it keeps, and that it takes one from what remains to do.
use Rattle.std.proofs.Common.{◌≡◌, ℕ, suc, ◌+◌, ◌<◌, ◌≤◌, List, [], ◌∷◌, length, get_or, map, set, None, Some, inl, refl, sym, ap, ◌∙◌, subst, arith}
use Rattle.std.specs.Prelude.{is_none, option_map}
use Rattle.std.specs.List.{slice_get, sum_by}
use Rattle.std.proofs.lemmas.List.{length-map}
use Rattle.std.proofs.lemmas.Option.{none-some, same_Some, slice_get_within, get_or_from_slice_get, slice_get_read, slice_get-map}
use Rattle.std.proofs.lemmas.List.Sums.{sum_by-cons, sum_by-set}
use Rattle.adm_lists.proofs.Counts.{one_if}
use Rattle.adm_match.specs.declared.problem.Wish.{Wish}
use Rattle.adm_match.specs.declared.progress.Progress.{Progress}
use Rattle.adm_match.specs.Market.{Code, Candidate, Market, first_fault, quota_of}
use Rattle.adm_match.specs.Turns.{held_at, Shaped, Sound, IsGuestAt, IsFree, IsLast, turns_left, start_of, held_by, with_rejection}
use Rattle.adm_match.proofs.SideBySide.{count_set}
use Rattle.adm_match.proofs.Arrival.{Arrived, arrive}
use Rattle.adm_match.proofs.Departure.{leave, held_wish}
use Rattle.adm_match.proofs.Posed.{posed, well_listed}

-- a sum of smaller terms, index by index
pub sum_beside : {X Y : Type 0} (f : X → ℕ) (g : Y → ℕ) (xs : List X) (ys : List Y) → length xs ≡ length ys
    → ((k : ℕ) (x : X) (y : Y) → slice_get xs k ≡ Some x → slice_get ys k ≡ Some y → f x ≤ g y) → sum_by f xs ≤ sum_by g ys
sum_beside f g [] ys e h = omega arith
sum_beside f g (x ∷ xs) [] e h = absurd (omega arith)
sum_beside f g (x ∷ xs) (y ∷ ys) e h =
    omega (arith, sum_by-cons f x xs, sum_by-cons g y ys, h 0 x y refl refl, sum_beside f g xs ys (omega arith) (λ k a b p q. h (suc k) a b p q))

sum_set : {X : Type 0} (f : X → ℕ) (xs : List X) (i : ℕ) (x y : X) → slice_get xs i ≡ Some x → sum_by f (set xs i y) + f x ≡ sum_by f xs + f y
sum_set f xs i x y e =
    subst (λ z. sum_by f (set xs i y) + f z ≡ sum_by f xs + f y) (get_or_from_slice_get xs i x x e)
    (sum_by-set f xs i y x (slice_get_within xs i x e))

rejected_few : (m : Market) (rows : List Progress) → Shaped m rows → sum_by (λ r. r.rejections) rows ≤ sum_by (λ e. length e.list) m.entrants
rejected_few m rows h = sum_beside (λ r. r.rejections) (λ e. length e.list) rows m.entrants h.same (λ k r e rk ek. h.within k e r ek rk)

-- one that proposes to a school is one less that no school holds
pub turns_left_arrive : (m : Market) (rows : List Progress) (i : ℕ) (r : Progress) (s : Code) → Shaped m rows → slice_get rows i ≡ Some r → r.school ≡ None
    → turns_left m.entrants (set rows i (record r { school = Some s })) + 1 ≡ turns_left m.entrants rows
turns_left_arrive m rows i r s h at free =
    let v : Progress = record r { school = Some s } in
    let c = count_set (λ x. is_none x.school) rows i r v at in
    let was : one_if (is_none r.school) ≡ 1 = ap (λ o. one_if (is_none o)) free in
    let same = sum_set (λ x. x.rejections) rows i r v at in
    omega (arith, c, was, same, rejected_few m rows h)

-- one that is rejected has one school less
pub turns_left_leave : (m : Market) (rows : List Progress) (k : ℕ) (q : Progress) (s : Code) → slice_get rows k ≡ Some q → q.school ≡ Some s
    → turns_left m.entrants (set rows k (record q { school = None; rejections = q.rejections + 1 })) ≡ turns_left m.entrants rows
turns_left_leave m rows k q s at here =
    let v : Progress = record q { school = None; rejections = q.rejections + 1 } in
    let c = count_set (λ x. is_none x.school) rows k q v at in
    let was : one_if (is_none q.school) ≡ 0 = ap (λ o. one_if (is_none o)) here in
    let more = sum_set (λ x. x.rejections) rows k q v at in
    omega (arith, c, was, more)

-- the start
pub starts : (m : Market) → Sound m (map start_of m.entrants)
starts m =
    let row : (k : ℕ) (e : Candidate) (r : Progress) → slice_get m.entrants k ≡ Some e → slice_get (map start_of m.entrants) k ≡ Some r → r ≡ start_of e
    = λ k e r ek rk. same_Some r (start_of e) (sym rk ∙ (slice_get-map start_of m.entrants k ∙ ap (option_map start_of) ek)) in
    let empty : (s : Code) (k : ℕ) (e : Candidate) → IsGuestAt m.entrants (map start_of m.entrants) s k e → ⊥
    = λ s k e g. none-some s (sym (ap (λ (x : Progress). x.school) (row k e g.1.0 g.0 g.1.1)) ∙ g.1.2) in
    record {
      shaped = record {
        same = length-map m.entrants start_of;
        children = λ k e r ek rk. ap (λ (x : Progress). x.child) (row k e r ek rk);
        holds = λ k e r ek rk. inl (ap (λ (x : Progress). x.school) (row k e r ek rk));
        within = λ k e r ek rk. omega (arith, ap (λ (x : Progress). x.rejections) (row k e r ek rk));
      };
      within_quota = λ s k e g. absurd (empty s k e g);
      rejected = λ k e r j w ek rk l jw. absurd (omega (arith, l, ap (λ (x : Progress). x.rejections) (row k e r ek rk)));
      none_lost = λ o wide a stable k e r ek rk. omega (arith, ap (λ (x : Progress). x.rejections) (row k e r ek rk));
    }

-- the entrant proposes to the school of its next wish
pub came : (m : Market) (rows now : List Progress) (i : ℕ) (w : Wish) (free : IsFree m.entrants rows i) → Sound m rows → slice_get free.0.list free.1.rejections ≡ Some w
    → now ≡ set rows i (held_by free.1 w.school) → Arrived m now i w.school × (turns_left m.entrants now + 1 ≡ turns_left m.entrants rows)
came m rows now i w free h next now_is = (
  subst (λ (x : List Progress). Arrived m x i w.school) (sym now_is) (arrive m rows i free.0 free.1 w h free.2 free.3 free.4 next),
  ap (λ (x : List Progress). turns_left m.entrants x + 1) now_is ∙ turns_left_arrive m rows i free.1 w.school h.shaped free.3 free.4,
)

-- the guest that ranks last has the school on its list
pub last_listed : (m : Market) (rows : List Progress) (s : Code) (k : ℕ) (last : IsLast m.entrants rows s k) → Shaped m rows → (e : Candidate) (row : Progress)
    → e ≡ get_or m.entrants k e → slice_get rows k ≡ Some row → row.rejections < length e.list
last_listed m rows s k last h e row e_is rk =
    let g = last.1 in
    let w = held_wish last.0 g.1.0 s (h.holds k last.0 g.1.0 g.0 g.1.1) g.1.2 in
    let e_same : e ≡ last.0 = e_is ∙ get_or_from_slice_get m.entrants k last.0 e g.0 in
    let r_same : g.1.0 ≡ row = same_Some g.1.0 row (sym g.1.1 ∙ rk) in
    let within = slice_get_within last.0.list g.1.0.rejections w.0 w.1 in
    omega (arith, within, ap (λ (x : Candidate). length x.list) e_same, ap (λ (x : Progress). x.rejections) r_same)
