-- What the router finds over rows that begin with bytes or with a parameter.
use Rattle.std.proofs.Common.{◌≡◌, ◌≢◌, ℕ, zero, suc, ◌-◌, ◌<◌, ◌==◌, ◌&&◌, List, [], ◌∷◌, ◌++◌, length, take, drop, Some, None, Bool, true, false, cond, nat_eq, nat_lt, ltb, refl, sym, ap, ◌∙◌, subst, arith, append-nil, bytes_eq, option_and_then}
use Rattle.std.proofs.lemmas.Bool.Decides.{nat_tests}
use Rattle.std.proofs.lemmas.List.{length-append, take-append-drop}
use Rattle.std.specs.Cmp.Lexicographic.{bytes_decides}
use Rattle.std.specs.List.{list_all}
use Rattle.adm_http.proofs.ReadingLemmas.{drop_front}
use Rattle.matchit.specs.Rows.{Rows, prepend, param_token, catch_all_token}
use Rattle.matchit.specs.Seek.{own, step, or_else, seek, first, param_step, has_slash, segment, cuts, longest_suffix, with_suffix}
use Rattle.matchit.specs.Level.{IsText}
use Rattle.matchit.proofs.SeekLemmas.{prepend-nil, own-append, step-append, own-prepend, step-hit, step-miss, seek-empty, seek-drop, seek-lit, or_else-none, param_step-empty}
use Rattle.adm_http.specs.Routes.{after_prefix, part_of, tail_of}

-- ---- rows that begin with bytes

pub seek-plain : (rs : Rows) (b : ℕ) (p : List ℕ) → step param_token rs ≡ [] → step catch_all_token rs ≡ []
    → seek 0 rs (b ∷ p) ≡ seek 0 (step b rs) p
unfolding seek
seek-plain rs b p no_param no_catch =
    simp (no_param, no_catch, param_step-empty (b ∷ p), seek-empty ((param_step {K = ℕ} [] (b ∷ p)).0 - 1) p, or_else-none)

-- the rows leave the text before it ends
abbrev pub Diverges : List ℕ → Rows → Type 0
Diverges w [] = Unit {0}
Diverges [] (r ∷ s) = ⊥
Diverges (x ∷ w) (r ∷ s) =
    (x < 256) × (step param_token (r ∷ s) ≡ []) × (step catch_all_token (r ∷ s) ≡ []) × Diverges w (step x (r ∷ s))

pub first-union : (w : List ℕ) (r s : Rows) (t : List ℕ) → Diverges w s
    → first (prepend w r ++ s) t ≡ or_else (first (prepend w r) t) (first s t)
unfolding seek
first-union w r [] t d =
    ap (λ x. first x t) (append-nil (prepend w r)) ∙ sym (or_else-none (first (prepend w r) t)) ∙ ap (or_else (first (prepend w r) t)) (sym (seek-empty 0 t))
first-union [] r (q ∷ s) t d = absurd d
first-union (x ∷ w) r (q ∷ s) [] d = own-append (prepend (x ∷ w) r) (q ∷ s)
first-union (x ∷ w) r (q ∷ s) (b ∷ p) d =
    let P = prepend (x ∷ w) r in
    let S : Rows = q ∷ s in
    let n1 : x ≢ param_token = λ e. omega arith in
    let n2 : x ≢ catch_all_token = λ e. omega arith in
    let p1 = step-miss param_token x w r n1 in
    let p2 = step-miss catch_all_token x w r n2 in
    let both1 : step param_token (P ++ S) ≡ [] = step-append param_token P S ∙ ap (λ l. l ++ step param_token S) p1 ∙ d.1 in
    let both2 : step catch_all_token (P ++ S) ≡ [] = step-append catch_all_token P S ∙ ap (λ l. l ++ step catch_all_token S) p2 ∙ d.2 in
    seek-plain (P ++ S) b p both1 both2 ∙ ap (λ l. seek 0 l p) (step-append b P S) ∙ by (x == b) refl (first-union w r (step x (q ∷ s)) p d.3)
    ∙ sym (ap (λ a. or_else a (seek 0 S (b ∷ p))) (seek-plain P b p p1 p2) ∙ ap (or_else (seek 0 (step b P) p)) (seek-plain S b p d.1 d.2))
  where
    by : (v : Bool) → (x == b) ≡ v → first (prepend w r ++ step x (q ∷ s)) p ≡ or_else (first (prepend w r) p) (first (step x (q ∷ s)) p)
        → seek 0 (step b (prepend (x ∷ w) r) ++ step b (q ∷ s)) p ≡ or_else (seek 0 (step b (prepend (x ∷ w) r)) p) (seek 0 (step b (q ∷ s)) p)
    by true e ih =
        let xb : x ≡ b = grind (arith, nat_tests) in
        rw (← xb, step-hit x w r) (subst (λ y. first (prepend w r ++ step y (q ∷ s)) p ≡ or_else (first (prepend w r) p) (first (step y (q ∷ s)) p)) xb ih)
    by false e ih =
        let n : x ≢ b = λ h. grind (arith, nat_tests) in
        rw (step-miss b x w r n, seek-empty 0 p) refl

pub first-after : (w : List ℕ) (r : Rows) (t : List ℕ) → IsText w → first (prepend w r) t ≡ option_and_then (first r) (after_prefix w t)
unfolding seek
first-after [] r t h = ap (λ l. first l t) (prepend-nil r)
first-after (x ∷ w) r [] h = own-prepend x w r
first-after (x ∷ w) r (y ∷ p) h = seek-lit x w r y p h.0 ∙ by (x == y) refl (first-after w r p h.1)
  where
    by : (v : Bool) → (x == y) ≡ v → first (prepend w r) p ≡ option_and_then (first r) (after_prefix w p)
        → seek 0 (step y (prepend (x ∷ w) r)) p ≡ option_and_then (first r) (after_prefix (x ∷ w) (y ∷ p))
    by true e ih =
        let xy : x ≡ y = grind (arith, nat_tests) in
        rw (e, ← xy, step-hit x w r) ih
    by false e ih =
        let n : x ≢ y = λ q. grind (arith, nat_tests) in
        rw (step-miss y x w r n, e) (seek-empty 0 p)

-- ---- the parts between slashes

pub parts_none : (path : List ℕ) → has_slash path ≡ false → (segment path ≡ path) × (part_of path ≡ path) × (tail_of path ≡ [])
parts_none [] e = (refl, refl, refl)
parts_none (b ∷ p) e = by (b == 47) refl (parts_none p)
  where
    by : (v : Bool) → (b == 47) ≡ v → (has_slash p ≡ false → (segment p ≡ p) × (part_of p ≡ p) × (tail_of p ≡ []))
        → (segment (b ∷ p) ≡ b ∷ p) × (part_of (b ∷ p) ≡ b ∷ p) × (tail_of (b ∷ p) ≡ [])
    by true s ih = absurd (cc (rw s at e))
    by false s ih =
        let rest = ih (rw s at e) in
        rw s (ap (λ l. b ∷ l) rest.0, ap (λ l. b ∷ l) rest.1, rest.2)

pub parts_some : (path : List ℕ) → has_slash path ≡ true
    → (more : List ℕ) × (segment path ≡ part_of path ++ 47 ∷ []) × (tail_of path ≡ 47 ∷ more) × (path ≡ part_of path ++ 47 ∷ more)
parts_some [] e = absurd (cc e)
parts_some (b ∷ p) e = by (b == 47) refl (parts_some p)
  where
    by : (v : Bool) → (b == 47) ≡ v
        → (has_slash p ≡ true → (more : List ℕ) × (segment p ≡ part_of p ++ 47 ∷ []) × (tail_of p ≡ 47 ∷ more) × (p ≡ part_of p ++ 47 ∷ more))
        → (more : List ℕ) × (segment (b ∷ p) ≡ part_of (b ∷ p) ++ 47 ∷ []) × (tail_of (b ∷ p) ≡ 47 ∷ more) × (b ∷ p ≡ part_of (b ∷ p) ++ 47 ∷ more)
    by true s ih =
        let is : b ≡ 47 = grind (arith, nat_tests) in
        rw s (p, ap (λ c. c ∷ []) is, ap (λ c. c ∷ p) is, ap (λ c. c ∷ p) is)
    by false s ih =
        let rest = ih (rw s at e) in
        rw s (rest.0, ap (λ l. b ∷ l) rest.1, rest.2, ap (λ l. b ∷ l) rest.3)

has_slash-append : (a b : List ℕ) → has_slash (a ++ 47 ∷ b) ≡ true
has_slash-append [] b = refl
has_slash-append (x ∷ a) b = by (x == 47) (has_slash-append a b)
  where
    by : (v : Bool) → has_slash (a ++ 47 ∷ b) ≡ true → cond v true (has_slash (a ++ 47 ∷ b)) ≡ true
    by true ih = refl
    by false ih = ih

-- ---- rows that begin with a parameter

first-param : (rs : Rows) (b : ℕ) (p : List ℕ) → b < 256
    → first (prepend (param_token ∷ []) rs) (b ∷ p) ≡ seek ((param_step rs (b ∷ p)).0 - 1) (param_step rs (b ∷ p)).1 p
unfolding seek
first-param rs b p small =
    let n : param_token ≢ b = λ e. omega arith in
    let m : param_token ≢ catch_all_token = λ e. omega arith in
    simp (step-miss b param_token [] rs n, step-hit param_token [] rs, prepend-nil rs, step-miss catch_all_token param_token [] rs m, seek-empty 0 p, or_else-none)

whole_step : (rs : Rows) (path : List ℕ) → longest_suffix (segment path) rs ≡ [] → has_slash path ≡ false
    → param_step rs path ≡ (length path, rs)
unfolding param_step
whole_step rs path none flat = rw (none, flat) refl

no_step : (rs : Rows) (path : List ℕ) → longest_suffix (segment path) rs ≡ [] → has_slash path ≡ true
    → param_step rs path ≡ (0, [])
unfolding param_step
no_step rs path none slash = rw (none, slash) refl

cut_step : (rs : Rows) (path : List ℕ) → longest_suffix (segment path) rs ≡ 47 ∷ []
    → param_step rs path ≡ (length (segment path) - 1, with_suffix (47 ∷ []) rs)
unfolding param_step
cut_step rs path cut = rw cut refl

-- ends with a slash
slash_ends : (a : List ℕ) → bytes_eq (47 ∷ []) (drop (length (a ++ 47 ∷ []) - 1) (a ++ 47 ∷ [])) ≡ true
slash_ends a =
    let n : length (a ++ 47 ∷ []) - 1 ≡ length a = simp length-append (omega arith) in
    rw (n, drop_front a (47 ∷ []) (a ++ 47 ∷ []) refl) refl

no_slash_ends : (path : List ℕ) → has_slash path ≡ false → bytes_eq (47 ∷ []) (drop (length path - 1) path) ≡ false
no_slash_ends path flat = by (bytes_eq (47 ∷ []) (drop (length path - 1) path)) refl
  where
    by : (v : Bool) → bytes_eq (47 ∷ []) (drop (length path - 1) path) ≡ v → v ≡ false
    by true e =
        let same = bytes_decides (47 ∷ []) (drop (length path - 1) path) in
        let ends : 47 ∷ [] ≡ drop (length path - 1) path = same.0 e in
        let whole : path ≡ take (length path - 1) path ++ 47 ∷ [] =
        sym (take-append-drop (length path - 1) path) ∙ ap (λ l. take (length path - 1) path ++ l) (sym ends) in
        absurd (cc (sym (has_slash-append (take (length path - 1) path) []) ∙ ap has_slash (sym whole) ∙ flat))
    by false e = refl

drop_past : (b : ℕ) (p : List ℕ) (n : ℕ) → 0 < n → drop (n - 1) p ≡ drop n (b ∷ p)
drop_past b p zero h = absurd (omega (arith, h))
drop_past b p (suc n) h = let e : suc n - 1 ≡ n = omega arith in ap (λ k. drop k p) e

drop_whole : (p : List ℕ) (n : ℕ) → n ≡ length p → drop n p ≡ []
drop_whole p n e = ap (λ k. drop k p) e ∙ drop_front p [] p (append-nil p)

-- no slash remains: the parameter takes all
pub flat_find : (rs : Rows) (b : ℕ) (p : List ℕ) → b < 256 → longest_suffix (segment (b ∷ p)) rs ≡ [] → has_slash (b ∷ p) ≡ false
    → first (prepend (param_token ∷ []) rs) (b ∷ p) ≡ own rs
unfolding seek
flat_find rs b p small none flat =
    let taken = whole_step rs (b ∷ p) none flat in
    let n : length (b ∷ p) - 1 ≡ length p = omega arith in
    first-param rs b p small ∙ ap (λ (x : ℕ × Rows). seek (x.0 - 1) x.1 p) taken ∙ seek-drop (length (b ∷ p) - 1) rs p
    ∙ ap (seek 0 rs) (drop_whole p (length (b ∷ p) - 1) n)

pub slash_none : (rs : Rows) (b : ℕ) (p : List ℕ) → b < 256 → longest_suffix (segment (b ∷ p)) rs ≡ [] → has_slash (b ∷ p) ≡ true
    → first (prepend (param_token ∷ []) rs) (b ∷ p) ≡ None
slash_none rs b p small none slash =
    let taken = no_step rs (b ∷ p) none slash in
    first-param rs b p small ∙ ap (λ (x : ℕ × Rows). seek (x.0 - 1) x.1 p) taken ∙ seek-empty (0 - 1) p

-- the parameter leaves the slash
slash_cut : (rs : Rows) (b : ℕ) (p part more : List ℕ) → b < 256 → longest_suffix (segment (b ∷ p)) rs ≡ 47 ∷ []
    → segment (b ∷ p) ≡ part ++ 47 ∷ [] → b ∷ p ≡ part ++ 47 ∷ more → 0 < length part
    → first (prepend (param_token ∷ []) rs) (b ∷ p) ≡ first (with_suffix (47 ∷ []) rs) (47 ∷ more)
slash_cut rs b p part more small cut seg whole some =
    let taken = cut_step rs (b ∷ p) cut in
    let total = ap length seg ∙ length-append part (47 ∷ []) in
    let n : length (segment (b ∷ p)) - 1 ≡ length part = omega (arith, total) in
    let rest : drop (length (segment (b ∷ p)) - 1 - 1) p ≡ 47 ∷ more =
    ap (λ k. drop (k - 1) p) n ∙ drop_past b p (length part) some ∙ drop_front part (47 ∷ more) (b ∷ p) (sym whole) in
    first-param rs b p small ∙ ap (λ (x : ℕ × Rows). seek (x.0 - 1) x.1 p) taken
    ∙ seek-drop (length (segment (b ∷ p)) - 1 - 1) (with_suffix (47 ∷ []) rs) p ∙ ap (seek 0 (with_suffix (47 ∷ []) rs)) rest

pub and_false : (a b : Bool) → b ≡ false → (a && b) ≡ false
and_false true b e = e
and_false false b e = refl

pub cuts_flat : (path : List ℕ) → has_slash path ≡ false → cuts path (47 ∷ []) ≡ false
cuts_flat path flat = and_false (ltb 1 (length path)) _ (no_slash_ends path flat)

pub cuts_part : (part : List ℕ) → cuts (part ++ 47 ∷ []) (47 ∷ []) ≡ nat_lt 0 (length part)
cuts_part [] = refl
cuts_part (x ∷ q) =
    let total = length-append q (47 ∷ []) in
    let long : ltb 1 (length ((x ∷ q) ++ 47 ∷ [])) ≡ true = grind (arith, nat_tests, total) in
    let some : nat_lt 0 (length (x ∷ q)) ≡ true = grind (arith, nat_tests) in
    let ends = slash_ends (x ∷ q) in
    rw (long, some) ends

-- one route, whose text is this
exact : (w : List ℕ) (k : ℕ) (x : List ℕ) → option_and_then (first (([], k) ∷ [])) (after_prefix w x) ≡ cond (bytes_eq x w) (Some k) None
unfolding seek
exact [] k [] = refl
exact [] k (y ∷ z) = seek-plain (([], k) ∷ []) y z refl refl ∙ seek-empty 0 z
exact (c ∷ w) k [] = refl
exact (c ∷ w) k (y ∷ z) = by (c == y) refl (exact w k z)
  where
    by : (v : Bool) → (c == y) ≡ v → option_and_then (first (([], k) ∷ [])) (after_prefix w z) ≡ cond (bytes_eq z w) (Some k) None
        → option_and_then (first (([], k) ∷ [])) (after_prefix (c ∷ w) (y ∷ z)) ≡ cond (bytes_eq (y ∷ z) (c ∷ w)) (Some k) None
    by true e ih =
        let same : nat_eq y c ≡ true = grind (arith, nat_tests) in
        rw (e, same) ih
    by false e ih =
        let other : nat_eq y c ≡ false = grind (arith, nat_tests) in
        rw (e, other) refl

-- a suffix that begins with a slash, after a part
pub with_suffix_find : (rs : Rows) (w : List ℕ) (k : ℕ) (b : ℕ) (p part more : List ℕ) → b < 256 → IsText w
    → with_suffix (47 ∷ []) rs ≡ prepend w (([], k) ∷ []) → longest_suffix (segment (b ∷ p)) rs ≡ 47 ∷ []
    → segment (b ∷ p) ≡ part ++ 47 ∷ [] → b ∷ p ≡ part ++ 47 ∷ more → 0 < length part
    → first (prepend (param_token ∷ []) rs) (b ∷ p) ≡ cond (bytes_eq (47 ∷ more) w) (Some k) None
with_suffix_find rs w k b p part more small text kept cut seg whole some =
    slash_cut rs b p part more small cut seg whole some ∙ ap (λ r. first r (47 ∷ more)) kept
    ∙ first-after w (([], k) ∷ []) (47 ∷ more) text ∙ exact w k (47 ∷ more)

pub text_by_test : (w : List ℕ) → list_all (λ b. nat_lt b 256) w ≡ true → IsText w
text_by_test [] e = tt
text_by_test (b ∷ w) e = (grind (arith, nat_tests), text_by_test w (by (nat_lt b 256) e))
  where
    by : (v : Bool) → (v && list_all (λ c. nat_lt c 256) w) ≡ true → list_all (λ c. nat_lt c 256) w ≡ true
    by true h = h
    by false h = absurd (cc h)
