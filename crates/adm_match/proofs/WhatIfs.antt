-- What a child gets that lists others of its schools: the problem with that list can be allotted, and the child gains nothing by it.
use Rattle.std.proofs.Common.{◌≡◌, ℕ, zero, suc, ◌+◌, ◌<◌, List, [], ◌∷◌, ◌++◌, length, get_or, take, map, Option, None, Some, Bool, true, false, cond, not, ◌||◌, inl, inr, refl, sym, ap, ◌∙◌, subst, add-one, append_assoc, append-nil, bytes_eq, ◌==◌}
use Rattle.std.specs.Prelude.{find}
use Rattle.std.specs.List.{slice_get, list_any, list_all, cons_option}
use Rattle.std.specs.Option.{option_to_list}
use Rattle.std.specs.Ordering.{is_eq, nat_cmp}
use Rattle.std.specs.Cmp.Lexicographic.{slice_cmp}
use Rattle.std.proofs.Math.Seq.{take-suc}
use Rattle.std.proofs.lemmas.Bool.{cases_Bool, false≢true, and_parts, or_parts, not-true, eqb-true}
use Rattle.std.proofs.lemmas.Option.{none-some}
use Rattle.std.proofs.lemmas.Slice.Eq.{bytes_eq-Decides}
use Rattle.std.proofs.lemmas.List.Elements.{filter_map-append}
use Rattle.std.proofs.lemmas.Map.Text.{is_eq-slice_cmp}
use Rattle.adm_types.specs.Code.{has}
use Rattle.adm_match.specs.declared.problem.Wish.{Wish}
use Rattle.adm_match.specs.declared.problem.Seats.{Seats}
use Rattle.adm_match.specs.declared.what_ifs.WhatIfFault.{WhatIfFault}
use Rattle.adm_match.specs.declared.what_ifs.WhatIfFault.TheVariants.{UnknownChild, NotItsSchools}
use Rattle.adm_match.specs.Market.{Code, Candidate, Market, market_of, is_tenant, some_pair, same_school, first_fault}
use Rattle.adm_match.specs.Stability.{Allotment, IsBest, school_of}
use Rattle.adm_match.specs.Distinct.{Distinct, Seated}
use Rattle.adm_match.specs.Relisting.{wishes_among, with_list, relist, relisted, is_wanted, may_list, list_fault, what_if_fault, IsWhatIf, IsNoGain}
use Rattle.adm_match.proofs.FoundWishes.{found_at}
use Rattle.adm_match.proofs.Posed.{posed, rank_is, key_is}
use Rattle.adm_match.proofs.Distinct.{distinct}
use Rattle.adm_match.proofs.NoGain.{Part, part_distinct, part_seated}
use Rattle.adm_match.proofs.Relisted.{differs_relisted, seated, no_gain_law}
use Rattle.adm_match.proofs.RepeatedElements.{pair_pushed, pair_same}

pub codes_same : (schools : List Code) → some_pair (λ a b. is_eq (slice_cmp nat_cmp a b)) schools ≡ some_pair bytes_eq schools
codes_same schools = pair_same (λ a b. is_eq (slice_cmp nat_cmp a b)) bytes_eq schools (λ a b. is_eq-slice_cmp a b)

pub wishes_append : (list : List Wish) (xs ys : List Code) → wishes_among list (xs ++ ys) ≡ wishes_among list xs ++ wishes_among list ys
wishes_append list xs ys = filter_map-append (λ school. find (λ wish. bytes_eq wish.school school) list) xs ys

pub wishes_more : (list : List Wish) (schools : List Code) (i : ℕ) (school : Code) (first old new : List Wish) → i < length schools → school ≡ get_or schools i school
    → old ≡ first ++ wishes_among list (take i schools) → new ≡ old ++ wishes_among list (school ∷ []) → new ≡ first ++ wishes_among list (take (i + 1) schools)
wishes_more list schools i school first old new l at was now =
    let step : take (i + 1) schools ≡ take i schools ++ school ∷ [] = rw add-one (take-suc schools i school l ∙ ap (λ z. take i schools ++ z ∷ []) (sym at)) in
    now ∙ (ap (λ (x : List Wish). x ++ wishes_among list (school ∷ [])) was ∙ (append_assoc first (wishes_among list (take i schools)) (wishes_among list (school ∷ []))
    ∙ sym (ap (λ (x : List Code). first ++ wishes_among list x) step ∙ ap (λ (x : List Wish). first ++ x) (wishes_append list (take i schools) (school ∷ [])))))

-- a school that is not listed is no wish's
wishes_without : (list : List Wish) (schools : List Code) (s : Code) → list_any (bytes_eq s) schools ≡ false → list_any (λ z. bytes_eq s z.school) (wishes_among list schools) ≡ false
wishes_without list [] s h = refl
wishes_without list (c ∷ cs) s h = one list (wishes_among list cs) c s (find (λ wish. bytes_eq wish.school c) list) refl parts.0 (wishes_without list cs s parts.1)
  where
    parts : (bytes_eq s c ≡ false) × (list_any (bytes_eq s) cs ≡ false)
    parts = or_parts (bytes_eq s c) (list_any (bytes_eq s) cs) h

    one : (list rest : List Wish) (c s : Code) (o : Option Wish) → find (λ wish. bytes_eq wish.school c) list ≡ o → bytes_eq s c ≡ false
        → list_any (λ z. bytes_eq s z.school) rest ≡ false → list_any (λ z. bytes_eq s z.school) (cons_option o rest) ≡ false
    one list rest c s None is apart h = h
    one list rest c s (Some w) is apart h =
        let found = found_at (λ (wish : Wish). bytes_eq wish.school c) list w is in
        let same : w.school ≡ c = (bytes_eq-Decides w.school c).0 found.2 in
        λ i. (ap (bytes_eq s) same ∙ apart) i || h i

-- the wishes for schools that are all different are for different schools
wishes_apart : (list : List Wish) (schools : List Code) → some_pair bytes_eq schools ≡ false → some_pair same_school (wishes_among list schools) ≡ false
wishes_apart list [] h = refl
wishes_apart list (c ∷ cs) h = one list (wishes_among list cs) c (find (λ wish. bytes_eq wish.school c) list) refl (wishes_without list cs c parts.0) (wishes_apart list cs parts.1)
  where
    parts : (list_any (bytes_eq c) cs ≡ false) × (some_pair bytes_eq cs ≡ false)
    parts = or_parts (list_any (bytes_eq c) cs) (some_pair bytes_eq cs) h

    one : (list rest : List Wish) (c : Code) (o : Option Wish) → find (λ wish. bytes_eq wish.school c) list ≡ o → list_any (λ z. bytes_eq c z.school) rest ≡ false
        → some_pair same_school rest ≡ false → some_pair same_school (cons_option o rest) ≡ false
    one list rest c None is without apart = apart
    one list rest c (Some w) is without apart =
        let found = found_at (λ (wish : Wish). bytes_eq wish.school c) list w is in
        let same : c ≡ w.school = sym ((bytes_eq-Decides w.school c).0 found.2) in
        λ i. (ap (λ (s : Code). list_any (λ z. bytes_eq s z.school) rest) (sym same) ∙ without) i || apart i

-- each wish for some schools is a wish of the list
wishes_old : (list : List Wish) (schools : List Code) (j : ℕ) (w : Wish) → slice_get (wishes_among list schools) j ≡ Some w → (i : ℕ) × (slice_get list i ≡ Some w)
wishes_old list [] j w at = absurd (none-some w at)
wishes_old list (c ∷ cs) j w at = one list (wishes_among list cs) c (find (λ wish. bytes_eq wish.school c) list) refl (wishes_old list cs) j w at
  where
    one : (list rest : List Wish) (c : Code) (o : Option Wish) → find (λ wish. bytes_eq wish.school c) list ≡ o
        → ((j : ℕ) (w : Wish) → slice_get rest j ≡ Some w → (i : ℕ) × (slice_get list i ≡ Some w)) → (j : ℕ) (w : Wish) → slice_get (cons_option o rest) j ≡ Some w
        → (i : ℕ) × (slice_get list i ≡ Some w)
    one list rest c None is h j w at = h j w at
    one list rest c (Some x) is h zero w at =
        let found = found_at (λ (wish : Wish). bytes_eq wish.school c) list x is in
        (found.0, found.1 ∙ at)
    one list rest c (Some x) is h (suc j) w at = h j w at

-- none of the schools is the child's own
own_apart : (e : Candidate) (schools : List Code) (home : Code) → e.tenant ≡ Some home → list_all (is_wanted e) schools ≡ true → list_any (λ x. bytes_eq x home) schools ≡ false
own_apart e [] home own h = refl
own_apart e (c ∷ cs) home own h =
    let parts = and_parts (is_wanted e c) (list_all (is_wanted e) cs) h in
    let free = and_parts (not (is_tenant e c)) (list_any (λ wish. bytes_eq wish.school c) e.list) parts.0 in
    let apart : bytes_eq home c ≡ false = sym (ap (λ (o : Option Code). has o c) own) ∙ not-true (is_tenant e c) free.0 in
    let apart' : bytes_eq c home ≡ false = elim (cases_Bool (bytes_eq c home)) [
      | inl hit ↦ absurd (false≢true (sym apart ∙ (bytes_eq-Decides home c).1 (sym ((bytes_eq-Decides c home).0 hit))))
      | inr miss ↦ miss
    ] in
    λ i. apart' i || own_apart e cs home own parts.1 i

all_apart : (e : Candidate) (schools : List Code) (o : Option Code) → e.tenant ≡ o → may_list e schools ≡ true → some_pair bytes_eq (schools ++ option_to_list o) ≡ false
all_apart e schools None own h =
    let parts = and_parts (list_all (is_wanted e) schools) (not (some_pair bytes_eq schools)) h in
    ap (some_pair bytes_eq) (append-nil schools) ∙ not-true (some_pair bytes_eq schools) parts.1
all_apart e schools (Some home) own h =
    let parts = and_parts (list_all (is_wanted e) schools) (not (some_pair bytes_eq schools)) h in
    pair_pushed bytes_eq schools home
    ∙ (λ i. not-true (some_pair bytes_eq schools) parts.1 i || own_apart e schools home own parts.0 i)

-- the child with the new list has a part of its own one
part_of : (m : Market) (k : ℕ) (e : Candidate) (schools : List Code) → may_list e schools ≡ true → Part m k e (with_list e schools)
part_of m k e schools ok =
    let apart : some_pair same_school (with_list e schools).list ≡ false = wishes_apart e.list (schools ++ option_to_list e.tenant) (all_apart e schools e.tenant refl ok) in
    record {
      own_rank = λ j w at. rank_is (with_list e schools).list j w apart at;
      keys = λ j w at. key_is (with_list e schools).list j w apart at;
      old = λ j w at. wishes_old e.list (schools ++ option_to_list e.tenant) j w at;
      free = λ j w at free. free;
    }

-- a child that may list the schools is an entrant
pub may : (m : Market) (child : ℕ) (schools : List Code) → what_if_fault m child schools ≡ None
    → (k : ℕ) × (e : Candidate) × (slice_get m.entrants k ≡ Some e) × (e.child ≡ child) × (may_list e schools ≡ true)
may m child schools ok = one m child schools (find (λ entrant. entrant.child == child) m.entrants) refl ok
  where
    one : (m : Market) (child : ℕ) (schools : List Code) (o : Option Candidate) → find (λ entrant. entrant.child == child) m.entrants ≡ o → list_fault o schools ≡ None
        → (k : ℕ) × (e : Candidate) × (slice_get m.entrants k ≡ Some e) × (e.child ≡ child) × (may_list e schools ≡ true)
    one m child schools None is ok = absurd (none-some UnknownChild (sym ok))
    one m child schools (Some e) is ok =
        let found = found_at (λ (entrant : Candidate). entrant.child == child) m.entrants e is in
        (found.0, e, found.1, eqb-true e.child child found.2, allowed (may_list e schools) ok)
      where
        allowed : (b : Bool) → cond b None (Some NotItsSchools) ≡ None → b ≡ true
        allowed true h = refl
        allowed false h = absurd (none-some NotItsSchools (sym h))

relisted_ready : (m : Market) (child : ℕ) (schools : List Code) → first_fault m ≡ None → what_if_fault m child schools ≡ None → Distinct (relisted m child schools) × Seated (relisted m child schools)
relisted_ready m child schools posed_ok ok =
    let d = distinct m (posed m posed_ok) in
    let w = may m child schools ok in
    let differs = differs_relisted m schools w.0 w.1 d w.2 in
    let part = part_of m w.0 w.1 schools w.4 in
    subst (λ n. Distinct (relisted m n schools) × Seated (relisted m n schools)) w.3 (
      part_distinct m (relisted m w.1.child schools) w.0 w.1 (with_list w.1 schools) differs part d,
      part_seated m (relisted m w.1.child schools) w.0 w.1 (with_list w.1 schools) differs part (seated m (posed m posed_ok)),
    )

-- what the code has made of the problem that the caller sees
pub record Told (now : Market) (child : ℕ) (schools : List Code) (es : List Candidate) (ss : List Seats) : Type 0 where
  pub same : relisted now child schools ≡ market_of es ss
  pub ok : first_fault now ≡ None
  pub allowed : what_if_fault now child schools ≡ None

pub told_fault : (now : Market) (child : ℕ) (schools : List Code) (es : List Candidate) (ss : List Seats) (es0 : List Candidate) (fault : Option WhatIfFault)
    → market_of es ss ≡ now → es0 ≡ es → fault ≡ list_fault (find (λ entrant. entrant.child == child) es0) schools → what_if_fault now child schools ≡ fault
told_fault now child schools es ss es0 fault view e0 f =
    sym (f ∙ ap (λ (x : List Candidate). list_fault (find (λ entrant. entrant.child == child) x) schools) (e0 ∙ ap (λ (m : Market). m.entrants) view))

pub reported : (now : Market) (child : ℕ) (schools : List Code) (es : List Candidate) (ss : List Seats) (es0 es1 es2 es3 : List Candidate) (ss3 : List Seats)
    (fault : Option WhatIfFault) → market_of es ss ≡ now → first_fault (market_of es ss) ≡ None → es0 ≡ es
    → fault ≡ list_fault (find (λ entrant. entrant.child == child) es0) schools → fault ≡ None → es1 ≡ es → es2 ≡ map (relist child schools) es1 → es3 ≡ es2 → ss3 ≡ ss → Told now child schools es3 ss3
reported now child schools es ss es0 es1 es2 es3 ss3 fault view ok e0 f none e1 e2 e3 s3 = record {
  same = ap (λ (m : Market). relisted m child schools) (sym view)
      ∙ (λ i. market_of (sym (e3 ∙ (e2 ∙ ap (map (relist child schools)) e1)) i) (sym s3 i));
  ok = subst (λ (m : Market). first_fault m ≡ None) view ok;
  allowed = told_fault now child schools es ss es0 fault view e0 f ∙ none;
}

pub told_distinct : (now : Market) (child : ℕ) (schools : List Code) (es : List Candidate) (ss : List Seats) → Told now child schools es ss → Distinct (market_of es ss)
told_distinct now child schools es ss t = subst (λ (m : Market). Distinct m) t.same (relisted_ready now child schools t.ok t.allowed).0

pub told_seated : (now : Market) (child : ℕ) (schools : List Code) (es : List Candidate) (ss : List Seats) → Told now child schools es ss → Seated (market_of es ss)
told_seated now child schools es ss t = subst (λ (m : Market). Seated m) t.same (relisted_ready now child schools t.ok t.allowed).1

pub told_answer : (now : Market) (child : ℕ) (schools : List Code) (es : List Candidate) (ss : List Seats) (offers : Allotment) (school : Option Code)
    → Told now child schools es ss → IsBest (market_of es ss) (school_of offers) → school ≡ school_of offers child → (what_if_fault now child schools ≡ None) × IsWhatIf now child schools school
told_answer now child schools es ss offers school t best is =
    (t.allowed, (school_of offers, subst (λ (m : Market). IsBest m (school_of offers)) (sym t.same) best, is))

pub told_gain : (now : Market) (child : ℕ) (schools : List Code) (es : List Candidate) (ss : List Seats) (offers : Allotment) (school : Option Code)
    → Told now child schools es ss → IsBest (market_of es ss) (school_of offers) → school ≡ school_of offers child → IsNoGain now child school
told_gain now child schools es ss offers school t best is =
    subst (λ (o : Option Code). IsNoGain now child o) (sym is)
    (λ own b. no_gain_law now child schools own (school_of offers) t.ok b (subst (λ (m : Market). IsBest m (school_of offers)) (sym t.same) best))
