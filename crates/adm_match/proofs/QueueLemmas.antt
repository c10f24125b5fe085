-- The queue of entrants without a school, from turn to turn.
use Rattle.std.proofs.Common.{◌≡◌, ◌≢◌, ◌⊎◌, ℕ, zero, suc, ◌+◌, ◌<◌, List, [], ◌∷◌, ◌++◌, length, map, take, drop, append-nil, Option, None, Some, true, false, ◌&&◌, inl, inr, refl, sym, ap, ◌∙◌, subst, arith, ◌==◌}
use Rattle.std.specs.Prelude.{All, is_none, nat_lt, option_map}
use Rattle.std.specs.List.{slice_get, list_any, count_by}
use Rattle.std.specs.Option.{option_to_list}
use Rattle.std.proofs.lemmas.Bool.{cases_eq, cases_lt, false≢true, or_cases, or_left, or_right, and_parts, and_from, eqb-true, eq-eqb, ltb-true, lt-ltb}
use Rattle.std.proofs.lemmas.Option.{none-some, same_Some, slice_get_within, slice_get-map}
use Rattle.std.proofs.lemmas.List.Folds.{list_any-append}
use Rattle.adm_match.specs.declared.problem.Seats.{Seats}
use Rattle.adm_match.specs.declared.progress.Progress.{Progress}
use Rattle.adm_match.specs.Market.{Code, Candidate, Market}
use Rattle.adm_match.specs.Turns.{held_at, IsFree, AllDone, Sound, start_of}
use Rattle.adm_match.specs.Holding.{Holding, guests_from, guests_of, nobody_held}
use Rattle.adm_match.specs.Queue.{IsMirror, Turned, Queued, BetweenTurns}
use Rattle.adm_match.proofs.RanksAndBlocks.{at_All, All_at}
use Rattle.adm_match.proofs.Turn.{starts}

-- all of the rest of a list
rest_all : (P : ℕ → Type 0) (x : ℕ) (xs : List ℕ) → All P (x ∷ xs) → All P xs
rest_all P x xs h = All_at P xs (λ k y at. at_All P (x ∷ xs) (suc k) y h at)

first_of_all : (P : ℕ → Type 0) (x : ℕ) (xs : List ℕ) → All P (x ∷ xs) → P x
first_of_all P x xs h = at_All P (x ∷ xs) 0 x h refl

last_or_before : (xs : List ℕ) (y : ℕ) (k : ℕ) (z : ℕ) → slice_get (xs ++ y ∷ []) k ≡ Some z → (y ≡ z) ⊎ (slice_get xs k ≡ Some z)
last_or_before [] y zero z e = inl (same_Some y z e)
last_or_before [] y (suc k) z e = absurd (none-some z e)
last_or_before (x ∷ xs) y zero z e = inr e
last_or_before (x ∷ xs) y (suc k) z e = last_or_before xs y k z e

pub push_all : (P : ℕ → Type 0) (xs : List ℕ) (y : ℕ) → All P xs → P y → All P (xs ++ y ∷ [])
push_all P xs y h here = All_at P (xs ++ y ∷ []) (λ k z at. elim (last_or_before xs y k z at) [
  | inl is ↦ subst P is here
  | inr there ↦ at_All P xs k z h there
])

in_rest : (k x : ℕ) (xs : List ℕ) → list_any (λ q. q == k) (x ∷ xs) ≡ true → x ≢ k → list_any (λ q. q == k) xs ≡ true
in_rest k x xs h apart = elim (or_cases (x == k) (list_any (λ q. q == k) xs) h) [
  | inl same ↦ absurd (apart (eqb-true x k same))
  | inr rest ↦ rest
]

in_pushed : (k : ℕ) (xs : List ℕ) (y : ℕ) → list_any (λ q. q == k) xs ≡ true → list_any (λ q. q == k) (xs ++ y ∷ []) ≡ true
in_pushed k xs y h = list_any-append (λ q. q == k) xs (y ∷ []) ∙ or_left (list_any (λ q. q == k) xs) _ h

is_pushed : (k : ℕ) (xs : List ℕ) (y : ℕ) → y ≡ k → list_any (λ q. q == k) (xs ++ y ∷ []) ≡ true
is_pushed k xs y h = list_any-append (λ q. q == k) xs (y ∷ []) ∙ or_right (list_any (λ q. q == k) xs) _ (or_left (y == k) false (eq-eqb y k h))

-- the entrant that the test finds free is free, and no other
pub free_if : (es : List Candidate) (rows : List Progress) (k : ℕ) (e : Candidate) (r : Progress) → slice_get es k ≡ Some e → slice_get rows k ≡ Some r
    → (is_none r.school && nat_lt r.rejections (length e.list)) ≡ true → IsFree es rows k
free_if es rows k e r ek rk h =
    let parts = and_parts (is_none r.school) (nat_lt r.rejections (length e.list)) h in
    (e, r, ek, rk, none_of r.school parts.0, ltb-true _ _ parts.1)
  where
    none_of : (o : Option Code) → is_none o ≡ true → o ≡ None
    none_of None h = refl
    none_of (Some s) h = absurd (false≢true h)

pub not_free_if : (es : List Candidate) (rows : List Progress) (k : ℕ) (e : Candidate) (r : Progress) → slice_get es k ≡ Some e → slice_get rows k ≡ Some r
    → (is_none r.school && nat_lt r.rejections (length e.list)) ≡ false → IsFree es rows k → ⊥
not_free_if es rows k e r ek rk h f =
    let e_is : f.0 ≡ e = same_Some f.0 e (sym f.2 ∙ ek) in
    let r_is : f.1 ≡ r = same_Some f.1 r (sym f.3 ∙ rk) in
    let none : is_none r.school ≡ true = ap (λ (x : Progress). is_none x.school) (sym r_is) ∙ ap is_none f.4 in
    let less : r.rejections < length e.list = omega (arith, f.5, ap (λ (x : Progress). x.rejections) r_is, ap (λ (x : Candidate). length x.list) e_is) in
    false≢true (sym h ∙ and_from (is_none r.school) (nat_lt r.rejections (length e.list)) none (lt-ltb _ _ less))

-- an index that is not free is skipped
pub skipped : (m : Market) (rows : List Progress) (schools : List Holding) (index : ℕ) (queue rest : List ℕ)
    → BetweenTurns m rows schools queue → queue ≡ index ∷ rest → (IsFree m.entrants rows index → ⊥) → BetweenTurns m rows schools rest
skipped m rows schools index queue rest h is not_free =
    let q : Queued m.entrants rows (index ∷ rest) = subst (λ (x : List ℕ). Queued m.entrants rows x) is h.queued in
    record {
      sound = h.sound;
      mirrored = h.mirrored;
      queued = record {
        waiting = λ k f. in_rest k index rest (q.waiting k f) (λ same. not_free (subst (λ x. IsFree m.entrants rows x) (sym same) f));
        within = rest_all (λ x. x < length m.entrants) index rest q.within;
      };
    }

-- nobody was rejected
pub nobody_back : (m : Market) (old new : List Progress) (schools now : List Holding) (index : ℕ) (queue rest : List ℕ)
    → BetweenTurns m old schools queue → queue ≡ index ∷ rest → Turned m old new now index None → BetweenTurns m new now rest
nobody_back m old new schools now index queue rest h is t =
    let q : Queued m.entrants old (index ∷ rest) = subst (λ (x : List ℕ). Queued m.entrants old x) is h.queued in
    record {
      sound = t.sound;
      mirrored = t.mirrored;
      queued = record {
        waiting = λ k f. elim (t.free k f) [
          | inl still ↦ in_rest k index rest (q.waiting k still.1) (λ same. still.0 (sym same))
          | inr out ↦ absurd (none-some k out)
        ];
        within = rest_all (λ x. x < length m.entrants) index rest q.within;
      };
    }

-- the one who was rejected joins the queue
pub one_back : (m : Market) (old new : List Progress) (schools now : List Holding) (index back_at : ℕ) (queue rest queue' : List ℕ)
    → BetweenTurns m old schools queue → queue ≡ index ∷ rest → Turned m old new now index (Some back_at) → queue' ≡ rest ++ back_at ∷ [] → BetweenTurns m new now queue'
one_back m old new schools now index back_at queue rest queue' h is t pushed =
    let q : Queued m.entrants old (index ∷ rest) = subst (λ (x : List ℕ). Queued m.entrants old x) is h.queued in
    subst (λ (x : List ℕ). BetweenTurns m new now x) (sym pushed) (record {
      sound = t.sound;
      mirrored = t.mirrored;
      queued = record {
        waiting = λ k f. elim (t.free k f) [
          | inl still ↦ in_pushed k rest back_at (in_rest k index rest (q.waiting k still.1) (λ same. still.0 (sym same)))
          | inr out ↦ is_pushed k rest back_at (same_Some back_at k out)
        ];
        within = push_all (λ x. x < length m.entrants) rest back_at (rest_all (λ x. x < length m.entrants) index rest q.within) (omega (arith, t.within, t.sound.shaped.same));
      };
    })

pub some_back : (m : Market) (old new : List Progress) (schools now : List Holding) (index : ℕ) (out : Option ℕ) (queue rest queue' : List ℕ)
    → BetweenTurns m old schools queue → queue ≡ index ∷ rest → Turned m old new now index out → queue' ≡ rest ++ option_to_list out → BetweenTurns m new now queue'
some_back m old new schools now index None queue rest queue' h is t pushed =
    subst (λ (x : List ℕ). BetweenTurns m new now x) (sym (pushed ∙ append-nil rest)) (nobody_back m old new schools now index queue rest h is t)
some_back m old new schools now index (Some back_at) queue rest queue' h is t pushed =
    one_back m old new schools now index back_at queue rest queue' h is t pushed

-- the index that leaves the queue is one of an entrant
pub queued_within : (m : Market) (rows : List Progress) (schools : List Holding) (index : ℕ) (queue rest : List ℕ)
    → BetweenTurns m rows schools queue → queue ≡ index ∷ rest → index < length m.entrants
queued_within m rows schools index queue rest h is =
    first_of_all (λ x. x < length m.entrants) index rest (subst (λ (x : List ℕ). All (λ x. x < length m.entrants) x) is h.queued.within)

-- where the queue is empty no turn remains
pub empty_done : (m : Market) (rows : List Progress) (schools : List Holding) (queue : List ℕ) → BetweenTurns m rows schools queue
    → queue ≡ [] → AllDone m.entrants rows
empty_done m rows schools queue h is k e r ek rk none = elim (cases_lt r.rejections (length e.list)) [
  | inr most ↦ most
  | inl less ↦ absurd (false≢true (ap (list_any (λ q. q == k)) (sym is) ∙ h.queued.waiting k (e, r, ek, rk, none, less)))
]

-- the start: nobody is held
none_held : (es : List Candidate) (s : Code) → held_at (map start_of es) s ≡ 0
none_held [] s = refl
none_held (e ∷ es) s = omega (arith, count_none es s, none_held es s)
  where
    count_none : (es : List Candidate) (s : Code) → held_at (map start_of es) s ≡ held_at (map start_of es) s
    count_none es s = refl

no_guests : (k : ℕ) (es : List Candidate) (s : Code) → guests_from k es (map start_of es) s ≡ []
no_guests k [] s = refl
no_guests k (e ∷ es) s = no_guests (k + 1) es s

pub between_turns_first : (m : Market) (rows : List Progress) (schools : List Holding) (queue : List ℕ)
    → rows ≡ map start_of m.entrants → schools ≡ map nobody_held m.seats → ((k : ℕ) → k < length m.entrants → list_any (λ q. q == k) queue ≡ true)
    → All (λ q. q < length m.entrants) queue → BetweenTurns m rows schools queue
between_turns_first m rows schools queue rows_is schools_is waiting within = record {
  sound = subst (λ (x : List Progress). Sound m x) (sym rows_is) (starts m);
  mirrored = record {
    same = ap length schools_is ∙ length_of m.seats;
    each = λ j seat held at there.
        let held_is : nobody_held seat ≡ held = same_Some (nobody_held seat) held (sym (slice_get-map nobody_held m.seats j ∙ ap (option_map nobody_held) at)
        ∙ (ap (λ (x : List Holding). slice_get x j) (sym schools_is) ∙ there)) in
        subst (λ (k : Holding). IsMirror m rows seat k) held_is (record {
          quota = refl;
          count = sym (ap (λ (x : List Progress). held_at x seat.code) rows_is ∙ none_held m.entrants seat.code);
          guests = λ p. ap (count_by p) (ap (λ (x : List Progress). guests_of m.entrants x seat.code) rows_is ∙ no_guests 0 m.entrants seat.code);
        });
  };
  queued = record { waiting = λ k f. waiting k (slice_get_within m.entrants k f.0 f.2); within = within };
}
  where
    length_of : (seats : List Seats) → length (map nobody_held seats) ≡ length seats
    length_of [] = refl
    length_of (s ∷ ss) = ap suc (length_of ss)

-- one more index is lined up
pub line_more : (n i : ℕ) (old new : List ℕ) → i < n → ((k : ℕ) → k < i → list_any (λ q. q == k) old ≡ true) × All (λ q. q < n) old → new ≡ old ++ i ∷ []
    → ((k : ℕ) → k < i + 1 → list_any (λ q. q == k) new ≡ true) × All (λ q. q < n) new
line_more n i old new l h is = subst (λ (x : List ℕ). ((k : ℕ) → k < i + 1 → list_any (λ q. q == k) x ≡ true) × All (λ q. q < n) x) (sym is) (
  λ k lk. elim (cases_eq i k) [
    | inl same ↦ is_pushed k old i same
    | inr apart ↦ in_pushed k old i (h.0 k (omega arith))
  ],
  push_all (λ q. q < n) old i h.1 l,
)

-- what a vector holds after its whole slice was written
pub written : {X : Type 0} (n : ℕ) (new old : List X) → length new ≡ length old → length old ≡ n → take n (new ++ drop (length new) old) ≡ new
written n new old same is = rw (drop_all old (length new) same) (rw append-nil (take_all new n (same ∙ is)))
  where
    drop_all : {X : Type 0} (xs : List X) (n : ℕ) → n ≡ length xs → drop n xs ≡ []
    drop_all xs n e = ap (λ k. drop k xs) e ∙ all xs
      where
        all : {X : Type 0} (xs : List X) → drop (length xs) xs ≡ []
        all [] = refl
        all (x ∷ xs) = all xs

    take_all : {X : Type 0} (xs : List X) (n : ℕ) → length xs ≡ n → take n xs ≡ xs
    take_all xs n e = ap (λ k. take k xs) (sym e) ∙ all xs
      where
        all : {X : Type 0} (xs : List X) → take (length xs) xs ≡ xs
        all [] = refl
        all (x ∷ xs) = ap (λ (ys : List _). x ∷ ys) (all xs)

pub between_turns_as : (m : Market) (rows' rows : List Progress) (schools' schools : List Holding) (queue : List ℕ) → rows' ≡ rows
    → schools' ≡ schools → BetweenTurns m rows schools queue → BetweenTurns m rows' schools' queue
between_turns_as m rows' rows schools' schools queue r s h =
    subst (λ (x : List Progress). BetweenTurns m x schools' queue) (sym r) (subst (λ (x : List Holding). BetweenTurns m rows x queue) (sym s) h)

pub empty_if : (xs : List ℕ) → length xs ≡ 0 → xs ≡ []
empty_if [] h = refl
empty_if (x ∷ xs) h = absurd (omega arith)
