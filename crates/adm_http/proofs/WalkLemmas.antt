-- What the parameter of a route takes of its target.
use Rattle.std.proofs.Common.{◌≡◌, ℕ, suc, ◌+◌, ◌-◌, ◌<◌, ◌≤◌, ◌==◌, lit≤, ◌&&◌, List, [], ◌∷◌, ◌++◌, length, drop, get_or, Bool, true, false, cond, ltb, leb, refl, sym, ap, ◌∙◌, arith, append-nil}
use Rattle.std.proofs.lemmas.Bool.Decides.{nat_tests}
use Rattle.std.proofs.lemmas.List.{length-append}
use Rattle.std.proofs.Math.Seq.{take-append_seam, get_or-append_seam}
use Rattle.matchit.specs.Level.{IsText}
use Rattle.matchit.specs.Rows.{param_token}
use Rattle.matchit.specs.Seek.{segment, has_slash}
use Rattle.matchit.specs.Params.{walk, wild_from, wild_stop, part_of}
use Rattle.adm_http.proofs.ReadingLemmas.{drop_front}

is_below : (k n m : ℕ) → m ≤ n → k < m → ltb k n ≡ true
is_below k n m a b = grind (arith, nat_tests)

-- the tokens before the parameter are bytes of the path
wild_literal : (w tail : List ℕ) (n k : ℕ) → IsText w → k + length w ≤ n
    → wild_from (w ++ param_token ∷ tail) n k k ≡ (k + length w, k + length w)
wild_literal [] tail n k text long = let e : k + 0 ≡ k = omega arith in rw e refl
wild_literal (x ∷ w) tail n k text long =
    let below : ltb x param_token ≡ true = is_below x param_token 256 (lit≤ tt) text.0 in
    let turn : ltb k n ≡ true = is_below k n (k + 1) (omega arith) (omega arith) in
    let next = wild_literal w tail n (k + 1) text.1 (omega arith) in
    let sum : k + 1 + length w ≡ k + length (x ∷ w) = omega arith in
    rw (below, turn) (next ∙ ap (λ m. (m, m)) sum)

at_seam : (w tail : List ℕ) (y : ℕ) → get_or (w ++ y ∷ tail) (length w) 0 ≡ y
at_seam w tail y = get_or-append_seam w y tail 0

-- the parameter is the last: it takes all
stop_end : (w path : List ℕ) (at : ℕ) → wild_stop (w ++ param_token ∷ []) (length w) path at ≡ length path
stop_end w path at =
    let total = length-append w (param_token ∷ []) in
    let no : ltb (length w + 1) (length (w ++ param_token ∷ [])) ≡ false = grind (arith, nat_tests, total) in
    rw no (and_off (ltb (length w) (length (w ++ param_token ∷ [])) && (get_or (w ++ param_token ∷ []) (length w) 0 == param_token)))
  where
    and_off : (v : Bool) → cond (v && false) (at + length (segment (drop at path)) - length (segment (drop (length w + 1) (w ++ param_token ∷ [])))) (length path) ≡ length path
    and_off true = refl
    and_off false = refl

part_between : (w part tail : List ℕ) (stop : ℕ) → stop ≡ length w + length part
    → part_of (w ++ (part ++ tail)) (length w) stop ≡ part
part_between w part tail stop e =
    let total = length-append w (part ++ tail) ∙ ap (λ k. length w + k) (length-append part tail) in
    let low : leb (length w) stop ≡ true = grind (arith, nat_tests) in
    let high : leb stop (length (w ++ (part ++ tail))) ≡ true = grind (arith, nat_tests, total) in
    let n : stop - length w ≡ length part = omega arith in
    rw (low, high, n, drop_front w (part ++ tail) (w ++ (part ++ tail)) refl) (take-append_seam part tail)

pub walk_to_end : (w text part : List ℕ) (name : ℕ × ℕ) → IsText w
    → walk (w ++ param_token ∷ []) text (w ++ part) (name ∷ []) 0 0 ≡ (part_of text name.0 name.1, part) ∷ []
walk_to_end w text part name bytes =
    let total = length-append w part in
    let wild = wild_literal w [] (length (w ++ part)) 0 bytes (omega (arith, total)) in
    let zero_w : 0 + length w ≡ length w = omega arith in
    let stop = stop_end w (w ++ part) (length w) in
    let same = ap (λ l. part_of (w ++ l) (length w) (length (w ++ part))) (sym (append-nil part)) ∙ part_between w part [] (length (w ++ part)) total in
    rw (wild, zero_w, stop) (ap (λ l. (part_of text name.0 name.1, l) ∷ []) same)

segment_of : (part s : List ℕ) → has_slash part ≡ false → segment (part ++ 47 ∷ s) ≡ part ++ 47 ∷ []
segment_of [] s e = refl
segment_of (b ∷ part) s e = by (b == 47) e (segment_of part s)
  where
    by : (v : Bool) → cond v true (has_slash part) ≡ false → (has_slash part ≡ false → segment (part ++ 47 ∷ s) ≡ part ++ 47 ∷ [])
        → cond v (b ∷ []) (b ∷ segment (part ++ 47 ∷ s)) ≡ b ∷ (part ++ 47 ∷ [])
    by true h ih = absurd (cc h)
    by false h ih = ap (λ l. b ∷ l) (ih h)

-- the parameter leaves what its segment ends with
stop_suffix : (w s part : List ℕ) → has_slash part ≡ false
    → wild_stop (w ++ param_token ∷ (47 ∷ s)) (length w) (w ++ (part ++ 47 ∷ s)) (length w) ≡ length w + length part
stop_suffix w s part flat =
    let total = length-append w (param_token ∷ (47 ∷ s)) in
    let a : ltb (length w) (length (w ++ param_token ∷ (47 ∷ s))) ≡ true = grind (arith, nat_tests, total) in
    let b : ltb (length w + 1) (length (w ++ param_token ∷ (47 ∷ s))) ≡ true = grind (arith, nat_tests, total) in
    let after : drop (length w + 1) (w ++ param_token ∷ (47 ∷ s)) ≡ 47 ∷ s = drop_seam w param_token (47 ∷ s) in
    let seg = ap length (segment_of part s flat) ∙ length-append part (47 ∷ []) in
    let sum : length w + length (segment (part ++ 47 ∷ s)) - 1 ≡ length w + length part = omega (arith, seg) in
    rw (a, b, at_seam w (47 ∷ s) param_token, after, drop_front w (part ++ 47 ∷ s) (w ++ (part ++ 47 ∷ s)) refl) sum
  where
    drop_seam : (v : List ℕ) (y : ℕ) (tail : List ℕ) → drop (length v + 1) (v ++ y ∷ tail) ≡ tail
    drop_seam v y tail = let e : length v + 1 ≡ suc (length v) = omega arith in rw e (by v)
      where
        by : (u : List ℕ) → drop (suc (length u)) (u ++ y ∷ tail) ≡ tail
        by [] = refl
        by (x ∷ u) = by u

pub walk_to_suffix : (w text s part : List ℕ) (name : ℕ × ℕ) → IsText w → has_slash part ≡ false
    → walk (w ++ param_token ∷ (47 ∷ s)) text (w ++ (part ++ 47 ∷ s)) (name ∷ []) 0 0 ≡ (part_of text name.0 name.1, part) ∷ []
walk_to_suffix w text s part name bytes flat =
    let total = length-append w (part ++ 47 ∷ s) in
    let wild = wild_literal w (47 ∷ s) (length (w ++ (part ++ 47 ∷ s))) 0 bytes (omega (arith, total)) in
    let zero_w : 0 + length w ≡ length w = omega arith in
    let stop = stop_suffix w s part flat in
    rw (wild, zero_w, stop) (ap (λ l. (part_of text name.0 name.1, l) ∷ []) (part_between w part (47 ∷ s) (length w + length part) refl))
