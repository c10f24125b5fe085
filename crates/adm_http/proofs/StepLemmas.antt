-- Steps of the loops that read a request.
use Rattle.std.proofs.Common.{◌≡◌, ℕ, ◌+◌, ◌<◌, ◌≤◌, List, [], ◌∷◌, ◌++◌, length, drop, sym, ap, ◌∙◌, subst, arith, append_assoc, append-nil}
use Rattle.std.specs.Prelude.{Option, Bool, true, false, ◌||◌}
use Rattle.std.specs.Io.KnownBytes.{Consumes, Keeps}
use Rattle.std.proofs.KnownBytes.{Consumes-trans, Consumes-kept}
use Rattle.std.proofs.lemmas.List.{length-drop, length-append}
use Rattle.httparse.specs.Grammar.{RequestHead, print_request}
use Rattle.adm_http.specs.Heads.{most_body, window, HeadDecides, IsJudgement, IsInside}
use Rattle.adm_http.specs.Reading.{MayNeedMore, MayNeedMoreUpTo, IsNotFarPast}
use Rattle.adm_http.specs.declared.heads.Verdict.{Verdict}
use Rattle.adm_http.specs.declared.heads.Verdict.TheVariants.{Run}
use Rattle.adm_http.specs.declared.routes.Purpose.{Purpose}
use Rattle.adm_http.specs.declared.heads.Judgement.TheVariants.{Whole, Unfinished}
use Rattle.adm_http.proofs.ReadingLemmas.{drop_front, window_front, reads_on}

-- a step of the loop that reads: from bytes that were not settled, at most 8,192 more
pub record ReadsOn (a c : Option (List ℕ)) (start more new : List ℕ) : Type 0 where
  pub consumed : Consumes a c more
  pub grown : new ≡ start ++ more
  pub near : IsNotFarPast new

pub read_step : (a b c : Option (List ℕ)) (start seen input more new : List ℕ) → Consumes a b seen → input ≡ start ++ seen → MayNeedMore input
    → Consumes b c more → new ≡ input ++ more → length more ≤ 8192 → ReadsOn a c start (seen ++ more) new
read_step a b c start seen input more new before input_is on now new_is few = record {
  consumed = Consumes-trans a b c seen more before now;
  grown = new_is ∙ ap (λ l. l ++ more) input_is ∙ append_assoc start seen more;
  near = subst IsNotFarPast (sym new_is) (reads_on input more on few);
}

-- a read that failed left the bytes as they were
pub failed_step : (a b c : Option (List ℕ)) (start seen input new : List ℕ) → Consumes a b seen → input ≡ start ++ seen → IsNotFarPast input
    → Keeps b c → new ≡ input → ReadsOn a c start seen new
failed_step a b c start seen input new before input_is near kept new_is = record {
  consumed = Consumes-kept a b c seen before kept;
  grown = new_is ∙ input_is;
  near = subst IsNotFarPast (sym new_is) near;
}

-- what is read on is of the reader's bytes too
pub consumed_on : (a b c : Option (List ℕ)) (input more new : List ℕ) → Consumes a b input → Consumes b c more → new ≡ input ++ more → Consumes a c new
consumed_on a b c input more new before now new_is = subst (Consumes a c) (sym new_is) (Consumes-trans a b c input more before now)

-- a whole head decides the same, whatever follows
pub whole_stays : (input more : List ℕ) (len : ℕ) (v : Verdict) → HeadDecides input len v → HeadDecides (input ++ more) len v
whole_stays input more len v judged = record {
  head = h;
  has = record { reads = (judged.has.reads.0, sym joined ∙ ap (λ x. print_request h ++ x) (sym tail)); room = judged.has.room };
  len_is = judged.len_is;
  verdict_is = judged.verdict_is;
}
  where
    h : RequestHead
    h = judged.head

    front : (rest : List ℕ) × (window (input ++ more) ≡ window input ++ rest)
    front = window_front input more

    joined : print_request h ++ (drop (length (print_request h)) (window input) ++ front.0) ≡ window (input ++ more)
    joined = sym (append_assoc (print_request h) (drop (length (print_request h)) (window input)) front.0) ∙ ap (λ x. x ++ front.0) (sym judged.has.reads.1) ∙ sym front.1

    tail : drop (length (print_request h)) (window (input ++ more)) ≡ drop (length (print_request h)) (window input) ++ front.0
    tail = drop_front (print_request h) (drop (length (print_request h)) (window input) ++ front.0) (window (input ++ more)) joined

-- so it is judged the same when more is read
pub judged_same : (input more new : List ℕ) (len : ℕ) (v : Verdict) → IsJudgement input (Whole len v) → IsInside input (Whole len v) → new ≡ input ++ more
    → IsJudgement new (Whole len v) × IsInside new (Whole len v)
judged_same input more new len v judged inside is =
    let longer = ap length is ∙ length-append input more in
    (subst (λ b. IsJudgement b (Whole len v)) (sym is) (whole_stays input more len v judged), (omega (arith, longer, inside.0), inside.1, inside.2))

-- a whole head whose body is not all there, and the number of bytes that end it
pub body_goes_on : (input : List ℕ) (purpose : Purpose) (len n total : ℕ) → IsJudgement input (Whole len (Run purpose n)) → len ≤ length input → len ≤ 8192 → n ≤ most_body
    → total ≡ len + n → length input < total → MayNeedMoreUpTo total input
body_goes_on input purpose len n total judged inside low small total_is fewer = record {
  fewer = fewer;
  limit = omega arith;
  on = λ more short. (
    Whole len (Run purpose n),
    whole_stays input more len (Run purpose n) judged,
    λ settled.
        let rest = length-drop len (input ++ more) in
        let longer = length-append input more in
        omega (arith, rest, longer, short, settled, inside, total_is),
  );
}

-- an unfinished head wants one byte more
pub head_goes_on : (input : List ℕ) (total : ℕ) → IsJudgement input Unfinished → length input < 8192 → total ≡ length input + 1 → MayNeedMoreUpTo total input
head_goes_on input total judged short total_is = record {
  fewer = omega arith;
  limit = omega arith;
  on = λ more few. by more (let longer = length-append input more in omega arith);
}
  where
    by : (more : List ℕ) → length more ≤ 0 → MayNeedMore (input ++ more)
    by [] none = subst MayNeedMore (sym (append-nil input)) (Unfinished, judged, λ long. omega arith)
    by (b ∷ more) none = absurd (omega arith)

-- a flag that was not set
pub still : (b c : Bool) (d : Bool) → d ≡ (b || false) → b ≡ c → d ≡ c
still true c d e f = e ∙ f
still false c d e f = e ∙ f
