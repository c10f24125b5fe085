-- When bytes are not settled, no beginning of them is.
use Rattle.std.proofs.Common.{◌≡◌, ℕ, zero, suc, ◌+◌, ◌-◌, ◌<◌, ◌≤◌, ◌⊎◌, inl, inr, ⊎_elim, List, [], ◌∷◌, ◌++◌, length, take, drop, get_or, refl, sym, ap, ◌∙◌, subst, arith, append_assoc, append-nil, lit<, lit≤}
use Rattle.std.specs.Prelude.{IsTrue}
use Rattle.std.specs.List.{All}
use Rattle.std.proofs.lemmas.List.Elements.{All-cons, All-nil}
use Rattle.std.proofs.lemmas.Str.{IsUtf8-from_ascii}
use Rattle.std.proofs.lemmas.List.{length-take, length-drop, length-append, take-append-drop, get_or_append_left, take-append-le}
use Rattle.std.proofs.Math.Seq.{take-append-add}
use Rattle.std.proofs.lemmas.Bool.{cases_lt}
use Rattle.std.proofs.lemmas.Grind.{common_steps}
use Rattle.httparse.specs.Grammar.{RequestHead, IsRequestHead, print_request, ReadsRequest, HasNoRequest, MayBecomeRequest, AllPass, IsToken, IsField, LineEnd, is_uri_byte, crlf, print_blank, print_end, print_version, print_section}
use Rattle.httparse.proofs.GrammarLemmas.{ReadsRequest-append, request_prefix_free, print_request-append}
use Rattle.adm_http.specs.Heads.{window, HasHead, head_verdict}
use Rattle.adm_http.specs.Reading.{HasBody, MustStop, MayNeedMore, IsNotFarPast}
use Rattle.adm_http.specs.declared.heads.Verdict.{Verdict}
use Rattle.adm_http.specs.declared.heads.Verdict.TheVariants.{Reject, NotAllowed, Show, Run}
use Rattle.adm_http.specs.declared.heads.Judgement.TheVariants.{Whole, Malformed, Unfinished}

-- ---- lists

-- where one list is cut in two ways, one of the fronts begins the other
pub cut_twice : (p more x y : List ℕ) → p ++ more ≡ x ++ y
    → ((r : List ℕ) × (p ++ r ≡ x)) ⊎ ((b : ℕ) × (q : List ℕ) × (p ≡ x ++ b ∷ q) × ((b ∷ q) ++ more ≡ y))
cut_twice [] more x y e = inl (x, refl)
cut_twice (b ∷ p) more [] y e = inr (b, p, refl, e)
cut_twice (b ∷ p) more (c ∷ x) y e =
    let head : b ≡ c = cc e in
    let tail : p ++ more ≡ x ++ y = cc e in
    ⊎_elim (λ l. inl (l.0, cc (head, l.1))) (λ r. inr (r.0, r.1, cc (head, r.2), r.3)) (cut_twice p more x y tail)

-- what follows a front
pub drop_front : (xs ys zs : List ℕ) → xs ++ ys ≡ zs → drop (length xs) zs ≡ ys
drop_front xs ys zs e = subst (λ l. drop (length xs) l ≡ ys) e (drop_own xs ys)
  where
    drop_own : (a b : List ℕ) → drop (length a) (a ++ b) ≡ b
    drop_own [] b = refl
    drop_own (x ∷ a) b = drop_own a b

-- what holds of each element holds in the front
pub All-front : (P : ℕ → Type 0) (xs ys : List ℕ) → All P (xs ++ ys) → All P xs
All-front P xs ys all i d inside =
    let longer = length-append xs ys in
    subst P (get_or_append_left xs ys d i inside) (all i d (omega arith))

-- ---- what may become a request may from its beginning

-- the shortest head with these empty lines and this method
abbrev shortest : List LineEnd → List ℕ → RequestHead
shortest blank method = record {
  blank = blank;
  method = method;
  target = 47 ∷ [];
  minor = 1;
  line_end = crlf;
  fields = [];
  last = crlf;
}

-- its bytes after the method
abbrev shortest_rest : List ℕ
shortest_rest = 32 ∷ ((47 ∷ []) ++ 32 ∷ (print_version 1 ++ (print_end crlf ++ (print_section [] crlf ++ []))))

slash_is_ascii : (i : ℕ) → get_or (47 ∷ []) i 0 < 128
slash_is_ascii zero = lit< tt
slash_is_ascii (suc i) = lit< tt

is_shortest : (blank : List LineEnd) (method : List ℕ) → IsToken method → IsRequestHead (shortest blank method)
is_shortest blank method token = record {
  method = token;
  target = (lit< tt, All-cons (λ b. IsTrue (is_uri_byte b)) 47 [] refl (All-nil (λ b. IsTrue (is_uri_byte b))));
  target_text = IsUtf8-from_ascii (47 ∷ []) slash_is_ascii;
  minor = lit≤ tt;
  fields = All-nil IsField;
}

pub may_become_front : (p more : List ℕ) → MayBecomeRequest (p ++ more) → MayBecomeRequest p
may_become_front p more m = ⊎_elim (λ l. inl (whole l.0 l.1 l.2)) (λ r. in_target r.0 r.1 r.2 r.3 r.4 r.5) m
  where
    whole : (rest : List ℕ) (h : RequestHead) → ReadsRequest ((p ++ more) ++ rest) h []
        → (extra : List ℕ) × (k : RequestHead) × ReadsRequest (p ++ extra) k []
    whole rest h reads = (more ++ rest, h, subst (λ b. ReadsRequest b h []) (append_assoc p more rest) reads)

    completed : (blank : List LineEnd) (method r : List ℕ) → IsToken method → p ++ r ≡ print_blank blank ++ method → MayBecomeRequest p
    completed blank method r token e =
        let all : p ++ (r ++ shortest_rest) ≡ print_request (shortest blank method) ++ [] =
        sym (append_assoc p r shortest_rest) ∙ ap (λ x. x ++ shortest_rest) e ∙ append_assoc (print_blank blank) method shortest_rest
        ∙ sym (print_request-append (shortest blank method) []) in
        inl (r ++ shortest_rest, shortest blank method, (is_shortest blank method token, all))

    within : (blank : List LineEnd) (method target : List ℕ) (b : ℕ) (q : List ℕ) → IsToken method → AllPass is_uri_byte target
        → p ≡ (print_blank blank ++ method) ++ b ∷ q → (b ∷ q) ++ more ≡ 32 ∷ target → MayBecomeRequest p
    within blank method target b q token pass p_is e =
        let first : b ≡ 32 = cc e in
        let others : q ++ more ≡ target = cc e in
        let front = All-front (λ c. IsTrue (is_uri_byte c)) q more (subst (AllPass is_uri_byte) (sym others) pass) in
        inr (blank, method, q, token, front, p_is ∙ ap (λ c. (print_blank blank ++ method) ++ c ∷ q) first)

    in_target : (blank : List LineEnd) (method target : List ℕ) → IsToken method → AllPass is_uri_byte target
        → p ++ more ≡ print_blank blank ++ method ++ 32 ∷ target → MayBecomeRequest p
    in_target blank method target token pass e =
        ⊎_elim (λ l. completed blank method l.0 token l.1) (λ r. within blank method target r.0 r.1 token pass r.2 r.3)
        (cut_twice p more (print_blank blank ++ method) (32 ∷ target) e)

pub no_request_front : (p more : List ℕ) → HasNoRequest (p ++ more) → HasNoRequest p
no_request_front p more none h rest reads = none h (rest ++ more) (ReadsRequest-append p h rest more reads)

-- ---- windows

take_all : (n : ℕ) (xs : List ℕ) → length xs ≤ n → take n xs ≡ xs
take_all n xs short = grind (arith, common_steps)

take_short : (n : ℕ) (xs ys : List ℕ) → n ≤ length xs → take n (xs ++ ys) ≡ take n xs ++ []
take_short n xs ys long = take-append-le n xs ys long ∙ sym (append-nil (take n xs))

take_long : (n : ℕ) (xs ys : List ℕ) → length xs ≤ n → take n (xs ++ ys) ≡ take n xs ++ take (n - length xs) ys
take_long n xs ys short =
    let sum : n ≡ length xs + (n - length xs) = omega arith in
    ap (λ k. take k (xs ++ ys)) sum ∙ take-append-add xs ys (n - length xs) ∙ ap (λ l. l ++ take (n - length xs) ys) (sym (take_all n xs short))

-- the window of a beginning begins the window
pub window_front : (p more : List ℕ) → (rest : List ℕ) × (window (p ++ more) ≡ window p ++ rest)
window_front p more =
    ⊎_elim (λ l. (take (8192 - length p) more, take_long 8192 p more (omega arith))) (λ r. ([], take_short 8192 p more r))
    (cases_lt (length p) 8192)

pub window_short : (p : List ℕ) → length p ≤ 8192 → window p ≡ p
window_short p short = take_all 8192 p short

-- ---- a beginning of bytes that are not settled is not settled

-- a body that is there stays there
pub HasBody-append : (len : ℕ) (p more : List ℕ) (v : Verdict) → HasBody (drop len p) v → HasBody (drop len (p ++ more)) v
HasBody-append len p more (Reject status) h = tt
HasBody-append len p more (NotAllowed verb) h = tt
HasBody-append len p more (Show resource) h = tt
HasBody-append len p more (Run purpose n) h =
    let a = length-drop len p in
    let b = length-drop len (p ++ more) in
    let c = length-append p more in
    omega (arith, a, b, c, h)

unfinished_front : (p more : List ℕ) → HasNoRequest (window (p ++ more)) → MayBecomeRequest (window (p ++ more))
    → ¬ (8192 ≤ length (p ++ more)) → MayNeedMore p
unfinished_front p more none may short =
    let longer = length-append p more in
    let whole : length (p ++ more) ≤ 8192 = omega arith in
    let part : length p ≤ 8192 = omega arith in
    let all = window_short (p ++ more) whole in
    let own = window_short p part in (
      Unfinished,
      (
        subst HasNoRequest (sym own) (no_request_front p more (subst HasNoRequest all none)),
        subst MayBecomeRequest (sym own) (may_become_front p more (subst MayBecomeRequest all may)),
      ),
      λ long. short (omega arith),
    )

-- the head is whole in the beginning too
whole_front : (p more : List ℕ) (len : ℕ) (v : Verdict) (h : RequestHead) (r : List ℕ) → HasHead (window (p ++ more)) h
    → len ≡ length (print_request h) → v ≡ head_verdict h → print_request h ++ r ≡ window p
    → ¬ (HasBody (drop len (p ++ more)) v) → MayNeedMore p
whole_front p more len v h r has len_is v_is front unsettled = (
  Whole len v,
  record {
    head = h;
    has = record { reads = (has.reads.0, sym front ∙ ap (λ x. print_request h ++ x) (sym (drop_front (print_request h) r (window p) front))); room = has.room };
    len_is = len_is;
    verdict_is = v_is;
  },
  λ settled. unsettled (HasBody-append len p more v settled),
)

-- the head ends past the beginning
part_front : (p more : List ℕ) (h : RequestHead) (b : ℕ) (q : List ℕ) → HasHead (window (p ++ more)) h
    → print_request h ≡ window p ++ b ∷ q → MayNeedMore p
part_front p more h b q has head_is =
    let w = window (p ++ more) in
    let wp = window p in
    let front = window_front p more in
    let tail = drop (length (print_request h)) w in
    let w_len = length-take 8192 (p ++ more) in
    let wp_len = length-take 8192 p in
    let head_len = ap length head_is ∙ length-append wp (b ∷ q) in
    let all_len = ap length has.reads.1 ∙ length-append (print_request h) tail in
    let short : length p < 8192 = omega (arith, w_len, wp_len, head_len, all_len) in
    let own = window_short p (omega arith) in
    let reads : ReadsRequest (wp ++ front.0) h tail = subst (λ x. ReadsRequest x h tail) front.1 has.reads in (
      Unfinished,
      (
        λ k r found.
            let same = request_prefix_free wp front.0 k h r tail found reads in
            let found_len = ap length found.1 ∙ length-append (print_request k) r in
            let heads_len = ap (λ x. length (print_request x)) same.0 in
            omega (arith, head_len, found_len, heads_len),
        inl (b ∷ q, h, (has.reads.0, sym head_is ∙ sym (append-nil (print_request h)))),
      ),
      λ long. omega (arith, short, long),
    )

pub goes_on_before : (p more : List ℕ) → MayNeedMore (p ++ more) → MayNeedMore p
goes_on_before p more (Unfinished, judged, unsettled) = unfinished_front p more judged.0 judged.1 unsettled
goes_on_before p more (Malformed, judged, unsettled) = absurd (unsettled tt)
goes_on_before p more (Whole len v, judged, unsettled) =
    let front = window_front p more in
    ⊎_elim (λ l. whole_front p more len v judged.head l.0 judged.has judged.len_is judged.verdict_is l.1 unsettled)
    (λ r. part_front p more judged.head r.0 r.1 judged.has r.2)
    (cut_twice (print_request judged.head) (drop (length (print_request judged.head)) (window (p ++ more))) (window p) front.0
    (sym judged.has.reads.1 ∙ front.1))

-- ---- reading on

-- one more read, of at most 8,192 bytes, goes not far past
pub reads_on : (input more : List ℕ) → MayNeedMore input → length more ≤ 8192 → IsNotFarPast (input ++ more)
reads_on input more on few n inside must =
    ⊎_elim (λ l. omega (arith, longer, l)) (λ r. absurd (early (omega arith) (goes_on_before (take n input) (drop n input) (subst MayNeedMore (sym (take-append-drop n input)) on))))
    (cases_lt (length input) n)
  where
    longer : length (input ++ more) ≡ length input + length more
    longer = length-append input more

    early : n ≤ length input → MayNeedMore (take n input) → ⊥
    early short go = go.2 (subst MustStop (take-append-le n input more short) must go.0 go.1)
