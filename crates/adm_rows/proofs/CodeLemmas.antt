-- The texts of codes are read back as what they were written from.
use Rattle.std.proofs.Common.{◌≡◌, ◌≢◌, ◌∙◌, ◌<◌, suc, length, get_or, Bool, map, ℕ, true, false, List, [], ◌∷◌, ◌++◌, Some, None, refl, sym, ap, subst, arith}
use Rattle.std.specs.Prelude.{Option, option_map, option_and_then, if◌then◌else◌, ◌==◌, not}
use Rattle.std.specs.List.{AllByRecursion, list_all}
use Rattle.std.specs.Str.{IsAscii, IsUtf8}
use Rattle.std.proofs.lemmas.Bool.{and_parts, and_from}
use Rattle.std.proofs.lemmas.Bool.Decides.{nat_tests}
use Rattle.std.proofs.lemmas.Option.{none-some, same_Some}
use Rattle.std.proofs.lemmas.List.Splits.{join_with_byte-slice_split}
use Rattle.std.proofs.lemmas.Str.{IsUtf8-from_ascii, IsAscii-append}
use Rattle.std.proofs.lemmas.Str.Ascii.{IsAscii-nil, IsAscii-cons}
use mathlib.Core.List.{map-id}
use Rattle.std.proofs.lemmas.List.{append-nil}
use Rattle.adm_types.specs.Code.{is_code, is_code_byte, code_of}
use Rattle.adm_types.specs.Joined.{joined, pieces, all_some, items_of, codes_of}
use Rattle.adm_rows.specs.Forms.{codes_text, after_bar, two_codes_text, cut_at_bar, with_second, two_lists_of}
use Rattle.adm_rows.specs.Faults.{AreReadAgain, AreBothReadAgain}
use Rattle.adm_types.proofs.ReadBack.{Reads, items_again, ascii_joined, code_reads}

-- ---- codes

each_code : (codes : List (List ℕ)) → list_all is_code codes ≡ true → AllByRecursion (Reads code_of (λ c. c)) codes
each_code [] all = tt
each_code (code ∷ codes) all = (code_reads code (and_parts _ _ all).0, each_code codes (and_parts _ _ all).1)

-- the text of codes is read as those codes
pub codes_again : (codes : List (List ℕ)) → list_all is_code codes ≡ true → AreReadAgain codes
codes_again codes all = subst (λ cs. items_of code_of (joined cs) ≡ Some codes) (map-id codes) (items_again code_of (λ c. c) codes (each_code codes all))

codes_ascii : (codes : List (List ℕ)) → list_all is_code codes ≡ true → IsAscii (codes_text codes)
codes_ascii codes all = subst (λ cs. IsAscii (joined cs)) (map-id codes) (ascii_joined code_of (λ c. c) codes (each_code codes all))

pub codes_utf8 : (codes : List (List ℕ)) → list_all is_code codes ≡ true → IsUtf8 (codes_text codes)
codes_utf8 codes all = IsUtf8-from_ascii (codes_text codes) (codes_ascii codes all)

pub no_codes_read : (text : List ℕ) (codes : List (List ℕ)) → list_all is_code codes ≡ true → text ≡ codes_text codes → codes_of text ≡ None → ⊥
no_codes_read text codes fit is read =
    let same : None ≡ Some codes = sym read ∙ ap codes_of is ∙ codes_again codes fit in
    cc

-- codes that are read of pieces are these pieces
codes_are_pieces : (texts codes : List (List ℕ)) → all_some (map code_of texts) ≡ Some codes → codes ≡ texts
unfolding code_of
codes_are_pieces [] codes is = sym (same_Some [] codes is)
codes_are_pieces (text ∷ texts) codes is = by (λ more. codes_are_pieces texts more) (is_code text) (all_some (map code_of texts)) refl is
  where
    by : ((more : List (List ℕ)) → all_some (map code_of texts) ≡ Some more → more ≡ texts) → (b : Bool) (rest : Option (List (List ℕ))) → all_some (map code_of texts) ≡ rest
        → option_and_then (λ c. option_map (λ cs. c ∷ cs) rest) (if b then Some text else None) ≡ Some codes → codes ≡ text ∷ texts
    by each false rest at all = absurd (none-some codes all)
    by each true None at all = absurd (none-some codes all)
    by each true (Some cs) at all = sym (same_Some (text ∷ cs) codes all) ∙ ap (λ ts. text ∷ ts) (each cs at)

-- a text of which codes are read is the text of these codes
pub text_of_codes : (text : List ℕ) (codes : List (List ℕ)) → codes_of text ≡ Some codes → text ≡ codes_text codes
text_of_codes [] codes is = ap joined (same_Some [] codes is)
text_of_codes (b ∷ text) codes is =
    sym (ap joined (codes_are_pieces (pieces (b ∷ text)) codes is) ∙ join_with_byte-slice_split 59 (b ∷ text))

-- ---- two lists of codes

-- no `|` in it
abbrev IsUnbarred : List ℕ → Type 0
IsUnbarred text = list_all (λ b. not (b == 124)) text ≡ true

no_bar : (b : ℕ) → is_code_byte b ≡ true → not (b == 124) ≡ true
no_bar b h = grind (arith, nat_tests)

is_no_bar : (b : ℕ) → not (b == 124) ≡ true → (b == 124) ≡ false
is_no_bar b h = grind (arith, nat_tests)

is_bar : (b : ℕ) → (b == 124) ≡ true → b ≡ 124
is_bar b h = grind (arith, nat_tests)

code_unbarred : (text : List ℕ) → list_all is_code_byte text ≡ true → IsUnbarred text
code_unbarred [] h = refl
code_unbarred (b ∷ text) h =
    let it = and_parts (is_code_byte b) (list_all is_code_byte text) h in
    and_from _ _ (no_bar b it.0) (code_unbarred text it.1)

unbarred_append : (front text : List ℕ) → IsUnbarred front → IsUnbarred text → IsUnbarred (front ++ text)
unbarred_append [] text h more = more
unbarred_append (b ∷ front) text h more =
    let it = and_parts (not (b == 124)) (list_all (λ b. not (b == 124)) front) h in
    and_from _ _ it.0 (unbarred_append front text it.1 more)

codes_unbarred : (codes : List (List ℕ)) → list_all is_code codes ≡ true → IsUnbarred (codes_text codes)
codes_unbarred [] all = refl
codes_unbarred (code ∷ []) all = code_unbarred code (and_parts _ _ (and_parts _ _ all).0).1
codes_unbarred (code ∷ next ∷ codes) all =
    unbarred_append code (59 ∷ codes_text (next ∷ codes)) (code_unbarred code (and_parts _ _ (and_parts _ _ all).0).1)
    (and_from _ _ refl (codes_unbarred (next ∷ codes) (and_parts _ _ all).1))

is_other : (b : ℕ) → b ≢ 124 → not (b == 124) ≡ true
is_other b other = by (b == 124) refl
  where
    by : (bar : Bool) → (b == 124) ≡ bar → not bar ≡ true
    by true is = absurd (other (is_bar b is))
    by false is = refl

unbarred : (text : List ℕ) → ((i : ℕ) → i < length text → get_or text i 0 ≢ 124) → IsUnbarred text
unbarred [] each = refl
unbarred (b ∷ text) each = and_from _ _ (is_other b (each 0 (omega arith))) (unbarred text (λ i low. each (suc i) (omega arith)))

-- a text without a `|` is whole before it
cut_free : (text : List ℕ) → IsUnbarred text → cut_at_bar text ≡ (text, None)
cut_free [] h = refl
cut_free (b ∷ text) h =
    let it = and_parts (not (b == 124)) (list_all (λ b. not (b == 124)) text) h in
    rw (is_no_bar b it.0, cut_free text it.1) refl

-- the first `|` cuts a text
cut_barred : (front rest : List ℕ) → IsUnbarred front → cut_at_bar (front ++ 124 ∷ rest) ≡ (front, Some rest)
cut_barred [] rest h = refl
cut_barred (b ∷ front) rest h =
    let it = and_parts (not (b == 124)) (list_all (λ b. not (b == 124)) front) h in
    rw (is_no_bar b it.0, cut_barred front rest it.1) refl

pub cut_some : (text front rest : List ℕ) → text ≡ front ++ 124 ∷ rest → ((i : ℕ) → i < length front → get_or front i 0 ≢ 124) → cut_at_bar text ≡ (front, Some rest)
cut_some text front rest is each = ap cut_at_bar is ∙ cut_barred front rest (unbarred front each)

pub cut_none : (text : List ℕ) → ((i : ℕ) → i < length text → get_or text i 0 ≢ 124) → cut_at_bar text ≡ (text, None)
cut_none text each = cut_free text (unbarred text each)

-- codes after a `|`, of which there is one at least
some_second : (first : List (List ℕ)) (text code : List ℕ) (codes : List (List ℕ)) → codes_of text ≡ Some (code ∷ codes) → with_second (Some text) first ≡ Some (first, code ∷ codes)
some_second first [] code codes h = absurd (let e = same_Some [] (code ∷ codes) h in cc)
some_second first (b ∷ text) code codes h = ap (option_map (λ second. (first, second))) h

lists_again : (first second : List (List ℕ)) → list_all is_code first ≡ true → list_all is_code second ≡ true → AreBothReadAgain (first, second)
lists_again first [] one none =
    let cut = cut_free (codes_text first) (codes_unbarred first one) in
    ap two_lists_of (append-nil (codes_text first)) ∙ (λ k. option_and_then (with_second (cut k).1) (codes_of (cut k).0))
    ∙ ap (option_and_then (with_second None)) (codes_again first one)
lists_again first (code ∷ codes) one more =
    let cut = cut_barred (codes_text first) (codes_text (code ∷ codes)) (codes_unbarred first one) in
    (λ k. option_and_then (with_second (cut k).1) (codes_of (cut k).0)) ∙ ap (option_and_then (with_second (Some (codes_text (code ∷ codes))))) (codes_again first one)
    ∙ some_second first (codes_text (code ∷ codes)) code codes (codes_again (code ∷ codes) more)

-- the text of two lists of codes is read as those
pub both_again : (lists : List (List ℕ) × List (List ℕ)) → list_all is_code lists.0 ≡ true → list_all is_code lists.1 ≡ true → AreBothReadAgain lists
both_again lists one more = lists_again lists.0 lists.1 one more

after_bar_ascii : (codes : List (List ℕ)) → list_all is_code codes ≡ true → IsAscii (after_bar codes)
after_bar_ascii [] all = IsAscii-nil
after_bar_ascii (code ∷ codes) all = IsAscii-cons 124 (codes_text (code ∷ codes)) (omega arith) (codes_ascii (code ∷ codes) all)

pub both_utf8 : (lists : List (List ℕ) × List (List ℕ)) → list_all is_code lists.0 ≡ true → list_all is_code lists.1 ≡ true → IsUtf8 (two_codes_text lists)
both_utf8 lists one more = IsUtf8-from_ascii (two_codes_text lists) (IsAscii-append (codes_text lists.0) (after_bar lists.1) (codes_ascii lists.0 one) (after_bar_ascii lists.1 more))

pub no_lists_read : (text : List ℕ) (lists : List (List ℕ) × List (List ℕ)) → list_all is_code lists.0 ≡ true → list_all is_code lists.1 ≡ true → text ≡ two_codes_text lists
    → two_lists_of text ≡ None → ⊥
no_lists_read text lists one more is read =
    let same : None ≡ Some lists = sym read ∙ ap two_lists_of is ∙ both_again lists one more in
    cc

-- what a cut text was
barred : Option (List ℕ) → List ℕ
barred None = []
barred (Some rest) = 124 ∷ rest

cut_whole : (text : List ℕ) → text ≡ (cut_at_bar text).0 ++ barred (cut_at_bar text).1
unfolding barred
cut_whole [] = refl
cut_whole (b ∷ text) = by (cut_whole text) (b == 124) refl
  where
    by : text ≡ (cut_at_bar text).0 ++ barred (cut_at_bar text).1 → (bar : Bool) → (b == 124) ≡ bar → b ∷ text ≡ (cut_at_bar (b ∷ text)).0 ++ barred (cut_at_bar (b ∷ text)).1
    by whole true is = rw is (ap (λ c. c ∷ text) (is_bar b is))
    by whole false is = rw is (ap (λ t. b ∷ t) whole)

-- a text of which two lists of codes are read is the text of these
pub text_of_lists : (text : List ℕ) (lists : List (List ℕ) × List (List ℕ)) → two_lists_of text ≡ Some lists → text ≡ two_codes_text lists
unfolding barred
text_of_lists text lists is = cut_whole text ∙ by (cut_at_bar text).0 (cut_at_bar text).1 (codes_of (cut_at_bar text).0) refl is
  where
    more : (front : List ℕ) (first : List (List ℕ)) (b : ℕ) (rest : List ℕ) (second : Option (List (List ℕ))) → codes_of front ≡ Some first → codes_of (b ∷ rest) ≡ second
        → option_map (λ s. (first, s)) second ≡ Some lists → front ++ 124 ∷ b ∷ rest ≡ two_codes_text lists
    more front first b rest None one at h = absurd (none-some lists h)
    more front first b rest (Some []) one at h = absurd (let e = text_of_codes (b ∷ rest) [] at in cc)
    more front first b rest (Some (code ∷ codes)) one at h =
        (λ k. text_of_codes front first one k ++ 124 ∷ text_of_codes (b ∷ rest) (code ∷ codes) at k) ∙ ap two_codes_text (same_Some (first, code ∷ codes) lists h)

    by : (front : List ℕ) (rest : Option (List ℕ)) (codes : Option (List (List ℕ))) → codes_of front ≡ codes → option_and_then (with_second rest) codes ≡ Some lists
        → front ++ barred rest ≡ two_codes_text lists
    by front rest None at h = absurd (none-some lists h)
    by front None (Some first) at h = ap (λ f. f ++ []) (text_of_codes front first at) ∙ ap two_codes_text (same_Some (first, []) lists h)
    by front (Some []) (Some first) at h = absurd (none-some lists h)
    by front (Some (b ∷ rest)) (Some first) at h = more front first b rest (codes_of (b ∷ rest)) at refl h
