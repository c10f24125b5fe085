-- What is printed of a text, from what is printed of its two parts.
use Rattle.std.proofs.Common.{◌≡◌, ℕ, zero, suc, ◌+◌, List, [], ◌∷◌, ◌++◌, length, take, Bool, Option, Result, Ok, Err, refl, sym, ap, subst}
use Rattle.std.specs.Io.KnownBytes.{Appends}
use Rattle.std.specs.Result.{IsErr}
use Rattle.std.proofs.KnownBytes.{Appends-trans}
use Rattle.std.proofs.Math.Seq.{take-append-add}
use Rattle.adm_wire.specs.Streams.{Stream}
use Rattle.adm_host.specs.Reports.{IsCut, PrintsText}

-- a beginning of a text is one of a longer text
begun : (n : ℕ) (xs ys : List ℕ) → (m : ℕ) × (take m (xs ++ ys) ≡ take n xs)
begun zero xs ys = (0, refl)
begun (suc n) [] ys = (0, refl)
begun (suc n) (x ∷ xs) ys = let r = begun n xs ys in (suc r.0, ap (λ (l : List ℕ). x ∷ l) r.1)

-- what failed within a text failed within a longer one
pub cut_front : (xs ys : List ℕ) (errors : Stream) → IsCut xs errors → IsCut (xs ++ ys) errors
cut_front xs ys errors cut =
    let r = begun cut.1 xs ys in
    (cut.0, r.0, subst (λ (l : List ℕ). Appends errors.old errors.new l) (sym r.1) cut.2)

-- a text was written, and the next failed
pub cut_more : (xs ys : List ℕ) (a b c : Option (List ℕ)) (failed : Bool) → Appends a b xs → IsCut ys (record { old = b; new = c; has_failed = failed })
    → IsCut (xs ++ ys) (record { old = a; new = c; has_failed = failed })
cut_more xs ys a b c failed first cut =
    (cut.0, length xs + cut.1, subst (λ (l : List ℕ). Appends a c l) (sym (take-append-add xs ys cut.1)) (Appends-trans a b c xs (take cut.1 ys) first cut.2))

-- a text was written, and then the next
pub writes_more : {A B : Type 0} (xs ys : List ℕ) (a b c : Option (List ℕ)) (failed : Bool) (r : Result A B) → Appends a b xs
    → PrintsText ys (record { old = b; new = c; has_failed = failed }) r → PrintsText (xs ++ ys) (record { old = a; new = c; has_failed = failed }) r
writes_more xs ys a b c failed (Ok x) first more = Appends-trans a b c xs ys first more
writes_more xs ys a b c failed (Err e) first cut = cut_more xs ys a b c failed first cut

-- a print that failed
pub as_cut : {A B : Type 0} (text : List ℕ) (errors : Stream) (r : Result A B) → IsErr r → IsCut text errors → PrintsText text errors r
as_cut text errors (Ok x) is cut = let none : ⊥ = cc in absurd none
as_cut text errors (Err e) is cut = cut
