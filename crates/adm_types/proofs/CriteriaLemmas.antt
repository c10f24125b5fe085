-- The text of a criterion is read back as that criterion, and the test of two criteria decides whether they are equal.
use Rattle.adm_types.proofs.ReadBack.{plain_decimal, small_enough, IsPiece, no_text, piece_cons, decimal_piece, Reads, code_reads}
use Rattle.adm_types.specs.Criteria.{first_criterion, criterion_of, criterion_text, is_criterion}
use Rattle.adm_types.specs.contracts.criteria.CriterionPartialEq.TheImpl.{eq-value as criterion_eq}
use Rattle.adm_types.specs.declared.criteria.Criterion.TheVariants.{Sibling, Within, Flag, Feeder, Catchment}
use Rattle.adm_types.specs.declared.criteria.Criterion.{Criterion}
use Rattle.std.proofs.Common.{sym, subst, true≢false, ◌≡◌, ℕ, ◌<◌, ◌^◌, true, List, [], ◌∷◌, ◌++◌, Some, None, nat_lt, refl, ap, arith}
use Rattle.std.proofs.lemmas.Bool.Decides.{nat_tests}
use Rattle.std.proofs.lemmas.Bool.{and_parts}
use Rattle.std.proofs.lemmas.Fmt.{IsAscii-decimal}
use Rattle.std.proofs.lemmas.Str.Ascii.{IsAscii-nil, IsAscii-cons}
use Rattle.std.specs.Cmp.Lexicographic.{bytes_decides}
use Rattle.std.specs.Cmp.{unsigned_Decides}
use Rattle.std.specs.Fmt.{decimal}
use Rattle.std.specs.List.{list_all}
use Rattle.std.specs.Option.{option_map}
use Rattle.std.specs.Prelude.{◌==◌, not, codes, ◌↔◌, false}
use Rattle.std.specs.Str.{IsAscii}

-- ---- one criterion

metres_fit : (n : ℕ) → is_criterion (Within n) ≡ true → n < 2 ^ 32
metres_fit n h = grind (arith, nat_tests)

flag_fits : (n : ℕ) → is_criterion (Flag n) ≡ true → n < 2 ^ 32
flag_fits n h = grind (arith, nat_tests)

-- the text of a criterion is read as that criterion
pub criterion_again : (c : Criterion) → is_criterion c ≡ true → criterion_of (criterion_text c) ≡ Some c
unfolding criterion_of
criterion_again Sibling h = refl
criterion_again Catchment h = refl
criterion_again (Within metres) h = ap (λ o. first_criterion (option_map Within o) None) (plain_decimal metres (metres_fit metres h))
criterion_again (Flag flag) h = ap (λ o. first_criterion None (first_criterion (option_map Flag o) None)) (plain_decimal flag (flag_fits flag h))
criterion_again (Feeder school) h = ap (λ o. first_criterion None (first_criterion None (option_map Feeder o))) (code_reads school h).again

fixed_piece : (front text : List ℕ) → list_all (λ b. not (b == 59)) front ≡ true → IsPiece text → IsPiece (front ++ text)
fixed_piece [] text h piece = piece
fixed_piece (b ∷ front) text h piece =
    let it = and_parts (not (b == 59)) (list_all (λ x. not (x == 59)) front) h in
    piece_cons b (front ++ text) it.0 (fixed_piece front text it.1 piece)

below_128 : (b : ℕ) → nat_lt b 128 ≡ true → b < 128
below_128 b h = grind (arith, nat_tests)

fixed_ascii : (front text : List ℕ) → list_all (λ b. nat_lt b 128) front ≡ true → IsAscii text → IsAscii (front ++ text)
fixed_ascii [] text h ascii = ascii
fixed_ascii (b ∷ front) text h ascii =
    let it = and_parts (nat_lt b 128) (list_all (λ x. nat_lt x 128) front) h in
    IsAscii-cons b (front ++ text) (below_128 b it.0) (fixed_ascii front text it.1 ascii)

pub criterion_reads : (c : Criterion) → is_criterion c ≡ true → Reads criterion_of criterion_text c
criterion_reads Sibling h = record {
  again = criterion_again Sibling h;
  piece = fixed_piece (codes "sibling") [] refl no_text;
  some = omega arith;
  ascii = fixed_ascii (codes "sibling") [] refl IsAscii-nil;
}
criterion_reads Catchment h = record {
  again = criterion_again Catchment h;
  piece = fixed_piece (codes "catchment") [] refl no_text;
  some = omega arith;
  ascii = fixed_ascii (codes "catchment") [] refl IsAscii-nil;
}
criterion_reads (Within metres) h = record {
  again = criterion_again (Within metres) h;
  piece = fixed_piece (codes "within:") (decimal metres) refl (decimal_piece metres (metres_fit metres h));
  some = omega arith;
  ascii = fixed_ascii (codes "within:") (decimal metres) refl (IsAscii-decimal metres (small_enough metres (metres_fit metres h)));
}
criterion_reads (Flag flag) h = record {
  again = criterion_again (Flag flag) h;
  piece = fixed_piece (codes "flag:") (decimal flag) refl (decimal_piece flag (flag_fits flag h));
  some = omega arith;
  ascii = fixed_ascii (codes "flag:") (decimal flag) refl (IsAscii-decimal flag (small_enough flag (flag_fits flag h)));
}
criterion_reads (Feeder school) h = record {
  again = criterion_again (Feeder school) h;
  piece = fixed_piece (codes "feeder:") school refl (code_reads school h).piece;
  some = omega arith;
  ascii = fixed_ascii (codes "feeder:") school refl (code_reads school h).ascii;
}

-- ---- equality

not_true : {A : Type 0} → false ≡ true → A
not_true e = absurd (true≢false (sym e))

pub same_criterion : (x y : Criterion) → (criterion_eq.it x y ≡ true) ↔ (x ≡ y)
same_criterion x y = (equal x y, λ e. subst (λ z. criterion_eq.it x z ≡ true) e (itself x))
  where
    equal : (x y : Criterion) → criterion_eq.it x y ≡ true → x ≡ y
    equal Sibling Sibling e = refl
    equal Sibling (Within n) e = not_true e
    equal Sibling (Flag n) e = not_true e
    equal Sibling (Feeder n) e = not_true e
    equal Sibling Catchment e = not_true e
    equal Catchment Catchment e = refl
    equal Catchment Sibling e = not_true e
    equal Catchment (Within n) e = not_true e
    equal Catchment (Flag n) e = not_true e
    equal Catchment (Feeder n) e = not_true e
    equal (Within m) Catchment e = not_true e
    equal (Flag m) Catchment e = not_true e
    equal (Feeder m) Catchment e = not_true e
    equal (Within m) Sibling e = not_true e
    equal (Within m) (Within n) e = ap Within ((unsigned_Decides m n).0 e)
    equal (Within m) (Flag n) e = not_true e
    equal (Within m) (Feeder n) e = not_true e
    equal (Flag m) Sibling e = not_true e
    equal (Flag m) (Within n) e = not_true e
    equal (Flag m) (Flag n) e = ap Flag ((unsigned_Decides m n).0 e)
    equal (Flag m) (Feeder n) e = not_true e
    equal (Feeder m) Sibling e = not_true e
    equal (Feeder m) (Within n) e = not_true e
    equal (Feeder m) (Flag n) e = not_true e
    equal (Feeder m) (Feeder n) e = ap Feeder ((bytes_decides m n).0 e)

    itself : (x : Criterion) → criterion_eq.it x x ≡ true
    itself Sibling = refl
    itself Catchment = refl
    itself (Within m) = (unsigned_Decides m m).1 refl
    itself (Flag m) = (unsigned_Decides m m).1 refl
    itself (Feeder m) = (bytes_decides m m).1 refl
