-- A CHECK that is one test of the first column.
use Rattle.std.proofs.Common.{◌≡◌, ◌∙◌, ℕ, suc, ◌<◌, ◌≤◌, ◌-◌, Bool, true, List, [], ◌∷◌, length, refl, ap, sym, subst, arith, pos, slice_index_or}
use Rattle.std.specs.Prelude.{◌↔◌}
use Rattle.sqlite.specs.Term.{Term, op2, col, lit}
use Rattle.sqlite.specs.declared.types.Value.TheVariants.{Null, Int}
use Rattle.sqlite_sql.specs.declared.ops.BinaryOp.TheVariants.{Compare}
use Rattle.sqlite_sql.specs.declared.ops.CompareOp.TheVariants.{Eq}
use Rattle.sqlite.specs.Collation.TheVariants.{Binary}
use Rattle.sqlite_schema.specs.declared.code.Op.{Op}
use Rattle.sqlite_schema.specs.declared.code.Op.TheVariants as op
use Rattle.sqlite_schema.specs.Code.{op_term, term_to, term_in, terms_in}

abbrev pub one_test : Term
one_test = op2 (Compare Eq Binary) (col 1 0) (lit (Int (pos 1)))

shallow : (o : Op) → op_term (λ x. lit Null) o ≡ one_test → ⊥
shallow (op.Literal v) e = cc
shallow (op.Column slot at) e = cc
shallow (op.Unary o a) e = cc
shallow (op.Binary o a b) e = cc
shallow (op.Case t a b) e = cc

too_shallow : (nodes : List Op) (at : ℕ) → length nodes < 2 → term_in nodes at ≡ one_test → ⊥
too_shallow [] at few e = cc
too_shallow (o ∷ []) at few e = shallow (slice_index_or (o ∷ []) at (op.Literal Null)) e
too_shallow (o ∷ p ∷ more) at few e = absurd (omega arith)

first_is : (t u : Term) (ts us : List Term) → t ∷ ts ≡ u ∷ us → t ≡ u
first_is t u ts us e = cc

-- with fewer than two nodes there is no such test
pub too_few : (nodes : List Op) (roots : List ℕ) → length nodes < 2 → terms_in nodes roots ≡ one_test ∷ [] → ⊥
too_few nodes [] few e = cc
too_few nodes (root ∷ roots) few e = too_shallow nodes root few (first_is _ _ _ _ e)

-- one root is one term
pub one_root : (nodes : List Op) (roots : List ℕ) → length roots ≡ 1 → terms_in nodes roots ≡ term_in nodes (slice_index_or roots 0 0) ∷ []
one_root nodes [] one = absurd (omega arith)
one_root nodes (root ∷ []) one = refl
one_root nodes (root ∷ next ∷ roots) one = absurd (omega arith)

-- and one term is one root
pub more_roots : (nodes : List Op) (roots : List ℕ) → (length roots ≡ 1 → ⊥) → terms_in nodes roots ≡ one_test ∷ [] → ⊥
more_roots nodes [] other e = cc
more_roots nodes (root ∷ []) other e = other refl
more_roots nodes (root ∷ next ∷ roots) other e = cc

-- the test of the one term is the test of the terms
pub of_terms : (r : Bool) (nodes : List Op) (roots : List ℕ) (terms : List Term) → terms_in nodes roots ≡ terms → 2 ≤ length nodes → length roots ≡ 1
    → ((depth : ℕ) → r ≡ true ↔ (term_to nodes (suc (suc depth)) (slice_index_or roots 0 0) ≡ one_test)) → r ≡ true ↔ (terms ≡ one_test ∷ [])
of_terms r nodes roots terms shown deep one test =
    let depth : suc (suc (length nodes - 2)) ≡ length nodes = omega arith in
    let here : r ≡ true ↔ (term_in nodes (slice_index_or roots 0 0) ≡ one_test) = subst (λ d. r ≡ true ↔ (term_to nodes d (slice_index_or roots 0 0) ≡ one_test)) depth (test (length nodes - 2)) in
    let list : terms ≡ term_in nodes (slice_index_or roots 0 0) ∷ [] = sym shown ∙ one_root nodes roots one in
    (λ yes_it. list ∙ ap (λ t. t ∷ []) (here.0 yes_it), λ e. here.1 (first_is _ _ _ _ (sym list ∙ e)))
