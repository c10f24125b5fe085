use Rattle.std.proofs.Common.{◌≡◌, ◌∙◌, ap, ◌-◌, ◌≤◌, List, ℕ, map, take, drop, length, length-drop, arith}
use Rattle.std.specs.Prelude.{count_by}
use Rattle.std.proofs.lemmas.List.{take_all}
use Rattle.std.proofs.lemmas.Result.{IfOk-weaker}
use Rattle.adm_types.specs.declared.rows.LeftPair.{LeftPair}
use Rattle.adm_view.specs.Left.{is_below, is_upto}
use Rattle.adm_view.proofs.Left.{between, fewer}
use Rattle.adm_view.proofs.children.left_by.Goals as goal

-- the part between the two counts is that of the child
own_part : (child : ℕ) (pairs : List LeftPair) (start end : ℕ) → start ≡ count_by (is_below child) pairs → end ≡ count_by (is_upto child) pairs
    → take (end - start) (take (length pairs - start) (drop start pairs)) ≡ take (count_by (is_upto child) pairs - count_by (is_below child) pairs) (drop (count_by (is_below child) pairs) pairs)
own_part child pairs start end first last =
    ap (take (end - start)) (take_all (length pairs - start) (drop start pairs) (omega (arith, length-drop start pairs))) ∙ (λ i. take (last i - first i) (drop (first i) pairs))

in_turn : (m n start end : ℕ) → m ≤ n → start ≡ m → end ≡ n → start ≤ end
in_turn m n start end low first last = omega arith

pub slice_bounds-codes_of-count : goal.slice_bounds-codes_of-count
slice_bounds-codes_of-count c =
    in_turn (count_by (is_below c.args.child) c.args.left.now) (count_by (is_upto c.args.child) c.args.left.now) c.count_below-start.result c.count_upto-end.result
    (fewer c.args.child c.args.left.now) c.count_below-start.ensures.value c.count_upto-end.ensures.value

pub returns : goal.returns
returns c =
    IfOk-weaker c.codes_of.result _ _ (λ codes made. made ∙ ap (map (λ (pair : LeftPair). pair.school))
    (own_part c.args.child c.args.left.now c.count_below-start.result c.count_upto-end.result c.count_below-start.ensures.value c.count_upto-end.ensures.value
    ∙ between c.args.child c.args.left.now c.requires)) c.codes_of.ensures
