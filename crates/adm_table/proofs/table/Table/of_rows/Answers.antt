use Rattle.std.proofs.Common.{◌≡◌, ◌∙◌, ap, sym, subst, append-nil, map, [], ◌∷◌, ◌++◌, None}
use Rattle.std.specs.Prelude.{is_some}
use Rattle.std.specs.BTreeMap.{is_at, insert_entry}
use Rattle.std.specs.Map.{lookup, keys_of, values_of}
use Rattle.std.specs.List.{IsDistinct}
use Rattle.std.specs.List.Sorted.{IsPermutation, IsStrictlySortedBy}
use Rattle.std.specs.Ordering.{eq_by_cmp}
use Rattle.std.proofs.lemmas.List.Sorted.{IsPermutation-push_more}
use mathlib.Core.List.{append_assoc}
use Rattle.std.proofs.lemmas.List.{nil_from_length}
use Rattle.adm_table.proofs.OwnKeys.{none_of, new_entry, own_keys, two_with_one_key}
use Rattle.adm_table.proofs.table.Table.of_rows.Goals as goal

pub returns-then-contains_key-clause-repeated : goal.returns-then-contains_key-clause-repeated
returns-then-contains_key-clause-repeated g c distinct =
    let there = ap (λ k. is_some (lookup (is_at (g.K.Ord.cmp k)) c.loop-row.all)) (sym c.key-key.ensures) ∙ sym c.contains_key.ensures ∙ c.if-contains_key.true in
    let split = sym c.loop-row.invariant.split ∙ ap (λ rest. c.loop-row.yielded ++ rest) c.in-Some.ensures.steps.0 in
    two_with_one_key g.met.K.Ord.total g.V.Keyed.key c.loop-row.all c.loop-row.yielded _ c.in-Some.row c.loop-row.invariant.permuted c.loop-row.invariant.keyed there
    (subst (λ rows. IsDistinct (eq_by_cmp g.K.Ord.cmp) (map g.V.Keyed.key rows)) split distinct)

pub loop-row-preserved : goal.loop-row-preserved
loop-row-preserved g c =
    let inside = c.loop-row.invariant in
    let R = g.K.Ord.cmp in
    let es = c.loop-row.all in
    let row = c.in-Some.row in
    let absent : lookup (is_at (R (g.V.Keyed.key row))) es ≡ None =
    none_of _ (ap (λ k. is_some (lookup (is_at (R k)) es)) (sym c.key-key.ensures) ∙ sym c.contains_key.ensures ∙ c.if-contains_key.false) in
    let put : c.in_ok-all.all ≡ insert_entry R es (g.V.Keyed.key row) row =
    c.in_ok-all.ensures.rows ∙ ap (λ k. insert_entry R es k row) c.key-key.ensures in
    record {
      split = append_assoc c.loop-row.yielded (row ∷ []) c.next.new.self.rest.items ∙ ap (λ rest. c.loop-row.yielded ++ rest) (sym c.in-Some.ensures.steps.0) ∙ inside.split;
      permuted = subst (λ after. IsPermutation (c.loop-row.yielded ++ row ∷ []) (values_of after)) (sym put)
          (IsPermutation-push_more c.loop-row.yielded (values_of es) _ row inside.permuted (new_entry R es (g.V.Keyed.key row) row absent));
      keyed = subst (λ after. map g.V.Keyed.key (values_of after) ≡ keys_of after) (sym put) (own_keys R g.V.Keyed.key es row absent inside.keyed);
      ordered = c.in_ok-all.ensures.ordered;
    }

pub returns-clause-made : goal.returns-clause-made
returns-clause-made g c =
    let inside = c.loop-row.invariant in
    let R = g.K.Ord.cmp in
    let rest = c.loop-row.row-iterator.rest.items in
    let ended : rest ≡ [] = nil_from_length rest (sym c.loop-row.row-iterator.rest.ok.0 ∙ c.in-None.ensures.steps.0) in
    let whole : c.loop-row.yielded ≡ c.args.rows.items = sym (append-nil c.loop-row.yielded) ∙ ap (λ r. c.loop-row.yielded ++ r) (sym ended) ∙ inside.split in
    let kept : c.in_ok-new.field-0.value ≡ c.loop-row.all = c.in_ok-new.ensures.ok in
    subst (λ es. IsPermutation c.args.rows.items (values_of es) × (map g.V.Keyed.key (values_of es) ≡ keys_of es) × IsStrictlySortedBy R (keys_of es)) (sym kept)
    (subst (λ xs. IsPermutation xs (values_of c.loop-row.all)) whole inside.permuted, inside.keyed, inside.ordered)
