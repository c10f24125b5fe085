use Rattle.std.proofs.Common.{◌≡◌, ◌∙◌, ◌+◌, ap, sym, subst, take, Some}
use Rattle.std.specs.BTreeMap.{get, Updates}
use Rattle.adm_types.specs.Limits.{code_cmp}
use Rattle.adm_rank.specs.declared.keys.RankKey.{RankKey}
use Rattle.adm_cutoffs.specs.Cutoffs.{later}
use Rattle.adm_cutoffs.specs.Lookups.{HasLastKeys}
use Rattle.adm_cutoffs.proofs.MapLemmas.{key_added, key_left_out}
use Rattle.adm_cutoffs.proofs.cutoffs.last_keys.Goals as goal
use Rattle.adm_cutoffs.proofs.cutoffs.last_keys.Goals.{in-Some+in_ok-insert, in_default}

pub loop-index-preserved : goal.loop-index-preserved
loop-index-preserved c =
    let s = c.args.register.now in
    let outcomes = c.args.draw.now.outcomes in
    let lots = c.as_slice-lots.result.now in
    let lot = c.index-lots-index.result in
    let index = c.loop-index.index in
    let old = c.loop-index.keys in
    elim c.match-key.branch [
      | in-Some+in_ok-insert w ↦
          let key = w.in-Some.key in
          let last : w.later-last.result ≡ later (get code_cmp old lot.school) key = w.later-last.ensures ∙ ap (λ o. later o key) (w.copied.ensures ∙ w.get.ensures.value) in
          subst (HasLastKeys s outcomes (take (index + 1) lots)) (sym w.keys-is)
          (key_added s outcomes c.args.by_child.now c.requires lots index lot key old w.insert.new.self c.loop-index-test.true c.index-lots-index.is (sym c.key_taken_in-key.ensures ∙ w.in-Some.is)
          (subst (λ (k : RankKey). Updates code_cmp old w.insert.new.self lot.school (Some k)) last w.in_ok-insert.ensures.updates) c.loop-index.invariant)
      | in_default w ↦
          subst (HasLastKeys s outcomes (take (index + 1) lots)) (sym w.keys-is)
          (key_left_out s outcomes c.args.by_child.now c.requires lots index lot old c.loop-index-test.true c.index-lots-index.is (sym c.key_taken_in-key.ensures ∙ w.in_default.is) c.loop-index.invariant)
    ]
