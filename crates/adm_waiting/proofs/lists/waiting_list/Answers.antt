use Rattle.std.proofs.Common.{◌≡◌, ◌∙◌, sym, subst, List, map}
use Rattle.std.specs.Prelude.{IsPermutation, IsSorted, All}
use Rattle.std.proofs.lemmas.Result.{MatchResult-weaker}
use Rattle.adm_waiting.specs.declared.ranks.Rank.{Rank}
use Rattle.adm_waiting.specs.Waiting.{IsEntryFor}
use Rattle.adm_waiting.specs.Ranks.{rank_of, rank_cmp, IsRankInRange}
use Rattle.adm_waiting.proofs.Positions.{same_entries, each_entry}
use Rattle.adm_waiting.proofs.lists.waiting_list.Goals as goal

moved : (ranks rows kept sorted : List Rank) → rows ≡ ranks → IsPermutation rows kept → sorted ≡ kept → IsPermutation ranks sorted
moved ranks rows kept sorted made same is = subst (λ l. IsPermutation l sorted) made (subst (IsPermutation rows) (sym is) same)

pub returns-clause-value : goal.returns-clause-value
returns-clause-value c =
    let same = moved (map (rank_of c.args.school.now) c.args.children.now) c.in_ok-ranks.ranks.items c.sort_unstable.new.self.items c.deref.result.now
    c.in_ok-ranks.ensures.value c.sort_unstable.ensures.permutation c.deref.ensures.value in
    MatchResult-weaker c.entries_of.result c.entries_of.ensures
    (λ list made. made ∙ same_entries c.args.school.now c.args.children.now c.deref.result.now same
    (subst (IsSorted rank_cmp) (sym c.deref.ensures.value) c.sort_unstable.ensures.sorted) c.requires.numbers)
    (λ e _. tt)

pub returns-clause-entries : goal.returns-clause-entries
returns-clause-entries c =
    let same = moved (map (rank_of c.args.school.now) c.args.children.now) c.in_ok-ranks.ranks.items c.sort_unstable.new.self.items c.deref.result.now
    c.in_ok-ranks.ensures.value c.sort_unstable.ensures.permutation c.deref.ensures.value in
    MatchResult-weaker c.entries_of.result c.entries_of.ensures
    (λ list made. subst (All (IsEntryFor c.args.children.now)) (sym made)
    (each_entry c.args.school.now c.args.children.now c.deref.result.now same (subst (All IsRankInRange) c.in_ok-ranks.ensures.value c.in_ok-ranks.ensures.in_range))) (λ e _. tt)
