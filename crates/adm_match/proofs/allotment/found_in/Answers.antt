-- The rows are halved at the first that is of no smaller child.
use Rattle.std.proofs.Common.{◌∙◌, sym, refl, length, ltb, rules}
use Rattle.std.proofs.lemmas.Option.{slice_get_read}
use Rattle.std.proofs.lemmas.List.Sorted.{IsNonDecreasingBy-from_sort, IsPartitionedBy-ltb, IsPartitionPoint-from_clause}
use Rattle.adm_match.specs.declared.progress.Progress.{Progress}
use Rattle.adm_match.proofs.Offered.{first_there, none_there, none_left}
use Rattle.adm_match.proofs.allotment.found_in.Goals as goal

pub returns-in_default : goal.returns-in_default
returns-in_default c =
    let rows = c.args.rows.now in
    let at = c.partition_point-at.result in
    let parted = IsPartitionedBy-ltb (λ (row : Progress). row.child) rows c.args.child (IsNonDecreasingBy-from_sort (λ (row : Progress). row.child) rows c.requires) in
    let point = IsPartitionPoint-from_clause (λ (row : Progress). ltb row.child c.args.child) rows at c.partition_point-at.ensures.partitioned parted
    (λ a r f called. search rules) in
    sym (none_left rows c.args.child at c.requires point c.in_default.ensures.lookup.3)

pub returns-then-eq : goal.returns-then-eq
returns-then-eq c =
    let rows = c.args.rows.now in
    let at = c.partition_point-at.result in
    let parted = IsPartitionedBy-ltb (λ (row : Progress). row.child) rows c.args.child (IsNonDecreasingBy-from_sort (λ (row : Progress). row.child) rows c.requires) in
    let point = IsPartitionPoint-from_clause (λ (row : Progress). ltb row.child c.args.child) rows at c.partition_point-at.ensures.partitioned parted
    (λ a r f called. search rules) in
    let here = slice_get_read rows (length rows) at c.in-Some.row.now refl c.in-Some.ensures.lookup.3.0 c.in-Some.ensures.lookup.1 in
    sym (first_there rows c.args.child at c.requires point c.in-Some.row.now here (sym c.eq.ensures ∙ c.if-eq.true))

pub returns-else-eq : goal.returns-else-eq
returns-else-eq c =
    let rows = c.args.rows.now in
    let at = c.partition_point-at.result in
    let parted = IsPartitionedBy-ltb (λ (row : Progress). row.child) rows c.args.child (IsNonDecreasingBy-from_sort (λ (row : Progress). row.child) rows c.requires) in
    let point = IsPartitionPoint-from_clause (λ (row : Progress). ltb row.child c.args.child) rows at c.partition_point-at.ensures.partitioned parted
    (λ a r f called. search rules) in
    let here = slice_get_read rows (length rows) at c.in-Some.row.now refl c.in-Some.ensures.lookup.3.0 c.in-Some.ensures.lookup.1 in
    sym (none_there rows c.args.child at c.requires point c.in-Some.row.now here (sym c.eq.ensures ∙ c.if-eq.false))
