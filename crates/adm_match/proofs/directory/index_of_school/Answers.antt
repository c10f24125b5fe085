use Rattle.std.specs.Ordering.{nat_cmp}
use Rattle.std.specs.Cmp.Lexicographic.{slice_cmp}
use Rattle.std.specs.FinMap.{nat_cmp-IsAntisymmetric, slice_cmp-IsAntisymmetric}
use Rattle.std.proofs.lemmas.Option.{slice_get_within}
use Rattle.adm_match.specs.declared.problem.Seats.{Seats}
use Rattle.adm_match.proofs.DirectoryLemmas.{is_there, stands}
use Rattle.adm_match.proofs.directory.index_of_school.Goals as goal

pub index_beside-requires-clause-sorted : goal.index_beside-requires-clause-sorted
index_beside-requires-clause-sorted c = c.requires.finds.sorted

pub index_beside-requires-clause-there : goal.index_beside-requires-clause-there
index_beside-requires-clause-there c =
    let key = λ (it : Seats). it.code in
    is_there key c.args.seats.now (slice_cmp nat_cmp) (slice_cmp-IsAntisymmetric nat_cmp-IsAntisymmetric) c.args.schools.now c.requires.finds c.args.school c.requires.there

pub returns-clause-at : goal.returns-clause-at
returns-clause-at c =
    let key = λ (it : Seats). it.code in
    stands key c.args.seats.now (slice_cmp nat_cmp) (slice_cmp-IsAntisymmetric nat_cmp-IsAntisymmetric) c.args.schools.now c.requires.finds c.args.school c.index_beside.result c.index_beside.ensures

pub returns-clause-within : goal.returns-clause-within
returns-clause-within c =
    let key = λ (it : Seats). it.code in
    let it = stands key c.args.seats.now (slice_cmp nat_cmp) (slice_cmp-IsAntisymmetric nat_cmp-IsAntisymmetric) c.args.schools.now c.requires.finds c.args.school c.index_beside.result c.index_beside.ensures in
    slice_get_within c.args.seats.now c.index_beside.result it.0 it.1
