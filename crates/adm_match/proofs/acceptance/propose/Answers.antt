-- The entrant proposes to the next school of its list, which holds it, and may reject one.
use Rattle.std.proofs.Common.{◌<◌, List, None, Some, length, ap, sym, subst, arith, rules}
use Rattle.std.proofs.lemmas.Option.{slice_get_within}
use Rattle.adm_match.specs.Market.{market_of, is_tenant}
use Rattle.adm_match.specs.Holding.{Holding}
use Rattle.adm_match.specs.Queue.{Turned}
use Rattle.adm_match.proofs.SideBySide.{element_at}
use Rattle.adm_match.proofs.Turning.{leaving, turn_holds, turn_rejects}
use Rattle.adm_match.proofs.NextTurn.{ahead_of, place_within, seated_at, coming_of, considers_as, row_listed}
use Rattle.adm_match.proofs.acceptance.propose.Goals as goal

pub of-at-requires : goal.of-at-requires
of-at-requires c =
    let m = market_of c.args.entrants.now c.args.seats.now in
    let w = c.index-wish.result.now in
    let ahead = ahead_of m c.args.rows.now c.args.index c.index-entrants-index.result c.entrant.inside.list.items c.index-rows-index.result w c.requires.free
    c.index-entrants-index.is (ap (λ e. e.list) c.entrant.view_is) c.index-rows-index.is c.index-wish.ensures in
    place_within m c.args.rows.now c.args.places.now c.args.index c.index-entrants-index.result c.index-rows-index.result w c.index-places-index.result c.requires.placed ahead
    c.index-places-index.is

pub consider_at-requires : goal.consider_at-requires
consider_at-requires c =
    let m = market_of c.args.entrants.now c.args.seats.now in
    let w = c.index-wish.result.now in
    let ahead = ahead_of m c.args.rows.now c.args.index c.index-entrants-index.result c.entrant.inside.list.items c.index-rows-index.result w c.requires.free
    c.index-entrants-index.is (ap (λ e. e.list) c.entrant.view_is) c.index-rows-index.is c.index-wish.ensures in
    let stands = seated_at m c.args.rows.now c.args.places.now c.args.index c.index-entrants-index.result c.index-rows-index.result w c.index-places-index.result c.requires.placed
    ahead c.index-places-index.is c.of-at.result c.of-at.ensures in
    omega (arith, slice_get_within m.seats c.of-at.result stands.0 stands.1, c.requires.mirrored.same)

pub hold-requires : goal.hold-requires
hold-requires c =
    let free = c.requires.free in
    slice_get_within c.args.rows.now c.args.index free.1 free.3

pub returns-in_default : goal.returns-in_default
returns-in_default c =
    let m = market_of c.args.entrants.now c.args.seats.now in
    let w = c.index-wish.result.now in
    let ahead = ahead_of m c.args.rows.now c.args.index c.index-entrants-index.result c.entrant.inside.list.items c.index-rows-index.result w c.requires.free
    c.index-entrants-index.is (ap (λ e. e.list) c.entrant.view_is) c.index-rows-index.is c.index-wish.ensures in
    let stands = seated_at m c.args.rows.now c.args.places.now c.args.index c.index-entrants-index.result c.index-rows-index.result w c.index-places-index.result c.requires.placed
    ahead c.index-places-index.is c.of-at.result c.of-at.ensures in
    let old = element_at c.args.schools.now c.of-at.result (omega (arith, slice_get_within m.seats c.of-at.result stands.0 stands.1, c.requires.mirrored.same)) in
    let took = c.in_ok-out.ensures.ok old.0 old.1 in
    let coming = coming_of m c.args.rows.now c.args.schools.now c.args.index c.of-at.result c.index-entrants-index.result c.index-rows-index.result w old.0
    ahead c.requires.distinct c.requires.seated c.requires.sound c.requires.mirrored stands old.1 in
    let mid_is = c.hold.ensures c.index-rows-index.result ahead.row in
    let considers = considers_as old.0 took.0 c.args.index w.key c.is_tenant_of-tenant.result
    (is_tenant c.index-entrants-index.result w.school) c.in_ok-out.out None c.is_tenant_of-tenant.ensures c.in_default.is took.2 in
    subst (λ (x : List Holding). Turned m c.args.rows.now c.hold.new.rows x c.args.index None) (sym took.1)
    (turn_holds m c.args.rows.now c.hold.new.rows c.args.schools.now c.args.index c.of-at.result c.index-entrants-index.result c.index-rows-index.result w
    stands.0 old.0 took.0 coming mid_is considers)

pub bounds-entrants-rejected : goal.bounds-entrants-rejected
bounds-entrants-rejected c =
    let m = market_of c.args.entrants.now c.args.seats.now in
    let w = c.index-wish.result.now in
    let ahead = ahead_of m c.args.rows.now c.args.index c.index-entrants-index.result c.entrant.inside.list.items c.index-rows-index.result w c.requires.free
    c.index-entrants-index.is (ap (λ e. e.list) c.entrant.view_is) c.index-rows-index.is c.index-wish.ensures in
    let stands = seated_at m c.args.rows.now c.args.places.now c.args.index c.index-entrants-index.result c.index-rows-index.result w c.index-places-index.result c.requires.placed
    ahead c.index-places-index.is c.of-at.result c.of-at.ensures in
    let old = element_at c.args.schools.now c.of-at.result (omega (arith, slice_get_within m.seats c.of-at.result stands.0 stands.1, c.requires.mirrored.same)) in
    let took = c.in_ok-out.ensures.ok old.0 old.1 in
    let coming = coming_of m c.args.rows.now c.args.schools.now c.args.index c.of-at.result c.index-entrants-index.result c.index-rows-index.result w old.0
    ahead c.requires.distinct c.requires.seated c.requires.sound c.requires.mirrored stands old.1 in
    let mid_is = c.hold.ensures c.index-rows-index.result ahead.row in
    let considers = considers_as old.0 took.0 c.args.index w.key c.is_tenant_of-tenant.result
    (is_tenant c.index-entrants-index.result w.school) c.in_ok-out.out (Some c.in-Some.rejected) c.is_tenant_of-tenant.ensures c.in-Some.is took.2 in
    let gone = leaving m c.args.rows.now c.hold.new.rows c.args.schools.now c.args.index c.of-at.result c.index-entrants-index.result
    c.index-rows-index.result w stands.0 old.0 took.0 c.in-Some.rejected coming mid_is considers in
    slice_get_within m.entrants c.in-Some.rejected gone.last.0 gone.last.1.0

pub offset_bounds-entrants-rejected : goal.offset_bounds-entrants-rejected
offset_bounds-entrants-rejected c =
    let m = market_of c.args.entrants.now c.args.seats.now in
    let w = c.index-wish.result.now in
    let ahead = ahead_of m c.args.rows.now c.args.index c.index-entrants-index.result c.entrant.inside.list.items c.index-rows-index.result w c.requires.free
    c.index-entrants-index.is (ap (λ e. e.list) c.entrant.view_is) c.index-rows-index.is c.index-wish.ensures in
    let stands = seated_at m c.args.rows.now c.args.places.now c.args.index c.index-entrants-index.result c.index-rows-index.result w c.index-places-index.result c.requires.placed
    ahead c.index-places-index.is c.of-at.result c.of-at.ensures in
    let old = element_at c.args.schools.now c.of-at.result (omega (arith, slice_get_within m.seats c.of-at.result stands.0 stands.1, c.requires.mirrored.same)) in
    let took = c.in_ok-out.ensures.ok old.0 old.1 in
    let coming = coming_of m c.args.rows.now c.args.schools.now c.args.index c.of-at.result c.index-entrants-index.result c.index-rows-index.result w old.0
    ahead c.requires.distinct c.requires.seated c.requires.sound c.requires.mirrored stands old.1 in
    let mid_is = c.hold.ensures c.index-rows-index.result ahead.row in
    let considers = considers_as old.0 took.0 c.args.index w.key c.is_tenant_of-tenant.result
    (is_tenant c.index-entrants-index.result w.school) c.in_ok-out.out (Some c.in-Some.rejected) c.is_tenant_of-tenant.ensures c.in-Some.is took.2 in
    let gone = leaving m c.args.rows.now c.hold.new.rows c.args.schools.now c.args.index c.of-at.result c.index-entrants-index.result
    c.index-rows-index.result w stands.0 old.0 took.0 c.in-Some.rejected coming mid_is considers in
    let below : c.in-Some.rejected < length c.args.entrants.now = slice_get_within m.entrants c.in-Some.rejected gone.last.0 gone.last.1.0 in
    search rules

pub reject-requires-clause-at : goal.reject-requires-clause-at
reject-requires-clause-at c =
    let m = market_of c.args.entrants.now c.args.seats.now in
    let w = c.index-wish.result.now in
    let ahead = ahead_of m c.args.rows.now c.args.index c.index-entrants-index.result c.entrant.inside.list.items c.index-rows-index.result w c.requires.free
    c.index-entrants-index.is (ap (λ e. e.list) c.entrant.view_is) c.index-rows-index.is c.index-wish.ensures in
    let stands = seated_at m c.args.rows.now c.args.places.now c.args.index c.index-entrants-index.result c.index-rows-index.result w c.index-places-index.result c.requires.placed
    ahead c.index-places-index.is c.of-at.result c.of-at.ensures in
    let old = element_at c.args.schools.now c.of-at.result (omega (arith, slice_get_within m.seats c.of-at.result stands.0 stands.1, c.requires.mirrored.same)) in
    let took = c.in_ok-out.ensures.ok old.0 old.1 in
    let coming = coming_of m c.args.rows.now c.args.schools.now c.args.index c.of-at.result c.index-entrants-index.result c.index-rows-index.result w old.0
    ahead c.requires.distinct c.requires.seated c.requires.sound c.requires.mirrored stands old.1 in
    let mid_is = c.hold.ensures c.index-rows-index.result ahead.row in
    let considers = considers_as old.0 took.0 c.args.index w.key c.is_tenant_of-tenant.result
    (is_tenant c.index-entrants-index.result w.school) c.in_ok-out.out (Some c.in-Some.rejected) c.is_tenant_of-tenant.ensures c.in-Some.is took.2 in
    let gone = leaving m c.args.rows.now c.hold.new.rows c.args.schools.now c.args.index c.of-at.result c.index-entrants-index.result
    c.index-rows-index.result w stands.0 old.0 took.0 c.in-Some.rejected coming mid_is considers in
    slice_get_within c.hold.new.rows c.in-Some.rejected gone.last.1.1.0 gone.last.1.1.1

pub reject-requires-clause-listed : goal.reject-requires-clause-listed
reject-requires-clause-listed c =
    let m = market_of c.args.entrants.now c.args.seats.now in
    let w = c.index-wish.result.now in
    let ahead = ahead_of m c.args.rows.now c.args.index c.index-entrants-index.result c.entrant.inside.list.items c.index-rows-index.result w c.requires.free
    c.index-entrants-index.is (ap (λ e. e.list) c.entrant.view_is) c.index-rows-index.is c.index-wish.ensures in
    let stands = seated_at m c.args.rows.now c.args.places.now c.args.index c.index-entrants-index.result c.index-rows-index.result w c.index-places-index.result c.requires.placed
    ahead c.index-places-index.is c.of-at.result c.of-at.ensures in
    let old = element_at c.args.schools.now c.of-at.result (omega (arith, slice_get_within m.seats c.of-at.result stands.0 stands.1, c.requires.mirrored.same)) in
    let took = c.in_ok-out.ensures.ok old.0 old.1 in
    let coming = coming_of m c.args.rows.now c.args.schools.now c.args.index c.of-at.result c.index-entrants-index.result c.index-rows-index.result w old.0
    ahead c.requires.distinct c.requires.seated c.requires.sound c.requires.mirrored stands old.1 in
    let mid_is = c.hold.ensures c.index-rows-index.result ahead.row in
    let considers = considers_as old.0 took.0 c.args.index w.key c.is_tenant_of-tenant.result
    (is_tenant c.index-entrants-index.result w.school) c.in_ok-out.out (Some c.in-Some.rejected) c.is_tenant_of-tenant.ensures c.in-Some.is took.2 in
    let gone = leaving m c.args.rows.now c.hold.new.rows c.args.schools.now c.args.index c.of-at.result c.index-entrants-index.result
    c.index-rows-index.result w stands.0 old.0 took.0 c.in-Some.rejected coming mid_is considers in
    row_listed m c.args.rows.now c.hold.new.rows c.args.schools.now c.args.index c.of-at.result c.index-entrants-index.result c.index-rows-index.result w
    stands.0 old.0 c.in-Some.rejected coming mid_is gone.last c.index-entrants-rejected.result c.index-entrants-rejected.is

pub returns : goal.returns
returns c =
    let m = market_of c.args.entrants.now c.args.seats.now in
    let w = c.index-wish.result.now in
    let ahead = ahead_of m c.args.rows.now c.args.index c.index-entrants-index.result c.entrant.inside.list.items c.index-rows-index.result w c.requires.free
    c.index-entrants-index.is (ap (λ e. e.list) c.entrant.view_is) c.index-rows-index.is c.index-wish.ensures in
    let stands = seated_at m c.args.rows.now c.args.places.now c.args.index c.index-entrants-index.result c.index-rows-index.result w c.index-places-index.result c.requires.placed
    ahead c.index-places-index.is c.of-at.result c.of-at.ensures in
    let old = element_at c.args.schools.now c.of-at.result (omega (arith, slice_get_within m.seats c.of-at.result stands.0 stands.1, c.requires.mirrored.same)) in
    let took = c.in_ok-out.ensures.ok old.0 old.1 in
    let coming = coming_of m c.args.rows.now c.args.schools.now c.args.index c.of-at.result c.index-entrants-index.result c.index-rows-index.result w old.0
    ahead c.requires.distinct c.requires.seated c.requires.sound c.requires.mirrored stands old.1 in
    let mid_is = c.hold.ensures c.index-rows-index.result ahead.row in
    let considers = considers_as old.0 took.0 c.args.index w.key c.is_tenant_of-tenant.result
    (is_tenant c.index-entrants-index.result w.school) c.in_ok-out.out (Some c.in-Some.rejected) c.is_tenant_of-tenant.ensures c.in-Some.is took.2 in
    let gone = leaving m c.args.rows.now c.hold.new.rows c.args.schools.now c.args.index c.of-at.result c.index-entrants-index.result
    c.index-rows-index.result w stands.0 old.0 took.0 c.in-Some.rejected coming mid_is considers in
    subst (λ (x : List Holding). Turned m c.args.rows.now c.reject.new.rows x c.args.index (Some c.in-Some.rejected)) (sym took.1)
    (turn_rejects m c.args.rows.now c.hold.new.rows c.reject.new.rows c.args.schools.now c.args.index c.of-at.result c.index-entrants-index.result
    c.index-rows-index.result w stands.0 old.0 took.0 c.in-Some.rejected coming mid_is considers gone (c.reject.ensures gone.last.1.1.0 gone.last.1.1.1))
