use Rattle.std.proofs.Common.{◌∙◌, inl, sym}
use Rattle.adm_match.proofs.Ready.{still_placed}
use Rattle.adm_match.proofs.WhatIfs.{reported, told_fault, told_distinct, told_seated, told_answer, told_gain}
use Rattle.adm_match.proofs.what_ifs.what_if.Goals as goal

pub returns-in-Some-clause-fault : goal.returns-in-Some-clause-fault
returns-in-Some-clause-fault c =
    inl (told_fault c.args.problem.now c.args.child c.args.schools.now c.problem.inside.entrants.items c.problem.inside.seats.items c.deref.result.now c.in_ok-fault.fault
    c.problem.view_is c.deref.ensures.value c.in_ok-fault.ensures ∙ c.in-Some.is)

pub places_of-requires : goal.places_of-requires
places_of-requires c =
    let in' = c.problem.inside in
    let t = reported c.args.problem.now c.args.child c.args.schools.now in'.entrants.items in'.seats.items c.deref.result.now c.deref-2.result.now
    c.in_ok-entrants.entrants.items c.deref-3.result.now c.deref-4.result.now c.in_ok-fault.fault c.problem.view_is c.problem.invariant.0 c.deref.ensures.value
    c.in_ok-fault.ensures c.in_default.is c.deref-2.ensures.value c.in_ok-entrants.ensures c.deref-3.ensures.value c.deref-4.ensures.value in
    told_seated c.args.problem.now c.args.child c.args.schools.now c.deref-3.result.now c.deref-4.result.now t

pub allot-requires-clause-placed : goal.allot-requires-clause-placed
allot-requires-clause-placed c =
    still_placed c.deref-3.result.now c.deref-5.result.now c.deref-4.result.now c.deref-6.result.now c.in_ok-places.places.items c.deref-7.result.now c.in_ok-places.ensures
    (c.deref-5.ensures.value ∙ sym c.deref-3.ensures.value) (c.deref-6.ensures.value ∙ sym c.deref-4.ensures.value) c.deref-7.ensures.value

pub allot-requires-clause-distinct : goal.allot-requires-clause-distinct
allot-requires-clause-distinct c =
    let in' = c.problem.inside in
    let t = reported c.args.problem.now c.args.child c.args.schools.now in'.entrants.items in'.seats.items c.deref.result.now c.deref-2.result.now
    c.in_ok-entrants.entrants.items c.deref-5.result.now c.deref-6.result.now c.in_ok-fault.fault c.problem.view_is c.problem.invariant.0 c.deref.ensures.value
    c.in_ok-fault.ensures c.in_default.is c.deref-2.ensures.value c.in_ok-entrants.ensures c.deref-5.ensures.value c.deref-6.ensures.value in
    told_distinct c.args.problem.now c.args.child c.args.schools.now c.deref-5.result.now c.deref-6.result.now t

pub allot-requires-clause-seated : goal.allot-requires-clause-seated
allot-requires-clause-seated c =
    let in' = c.problem.inside in
    let t = reported c.args.problem.now c.args.child c.args.schools.now in'.entrants.items in'.seats.items c.deref.result.now c.deref-2.result.now
    c.in_ok-entrants.entrants.items c.deref-5.result.now c.deref-6.result.now c.in_ok-fault.fault c.problem.view_is c.problem.invariant.0 c.deref.ensures.value
    c.in_ok-fault.ensures c.in_default.is c.deref-2.ensures.value c.in_ok-entrants.ensures c.deref-5.ensures.value c.deref-6.ensures.value in
    told_seated c.args.problem.now c.args.child c.args.schools.now c.deref-5.result.now c.deref-6.result.now t

pub returns-clause-school : goal.returns-clause-school
returns-clause-school c =
    let in' = c.problem.inside in
    let t = reported c.args.problem.now c.args.child c.args.schools.now in'.entrants.items in'.seats.items c.deref.result.now c.deref-2.result.now
    c.in_ok-entrants.entrants.items c.deref-5.result.now c.deref-6.result.now c.in_ok-fault.fault c.problem.view_is c.problem.invariant.0 c.deref.ensures.value
    c.in_ok-fault.ensures c.in_default.is c.deref-2.ensures.value c.in_ok-entrants.ensures c.deref-5.ensures.value c.deref-6.ensures.value in
    told_answer c.args.problem.now c.args.child c.args.schools.now c.deref-5.result.now c.deref-6.result.now c.in_ok-offers.offers c.of.result t c.in_ok-offers.ensures.best c.of.ensures

pub returns-clause-no_gain : goal.returns-clause-no_gain
returns-clause-no_gain c =
    let in' = c.problem.inside in
    let t = reported c.args.problem.now c.args.child c.args.schools.now in'.entrants.items in'.seats.items c.deref.result.now c.deref-2.result.now
    c.in_ok-entrants.entrants.items c.deref-5.result.now c.deref-6.result.now c.in_ok-fault.fault c.problem.view_is c.problem.invariant.0 c.deref.ensures.value
    c.in_ok-fault.ensures c.in_default.is c.deref-2.ensures.value c.in_ok-entrants.ensures c.deref-5.ensures.value c.deref-6.ensures.value in
    told_gain c.args.problem.now c.args.child c.args.schools.now c.deref-5.result.now c.deref-6.result.now c.in_ok-offers.offers c.of.result t c.in_ok-offers.ensures.best c.of.ensures
