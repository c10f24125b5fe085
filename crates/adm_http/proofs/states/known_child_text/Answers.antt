use Rattle.adm_register.specs.Rows.{place_of}
use Rattle.adm_register.specs.Waits.{standings_of}
use Rattle.adm_http.specs.States.{place_json, waits_json}
use Rattle.adm_http.proofs.StateLemmas.{state_whole}
use Rattle.adm_http.proofs.states.known_child_text.Goals as goal

pub returns : goal.returns
returns c =
    let place = rw c.place.ensures at c.in_ok-put_place.ensures in
    let waits = rw (c.deref.ensures.value, c.in_ok-waits.ensures) at c.in_ok-put_waits.ensures in
    state_whole _ _ _ _ _ _ c.args.child (place_json (place_of c.args.register.now c.args.child)) (waits_json (standings_of c.args.register.now c.args.child)) c.new-text.ensures.bytes
    c.in_ok-put_head.ensures place c.in_ok-push_str.ensures.bytes waits c.in_ok-push_str-2.ensures.bytes
