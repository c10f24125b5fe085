use Rattle.std.proofs.Common.{refl}
use Rattle.matchit.proofs.OnLiterals.{matchit_on_literals}
use Rattle.adm_http.specs.Routes.{all_routes}
use Rattle.adm_http.proofs.routes.all_routes.Goals as goal

pub add-requires : goal.add-requires
unfolding matchit_on_literals
add-requires c = rw c.new-router.ensures refl

pub add-requires-2 : goal.add-requires-2
unfolding matchit_on_literals
add-requires-2 c = let a = c.in_ok-add.ensures in rw (a.1, c.new-router.ensures) refl

pub add-requires-3 : goal.add-requires-3
unfolding matchit_on_literals
add-requires-3 c =
    let a = c.in_ok-add.ensures in
    let b = c.in_ok-add-2.ensures in
    rw (b.1, a.1, c.new-router.ensures) refl

pub add-requires-4 : goal.add-requires-4
unfolding matchit_on_literals
add-requires-4 c =
    let a = c.in_ok-add.ensures in
    let b = c.in_ok-add-2.ensures in
    let d = c.in_ok-add-3.ensures in
    rw (d.1, b.1, a.1, c.new-router.ensures) refl

pub add-requires-5 : goal.add-requires-5
unfolding matchit_on_literals
add-requires-5 c =
    let a = c.in_ok-add.ensures in
    let b = c.in_ok-add-2.ensures in
    let d = c.in_ok-add-3.ensures in
    let e = c.in_ok-add-4.ensures in
    rw (e.1, d.1, b.1, a.1, c.new-router.ensures) refl

pub add-requires-6 : goal.add-requires-6
unfolding matchit_on_literals
add-requires-6 c =
    let a = c.in_ok-add.ensures in
    let b = c.in_ok-add-2.ensures in
    let d = c.in_ok-add-3.ensures in
    let e = c.in_ok-add-4.ensures in
    let f = c.in_ok-add-5.ensures in
    rw (f.1, e.1, d.1, b.1, a.1, c.new-router.ensures) refl

pub add-requires-7 : goal.add-requires-7
unfolding matchit_on_literals
add-requires-7 c =
    let a = c.in_ok-add.ensures in
    let b = c.in_ok-add-2.ensures in
    let d = c.in_ok-add-3.ensures in
    let e = c.in_ok-add-4.ensures in
    let f = c.in_ok-add-5.ensures in
    let h = c.in_ok-add-6.ensures in
    rw (h.1, f.1, e.1, d.1, b.1, a.1, c.new-router.ensures) refl

pub add-requires-8 : goal.add-requires-8
unfolding matchit_on_literals
add-requires-8 c =
    let a = c.in_ok-add.ensures in
    let b = c.in_ok-add-2.ensures in
    let d = c.in_ok-add-3.ensures in
    let e = c.in_ok-add-4.ensures in
    let f = c.in_ok-add-5.ensures in
    let h = c.in_ok-add-6.ensures in
    let i = c.in_ok-add-7.ensures in
    rw (i.1, h.1, f.1, e.1, d.1, b.1, a.1, c.new-router.ensures) refl

pub add-requires-9 : goal.add-requires-9
unfolding matchit_on_literals
add-requires-9 c =
    let a = c.in_ok-add.ensures in
    let b = c.in_ok-add-2.ensures in
    let d = c.in_ok-add-3.ensures in
    let e = c.in_ok-add-4.ensures in
    let f = c.in_ok-add-5.ensures in
    let h = c.in_ok-add-6.ensures in
    let i = c.in_ok-add-7.ensures in
    let j = c.in_ok-add-8.ensures in
    rw (j.1, i.1, h.1, f.1, e.1, d.1, b.1, a.1, c.new-router.ensures) refl

pub add-requires-10 : goal.add-requires-10
unfolding matchit_on_literals
add-requires-10 c =
    let a = c.in_ok-add.ensures in
    let b = c.in_ok-add-2.ensures in
    let d = c.in_ok-add-3.ensures in
    let e = c.in_ok-add-4.ensures in
    let f = c.in_ok-add-5.ensures in
    let h = c.in_ok-add-6.ensures in
    let i = c.in_ok-add-7.ensures in
    let j = c.in_ok-add-8.ensures in
    let k = c.in_ok-add-9.ensures in
    rw (k.1, j.1, i.1, h.1, f.1, e.1, d.1, b.1, a.1, c.new-router.ensures) refl

pub add-requires-11 : goal.add-requires-11
unfolding matchit_on_literals
add-requires-11 c =
    let a = c.in_ok-add.ensures in
    let b = c.in_ok-add-2.ensures in
    let d = c.in_ok-add-3.ensures in
    let e = c.in_ok-add-4.ensures in
    let f = c.in_ok-add-5.ensures in
    let h = c.in_ok-add-6.ensures in
    let i = c.in_ok-add-7.ensures in
    let j = c.in_ok-add-8.ensures in
    let k = c.in_ok-add-9.ensures in
    let l = c.in_ok-add-10.ensures in
    rw (l.1, k.1, j.1, i.1, h.1, f.1, e.1, d.1, b.1, a.1, c.new-router.ensures) refl

pub add-requires-12 : goal.add-requires-12
unfolding matchit_on_literals
add-requires-12 c =
    let a = c.in_ok-add.ensures in
    let b = c.in_ok-add-2.ensures in
    let d = c.in_ok-add-3.ensures in
    let e = c.in_ok-add-4.ensures in
    let f = c.in_ok-add-5.ensures in
    let h = c.in_ok-add-6.ensures in
    let i = c.in_ok-add-7.ensures in
    let j = c.in_ok-add-8.ensures in
    let k = c.in_ok-add-9.ensures in
    let l = c.in_ok-add-10.ensures in
    let m = c.in_ok-add-11.ensures in
    rw (m.1, l.1, k.1, j.1, i.1, h.1, f.1, e.1, d.1, b.1, a.1, c.new-router.ensures) refl

pub add-requires-13 : goal.add-requires-13
unfolding matchit_on_literals
add-requires-13 c =
    let a = c.in_ok-add.ensures in
    let b = c.in_ok-add-2.ensures in
    let d = c.in_ok-add-3.ensures in
    let e = c.in_ok-add-4.ensures in
    let f = c.in_ok-add-5.ensures in
    let h = c.in_ok-add-6.ensures in
    let i = c.in_ok-add-7.ensures in
    let j = c.in_ok-add-8.ensures in
    let k = c.in_ok-add-9.ensures in
    let l = c.in_ok-add-10.ensures in
    let m = c.in_ok-add-11.ensures in
    let n = c.in_ok-add-12.ensures in
    rw (n.1, m.1, l.1, k.1, j.1, i.1, h.1, f.1, e.1, d.1, b.1, a.1, c.new-router.ensures) refl

pub returns : goal.returns
unfolding matchit_on_literals all_routes
returns c =
    let a = c.in_ok-add.ensures in
    let b = c.in_ok-add-2.ensures in
    let d = c.in_ok-add-3.ensures in
    let e = c.in_ok-add-4.ensures in
    let f = c.in_ok-add-5.ensures in
    let h = c.in_ok-add-6.ensures in
    let i = c.in_ok-add-7.ensures in
    let j = c.in_ok-add-8.ensures in
    let k = c.in_ok-add-9.ensures in
    let l = c.in_ok-add-10.ensures in
    let m = c.in_ok-add-11.ensures in
    let n = c.in_ok-add-12.ensures in
    let o = c.in_ok-add-13.ensures in
    rw (o.1, n.1, m.1, l.1, k.1, j.1, i.1, h.1, f.1, e.1, d.1, b.1, a.1, c.new-router.ensures) refl
