use Rattle.std.proofs.Common.{◌≡◌, ℕ, suc, List, [], ◌∷◌, ◌<◌, true, refl, get_or, Fits, w32, arith}
use Rattle.std.specs.Prelude.{nat_lt}
use Rattle.std.specs.List.{list_all}
use Rattle.std.proofs.lemmas.Bool.{lt-ltb}
use Rattle.adm_commands.proofs.kept.are_lots.Goals as goal

each_fits : (lots : List ℕ) → ((i : ℕ) → Fits w32 (get_or lots i 0)) → list_all (λ number. nat_lt number 4294967296) lots ≡ true
each_fits [] fits = refl
each_fits (lot ∷ lots) fits =
    let below : lot < 4294967296 = omega (arith, fits 0) in
    let here : nat_lt lot 4294967296 ≡ true = lt-ltb lot 4294967296 below in
    rw here (each_fits lots (λ i. fits (suc i)))

pub returns : goal.returns
returns c = each_fits c.args.lots.now c.type_inv.lots
