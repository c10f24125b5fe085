use Rattle.std.proofs.Common.{rules, ◌≡◌, Ok, Err, Result, IfErr}
use Rattle.adm_rows.proofs.reading.season.season_of.Goals as goal

-- what is so of an error is so of it in other words
of_error : {T E : Type 0} {P Q : E → Type 0} → ((e : E) → P e → Q e) → (r : Result T E) → IfErr r P → IfErr r Q
of_error f (Ok v) given = tt
of_error f (Err e) given = f e given

pub returns-in-len1-clause-bad : goal.returns-in-len1-clause-bad
returns-in-len1-clause-bad c = of_error (λ e given structural v season draws formed few is. given structural v season draws formed few (search rules)) c.season_in.result c.season_in.ensures.bad
