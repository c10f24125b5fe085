use Rattle.std.proofs.Common.{◌≡◌, ◌+◌, ◌++◌, ◌∷◌, pos, take, sym, subst, arith}
use Rattle.sqlite.specs.declared.types.Value.TheVariants.{Int, Text}
use Rattle.sqlite.specs.Values.{bound}
use Rattle.adm_store.proofs.LentLemmas.{five_after, as_many}
use Rattle.adm_store.proofs.WriteLemmas.{bound_number}
use Rattle.adm_store.proofs.places.PlaceRowRowValues.lend_at.Goals as goal

pub returns-clause-lent : goal.returns-clause-lent
returns-clause-lent c =
    let at = c.args.at in
    let row = c.args.self.now in
    subst (λ columns. bound (take (at + 5) c.set_value-5.new.parameters) ≡ bound (take at c.args.parameters.now) ++ Int (pos row.child) ∷ Text row.place.school ∷ columns)
    (sym c.columns_of-kind.ensures)
    (five_after _ _ _ _ _ _ _ _ _ _ _ (rw (c.to_sql.ensures, c.get.ensures.value) at c.set_value.ensures.set)
    (as_many ((at + 1) + 1) (at + 2) c.set_value-2.new.parameters _ (omega arith) (rw (c.to_sql-2.ensures, c.as_str.ensures.value) at c.set_value-2.ensures.set))
    (as_many ((at + 2) + 1) (at + 3) c.set_value-3.new.parameters _ (omega arith) (rw (c.to_sql-3.ensures) at c.set_value-3.ensures.set))
    (as_many ((at + 3) + 1) (at + 4) c.set_value-4.new.parameters _ (omega arith) (rw (c.to_sql-4.ensures, bound_number c.columns_of-kind.result.1) at c.set_value-4.ensures.set))
    (as_many ((at + 4) + 1) (at + 5) c.set_value-5.new.parameters _ (omega arith) (rw (c.to_sql-5.ensures, bound_number c.columns_of-kind.result.2) at c.set_value-5.ensures.set)))
