-- What a step of an iterator does to the records that remain.
use Rattle.std.proofs.Common.{◌≡◌, ◌∙◌, Bor, List, [], ◌∷◌, Some, None, Ok, refl, sym, ap, inl}
use Rattle.csv.specs.Machine.{Read, next_record}
use Rattle.csv.specs.Reading.{Reached, RowStep, default_config}
use Rattle.csv.specs.Records.{Row, fields_of}
use Rattle.csv.specs.declared.parser.State.{State}
use Rattle.csv.proofs.ReadFacts.{rows-more, rows-end}
use Rattle.adm_csv.specs.Kinds.{Text}
use Rattle.adm_csv.specs.Rows.{Record}
use Rattle.adm_csv.specs.Remaining.{Source, IsPlain, bytes_remaining, remaining_of, records_remaining}
use Rattle.adm_csv.proofs.RecordLemmas.{left_more, left_none}

first_of : (s s2 : State) (text rest : Text) (f : Record) (fs : List Record) → Reached default_config s text (f ∷ fs) s2 rest
    → (p : Read) × (next_record default_config s [] [] text ≡ Some p) × (f ≡ p.0) × Reached default_config p.1 p.2 fs s2 rest
unfolding Reached
first_of s s2 text rest f fs h = h

end_of : (s s2 : State) (text rest : Text) → Reached default_config s text [] s2 rest → (s ≡ s2) × (text ≡ rest)
unfolding Reached
end_of s s2 text rest h = h

nothing_yet : (s : State) (text : Text) → Reached default_config s text [] s text
unfolding Reached
nothing_yet s text = (refl, refl)

one_more : (s s2 : State) (text rest : Text) (f : Record) → Reached default_config s text (f ∷ []) s2 rest → records_remaining s text ≡ f ∷ records_remaining s2 rest
one_more s s2 text rest f h =
    let first = first_of s s2 text rest f [] h in
    let last = end_of first.0.1 s2 first.0.2 rest first.3 in
    left_more s text first.0 first.1 ∙ (ap (λ r. r ∷ records_remaining first.0.1 first.0.2) (sym first.2)
    ∙ (ap (λ t. f ∷ records_remaining t first.0.2) last.0 ∙ ap (λ t. f ∷ records_remaining s2 t) last.1))

known : (s : Source) (text : Text) → bytes_remaining s ≡ Some text → remaining_of s ≡ records_remaining s.rdr.state text
known s text is = rw is refl

-- a record
pub source_more : (old new : Source) (f : Row) → IsPlain old → RowStep (λ (s : Bor Text). Some s.now) old.rdr new.rdr new.left (Some (Ok f))
    → (remaining_of old ≡ fields_of f ∷ remaining_of new) × IsPlain new
source_more old new f plain step =
    let more = rows-more (λ (s : Bor Text). Some s.now) old.rdr new.rdr (fields_of f) default_config old.rdr.state plain.4 plain.4 [] plain.3 plain.5 (nothing_yet old.rdr.state plain.4) step.0 in (
      known old plain.4 plain.5 ∙ one_more old.rdr.state new.rdr.state plain.4 more.0 (fields_of f) more.2 ∙ ap (λ rs. fields_of f ∷ rs) (sym (known new more.0 more.1)),
      (step.0.3 ∙ plain.0, inl step.1, step.2, step.0.2 ∙ plain.3, more.0, more.1),
    )

-- none
pub source_none : (old new : Source) → IsPlain old → RowStep (λ (s : Bor Text). Some s.now) old.rdr new.rdr new.left None → remaining_of old ≡ []
source_none old new plain step =
    known old plain.4 plain.5 ∙ left_none old.rdr.state plain.4 (rows-end (λ (s : Bor Text). Some s.now) old.rdr new.rdr [] default_config plain.4 plain.3 plain.5 step)
