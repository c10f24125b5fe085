-- What is given for a draw, and for an entry of the document: its text, if there is one, or that there is none.
use Rattle.std.specs.Prelude.{◌≡◌, Option, Some, None, Result, Ok, Err, String, string_bytes, ⊤}
use Rattle.serde_json.specs.Data.{Data}
use Rattle.serde_json.specs.Read.{read}
use Rattle.serde_json.specs.Written.{compact_text}
use Rattle.adm_view.specs.declared.fault.ViewFault.{ViewFault}
use Rattle.adm_view.specs.declared.fault.ViewFault.TheVariants.{NoDraw, Memory}

-- the compact text of the data, if there are any, or else NoDraw; for a text memory may run out
abbrev pub GivesText : {A : Type 0} → Option Data → Result (String A) ViewFault → Type 0
GivesText (Some wanted) (Ok given) = string_bytes given ≡ compact_text wanted
GivesText (Some wanted) (Err e) = e ≡ Memory
GivesText None (Ok given) = ⊥
GivesText None (Err e) = e ≡ NoDraw

-- a text that is given reads as the data
abbrev pub ReadsBack : {A : Type 0} → Option Data → Result (String A) ViewFault → Type 0
ReadsBack expected (Ok given) = read (string_bytes given) ≡ expected
ReadsBack expected (Err e) = ⊤

-- the compact text of the data, if there are any, or else none; for a text memory may run out
abbrev pub GivesEntry : {A E : Type 0} → Option Data → Result (Option (String A)) E → Type 0
GivesEntry (Some wanted) (Ok (Some given)) = string_bytes given ≡ compact_text wanted
GivesEntry (Some wanted) (Ok None) = ⊥
GivesEntry (Some wanted) (Err e) = ⊤
GivesEntry None (Ok (Some given)) = ⊥
GivesEntry None (Ok None) = ⊤
GivesEntry None (Err e) = ⊥

-- an entry that is given reads as the data
abbrev pub EntryReadsBack : {A E : Type 0} → Option Data → Result (Option (String A)) E → Type 0
EntryReadsBack expected (Ok (Some given)) = read (string_bytes given) ≡ expected
EntryReadsBack expected (Ok None) = ⊤
EntryReadsBack expected (Err e) = ⊤
