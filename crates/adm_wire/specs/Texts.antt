-- The texts of answers: JSON without spaces, the keys in the order of the alphabet.
use Rattle.std.specs.Prelude.{ℕ, ◌==◌, List, ◌++◌, codes, decimal, if◌then◌else◌}
use Rattle.adm_wire.specs.declared.fault.WireFault.{WireFault}
use Rattle.adm_wire.specs.declared.fault.WireFault.TheVariants as f
use Rattle.adm_types.specs.declared.commands.Reply.{Reply}
use Rattle.adm_types.specs.declared.commands.Reply.TheVariants.{Done, Round, Filled, Imported}
use Rattle.adm_types.specs.Refusals.{refusal_number}
use Rattle.adm_types.specs.declared.commands.Refusal.{Refusal}
use Rattle.adm_types.specs.declared.commands.Refusal.TheVariants as r

-- how many of a round's outcomes were fresh offers, kept places and children without a place
abbrev pub round_reply_text : ℕ → ℕ → ℕ → ℕ → List ℕ
round_reply_text round offers kept unplaced =
    codes "{\"done\":true,\"kept\":" ++ (decimal kept ++ (codes ",\"offers\":" ++ (decimal offers ++ (codes ",\"round\":" ++ (decimal round ++ (codes ",\"unplaced\":" ++ (decimal unplaced ++ codes "}")))))))

-- the child to which a fill offered the vacancy
abbrev pub filled_text : ℕ → List ℕ
filled_text child = codes "{\"child\":" ++ (decimal child ++ codes ",\"done\":true}")

-- how many rows of an import were added, and how many were known before
abbrev pub imported_text : ℕ → ℕ → List ℕ
imported_text added known = codes "{\"added\":" ++ (decimal added ++ (codes ",\"done\":true,\"known\":" ++ (decimal known ++ codes "}")))

-- what an accepted command answers
abbrev pub reply_text : Reply → List ℕ
reply_text Done = codes "{\"done\":true}"
reply_text (Round round offers kept unplaced) = round_reply_text round offers kept unplaced
reply_text (Filled child) = filled_text child
reply_text (Imported added known) = imported_text added known

-- the name of a refusal
abbrev pub name_of_refusal : Refusal → List ℕ
name_of_refusal r.UnknownSchool = codes "UnknownSchool"
name_of_refusal r.UnknownChild = codes "UnknownChild"
name_of_refusal r.SchoolKnown = codes "SchoolKnown"
name_of_refusal r.ChildKnown = codes "ChildKnown"
name_of_refusal r.BadText = codes "BadText"
name_of_refusal r.OutOfRange = codes "OutOfRange"
name_of_refusal r.RegisterFull = codes "RegisterFull"
name_of_refusal r.BadPreferences = codes "BadPreferences"
name_of_refusal r.HasPlan = codes "HasPlan"
name_of_refusal r.AlreadyApplied = codes "AlreadyApplied"
name_of_refusal r.TooSoon = codes "TooSoon"
name_of_refusal r.WrongDraw = codes "WrongDraw"
name_of_refusal r.LotCount = codes "LotCount"
name_of_refusal r.LotsRepeated = codes "LotsRepeated"
name_of_refusal r.NotOffered = codes "NotOffered"
name_of_refusal r.NotWaiting = codes "NotWaiting"
name_of_refusal r.NoVacancy = codes "NoVacancy"
name_of_refusal r.EmptyList = codes "EmptyList"
name_of_refusal r.ListClosed = codes "ListClosed"
name_of_refusal r.RowDiffers = codes "RowDiffers"
name_of_refusal r.AlreadyReminded = codes "AlreadyReminded"
name_of_refusal r.NotReminded = codes "NotReminded"

-- a name and a number
abbrev pub named_text : List ℕ → ℕ → List ℕ
named_text name refused = codes "{\"name\":\"" ++ (name ++ (codes "\",\"refused\":" ++ (decimal refused ++ codes "}")))

-- a name, a number and the row of an import
abbrev pub row_text : List ℕ → ℕ → ℕ → List ℕ
row_text name refused row = codes "{\"name\":\"" ++ (name ++ (codes "\",\"refused\":" ++ (decimal refused ++ (codes ",\"row\":" ++ (decimal row ++ codes "}")))))

-- a refusal, with its row; 0 is no row
abbrev pub refusal_text : Refusal → ℕ → List ℕ
refusal_text refusal row = if row == 0 then named_text (name_of_refusal refusal) (refusal_number refusal) else row_text (name_of_refusal refusal) (refusal_number refusal) row

-- the text of an answer where memory ran out
abbrev pub memory_text : List ℕ
memory_text = codes "{\"memory\":true}"

-- the text of the answer to a command whose commit failed, and to each command after it
abbrev pub failed_text : List ℕ
failed_text = codes "{\"failed\":true}"

-- errors 1 to 5 by their numbers and names; Memory, the sixth, has the text of that answer
abbrev pub fault_text : WireFault → List ℕ
fault_text f.NotJson = codes "{\"fault\":1,\"name\":\"NotJson\"}"
fault_text f.UnknownCommand = codes "{\"fault\":2,\"name\":\"UnknownCommand\"}"
fault_text f.MissingField = codes "{\"fault\":3,\"name\":\"MissingField\"}"
fault_text f.WrongKind = codes "{\"fault\":4,\"name\":\"WrongKind\"}"
fault_text f.ExtraField = codes "{\"fault\":5,\"name\":\"ExtraField\"}"
fault_text f.Memory = memory_text
