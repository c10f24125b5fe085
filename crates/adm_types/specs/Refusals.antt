-- The refusals of commands, by their numbers.
use Rattle.std.specs.Prelude.{ℕ}
use Rattle.adm_types.specs.declared.commands.Refusal.{Refusal}
use Rattle.adm_types.specs.declared.commands.Refusal.TheVariants as r

-- the number of a refusal
abbrev pub refusal_number : Refusal → ℕ
refusal_number r.UnknownSchool = 1
refusal_number r.UnknownChild = 2
refusal_number r.SchoolKnown = 3
refusal_number r.ChildKnown = 4
refusal_number r.BadText = 5
refusal_number r.OutOfRange = 6
refusal_number r.RegisterFull = 7
refusal_number r.BadPreferences = 8
refusal_number r.HasPlan = 9
refusal_number r.AlreadyApplied = 10
refusal_number r.TooSoon = 11
refusal_number r.WrongDraw = 12
refusal_number r.LotCount = 13
refusal_number r.LotsRepeated = 14
refusal_number r.NotOffered = 15
refusal_number r.NotWaiting = 16
refusal_number r.NoVacancy = 17
refusal_number r.EmptyList = 18
refusal_number r.ListClosed = 19
refusal_number r.RowDiffers = 20
refusal_number r.AlreadyReminded = 21
refusal_number r.NotReminded = 22
