-- The routes: the targets of each, what it names, and for a text its media type and what it is.
use Rattle.std.specs.Prelude.{◌≡◌, ℕ, ◌==◌, ◌&&◌, List, [], ◌∷◌, ◌++◌, length, nat_lt, if◌then◌else◌, Option, Some, None, option_map, option_and_then, Result, Ok, Err, codes, bytes_eq}
use Rattle.std.specs.FinMap.{get}
use Rattle.adm_types.specs.Code.{code_of}
use Rattle.adm_types.specs.Fields.{plain_of, child_named}
use Rattle.serde_json.specs.Written.{compact_text}
use Rattle.matchit.specs.Rows.{RowsOf, param_token}
use Rattle.matchit.specs.Router.{RouteOf, nearest}
use Rattle.matchit.specs.Route.{Scan}
use Rattle.matchit.specs.declared.error.InsertError.{InsertError}
use Rattle.adm_http.specs.declared.routes.Route.{Route}
use Rattle.adm_http.specs.declared.routes.Route.TheVariants.{Command, Import, Child, Letter, Pairs, SchoolPairs, Waiting, Round, WhatIf, Register, Draw, RegisterChild, RegisterSchool}
use Rattle.adm_http.specs.declared.routes.Target.{Target}
use Rattle.adm_http.specs.declared.routes.Target.TheVariants.{Body, Text}
use Rattle.adm_http.specs.declared.routes.Purpose.TheVariants as purpose
use Rattle.adm_http.specs.declared.routes.Resource.{Resource}
use Rattle.adm_http.specs.declared.routes.Resource.TheVariants.{ChildState, ChildLetter, WaitingList, RoundReport, PairList, WholeRegister, DrawWithLots, ChildEntry, SchoolEntry}
use Rattle.adm_register.specs.State.{State}
use Rattle.adm_letters.specs.Letters.{letter_text}
use Rattle.adm_letters.specs.Lists.{list_text}
use Rattle.adm_letters.specs.Pairs.{pairs_text}
use Rattle.adm_letters.specs.Reports.{round_text}
use Rattle.adm_view.specs.Children.{child_entry}
use Rattle.adm_view.specs.Draws.{draw_data_with_lots}
use Rattle.adm_view.specs.Register.{register_data}
use Rattle.adm_view.specs.Schools.{school_entry}
use Rattle.adm_http.specs.States.{child_text}
use Rattle.adm_http.specs.declared.responses.Media.{Media}
use Rattle.adm_http.specs.declared.responses.Media.TheVariants.{Json, PlainText}

-- what follows the text, where the bytes begin with it
abbrev pub after_prefix : List ℕ → List ℕ → Option (List ℕ)
after_prefix [] bytes = Some bytes
after_prefix (c ∷ text) [] = None
after_prefix (c ∷ text) (b ∷ bytes) = if c == b then after_prefix text bytes else None

-- the bytes before the first slash
abbrev pub part_of : List ℕ → List ℕ
part_of [] = []
part_of (b ∷ bytes) = if b == 47 then [] else b ∷ part_of bytes

-- the bytes from the first slash on
abbrev pub tail_of : List ℕ → List ℕ
tail_of [] = []
tail_of (b ∷ bytes) = if b == 47 then b ∷ bytes else tail_of bytes

-- a route, and the part of the target that its parameter takes
abbrev pub Found : Type 0
Found = Option (Route × List ℕ)

-- the first of two that is found
abbrev pub or_found : Found → Found → Found
or_found None other = other
or_found (Some found) other = Some found

-- nothing may follow
abbrev pub at_end : Route → List ℕ → Found
at_end route rest = if bytes_eq rest [] then Some (route, []) else None

-- a part that is not empty, and then exactly this text
abbrev pub with_part : Route → List ℕ → List ℕ → Found
with_part route text rest =
    if nat_lt 0 (length (part_of rest)) && bytes_eq (tail_of rest) text then Some (route, part_of rest) else None

-- after /child/ a number, and the end or /letter
abbrev pub child_after : List ℕ → Found
child_after rest = or_found (with_part Letter (codes "/letter") rest) (with_part Child [] rest)

-- the route of a target: /child/{no}, /child/{no}/letter, /command, /draw/{no}, /import, /pairs, /pairs/{code}, /register, /register/child/{no},
-- /register/school/{code}, /round/{no}, /school/{code}/waiting or /what-if
unfoldable pub route_of : List ℕ → Found
route_of target =
    or_found (option_and_then child_after (after_prefix (codes "/child/") target))
    (or_found (option_and_then (at_end Command) (after_prefix (codes "/command") target))
    (or_found (option_and_then (with_part Draw []) (after_prefix (codes "/draw/") target))
    (or_found (option_and_then (at_end Import) (after_prefix (codes "/import") target))
    (or_found (option_and_then (with_part SchoolPairs []) (after_prefix (codes "/pairs/") target))
    (or_found (option_and_then (at_end Pairs) (after_prefix (codes "/pairs") target))
    (or_found (option_and_then (with_part RegisterChild []) (after_prefix (codes "/register/child/") target))
    (or_found (option_and_then (with_part RegisterSchool []) (after_prefix (codes "/register/school/") target))
    (or_found (option_and_then (at_end Register) (after_prefix (codes "/register") target))
    (or_found (option_and_then (with_part Round []) (after_prefix (codes "/round/") target))
    (or_found (option_and_then (with_part Waiting (codes "/waiting")) (after_prefix (codes "/school/") target))
    (option_and_then (at_end WhatIf) (after_prefix (codes "/what-if") target))))))))))))

-- what the part of a route names, where it has the form that the route requires
abbrev pub named_by : Route × List ℕ → Option Target
named_by (Command, part) = Some (Body purpose.Command)
named_by (Import, part) = Some (Body purpose.Import)
named_by (WhatIf, part) = Some (Body purpose.Question)
named_by (Child, part) = option_map (λ n. Text (ChildState n)) (child_named part)
named_by (Letter, part) = option_map (λ n. Text (ChildLetter n)) (child_named part)
named_by (Pairs, part) = Some (Text (PairList None))
named_by (SchoolPairs, part) = option_map (λ code. Text (PairList (Some code))) (code_of part)
named_by (Waiting, part) = option_map (λ code. Text (WaitingList code)) (code_of part)
named_by (Round, part) = option_map (λ n. Text (RoundReport n)) (plain_of part)
named_by (Register, part) = Some (Text WholeRegister)
named_by (Draw, part) = option_map (λ n. Text (DrawWithLots n)) (plain_of part)
named_by (RegisterChild, part) = option_map (λ n. Text (ChildEntry n)) (child_named part)
named_by (RegisterSchool, part) = option_map (λ code. Text (SchoolEntry code)) (code_of part)

-- what the target names, if it has a route
abbrev pub target_of : List ℕ → Option Target
target_of target = option_and_then named_by (route_of target)

-- what programs read is JSON, and what people read is text
abbrev pub media_of : Resource → Media
media_of (ChildState child) = Json
media_of (ChildLetter child) = PlainText
media_of (WaitingList school) = PlainText
media_of (RoundReport round) = PlainText
media_of (PairList school) = PlainText
media_of WholeRegister = Json
media_of (DrawWithLots number) = Json
media_of (ChildEntry child) = Json
media_of (SchoolEntry school) = Json

-- the requested text, if the register has such a child, school, round or draw
abbrev pub text_in : State → Resource → Option (List ℕ)
text_in s (ChildState child) = child_text s child
text_in s (ChildLetter child) = letter_text s child
text_in s (WaitingList school) = list_text s school
text_in s (RoundReport round) = round_text s round
text_in s (PairList school) = pairs_text s school
text_in s WholeRegister = Some (compact_text (register_data s))
text_in s (DrawWithLots number) = option_map (λ draw. compact_text (draw_data_with_lots s draw)) (get s.draws number)
text_in s (ChildEntry child) = option_map compact_text (child_entry s child)
text_in s (SchoolEntry school) = option_map compact_text (school_entry s school)

-- ---- the router

abbrev pub row : List ℕ → List ℕ → List (ℕ × ℕ) → Route → List ℕ × RouteOf Route
row pattern written names value = (pattern, record { pattern = pattern; text = written; names = names; value = value })

-- a route as the router keeps it: its pattern, its text, and where in it the parameter is named
abbrev pub row_of : Route → List ℕ × RouteOf Route
row_of Command = row (codes "/command") (codes "/command") [] Command
row_of Import = row (codes "/import") (codes "/import") [] Import
row_of Draw = row (codes "/draw/" ++ param_token ∷ []) (codes "/draw/{no}") ((7, 9) ∷ []) Draw
row_of Register = row (codes "/register") (codes "/register") [] Register
row_of RegisterChild = row (codes "/register/child/" ++ param_token ∷ []) (codes "/register/child/{no}") ((17, 19) ∷ []) RegisterChild
row_of RegisterSchool = row (codes "/register/school/" ++ param_token ∷ []) (codes "/register/school/{code}") ((18, 22) ∷ []) RegisterSchool
row_of Child = row (codes "/child/" ++ param_token ∷ []) (codes "/child/{no}") ((8, 10) ∷ []) Child
row_of Letter = row (codes "/child/" ++ param_token ∷ codes "/letter") (codes "/child/{no}/letter") ((8, 10) ∷ []) Letter
row_of Pairs = row (codes "/pairs") (codes "/pairs") [] Pairs
row_of SchoolPairs = row (codes "/pairs/" ++ param_token ∷ []) (codes "/pairs/{code}") ((8, 12) ∷ []) SchoolPairs
row_of Waiting = row (codes "/school/" ++ param_token ∷ codes "/waiting") (codes "/school/{code}/waiting") ((9, 13) ∷ []) Waiting
row_of Round = row (codes "/round/" ++ param_token ∷ []) (codes "/round/{no}") ((8, 10) ∷ []) Round
row_of WhatIf = row (codes "/what-if") (codes "/what-if") [] WhatIf

-- the routes in the order of their patterns
unfoldable pub all_routes : RowsOf (RouteOf Route)
all_routes =
    row_of Letter ∷ row_of Child ∷ row_of Command ∷ row_of Draw ∷ row_of Import ∷ row_of SchoolPairs ∷ row_of Pairs ∷ row_of RegisterChild
    ∷ row_of RegisterSchool ∷ row_of Register ∷ row_of Round ∷ row_of Waiting ∷ row_of WhatIf ∷ []

-- a route's text reads well, and conflicts with none of the rows
abbrev pub IsRouteFree : Result Scan InsertError → RowsOf (RouteOf Route) → Type 0
IsRouteFree (Ok scan) rows = nearest scan.pattern rows ≡ None
IsRouteFree (Err e) rows = ⊥
