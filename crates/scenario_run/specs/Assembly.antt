-- What a scenario comes to: a group of events for each line, or the first bad line.
use Rattle.std.specs.Prelude.{◌≡◌, ◌≢◌, ℕ, ◌+◌, ◌<◌, ◌≤◌, ◌==◌, nat_lt, List, [], ◌∷◌, ◌++◌, length, map, Option, Some, None, Result, Ok, Err, if◌then◌else◌}
use Rattle.std.specs.List.{flat_map}
use Rattle.server_core.specs.declared.event.Event.{Event}
use Rattle.server_core.specs.declared.event.Event.TheVariants.{Bytes}
use Rattle.scenario_text.specs.Scenarios.{scenario_of}
use Rattle.scenario_text.specs.declared.fault.AsmFault.{AsmFault}
use Rattle.scenario_text.specs.declared.fault.Cause.{Cause}
use Rattle.scenario_text.specs.declared.fault.Cause.TheVariants.{Limit, Memory}
use Rattle.scenario_text.specs.declared.scenario.Line.{Line}
use Rattle.scenario_run.specs.Members.{Assembled, nothing_sent, assembled_of}
use Rattle.scenario_run.specs.Pieces.{pieces_of}
use Rattle.scenario_run.specs.declared.assembler.Assembler.{Assembler}
use Rattle.scenario_run.specs.declared.assembler.Member.{Member}
use Rattle.scenario_run.specs.declared.assembler.Member.TheVariants.{Nothing, Own, Stream}

-- how many events a scenario may have
abbrev pub event_limit : ℕ
event_limit = 100000

-- bytes in events of so many, or whole
unfoldable pub stream_events : ℕ → ℕ → List ℕ → List Event
stream_events cut connection bytes =
    if cut == 0 then Bytes connection bytes ∷ [] else map (λ piece. Bytes connection piece) (pieces_of cut bytes)

-- the events of a line
abbrev pub group_of : ℕ → Member → List Event
group_of cut Nothing = []
group_of cut (Own event) = event ∷ []
group_of cut (Stream connection bytes) = stream_events cut connection bytes

abbrev pub preceded : List Event → Result (List (List Event)) AsmFault → Result (List (List Event)) AsmFault
preceded group (Err fault) = Err fault
preceded group (Ok groups) = Ok (group ∷ groups)

-- what is wrong with a line
abbrev pub in_line : {A : Type 0} → ℕ → Result A Cause → Result A AsmFault
in_line number (Ok x) = Ok x
in_line number (Err cause) = Err (record { cause = cause; line = number })

-- a group behind so many events, and then others
abbrev pub with_group : ℕ → ℕ → List Event → (ℕ → Result (List (List Event)) AsmFault) → Result (List (List Event)) AsmFault
with_group count number group others =
    if nat_lt event_limit (count + length group) then in_line number (Err Limit) else preceded group (others (count + length group))

abbrev pub on_assembled : ℕ → ℕ → Result Assembled Cause → (Assembler → ℕ → Result (List (List Event)) AsmFault) → Result (List (List Event)) AsmFault
on_assembled count number (Err cause) others = in_line number (Err cause)
on_assembled count number (Ok assembled) others = with_group count number (group_of assembled.1.cut assembled.0) (others assembled.1)

abbrev pub no_groups : Option AsmFault → Result (List (List Event)) AsmFault
no_groups None = Ok []
no_groups (Some fault) = Err fault

-- The groups of these lines behind so many events. Limits are judged line by line, so they come before a later bad line.
unfoldable pub groups_from : Option AsmFault → Assembler → ℕ → List Line → Result (List (List Event)) AsmFault
groups_from fault a count [] = no_groups fault
groups_from fault a count (l ∷ ls) = on_assembled count l.number (assembled_of a l.statement) (λ after so_many. groups_from fault after so_many ls)

-- one group for each line that says something, in their order
abbrev pub groups_of : List ℕ → Result (List (List Event)) AsmFault
groups_of text = let s = scenario_of text in groups_from s.fault nothing_sent 0 s.lines

abbrev pub joined : Result (List (List Event)) AsmFault → Result (List Event) AsmFault
joined (Ok groups) = Ok (flat_map (λ (group : List Event). group) groups)
joined (Err fault) = Err fault

-- the events of a scenario, or its first bad line with the cause of its leftmost bad word, or of its limit
abbrev pub events_of : List ℕ → Result (List Event) AsmFault
events_of text = joined (groups_of text)

-- ---- words of the contracts

-- A group is put behind the events, unless it makes too many of them or memory ran out.
abbrev pub Puts : Result (Unit {0}) Cause → List Event → List Event → List Event → Type 0
Puts (Ok x) old new group = (new ≡ old ++ group) × (length old + length group ≤ event_limit)
Puts (Err e) old new group = e ≢ Memory → (e ≡ Limit) × (event_limit < length old + length group)

-- what a call gave, seen by a view, is what is said, unless memory ran out
abbrev pub MeansAs : {A B : Type 0} → (A → B) → Result A AsmFault → Result B AsmFault → Type 0
MeansAs view (Ok x) said = said ≡ Ok (view x)
MeansAs view (Err f) said = f.cause ≢ Memory → said ≡ Err f
