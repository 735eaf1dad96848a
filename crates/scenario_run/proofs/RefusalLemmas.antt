-- Why a scenario is refused, and what happens in one that isn't.
use Rattle.std.proofs.Common.{◌≡◌, ◌≢◌, ℕ, Bool, true, false, cond, List, [], ◌∷◌, Option, Some, None, Result, Ok, Err, refl, sym, ap, ◌∙◌}
use Rattle.std.specs.Prelude.{IfErr, IsOkAnd}
use Rattle.ua_types.specs.Answers.{◌>>=◌}
use Rattle.server_core.specs.declared.event.Event.{Event}
use Rattle.scenario_text.specs.Scenarios.{Means, scenario_of}
use Rattle.scenario_text.specs.declared.fault.AsmFault.{AsmFault}
use Rattle.scenario_text.specs.declared.fault.Cause.{Cause}
use Rattle.scenario_text.specs.declared.fault.Cause.TheVariants.{Limit, Memory}
use Rattle.scenario_text.specs.declared.scenario.Line.{Line}
use Rattle.scenario_text.specs.declared.statement.Statement.{Statement}
use Rattle.scenario_text.specs.declared.statement.Statement.TheVariants as statements
use Rattle.scenario_run.specs.Assembly.{preceded, on_assembled, no_groups, groups_from, joined, events_of}
use Rattle.scenario_run.specs.Groups.{nothing_counted, AreGroups}
use Rattle.scenario_run.specs.Meaning.{plain_manner, happenings_of, unless_bad, meaning}
use Rattle.scenario_run.specs.Members.{Assembled, nothing_sent, sending, assembled_opening, assembled_service, assembled_of}
use Rattle.scenario_run.specs.Sendings.{Sending, hello_of, opening_of, closing_of, service_of}
use Rattle.scenario_run.specs.declared.assembler.Assembler.{Assembler}

abbrev IsLimit : Cause → Type 0
IsLimit cause = cause ≡ Limit

sent_or_limit : (long : Bool) (a : Assembler) (connection : ℕ) (body : List ℕ) (f : List ℕ → Sending) → IfErr (sending a connection (cond long (Err Limit) (Ok body) >>= λ b. Ok (f b))) IsLimit
unfolding sending
sent_or_limit true a connection body f = refl
sent_or_limit false a connection body f = tt

-- a line whose words are good is refused for its length alone
line_limit : (a : Assembler) (statement : Statement) → IfErr (assembled_of a statement) IsLimit
unfolding assembled_of assembled_opening assembled_service hello_of opening_of closing_of service_of
line_limit a (statements.Open connection key) = tt
line_limit a (statements.Hello connection url) = sent_or_limit _ _ _ _ _
line_limit a (statements.OpenChannel connection request) = sent_or_limit _ _ _ _ _
line_limit a (statements.CloseChannel connection) = sent_or_limit _ _ _ _ _
line_limit a (statements.Gone connection) = tt
line_limit a (statements.Tick now) = tt
line_limit a statements.Shutdown = tt
line_limit a (statements.Raw connection bytes) = tt
line_limit a (statements.Cut size) = tt
line_limit a (statements.Chunk size) = tt
line_limit a statements.Abort = tt
line_limit a (statements.Range range) = tt
line_limit a (statements.GetEndpoints connection) = sent_or_limit _ _ _ _ _
line_limit a (statements.CreateSession connection) = sent_or_limit _ _ _ _ _
line_limit a (statements.Ask connection session request) = sent_or_limit _ _ _ _ _

cause_same : (f : AsmFault) (cause : Cause) (number : ℕ) (r : Result (List (List Event)) AsmFault) → r ≡ Err (record { cause = cause; line = number }) → r ≡ Err f → cause ≡ f.cause
cause_same f cause number r is e = let same : record { cause = cause; line = number } ≡ f = cc in ap (λ (g : AsmFault). g.cause) same

of_others : (group : List Event) (others : Result (List (List Event)) AsmFault) (f : AsmFault) → preceded group others ≡ Err f → others ≡ Err f
of_others group (Ok groups) f e = absurd cc
of_others group (Err g) f e = e

by_group : (long : Bool) (number : ℕ) (group : List Event) (others : Result (List (List Event)) AsmFault) (f : AsmFault) → f.cause ≢ Limit
    → cond long (Err (record { cause = Limit; line = number })) (preceded group others) ≡ Err f → others ≡ Err f
by_group true number group others f other e = absurd (other (sym (cause_same f Limit number _ refl e)))
by_group false number group others f other e = of_others group others f e

by_fault : (fault : Option AsmFault) (f : AsmFault) → no_groups fault ≡ Err f → fault ≡ Some f
by_fault None f e = absurd cc
by_fault (Some g) f e = let same : g ≡ f = cc in ap Some same

by_line : (fault : Option AsmFault) (count number : ℕ) (r : Result Assembled Cause) (others : Assembler → ℕ → Result (List (List Event)) AsmFault) (f : AsmFault) → IfErr r IsLimit → f.cause ≢ Limit
    → ((b : Assembler) (n : ℕ) → others b n ≡ Err f → fault ≡ Some f) → on_assembled count number r others ≡ Err f → fault ≡ Some f
by_line fault count number (Err cause) others f limit other more e = absurd (other (sym (cause_same f cause number _ refl e) ∙ limit))
by_line fault count number (Ok r) others f limit other more e = more _ _ (by_group _ number _ _ f other e)

refused_at : (fault : Option AsmFault) (a : Assembler) (count : ℕ) (ls : List Line) (f : AsmFault) → f.cause ≢ Limit → groups_from fault a count ls ≡ Err f → fault ≡ Some f
unfolding groups_from
refused_at fault a count [] f other e = by_fault fault f e
refused_at fault a count (l ∷ ls) f other e =
    by_line fault count l.number (assembled_of a l.statement) (λ after so_many. groups_from fault after so_many ls) f (line_limit a l.statement) other (λ b n. refused_at fault b n ls f other) e

of_joined : (groups : Result (List (List Event)) AsmFault) (f : AsmFault) → joined groups ≡ Err f → groups ≡ Err f
of_joined (Ok gs) f e = absurd cc
of_joined (Err g) f e = let same : g ≡ f = cc in ap Err same

-- a fault that isn't of the memory or a limit is the meaning's
pub fault_meant : (r : Result (List Event) AsmFault) (text : List ℕ) → Means r (events_of text) → IfErr r (λ f. f.cause ≢ Memory → f.cause ≢ Limit → meaning text ≡ Err f)
fault_meant (Ok x) text given = tt
fault_meant (Err f) text given = λ other short.
    let s = scenario_of text in
    let bad : s.fault ≡ Some f = refused_at s.fault nothing_sent 0 s.lines f short (of_joined _ f (given other)) in
    ap (λ (fault : Option AsmFault). unless_bad fault (happenings_of plain_manner s.lines)) bad

-- what happens where no line is bad
abbrev pub IsMeantBy : Option AsmFault → List Line → List Event → Type 0
IsMeantBy fault ls es = (fault ≡ None) × AreGroups nothing_counted (happenings_of plain_manner ls) es

by_none : (fault : Option AsmFault) (ls : List Line) (es : List Event) → IsMeantBy fault ls es → IsOkAnd (unless_bad fault (happenings_of plain_manner ls)) (λ happenings. AreGroups nothing_counted happenings es)
by_none None ls es meant = meant.1
by_none (Some f) ls es meant = absurd cc

pub text_meant : (text : List ℕ) (es : List Event) → (let s = scenario_of text in IsMeantBy s.fault s.lines es) → IsOkAnd (meaning text) (λ happenings. AreGroups nothing_counted happenings es)
text_meant text es meant = let s = scenario_of text in by_none s.fault s.lines es meant
