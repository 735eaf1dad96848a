-- Lines are assembled one after the other, as a loop does.
use Rattle.std.proofs.Common.{◌≡◌, ◌≢◌, ℕ, ◌<◌, ◌≤◌, ◌+◌, true, false, List, [], ◌∷◌, ◌++◌, length, Option, Some, None, Result, Ok, Err, refl, sym, ◌∙◌, ap, arith, append_assoc, length-append}
use Rattle.std.specs.Prelude.{nat_lt}
use Rattle.std.specs.List.{flat_map}
use Rattle.std.proofs.lemmas.List.{append-nil}
use Rattle.std.proofs.lemmas.Bool.Decides.{nat_tests}
use Rattle.server_core.specs.declared.event.Event.{Event}
use Rattle.scenario_text.specs.declared.fault.AsmFault.{AsmFault}
use Rattle.scenario_text.specs.declared.fault.Cause.{Cause}
use Rattle.scenario_text.specs.declared.fault.Cause.TheVariants.{Limit, Memory}
use Rattle.scenario_text.specs.declared.scenario.Line.{Line}
use Rattle.scenario_text.specs.declared.statement.Statement.{Statement}
use Rattle.scenario_run.specs.Members.{Assembles, assembled_of}
use Rattle.scenario_run.specs.Assembly.{Puts, event_limit, group_of, preceded, in_line, groups_from, joined}
use Rattle.scenario_run.specs.declared.assembler.Assembler.{Assembler}
use Rattle.scenario_run.specs.declared.assembler.Member.{Member}

-- the events so far, and those of the groups
abbrev pub behind_events : List Event → Result (List (List Event)) AsmFault → Result (List Event) AsmFault
behind_events front (Ok groups) = Ok (front ++ flat_map (λ (group : List Event). group) groups)
behind_events front (Err fault) = Err fault

pub begins : (groups : Result (List (List Event)) AsmFault) → behind_events [] groups ≡ joined groups
begins (Ok groups) = refl
begins (Err fault) = refl

regroup : (front group : List Event) (others : Result (List (List Event)) AsmFault) → behind_events front (preceded group others) ≡ behind_events (front ++ group) others
regroup front group (Ok groups) = ap Ok (sym (append_assoc front group (flat_map (λ (g : List Event). g) groups)))
regroup front group (Err fault) = refl

pub goes_on : (fault : Option AsmFault) (a after : Assembler) (member : Member) (events new : List Event) (l : Line) (ls : List Line) (total : Result (List Event) AsmFault)
    → assembled_of a l.statement ≡ Ok (member, after) → new ≡ events ++ group_of after.cut member → length events + length (group_of after.cut member) ≤ event_limit
    → behind_events events (groups_from fault a (length events) (l ∷ ls)) ≡ total → behind_events new (groups_from fault after (length new) ls) ≡ total
unfolding groups_from
goes_on fault a after member events new l ls total assembled put few so_far =
    let fits : nat_lt event_limit (length events + length (group_of after.cut member)) ≡ false = grind (arith, nat_tests) in
    let count : length events + length (group_of after.cut member) ≡ length (events ++ group_of after.cut member) = sym (length-append events (group_of after.cut member)) in
    let one : behind_events events (groups_from fault a (length events) (l ∷ ls)) ≡ behind_events (events ++ group_of after.cut member) (groups_from fault after (length (events ++ group_of after.cut member)) ls) =
    rw (assembled, fits, count) (regroup events (group_of after.cut member) (groups_from fault after (length (events ++ group_of after.cut member)) ls)) in
    rw put (sym one ∙ so_far)

pub fails : (fault : Option AsmFault) (a : Assembler) (events : List Event) (l : Line) (ls : List Line) (cause : Cause) (total : Result (List Event) AsmFault)
    → assembled_of a l.statement ≡ Err cause → behind_events events (groups_from fault a (length events) (l ∷ ls)) ≡ total → total ≡ Err (record { cause = cause; line = l.number })
unfolding groups_from
fails fault a events l ls cause total assembled so_far =
    let one : behind_events events (groups_from fault a (length events) (l ∷ ls)) ≡ Err (record { cause = cause; line = l.number }) = rw assembled refl in
    sym so_far ∙ one

pub exceeds : (fault : Option AsmFault) (a after : Assembler) (member : Member) (events : List Event) (l : Line) (ls : List Line) (total : Result (List Event) AsmFault)
    → assembled_of a l.statement ≡ Ok (member, after) → event_limit < length events + length (group_of after.cut member)
    → behind_events events (groups_from fault a (length events) (l ∷ ls)) ≡ total → total ≡ Err (record { cause = Limit; line = l.number })
unfolding groups_from
exceeds fault a after member events l ls total assembled many so_far =
    let full : nat_lt event_limit (length events + length (group_of after.cut member)) ≡ true = grind (arith, nat_tests) in
    let one : behind_events events (groups_from fault a (length events) (l ∷ ls)) ≡ Err (record { cause = Limit; line = l.number }) = rw (assembled, full) refl in
    sym so_far ∙ one

-- ---- a line's outcome

pub taken : (r : Result Member Cause) (a after : Assembler) (statement : Statement) (number : ℕ) (m : Member) → Assembles Memory r after (assembled_of a statement)
    → Ok m ≡ in_line number r → assembled_of a statement ≡ Ok (m, after)
taken (Ok y) a after statement number m assembled is = let same : m ≡ y = cc in rw same assembled
taken (Err e) a after statement number m assembled is = absurd cc

pub refused : (r : Result Member Cause) (a after : Assembler) (statement : Statement) (number : ℕ) (f : AsmFault) → Assembles Memory r after (assembled_of a statement)
    → Err f ≡ in_line number r → f.cause ≢ Memory → (assembled_of a statement ≡ Err f.cause) × (f ≡ record { cause = f.cause; line = number })
refused (Ok y) a after statement number f assembled is other = absurd cc
refused (Err e) a after statement number f assembled is other =
    let whole : f ≡ record { cause = e; line = number } = cc in
    let cause : f.cause ≡ e = ap (λ (g : AsmFault). g.cause) whole in
    let said : assembled_of a statement ≡ Err e = assembled (λ memory. other (cause ∙ memory)) in
    (said ∙ ap Err (sym cause), whole ∙ ap (λ (g : Cause). record { cause = g; line = number }) (sym cause))

pub put_well : (r : Result (Unit {0}) Cause) (old new group : List Event) (number : ℕ) (u : Unit {0}) → Puts r old new group → Ok u ≡ in_line number r
    → (new ≡ old ++ group) × (length old + length group ≤ event_limit)
put_well (Ok x) old new group number u put is = put
put_well (Err e) old new group number u put is = absurd cc

pub put_badly : (r : Result (Unit {0}) Cause) (old new group : List Event) (number : ℕ) (f : AsmFault) → Puts r old new group → Err f ≡ in_line number r
    → f.cause ≢ Memory → (f ≡ record { cause = Limit; line = number }) × (event_limit < length old + length group)
put_badly (Ok x) old new group number f put is other = absurd cc
put_badly (Err e) old new group number f put is other =
    let whole : f ≡ record { cause = e; line = number } = cc in
    let cause : f.cause ≡ e = ap (λ (g : AsmFault). g.cause) whole in
    let said : (e ≡ Limit) × (event_limit < length old + length group) = put (λ memory. other (cause ∙ memory)) in
    (whole ∙ ap (λ (g : Cause). record { cause = g; line = number }) said.0, said.1)

pub nothing_left : (ls : List Line) → length ls ≡ 0 → ls ≡ []
nothing_left [] e = refl
nothing_left (l ∷ ls) e = absurd (omega arith)

pub few_put : (old new group : List Event) → new ≡ old ++ group → length old + length group ≤ event_limit → length new ≤ event_limit
few_put old new group put few =
    let count : length new ≡ length old + length group = ap length put ∙ length-append old group in
    rw count few

-- no line is left
pub ends_well : (fault : Option AsmFault) (a : Assembler) (events : List Event) (ls : List Line) (total : Result (List Event) AsmFault) → fault ≡ None → length ls ≡ 0
    → behind_events events (groups_from fault a (length events) ls) ≡ total → total ≡ Ok events
unfolding groups_from
ends_well fault a events ls total none left so_far =
    let one : behind_events events (groups_from fault a (length events) ls) ≡ Ok events = rw (nothing_left ls left, none, append-nil events) refl in
    sym so_far ∙ one

pub ends_badly : (fault : Option AsmFault) (a : Assembler) (events : List Event) (f : AsmFault) (ls : List Line) (total : Result (List Event) AsmFault) → fault ≡ Some f → length ls ≡ 0
    → behind_events events (groups_from fault a (length events) ls) ≡ total → total ≡ Err f
unfolding groups_from
ends_badly fault a events f ls total some left so_far =
    let one : behind_events events (groups_from fault a (length events) ls) ≡ Err f = rw (nothing_left ls left, some) refl in
    sym so_far ∙ one
