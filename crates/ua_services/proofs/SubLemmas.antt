-- What calls of the subscriptions come to, one after the other.
use Rattle.std.proofs.Common.{◌≡◌, ℕ, zero, suc, ◌+◌, ◌<◌, Bool, true, false, cond, List, [], ◌∷◌, ◌++◌, length, take, fold, slice_index_or, Option, Some, None, Ok, Err, refl, sym, ap, subst, ◌∙◌, arith}
use Rattle.std.specs.List.{list_any}
use Rattle.std.specs.Option.{is_some}
use Rattle.std.specs.Prelude.{◌&&◌, not}
use Rattle.std.proofs.lemmas.Bool.{false≢true}
use Rattle.ua_types.specs.declared.status.Status.{Status}
use Rattle.ua_monitored_items.specs.Items.{ItemsState, One, Served as ItemsServed, nothing_served, with_one, all_served}
use Rattle.ua_subscriptions.specs.Ending.{shut_down}
use Rattle.ua_subscriptions.specs.Named.{Outcome, outcome, own_met, named_one, named_all, deleted, is_none}
use Rattle.ua_subscriptions.specs.SubscriptionCalls as subs
use Rattle.ua_subscriptions.specs.SubscriptionCalls.{SubscriptionsState, Said, without_answer, Halts}
use Rattle.ua_subscriptions.specs.Ranks.{due_numbers, is_any_due}
use Rattle.ua_subscriptions.specs.Scenes.{is_overspent}
use Rattle.ua_subscriptions.specs.Tables.{Stage, all_met}
use Rattle.ua_subscriptions.proofs.Dues.{none_due}
use Rattle.ua_session.specs.Sessions.{ticked, ended_by}
use Rattle.ua_services.specs.Services.{is_idle, ticking_of, shutting_of}
use Rattle.ua_services.specs.SessionServing.{with_sessions}
use Rattle.ua_subscriptions.specs.declared.answered.Answered.{Answered}
use Rattle.ua_subscriptions.specs.declared.call.Call.{Call as SubCall}
use Rattle.ua_subscriptions.specs.declared.call.Call.TheVariants.{Delete, Timer}
use Rattle.ua_subscriptions.specs.declared.round.Round.{Round}
use Rattle.server_messages.specs.declared.fired.Fired.{Fired}
use Rattle.server_messages.specs.Halts.{refusal_of}
use Rattle.server_messages.specs.declared.halt.Halt.{Halt}
use Rattle.server_messages.specs.declared.halt.Halt.TheVariants.{Memory, Exhausted}
use Rattle.server_messages.specs.declared.reply.Reply.{Reply}
use Rattle.server_messages.specs.declared.served.Served.{Served}
use Rattle.server_messages.specs.declared.setting.Setting.{Setting}
use Rattle.server_messages.specs.declared.stored.Stored.{Stored}
use Rattle.ua_services.specs.ServicesState.{Services}
use Rattle.ua_services.specs.Serving.{Occurrence, Serving, Given, Serves, is_spent, given, given_of, rows_of, stored_of, served, joined, reply_of, reply_before, Judges}
use Rattle.ua_services.specs.Serving.Occurrence.{Fire, Store, Spent}
use Rattle.ua_services.specs.declared.caller.Caller.{Caller}
use Rattle.ua_services.specs.SubServing.{with_subscriptions, fires, uncounted, is_uncounted, occurrences_of, called, no_reply, called_alone, nothing_done, both, and_then, session_over, timed_out, all_timed_out, timers_met, stage_at}

-- ---- rows, and serials that are spent

pub rows_joined : (xs ys : List Occurrence) → rows_of (xs ++ ys) ≡ rows_of xs ++ rows_of ys
rows_joined [] ys = refl
rows_joined (Fire fired ∷ xs) ys = ap (λ (rows : List Fired). fired ∷ rows) (rows_joined xs ys)
rows_joined (Store stored ∷ xs) ys = rows_joined xs ys
rows_joined (Spent ∷ xs) ys = rows_joined xs ys

pub stored_joined : (xs ys : List Occurrence) → stored_of (xs ++ ys) ≡ stored_of xs ++ stored_of ys
stored_joined [] ys = refl
stored_joined (Fire fired ∷ xs) ys = stored_joined xs ys
stored_joined (Store stored ∷ xs) ys = ap (λ (ss : List Stored). stored ∷ ss) (stored_joined xs ys)
stored_joined (Spent ∷ xs) ys = stored_joined xs ys

rows_fired : (rows : List Fired) (more : List Occurrence) → rows_of more ≡ [] → rows_of (fires rows ++ more) ≡ rows
rows_fired [] more none = none
rows_fired (fired ∷ rows) more none = ap (λ (rs : List Fired). fired ∷ rs) (rows_fired rows more none)

pub no_rows : (b : Bool) → rows_of (cond b (Spent ∷ []) []) ≡ []
no_rows true = refl
no_rows false = refl

-- rows, and serials that are spent, are nothing for a store
rows_store_none : (rows : List Fired) (more : List Occurrence) → stored_of more ≡ [] → stored_of (fires rows ++ more) ≡ []
rows_store_none [] more none = none
rows_store_none (fired ∷ rows) more none = rows_store_none rows more none

pub none_stored : (b : Bool) → stored_of (cond b (Spent ∷ []) []) ≡ []
none_stored true = refl
none_stored false = refl

pub rounds_store_none : (halted : Option Halt) (round : Round) → stored_of (occurrences_of halted round) ≡ []
rounds_store_none halted round = rows_store_none round.rows (uncounted halted round) (none_stored (is_uncounted halted round))

pub rows_of_round : (halted : Option Halt) (round : Round) → rows_of (occurrences_of halted round) ≡ round.rows
rows_of_round halted round = rows_fired round.rows (uncounted halted round) (no_rows (is_uncounted halted round))

spent_left : (xs ys : List Occurrence) → list_any is_spent xs ≡ true → list_any is_spent (xs ++ ys) ≡ true
spent_left [] ys e = absurd cc
spent_left (Fire fired ∷ xs) ys e = spent_left xs ys e
spent_left (Store stored ∷ xs) ys e = spent_left xs ys e
spent_left (Spent ∷ xs) ys e = refl

spent_right : (xs ys : List Occurrence) → list_any is_spent ys ≡ true → list_any is_spent (xs ++ ys) ≡ true
spent_right [] ys e = e
spent_right (Fire fired ∷ xs) ys e = spent_right xs ys e
spent_right (Store stored ∷ xs) ys e = spent_right xs ys e
spent_right (Spent ∷ xs) ys e = refl

none_in_both : (xs ys : List Occurrence) → list_any is_spent xs ≡ false → list_any is_spent ys ≡ false → list_any is_spent (xs ++ ys) ≡ false
none_in_both [] ys first second = second
none_in_both (Fire fired ∷ xs) ys first second = none_in_both xs ys first second
none_in_both (Store stored ∷ xs) ys first second = none_in_both xs ys first second
none_in_both (Spent ∷ xs) ys first second = first

rows_spend_none : (rows : List Fired) → list_any is_spent (fires rows) ≡ false
rows_spend_none [] = refl
rows_spend_none (fired ∷ rows) = rows_spend_none rows

-- messages that were counted spend none
counted_in : (halted : Option Halt) (round : Round) → halted ≡ None → is_overspent round ≡ false → list_any is_spent (occurrences_of halted round) ≡ false
counted_in halted round going counted =
    none_in_both (fires round.rows) (uncounted halted round) (rows_spend_none round.rows)
    (ap (λ (h : Option Halt). list_any is_spent (uncounted h round)) going ∙ ap (λ (b : Bool). list_any is_spent (cond b (Spent ∷ []) [])) counted)

pub any_spent : (b : Bool) → b ≡ true → list_any is_spent (cond b (Spent ∷ []) []) ≡ true
any_spent b e = ap (λ (t : Bool). list_any is_spent (cond t (Spent ∷ []) [])) e

counted_out : (halted : Option Halt) (round : Round) → Halts halted Exhausted round → is_uncounted halted round ≡ true
counted_out None round h = h
counted_out (Some halt) round h = refl

-- ---- one call

module _ {A : Type 0} (state : Services) (own : A → List Reply) (said : Said A) where
  pub called_gives : (x : Answered A) (new : SubscriptionsState) (items : ItemsState) (given_served : Served) → subs.Serves (Ok x) state.subscriptions new items said → given_served ≡ served (own x.answer ++ x.replies) x.rows →
      given (with_subscriptions state new items) given_served ≡ given_of (called state own said)
  called_gives x new items given_served h e =
      let round = said.outcome.stage.round in
      ap (given (with_subscriptions state new items)) e
      ∙ ap (λ (y : Answered A). given (with_subscriptions state new items) (served (own y.answer ++ y.replies) y.rows)) h.1
      ∙ ap (λ (s : SubscriptionsState). given (with_subscriptions state s items) (served (own said.outcome.answer ++ round.replies) round.rows)) h.2
      ∙ ap (λ (i : ItemsState). given (with_subscriptions state said.state i) (served (own said.outcome.answer ++ round.replies) round.rows)) h.3
      ∙ ap (λ (rows : List Fired). given (with_subscriptions state said.state said.outcome.stage.items) (served (own said.outcome.answer ++ round.replies) rows)) (sym (rows_of_round state.subscriptions.halted round))
      ∙ ap (λ (ss : List Stored). let g : Given = given (with_subscriptions state said.state said.outcome.stage.items) (record { replies = own said.outcome.answer ++ round.replies; rows = rows_of (occurrences_of state.subscriptions.halted round); stored = ss }) in g)
      (sym (rounds_store_none state.subscriptions.halted round))
      ∙ ap (λ (b : Bool). let g : Given = record (given_of (called state own said)) { spends = b } in g) (sym (counted_in state.subscriptions.halted round h.0 h.4))

  pub called_halts : (halt : Halt) (new : SubscriptionsState) (items : ItemsState) → subs.Serves (Err halt) state.subscriptions new items said → Serves (Err halt) (with_subscriptions state new items) (called state own said)
  called_halts Memory new items h = tt
  called_halts Exhausted new items h =
      let round = said.outcome.stage.round in
      spent_right (fires round.rows) (uncounted state.subscriptions.halted round) (any_spent (is_uncounted state.subscriptions.halted round) (counted_out state.subscriptions.halted round h.1))

-- a call that answers Publish requests alone
module _ (state : Services) (w : Stage) where
  pub told_gives : (x : Answered (Unit {0})) (new : SubscriptionsState) (items : ItemsState) (given_served : Served) → subs.Serves (Ok x) state.subscriptions new items (without_answer state.subscriptions w) → given_served ≡ served x.replies x.rows →
      given (with_subscriptions state new items) given_served ≡ given_of (called_alone state w)
  unfolding called_alone
  told_gives x new items given_served h e = called_gives state no_reply (without_answer state.subscriptions w) x new items given_served h e

  pub told_halts : (halt : Halt) (new : SubscriptionsState) (items : ItemsState) → subs.Serves (Err halt) state.subscriptions new items (without_answer state.subscriptions w) → Serves (Err halt) (with_subscriptions state new items) (called_alone state w)
  unfolding called_alone
  told_halts halt new items h = called_halts state no_reply (without_answer state.subscriptions w) halt new items h

  -- the same of a service that refuses no such call
  pub told_judged : (setting : Setting) (caller : Caller) (halt : Halt) (new : SubscriptionsState) (items : ItemsState) → subs.Serves (Err halt) state.subscriptions new items (without_answer state.subscriptions w) → Judges setting caller (Err (refusal_of halt)) (with_subscriptions state new items) (called_alone state w)
  unfolding called_alone
  told_judged setting caller Memory new items h = refl
  told_judged setting caller Exhausted new items h = called_halts state no_reply (without_answer state.subscriptions w) Exhausted new items h

-- a shutdown that halts does so for its subscriptions
pub shutting_halts : (setting : Setting) (state : Services) (halt : Halt) (new : SubscriptionsState) (items : ItemsState) → subs.Serves (Err halt) state.subscriptions new items (without_answer state.subscriptions (shut_down (stage_at setting state))) → Serves (Err halt) (with_subscriptions state new items) (shutting_of setting state)
unfolding shutting_of
shutting_halts setting state Memory new items h = tt
shutting_halts setting state Exhausted new items h = told_halts state (shut_down (stage_at setting state)) Exhausted new items h

-- a call whose answer is told first, and then what else is served
pub called_first : {A : Type 0} (state : Services) (caller : Caller) (body : A → List ℕ) (said : Said A) (x : Answered A) (new : SubscriptionsState) (items : ItemsState) (others : Served) (bytes : List ℕ) (all : Served) → subs.Serves (Ok x) state.subscriptions new items said →
    others ≡ served x.replies x.rows → bytes ≡ body x.answer → all ≡ reply_before (reply_of caller bytes) others →
    given (with_subscriptions state new items) all ≡ given_of (called state (λ answer. reply_of caller (body answer) ∷ []) said)
called_first state caller body said x new items others bytes all h o b e =
    called_gives state (λ answer. reply_of caller (body answer) ∷ []) said x new items all h
    (e ∙ ap (λ (bs : List ℕ). reply_before (reply_of caller bs) others) b ∙ ap (reply_before (reply_of caller (body x.answer))) o)

-- ---- one step behind another

pub joined_gives : (s t : Serving) (mid new : Services) (a b all : Served) → given mid a ≡ given_of s → given new b ≡ given_of t → all ≡ joined a b →
    given new all ≡ given_of (both s t)
joined_gives s t mid new a b all p q e =
    ap (given new) e
    ∙ ap (λ (g : Given). given new (joined g.served b)) p
    ∙ ap (λ (g : Given). given g.state (joined (given_of s).served g.served)) q
    ∙ ap (λ (rows : List Fired). let g : Given = given t.state (record { replies = s.replies ++ t.replies; rows = rows; stored = stored_of s.occurrences ++ stored_of t.occurrences }) in g)
    (sym (rows_joined s.occurrences t.occurrences))
    ∙ ap (λ (ss : List Stored). let g : Given = given t.state (record { replies = s.replies ++ t.replies; rows = rows_of (s.occurrences ++ t.occurrences); stored = ss }) in g)
    (sym (stored_joined s.occurrences t.occurrences))
    ∙ ap (λ (b : Bool). let g : Given = record (given_of (both s t)) { spends = b } in g)
    (sym (none_in_both s.occurrences t.occurrences (sym (ap (λ (g : Given). g.spends) p)) (sym (ap (λ (g : Given). g.spends) q))))

pub then_gives : (s : Serving) (more : Services → Serving) (mid new : Services) (a b all : Served) → given mid a ≡ given_of s → given new b ≡ given_of (more mid) → all ≡ joined a b →
    given new all ≡ given_of (and_then s more)
then_gives s more mid new a b all p q e = joined_gives s (more s.state) mid new a b all p (q ∙ ap (λ (g : _). given_of (more g.state)) p) e

pub first_halts : (s t : Serving) (halt : Halt) (after other : Services) → Serves (Err halt) after s → Serves (Err halt) other (both s t)
first_halts s t Memory after other h = tt
first_halts s t Exhausted after other h = spent_left s.occurrences t.occurrences h

pub second_halts : (s t : Serving) (halt : Halt) (after other : Services) → Serves (Err halt) after t → Serves (Err halt) other (both s t)
second_halts s t Memory after other h = tt
second_halts s t Exhausted after other h = spent_right s.occurrences t.occurrences h

-- ---- sessions that have timed out

module _ (setting : Setting) where
  pub one_more : (s : Serving) (number : ℕ) (mid new : Services) (a b all : Served) → given mid a ≡ given_of s → given new b ≡ given_of (session_over setting false number mid) → all ≡ joined a b →
      given new all ≡ given_of (timed_out setting s number)
  unfolding timed_out
  one_more s number mid new a b all p q e = then_gives s (session_over setting false number) mid new a b all p q e

  taken_none : (numbers : List ℕ) (s : Serving) → fold (timed_out setting) s (take 0 numbers) ≡ s
  taken_none [] s = refl
  taken_none (number ∷ numbers) s = refl

  taken_on : (numbers : List ℕ) (i d : ℕ) (s : Serving) → i < length numbers → fold (timed_out setting) s (take (suc i) numbers) ≡ timed_out setting (fold (timed_out setting) s (take i numbers)) (slice_index_or numbers i d)
  taken_on [] i d s lt = absurd (omega (arith, lt))
  taken_on (number ∷ numbers) zero d s lt = taken_none numbers (timed_out setting s number)
  taken_on (number ∷ numbers) (suc i) d s lt = taken_on numbers i d (timed_out setting s number) (omega (arith, lt))

  -- one more session is over, behind those before it
  pub goes_on : (numbers : List ℕ) (i d : ℕ) (state mid new : Services) (a b all : Served) → i < length numbers → given mid a ≡ given_of (all_timed_out setting state (take i numbers)) → given new b ≡ given_of (session_over setting false (slice_index_or numbers i d) mid) →
      all ≡ joined a b → given new all ≡ given_of (all_timed_out setting state (take (i + 1) numbers))
  goes_on numbers i d state mid new a b all lt p q e =
      let next : suc i ≡ i + 1 = omega arith in
      one_more (all_timed_out setting state (take i numbers)) (slice_index_or numbers i d) mid new a b all p q e
      ∙ ap given_of (sym (taken_on numbers i d (nothing_done state) lt))
      ∙ ap (λ (n : ℕ). given_of (all_timed_out setting state (take n numbers))) next

  all_keep : (numbers : List ℕ) (s : Serving) → list_any is_spent s.occurrences ≡ true → list_any is_spent (fold (timed_out setting) s numbers).occurrences ≡ true
  unfolding timed_out
  all_keep [] s e = e
  all_keep (number ∷ numbers) s e = all_keep numbers (timed_out setting s number) (spent_left s.occurrences (session_over setting false number s.state).occurrences e)

  stops_at : (numbers : List ℕ) (i d : ℕ) (s : Serving) → i < length numbers → list_any is_spent (session_over setting false (slice_index_or numbers i d) (fold (timed_out setting) s (take i numbers)).state).occurrences ≡ true →
      list_any is_spent (fold (timed_out setting) s numbers).occurrences ≡ true
  unfolding timed_out
  stops_at [] i d s lt h = absurd (omega (arith, lt))
  stops_at (number ∷ numbers) zero d s lt h = all_keep numbers (timed_out setting s number) (spent_right s.occurrences (session_over setting false number s.state).occurrences h)
  stops_at (number ∷ numbers) (suc i) d s lt h = stops_at numbers i d (timed_out setting s number) (omega (arith, lt)) h

  -- a halt at one session is one of all
  pub halts_among : (halt : Halt) (numbers : List ℕ) (i d : ℕ) (state mid after : Services) (served : Served) → i < length numbers → given mid served ≡ given_of (all_timed_out setting state (take i numbers)) →
      Serves (Err halt) after (session_over setting false (slice_index_or numbers i d) mid) → Serves (Err halt) after (all_timed_out setting state numbers)
  halts_among Memory numbers i d state mid after served lt p h = tt
  halts_among Exhausted numbers i d state mid after served lt p h =
      stops_at numbers i d _ lt (subst (λ (m : Services). list_any is_spent (session_over setting false (slice_index_or numbers i d) m).occurrences ≡ true) (ap (λ (g : _). g.state) p) h)

-- ---- as many answers as were asked for

pub pushed_length : {A : Type 0} (xs : List A) (x : A) → length (xs ++ x ∷ []) ≡ suc (length xs)
pushed_length [] x = refl
pushed_length (y ∷ ys) x = ap suc (pushed_length ys x)

named_more : (session : ℕ) (call : SubCall) (numbers : List ℕ) (b : Outcome (List Status)) → length (fold (named_one session call) b numbers).answer ≡ length b.answer + length numbers
named_more session call [] b = omega arith
named_more session call (number ∷ numbers) b =
    let rest = named_more session call numbers (named_one session call b number) in
    let one = pushed_length b.answer (own_met session call b.stage number).answer in
    omega (arith, rest, one)

pub named_length : (session : ℕ) (call : SubCall) (w : Stage) (numbers : List ℕ) → length (named_all session call w numbers).answer ≡ length numbers
named_length session call w numbers = omega (arith, named_more session call numbers (outcome [] w))

pub deleted_length : (session : ℕ) (w : Stage) (numbers : List ℕ) → length (deleted session w numbers).answer ≡ length numbers
unfolding deleted
deleted_length session w numbers = omega (arith, named_more session Delete numbers (outcome [] w))

served_more : {A R : Type 0} (serve : ItemsState → A → One R) (xs : List A) (b : ItemsServed R) → length (fold (with_one serve) b xs).results ≡ length b.results + length xs
served_more serve [] b = omega arith
served_more serve (x ∷ xs) b =
    let rest = served_more serve xs (with_one serve b x) in
    let one = pushed_length b.results (serve b.state x).result in
    omega (arith, rest, one)

pub served_length : {A R : Type 0} (serve : ItemsState → A → One R) (s : ItemsState) (xs : List A) → length (all_served serve s xs).results ≡ length xs
served_length serve s xs = omega (arith, served_more serve xs (nothing_served s))

-- ---- nothing is due

both_true : (a b : Bool) → (a && b) ≡ true → (a ≡ true) × (b ≡ true)
both_true true b h = (refl, h)
both_true false b h = absurd (false≢true h)

is_false : (b : Bool) → not b ≡ true → b ≡ false
is_false true h = absurd (false≢true h)
is_false false h = refl

is_nothing : (numbers : List ℕ) → is_none numbers ≡ true → numbers ≡ []
is_nothing [] h = refl
is_nothing (number ∷ numbers) h = absurd (false≢true h)

says_nothing : (setting : Setting) (state : Services) (numbers : List ℕ) → numbers ≡ [] → due_numbers setting.clock state.subscriptions.table.subscriptions ≡ [] →
    (and_then (all_timed_out setting state numbers) (timers_met setting)).replies ≡ []
unfolding called_alone
says_nothing setting state numbers none not_due =
    ap (λ (ns : List ℕ). (and_then (all_timed_out setting state ns) (timers_met setting)).replies) none
    ∙ ap (λ (ns : List ℕ). (all_met Timer (stage_at setting state) ns).round.replies) not_due

-- a tick at which nothing is due answers no one
pub idle_is_silent : (setting : Setting) (state : Services) → is_idle setting state ≡ true → (ticking_of setting state).replies ≡ []
idle_is_silent setting state h =
    let ended = is_none (ended_by state.sessions setting.clock) in
    let due = is_any_due setting.clock state.subscriptions.table.subscriptions in
    let going = both_true (ended && not due) (not (is_some state.subscriptions.halted)) h in
    let still = both_true ended (not due) going.0 in
    says_nothing setting (with_sessions state (ticked state.sessions setting.clock)) (ended_by state.sessions setting.clock) (is_nothing (ended_by state.sessions setting.clock) still.0)
    (none_due setting.clock state.subscriptions.table.subscriptions (is_false due still.1))
