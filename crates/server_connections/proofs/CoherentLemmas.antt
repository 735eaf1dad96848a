-- What frames and replies keep of the connections.
use Rattle.std.proofs.Common.{◌≡◌, ◌≢◌, ℕ, Bool, true, false, cond, List, [], ◌∷◌, ◌++◌, Option, Some, None, is_some, Result, Ok, Err, refl, sym, ◌∙◌, ap, subst, rules, arith}
use Rattle.std.specs.Prelude.{nat_lt}
use Rattle.std.proofs.lemmas.Bool.Decides.{nat_tests}
use Rattle.std.specs.List.{AllByRecursion}
use Rattle.std.proofs.lemmas.Bool.{false≢true}
use Rattle.std.specs.Ordering.{nat_cmp, eq_by_cmp, is_eq}
use Rattle.std.specs.Cmp.{nat_cmp_total}
use Rattle.std.specs.declared.cmp.Ordering.{Ordering}
use Rattle.std.specs.declared.cmp.Ordering.TheVariants.{Less, Equal, Greater}
use Rattle.std.specs.FinMap.{nat_cmp-IsAntisymmetric, FinMap, get, insert, remove, get-insert, get-remove}
use Rattle.ua_types.specs.Configuration.{Configuration}
use Rattle.ua_types.specs.declared.status.Status.{Status}
use Rattle.ua_transport.specs.Agreements.{Agreement, AreInRange, limits_of, outcome_of_frame}
use Rattle.ua_transport.specs.declared.frame.Frame.{Frame}
use Rattle.ua_transport.specs.declared.frame.FrameFault.{FrameFault}
use Rattle.ua_transport.specs.declared.frame.FrameFault.TheVariants.{Letters, Size, Failed}
use Rattle.ua_transport.specs.declared.taken.Taken.{Taken}
use Rattle.ua_transport.specs.declared.taken.Taken.TheVariants as taken
use Rattle.ua_transport.specs.ChannelStates.{ChannelState}
use Rattle.ua_transport.specs.Acceptance.{is_error, take_of}
use Rattle.ua_transport.specs.Cutting.{written_id}
use Rattle.server_messages.specs.declared.origin.Origin.{Origin}
use Rattle.server_messages.specs.declared.reply.Reply.{Reply}
use Rattle.server_messages.specs.declared.setting.Setting.{Setting}
use Rattle.server_connections.specs.declared.frame_outcome.FrameOutcome.{FrameOutcome}
use Rattle.server_connections.specs.declared.frame_outcome.FrameOutcome.TheVariants as outcome
use Rattle.server_connections.specs.declared.connection.Connection.{Connection}
use Rattle.server_connections.specs.declared.connection.Phase.{Phase}
use Rattle.server_connections.specs.declared.connection.Phase.TheVariants.{Greeting, Talking, Closed}
use Rattle.server_messages.specs.declared.out.Out.{Out}
use Rattle.server_connections.specs.Reactions.{Reaction, reaction, Counted, greeted, first_reaction, granted, opening_reaction, taken_reaction, later_reaction, reaction_of, fault_reaction}
use Rattle.server_connections.specs.Connecting.{Connections, Taking, is_known, is_new, is_above_all, known_as, gone, with_phase, reacted, taking_by, taking_of, break_by, break_of}
use Rattle.server_connections.specs.Delivering.{Delivery, said_by, reply_sent, delivered_on, delivered_to, delivered, delivery_of}
use Rattle.server_connections.specs.Coherent.{IsAgreed, IsAgreedIn, IsAgreedAt, AreAgreed, is_talking, has_channel, Talks, IsFresh, is_going_on, is_open_at, is_open}
use Rattle.server_connections.proofs.AgreedLemmas.{of_unchanged, of_taken, good_frame, IsGood, reply_unchanged, granted_unchanged}
use Rattle.collections.proofs.NumberMaps.{get_inserted_elsewhere, get_removed_elsewhere}
use Rattle.collections.proofs.NumberMaps.{get_inserted}

-- ---- one connection set

-- what is true of the new connection, and of all others, is true of all
pub at_insert : (P : Option Connection → Type 0) (m : FinMap nat_cmp Connection) (conn : ℕ) (c : Connection) (q : ℕ) → P (Some c) → P (get m q) → P (get (insert m conn c) q)
at_insert P m conn c q new old = subst P (sym (get-insert nat_cmp_total m conn c q)) (by (eq_by_cmp nat_cmp q conn))
  where
    by : (b : Bool) → P (cond b (Some c) (get m q))
    by true = new
    by false = old

-- what holds of a connection under a number that may be the new connection's
pub at_insert_at : (P : Option Connection → Type 0) (m : FinMap nat_cmp Connection) (conn : ℕ) (c : Connection) (q : ℕ) → (q ≡ conn → P (Some c)) → P (get m q) → P (get (insert m conn c) q)
at_insert_at P m conn c q new old = subst P (sym (get-insert nat_cmp_total m conn c q)) (by (nat_cmp q conn) refl)
  where
    by : (r : Ordering) → nat_cmp q conn ≡ r → P (cond (is_eq r) (Some c) (get m q))
    by Less e = old
    by Greater e = old
    by Equal e = new (nat_cmp-IsAntisymmetric q conn e)

-- what is true of none, and of all others, is true of all once one is taken out
pub at_removed : (P : Option Connection → Type 0) (m : FinMap nat_cmp Connection) (conn q : ℕ) → P None → P (get m q) → P (get (remove m conn) q)
at_removed P m conn q none old = subst P (sym (get-remove nat_cmp_total m conn q)) (by (eq_by_cmp nat_cmp q conn))
  where
    by : (b : Bool) → P (cond b None (get m q))
    by true = none
    by false = old

-- a connection that is known stays so, and no other becomes known
fresh_at : (connections : Connections) (conn : ℕ) (connection new : Connection) → get connections.known conn ≡ Some connection → IsFresh connections →
    (q : ℕ) → is_new connections q ≡ true → is_some (get (insert connections.known conn new) q) ≡ false
fresh_at connections conn connection new found p q e =
    at_insert_at (λ (o : Option Connection). is_some o ≡ false) connections.known conn new q
    (λ same. absurd (false≢true (sym (p q e) ∙ ap (is_known connections) same ∙ ap is_some found))) (p q e)

-- ---- frames

-- what is asked fits the phase: only a connection that talks asks for anything or goes on
abbrev pub Fits : ℕ → Phase → FrameOutcome → Type 0
Fits conn phase outcome.Nothing = is_talking phase ≡ true
Fits conn phase outcome.Closed = phase ≡ Closed
Fits conn phase (outcome.Request request) = (request.conn ≡ conn) × (is_talking phase ≡ true)

pub record IsRight (config : Configuration) (conn : ℕ) (t : Reaction) : Type 0 where
  pub agreed : IsAgreedIn config t.phase
  pub fits : Fits conn t.phase t.asked

module _ (config : Configuration) (conn : ℕ) where
  right_if : (b : Bool) (x y : Reaction) → IsRight config conn x → IsRight config conn y → IsRight config conn (cond b x y)
  right_if true x y p q = p
  right_if false x y p q = q

  right_counted : (b : Bool) (x y : Counted) → IsRight config conn x.reaction → IsRight config conn y.reaction → IsRight config conn (cond b x y).reaction
  right_counted true x y p q = p
  right_counted false x y p q = q

  right_closed : (outs : List Out) → IsRight config conn (reaction Closed outs outcome.Closed)
  right_closed outs = record { agreed = tt; fits = refl }

  right_talking : (s : ChannelState) (outs : List Out) → IsAgreed config s → IsRight config conn (reaction (Talking s) outs outcome.Nothing)
  right_talking s outs p = record { agreed = p; fits = refl }

  right_greeted : (r : Result Agreement Status) → IsGood (limits_of config) r → IsRight config conn (greeted conn r)
  right_greeted (Ok agreed) p = record { agreed = record { agreement = p.0; limits = p.1; unfinished = search rules }; fits = refl }
  right_greeted (Err code) p = right_closed _

module _ (setting : Setting) (conn : ℕ) (ranges : AreInRange (limits_of setting.config)) where
  right_first : (frame : Frame) → IsRight setting.config conn (first_reaction setting conn frame)
  unfolding first_reaction
  right_first frame =
      right_if setting.config conn (is_error frame.message_type) _ _ (right_closed setting.config conn _)
      (right_greeted setting.config conn (outcome_of_frame (limits_of setting.config) frame) (good_frame (limits_of setting.config) frame ranges))

  right_granted : (s : ChannelState) (origin : Origin) (number : ℕ) (outs : List Out) → IsAgreed setting.config s →
      IsRight setting.config conn (reaction (Talking (granted setting s origin number).channel) outs outcome.Nothing)
  right_granted s origin number outs p =
      right_talking setting.config conn _ outs (of_unchanged setting.config s _ (granted_unchanged setting s origin number) p)

  right_opening : (channels : ℕ) (s : ChannelState) (id handle : ℕ) (renew : Bool) → IsAgreed setting.config s → IsRight setting.config conn (opening_reaction setting channels s (record { conn = conn; id = id; handle = handle }) renew).reaction
  unfolding opening_reaction
  right_opening channels s id handle renew p =
      right_counted setting.config conn renew _ _ (right_granted s _ (written_id s.channel_id) _ p)
      (right_counted setting.config conn _ _ _ (right_closed setting.config conn _) (right_granted s _ _ _ p))

  right_taken : (channels : ℕ) (key : List ℕ) (s : ChannelState) (r : Result Taken Status) → IsAgreed setting.config s → IsRight setting.config conn (taken_reaction setting channels conn key s r).reaction
  right_taken channels key s (Ok taken.Nothing) p = right_talking setting.config conn s [] p
  right_taken channels key s (Ok (taken.Aborted id)) p = right_talking setting.config conn s [] p
  right_taken channels key s (Ok taken.Closed) p = right_closed setting.config conn _
  right_taken channels key s (Ok (taken.Opening id handle renew)) p = right_opening channels s id handle renew p
  right_taken channels key s (Ok (taken.Request id body)) p = record { agreed = p; fits = (refl, refl) }
  right_taken channels key s (Err code) p = right_closed setting.config conn _

  right_reaction : (channels : ℕ) (key : List ℕ) (frame : Frame) (phase : Phase) → IsAgreedIn setting.config phase → IsRight setting.config conn (reaction_of setting channels conn key frame phase).reaction
  unfolding later_reaction
  right_reaction channels key frame Greeting p = right_first frame
  right_reaction channels key frame (Talking s) p = right_taken channels key (take_of s frame).state (take_of s frame).answer (of_taken setting.config s frame p)
  right_reaction channels key frame Closed p = right_closed setting.config conn []

right_fault : (config : Configuration) (conn : ℕ) (fault : FrameFault) → IsRight config conn (fault_reaction conn fault)
right_fault config conn Letters = right_closed config conn _
right_fault config conn Size = right_closed config conn _
right_fault config conn Failed = right_closed config conn _

-- what a frame leaves: all is agreed, others talk as they did, and what is asked fits
abbrev pub FitsAt : ℕ → Connections → FrameOutcome → Type 0
FitsAt conn connections outcome.Nothing = Talks connections conn
FitsAt conn connections outcome.Closed = is_open connections conn ≡ false
FitsAt conn connections (outcome.Request request) = (request.conn ≡ conn) × Talks connections conn

-- a connection that talks is open
open_at : (o : Option Connection) → has_channel o ≡ true → is_open_at o ≡ true
open_at None e = e
open_at (Some connection) e = by connection.phase e
  where
    by : (phase : Phase) → is_talking phase ≡ true → is_going_on phase ≡ true
    by Greeting e = refl
    by (Talking s) e = refl
    by Closed e = e

pub talks_open : (connections : Connections) (conn : ℕ) → Talks connections conn → is_open connections conn ≡ true
talks_open connections conn talks = open_at (get connections.known conn) talks

pub record IsTakenRight (config : Configuration) (conn : ℕ) (old : Connections) (t : Taking) : Type 0 where
  pub agreed : AreAgreed config t.connections
  pub others : (other : ℕ) → other ≢ conn → Talks old other → Talks t.connections other
  pub opened : (other : ℕ) → other ≢ conn → is_open t.connections other ≡ is_open old other
  pub fits : FitsAt conn t.connections t.asked
  pub fresh : IsFresh old → IsFresh t.connections

talks_at : (connections : Connections) (conn : ℕ) (connection : Connection) (phase : Phase) → is_talking phase ≡ true → Talks (with_phase connections conn connection phase) conn
talks_at connections conn connection phase e =
    ap has_channel (get_inserted connections.known conn (record connection { phase = phase })) ∙ e

fits_at : (conn : ℕ) (connections : Connections) (connection : Connection) (phase : Phase) (found : FrameOutcome) → Fits conn phase found → FitsAt conn (with_phase connections conn connection phase) found
fits_at conn connections connection phase outcome.Nothing f = talks_at connections conn connection phase f
fits_at conn connections connection phase outcome.Closed f =
    ap is_open_at (get_inserted connections.known conn (record connection { phase = phase })) ∙ ap is_going_on f
fits_at conn connections connection phase (outcome.Request request) f = (f.0, talks_at connections conn connection phase f.1)

reacted_right : (config : Configuration) (conn : ℕ) (connections : Connections) (connection : Connection) (c : Counted) → get connections.known conn ≡ Some connection → AreAgreed config connections → IsRight config conn c.reaction →
    IsTakenRight config conn connections (reacted connections conn connection c)
reacted_right config conn connections connection c found p r = record {
  agreed = λ q. at_insert (IsAgreedAt config) connections.known conn (record connection { phase = c.reaction.phase }) q r.agreed (p q);
  others = λ other apart talks. ap has_channel (get_inserted_elsewhere connections.known conn (record connection { phase = c.reaction.phase }) other apart) ∙ talks;
  opened = λ other apart. ap is_open_at (get_inserted_elsewhere connections.known conn (record connection { phase = c.reaction.phase }) other apart);
  fits = fits_at conn (record connections { channels = c.channels }) connection c.reaction.phase c.reaction.asked r.fits;
  fresh = λ f. fresh_at connections conn connection (record connection { phase = c.reaction.phase }) found f;
}

found_right : (setting : Setting) (conn : ℕ) (connections : Connections) (frame : Frame) (found : Option Connection) → get connections.known conn ≡ found → AreInRange (limits_of setting.config) → AreAgreed setting.config connections →
    IsAgreedAt setting.config found → IsTakenRight setting.config conn connections (taking_by setting conn connections frame found)
found_right setting conn connections frame None e ranges p a = record { agreed = p; others = λ other apart talks. talks; opened = λ other apart. refl; fits = ap is_open_at e; fresh = λ f. f }
found_right setting conn connections frame (Some connection) e ranges p a =
    reacted_right setting.config conn connections connection _ e p (right_reaction setting conn ranges connections.channels connection.key frame connection.phase a)

pub taken_right : (setting : Setting) (conn : ℕ) (connections : Connections) (frame : Frame) → AreInRange (limits_of setting.config) → AreAgreed setting.config connections →
    IsTakenRight setting.config conn connections (taking_of setting conn connections frame)
unfolding taking_of
taken_right setting conn connections frame ranges p = found_right setting conn connections frame (get connections.known conn) refl ranges p (p conn)

broken_by_right : (config : Configuration) (conn : ℕ) (connections : Connections) (fault : FrameFault) (found : Option Connection) → get connections.known conn ≡ found → AreAgreed config connections →
    IsTakenRight config conn connections (break_by conn connections fault found)
broken_by_right config conn connections fault None e p = record { agreed = p; others = λ other apart talks. talks; opened = λ other apart. refl; fits = ap is_open_at e; fresh = λ f. f }
broken_by_right config conn connections fault (Some connection) e p = reacted_right config conn connections connection _ e p (right_fault config conn fault)

pub broken_right : (config : Configuration) (conn : ℕ) (connections : Connections) (fault : FrameFault) → AreAgreed config connections → IsTakenRight config conn connections (break_of conn connections fault)
unfolding break_of
broken_right config conn connections fault p = broken_by_right config conn connections fault (get connections.known conn) refl p

-- a fault closes the connection
broken_phase : (conn : ℕ) (fault : FrameFault) → (fault_reaction conn fault).phase ≡ Closed
broken_phase conn Letters = refl
broken_phase conn Size = refl
broken_phase conn Failed = refl

closes_by : (conn : ℕ) (connections : Connections) (fault : FrameFault) (found : Option Connection) → get connections.known conn ≡ found → is_open (break_by conn connections fault found).connections conn ≡ false
closes_by conn connections fault None e = ap is_open_at e
closes_by conn connections fault (Some connection) e =
    ap is_open_at (get_inserted connections.known conn (record connection { phase = (fault_reaction conn fault).phase })) ∙ ap is_going_on (broken_phase conn fault)

pub broken_closes : (conn : ℕ) (connections : Connections) (fault : FrameFault) → is_open (break_of conn connections fault).connections conn ≡ false
unfolding break_of
broken_closes conn connections fault = closes_by conn connections fault (get connections.known conn) refl

-- ---- replies

pub record IsDelivered (config : Configuration) (old : Connections) (d : Delivery) : Type 0 where
  pub agreed : AreAgreed config d.connections
  pub talks : (conn : ℕ) → Talks old conn → Talks d.connections conn
  pub opened : (conn : ℕ) → is_open d.connections conn ≡ is_open old conn
  pub lost : d.lost ≡ []
  pub fresh : IsFresh old → IsFresh d.connections

said_right : (setting : Setting) (connections : Connections) (reply : Reply) (connection : Connection) (phase : Phase) → get connections.known reply.origin.conn ≡ Some connection → is_going_on connection.phase ≡ true → AreAgreed setting.config connections → IsAgreedIn setting.config phase → is_talking phase ≡ true →
    IsDelivered setting.config connections (delivered_on connections reply connection (said_by setting reply phase))
said_right setting connections reply connection Greeting found is p a e = absurd (false≢true e)
said_right setting connections reply connection Closed found is p a e = absurd (false≢true e)
said_right setting connections reply connection (Talking s) found is p a e =
    let sent = (reply_sent s reply setting.clock).channel in
    let new : Connection = record connection { phase = Talking sent } in
    record {
      agreed = λ q. at_insert (IsAgreedAt setting.config) connections.known reply.origin.conn new q (of_unchanged setting.config s sent (reply_unchanged s reply setting.clock) a) (p q);
      talks = λ q talks. at_insert (λ (o : Option Connection). has_channel o ≡ true) connections.known reply.origin.conn new q refl talks;
      opened = λ q. at_insert_at (λ (o : Option Connection). is_open_at o ≡ is_open connections q) connections.known reply.origin.conn new q
          (λ same. sym (ap (is_open connections) same ∙ ap is_open_at found ∙ is)) refl;
      lost = refl;
      fresh = λ f. fresh_at connections reply.origin.conn connection new found f;
    }

reply_right : (setting : Setting) (connections : Connections) (reply : Reply) (found : Option Connection) → get connections.known reply.origin.conn ≡ found → AreAgreed setting.config connections → IsAgreedAt setting.config found → has_channel found ≡ true →
    IsDelivered setting.config connections (delivered_to setting connections reply found)
reply_right setting connections reply None is p a e = absurd (false≢true e)
reply_right setting connections reply (Some connection) is p a e = said_right setting connections reply connection connection.phase is (open_at (Some connection) e) p a e

one_right : (setting : Setting) (connections : Connections) (reply : Reply) → AreAgreed setting.config connections → Talks connections reply.origin.conn → IsDelivered setting.config connections (delivered setting connections reply)
unfolding delivered
one_right setting connections reply p e = reply_right setting connections reply (get connections.known reply.origin.conn) refl p (p reply.origin.conn) e

still : (old new : Connections) (replies : List Reply) → ((conn : ℕ) → Talks old conn → Talks new conn) → AllByRecursion (λ (reply : Reply). Talks old reply.origin.conn) replies → AllByRecursion (λ (reply : Reply). Talks new reply.origin.conn) replies
still old new [] f p = tt
still old new (reply ∷ replies) f p = (f reply.origin.conn p.0, still old new replies f p.1)

-- replies on connections that talk are sent, and none is lost
pub delivered_right : (setting : Setting) (connections : Connections) (replies : List Reply) → AreAgreed setting.config connections → AllByRecursion (λ (reply : Reply). Talks connections reply.origin.conn) replies →
    IsDelivered setting.config connections (delivery_of setting connections replies)
delivered_right setting connections [] p all = record { agreed = p; talks = λ conn talks. talks; opened = λ conn. refl; lost = refl; fresh = λ f. f }
delivered_right setting connections (reply ∷ replies) p all =
    let first = delivered setting connections reply in
    let one = one_right setting connections reply p all.0 in
    let rest = delivered_right setting first.connections replies one.agreed (still connections first.connections replies one.talks all.1) in
    record {
      agreed = rest.agreed;
      talks = λ conn talks. rest.talks conn (one.talks conn talks);
      opened = λ conn. rest.opened conn ∙ one.opened conn;
      lost = ap (λ (rs : List Reply). rs ++ (delivery_of setting first.connections replies).lost) one.lost ∙ rest.lost;
      fresh = λ f. rest.fresh (one.fresh f);
    }

-- ---- openings and ends

module _ (config : Configuration) (connections : Connections) (conn : ℕ) where
  -- a new connection takes no other's place
  module _ (key : List ℕ) (phase : Phase) where
    abbrev New : Connection
    New = record { key = key; phase = phase }

    pub opened_agreed : IsAgreedIn config phase → AreAgreed config connections → AreAgreed config (known_as connections conn key phase)
    opened_agreed new p q = at_insert (IsAgreedAt config) connections.known conn New q new (p q)

    unknown : (q : ℕ) → Talks connections q → is_known connections q ≡ true
    unknown q talks = by (get connections.known q) talks
      where
        by : (o : Option Connection) → has_channel o ≡ true → is_some o ≡ true
        by None e = absurd (false≢true e)
        by (Some c) e = refl

    -- it is as open as its phase, and all others are as they were
    pub opened_open : (q : ℕ) → is_open (known_as connections conn key phase) q ≡ cond (eq_by_cmp nat_cmp q conn) (is_going_on phase) (is_open connections q)
    opened_open q = subst (λ (o : Option Connection). is_open_at o ≡ cond (eq_by_cmp nat_cmp q conn) (is_going_on phase) (is_open connections q))
        (sym (get-insert nat_cmp_total connections.known conn New q)) (by (eq_by_cmp nat_cmp q conn))
      where
        by : (b : Bool) → is_open_at (cond b (Some New) (get connections.known q)) ≡ cond b (is_going_on phase) (is_open connections q)
        by true = refl
        by false = refl

    pub opened_talks : IsFresh connections → is_new connections conn ≡ true → (q : ℕ) → Talks connections q → Talks (known_as connections conn key phase) q
    opened_talks fresh new q talks =
        at_insert_at (λ (o : Option Connection). has_channel o ≡ true) connections.known conn New q
        (λ same. absurd (false≢true (sym (fresh conn new) ∙ ap (is_known connections) (sym same) ∙ unknown q talks))) talks

    above : (greatest : Option ℕ) (q : ℕ) → is_above_all conn greatest ≡ true → nat_lt conn q ≡ true → is_above_all q greatest ≡ true
    above None q e f = refl
    above (Some g) q e f = grind (arith, nat_tests)

    pub opened_fresh : IsFresh connections → is_new connections conn ≡ true → IsFresh (known_as connections conn key phase)
    opened_fresh fresh new q e =
        at_insert_at (λ (o : Option Connection). is_some o ≡ false) connections.known conn New q
        (λ same. absurd (differs q e same)) (fresh q (above connections.greatest q new e))
      where
        differs : (q : ℕ) → nat_lt conn q ≡ true → q ≡ conn → ⊥
        differs q e same = grind (arith, nat_tests)

  pub gone_agreed : AreAgreed config connections → AreAgreed config (gone connections conn)
  gone_agreed p q = at_removed (IsAgreedAt config) connections.known conn q tt (p q)

  pub gone_talks : (other : ℕ) → other ≢ conn → Talks connections other → Talks (gone connections conn) other
  gone_talks other apart talks = ap has_channel (get_removed_elsewhere connections.known conn other apart) ∙ talks

  pub gone_open : (q : ℕ) → is_open (gone connections conn) q ≡ cond (eq_by_cmp nat_cmp q conn) false (is_open connections q)
  gone_open q = subst (λ (o : Option Connection). is_open_at o ≡ cond (eq_by_cmp nat_cmp q conn) false (is_open connections q))
      (sym (get-remove nat_cmp_total connections.known conn q)) (by (eq_by_cmp nat_cmp q conn))
    where
      by : (b : Bool) → is_open_at (cond b None (get connections.known q)) ≡ cond b false (is_open connections q)
      by true = refl
      by false = refl

  pub gone_fresh : IsFresh connections → IsFresh (gone connections conn)
  gone_fresh fresh q e = at_removed (λ (o : Option Connection). is_some o ≡ false) connections.known conn q refl (fresh q e)
