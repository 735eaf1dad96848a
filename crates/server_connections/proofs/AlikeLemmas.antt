-- What a connection's frames do depends on nothing of the other connections.
use Rattle.std.proofs.Common.{◌≡◌, ◌≢◌, ℕ, ◌==◌, Bool, true, false, cond, List, [], ◌∷◌, ◌++◌, filter, Option, Some, None, refl, sym, ◌∙◌, ap, subst}
use Rattle.std.proofs.lemmas.Bool.{false≢true, eqb-true, eq-eqb}
use Rattle.std.specs.FinMap.{get}
use Rattle.collections.proofs.NumberMaps.{get_inserted, get_inserted_elsewhere}
use Rattle.ua_transport.specs.declared.frame.Frame.{Frame}
use Rattle.ua_transport.specs.declared.frame.FrameFault.{FrameFault}
use Rattle.server_messages.specs.declared.reply.Reply.{Reply}
use Rattle.server_messages.specs.declared.setting.Setting.{Setting}
use Rattle.server_connections.specs.Apart.{SeesAlike, is_on, is_for}
use Rattle.server_connections.specs.Connecting.{Connections, Taking, reacted, taking_by, taking_of, break_by, break_of}
use Rattle.server_connections.specs.Delivering.{Delivery, reply_sent, said_by, delivered_to, delivered, delivery_of}
use Rattle.server_connections.specs.Reactions.{Counted, counted, sends, reaction_of, fault_reaction}
use Rattle.server_connections.specs.declared.connection.Connection.{Connection}
use Rattle.server_connections.specs.declared.connection.Phase.{Phase}
use Rattle.server_connections.specs.declared.connection.Phase.TheVariants.{Greeting, Talking, Closed}
use Rattle.server_messages.specs.declared.out.Out.TheVariants.{Send}

-- ---- frames

-- the same is left of the connection, the same goes out and the same is asked
pub record TakesAlike (conn : ℕ) (s t : Taking) : Type 0 where
  pub sees : SeesAlike conn s.connections t.connections
  pub outs : s.outs ≡ t.outs
  pub asked : s.asked ≡ t.asked

reacted_alike : (conn : ℕ) (a b : Connections) (connection : Connection) (x y : Counted) → x ≡ y → TakesAlike conn (reacted a conn connection x) (reacted b conn connection y)
reacted_alike conn a b connection x y e = record {
  sees = record {
    known = get_inserted a.known conn (record connection { phase = x.reaction.phase })
        ∙ ap (λ (c : Counted). let after : Connection = record connection { phase = c.reaction.phase } in Some after) e
        ∙ sym (get_inserted b.known conn (record connection { phase = y.reaction.phase }));
    channels = ap (λ (c : Counted). c.channels) e;
  };
  outs = ap (λ (c : Counted). c.reaction.outs) e;
  asked = ap (λ (c : Counted). c.reaction.asked) e;
}

taking_by_alike : (setting : Setting) (conn : ℕ) (a b : Connections) (frame : Frame) (found : Option Connection) → SeesAlike conn a b → TakesAlike conn (taking_by setting conn a frame found) (taking_by setting conn b frame found)
taking_by_alike setting conn a b frame None p = record { sees = p; outs = refl; asked = refl }
taking_by_alike setting conn a b frame (Some connection) p =
    reacted_alike conn a b connection _ _ (ap (λ (n : ℕ). reaction_of setting n conn connection.key frame connection.phase) p.channels)

pub taking_alike : (setting : Setting) (conn : ℕ) (a b : Connections) (frame : Frame) → SeesAlike conn a b → TakesAlike conn (taking_of setting conn a frame) (taking_of setting conn b frame)
unfolding taking_of
taking_alike setting conn a b frame p =
    subst (λ (found : Option Connection). TakesAlike conn (taking_by setting conn a frame (get a.known conn)) (taking_by setting conn b frame found)) p.known
    (taking_by_alike setting conn a b frame (get a.known conn) p)

break_by_alike : (conn : ℕ) (a b : Connections) (fault : FrameFault) (found : Option Connection) → SeesAlike conn a b → TakesAlike conn (break_by conn a fault found) (break_by conn b fault found)
break_by_alike conn a b fault None p = record { sees = p; outs = refl; asked = refl }
break_by_alike conn a b fault (Some connection) p =
    reacted_alike conn a b connection _ _ (ap (λ (n : ℕ). counted n (fault_reaction conn fault)) p.channels)

pub break_alike : (conn : ℕ) (a b : Connections) (fault : FrameFault) → SeesAlike conn a b → TakesAlike conn (break_of conn a fault) (break_of conn b fault)
unfolding break_of
break_alike conn a b fault p =
    subst (λ (found : Option Connection). TakesAlike conn (break_by conn a fault (get a.known conn)) (break_by conn b fault found)) p.known
    (break_by_alike conn a b fault (get a.known conn) p)

-- ---- replies

filter_joined : {A : Type 0} (p : A → Bool) (xs ys : List A) → filter p (xs ++ ys) ≡ filter p xs ++ filter p ys
filter_joined p [] ys = refl
filter_joined p (x ∷ xs) ys = by (p x) (filter_joined p xs ys)
  where
    by : (b : Bool) → filter p (xs ++ ys) ≡ filter p xs ++ filter p ys → cond b (x ∷ filter p (xs ++ ys)) (filter p (xs ++ ys)) ≡ cond b (x ∷ filter p xs) (filter p xs) ++ filter p ys
    by true e = ap (λ (zs : List _). x ∷ zs) e
    by false e = e

-- what is the same of two lists each is the same of both
pub both_filtered : {A : Type 0} (p : A → Bool) (ws xs ys zs : List A) → filter p ws ≡ filter p xs → filter p ys ≡ filter p zs → filter p (ws ++ ys) ≡ filter p (xs ++ zs)
both_filtered p ws xs ys zs e f =
    filter_joined p ws ys ∙ ap (λ (l : List _). l ++ filter p ys) e ∙ ap (λ (l : List _). filter p xs ++ l) f ∙ sym (filter_joined p xs zs)

-- the same goes out on the connection, and the same is lost of what was for it
pub record DeliversAlike (conn : ℕ) (d e : Delivery) : Type 0 where
  pub sees : SeesAlike conn d.connections e.connections
  pub outs : filter (is_on conn) d.outs ≡ filter (is_on conn) e.outs
  pub lost : filter (is_for conn) d.lost ≡ filter (is_for conn) e.lost

to_alike : (setting : Setting) (a b : Connections) (reply : Reply) (found : Option Connection) → SeesAlike reply.origin.conn a b → DeliversAlike reply.origin.conn (delivered_to setting a reply found) (delivered_to setting b reply found)
to_alike setting a b reply None p = record { sees = p; outs = refl; lost = refl }
to_alike setting a b reply (Some connection) p =
    let after : Connection = record connection { phase = (said_by setting reply connection.phase).phase } in
    record {
      sees = record { known = get_inserted a.known reply.origin.conn after ∙ sym (get_inserted b.known reply.origin.conn after); channels = p.channels };
      outs = refl;
      lost = refl;
    }

-- a reply for this connection
own_alike : (setting : Setting) (a b : Connections) (reply : Reply) → SeesAlike reply.origin.conn a b → DeliversAlike reply.origin.conn (delivered setting a reply) (delivered setting b reply)
unfolding delivered
own_alike setting a b reply p =
    subst (λ (found : Option Connection). DeliversAlike reply.origin.conn (delivered_to setting a reply (get a.known reply.origin.conn)) (delivered_to setting b reply found)) p.known
    (to_alike setting a b reply (get a.known reply.origin.conn) p)

none_sent : (conn other : ℕ) (frames : List (List ℕ)) → (other == conn) ≡ false → filter (is_on conn) (sends other frames) ≡ []
none_sent conn other [] e = refl
none_sent conn other (frame ∷ frames) e =
    let rest = filter (is_on conn) (sends other frames) in
    ap (λ (b : Bool). cond b (Send other frame ∷ rest) rest) e ∙ none_sent conn other frames e

none_lost : (conn : ℕ) (reply : Reply) → (reply.origin.conn == conn) ≡ false → filter (is_for conn) (reply ∷ []) ≡ []
none_lost conn reply e = ap (λ (b : Bool). cond b (reply ∷ []) []) e

-- a reply for another connection is nothing to this one
record LeavesAlone (conn : ℕ) (old : Connections) (d : Delivery) : Type 0 where
  known : get d.connections.known conn ≡ get old.known conn
  channels : d.connections.channels ≡ old.channels
  outs : filter (is_on conn) d.outs ≡ []
  lost : filter (is_for conn) d.lost ≡ []

said_elsewhere : (setting : Setting) (conn : ℕ) (reply : Reply) (phase : Phase) → (reply.origin.conn == conn) ≡ false →
    (filter (is_on conn) (said_by setting reply phase).outs ≡ []) × (filter (is_for conn) (said_by setting reply phase).lost ≡ [])
said_elsewhere setting conn reply Greeting e = (refl, none_lost conn reply e)
said_elsewhere setting conn reply Closed e = (refl, none_lost conn reply e)
said_elsewhere setting conn reply (Talking s) e = (none_sent conn reply.origin.conn (reply_sent s reply setting.clock).frames e, refl)

to_elsewhere : (setting : Setting) (conn : ℕ) (connections : Connections) (reply : Reply) (found : Option Connection) → (reply.origin.conn == conn) ≡ false → LeavesAlone conn connections (delivered_to setting connections reply found)
to_elsewhere setting conn connections reply None e = record { known = refl; channels = refl; outs = refl; lost = none_lost conn reply e }
to_elsewhere setting conn connections reply (Some connection) e =
    let said = said_by setting reply connection.phase in
    let none = said_elsewhere setting conn reply connection.phase e in
    let apart : conn ≢ reply.origin.conn = λ same. false≢true (sym e ∙ eq-eqb reply.origin.conn conn (sym same)) in
    record { known = get_inserted_elsewhere connections.known reply.origin.conn (record connection { phase = said.phase }) conn apart; channels = refl; outs = none.0; lost = none.1 }

leaves_alone : (setting : Setting) (conn : ℕ) (connections : Connections) (reply : Reply) → (reply.origin.conn == conn) ≡ false → LeavesAlone conn connections (delivered setting connections reply)
unfolding delivered
leaves_alone setting conn connections reply e = to_elsewhere setting conn connections reply (get connections.known reply.origin.conn) e

one_alike : (setting : Setting) (conn : ℕ) (a b : Connections) (reply : Reply) → SeesAlike conn a b → DeliversAlike conn (delivered setting a reply) (delivered setting b reply)
one_alike setting conn a b reply p = by (reply.origin.conn == conn) refl
  where
    by : (same : Bool) → (reply.origin.conn == conn) ≡ same → DeliversAlike conn (delivered setting a reply) (delivered setting b reply)
    by true e =
        let is = eqb-true reply.origin.conn conn e in
        subst (λ (n : ℕ). DeliversAlike n (delivered setting a reply) (delivered setting b reply)) is (own_alike setting a b reply (subst (λ (n : ℕ). SeesAlike n a b) (sym is) p))
    by false e =
        let x = leaves_alone setting conn a reply e in
        let y = leaves_alone setting conn b reply e in
        record {
          sees = record { known = x.known ∙ p.known ∙ sym y.known; channels = x.channels ∙ p.channels ∙ sym y.channels };
          outs = x.outs ∙ sym y.outs;
          lost = x.lost ∙ sym y.lost;
        }

pub delivery_alike : (setting : Setting) (conn : ℕ) (a b : Connections) (replies : List Reply) → SeesAlike conn a b → DeliversAlike conn (delivery_of setting a replies) (delivery_of setting b replies)
delivery_alike setting conn a b [] p = record { sees = p; outs = refl; lost = refl }
delivery_alike setting conn a b (reply ∷ replies) p =
    let da = delivered setting a reply in
    let db = delivered setting b reply in
    let one = one_alike setting conn a b reply p in
    let ra = delivery_of setting da.connections replies in
    let rb = delivery_of setting db.connections replies in
    let rest = delivery_alike setting conn da.connections db.connections replies one.sees in
    record {
      sees = rest.sees;
      outs = both_filtered (is_on conn) da.outs db.outs ra.outs rb.outs one.outs rest.outs;
      lost = both_filtered (is_for conn) da.lost db.lost ra.lost rb.lost one.lost rest.lost;
    }
