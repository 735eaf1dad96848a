-- What is posted goes out, or a fault in its place: every reply has a channel, and a fault fits on each.
use Rattle.std.proofs.Common.{◌≡◌, ℕ, zero, suc, Bool, true, false, cond, List, [], ◌∷◌, ◌++◌, length, take, drop, Option, Some, None, Ok, Err, inl, inr, refl, sym, ap, subst, ◌∙◌}
use Rattle.std.specs.Prelude.{nat_lt, IsOk}
use Rattle.std.proofs.lemmas.Bool.{false≢true}
use Rattle.std.proofs.lemmas.List.Concat.{flat_map-append}
use Rattle.std.specs.FinMap.{get}
use Rattle.std.specs.List.{flat_map, AllByRecursion}
use Rattle.ua_types.specs.Configuration.{Configuration, IsConfigured}
use Rattle.ua_types.specs.Moments.{later}
use Rattle.ua_types.specs.declared.status.TheConstants.Status as status
use Rattle.ua_space.specs.Nodes.{SpaceState}
use Rattle.ua_messages.specs.ServiceFaults.{fault_body}
use Rattle.ua_transport.specs.Agreements.{AreInRange, IsAgreement, limits_of}
use Rattle.ua_transport.specs.declared.frame.ChunkType.{ChunkType}
use Rattle.ua_transport.specs.declared.frame.ChunkType.TheVariants.{Intermediate, Final}
use Rattle.ua_transport.specs.ChannelStates.{ChannelState}
use Rattle.ua_transport.specs.Cutting.{chunk_encoding, next_header, Cut, cut_after, last_cut, cut_within, cut_of, room_of, is_too_large, header_of, sent_by}
use Rattle.ua_transport.specs.declared.headers.ChunkHeader.{ChunkHeader}
use Rattle.ua_transport.specs.declared.send_fault.SendFault.{SendFault}
use Rattle.ua_transport.specs.declared.send_fault.SendFault.TheVariants.{TooLarge}
use Rattle.ua_types.specs.Answers.{Step, step}
use Rattle.server_messages.specs.declared.out.Out.{Out}
use Rattle.server_messages.specs.declared.reply.Reply.{Reply}
use Rattle.server_messages.specs.declared.setting.Setting.{Setting}
use Rattle.server_connections.specs.Coherent.{IsAgreedIn, IsAgreedAt, AreAgreed, is_talking, has_channel, Talks}
use Rattle.server_connections.specs.Delivering.{too_large_sent, reply_sent, said_by, delivered_to, delivered, delivery_of}
use Rattle.server_connections.specs.Reactions.{Sent, sent_nothing, sent_or, sends}
use Rattle.server_connections.specs.declared.connection.Connection.{Connection}
use Rattle.server_connections.specs.declared.connection.Phase.{Phase}
use Rattle.server_connections.specs.declared.connection.Phase.TheVariants.{Greeting, Talking, Closed}
use Rattle.server_connections.specs.Connecting.{Connections}
use Rattle.server_connections.proofs.CoherentLemmas.{delivered_right}
use Rattle.server_connections.proofs.FittingLemmas.{fault_fits}
use Rattle.ua_services.specs.Services.{serving_of, ticking_of, shutting_of}
use Rattle.ua_services.specs.Serving.{Serving}
use Rattle.server_core.specs.Coherent.{LosesNone, reached}
use Rattle.server_core.specs.Effects.{Effect, Do, Occurred, Lost, doing, occurring, losing}
use Rattle.server_core.specs.Running.{joined_effects}
use Rattle.server_core.specs.declared.event.Event.{Event}
use Rattle.server_core.specs.declared.parts.Core.{Core}
use Rattle.server_core.proofs.CoherentLemmas.{opening_right, reached_right}
use Rattle.server_laws.specs.Dealings.{Dealing, with_clock}
use Rattle.server_laws.specs.Postings.{Posting, channel_in, channel_of, postings, posted_at, GoesBy, IsSent, AnswersAreSent}
use Rattle.server_laws.proofs.Walking.{core_served, effects_served, Follows, walked}
use Rattle.ua_subscriptions.proofs.OwingRows.{all_append}

-- ---- no effect loses a reply, where together they lose none

each_loses_none : (xs ys : List Effect) → LosesNone (xs ++ ys) → LosesNone xs × LosesNone ys
each_loses_none [] ys e = (refl, e)
each_loses_none (Do out ∷ xs) ys e = each_loses_none xs ys e
each_loses_none (Occurred occurrence ∷ xs) ys e = each_loses_none xs ys e
each_loses_none (Lost reply ∷ xs) ys e = absurd (cc)

none_lost : (replies : List Reply) → LosesNone (losing replies) → replies ≡ []
none_lost [] e = refl
none_lost (reply ∷ replies) e = absurd (cc)

none_of_delivery : (core : Core) (s : Serving) → LosesNone (effects_served core s) → (delivery_of core.setting core.connections s.replies).lost ≡ []
none_of_delivery core s e =
    let d = delivery_of core.setting core.connections s.replies in
    none_lost d.lost (each_loses_none (doing d.outs) (losing d.lost) (each_loses_none (occurring s.occurrences) (doing d.outs ++ losing d.lost) e).1).1

both_lose_none : (xs ys : List Effect) → LosesNone xs → LosesNone ys → LosesNone (xs ++ ys)
both_lose_none [] ys p q = q
both_lose_none (Do out ∷ xs) ys p q = both_lose_none xs ys p q
both_lose_none (Occurred occurrence ∷ xs) ys p q = both_lose_none xs ys p q
both_lose_none (Lost reply ∷ xs) ys p q = absurd (cc)

joined_lose_none : (steps : List (List Effect)) → AllByRecursion LosesNone steps → LosesNone (joined_effects steps)
joined_lose_none [] h = refl
joined_lose_none (effects ∷ steps) h = both_lose_none effects (joined_effects steps) h.0 (joined_lose_none steps h.1)

-- ---- chunks

record HasChunks (chunks : List (List ℕ)) : Type 0 where
  first : List ℕ
  more : List (List ℕ)
  are : chunks ≡ first ∷ more

some_chunk : (n : ℕ) (last : ChunkType) (header : ChunkHeader) (room : ℕ) (body : List ℕ) → HasChunks (cut_within n last header room body).chunks
unfolding cut_within
some_chunk zero last header room body = record { first = chunk_encoding header last body; more = []; are = refl }
some_chunk (suc n) last header room body = by (nat_lt room (length body))
  where
    rest : Cut
    rest = cut_within n last (next_header header) room (drop room body)

    by : (b : Bool) → HasChunks (cond b (cut_after (chunk_encoding header Intermediate (take room body) ∷ []) rest) (last_cut last header body)).chunks
    by true = record { first = chunk_encoding header Intermediate (take room body); more = rest.chunks; are = refl }
    by false = record { first = chunk_encoding header last body; more = []; are = refl }

has_chunks : (last : ChunkType) (header : ChunkHeader) (room : ℕ) (body : List ℕ) → HasChunks (cut_of last header room body).chunks
unfolding cut_of
has_chunks last header room body = some_chunk (length body) last header room body

-- ---- a reply on its channel

module _ (setting : Setting) (reply : Reply) where
  abbrev posting : Option ChannelState → List Out → Posting
  posting channel outs = record { reply = reply; channel = channel; clock = setting.clock; outs = outs }

  module _ (s : ChannelState) (body : List ℕ) where
    abbrev cut : Cut
    cut = cut_of Final (header_of s reply.origin.id) (room_of s.agreed) body

    -- what is sent of it, or else that
    abbrev tried : Bool → Step (List (List ℕ)) SendFault ChannelState
    tried b = cond b (step (Err TooLarge) s) (sent_by s cut)

    -- where it isn't too large
    goes_by : (otherwise : Sent) → is_too_large s.agreed (length body) ≡ false → GoesBy s (posting (Some s) (sends reply.origin.conn (sent_or (tried false).answer (tried false).state otherwise).frames)) body
    goes_by otherwise e =
        let chunks = has_chunks Final (header_of s reply.origin.id) (room_of s.agreed) body in
        record {
          first = chunks.first;
          more = chunks.more;
          chunks = ap (λ (b : Bool). (tried b).answer) e ∙ ap Ok chunks.are;
          sent = ap (sends reply.origin.conn) chunks.are;
        }

  fault_goes : (s : ChannelState) → IsAgreement s.agreed → let fault = fault_body reply.origin.handle status.BAD_RESPONSE_TOO_LARGE setting.clock in
      GoesBy s (posting (Some s) (sends reply.origin.conn (too_large_sent s reply.origin setting.clock).frames)) fault
  unfolding too_large_sent
  fault_goes s agreed = by (is_too_large s.agreed (length fault)) refl (fault_fits s reply.origin.id reply.origin.handle status.BAD_RESPONSE_TOO_LARGE setting.clock agreed)
    where
      fault : List ℕ
      fault = fault_body reply.origin.handle status.BAD_RESPONSE_TOO_LARGE setting.clock

      by : (b : Bool) → is_too_large s.agreed (length fault) ≡ b → IsOk (tried s fault b).answer → GoesBy s (posting (Some s) (sends reply.origin.conn (sent_or (tried s fault b).answer (tried s fault b).state (sent_nothing (tried s fault b).state)).frames)) fault
      by true e ok = absurd (false≢true ok)
      by false e ok = goes_by s fault (sent_nothing s) e

  by_channel : (s : ChannelState) → IsAgreement s.agreed → IsSent (posting (Some s) (sends reply.origin.conn (reply_sent s reply setting.clock).frames))
  unfolding reply_sent
  by_channel s agreed = by (is_too_large s.agreed (length reply.body)) refl
    where
      by : (b : Bool) → is_too_large s.agreed (length reply.body) ≡ b →
          IsSent (posting (Some s) (sends reply.origin.conn (sent_or (tried s reply.body b).answer (tried s reply.body b).state (too_large_sent (tried s reply.body b).state reply.origin setting.clock)).frames))
      by true e = inr (ap (λ (b : Bool). (tried s reply.body b).answer) e, fault_goes s agreed)
      by false e = inl (goes_by s reply.body (too_large_sent s reply.origin setting.clock) e)

  module _ (connections : Connections) where
    in_phase : (phase : Phase) → IsAgreedIn setting.config phase → (said_by setting reply phase).lost ≡ [] → (is_talking phase ≡ true) × IsSent (posting (channel_in phase) (said_by setting reply phase).outs)
    in_phase Greeting agreed none = absurd (cc)
    in_phase Closed agreed none = absurd (cc)
    in_phase (Talking s) agreed none = (refl, by_channel s agreed.agreement)

    at : (found : Option Connection) → IsAgreedAt setting.config found → (delivered_to setting connections reply found).lost ≡ [] → (has_channel found ≡ true) × IsSent (posting (channel_of found) (delivered_to setting connections reply found).outs)
    at None agreed none = absurd (cc)
    at (Some connection) agreed none = in_phase connection.phase agreed none

    one_sent : AreAgreed setting.config connections → (delivered setting connections reply).lost ≡ [] → Talks connections reply.origin.conn × IsSent (posting (channel_of (get connections.known reply.origin.conn)) (delivered setting connections reply).outs)
    unfolding delivered
    one_sent agreed none = at (get connections.known reply.origin.conn) (agreed reply.origin.conn) none

no_front : (xs ys : List Reply) → xs ++ ys ≡ [] → (xs ≡ []) × (ys ≡ [])
no_front [] ys e = (refl, e)
no_front (x ∷ xs) ys e = absurd (cc)

all_sent : (setting : Setting) (replies : List Reply) (connections : Connections) → AreAgreed setting.config connections → (delivery_of setting connections replies).lost ≡ [] →
    AreAgreed setting.config (delivery_of setting connections replies).connections × AllByRecursion IsSent (postings setting connections replies)
all_sent setting [] connections agreed none = (agreed, tt)
all_sent setting (reply ∷ replies) connections agreed none =
    let first = delivered setting connections reply in
    let parts = no_front first.lost (delivery_of setting first.connections replies).lost none in
    let one = one_sent setting reply connections agreed parts.0 in
    let rest = all_sent setting replies first.connections (delivered_right setting connections (reply ∷ []) agreed (one.0, tt)).agreed parts.1 in
    (rest.0, (one.1, rest.1))

-- ---- a run

record Sends (before : Core) (ds : List Dealing) (effects : List Effect) (after : Core) : Type 0 where
  config : after.setting.config ≡ before.setting.config
  sent : AreInRange (limits_of before.setting.config) → AreAgreed before.setting.config before.connections → LosesNone effects →
      AreAgreed before.setting.config after.connections × AllByRecursion IsSent (flat_map posted_at ds)

served_sends : (core : Core) (s : Serving) → AreAgreed core.setting.config core.connections → LosesNone (effects_served core s) →
    AreAgreed core.setting.config (core_served core s).connections × AllByRecursion IsSent (postings core.setting core.connections s.replies ++ [])
served_sends core s agreed none =
    let all = all_sent core.setting s.replies core.connections agreed (none_of_delivery core s none) in
    (all.0, all_append IsSent (postings core.setting core.connections s.replies) [] all.1 tt)

follows : Follows Sends
follows = record {
  none = λ core. record { config = refl; sent = λ ranges agreed none. (agreed, tt) };
  next = λ a b c ds es xs ys h g. record {
    config = g.config ∙ h.config;
    sent = λ ranges agreed none.
        let parts = each_loses_none xs ys none in
        let first = h.sent ranges agreed parts.0 in
        let rest = subst (λ (config : Configuration). AreInRange (limits_of config) → AreAgreed config b.connections → LosesNone ys → AreAgreed config c.connections × AllByRecursion IsSent (flat_map posted_at es)) h.config g.sent ranges first.0 parts.1 in
        (rest.0, subst (AllByRecursion IsSent) (sym (flat_map-append posted_at ds es)) (all_append IsSent (flat_map posted_at ds) (flat_map posted_at es) first.1 rest.1));
  };
  aside = λ a b outs set. record { config = ap (λ (s : Setting). s.config) set.setting; sent = λ ranges agreed none. (set.agreed ranges agreed, tt) };
  serves = λ core request. record { config = refl; sent = λ ranges agreed none. served_sends core (serving_of core.setting request core.services) agreed none };
  ticks = λ core brought.
      let at = with_clock core (later core.setting.clock brought) in
      record { config = refl; sent = λ ranges agreed none. served_sends at (ticking_of at.setting at.services) agreed none };
  forgets = λ core conn. record { config = refl; sent = λ ranges agreed none. (agreed, tt) };
  ends = λ core. record { config = refl; sent = λ ranges agreed none. served_sends core (shutting_of core.setting core.services) agreed none };
}

pub answers_sent : (config : Configuration) (space : SpaceState) (events : List Event) → IsConfigured config → AnswersAreSent config space events
answers_sent config space events c =
    let ranges : AreInRange (limits_of config) = record { receive_size = c.receive_size; send_size = c.send_size; max_message = c.max_message; max_chunks = c.max_chunks } in
    let none = joined_lose_none (reached config space events).steps (reached_right config space events c).1 in
    ((walked Sends follows config space events).goes.sent ranges (opening_right config space ranges).sound.agreed none).1
