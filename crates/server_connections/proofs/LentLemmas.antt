-- A connection that is lent to be changed in its place.
use Rattle.std.proofs.Common.{◌≡◌, ℕ, List, ◌++◌, Some, ap, sym, ◌∙◌}
use Rattle.std.specs.Ordering.{nat_cmp}
use Rattle.std.specs.FinMap.{FinMap, get, insert}
use Rattle.ua_transport.specs.declared.frame.Frame.{Frame}
use Rattle.ua_transport.specs.declared.frame.FrameFault.{FrameFault}
use Rattle.server_messages.specs.declared.out.Out.{Out}
use Rattle.server_messages.specs.declared.reply.Reply.{Reply}
use Rattle.server_messages.specs.declared.setting.Setting.{Setting}
use Rattle.server_connections.specs.declared.connection.Connection.{Connection}
use Rattle.server_connections.specs.declared.connection.Phase.{Phase}
use Rattle.server_connections.specs.declared.frame_outcome.FrameOutcome.{FrameOutcome}
use Rattle.server_connections.specs.Reactions.{Reaction, Counted, reaction, reaction_after, counted, counted_after, reaction_of, fault_reaction}
use Rattle.server_connections.specs.Connecting.{Connections, taking, taking_after, taking_by, taking_of, break_by, break_of, with_phase, refusing}
use Rattle.server_connections.specs.Delivering.{Said, said, said_after, said_by, sending, sending_after, delivered_to, delivered}
use Rattle.server_connections.specs.Shutting.{shut_by, shut_at, shut_one, said_behind, refusing_after}

module _ (inside old : Connections) (conn : ℕ) (connection : Connection) (known : FinMap nat_cmp Connection) (phase : Phase) (same : inside ≡ old)
    (there : get inside.known conn ≡ Some connection) (back : known ≡ insert inside.known conn (record connection { phase = phase })) where
  -- after a frame
  pub taken_back : (setting : Setting) (frame : Frame) (before after : List Out) (asked : FrameOutcome) (channels : ℕ)
      → counted channels (reaction phase after asked) ≡ counted_after before (reaction_of setting inside.channels conn connection.key frame connection.phase)
      → taking (record { known = known; greatest = inside.greatest; channels = channels }) after asked ≡ taking_after before (taking_of setting conn old frame)
  unfolding taking_of
  taken_back setting frame before after asked channels e =
      ap (λ m. taking (record { known = m; greatest = inside.greatest; channels = channels }) after asked) back
      ∙ ap (λ (x : Counted). taking (with_phase (record inside { channels = x.channels }) conn connection x.reaction.phase) x.reaction.outs x.reaction.asked) e
      ∙ ap (λ o. taking_after before (taking_by setting conn inside frame o)) (sym there)
      ∙ ap (λ (c : Connections). taking_after before (taking_of setting conn c frame)) same

  -- after what is no frame
  pub broken_back : (fault : FrameFault) (before after : List Out) (asked : FrameOutcome) → reaction phase after asked ≡ reaction_after before (fault_reaction conn fault)
      → record inside { known = known } ≡ (break_of conn old fault).connections
  unfolding break_of
  broken_back fault before after asked e =
      ap (λ m. record inside { known = m }) back
      ∙ ap (λ (x : Reaction). with_phase inside conn connection x.phase) e
      ∙ ap (λ o. (break_by conn inside fault o).connections) (sym there)
      ∙ ap (λ (c : Connections). (break_of conn c fault).connections) same

  -- after a reply
  pub said_back : (setting : Setting) (reply : Reply) (before after : List Out) → reply.origin.conn ≡ conn → said phase after ≡ said_after before (said_by setting reply connection.phase)
      → sending (record inside { known = known }) after ≡ sending_after before (delivered setting old reply)
  unfolding delivered
  said_back setting reply before after addressed e =
      ap (λ m. sending (record inside { known = m }) after) back
      ∙ ap (λ (x : Said). sending (with_phase inside conn connection x.phase) x.outs) e
      ∙ ap (λ k. sending (with_phase inside k connection (said_by setting reply connection.phase).phase) (before ++ (said_by setting reply connection.phase).outs)) (sym addressed)
      ∙ ap (λ o. sending_after before (delivered_to setting inside reply o)) (sym (ap (get inside.known) addressed ∙ there))
      ∙ ap (λ (c : Connections). sending_after before (delivered setting c reply)) same

  -- after the server shut down
  pub shut_back : (before after : List Out) → said phase after ≡ said_behind before (shut_by conn connection.phase) → refusing (record inside { known = known }) after ≡ refusing_after before (shut_one old conn)
  unfolding shut_one
  shut_back before after e =
      ap (λ m. refusing (record inside { known = m }) after) back
      ∙ ap (λ (x : Said). refusing (with_phase inside conn connection x.phase) x.outs) e
      ∙ ap (λ o. refusing_after before (shut_at inside conn o)) (sym there)
      ∙ ap (λ (c : Connections). refusing_after before (shut_one c conn)) same
