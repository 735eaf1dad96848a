-- What becomes of values over any calls is so over any events.
use Rattle.std.proofs.Common.{ℕ, List, ◌++◌, Option, Some, None, sym, ap, ◌∙◌, subst}
use Rattle.ua_types.specs.Configuration.{Configuration}
use Rattle.server_messages.specs.declared.fired.Fired.{Fired}
use Rattle.ua_space.specs.Nodes.{SpaceState}
use Rattle.ua_item_queue.specs.Fates.{GoesOn}
use Rattle.ua_monitored_items.specs.Items.{ItemsState}
use Rattle.ua_monitored_items.specs.Moves.{queue_at}
use Rattle.subscription_laws.specs.Fates.{account_at}
use Rattle.subscription_laws.specs.ItemCalls.{item_calls}
use Rattle.subscription_laws.specs.Runs.{Move}
use Rattle.subscription_laws.proofs.MessageContentLemmas.{messages_tell_takings, takings_are_what_was_sent}
use Rattle.subscription_laws.proofs.ValueFates.{those_wait, they_stay, all_are_made_of, sent_in_order, are_caused, have_their_causes, losses_are_marked, each_loss_is_marked, marks_what_follows}
use Rattle.server_core.specs.Coherent.{reached, IfRuns}
use Rattle.server_core.specs.declared.world.World.{World}
use Rattle.server_core.specs.declared.event.Event.{Event}
use Rattle.server_laws.specs.EventMoves.{moves_of}
use Rattle.server_laws.specs.Fates.{queue_moves_after, account_after, HoldsWhatWaits, HaveOneFate, StandInMessages, MarksItsLosses}
use Rattle.server_laws.specs.Tables.{rows_of_run, LeadTo}
use Rattle.server_laws.proofs.MessageLemmas.{more_moves}
use Rattle.server_laws.proofs.TableLemmas.{comes_by_moves}

holds_by : (config : Configuration) (moves : List Move) (number : ℕ) (rows : List Fired) (server : Option World) → IfRuns (LeadTo config moves rows) server →
    IfRuns (HoldsWhatWaits (account_at config moves number) number) server
holds_by config moves number rows None h = tt
holds_by config moves number rows (Some world) h = those_wait config moves number ∙ ap (λ (s : ItemsState). queue_at number s.items) h.items

module _ (config : Configuration) (space : SpaceState) (events : List Event) (number : ℕ) where
  abbrev moves : List Move
  moves = moves_of config space events

  fates_stay : (more : List Event) → GoesOn (account_after config space events number) (account_after config space (events ++ more) number)
  fates_stay more =
      let added = more_moves config space events more in
      subst (λ (all : List Move). GoesOn (account_at config moves number) (account_at config all number)) (sym added.1) (they_stay config moves number added.0)

  pub have_one_fate : HaveOneFate config space events number
  have_one_fate = record {
    all = all_are_made_of config moves number;
    waiting = let r = reached config space events in holds_by config moves number (rows_of_run r) r.server (comes_by_moves config space events);
    ordered = sent_in_order config moves number;
    for_good = fates_stay;
    caused = are_caused config (item_calls config moves) number;
    within = have_their_causes (queue_moves_after config space events number);
  }

  pub stand_in_messages : StandInMessages config space events number
  stand_in_messages = record { told = messages_tell_takings config moves; sent = takings_are_what_was_sent config moves number }

  pub marks_losses : MarksItsLosses config space events number
  marks_losses = record { told = losses_are_marked config moves number; at_once = each_loss_is_marked (queue_moves_after config space events number); from_then_on = marks_what_follows (queue_moves_after config space events number) }
