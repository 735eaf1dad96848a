-- One row fires for each subscription that is met.
use Rattle.std.proofs.Common.{◌≡◌, List, [], ◌∷◌, ◌++◌, append_assoc, append-nil, sym, ap, ◌∙◌}
use Rattle.std.proofs.lemmas.List.Concat.{flat_map-append}
use Rattle.std.specs.List.{flat_map}
use Rattle.server_messages.specs.declared.fired.Fired.{Fired}
use Rattle.ua_subscriptions.specs.Making.{refused_one, added}
use Rattle.ua_subscriptions.specs.Named.{all_refused}
use Rattle.ua_subscriptions.specs.Tables.{Stage}
use Rattle.subscription_laws.specs.Encounters.{Beside, CallsItems, beside, Encounter, Does, rows_at, rows_of}
use Rattle.subscription_laws.specs.Runs.{Move, Ran, moved}
use Rattle.subscription_laws.proofs.Firings.{fired_rows}
use Rattle.subscription_laws.proofs.Walks.{left_is, Follows, FollowsMaking, Any, any_begins, walked}

abbrev Rows : Stage → List Encounter → Stage → Type 0
Rows w es v = v.round.rows ≡ w.round.rows ++ flat_map rows_at es

rows_beside : (w : Stage) (b : Beside) → Rows w (Does w b ∷ []) (beside w b)
unfolding all_refused
rows_beside w (CallsItems number asked) = sym (append-nil w.round.rows)
rows_beside w b = sym (append-nil w.round.rows)

follows_rows : Follows Any Rows
follows_rows = record {
  rest = λ whose asked w n ns given. tt;
  none = λ w. sym (append-nil w.round.rows);
  next = λ w v u es fs p q.
      q ∙ ap (λ (rows : List Fired). rows ++ flat_map rows_at fs) p ∙ append_assoc w.round.rows (flat_map rows_at es) (flat_map rows_at fs) ∙ ap (λ (rows : List Fired). w.round.rows ++ rows) (sym (flat_map-append rows_at es fs));
  passes = λ w n asked. sym (append-nil w.round.rows);
  aside = λ w b fits. rows_beside w b;
  one = λ whose asked w n ns s plain given meant found. fired_rows _;
}

follows_making : FollowsMaking Rows
unfolding refused_one added
follows_making = record { refuses = λ session number settings enabled w. fired_rows _; adds = λ r clock session settings enabled room. fired_rows _ }

pub one_row_each : (r : Ran) (m : Move) → (moved r m).rows ≡ r.rows ++ rows_of r m
one_row_each r m = (left_is r m).rows ∙ ap (λ (rows : List Fired). r.rows ++ rows) (walked Any Rows follows_rows follows_making r m (any_begins r m))
