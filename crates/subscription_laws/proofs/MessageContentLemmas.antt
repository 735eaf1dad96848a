-- Each value that was sent stands in one message that a row made.
use Rattle.std.proofs.Common.{◌≡◌, ℕ, Bool, true, false, cond, List, [], ◌∷◌, ◌++◌, append_assoc, append-nil, map, drop, refl, sym, ap, ◌∙◌, subst, Some}
use Rattle.ua_types.specs.Configuration.{Configuration}
use Rattle.ua_types.specs.declared.data_value.DataValue.{DataValue}
use Rattle.ua_subscription_messages.specs.DataChangeMessages.{data_change_message}
use Rattle.ua_subscription_messages.specs.declared.publishing.MonitoredItemNotification.{MonitoredItemNotification}
use Rattle.ua_state_table.specs.declared.row.RowId.{RowId}
use Rattle.ua_state_table.specs.declared.row.RowId.TheVariants.{N2, N3, L1, K2}
use Rattle.ua_item_queue.specs.Sendings.{sent_of}
use Rattle.ua_item_queue.specs.declared.entry.Entry.{Entry}
use Rattle.ua_monitored_items.specs.Givings.{given_to, all_given, entries_of}
use Rattle.ua_monitored_items.specs.Items.{ItemsState, no_items}
use Rattle.ua_monitored_items.specs.ItemTables.{numbers_of}
use Rattle.ua_monitored_items.specs.Moves as item_moves
use Rattle.ua_monitored_items.proofs.Sent.{entries-append, notes_are_of_givings, givings_are_what_was_sent}
use Rattle.ua_subscriptions.specs.declared.messages.KeptMessage.{KeptMessage}
use Rattle.ua_subscriptions.specs.declared.publish_call.PublishCall.{PublishCall}
use Rattle.ua_subscriptions.specs.Firing.{row_of}
use Rattle.ua_subscriptions.specs.Messages.{number_after}
use Rattle.ua_subscriptions.specs.Scenes.{Scene, Noting, noting, note_sent, with_asked, dequeued, started, life_reset}
use Rattle.ua_subscriptions.specs.Tables.{Stage, scene_at}
use Rattle.subscription_laws.specs.Fates.{account_at}
use Rattle.std.specs.List.{flat_map}
use Rattle.std.proofs.lemmas.List.Concat.{flat_map-append}
use Rattle.subscription_laws.specs.Encounters.{Beside, CallsItems, Encounter, Meets, Does}
use Rattle.subscription_laws.specs.Actions.{rest_notings, notings}
use Rattle.subscription_laws.specs.ItemCalls.{note_call, row_calls, calls_at, calls_of, item_calls}
use Rattle.subscription_laws.specs.Messaging.{Made, made_of, made_at, moved_made, run_made}
use Rattle.subscription_laws.specs.Numbering.{note_made, messages_of}
use Rattle.subscription_laws.specs.Runs.{ItemsCall, Move, Ran, start, moved, of_run}
use Rattle.subscription_laws.specs.MessageContents.{Taken, taken_by, taken_from, all_taken, IsMadeOf, AreMadeOf, entries_sent}
use Rattle.subscription_laws.proofs.Folds.{alone}
use Rattle.subscription_laws.proofs.ItemsCalled.{after_call, after_calls, note_is, one_is, ItemsCome, follows_items, items_making}
use Rattle.subscription_laws.proofs.Walks.{Follows, FollowsMaking, Any, any_begins, walked}
use Rattle.subscription_laws.proofs.Owners.{note_own}

-- ---- takings behind others

taken-append : (xs ys : List item_moves.Move) (s : ItemsState) → taken_from s (xs ++ ys) ≡ taken_from s xs ++ taken_from (after_calls s xs) ys
taken-append [] ys s = refl
taken-append (x ∷ xs) ys s =
    ap (λ (ts : List Taken). taken_by s x ++ ts) (taken-append xs ys (after_call s x)) ∙ sym (append_assoc (taken_by s x) (taken_from (after_call s x) xs) (taken_from (after_calls (after_call s x) xs) ys))

told-append : (ms ns : List Made) (ts us : List Taken) → AreMadeOf ms ts → AreMadeOf ns us → AreMadeOf (ms ++ ns) (ts ++ us)
told-append [] ns [] us h k = k
told-append [] ns (t ∷ ts) us h k = absurd h
told-append (m ∷ ms) ns [] us h k = absurd h
told-append (m ∷ ms) ns (t ∷ ts) us h k = (h.0, told-append ms ns ts us h.1 k)

told_then : (ms ns : List Made) (s mid : ItemsState) (xs ys : List item_moves.Move) → mid ≡ after_calls s xs → AreMadeOf ms (taken_from s xs) → AreMadeOf ns (taken_from mid ys) → AreMadeOf (ms ++ ns) (taken_from s (xs ++ ys))
told_then ms ns s mid xs ys is h k =
    subst (AreMadeOf (ms ++ ns)) (sym (taken-append xs ys s))
    (told-append ms ns (taken_from s xs) (taken_from (after_calls s xs) ys) h (subst (λ (u : ItemsState). AreMadeOf ns (taken_from u ys)) is k))

-- ---- a row

note_told : (n : Noting) (own : ℕ) → n.round.own ≡ own → IsMadeOf (record { subscription = own; message = note_made n }) (record { subscription = n.round.own; givings = given_to n.items n.round.own n.subscription.notifications })
note_told n own is = record {
  subscription = sym is;
  clock = n.round.clock;
  bytes = ap (λ (notes : List MonitoredItemNotification). data_change_message (number_after n.subscription.number) n.round.clock notes)
      (notes_are_of_givings n.items.items n.subscription.notifications (numbers_of n.round.own n.items.items));
}

-- the items after a message are those after what it took
after_note : (n : Noting) (ms : List Made) (xs : List item_moves.Move) → AreMadeOf ms (taken_from (note_sent n).items xs) → AreMadeOf ms (taken_from (after_call n.items (note_call n)) xs)
after_note n ms xs h = subst (λ (s : ItemsState). AreMadeOf ms (taken_from s xs)) (note_is n) h

rest_told : (calls : List PublishCall) (n : Noting) (own : ℕ) → n.round.own ≡ own → AreMadeOf (made_of own (map note_made (rest_notings calls n))) (taken_from n.items (map note_call (rest_notings calls n)))
rest_told [] n own is = tt
rest_told (asked ∷ calls) n own is = by n.subscription.more (rest_told calls (note_sent (with_asked n asked)) own (note_own (with_asked n asked) ∙ is))
  where
    next : Noting
    next = note_sent (with_asked n asked)

    by : (more : Bool) → AreMadeOf (made_of own (map note_made (rest_notings calls next))) (taken_from next.items (map note_call (rest_notings calls next))) →
        (let ns = cond more (with_asked n asked ∷ rest_notings calls next) [] in AreMadeOf (made_of own (map note_made ns)) (taken_from n.items (map note_call ns)))
    by true h = (note_told (with_asked n asked) own is, after_note (with_asked n asked) (made_of own (map note_made (rest_notings calls next))) (map note_call (rest_notings calls next)) h)
    by false h = tt

notes_told : (calls : List PublishCall) (n : Noting) (own : ℕ) → n.round.own ≡ own → AreMadeOf (made_of own (map note_made (notings calls n))) (taken_from n.items (map note_call (notings calls n)))
notes_told calls n own is =
    (note_told n own is, after_note n (made_of own (map note_made (rest_notings calls (note_sent n)))) (map note_call (rest_notings calls (note_sent n))) (rest_told calls (note_sent n) own (note_own n ∙ is)))

-- and nothing behind them
notes_alone : (calls : List PublishCall) (n : Noting) → AreMadeOf (made_of n.round.own (map note_made (notings calls n) ++ [])) (taken_from n.items (map note_call (notings calls n) ++ []))
notes_alone calls n =
    alone (λ (ms : List KeptMessage). AreMadeOf (made_of n.round.own ms) (taken_from n.items (map note_call (notings calls n) ++ []))) (map note_made (notings calls n))
    (alone (λ (xs : List item_moves.Move). AreMadeOf (made_of n.round.own (map note_made (notings calls n))) (taken_from n.items xs)) (map note_call (notings calls n)) (notes_told calls n n.round.own refl))

row_told : (r : RowId) (c : Scene) → AreMadeOf (made_of c.round.own (messages_of r c)) (taken_from c.items (row_calls r c))
row_told N2 c = notes_alone c.part.requests (noting c.round (life_reset c.subscription) c.items)
row_told L1 c = notes_alone c.part.requests (noting c.round (life_reset c.subscription) c.items)
row_told N3 c = notes_alone (drop 1 c.part.requests) (noting (dequeued c.round c.part).round (started c.round (life_reset c.subscription)) c.items)
row_told K2 c = notes_alone (drop 1 c.part.requests) (noting (dequeued c.round c.part).round (started c.round (life_reset c.subscription)) c.items)
row_told r c = tt

-- ---- any call

-- the items come by their calls, and the messages are made of what those take
abbrev Tell : Stage → List Encounter → Stage → Type 0
Tell w es v = ItemsCome w es v × AreMadeOf (flat_map made_at es) (taken_from w.items (flat_map calls_at es))

-- of a row alone, with nothing behind it
one_tells : (c : Scene) → AreMadeOf (made_at (Meets c) ++ []) (taken_from c.items (calls_at (Meets c) ++ []))
one_tells c =
    subst (λ (ms : List Made). AreMadeOf ms (taken_from c.items (calls_at (Meets c) ++ []))) (sym (append-nil (made_at (Meets c))))
    (subst (λ (xs : List item_moves.Move). AreMadeOf (made_at (Meets c)) (taken_from c.items xs)) (sym (append-nil (calls_at (Meets c)))) (row_told (row_of c) c))

next_tells : (w v u : Stage) (es fs : List Encounter) → Tell w es v → Tell v fs u → Tell w (es ++ fs) u
next_tells w v u es fs h k = (
  follows_items.next w v u es fs h.0 k.0,
  subst (λ (xs : List item_moves.Move). AreMadeOf (flat_map made_at (es ++ fs)) (taken_from w.items xs)) (sym (flat_map-append calls_at es fs))
      (subst (λ (ms : List Made). AreMadeOf ms (taken_from w.items (flat_map calls_at es ++ flat_map calls_at fs))) (sym (flat_map-append made_at es fs))
      (told_then (flat_map made_at es) (flat_map made_at fs) w.items v.items (flat_map calls_at es) (flat_map calls_at fs) h.0 h.1 k.1)),
)

-- what is asked of the items beside the rows takes no values
beside_takes : (w : Stage) (b : Beside) → AreMadeOf [] (taken_from w.items (flat_map calls_at (Does w b ∷ [])))
beside_takes w (CallsItems number (Some (ItemsCall.Create nodes clock timestamps requests))) = tt
beside_takes w (CallsItems number (Some (ItemsCall.Modify timestamps requests))) = tt
beside_takes w (CallsItems number (Some (ItemsCall.SetMode nodes clock mode numbers))) = tt
beside_takes w (CallsItems number (Some (ItemsCall.Link triggering add remove))) = tt
beside_takes w (CallsItems number (Some (ItemsCall.Delete numbers))) = tt
beside_takes w b = tt

follows_tell : Follows Any Tell
follows_tell = record {
  rest = λ whose asked w n ns given. tt;
  none = λ w. (refl, tt);
  next = next_tells;
  passes = λ w n asked. (refl, tt);
  aside = λ w b fits. (follows_items.aside w b fits, beside_takes w b);
  one = λ whose asked w n ns s plain given meant found. (follows_items.one whose asked w n ns s plain given meant found, one_tells (scene_at w n asked s));
}

tell_making : FollowsMaking Tell
tell_making = record {
  refuses = λ session number settings enabled w. (items_making.refuses session number settings enabled w, tt);
  adds = λ r clock session settings enabled room. (items_making.adds r clock session settings enabled room, tt);
}

one_told : (r : Ran) (m : Move) → AreMadeOf (moved_made r m) (taken_from r.items (calls_of r m))
one_told r m = (walked Any Tell follows_tell tell_making r m (any_begins r m)).1

all_from : (moves : List Move) (r : Ran) → AreMadeOf (run_made r moves) (taken_from r.items (of_run calls_of r moves))
all_from [] r = tt
all_from (m ∷ ms) r =
    told_then (moved_made r m) (run_made (moved r m) ms) r.items (moved r m).items (calls_of r m) (of_run calls_of (moved r m) ms) (one_is r m) (one_told r m) (all_from ms (moved r m))

pub messages_tell_takings : (config : Configuration) (moves : List Move) → AreMadeOf (run_made (start config) moves) (all_taken config moves)
messages_tell_takings config moves = all_from moves (start config)

-- ---- what was sent

entries_are : (number : ℕ) (xs : List item_moves.Move) (s : ItemsState) → entries_sent number (taken_from s xs) ≡ entries_of number (all_given s xs)
entries_are number [] s = refl
entries_are number (item_moves.Move.TakeNotes subscription n ∷ xs) s =
    let after = after_call s (item_moves.Move.TakeNotes subscription n) in
    ap (λ (es : List (Entry DataValue)). entries_of number (given_to s subscription n) ++ es) (entries_are number xs after) ∙ sym (entries-append number (given_to s subscription n) (all_given after xs))
entries_are number (item_moves.Move.Create nodes clock subscription timestamps requests ∷ xs) s = entries_are number xs (after_call s (item_moves.Move.Create nodes clock subscription timestamps requests))
entries_are number (item_moves.Move.Modify subscription timestamps requests ∷ xs) s = entries_are number xs (after_call s (item_moves.Move.Modify subscription timestamps requests))
entries_are number (item_moves.Move.SetMode nodes clock subscription mode numbers ∷ xs) s = entries_are number xs (after_call s (item_moves.Move.SetMode nodes clock subscription mode numbers))
entries_are number (item_moves.Move.Link subscription triggering add remove ∷ xs) s = entries_are number xs (after_call s (item_moves.Move.Link subscription triggering add remove))
entries_are number (item_moves.Move.Delete subscription numbers ∷ xs) s = entries_are number xs (after_call s (item_moves.Move.Delete subscription numbers))
entries_are number (item_moves.Move.End subscription ∷ xs) s = entries_are number xs (after_call s (item_moves.Move.End subscription))
entries_are number (item_moves.Move.Show changed ∷ xs) s = entries_are number xs (after_call s (item_moves.Move.Show changed))

pub takings_are_what_was_sent : (config : Configuration) (moves : List Move) (number : ℕ) → entries_sent number (all_taken config moves) ≡ sent_of (account_at config moves number)
takings_are_what_was_sent config moves number =
    entries_are number (item_calls config moves) (no_items config) ∙ givings_are_what_was_sent config (item_calls config moves) number
