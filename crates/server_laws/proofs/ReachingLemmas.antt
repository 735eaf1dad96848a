-- The values that items queued, and the answers that bring them.
use Rattle.std.proofs.Common.{◌≡◌, ◌⊎◌, inl, inr, ℕ, Bool, List, [], ◌∷◌, ◌++◌, map, Option, Some, None, refl, sym, subst, ap, ◌∙◌}
use Rattle.std.specs.List.{AllByRecursion, flat_map}
use Rattle.ua_types.specs.Configuration.{Configuration}
use Rattle.ua_space.specs.Nodes.{SpaceState}
use Rattle.ua_types.specs.declared.data_value.DataValue.{DataValue}
use Rattle.ua_item_queue.specs.Fates.Fate.{WasLost, WasCleared}
use Rattle.ua_item_queue.specs.declared.entry.Entry.{Entry}
use Rattle.ua_monitored_items.specs.Givings.{entries_of}
use Rattle.ua_subscriptions.specs.declared.messages.KeptMessage.{KeptMessage}
use Rattle.server_messages.specs.declared.reply.Reply.{Reply}
use Rattle.subscription_laws.specs.ItemCalls.{item_calls}
use Rattle.subscription_laws.specs.MessageContents.{Taken, IsMadeOf, AreMadeOf, all_taken, entries_sent}
use Rattle.subscription_laws.specs.Messaging.{Made, IsAmong, messages_for}
use Rattle.subscription_laws.specs.Runs.{Move}
use Rattle.subscription_laws.specs.Tellings.{Telling, Told, Notifications, KeepAlive, TimedOut, Refused, answer_of, message_in, messages_in}
use Rattle.subscription_laws.proofs.Folds.{all_so}
use Rattle.subscription_laws.proofs.TellingRuns.{messages_told}
use Rattle.server_core.specs.Coherent.{reached, IfRuns}
use Rattle.server_core.specs.declared.event.Event.{Event}
use Rattle.server_core.specs.declared.world.World.{World}
use Rattle.server_laws.specs.EventMoves.{moves_of}
use Rattle.server_laws.specs.Fates.{account_after, queue_moves_after, HoldsWhatWaits, StandInMessages}
use Rattle.server_laws.specs.Messages.{made_by, KeepsWhatWasMade, GivesAgainWhatWasMade}
use Rattle.server_laws.specs.Moving.{StandIn}
use Rattle.server_laws.specs.Postings.{Posting, reply_posted, posted}
use Rattle.server_laws.specs.Reaching.{BroughtValue, brought_value, message_by, messages_by, values_by, brought_values, value_of, brought_in, IsAlone, IsBrought, ValuesHaveCome}
use Rattle.server_laws.specs.Tellings.{told_by}
use Rattle.server_laws.proofs.FateLemmas.{have_one_fate, stand_in_messages, marks_losses}
use Rattle.server_laws.proofs.DecidingLemmas.{is_caused_by, is_driven_out}
use Rattle.server_laws.proofs.MessageLemmas.{gives_first_bytes}
use Rattle.server_laws.proofs.PostingLemmas.{answers_go_out}
use Rattle.ua_subscriptions.proofs.OwingRows.{all_append}

-- ---- what answers bring

-- a value that one of these answers brings
record Comes (answers : List Telling) (b : BroughtValue) : Type 0 where
  more : Bool
  brings : b.answer.told ≡ Notifications b.message more
  there : IsAmong b.answer answers
  notes : IsMadeOf b.message b.taken

later : (answer : Telling) (answers : List Telling) (b : BroughtValue) → Comes answers b → Comes (answer ∷ answers) b
later answer answers b c = record { more = c.more; brings = c.brings; there = inr c.there; notes = c.notes }

-- those of one answer
of_one : (answer : Telling) (answers : List Telling) (message : Made) (more : Bool) (taken : Taken) → answer.told ≡ Notifications message more → IsMadeOf message taken → (values : List (Entry DataValue)) →
    AllByRecursion (Comes (answer ∷ answers)) (map (brought_value answer message taken) values)
of_one answer answers message more taken is made [] = tt
of_one answer answers message more taken is made (v ∷ vs) = (record { more = more; brings = is; there = inl refl; notes = made }, of_one answer answers message more taken is made vs)

-- the messages among the answers are made of what was taken, so each value comes; and the values are what was sent of the item, in order
module _ (number : ℕ) where
  record AreBroughtBy (answers : List Telling) (taken : List Taken) (brought : List BroughtValue) : Type 0 where
    come : AllByRecursion (Comes answers) brought
    sent : map value_of brought ≡ entries_sent number taken

  values_both : (xs ys : List BroughtValue) → map value_of (xs ++ ys) ≡ map value_of xs ++ map value_of ys
  values_both [] ys = refl
  values_both (x ∷ xs) ys = ap (λ vs. x.value ∷ vs) (values_both xs ys)

  values_of_one : (answer : Telling) (message : Made) (taken : Taken) (vs : List (Entry DataValue)) → map value_of (map (brought_value answer message taken) vs) ≡ vs
  values_of_one answer message taken [] = refl
  values_of_one answer message taken (v ∷ vs) = ap (λ rest. v ∷ rest) (values_of_one answer message taken vs)

  behind : (a : Telling) (answers : List Telling) (taken : List Taken) (brought : List BroughtValue) → AreBroughtBy answers taken brought → AreBroughtBy (a ∷ answers) taken brought
  behind a answers taken brought h = record { come = all_so (Comes answers) (Comes (a ∷ answers)) (later a answers) brought h.come; sent = h.sent }

  all_brought : (answers : List Telling) (taken : List Taken) → AreMadeOf (messages_in answers) taken → AreBroughtBy answers taken (brought_values number answers taken)
  all_brought [] [] h = record { come = tt; sent = refl }
  all_brought [] (t ∷ ts) h = absurd h
  all_brought (a ∷ others) taken h = by a.told refl taken h (λ left made. behind a others left (brought_values number others left) (all_brought others left made))
    where
      by : (what : Told) → a.told ≡ what → (taken : List Taken) → AreMadeOf (message_in what ++ messages_in others) taken →
          ((left : List Taken) → AreMadeOf (messages_in others) left → AreBroughtBy (a ∷ others) left (brought_values number others left)) →
          AreBroughtBy (a ∷ others) taken (values_by number (message_by a what ++ flat_map messages_by others) taken)
      by (Notifications m more) is [] made rest = absurd made
      by (Notifications m more) is (t ∷ ts) made rest =
          let entries = entries_of number t.givings in
          let mine = map (brought_value a m t) entries in
          let others_brought = brought_values number others ts in
          let left = rest ts made.1 in
          record {
            come = all_append (Comes (a ∷ others)) mine others_brought (of_one a others m more t is made.0 entries) left.come;
            sent = values_both mine others_brought ∙ ap (λ vs. vs ++ map value_of others_brought) (values_of_one a m t entries) ∙ ap (λ vs. entries ++ vs) left.sent;
          }
      by (KeepAlive subscription next) is taken made rest = rest taken made
      by (TimedOut note) is taken made rest = rest taken made
      by (Refused code) is taken made rest = rest taken made

-- ---- in a run

mapped : {A B : Type 0} (f : A → B) (x : A) (xs : List A) → IsAmong x xs → IsAmong (f x) (map f xs)
mapped f x [] i = absurd i
mapped f x (y ∷ ys) (inl e) = inl (ap f e)
mapped f x (y ∷ ys) (inr h) = inr (mapped f x ys h)

-- what stands among some, stands among those that have all of them
stands_among : (x : Reply) (xs ys : List Reply) → StandIn xs ys → IsAmong x xs → IsAmong x ys
stands_among x [] ys h i = absurd i
stands_among x (z ∷ zs) [] h i = absurd h
stands_among x (z ∷ zs) (y ∷ ys) h i = by h i (λ rest there. stands_among x zs ys rest there) (λ rest. stands_among x (z ∷ zs) ys rest i)
  where
    by : ((z ≡ y) × StandIn zs ys) ⊎ StandIn (z ∷ zs) ys → (x ≡ z) ⊎ IsAmong x zs → (StandIn zs ys → IsAmong x zs → IsAmong x ys) → (StandIn (z ∷ zs) ys → IsAmong x ys) → (x ≡ y) ⊎ IsAmong x ys
    by (inl (same, rest)) (inl is) f g = inl (is ∙ same)
    by (inl (same, rest)) (inr there) f g = inr (f rest there)
    by (inr rest) there f g = inr (g rest)

-- a posting of a reply
record HasPosting (reply : Reply) (ps : List Posting) : Type 0 where
  posting : Posting
  carries : posting.reply ≡ reply
  there : IsAmong posting ps

posting_of : (reply : Reply) (ps : List Posting) → IsAmong reply (map reply_posted ps) → HasPosting reply ps
posting_of reply [] i = absurd i
posting_of reply (p ∷ ps) (inl is) = record { posting = p; carries = sym is; there = inl refl }
posting_of reply (p ∷ ps) (inr i) = let h = posting_of reply ps i in record { posting = h.posting; carries = h.carries; there = inr h.there }

-- what is given under the number of a message that is alone is that message
alone_is_given : (m : Made) (made : List Made) (bytes : List ℕ) → IsAlone m made → IsAmong (record { number = m.message.number; bytes = bytes }) (messages_for m.subscription made) → bytes ≡ m.message.bytes
alone_is_given m made bytes alone among = ap (λ (x : KeptMessage). x.bytes) (alone (record { number = m.message.number; bytes = bytes }) among refl)

module _ (config : Configuration) (space : SpaceState) (events : List Event) where
  is_brought : (world : World) → KeepsWhatWasMade (made_by config space events) world → GivesAgainWhatWasMade (made_by config space events) world →
      (b : BroughtValue) → Comes (told_by config space events) b → IsBrought config space events world b
  is_brought world keeps again b c =
      let answer = answer_of b.answer in
      let ps = posted config space events in
      let h = posting_of answer ps (stands_among answer (map answer_of (told_by config space events)) (map reply_posted ps) (answers_go_out config space events).are_posted (mapped answer_of b.answer (told_by config space events) c.there)) in
      record {
        more = c.more;
        brings = c.brings;
        posting = h.posting;
        carries = h.carries;
        goes_out = h.there;
        notes = c.notes;
        kept = λ alone bytes is. alone_is_given b.message (made_by config space events) bytes alone (keeps b.message.subscription b.message.message.number bytes is);
        republished = λ alone clock session bytes is. alone_is_given b.message (made_by config space events) bytes alone (again clock session b.message.subscription b.message.message.number bytes is);
      }

-- ---- what has come of each

pub values_have_come : (config : Configuration) (space : SpaceState) (events : List Event) (number : ℕ) → IfRuns (ValuesHaveCome config space events number) (reached config space events).server
values_have_come config space events number =
    let again = gives_first_bytes config space events in
    all_three (reached config space events).server (have_one_fate config space events number).waiting again.kept again.republished
  where
    moves : List Move
    moves = moves_of config space events

    stands : StandInMessages config space events number
    stands = stand_in_messages config space events number

    come : AreBroughtBy number (told_by config space events) (all_taken config moves) (brought_in config space events number)
    come = all_brought number (told_by config space events) (all_taken config moves) (subst (λ (ms : List Made). AreMadeOf ms (all_taken config moves)) (sym (messages_told config moves)) stands.told)

    all_three : (server : Option World) → IfRuns (HoldsWhatWaits (account_after config space events number) number) server → IfRuns (KeepsWhatWasMade (made_by config space events)) server → IfRuns (GivesAgainWhatWasMade (made_by config space events)) server →
        IfRuns (ValuesHaveCome config space events number) server
    all_three None holds keeps gives = tt
    all_three (Some world) holds keeps gives = record {
      wait = holds;
      sent = come.sent ∙ stands.sent;
      brought = all_so (Comes (told_by config space events)) (IsBrought config space events world) (is_brought config space events world keeps gives) (brought_in config space events number) come.come;
      lost = λ place e. (is_driven_out (queue_moves_after config space events number) place e, is_caused_by config (item_calls config moves) number place WasLost e refl);
      cleared = λ place e. is_caused_by config (item_calls config moves) number place WasCleared e refl;
      marked = (marks_losses config space events number).told;
    }
