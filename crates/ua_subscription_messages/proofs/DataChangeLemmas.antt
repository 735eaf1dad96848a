-- A message with values of items: its front, its notifications one after the other, and the two numbers that are put in at the end.
use Rattle.std.proofs.Common.{◌≡◌, ◌≤◌, ℕ, ◌+◌, ◌-◌, arith, List, [], ◌∷◌, ◌++◌, length, take, drop, refl, sym, ap, ◌∙◌, append_assoc, append-nil}
use Rattle.std.proofs.lemmas.List.{length-append, length-drop, length-take, take-append-drop, take_at, drop_at}
use Rattle.std.proofs.lemmas.List.Concat.{flat_map-cons}
use Rattle.std.specs.List.{flat_map}
use Rattle.std.specs.Int.{w32, to_le_bytes}
use Rattle.ua_types.specs.NodeIds.{numeric_id}
use Rattle.ua_types.specs.declared.moment.Moment.{Moment}
use Rattle.ua_binary.specs.Arrays.{array_encoding}
use Rattle.ua_binary.specs.ExtensionObjects.{extension_object_encoding}
use Rattle.ua_binary.specs.NodeIds.{node_id_encoding}
use Rattle.ua_binary.specs.Numbers.{number_encoding, byte_encoding}
use Rattle.ua_binary.specs.Scalars.{moment_encoding}
use Rattle.ua_binary.specs.Texts.{byte_string_encoding}
use Rattle.ua_messages.specs.Diagnostics.{diagnostic_infos_encoding}
use Rattle.ua_messages.specs.declared.type_ids.TheConstants.{DATA_CHANGE_NOTIFICATION}
use Rattle.ua_messages.proofs.SizedLemmas.{four_bytes}
use Rattle.ua_subscription_messages.specs.DataChangeMessages.{MessageDraft, front_encoding, begun, with_note, with_notes, data_change_message}
use Rattle.ua_subscription_messages.specs.Publishing.{notification_message_encoding, monitored_item_notification_encoding, data_change_notification_encoding}
use Rattle.ua_subscription_messages.specs.declared.publishing.MonitoredItemNotification.{MonitoredItemNotification}

abbrev Bytes : Type 0
Bytes = List ℕ

-- the fields of its front, and eight bytes behind them
pub begins : (number : ℕ) (time : Moment) (all eight : Bytes) (at : ℕ)
    → at ≡ length ((((number_encoding w32 number ++ moment_encoding time) ++ number_encoding w32 1) ++ node_id_encoding (numeric_id 0 DATA_CHANGE_NOTIFICATION)) ++ byte_encoding 1)
    → all ≡ ((((number_encoding w32 number ++ moment_encoding time) ++ number_encoding w32 1) ++ node_id_encoding (numeric_id 0 DATA_CHANGE_NOTIFICATION)) ++ byte_encoding 1) ++ eight
    → length eight ≡ 8 → record { front = take at all; notes = drop (at + 8) all; count = 0 } ≡ begun number time
unfolding front_encoding
begins number time all eight at here is eight_long =
    let fields : Bytes = (((number_encoding w32 number ++ moment_encoding time) ++ number_encoding w32 1) ++ node_id_encoding (numeric_id 0 DATA_CHANGE_NOTIFICATION)) ++ byte_encoding 1 in
    let front : take at all ≡ fields = ap (take at) is ∙ take_at fields eight at (sym here) in
    let none : drop (at + 8) all ≡ [] =
    ap (drop (at + 8)) (is ∙ sym (append-nil (fields ++ eight))) ∙ drop_at (fields ++ eight) [] (at + 8) (omega (arith, here, eight_long, length-append fields eight)) in
    let joined : fields ≡ front_encoding number time = simp append_assoc in
    rw (front, none, joined) refl

record IsWritten (draft after : MessageDraft) (notes : List MonitoredItemNotification) : Type 0 where
  front : after.front ≡ draft.front
  text : after.notes ≡ draft.notes ++ flat_map monitored_item_notification_encoding notes
  count : after.count ≡ draft.count + length notes

written : (draft : MessageDraft) (notes : List MonitoredItemNotification) → IsWritten draft (with_notes draft notes) notes
written draft [] = record { front = refl; text = sym (append-nil draft.notes); count = omega arith }
written draft (note ∷ notes) =
    let rest = written (with_note draft note) notes in
    let text =
    rest.text ∙ append_assoc draft.notes (monitored_item_notification_encoding note) (flat_map monitored_item_notification_encoding notes)
    ∙ ap (λ (bytes : Bytes). draft.notes ++ bytes) (sym (flat_map-cons monitored_item_notification_encoding note notes)) in
    let counted = rest.count in
    record { front = rest.front; text = text; count = omega (arith, counted) }

-- two numbers take the places of eight bytes
two_in_place : (front first second rest one two all once : Bytes) (at : ℕ) → length front ≡ at → length first ≡ 4 → length second ≡ 4 → length one ≡ 4
    → all ≡ front ++ (first ++ (second ++ rest)) → once ≡ take at all ++ (one ++ drop (at + 4) all)
    → take (at + 4) once ++ (two ++ drop ((at + 4) + 4) once) ≡ front ++ (one ++ (two ++ rest))
two_in_place front first second rest one two all once at here first_long second_long one_long is put =
    let before : take at all ≡ front = ap (take at) is ∙ take_at front (first ++ (second ++ rest)) at here in
    let behind : drop (at + 4) all ≡ second ++ rest =
    ap (drop (at + 4)) (is ∙ sym (append_assoc front first (second ++ rest))) ∙ drop_at (front ++ first) (second ++ rest) (at + 4) (omega (arith, here, first_long, length-append front first)) in
    let now : once ≡ (front ++ one) ++ (second ++ rest) = put ∙ rw (before, behind) (sym (append_assoc front one (second ++ rest))) in
    let kept : take (at + 4) once ≡ front ++ one =
    ap (take (at + 4)) now ∙ take_at (front ++ one) (second ++ rest) (at + 4) (omega (arith, here, one_long, length-append front one)) in
    let left : drop ((at + 4) + 4) once ≡ rest =
    ap (drop ((at + 4) + 4)) (now ∙ sym (append_assoc (front ++ one) second rest))
    ∙ drop_at ((front ++ one) ++ second) rest ((at + 4) + 4) (omega (arith, here, one_long, second_long, length-append front one, length-append (front ++ one) second)) in
    rw (kept, left) (append_assoc front one (two ++ rest))

-- written so, it is the message
joined : (number : ℕ) (time : Moment) (notes : List MonitoredItemNotification)
    → front_encoding number time
    ++ (number_encoding w32 (length (number_encoding w32 (length notes) ++ (flat_map monitored_item_notification_encoding notes ++ diagnostic_infos_encoding (record {}))))
    ++ (number_encoding w32 (length notes) ++ (flat_map monitored_item_notification_encoding notes ++ diagnostic_infos_encoding (record {}))))
    ≡ data_change_message number time notes
unfolding data_change_message notification_message_encoding array_encoding extension_object_encoding byte_string_encoding data_change_notification_encoding front_encoding
joined number time notes = simp (append_assoc, append-nil)

-- once no notification follows, its length and their number are put in
pub finishes : (bytes all once : Bytes) (at count size : ℕ) (number : ℕ) (time : Moment) (notes : List MonitoredItemNotification) → at + 8 ≤ length bytes
    → record { front = take at bytes; notes = drop (at + 8) bytes; count = count } ≡ with_notes (begun number time) notes
    → all ≡ bytes ++ diagnostic_infos_encoding (record {}) → size ≡ length all - (at + 4) → once ≡ take at all ++ (to_le_bytes w32 size ++ drop (at + 4) all)
    → take (at + 4) once ++ (to_le_bytes w32 count ++ drop ((at + 4) + 4) once) ≡ data_change_message number time notes
unfolding number_encoding
finishes bytes all once at count size number time notes room is ends sized put =
    let text : Bytes = flat_map monitored_item_notification_encoding notes in
    let end : Bytes = diagnostic_infos_encoding (record {}) in
    let front : Bytes = take at bytes in
    let behind : Bytes = drop at bytes in
    let eight : Bytes = take 8 behind in
    let told : Bytes = drop 8 behind in
    let draft = written (begun number time) notes in
    let front_is : front ≡ front_encoding number time = ap (λ (d : MessageDraft). d.front) is ∙ draft.front in
    let counted = draft.count in
    let count_is : count ≡ length notes = ap (λ (d : MessageDraft). d.count) is ∙ omega (arith, counted) in
    let front_long : length front ≡ at = omega (arith, room, length-take at bytes) in
    let behind_long = length-drop at bytes in
    let eight_long : length eight ≡ 8 = omega (arith, room, behind_long, length-take 8 behind) in
    let parts : bytes ≡ (front ++ eight) ++ told =
    sym (take-append-drop at bytes) ∙ ap (λ (xs : Bytes). front ++ xs) (sym (take-append-drop 8 behind)) ∙ sym (append_assoc front eight told) in
    let told_is : told ≡ text =
    sym (ap (drop (at + 8)) parts ∙ drop_at (front ++ eight) told (at + 8) (omega (arith, front_long, eight_long, length-append front eight)))
    ∙ ap (λ (d : MessageDraft). d.notes) is ∙ draft.text in
    let first : Bytes = take 4 eight in
    let second : Bytes = drop 4 eight in
    let first_long : length first ≡ 4 = omega (arith, eight_long, length-take 4 eight) in
    let second_long : length second ≡ 4 = omega (arith, eight_long, length-drop 4 eight) in
    let whole : all ≡ front ++ (first ++ (second ++ (text ++ end))) =
    ends ∙ ap (λ (xs : Bytes). xs ++ end) (parts ∙ ap (λ (xs : Bytes). (front ++ eight) ++ xs) told_is)
    ∙ ap (λ (xs : Bytes). ((front ++ xs) ++ text) ++ end) (sym (take-append-drop 4 eight))
    ∙ simp append_assoc in
    let body : Bytes = number_encoding w32 (length notes) ++ (text ++ end) in
    let size_is : size ≡ length body =
    omega (arith, sized, ap length whole, front_long, first_long, second_long, four_bytes (length notes), length-append front (first ++ (second ++ (text ++ end))), length-append first (second ++ (text ++ end)), length-append second (text ++ end), length-append (number_encoding w32 (length notes)) (text ++ end)) in
    two_in_place front first second (text ++ end) (to_le_bytes w32 size) (to_le_bytes w32 count) all once at front_long first_long second_long (four_bytes size) whole put
    ∙ rw (front_is, size_is, count_is) refl
    ∙ joined number time notes
