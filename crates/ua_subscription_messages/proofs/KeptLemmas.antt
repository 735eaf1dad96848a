-- Responses round the bytes of a message.
use Rattle.std.proofs.Common.{◌≡◌, ℕ, Bool, List, ◌++◌, refl, append_assoc}
use Rattle.ua_types.specs.declared.status.Status.{Status}
use Rattle.ua_messages.specs.declared.headers.ResponseHeader.{ResponseHeader}
use Rattle.ua_messages.specs.declared.type_ids.TheConstants.{PUBLISH_RESPONSE, REPUBLISH_RESPONSE}
use Rattle.ua_messages.specs.Bodies.{body_encoding}
use Rattle.ua_subscription_messages.specs.declared.publishing.NotificationMessage.{NotificationMessage}
use Rattle.ua_subscription_messages.specs.Publishing.{notification_message_encoding, publish_response_encoding, republish_response_encoding}
use Rattle.ua_subscription_messages.specs.KeptMessages.{publish_body_around, publish_response_of, republish_body_around, republish_response_of}

-- appended field by field, it is appended as a whole
pub publish_joined : (id a b c d e f g : List ℕ) → ((((((id ++ a) ++ b) ++ c) ++ d) ++ e) ++ f) ++ g ≡ id ++ ((((((a ++ b) ++ c) ++ d) ++ e) ++ f) ++ g)
publish_joined id a b c d e f g = simp append_assoc

pub republish_joined : (id a b : List ℕ) → (id ++ a) ++ b ≡ id ++ (a ++ b)
republish_joined id a b = append_assoc id a b

-- round the encoding of a message, it is the encoding of the response
pub publish_is_response : (header : ResponseHeader) (subscription : ℕ) (numbers : List ℕ) (more : Bool) (bytes : List ℕ) (results : List Status) (m : NotificationMessage)
    → bytes ≡ notification_message_encoding m
    → publish_body_around header subscription numbers more bytes results ≡ body_encoding publish_response_encoding PUBLISH_RESPONSE (publish_response_of header subscription numbers more m results)
unfolding publish_body_around publish_response_encoding
publish_is_response header subscription numbers more bytes results m e = rw e refl

pub republish_is_response : (header : ResponseHeader) (bytes : List ℕ) (m : NotificationMessage)
    → bytes ≡ notification_message_encoding m
    → republish_body_around header bytes ≡ body_encoding republish_response_encoding REPUBLISH_RESPONSE (republish_response_of header m)
unfolding republish_body_around republish_response_encoding
republish_is_response header bytes m e = rw e refl
