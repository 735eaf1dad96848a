-- A request that is read in two steps is the one that is read whole.
use Rattle.std.proofs.Common.{◌≡◌, List, ℕ, Result, Ok, Err, refl}
use Rattle.ua_types.specs.declared.node_id.NodeId.{NodeId}
use Rattle.ua_binary.specs.NodeIds.{node_id_reading}
use Rattle.ua_binary.specs.Reading.{Reading, go_on, ◌>>=◌, done}
use Rattle.ua_binary.specs.declared.fault.TakeFault.{TakeFault}
use Rattle.ua_messages.specs.Bodies.{only_value, message_of}
use Rattle.ua_messages.specs.Headers.{request_header_reading}
use Rattle.ua_messages.specs.Requests.{requested_reading, headed_by, headed_of, whole_by, request_by}
use Rattle.ua_messages.specs.declared.headers.RequestHeader.{RequestHeader}

pub in_two_steps : {F : Type 0} (reading : Reading F) (body : List ℕ) → message_of (requested_reading reading) body ≡ request_by reading (headed_of body)
unfolding message_of headed_of requested_reading
in_two_steps {F = F} reading body = by_id (node_id_reading body)
  where
    by_fields : (h : RequestHeader) (r : Result (F × List ℕ) TakeFault) →
        only_value (go_on (go_on r (λ fields. done (record { request_header = h; fields = fields }))) (λ m. done m)) ≡ whole_by h (only_value r)
    by_fields h (Ok x) = refl
    by_fields h (Err e) = refl

    by_header : (r : Result (RequestHeader × List ℕ) TakeFault) →
        only_value (go_on (go_on r (λ h. reading >>= (λ fields. done (record { request_header = h; fields = fields })))) (λ m. done m)) ≡ request_by reading (headed_by r)
    by_header (Ok h) = by_fields h.0 (reading h.1)
    by_header (Err e) = refl

    by_id : (r : Result (NodeId × List ℕ) TakeFault) →
        only_value (go_on r (λ id. requested_reading reading >>= (λ m. done m))) ≡ request_by reading (headed_by (go_on r (λ id. request_header_reading)))
    by_id (Ok id) = by_header (request_header_reading id.1)
    by_id (Err e) = refl
