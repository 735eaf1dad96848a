-- Responses of calls that failed as a whole (ServiceFault, IEC 62541-4, section 7).
use Rattle.std.specs.Prelude.{ℕ, List}
use Rattle.ua_types.specs.declared.moment.Moment.{Moment}
use Rattle.ua_types.specs.declared.status.Status.{Status}
use Rattle.ua_messages.specs.declared.type_ids.TheConstants.{SERVICE_FAULT}
use Rattle.ua_messages.specs.declared.service_faults.ServiceFault.{ServiceFault}
use Rattle.ua_binary.specs.Reading.{Reading, ◌>>=◌, done}
use Rattle.ua_messages.specs.Headers.{response_header_reading, response_header_encoding, plain_header}
use Rattle.ua_messages.specs.Bodies.{body_encoding}

unfoldable pub service_fault_reading : Reading ServiceFault
service_fault_reading = do
  response_header ← response_header_reading
  done (record { response_header = response_header })

unfoldable pub service_fault_encoding : ServiceFault → List ℕ
service_fault_encoding v = response_header_encoding v.response_header

-- a fault's id and the header that says what failed
abbrev pub fault_body : ℕ → Status → Moment → List ℕ
fault_body handle status moment = body_encoding service_fault_encoding SERVICE_FAULT (record { response_header = plain_header handle status moment })
