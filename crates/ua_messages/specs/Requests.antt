-- Requests: a header (RequestHeader, IEC 62541-4, section 7), and behind it the fields of their kind.
use Rattle.std.specs.Prelude.{ℕ, List, ◌++◌, Result, Ok, Err}
use Rattle.ua_messages.specs.declared.headers.RequestHeader.{RequestHeader}
use Rattle.ua_messages.specs.declared.requests.Requested.{Requested}
use Rattle.ua_binary.specs.declared.fault.TakeFault.{TakeFault}
use Rattle.ua_binary.specs.NodeIds.{node_id_reading}
use Rattle.ua_binary.specs.Reading.{Reading, ◌>>=◌, done}
use Rattle.ua_messages.specs.Bodies.{only_value}
use Rattle.ua_messages.specs.Headers.{request_header_reading, request_header_encoding}

unfoldable pub requested_reading : {F : Type 0} → Reading F → Reading (Requested F)
requested_reading reading = do
  request_header ← request_header_reading
  fields ← reading
  done (record { request_header = request_header; fields = fields })

unfoldable pub requested_encoding : {F : Type 0} → (F → List ℕ) → Requested F → List ℕ
requested_encoding encoding v =
    request_header_encoding v.request_header
    ++ encoding v.fields

-- ---- a request's body, read in two steps

-- the header of a request, and the bytes behind it, in which the fields of its kind stand
pub record Headed : Type 0 where
  pub header : RequestHeader
  pub fields : List ℕ

abbrev pub headed_by : Result (RequestHeader × List ℕ) TakeFault → Result Headed TakeFault
headed_by (Ok x) = Ok (record { header = x.0; fields = x.1 })
headed_by (Err e) = Err e

-- the header that a body has, whatever the id before it is
unfoldable pub headed_of : List ℕ → Result Headed TakeFault
headed_of body = headed_by ((do
  id ← node_id_reading
  request_header_reading) body)

-- the fields that these bytes begin with; bytes after the last field are ignored
abbrev pub fields_of : {F : Type 0} → Reading F → List ℕ → Result F TakeFault
fields_of reading bytes = only_value (reading bytes)

-- a whole request, of its header and what is read behind it
abbrev pub whole_by : {F : Type 0} → RequestHeader → Result F TakeFault → Result (Requested F) TakeFault
whole_by header (Ok fields) = Ok (record { request_header = header; fields = fields })
whole_by header (Err e) = Err e

-- a request, of its header and the bytes behind it
abbrev pub request_by : {F : Type 0} → Reading F → Result Headed TakeFault → Result (Requested F) TakeFault
request_by reading (Ok headed) = whole_by headed.header (fields_of reading headed.fields)
request_by reading (Err e) = Err e
