-- Responses that have one result for each thing that their request names (IEC 62541-4, section 5).
use Rattle.std.specs.Prelude.{ℕ, List, ◌++◌, Some}
use Rattle.ua_messages.specs.declared.results.Results.{Results}
use Rattle.ua_messages.specs.declared.headers.ResponseHeader.{ResponseHeader}
use Rattle.ua_binary.specs.Reading.{Reading, ◌>>=◌, done}
use Rattle.ua_binary.specs.Arrays.{array_reading, array_encoding}
use Rattle.ua_messages.specs.Diagnostics.{diagnostic_infos_reading, diagnostic_infos_encoding}
use Rattle.ua_messages.specs.Headers.{response_header_reading, response_header_encoding}

unfoldable pub results_reading : {A : Type 0} → Reading A → Reading (Results A)
results_reading element = do
  response_header ← response_header_reading
  results ← array_reading element
  diagnostic_infos ← diagnostic_infos_reading
  done (record {
    response_header = response_header;
    results = results;
    diagnostic_infos = diagnostic_infos;
  })

unfoldable pub results_encoding : {A : Type 0} → (A → List ℕ) → Results A → List ℕ
results_encoding element v =
    response_header_encoding v.response_header
    ++ array_encoding element v.results
    ++ diagnostic_infos_encoding v.diagnostic_infos

-- a response with these results, and no diagnostic infos
abbrev pub results_of : {A : Type 0} → ResponseHeader → List A → Results A
results_of header results = record { response_header = header; results = Some results; diagnostic_infos = record {} }
