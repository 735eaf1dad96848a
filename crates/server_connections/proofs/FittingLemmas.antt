-- Answers that always fit: the fault in the place of a larger answer, and the answer that opens a channel.
use Rattle.std.proofs.Common.{◌≡◌, ℕ, length, IsOk, refl, arith}
use Rattle.server_messages.specs.declared.setting.Setting.{Setting}
use Rattle.ua_types.specs.declared.moment.Moment.{Moment}
use Rattle.ua_types.specs.declared.status.Status.{Status}
use Rattle.ua_binary.specs.Numbers.{number_encoding, signed_encoding}
use Rattle.ua_binary.specs.Scalars.{moment_encoding, status_encoding}
use Rattle.ua_binary.specs.Texts.{byte_string_encoding}
use Rattle.ua_binary.specs.Arrays.{array_encoding}
use Rattle.ua_binary.specs.NodeIds.{node_id_encoding}
use Rattle.ua_binary.specs.ExtensionObjects.{extension_object_encoding}
use Rattle.ua_messages.specs.Diagnostics.{diagnostic_info_encoding}
use Rattle.ua_messages.specs.Headers.{response_header_encoding}
use Rattle.ua_messages.specs.SecureChannels.{open_secure_channel_response_encoding}
use Rattle.ua_messages.specs.ServiceFaults.{service_fault_encoding, fault_body}
use Rattle.ua_transport.specs.Agreements.{IsAgreement}
use Rattle.ua_transport.specs.ChannelStates.{ChannelState}
use Rattle.ua_transport.specs.Cutting.{send_of, send_opening_of}
use Rattle.ua_transport.proofs.FittingLemmas.{fits, opening_fits}
use Rattle.std.specs.Prelude.{Option, Some, None}
use Rattle.ua_types.specs.Configuration.{Configuration}
use Rattle.server_connections.specs.Coherent.{IsAgreedIn, IsAgreedAt, AlwaysFitIn, AlwaysFitAt}
use Rattle.server_connections.specs.declared.connection.Connection.{Connection}
use Rattle.server_connections.specs.declared.connection.Phase.{Phase}
use Rattle.server_connections.specs.declared.connection.Phase.TheVariants.{Greeting, Talking, Closed}
use Rattle.server_connections.specs.Reactions.{opening_body}

fault_length : (handle : ℕ) (code : Status) (clock : Moment) → length (fault_body handle code clock) ≡ 28
unfolding node_id_encoding service_fault_encoding response_header_encoding moment_encoding signed_encoding number_encoding status_encoding diagnostic_info_encoding array_encoding extension_object_encoding
fault_length handle code clock = refl

pub fault_fits : (s : ChannelState) (id handle : ℕ) (code : Status) (clock : Moment) → IsAgreement s.agreed → IsOk (send_of s id (fault_body handle code clock)).answer
fault_fits s id handle code clock a =
    fits s id (fault_body handle code clock) a (omega (arith, fault_length handle code clock))

opening_body_length : (setting : Setting) (handle channel_id token_id : ℕ) → length (opening_body setting handle channel_id token_id) ≡ 56
unfolding opening_body node_id_encoding open_secure_channel_response_encoding response_header_encoding moment_encoding signed_encoding number_encoding status_encoding diagnostic_info_encoding array_encoding extension_object_encoding byte_string_encoding
opening_body_length setting handle channel_id token_id = refl

pub opening_answer_fits : (s : ChannelState) (id : ℕ) (setting : Setting) (handle channel_id token_id : ℕ) → IsAgreement s.agreed →
    IsOk (send_opening_of s id (opening_body setting handle channel_id token_id)).answer
opening_answer_fits s id setting handle channel_id token_id a =
    opening_fits s id (opening_body setting handle channel_id token_id) a (omega (arith, opening_body_length setting handle channel_id token_id))

-- ---- on every connection that is agreed on

fits_in : (config : Configuration) (phase : Phase) → IsAgreedIn config phase → AlwaysFitIn phase
fits_in config Greeting p = tt
fits_in config Closed p = tt
fits_in config (Talking s) p = record {
  faults = λ id handle code clock. fault_fits s id handle code clock p.agreement;
  openings = λ id setting handle channel_id token_id. opening_answer_fits s id setting handle channel_id token_id p.agreement;
}

pub fits_at : (config : Configuration) (found : Option Connection) → IsAgreedAt config found → AlwaysFitAt found
fits_at config None p = tt
fits_at config (Some connection) p = fits_in config connection.phase p
