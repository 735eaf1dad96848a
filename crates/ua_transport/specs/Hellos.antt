-- The Hello message's body (IEC 62541-6, "Hello Message"): five numbers, and the URL of the endpoint.
use Rattle.std.specs.Prelude.{ℕ, List, ◌++◌}
use Rattle.std.specs.Int.{w32}
use Rattle.ua_binary.specs.Reading.{Reading, ◌>>=◌, done}
use Rattle.ua_binary.specs.Numbers.{number_reading, number_encoding}
use Rattle.ua_binary.specs.Texts.{text_reading, text_encoding}
use Rattle.ua_transport.specs.declared.hello_message.Hello.{Hello}

unfoldable pub hello_reading : Reading Hello
hello_reading = do
  protocol_version ← number_reading w32
  receive_size ← number_reading w32
  send_size ← number_reading w32
  max_message_size ← number_reading w32
  max_chunk_count ← number_reading w32
  endpoint_url ← text_reading
  done (record {
    protocol_version = protocol_version;
    receive_size = receive_size;
    send_size = send_size;
    max_message_size = max_message_size;
    max_chunk_count = max_chunk_count;
    endpoint_url = endpoint_url;
  })

unfoldable pub hello_encoding : Hello → List ℕ
hello_encoding h =
    number_encoding w32 h.protocol_version ++ number_encoding w32 h.receive_size ++ number_encoding w32 h.send_size
    ++ number_encoding w32 h.max_message_size ++ number_encoding w32 h.max_chunk_count ++ text_encoding h.endpoint_url
