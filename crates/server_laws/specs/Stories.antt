-- Entries of accounts, for stories that the laws refuse.
use Rattle.std.specs.Prelude.{true, false}
use Rattle.ua_types.specs.declared.data_value.DataValue.{DataValue}
use Rattle.ua_item_queue.specs.Fates.{AccountEntry}
use Rattle.ua_item_queue.specs.Fates.Fate.{Waits, WasSent, WasLost}

-- a value was lost in a queue that holds more than one, and nothing was cleared since
abbrev pub lost : DataValue → AccountEntry DataValue
lost value = record { value = value; marked = false; fate = WasLost; needs_mark = true }

-- a value was sent, or waits, without a mark
abbrev pub sent : DataValue → AccountEntry DataValue
sent value = record { value = value; marked = false; fate = WasSent; needs_mark = false }

abbrev pub waiting : DataValue → AccountEntry DataValue
waiting value = record { value = value; marked = false; fate = Waits; needs_mark = false }
