use Rattle.std.proofs.Common.{◌<◌, ◌≤◌, ◌^◌, List, All, Some, refl, arith, length, subst}
use Rattle.std.specs.List.{flat_map}
use Rattle.std.proofs.lemmas.List.{length-map}
use Rattle.ua_binary.specs.DataValues.{data_value_reading, data_value_encoding}
use Rattle.ua_binary.specs.Reading.{IsReadAgain}
use Rattle.ua_binary.proofs.Elements.{array_again}
use Rattle.ua_types.specs.declared.data_value.DataValue.{DataValue}
use Rattle.ua_service_messages.specs.History.{history_data_reading, history_data_encoding}
use Rattle.ua_services.specs.HistoryResults.{all_shown}
use Rattle.ua_services.proofs.history_results.BorrowedHistoryDataWritten.write.Goals as goal

-- the HistoryData of values that are each read again is
data_again : (values : List DataValue) → length values < 2 ^ 31 → length values ≤ length (flat_map data_value_encoding values) → All (IsReadAgain data_value_reading data_value_encoding) values
    → IsReadAgain history_data_reading history_data_encoding (record { data_values = Some values })
unfolding history_data_reading history_data_encoding
data_again values short some each x = rw (array_again data_value_reading data_value_encoding values short some each x) refl

pub returns-clause-again : goal.returns-clause-again
returns-clause-again c =
    let all = all_shown c.self.inside.timestamps c.self.inside.values.now in
    let short : length all < 2 ^ 31 = simp length-map (omega arith) in
    let written = c.in_ok-write_values.ensures.ok in
    subst (IsReadAgain history_data_reading history_data_encoding) c.self.view_is (data_again all short written.some written.again)
