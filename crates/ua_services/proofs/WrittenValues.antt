-- Values that are written one behind the other.
use Rattle.std.proofs.Common.{◌≡◌, ◌<◌, ◌++◌, ◌∷◌, [], ℕ, ℤ, Bool, List, length, arith, sym, ap, subst, ◌∙◌, append_assoc, append-nil, length-append}
use Rattle.std.specs.Borrow.{Bor}
use Rattle.std.specs.List.{flat_map}
use Rattle.std.proofs.lemmas.Grind.{flat_map-append}
use Rattle.std.proofs.lemmas.List.{map-append, flat_map_more}
use Rattle.std.proofs.lemmas.List.Elements.{All-append, All-cons, All-nil}
use Rattle.ua_binary.specs.DataValues.{data_value_reading, data_value_encoding}
use Rattle.ua_binary.specs.Reading.{IsReadAgain}
use Rattle.ua_types.specs.declared.data_value.DataValue.{DataValue}
use Rattle.ua_read_write.specs.declared.timestamps.Timestamps.{Timestamps}
use Rattle.ua_history.specs.Histories.{Values}
use Rattle.ua_history.specs.Intervals.{in_order}
use Rattle.ua_history.specs.Runs.{told}
use Rattle.ua_services.specs.HistoryResults.{shown, all_shown, AreWritten}

one_written : (before after : List ℕ) (value : DataValue) → after ≡ before ++ data_value_encoding value → IsReadAgain data_value_reading data_value_encoding value → 0 < length (data_value_encoding value)
    → AreWritten before after (value ∷ [])
one_written before after value is again some =
    let size = length-append (data_value_encoding value) [] in
    record {
      written = is ∙ ap (λ (o : List ℕ). before ++ o) (sym (append-nil (data_value_encoding value)));
      some = omega (arith, size, some);
      again = All-cons (IsReadAgain data_value_reading data_value_encoding) value [] again (All-nil (IsReadAgain data_value_reading data_value_encoding));
    }

-- and then more of them
more_written : (before between after : List ℕ) (values more : List DataValue) → AreWritten before between values → AreWritten between after more → AreWritten before after (values ++ more)
more_written before between after values more first next =
    let parts = flat_map-append data_value_encoding values more in
    let count = length-append values more in
    let size = ap length parts ∙ length-append (flat_map data_value_encoding values) (flat_map data_value_encoding more) in
    let some = first.some in
    let some_more = next.some in
    record {
      written =
          next.written ∙ ap (λ (o : List ℕ). o ++ flat_map data_value_encoding more) first.written
          ∙ append_assoc before (flat_map data_value_encoding values) (flat_map data_value_encoding more) ∙ ap (λ (o : List ℕ). before ++ o) (sym parts);
      some = omega (arith, count, size, some, some_more);
      again = All-append (IsReadAgain data_value_reading data_value_encoding) values more first.again next.again;
    }

module _ (timestamps : Timestamps) (before between after : List ℕ) where
  -- one value behind others
  pub one_more : (values : Values) (entry : ℤ × DataValue) (value : DataValue) → AreWritten before between (all_shown timestamps values) → value ≡ shown timestamps entry.1
      → after ≡ between ++ data_value_encoding value → IsReadAgain data_value_reading data_value_encoding value → 0 < length (data_value_encoding value)
      → AreWritten before after (all_shown timestamps (values ++ entry ∷ []))
  one_more values entry value so_far same is again some =
      subst (AreWritten before after) (ap (λ (v : DataValue). all_shown timestamps values ++ v ∷ []) same ∙ sym (map-append (λ (e : ℤ × DataValue). shown timestamps e.1) values (entry ∷ [])))
      (more_written before between after (all_shown timestamps values) (value ∷ []) so_far (one_written between after value is again some))

  -- one run behind others
  pub run_more : (is_falling : Bool) (runs : List (Bor Values)) (run : Bor Values) → AreWritten before between (all_shown timestamps (told is_falling runs)) → AreWritten between after (all_shown timestamps (in_order is_falling run.now))
      → AreWritten before after (all_shown timestamps (told is_falling (runs ++ run ∷ [])))
  run_more is_falling runs run so_far next =
      let values = told is_falling runs in
      let more = in_order is_falling run.now in
      subst (AreWritten before after)
      (sym (map-append (λ (e : ℤ × DataValue). shown timestamps e.1) values more) ∙ ap (all_shown timestamps) (flat_map_more (λ (r : Bor Values). in_order is_falling r.now) [] runs run))
      (more_written before between after (all_shown timestamps values) (all_shown timestamps more) so_far next)
