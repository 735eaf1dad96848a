-- All that was queued, and what was sent of it.
use Rattle.std.specs.Prelude.{List, [], ◌∷◌, ◌++◌, take, if◌then◌else◌}
use Rattle.ua_item_queue.specs.Fates.{AccountEntry, is_sent}
use Rattle.ua_item_queue.specs.ItemQueue.{entry, QueueMove, queue_after}
use Rattle.ua_item_queue.specs.ItemQueue.QueueMove.{Sample, Send, Clear, Resize}
use Rattle.ua_item_queue.specs.declared.entry.Entry.{Entry}

-- the values of an account, whatever became of them
abbrev pub values_of : {V : Type 0} → List (AccountEntry V) → List V
values_of [] = []
values_of (t ∷ ts) = t.value ∷ values_of ts

-- the values that some moves queue
abbrev pub sampled_by : {V : Type 0} → List (QueueMove V) → List V
sampled_by [] = []
sampled_by (Sample size discard_oldest v ∷ ds) = v ∷ sampled_by ds
sampled_by (Send n ∷ ds) = sampled_by ds
sampled_by (Clear ∷ ds) = sampled_by ds
sampled_by (Resize size discard_oldest ∷ ds) = sampled_by ds

-- the values of an account that were sent, with their marks
abbrev pub sent_of : {V : Type 0} → List (AccountEntry V) → List (Entry V)
sent_of [] = []
sent_of (t ∷ ts) = if is_sent t.fate then entry t.value t.marked ∷ sent_of ts else sent_of ts

-- what each sending takes from the front of the queue, one after the other
abbrev pub given_by : {V : Type 0} → List (Entry V) → List (QueueMove V) → List (Entry V)
given_by q [] = []
given_by q (Send n ∷ ds) = take n q ++ given_by (queue_after q (Send n)) ds
given_by q (Sample size discard_oldest v ∷ ds) = given_by (queue_after q (Sample size discard_oldest v)) ds
given_by q (Clear ∷ ds) = given_by (queue_after q Clear) ds
given_by q (Resize size discard_oldest ∷ ds) = given_by (queue_after q (Resize size discard_oldest)) ds
