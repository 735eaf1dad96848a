-- The texts of rows, states and conditions, as the table and a trace have them.
use Rattle.std.specs.Prelude.{ℕ, List, codes}
use Rattle.ua_state_table.specs.declared.state.State.{State}
use Rattle.ua_state_table.specs.declared.state.State.TheVariants as state
use Rattle.ua_state_table.specs.declared.condition.Condition.{Condition}
use Rattle.ua_state_table.specs.declared.condition.Condition.TheVariants as condition
use Rattle.ua_state_table.specs.declared.row.RowId.{RowId}
use Rattle.ua_state_table.specs.declared.row.RowId.TheVariants as row

abbrev pub row_text : RowId → List ℕ
row_text row.C1 = codes "C1"
row_text row.C2 = codes "C2"
row_text row.N1 = codes "N1"
row_text row.N2 = codes "N2"
row_text row.N3 = codes "N3"
row_text row.N4 = codes "N4"
row_text row.N5 = codes "N5"
row_text row.N6 = codes "N6"
row_text row.L1 = codes "L1"
row_text row.L2 = codes "L2"
row_text row.L3 = codes "L3"
row_text row.K1 = codes "K1"
row_text row.K2 = codes "K2"
row_text row.K3 = codes "K3"
row_text row.K4 = codes "K4"
row_text row.K5 = codes "K5"
row_text row.G1 = codes "G1"
row_text row.G2 = codes "G2"
row_text row.G3 = codes "G3"
row_text row.G4 = codes "G4"
row_text row.G5 = codes "G5"
row_text row.G6 = codes "G6"
row_text row.G7 = codes "G7"
row_text row.G8 = codes "G8"
row_text row.G9 = codes "G9"
row_text row.G10 = codes "G10"

abbrev pub state_text : State → List ℕ
state_text state.Closed = codes "closed"
state_text state.Normal = codes "normal"
state_text state.Late = codes "late"
state_text state.KeepAlive = codes "keepalive"

abbrev pub condition_text : Condition → List ℕ
condition_text condition.Full = codes "full"
condition_text condition.Room = codes "room"
condition_text condition.EnabledMore = codes "EM"
condition_text condition.NotEnabledMore = codes "!EM"
condition_text condition.EnabledAvailable = codes "EA"
condition_text condition.NotEnabledAvailable = codes "!EA"
condition_text condition.Queued = codes "Q"
condition_text condition.NotQueued = codes "!Q"
condition_text condition.Sent = codes "S"
condition_text condition.NotSent = codes "!S"
condition_text condition.NotSentOrEnabledAvailable = codes "!S|EA"
condition_text condition.KeepOne = codes "K=1"
condition_text condition.KeepAboveOne = codes "K>1"
condition_text condition.KeepOneOrEnabledAvailable = codes "K=1|EA"
condition_text condition.LifeOne = codes "L=1"
condition_text condition.LifeAboveOne = codes "L>1"
condition_text condition.Kept = codes "kept"
condition_text condition.NotKept = codes "!kept"
condition_text condition.Deleting = codes "deleting"
condition_text condition.Keeping = codes "keeping"
