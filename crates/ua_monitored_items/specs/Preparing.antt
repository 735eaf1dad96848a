-- A mode for items, where what they queue was sampled before.
use Rattle.std.specs.Prelude.{◌≡◌, ⊤, ℕ, false, true, List, [], ◌∷◌, Option, Some, None, if◌then◌else◌}
use Rattle.ua_types.specs.declared.moment.Moment.{Moment}
use Rattle.ua_types.specs.declared.status.Status.{Status}
use Rattle.ua_types.specs.declared.status.TheConstants.Status as status
use Rattle.ua_types.specs.declared.data_value.DataValue.{DataValue}
use Rattle.ua_space.specs.Nodes.{Nodes}
use Rattle.ua_monitored_items.specs.Item.{is_enabled, queued, reading, with_mode, disabled}
use Rattle.ua_monitored_items.specs.Items.{ItemsState, own_item, with_change}
use Rattle.ua_monitored_items.specs.declared.item.Item.{Item}
use Rattle.ua_monitored_items.specs.declared.kinds.Mode.{Mode}
use Rattle.ua_monitored_items.specs.declared.preparing.Prepared.{Prepared}

-- what was sampled is what stands
abbrev pub IsFirstSample : Nodes → Moment → Item → Option DataValue → Type 0
IsFirstSample nodes clock item None = ⊥
IsFirstSample nodes clock item (Some first) = first ≡ reading nodes clock item

-- an item that the mode enables has its sample
abbrev pub IsReady : Nodes → Moment → Mode → Option Item → Option DataValue → Type 0
IsReady nodes clock mode None first = ⊤
IsReady nodes clock mode (Some item) first = is_enabled mode ≡ true → is_enabled item.mode ≡ false → IsFirstSample nodes clock item first

-- and so have all that a request names
abbrev pub AreReady : Nodes → Moment → ℕ → Mode → ItemsState → List Prepared → Type 0
AreReady nodes clock subscription mode s [] = ⊤
AreReady nodes clock subscription mode s (e ∷ es) = IsReady nodes clock mode (own_item s subscription e.number) e.first × AreReady nodes clock subscription mode s es

-- a disabled item that is enabled queues what was sampled
abbrev pub enabled_from : Option DataValue → Item → Item
enabled_from None item = item
enabled_from (Some first) item = if is_enabled item.mode then item else queued first item

-- an item gets a mode
abbrev pub moded_from : Mode → Option DataValue → Item → Item
moded_from mode first item = if is_enabled mode then with_mode mode (enabled_from first item) else disabled item

abbrev pub mode_status : Option Item → Status
mode_status None = status.BAD_MONITORED_ITEM_ID_INVALID
mode_status (Some item) = status.GOOD

abbrev pub moded_own : Mode → ItemsState → Prepared → Option Item → ItemsState
moded_own mode s e None = s
moded_own mode s e (Some item) = with_change s e.number (moded_from mode e.first)
