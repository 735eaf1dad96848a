-- The numbers of attributes (IEC 62541-6, Annex A).
use Rattle.std.specs.Prelude.{ℕ, ◌==◌, Option, Some, None, if◌then◌else◌}
use Rattle.ua_read_write.specs.declared.attributes.AttributeId.{AttributeId}
use Rattle.ua_read_write.specs.declared.attributes.AttributeId.TheVariants as ids

unfoldable pub attribute_numbered : ℕ → Option AttributeId
attribute_numbered number =
    if number == 1 then Some ids.NodeId
    else if number == 2 then Some ids.NodeClass
    else if number == 3 then Some ids.BrowseName
    else if number == 4 then Some ids.DisplayName
    else if number == 5 then Some ids.Description
    else if number == 6 then Some ids.WriteMask
    else if number == 7 then Some ids.UserWriteMask
    else if number == 8 then Some ids.IsAbstract
    else if number == 9 then Some ids.Symmetric
    else if number == 10 then Some ids.InverseName
    else if number == 12 then Some ids.EventNotifier
    else if number == 13 then Some ids.Value
    else if number == 14 then Some ids.DataType
    else if number == 15 then Some ids.ValueRank
    else if number == 17 then Some ids.AccessLevel
    else if number == 18 then Some ids.UserAccessLevel
    else if number == 20 then Some ids.Historizing
    else None
