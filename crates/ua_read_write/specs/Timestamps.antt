-- Which times an answer has (TimestampsToReturn, IEC 62541-4, section 7).
use Rattle.std.specs.Prelude.{Bool, true, false, pos, Option, Some, None, if◌then◌else◌}
use Rattle.std.specs.Ordering.{int_eq}
use Rattle.ua_messages.specs.declared.enumerations.TimestampsToReturn.{TimestampsToReturn}
use Rattle.ua_read_write.specs.declared.timestamps.Timestamps.{Timestamps}
use Rattle.ua_read_write.specs.declared.timestamps.Timestamps.TheVariants as timestamps

-- a choice by its number
abbrev pub timestamps_of : TimestampsToReturn → Option Timestamps
timestamps_of choice =
    if int_eq choice.0 (pos 0) then Some timestamps.Source
    else if int_eq choice.0 (pos 1) then Some timestamps.Server
    else if int_eq choice.0 (pos 2) then Some timestamps.Both
    else if int_eq choice.0 (pos 3) then Some timestamps.Neither
    else None

abbrev pub has_source : Timestamps → Bool
has_source timestamps.Source = true
has_source timestamps.Server = false
has_source timestamps.Both = true
has_source timestamps.Neither = false

abbrev pub has_server : Timestamps → Bool
has_server timestamps.Source = false
has_server timestamps.Server = true
has_server timestamps.Both = true
has_server timestamps.Neither = false
