-- Why the server halts, as its layers say it of a call.
use Rattle.ua_types.specs.declared.refusal.Refusal.{Refusal}
use Rattle.ua_types.specs.declared.refusal.Refusal.TheVariants as refusals
use Rattle.server_messages.specs.declared.halt.Halt.{Halt}
use Rattle.server_messages.specs.declared.halt.Halt.TheVariants.{Memory, Exhausted}

abbrev pub refusal_of : Halt → Refusal
refusal_of Memory = refusals.Memory
refusal_of Exhausted = refusals.Exhausted
