-- A halt of a part is a halt of the server.
use Rattle.server_messages.specs.declared.halt.Halt.{Halt}
use Rattle.server_messages.specs.declared.halt.Halt.TheVariants as halt
use Rattle.server_core.specs.declared.out.StepFault.{StepFault}
use Rattle.server_core.specs.declared.out.StepFault.TheVariants as fault

abbrev pub fault_of : Halt → StepFault
fault_of halt.Memory = fault.Memory
fault_of halt.Exhausted = fault.Exhausted
