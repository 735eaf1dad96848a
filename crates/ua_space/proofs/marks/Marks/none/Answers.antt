use Rattle.ua_space.proofs.Bits.{bits_length, none_set}
use Rattle.ua_space.proofs.marks.Marks.none.Goals as goal

pub returns-clause-none : goal.returns-clause-none
returns-clause-none c s = none_set _ 0 _

pub returns-clause-size : goal.returns-clause-size
returns-clause-size c s = bits_length _ 0 _
