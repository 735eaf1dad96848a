use Rattle.std.proofs.Common.{rules, arith}
use Rattle.ua_binary.specs.Reading.{IsReadAgain}
use Rattle.ua_binary.specs.Numbers.{octets_reading, octets_encoding}
use Rattle.ua_binary.proofs.Again.{octets_again}
use Rattle.ua_binary.proofs.numbers.ArrayU84Wire.encode.Goals as goal

pub returns-clause-again : goal.returns-clause-again
returns-clause-again c =
    let again : IsReadAgain (octets_reading 4) octets_encoding c.args.self.now = λ x. octets_again 4 c.args.self.now x (omega arith) in
    search (rules, again)
