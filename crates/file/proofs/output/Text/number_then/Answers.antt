-- `Text::number_then` meets its contract: a byte behind the digits, of which a number of 64 bits has at most 20.
use Rattle.std.proofs.Common.{arith}
use Rattle.file.proofs.DecimalLaws.{decimal-short}
use Rattle.file.proofs.TextLaws.{puts_then, looser}
use Rattle.file.proofs.output.Text.number_then.Goals as goal

pub number-requires : goal.number-requires
number-requires c = omega (arith, decimal-short c.args.n (omega arith))

pub byte-requires : goal.byte-requires
byte-requires c = omega (arith, decimal-short c.args.n (omega arith))

pub returns : goal.returns
returns c =
    let short = decimal-short c.args.n (omega arith) in looser (omega arith) (puts_then c.number.ensures c.byte.ensures)
