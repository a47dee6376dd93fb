-- `put_refused` meets its contract: its texts stand one behind the other.
use Rattle.std.proofs.Common.{arith}
use Rattle.file.specs.Lines.{refused_line}
use Rattle.file.proofs.TextLaws.{puts_then, lent_back}
use Rattle.file.proofs.output.put_refused.Goals as goal

pub returns : goal.returns
unfolding refused_line
returns c =
    let a = puts_then c.bytes.ensures c.number_then.ensures in
    lent_back (puts_then a c.number_then-2.ensures) (omega arith) search
