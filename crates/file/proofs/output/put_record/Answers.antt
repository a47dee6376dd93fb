-- `put_record` meets its contract: its texts stand one behind the other.
use Rattle.std.proofs.Common.{arith}
use Rattle.file.specs.Lines.{record_line, record_names}
use Rattle.file.proofs.TextLaws.{puts_then, lent_back}
use Rattle.file.proofs.output.put_record.Goals as goal

pub returns : goal.returns
unfolding record_line record_names
returns c =
    let a = puts_then c.bytes.ensures c.number_then.ensures in
    let b = puts_then a c.number_then-2.ensures in
    let d = puts_then b c.number_then-3.ensures in
    let e = puts_then d c.measures.ensures in
    lent_back (puts_then e c.measures-2.ensures) (omega arith) search
