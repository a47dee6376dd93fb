-- `put_book` meets its contract: its texts stand one behind the other.
use Rattle.std.proofs.Common.{arith}
use Rattle.file.specs.Lines.{book_line}
use Rattle.file.proofs.TextLaws.{puts_then, lent_back}
use Rattle.file.proofs.output.put_book.Goals as goal

pub returns : goal.returns
unfolding book_line
returns c =
    let a = puts_then c.bytes.ensures c.number_then.ensures in
    let b = puts_then a c.number_then-2.ensures in
    let d = puts_then b c.number_then-3.ensures in
    lent_back (puts_then d c.number_then-4.ensures) (omega arith) search
