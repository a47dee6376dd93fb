-- `Text::signed_then` meets its contract: a byte behind the sign and the digits, which are at most 21 bytes.
use Rattle.std.proofs.Common.{arith}
use Rattle.file.proofs.TextLaws.{signed_printed, signed-short, puts_then, looser}
use Rattle.file.proofs.output.Text.signed_then.Goals as goal

pub integer-requires : goal.integer-requires
integer-requires c = rw (signed_printed c.args.z c.ranges.z) (omega (arith, signed-short c.args.z c.ranges.z))

pub byte-requires : goal.byte-requires
byte-requires c =
    let put = rw (signed_printed c.args.z c.ranges.z) at c.integer.ensures in omega (arith, signed-short c.args.z c.ranges.z)

pub returns : goal.returns
returns c =
    let put = rw (signed_printed c.args.z c.ranges.z) at c.integer.ensures in
    let short = signed-short c.args.z c.ranges.z in
    looser (omega arith) (puts_then put c.byte.ensures)
