-- `number_of` meets its contract: the number so far takes one byte more at each turn, and still fits its width.
use Rattle.std.proofs.Common.{◌<◌, refl, get_or, arith}
use Rattle.file.proofs.ByteLaws.{bytes_next, size_more, fits_more}
use Rattle.file.proofs.fields.number_of.Goals as goal

pub overflow_mul-value : goal.overflow_mul-value
overflow_mul-value c =
    let l = c.loop-byte in record { fits = omega (arith, fits_more l.value l.byte-index l.invariant.1 (omega arith)) }

pub loop-byte-preserved : goal.loop-byte-preserved
loop-byte-preserved c =
    let bytes = c.args.bytes.now in
    let l = c.loop-byte in
    let byte : get_or bytes l.byte-index 0 < 256 = omega (arith, c.type_inv.bytes l.byte-index) in
    rw (c.from.ensures, bytes_next bytes l.byte-index c.loop-byte-test.true, ← l.invariant.0)
    (refl, size_more l.value (get_or bytes l.byte-index 0) l.byte-index l.invariant.1 byte)
