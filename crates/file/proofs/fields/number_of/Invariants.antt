-- `number_of` meets its contract: `value` is the number of the bytes so far, and below 256 ^ so many, so that one byte more fits.
use Rattle.std.proofs.Common.{◌≡◌, ◌^◌, ◌<◌, take}
use Rattle.file.specs.Bytes.{bytes_number}
use Rattle.file.proofs.fields.number_of.Given as goal

abbrev pub invariant-loop-byte : goal.invariant-loop-byte
invariant-loop-byte l = (l.value ≡ bytes_number (take l.byte-index l.bytes)) × (l.value < 256 ^ l.byte-index)
