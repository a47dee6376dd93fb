-- What the record is about, the difference and the balance are stored one behind the other.
use Rattle.std.proofs.Common.{◌≡◌, ◌+◌, ◌-◌, arith, refl}
use Rattle.integers.proofs.Integers.{abs_back, cast_is}
use Rattle.rules.specs.Sizes.{record_size}
use Rattle.ledger.specs.LineNumbers.{line_numbers}
use Rattle.ledger.specs.RecordNumbers.{name_numbers, record_numbers}
use Rattle.ledger.proofs.LineNumbers.{part_stores}
use Rattle.ledger.proofs.rounds.put_record.Goals as goal

pub returns : goal.returns
unfolding record_numbers name_numbers line_numbers
returns c =
    let at = c.args.at in
    let r = c.args.r in
    let h = c.requires.0 in
    let n : at + record_size - at ≡ record_size = omega arith in
    rw (
      n,
      c.copy_from_slice.ensures.after,
      cast_is r.kind h.kind,
      cast_is r.supplier h.supplier,
      cast_is r.element h.element,
      abs_back r.moved.quantity h.moved.quantity,
      abs_back r.moved.kroner h.moved.kroner,
      cast_is r.moved.billionths h.moved.billionths,
      abs_back r.balance.quantity h.balance.quantity,
      abs_back r.balance.kroner h.balance.kroner,
      cast_is r.balance.billionths h.balance.billionths,
    )
    (part_stores c.args.out.now (record_numbers r) at record_size refl c.requires.1)
