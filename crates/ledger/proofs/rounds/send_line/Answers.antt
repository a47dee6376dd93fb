-- A line that has not moved is what was sent already; one that has is written, and then copied.
use mathlib.Core.Path.{sym, ◌∙◌}
use Rattle.rules.proofs.Parts.{few-lines}
use Rattle.ledger.proofs.RoundLaws.{copied_same}
use native.Mathlib.Omega.{arith}
use borrow.Author.Rules.{rules}
use Rattle.ledger.proofs.rounds.send_line.Goals as goal

pub overflow_mul-at : goal.overflow_mul-at
overflow_mul-at c =
    let f = few-lines c.args.book.suppliers c.args.book.elements c.requires.sendable.suppliers c.requires.sendable.elements in
    search rules

pub is_unmoved-requires : goal.is_unmoved-requires
is_unmoved-requires c = c.requires.sendable.compared

pub returns-then-is_unmoved : goal.returns-then-is_unmoved
returns-then-is_unmoved c =
    let a = c.args in
    let u = sym c.is_unmoved.ensures ∙ c.if-is_unmoved.true in
    record { place = rw u; sent = copied_same a.lines.now a.sent.now _ c.requires.sendable.compared u; list = rw u }

pub record_of-requires : goal.record_of-requires
record_of-requires c = c.requires.sendable

pub put_record-requires : goal.put_record-requires
put_record-requires c =
    let room = c.requires.n_le_most_lines.1 (sym c.is_unmoved.ensures ∙ c.if-is_unmoved.false) in
    (c.record_of.ensures.0, omega arith)

pub copy_line-requires : goal.copy_line-requires
copy_line-requires c = (c.requires.sendable.compared.line, c.requires.sendable.compared.total)

pub returns : goal.returns
returns c =
    let u = sym c.is_unmoved.ensures ∙ c.if-is_unmoved.false in
    record { place = rw u; sent = c.copy_line.ensures; list = rw (u, ← c.record_of.ensures.1) c.put_record.ensures }
