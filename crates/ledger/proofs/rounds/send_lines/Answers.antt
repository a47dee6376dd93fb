-- The lines before `k` are copied, and the records of those that had moved stand at the front of the list.
use mathlib.Core.Path.{◌≡◌, sym, ◌∙◌}
use Prim.Native.Nat.{◌*◌, ◌≤◌}
use lib.Seq.{paste-zero}
use Rattle.ledger.specs.Moved.{lines_in}
use Rattle.ledger.proofs.RecordNumbers.{numbers_none}
use Rattle.rules.specs.Sizes.{line_size, most_lines}
use Rattle.rules.proofs.Parts.{few-lines}
use Rattle.ledger.proofs.RoundLaws.{count_none, count-few, records_none, length_copied, copied_whole, list-long, turn_sendable}
use Rattle.ledger.proofs.RoundLaws.{turn_room, turn_done}
use native.Mathlib.Omega.{arith}
use Rattle.ledger.proofs.rounds.send_lines.Goals as goal
use Rattle.ledger.proofs.rounds.send_lines.Goals.{Start}

-- a book has few lines
few : (s : Start) → s.args.book.suppliers * s.args.book.elements ≤ most_lines
few s = few-lines s.args.book.suppliers s.args.book.elements s.requires.settled.suppliers s.requires.settled.elements

pub loop-k-init : goal.loop-k-init
loop-k-init c =
    let a = c.args in
    record {
      sent = paste-zero a.sent.now 0 a.lines.now;
      places = sym (count_none _ _);
      records = rw (records_none a.book a.lines.now a.sent.now) (numbers_none a.records.now);
    }

pub send_line-n-requires : goal.send_line-n-requires
send_line-n-requires c =
    let a = c.args in
    let l = c.loop-k in
    let m = count-few a.lines.now a.sent.now l.k in
    let f = few (goal.at.send_line-n-requires c).Start in
    let e = l.invariant.places in
    let n : l.n ≤ most_lines = omega arith in
    let s = turn_sendable a.book a.lines.now a.sent.now a.records.now c.requires.settled c.requires.record_size_in_bounds l.k
    (omega arith) in
    let r = turn_room a.book a.lines.now a.sent.now a.records.now c.requires.settled c.requires.record_size_in_bounds l.k (omega arith)
    l.n e in
    rw (l.invariant.sent, l.invariant.records) record { sendable = s; n_le_most_lines = (n, r) }

pub loop-k-preserved : goal.loop-k-preserved
loop-k-preserved c =
    let a = c.args in
    let l = c.loop-k in
    let g = rw l.invariant.sent at c.send_line-n.ensures in
    let d = turn_done a.book a.lines.now a.sent.now a.records.now c.requires.settled c.requires.record_size_in_bounds l.k (omega arith)
    l.n _ _ _ _ l.invariant.places l.invariant.records g in
    record { sent = d.0; places = d.1; records = d.2 }

pub shape_of-sent : goal.shape_of-sent
shape_of-sent c =
    let a = c.args in
    let h = c.requires.settled in
    rw c.loop-k.invariant.sent (length_copied a.lines.now a.sent.now (h.lines ∙ sym h.totals) (c.loop-k.k * line_size)
    (omega (arith, h.lines)))

pub shape_of-records : goal.shape_of-records
shape_of-records c =
    let a = c.args in
    rw c.loop-k.invariant.records
    (list-long a.book a.lines.now a.sent.now a.records.now c.requires.settled c.requires.record_size_in_bounds c.loop-k.k
    c.loop-k.auto.k-end)

pub returns : goal.returns
returns c =
    let a = c.args in
    let h = c.requires.settled in
    let e : c.loop-k.k ≡ lines_in a.book = omega arith in record {
      sent = c.loop-k.invariant.sent ∙ rw e (copied_whole a.lines.now a.sent.now (h.lines ∙ sym h.totals) _ (sym h.lines));
      records = rw e at c.loop-k.invariant.records;
    }
