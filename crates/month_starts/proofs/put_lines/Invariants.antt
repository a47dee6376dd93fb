-- `put_lines` meets its contract: the lines of the first numbers are written.
use Rattle.std.proofs.Common.{◌*◌, take}
use Rattle.file.specs.Lines.{number_width, Puts}
use Rattle.month_starts.specs.MonthStarts.{number_lines}
use Rattle.month_starts.proofs.put_lines.Given as goal

abbrev pub invariant-loop-number : goal.invariant-loop-number
invariant-loop-number l =
    Puts (l.number-index * number_width) l.initial.text l.text (number_lines (take l.number-index l.numbers))
