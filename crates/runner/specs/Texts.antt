-- What a message prints, as the code has it, and how much that can be.
use Rattle.std.specs.Prelude.{ℕ, ◌-◌, ◌*◌, List, ℤ, Result, Ok, Err}
use Rattle.rules.specs.Basics.{list_to}
use Rattle.rules.specs.declared.Refusal.{Refusal}
use Rattle.rules.specs.Answers.{refusal_number}
use Rattle.ledger.specs.RecordNumbers.{record_at}
use Rattle.file.specs.Bytes.{word_room}
use Rattle.file.specs.Lines.{refused_line, longest_line}
use Rattle.file.specs.Program.{settle_records, record_lines}

-- no field prints more than a line for each record of a round
abbrev pub longest_text : ℕ
longest_text = settle_records * longest_line

-- no message has a greater number: the last of 64 bits
abbrev pub last_number : ℕ
last_number = word_room - 1

-- the lines of its records, or the refusal
abbrev pub reply_text : Result ℕ Refusal → (message : ℕ) → (records : List ℤ) → List ℕ
reply_text (Ok n) message numbers = record_lines (list_to (record_at numbers) n)
reply_text (Err r) message numbers = refused_line message (refusal_number r)
