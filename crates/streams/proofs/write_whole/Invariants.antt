-- What was taken so far is the front of the text, and the rest is what is behind it.
use Rattle.std.proofs.Common.{◌≡◌, ℕ, ◌≤◌, length, take, drop}
use Rattle.std.specs.Io.KnownBytes.{Appends}
use Rattle.streams.proofs.write_whole.Given as goal

abbrev pub invariant-loop-rest : goal.invariant-loop-rest
invariant-loop-rest g l =
    (done : ℕ) × (done ≤ length l.text) × (l.rest ≡ drop done l.text)
    × Appends (g.W.Write.contents l.initial.output) (g.W.Write.contents l.output) (take done l.text)

abbrev pub decreases-loop-rest : goal.decreases-loop-rest
decreases-loop-rest g l = length l.rest
