-- `Text::measures` meets its contract: its texts stand one behind the other.
use Rattle.std.proofs.Common.{rules}
use mir.Syntax.{w64}
use mir.Facts.{to_z-of_z}
use mir.Val.{SFits}
use Rattle.file.specs.Lines.{measures_then}
use Rattle.file.proofs.TextLaws.{puts_then}
use Rattle.file.proofs.output.Text.measures.Goals as goal

pub returns : goal.returns
unfolding measures_then
returns c =
    let l = c.args.line in
    let quantity : SFits w64 l.quantity = search rules in
    let kroner : SFits w64 l.kroner = search rules in
    let a = rw (to_z-of_z quantity) at c.signed_then.ensures in
    let b = rw (to_z-of_z kroner) at c.signed_then-2.ensures in
    puts_then (puts_then a b) c.number_then.ensures
