-- `Text::bytes` meets its contract: the bytes stand from the text's end on, where there was room for them.
use Rattle.std.proofs.Common.{refl, arith}
use Rattle.std.proofs.lemmas.Grind.{common_steps}
use Rattle.file.specs.Bytes.{placed}
use Rattle.file.proofs.output.Text.bytes.Goals as goal

pub returns : goal.returns
unfolding placed
returns c =
    record {
      same_reference = refl;
      long = grind (arith, common_steps);
      within = grind (arith, common_steps);
      written = record { is = grind (arith, common_steps); end = refl; short = omega arith };
    }
