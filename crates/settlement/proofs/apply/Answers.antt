-- Each kind by its own function; a block mark changes no line.
use mathlib.Core.Path.{◌≡◌, subst}
use mathlib.Core.Bool.{false, true≢false}
use Rattle.rules.specs.Effects.{is_round}
use Rattle.rules.specs.Lent.{open_lists, open_world}
use Rattle.rules.proofs.Parts.{lengths}
use Rattle.recording.proofs.Passed.{block_fits, writes_row_lem}
use Rattle.settlement.specs.Replies.{ReadyIn}
use Rattle.settlement.proofs.Stepping.{block_applied}
use Rattle.settlement.proofs.apply.Goals as goal

pub write_block-requires : goal.write_block-requires
write_block-requires c =
    let b = c.args.opened.now in
    let r = c.requires.ready_in in
    block_fits b.book (open_lists b) _ _ (lengths (open_world b) r.whole).blocks (subst (ReadyIn (open_world b)) c.in-Block.is r).ready

pub apply_lines-requires : goal.apply_lines-requires
unfolding is_round
apply_lines-requires c =
    record {
      ready_in = c.requires.ready_in;
      body_value = writes_row_lem _ c.in_default.not-Reading c.in_default.not-Block
          (λ e. true≢false (subst (λ b. is_round b ≡ false) e c.requires.body_value));
    }

pub returns-in-Block-clause-applied : goal.returns-in-Block-clause-applied
returns-in-Block-clause-applied c =
    let w = open_world c.args.opened.now in
    rw c.in-Block.is (block_applied w c.requires.ready_in.whole _ _ _ c.write_block.ensures.recorded)
