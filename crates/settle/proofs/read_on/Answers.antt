-- What is read goes behind the bytes that are there.
use mathlib.Core.Path.{refl, sym}
use native.Mathlib.Omega.{arith}
use borrow.Author.Tests.{ne_eqb}
use Rattle.runner.proofs.StageLaws.{never}
use Rattle.settle.proofs.Pieces.{read_behind, nothing_read}
use Rattle.settle.proofs.read_on.Goals as goal

pub returns-else-count-eq0-clause-read : goal.returns-else-count-eq0-clause-read
returns-else-count-eq0-clause-read g c =
    let a = c.args in
    let r = c.in-Ok.ensures in
    record {
      arrived = record {
        come = _;
        read = r.bytes.0;
        progress = refl;
        bytes = read_behind a.session.held c.in-Ok.count _ a.buffer.now c.read_some.new.free c.requires r.bound.0;
        held = omega (arith, r.bound.0, c.read_some.auto);
        ended = λ e. never (sym (rw c.in-Read.is at e));
        at_end = λ e f. never (sym f);
        stays = λ e. never (rw c.in-Read.is at e);
        ready = refl;
      };
      told = λ e. sym (ne_eqb _ _ (λ q. omega (arith, q, c.if-count-eq0.false)));
    }

pub returns-in_default : goal.returns-in_default
returns-in_default g c = record { front = refl; read = nothing_read _ c.args.session c.args.buffer.now c.requires c.in_default.not-Read }
