-- A write that takes n bytes appends the next n of the text.
use Rattle.std.proofs.Common.{◌≡◌, ◌+◌, ◌++◌, length, take, drop, length-drop, sym, ap, ◌∙◌, subst, arith}
use Rattle.std.proofs.lemmas.List.{take_rest}
use Rattle.std.proofs.Math.Seq.{take-add, drop-drop}
use Rattle.std.specs.Io.KnownBytes.{Appends}
use Rattle.std.proofs.KnownBytes.{Appends-trans}
use Rattle.streams.proofs.write_whole.Goals as goal

pub loop-rest-preserved : goal.loop-rest-preserved
loop-rest-preserved g c =
    let text = c.args.text.now in
    let rest = c.loop-rest.rest.now in
    let i = c.loop-rest.invariant in
    let done = i.0 in
    let n = c.in_ok-taken.taken in
    let more : take (done + n) text ≡ take done text ++ take n rest =
    take-add done n text ∙ ap (λ l. take done text ++ take n l) (sym i.2) in
    let behind = take_rest rest n ∙ ap (drop n) i.2 ∙ drop-drop n done text in (
      done + n,
      omega (arith, c.in_ok-taken.ensures.bound, ap length i.2, length-drop done text),
      behind,
      subst (Appends _ _) (sym more) (Appends-trans _ _ _ _ _ i.3 c.in_ok-taken.ensures.bytes),
    )
