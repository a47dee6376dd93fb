-- An amount has one form, so that a line is what was sent exactly where its three numbers are.
use mathlib.Core.Path.{sym, ap, ◌∙◌}
use mathlib.Core.Bool.{false≢true}
use mir.Syntax.{w64}
use mir.Val.{of_z}
use borrow.Author.Tests.{eqb-true, eq-eqb}
use Rattle.ledger.proofs.RoundLaws.{same-unmoved, quantity-same, kroner-same, billionths-same, same_test, not_so}
use Rattle.ledger.proofs.RoundLaws.{quantity_bits, kroner_bits, billionths_bits}
use Rattle.ledger.proofs.rounds.is_unmoved.Goals as goal
use Rattle.ledger.proofs.rounds.is_unmoved.Goals.{then-lines-at, else-lines-at}

pub returns-then-lines-at-2 : goal.returns-then-lines-at-2
returns-then-lines-at-2 c =
    let ls = c.args.lines.now in
    let ts = c.args.sent.now in
    let h = c.requires in
    elim c.if-lines-at.branch [
      | then-lines-at w ↦
          let q = quantity_bits ls ts c.args.at h w.if-lines-at.true in
          let k = kroner_bits ls ts c.args.at h (eqb-true _ _ (sym w.value-is ∙ c.if-lines-at-2.true)) in
          same_test _ _
          (λ e. same-unmoved ls ts c.args.at q k (billionths_bits ls ts c.args.at h (eqb-true _ _ e)))
          (λ u. eq-eqb _ _ (ap (of_z w64) (billionths-same ls ts c.args.at h u)))
      | else-lines-at w ↦ absurd (w.if-lines-at.false (eqb-true _ _ (sym w.value-is ∙ c.if-lines-at-2.true)))
    ]

pub returns-else-lines-at-2 : goal.returns-else-lines-at-2
returns-else-lines-at-2 c =
    let ls = c.args.lines.now in
    let ts = c.args.sent.now in
    c.if-lines-at-2.false ∙ sym (not_so _ (λ u. elim c.if-lines-at.branch [
      | then-lines-at w ↦
          false≢true (sym c.if-lines-at-2.false ∙ w.value-is ∙ eq-eqb _ _ (ap (of_z w64) (kroner-same ls ts c.args.at c.requires u)))
      | else-lines-at w ↦ w.if-lines-at.false (ap (of_z w64) (quantity-same ls ts c.args.at c.requires u))
    ]))
