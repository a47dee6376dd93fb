-- The three numbers are copied as the definition does, one behind the other.
use Rattle.std.proofs.Common.{◌≡◌, ◌+◌, ◌-◌, ◌∷◌, [], ℤ, List, get_or, pos, sym, arith, refl}
use Rattle.rules.specs.Sizes.{line_size}
use Rattle.ledger.specs.Moved.{line_copied}
use Rattle.ledger.proofs.LineNumbers.{part_stores, three_numbers, three_stores}
use Rattle.ledger.proofs.rounds.copy_line.Goals as goal

pub returns : goal.returns
unfolding line_copied
returns c =
    let at = c.args.at in
    let ls = c.args.lines.now in
    let n : at + line_size - at ≡ line_size = omega arith in
    let line : List ℤ = get_or ls at (pos 0) ∷ get_or ls (at + 1) (pos 0) ∷ get_or ls (at + 2) (pos 0) ∷ [] in
    rw (
      n,
      c.copy_from_slice.ensures.after,
      n,
      three_numbers ls at c.requires.0,
      part_stores c.args.sent.now line at line_size refl
          (omega arith),
    )
    (sym (three_stores c.args.sent.now at _ _ _))
