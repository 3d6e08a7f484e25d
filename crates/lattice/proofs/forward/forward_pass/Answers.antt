-- Of two fillings the last is seen. Assumes nothing.
use mathlib.Core.List.{[], ◌∷◌}
use native.Mathlib.Omega.{arith}
use Rattle.lattice.specs.Words.{given_by}
use Rattle.lattice.specs.Lattice.{start_mark, lattice}
use Rattle.lattice.specs.Rows.{held}
use Rattle.lattice.proofs.LatticeLaws.{lattice_length}
use Rattle.lattice.proofs.FillLaws.{fill_fill}
use Rattle.lattice.proofs.forward.forward_pass.Goals as goal

pub returns-clause-filled : goal.returns-clause-filled
returns-clause-filled c =
    let g = given_by c.args.sentence.now in
    fill_fill c.args.n (start_mark ∷ []) (lattice c.args.n g) (held c.args.rows.now) _ _ c.start_mark.ensures.filled c.all_words.ensures.filled
    (omega (arith, lattice_length g c.args.n))
