-- The claim of specs/Examples: every case computes. Assumes nothing.
use mathlib.Core.Path.{refl}
use mathlib.Core.List.{sum}
use Rattle.ground.specs.Entry.{entry_of, entry_at}
use Rattle.ground.specs.Matrix.{joint}
use Rattle.ground.specs.Charge.{charge}
use Rattle.ground.specs.Text.{leads, lead_row, all_later, six_bits, letter_at, letters_in, letters, sizes, offsets_from, runs}
use Rattle.lattice.specs.Words.{up_from, candidates_to}
use Rattle.lattice.specs.Lattice.{offers, least, grow, lattice}
use Rattle.lattice.specs.Rows.{first_at, last_at, firsts, lasts, lefts, costs, nexts_from}
use Rattle.walk.specs.WalkBack.{walk_from, walk_back}
use Rattle.checks.specs.Checks.{first_refused, refused}
use Rattle.chains.specs.Chain.{last_of, joints_along, chain_cost, path_cost}
use Rattle.segmenter.specs.Segment.{worked, segment}
use Rattle.segmenter.specs.Examples.{listed, Hold, CostsHold}

pub examples : Hold
unfolding entry_of entry_at joint charge leads lead_row all_later six_bits letter_at letters_in letters sizes offsets_from runs up_from candidates_to offers least grow lattice first_at last_at firsts lasts lefts costs nexts_from walk_from walk_back first_refused refused worked segment listed
examples = refl

pub costs_hold : CostsHold
unfolding entry_of entry_at joint charge leads lead_row all_later six_bits letter_at letters_in letters runs joints_along sum last_of chain_cost path_cost
costs_hold = refl
