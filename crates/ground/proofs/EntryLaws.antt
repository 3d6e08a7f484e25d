-- What the lattice may lean on about word entries: the fields are in range, and document 01's example I. Assumes nothing.
use Prim.Native.Nat.{ℕ, zero, suc, ◌+◌, ◌*◌, ◌≤◌, ◌<◌, ◌^◌}
use mathlib.Core.Path.{◌≡◌, ◌∙◌}
use mathlib.Core.List.{List, [], ◌∷◌}
use native.Mathlib.Omega.{arith}
use native.Mathlib.Nat.{mul_comm}
use lib.ListN.{length, take, drop, get_or}
use lib.Seq.{get_or-drop}
use lib.Signed.{mag}
use Rattle.ground.specs.declared.entry.Entry.{Entry}
use Rattle.ground.specs.Entry.{u16_at, entry_of, entry_bytes, entry_part, entry_at}
use Rattle.ground.proofs.RowLaws.{part_fits}
use Rattle.ground.proofs.SignedLaws.{signed16_small}

-- Every element is a byte.
abbrev pub Bytes : List ℕ → Type 0
Bytes bytes = (i : ℕ) → get_or bytes i 0 < 256

-- The first n of bytes are bytes.
take_bytes : (n : ℕ) (bytes : List ℕ) → Bytes bytes → Bytes (take n bytes)
take_bytes zero bytes small i = omega arith
take_bytes (suc n) [] small i = omega arith
take_bytes (suc n) (b ∷ bytes) small zero = small 0
take_bytes (suc n) (b ∷ bytes) small (suc i) = take_bytes n bytes (λ j. small (suc j)) i

-- The fields of an entry, each within its type.
pub record InRange (entry : Entry) : Type 0 where
  pub id_fits : entry.id < 2 ^ 32
  pub cost_fits : mag entry.cost < 2 ^ 15
  pub left_id_fits : entry.left_id < 2 ^ 16
  pub right_id_fits : entry.right_id < 2 ^ 16

-- Two bytes are below 65,536.
u16_small : (bytes : List ℕ) → Bytes bytes → (i : ℕ) → u16_at bytes i < 65536
u16_small bytes small i = omega (arith, small i, small (i + 1))

pub entry_of_range : (bytes : List ℕ) → Bytes bytes → InRange (entry_of bytes)
unfolding entry_of
entry_of_range bytes small =
    record {
      id_fits = omega (arith, u16_small bytes small 0, u16_small bytes small 2);
      cost_fits = signed16_small (u16_at bytes 4) (u16_small bytes small 4);
      left_id_fits = u16_small bytes small 6;
      right_id_fits = u16_small bytes small 8;
    }

-- Candidate k's entry.
pub entry_range : (bytes : List ℕ) → Bytes bytes → (k : ℕ) → InRange (entry_at bytes k)
unfolding entry_at
entry_range bytes small k =
    let from = k * entry_bytes in
    entry_of_range (entry_part bytes k) (take_bytes entry_bytes (drop from bytes) (λ i. rw get_or-drop (small (from + i))))

-- Of c entries, entry k lies within the bytes.
pub entry_fits : (bytes : List ℕ) (c k : ℕ) → length bytes ≡ entry_bytes * c → k < c → k * entry_bytes + entry_bytes ≤ length bytes
entry_fits bytes c k e h = part_fits entry_bytes k c bytes (e ∙ mul_comm entry_bytes c) h
