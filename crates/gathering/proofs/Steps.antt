-- A multiframe put to the image: its sync's two octets and then the octets behind it are the whole of it.
-- Assumes nothing.
use Prim.Native.Nat.{ℕ, ◌+◌, ◌-◌, ◌*◌, ◌≤◌}
use mathlib.Core.Path.{◌≡◌, refl}
use mathlib.Core.List.{List, [], ◌∷◌}
use native.Mathlib.Omega.{arith}
use lib.ListN.{length, set, length-set}
use Rattle.lists.specs.Parts.{part, over, behind, set_over}
use Rattle.layout.specs.Layout.{sync_octets, multiframe_octets, sync_first, sync_second}
use Rattle.bits.specs.Bits.{bits, octets}
use Rattle.hunt.specs.Hunt.{sync_bits}
use Rattle.gathering.specs.Gathering.{aligned}

-- the octets behind the sync
abbrev rest : ℕ
rest = multiframe_octets - sync_octets

pub put_is : (s image out : List ℕ) (p at : ℕ) → at + multiframe_octets ≤ length image
    → out ≡ over (set (set image at sync_first) (at + 1) sync_second) (at + sync_octets) rest (octets rest (part (p + sync_bits) (8 * rest) (bits s))) → out ≡ over image at multiframe_octets (aligned s p)
unfolding aligned
put_is s image out p at room e =
    let a : set image at sync_first ≡ over image at 1 (sync_first ∷ []) = set_over image at sync_first (omega arith) in
    let b : set (set image at sync_first) (at + 1) sync_second ≡ over (set image at sync_first) (at + 1) 1 (sync_second ∷ []) = set_over (set image at sync_first) (at + 1) sync_second (omega (arith, length-set image at sync_first)) in
    let c : set (set image at sync_first) (at + 1) sync_second ≡ over image at sync_octets (sync_first ∷ sync_second ∷ []) = behind image at 1 1 (sync_first ∷ []) (sync_second ∷ []) (omega arith) refl a b in
    behind image at sync_octets rest (sync_first ∷ sync_second ∷ []) (octets rest (part (p + sync_bits) (8 * rest) (bits s))) (omega arith) refl c e
