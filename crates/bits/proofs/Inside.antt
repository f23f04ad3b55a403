-- Bits inside one octet, as a part of the bits of all octets: what stands between two lists, and then w bits of octet i from its bit k on.
-- Assumes nothing.
use mathlib.Core.Path.{◌≡◌, ap, ◌∙◌}
use mathlib.Core.Bool.{Bool}
use mathlib.Core.List.{List, ◌∷◌, ◌++◌}
use Prim.Native.Nat.{ℕ, suc, ◌+◌, ◌*◌, ◌/◌, ◌^◌, ◌≤◌, ◌<◌}
use native.Mathlib.Nat.{le_of_lt}
use native.Mathlib.Omega.{arith}
use lib.ListN.{length, length-drop, take, drop, get_or}
use lib.Seq.{drop-append-add, take-append-le, drop-append-le, length-take-le, split_at}
use Rattle.lists.specs.Parts.{part}
use Rattle.bits.specs.Bits.{field, bits}
use Rattle.bits.proofs.Laws.{length_field, field_part, length_bits, bits_append, bits_cons}

pub part_inside : (p q r : List Bool) (k w : ℕ) → k + w ≤ length q → part (length p + k) w (p ++ (q ++ r)) ≡ part k w q
part_inside p q r k w h =
    let hk : k ≤ length q = omega arith in
    let hw : w ≤ length (drop k q) = rw length-drop (omega arith) in
    rw (drop-append-add, drop-append-le k q r hk, take-append-le w (drop k q) r hw)

pub in_octet : (s : List ℕ) (i k w : ℕ) → i < length s → k + w ≤ 8 → part (i * 8 + k) w (bits s) ≡ field w (get_or s i 0 / 2 ^ k)
in_octet s i k w hi hk =
    let x = get_or s i 0 in
    let e : bits s ≡ bits (take i s) ++ (field 8 x ++ bits (drop (suc i) s)) =
    ap bits (split_at s i 0 hi) ∙ bits_append (take i s) (x ∷ drop (suc i) s) ∙ ap (◌++◌ (bits (take i s))) (bits_cons x (drop (suc i) s)) in
    let n : length (bits (take i s)) ≡ i * 8 = rw (length_bits, length-take-le i s (le_of_lt hi)) in
    let h : k + w ≤ length (field 8 x) = rw length_field hk in
    rw (e, ← n) (part_inside (bits (take i s)) (field 8 x) (bits (drop (suc i) s)) k w h ∙ field_part 8 x k w hk)
