-- Octets of any bits in front, multiframes of any sixteen bits, header words and streams, and any bits behind, and what stands where in them:
-- the examples are laid so.
-- Assumes nothing.
use Rattle.std.specs.Prelude.{ℕ, ◌+◌, ◌-◌, ◌*◌, ◌^◌, ◌≤◌, ◌<◌, ◌≡◌, List, ◌++◌, Bool, length, take, drop}
use Rattle.std.proofs.Common.{sym, ap, ◌∙◌, mod-eq_of_lt, arith, length-append, take_all, take_at, drop_at, drop-drop}
use Rattle.std.proofs.Math.Seq.{drop-append-add}
use Rattle.lists.specs.Parts.{part, part_left, part_right}
use Rattle.lists.specs.Rows.{joined, length_joined, joined_part}
use Rattle.layout.specs.Layout.{multiframe_octets}
use Rattle.bits.specs.Bits.{field, value, bits, octets}
use Rattle.bits.proofs.Laws.{length_field, value_field, bits_octets}
use Rattle.hunt.specs.Hunt.{sync_bits, header_bits, multiframe_bits}
use Rattle.image.specs.Made.{part_within}
use Rattle.hunting_demands.specs.Standing.{place_in_row, stream_bits, sync_at, word_at, stream_at}

-- sixteen bits, a header word and a stream
abbrev pub laid_multiframe : List Bool → ℕ → List Bool → List Bool
laid_multiframe y w x = y ++ (field header_bits w ++ x)

module _ (y : List Bool) (w : ℕ) (x : List Bool) (size : length y ≡ sync_bits) where
  pub sync_in_lem : part 0 sync_bits (laid_multiframe y w x) ≡ y
  sync_in_lem = take_at y (field header_bits w ++ x) sync_bits size

  pub word_in_lem : w < 2 ^ header_bits → value (part sync_bits header_bits (laid_multiframe y w x)) ≡ w
  word_in_lem h =
      ap value (part_right y (field header_bits w ++ x) sync_bits header_bits size ∙ take_at (field header_bits w) x header_bits (length_field header_bits w)) ∙ value_field header_bits w ∙ mod-eq_of_lt h

module _ (front : List Bool) (y : ℕ → List Bool) (w : ℕ → ℕ) (x : ℕ → List Bool) (m : ℕ) (behind : List Bool) where
  abbrev pub laid_bits : List Bool
  laid_bits = front ++ (joined (λ k. laid_multiframe (y k) (w k) (x k)) m ++ behind)

  -- on octets, if what stands in front and behind fills n of them
  abbrev pub laid_octets : ℕ → List ℕ
  laid_octets n = octets (n + multiframe_octets * m) laid_bits

  pub record Sizes (n : ℕ) : Type 0 where
    pub syncs : (k : ℕ) → length (y k) ≡ sync_bits
    pub words : (k : ℕ) → w k < 2 ^ header_bits
    pub streams : (k : ℕ) → length (x k) ≡ stream_bits
    pub around : length front + length behind ≡ 8 * n

  module _ (n : ℕ) (z : Sizes n) where
    abbrev each : ℕ → List Bool
    each k = laid_multiframe (y k) (w k) (x k)

    size_each : (k : ℕ) → length (each k) ≡ multiframe_bits
    size_each k =
        length-append (y k) (field header_bits (w k) ++ x k) ∙ omega (arith, length-append (field header_bits (w k)) (x k), length_field header_bits (w k), z.syncs k, z.streams k)

    size_joined : length (joined each m) ≡ multiframe_bits * m
    size_joined = length_joined each multiframe_bits m (λ k h. size_each k)

    size_bits : length laid_bits ≡ 8 * (n + multiframe_octets * m)
    size_bits = length-append front (joined each m ++ behind) ∙ omega (arith, length-append (joined each m) behind, size_joined, z.around)

    pub bits_laid : bits (laid_octets n) ≡ laid_bits
    bits_laid = bits_octets (n + multiframe_octets * m) laid_bits size_bits

    pub size_laid : length (bits (laid_octets n)) ≡ 8 * n + multiframe_bits * m
    size_laid = ap length bits_laid ∙ size_bits ∙ omega arith

    -- what stands behind
    pub laid_behind : (t v : ℕ) → length front + multiframe_bits * m ≤ t → part t v (bits (laid_octets n)) ≡ part (t - (length front + multiframe_bits * m)) v behind
    laid_behind t v h =
        let j = t - (length front + multiframe_bits * m) in
        let e : t ≡ length front + (length (joined each m) + j) = omega (arith, size_joined) in
        ap (part t v) bits_laid ∙ ap (λ (i : ℕ). part i v laid_bits) e
        ∙ ap (take v) (drop-append-add front (joined each m ++ behind) (length (joined each m) + j) ∙ drop-append-add (joined each m) behind j)

    -- and in multiframe k
    module _ (k : ℕ) (h : k < m) where
      whole_at : part (place_in_row (length front) k) multiframe_bits laid_bits ≡ each k
      whole_at =
          ap (take multiframe_bits) (drop-append-add front (joined each m ++ behind) (multiframe_bits * k))
          ∙ part_left (joined each m) behind (multiframe_bits * k) multiframe_bits (omega (arith, size_joined))
          ∙ joined_part each multiframe_bits m k (λ i l. size_each i) h

      inside : (a v t : ℕ) → a + v ≤ multiframe_bits → t ≡ place_in_row (length front) k + a → part t v (bits (laid_octets n)) ≡ part a v (each k)
      inside a v t l e =
          ap (part t v) bits_laid ∙ ap (λ (i : ℕ). part i v laid_bits) e
          ∙ part_within laid_bits (place_in_row (length front) k) multiframe_bits a v (omega (arith, size_bits, z.around)) l ∙ ap (part a v) whole_at

      pub laid_sync : sync_at (bits (laid_octets n)) (place_in_row (length front) k) ≡ y k
      laid_sync = inside 0 sync_bits (length front + multiframe_bits * k) (omega arith) (omega arith) ∙ sync_in_lem (y k) (w k) (x k) (z.syncs k)

      pub laid_word : word_at (bits (laid_octets n)) (place_in_row (length front) k) ≡ w k
      laid_word = ap value (inside sync_bits header_bits (length front + multiframe_bits * k + sync_bits) (omega arith) (omega arith)) ∙ word_in_lem (y k) (w k) (x k) (z.syncs k) (z.words k)

      pub laid_stream : stream_at (bits (laid_octets n)) (place_in_row (length front) k) ≡ x k
      laid_stream =
          inside (sync_bits + header_bits) stream_bits (length front + multiframe_bits * k + sync_bits + header_bits) (omega arith) (omega arith)
          ∙ ap (take stream_bits)
          (sym (drop-drop header_bits sync_bits (each k)) ∙ ap (drop header_bits) (drop_at (y k) (field header_bits (w k) ++ x k) sync_bits (z.syncs k))
          ∙ drop_at (field header_bits (w k)) (x k) header_bits (length_field header_bits (w k)))
          ∙ take_all stream_bits (x k) (omega (arith, z.streams k))
