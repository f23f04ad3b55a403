-- The steps by which the code works out the pairs' notes and frames: one packet, one pair, one multiframe more.
-- Assumes nothing.
use Prim.Native.Nat.{ℕ, zero, suc, ◌+◌, ◌*◌, ◌≤◌, ◌<◌}
use mathlib.Core.Path.{◌≡◌, refl, sym, ap, ap₂, ◌∙◌, subst}
use mathlib.Core.List.{List, [], ◌∷◌, ◌++◌}
use mathlib.Core.Bool.{Bool, true, false, not}
use lib.ListN.{length, get_or, set, take, drop, length-drop, length-take, length-set, get_or-eq_default}
use lib.Seq.{drop-cons, take-suc, take_all, take_at, drop_at, ext_get_or}
use native.Mathlib.Decide.{dec_lt}
use native.Mathlib.Numerals.{add-one}
use native.Mathlib.Omega.{arith}
use Rattle.lists.specs.Tests.{when}
use Rattle.lists.specs.Parts.{part, over, over_none, set_over, behind, over_behind}
use Rattle.lists.specs.Rows.{each, joined, length_each, each_at, same_each, same_joined, each_add, joined_add}
use Rattle.layout.specs.Layout.{widths, frame_indices, pair_indices, data_bits, multiframe_pairs, index_octets, first_pair}
use Rattle.tables.specs.Tables.{Tables}
use Rattle.carrier.specs.Carrier.{stream_at, stream_packet, in_places, received}
use Rattle.carrier.specs.Laws.{packet_of_lem}
use Rattle.crc.specs.Crc.{right}
use Rattle.bits.specs.Bits.{bits, numbers, total, Fits}
use Rattle.bits.proofs.Laws.{fits_numbers, length_numbers}
use Rattle.packet.specs.Packet.{apart}
use Rattle.consistency.specs.Consistency.{inconsistent, InRange}
use Rattle.bad_pairs.specs.BadPairs.{bad, note_by, undecided_by, notes_from, notes, bad_pairs}
use Rattle.bad_pairs.specs.Laws.{notes_length, only_undecided, notes_step, none_bad}
use Rattle.notes.specs.Notes.{pair_fails, frames_of, all_frames, crc_note, crc_notes, pair_inconsistent, pair_notes}
use Rattle.notes.specs.Laws.{length_frames, length_all, length_notes, no_failed_crc, over_all}

-- ---- the indices of a frame from a packet are in range
pub in_range_lem : (l : List Bool) → InRange (numbers widths l)
unfolding Fits numbers
in_range_lem l k h = by (fits_numbers widths l) k h
  where
    by : Fits widths (numbers widths l) → (k : ℕ) → k < 6 → get_or (numbers widths l) k 0 < 64
    by f zero h = f.0
    by f (suc zero) h = f.1.0
    by f (suc (suc zero)) h = f.1.1.0
    by f (suc (suc (suc zero))) h = f.1.1.1.0
    by f (suc (suc (suc (suc zero)))) h = f.1.1.1.1.0
    by f (suc (suc (suc (suc (suc zero))))) h = f.1.1.1.1.1.0
    by f (suc (suc (suc (suc (suc (suc k)))))) h = absurd (omega arith)

module _ (packets : ℕ → List Bool) (q : ℕ) where
  -- the two frames, each seven indices in range
  pub first_range : InRange (part 0 frame_indices (frames_of packets q))
  unfolding frames_of apart
  first_range =
      let p = packets q in
      subst InRange (sym (take_at (numbers widths p) (numbers widths (drop (total widths) p)) frame_indices (length_numbers widths p))) (in_range_lem p)

  second_is : part frame_indices frame_indices (frames_of packets q) ≡ drop frame_indices (frames_of packets q)
  second_is =
      let f = frames_of packets q in
      take_all frame_indices (drop frame_indices f) (rw (length-drop, length_frames packets q) (omega arith))

  pub second_range : InRange (part frame_indices frame_indices (frames_of packets q))
  unfolding frames_of apart
  second_range =
      let p = packets q in
      subst InRange (sym (second_is ∙ drop_at (numbers widths p) (numbers widths (drop (total widths) p)) frame_indices (length_numbers widths p)))
      (in_range_lem (drop (total widths) p))

  -- what the code finds in fourteen octets of its own
  module _ (l : List ℕ) (e : l ≡ frames_of packets q) (tables : Tables) where
    pub ranges : InRange (part 0 frame_indices l) × InRange (part frame_indices frame_indices l)
    ranges = (subst (λ (x : List ℕ). InRange (part 0 frame_indices x)) (sym e) first_range, subst (λ (x : List ℕ). InRange (part frame_indices frame_indices x)) (sym e) second_range)

    pub inconsistent_is : inconsistent tables (part 0 frame_indices l) (part frame_indices frame_indices l) ≡ pair_inconsistent packets tables q
    unfolding pair_inconsistent
    inconsistent_is =
        ap (λ (x : List ℕ). inconsistent tables (part 0 frame_indices x) (part frame_indices frame_indices x)) e
        ∙ ap (inconsistent tables (take frame_indices (frames_of packets q))) second_is

-- ---- the CRC's note of each pair, before judging
pub crc_note_bad : (fails : Bool) → bad (crc_note fails) ≡ fails
unfolding note_by
crc_note_bad true = refl
crc_note_bad false = refl

pub length_crcs : (packets : ℕ → List Bool) (n : ℕ) → length (crc_notes packets n) ≡ n
length_crcs packets n = length_each (λ q. crc_note (pair_fails packets q)) n

-- whether pair q failed, of n
pub crc_bad : (packets : ℕ → List Bool) (n q : ℕ) → bad (get_or (crc_notes packets n) q 0) ≡ get_or (each (pair_fails packets) n) q false
crc_bad packets n q =
    elim (dec_lt q n) [
      | yes y ↦ ap bad (each_at (λ q. crc_note (pair_fails packets q)) n q 0 y) ∙ crc_note_bad (pair_fails packets q) ∙ sym (each_at (pair_fails packets) n q false y)
      | no y ↦
          ap bad (get_or-eq_default (crc_notes packets n) 0 (omega (arith, length_crcs packets n)))
          ∙ sym (get_or-eq_default (each (pair_fails packets) n) false (omega (arith, length_each (pair_fails packets) n)))
    ]

-- ---- judging: the first q notes are those of all pairs, the others still those of the CRC
pub record Judged (packets : ℕ → List Bool) (tables : Tables) (n : ℕ) (m : List ℕ) (before : Bool) (q : ℕ) : Type 0 where
  pub within : q ≤ n
  pub size : length m ≡ n
  pub now : m ≡ over (crc_notes packets n) 0 q (take q (notes (each (pair_fails packets) n) (each (pair_inconsistent packets tables) n)))
  pub ahead : drop q (notes (each (pair_fails packets) n) (each (pair_inconsistent packets tables) n))
      ≡ notes_from before (drop q (each (pair_fails packets) n)) (drop q (each (pair_inconsistent packets tables) n))

module _ (packets : ℕ → List Bool) (tables : Tables) (n : ℕ) where
  abbrev fs : List Bool
  fs = each (pair_fails packets) n

  abbrev os : List Bool
  os = each (pair_inconsistent packets tables) n

  abbrev cs : List ℕ
  cs = crc_notes packets n

  abbrev ns : List ℕ
  ns = notes fs os

  size_cs : length cs ≡ n
  size_cs = length_crcs packets n

  size_fs : length fs ≡ n
  size_fs = length_each (pair_fails packets) n

  size_ns : length ns ≡ n
  size_ns = notes_length false fs os ∙ size_fs

  pub judging_begun : (m : List ℕ) → m ≡ cs → Judged packets tables n m false 0
  judging_begun m e = record { within = omega arith; size = ap length e ∙ size_cs; now = e ∙ over_none cs 0; ahead = refl }

  module _ (m : List ℕ) (before : Bool) (q : ℕ) (j : Judged packets tables n m before q) where
    size_front : length (take q ns) ≡ q
    size_front = rw length-take (omega (arith, size_ns, j.within))

    -- what the CRC said stands where judging has not come
    pub still : (i : ℕ) → q ≤ i → bad (get_or m i 0) ≡ get_or fs i false
    still i h =
        ap (λ (l : List ℕ). bad (get_or l i 0)) j.now
        ∙ ap bad (over_behind cs (take q ns) 0 q (omega (arith, size_cs, j.within)) size_front i 0 (omega arith)) ∙ crc_bad packets n i

    module _ (less : q < n) (fails differ after : Bool) (x : ℕ) (ef : fails ≡ bad (get_or m q 0)) (ea : after ≡ bad (get_or m (q + 1) 0))
        (eo : differ ≡ when (undecided_by before fails after) (pair_inconsistent packets tables q) false) (ex : x ≡ note_by before fails differ after) where
      own : fails ≡ get_or fs q false
      own = ef ∙ still q (omega arith)

      next : after ≡ get_or fs (q + 1) false
      next = ea ∙ still (q + 1) (omega arith)

      y : ℕ
      y = note_by before (get_or fs q false) (get_or os q false) (get_or fs (q + 1) false)

      x_is : x ≡ y
      unfolding y
      x_is =
          let o : pair_inconsistent packets tables q ≡ get_or os q false = sym (each_at (pair_inconsistent packets tables) n q false less) in
          ex ∙ ap (λ (t : Bool). note_by before fails t after) eo ∙ sym (only_undecided before fails (pair_inconsistent packets tables q) after)
          ∙ ap (λ (t : Bool). note_by before fails t after) o ∙ ap₂ (λ (s t : Bool). note_by before s (get_or os q false) t) own next

      rest : drop q ns ≡ y ∷ notes_from (bad y) (drop (q + 1) fs) (drop (q + 1) os)
      unfolding y
      rest = j.ahead ∙ notes_step before q fs os (omega (arith, size_fs))

      front : drop q ns ≡ get_or ns q 0 ∷ drop (suc q) ns
      front = drop-cons ns q 0 (omega (arith, size_ns))

      here : get_or ns q 0 ≡ y
      here = let e = sym front ∙ rest in cc

      there : drop (suc q) ns ≡ notes_from (bad y) (drop (q + 1) fs) (drop (q + 1) os)
      there = let e = sym front ∙ rest in cc

      pub judged_on : Judged packets tables n (set m q x) (bad x) (q + 1)
      judged_on =
          let z : 0 + q ≡ q = omega arith in
          let s : set m q x ≡ over m (0 + q) 1 (get_or ns q 0 ∷ []) =
          set_over m q x (omega (arith, j.size)) ∙ ap (λ (k : ℕ). over m q 1 (k ∷ [])) (x_is ∙ sym here) ∙ ap (λ (i : ℕ). over m i 1 (get_or ns q 0 ∷ [])) (sym z) in
          let t : take (q + 1) ns ≡ take q ns ++ (get_or ns q 0 ∷ []) = ap (λ (k : ℕ). take k ns) (add-one q) ∙ take-suc ns q 0 (omega (arith, size_ns)) in
          record {
            within = omega arith;
            size = length-set m q x ∙ j.size;
            now = behind cs 0 q 1 (take q ns) (get_or ns q 0 ∷ []) (omega (arith, size_cs)) size_front j.now s ∙ ap (over cs 0 (q + 1)) (sym t);
            ahead = ap (λ (k : ℕ). drop k ns) (add-one q) ∙ there ∙ ap (λ (k : ℕ). notes_from (bad k) (drop (q + 1) fs) (drop (q + 1) os)) (sym x_is);
          }

  pub judging_done : (m : List ℕ) (before : Bool) (q : ℕ) → Judged packets tables n m before q → q ≡ n → m ≡ ns
  judging_done m before q j e =
      j.now ∙ ap (λ (k : ℕ). over cs 0 k (take k ns)) e ∙ over_all cs (take n ns) n size_cs ∙ take_all n ns (omega (arith, size_ns))

-- ---- where no CRC failed the notes of the CRCs are those of the pairs: no pair is judged
pub none_failed : (packets : ℕ → List Bool) (n : ℕ) (tables : Tables) → bad_pairs (crc_notes packets n) ≡ 0
    → crc_notes packets n ≡ pair_notes packets n tables
none_failed packets n tables e =
    let cs = crc_notes packets n in
    let size = length_crcs packets n in
    let passes : (q : ℕ) → q < n → pair_fails packets q ≡ false =
    λ q h. sym (crc_note_bad (pair_fails packets q)) ∙ ap bad (sym (each_at (λ q. crc_note (pair_fails packets q)) n q 0 h) ∙ none_bad cs e q) in
    ext_get_or 0 cs (pair_notes packets n tables) (size ∙ sym (length_notes packets n tables))
    (λ q h. none_bad cs e q ∙ sym (no_failed_crc packets n tables passes q (omega (arith, size))))

-- ---- multiframe k's twelve packets stand in one stream, of bits s
module _ (packets : ℕ → List Bool) (s : List Bool) (k : ℕ) (same : (p : ℕ) → p < multiframe_pairs → packets (first_pair k + p) ≡ stream_packet s p) where
  notes_of : each (λ p. crc_note (pair_fails packets (first_pair k + p))) multiframe_pairs ≡ crc_notes (stream_packet s) multiframe_pairs
  unfolding pair_fails
  notes_of =
      same_each (λ p. crc_note (pair_fails packets (first_pair k + p))) (λ p. crc_note (pair_fails (stream_packet s) p)) multiframe_pairs
      (λ p h. ap (λ (l : List Bool). crc_note (not (right data_bits l))) (same p h))

  frames_of_lem : joined (λ p. frames_of packets (first_pair k + p)) multiframe_pairs ≡ all_frames (stream_packet s) multiframe_pairs
  unfolding frames_of all_frames
  frames_of_lem =
      same_joined (λ p. frames_of packets (first_pair k + p)) (frames_of (stream_packet s)) multiframe_pairs (λ p h. ap (apart widths) (same p h))

  -- the notes of one stream more are laid behind the others
  pub noted_on : (l m n : List ℕ) → first_pair k + multiframe_pairs ≤ length l → m ≡ over l 0 (first_pair k) (crc_notes packets (first_pair k))
      → n ≡ over m (first_pair k) multiframe_pairs (crc_notes (stream_packet s) multiframe_pairs)
      → n ≡ over l 0 (first_pair (k + 1)) (crc_notes packets (first_pair (k + 1)))
  noted_on l m n room em en =
      let z : 0 + first_pair k ≡ first_pair k = omega arith in
      let t : first_pair k + multiframe_pairs ≡ first_pair (k + 1) = omega arith in
      behind l 0 (first_pair k) multiframe_pairs (crc_notes packets (first_pair k)) (crc_notes (stream_packet s) multiframe_pairs) (omega arith) (length_crcs packets (first_pair k)) em
      (en ∙ ap (λ (i : ℕ). over m i multiframe_pairs (crc_notes (stream_packet s) multiframe_pairs)) (sym z))
      ∙ ap (over l 0 (first_pair k + multiframe_pairs)) (ap (λ (x : List ℕ). crc_notes packets (first_pair k) ++ x) (sym notes_of) ∙ sym (each_add (λ q. crc_note (pair_fails packets q)) (first_pair k) multiframe_pairs))
      ∙ ap (λ (i : ℕ). over l 0 i (crc_notes packets i)) t

  -- and its frames
  pub laid_on : (l m n : List ℕ) → pair_indices * (first_pair k + multiframe_pairs) ≤ length l
      → m ≡ over l 0 (pair_indices * first_pair k) (all_frames packets (first_pair k))
      → n ≡ over m (pair_indices * first_pair k) index_octets (all_frames (stream_packet s) multiframe_pairs)
      → n ≡ over l 0 (pair_indices * first_pair (k + 1)) (all_frames packets (first_pair (k + 1)))
  unfolding all_frames
  laid_on l m n room em en =
      let fs = frames_of packets in
      let more = joined (frames_of (stream_packet s)) multiframe_pairs in
      let z : 0 + pair_indices * first_pair k ≡ pair_indices * first_pair k = omega arith in
      let t : first_pair k + multiframe_pairs ≡ first_pair (k + 1) = omega arith in
      let u : pair_indices * first_pair k + index_octets ≡ pair_indices * (first_pair k + multiframe_pairs) = omega arith in
      behind l 0 (pair_indices * first_pair k) index_octets (joined fs (first_pair k)) more (omega arith) (length_all packets (first_pair k)) em (en ∙ ap (λ (i : ℕ). over m i index_octets more) (sym z))
      ∙ ap (over l 0 (pair_indices * first_pair k + index_octets)) (ap (λ (x : List ℕ). joined fs (first_pair k) ++ x) (sym frames_of_lem) ∙ sym (joined_add fs (first_pair k) multiframe_pairs))
      ∙ ap (λ (i : ℕ). over l 0 i (joined fs (first_pair k + multiframe_pairs))) u ∙ ap (λ (i : ℕ). over l 0 (pair_indices * i) (joined fs i)) t

-- ---- what the code finds in a packet
pub fails_is : (packets : ℕ → List Bool) (q : ℕ) (r : Bool) → r ≡ right data_bits (packets q) → not r ≡ pair_fails packets q
unfolding pair_fails
fails_is packets q r e = ap not e

pub put_is : (packets : ℕ → List Bool) (q : ℕ) (l m : List ℕ) (to : ℕ) → m ≡ over l to pair_indices (apart widths (packets q))
    → m ≡ over l to pair_indices (frames_of packets q)
unfolding frames_of
put_is packets q l m to e = e

-- ---- one multiframe more: the notes of its stream, and its frames
module _ (octets places : List ℕ) (k f : ℕ) (ef : f ≡ first_pair k) (s : List ℕ) (es : s ≡ stream_at octets (in_places places) k) where
  pub noted_more : (l m n : List ℕ) → first_pair k + multiframe_pairs ≤ length l → m ≡ over l 0 (first_pair k) (crc_notes (received octets places) (first_pair k))
      → n ≡ over m f multiframe_pairs (crc_notes (stream_packet (bits s)) multiframe_pairs)
      → n ≡ over l 0 (first_pair (k + 1)) (crc_notes (received octets places) (first_pair (k + 1)))
  noted_more l m n room em en =
      noted_on (received octets places) (bits (stream_at octets (in_places places) k)) k (packet_of_lem octets (in_places places) k) l m n room em
      (en ∙ ap₂ (λ (i : ℕ) (x : List ℕ). over m i multiframe_pairs (crc_notes (stream_packet (bits x)) multiframe_pairs)) ef es)

  pub laid_more : (l m n : List ℕ) → pair_indices * (first_pair k + multiframe_pairs) ≤ length l
      → m ≡ over l 0 (pair_indices * first_pair k) (all_frames (received octets places) (first_pair k))
      → n ≡ over m (pair_indices * f) index_octets (all_frames (stream_packet (bits s)) multiframe_pairs)
      → n ≡ over l 0 (pair_indices * first_pair (k + 1)) (all_frames (received octets places) (first_pair (k + 1)))
  laid_more l m n room em en =
      laid_on (received octets places) (bits (stream_at octets (in_places places) k)) k (packet_of_lem octets (in_places places) k) l m n room em
      (en ∙ ap₂ (λ (i : ℕ) (x : List ℕ). over m (pair_indices * i) index_octets (all_frames (stream_packet (bits x)) multiframe_pairs)) ef es)
