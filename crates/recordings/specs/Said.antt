-- Literal utterances, and tables, on which the promises are tried. Frames and pairs count from 0 in the laws, and from 1 in the comments.
-- Assumes nothing.
use Rattle.std.specs.Prelude.{◌≡◌, refl, Bool, true, false, List, [], ◌∷◌, ◌++◌, ℕ, zero, suc, ◌*◌, ◌^◌, ◌<◌, T, ltb, ℤ, pos, get_or, replicate, Ok}
use Rattle.std.proofs.Common.{sym, le_of_eq, lit<, ltb-true}
use Rattle.std.proofs.lemmas.List.{length-replicate}
use Rattle.lists.specs.Tests.{when, true_false, all_holds}
use Rattle.lists.specs.Rows.{joined}
use Rattle.lists.specs.Search.{first_from}
use Rattle.layout.specs.Layout.{frame_indices, index_octets, report_octets, threshold_numbers, first_frame, second_frame}
use Rattle.tables.specs.Tables.{Tables, tables_of, RightTables}
use Rattle.tables.proofs.AdmittedLaws.{none_by_test}
use Rattle.settings.specs.Settings.{settings}
use Rattle.frames.specs.Frames.{zero_frame}
use Rattle.packet.specs.Packet.{row, frame_at}
use Rattle.consistency.specs.Consistency.{flagged, flags, inconsistent}
use Rattle.image.specs.Made.{Small}
use Rattle.writer.specs.Writing.{verdict, room_answer, needed}
use Rattle.writer.specs.Utterance.{Utterance, multiframes_of}
use Rattle.demands.specs.Whole.{Lent}
use Rattle.demands_met.specs.Met.{index_for, report_for}

-- every one of a list's numbers is an octet, computed
abbrev pub octets_only : List ℕ → Bool
octets_only [] = true
octets_only (x ∷ l) = when (ltb x 256) (octets_only l) false

-- then each is small
pub small_octets : (l : List ℕ) → octets_only l ≡ true → Small l
small_octets [] e i = lit< tt
small_octets (x ∷ l) e i = by (ltb x 256) refl e i (λ z j. small_octets l z j)
  where
    by : (t : Bool) → ltb x 256 ≡ t → when t (octets_only l) false ≡ true → (i : ℕ) → (octets_only l ≡ true → Small l) → get_or (x ∷ l) i 0 < 2 ^ 8
    by true h z zero f = ltb-true x 256 h
    by true h z (suc i) f = f z i
    by false h z i f = absurd (true_false (sym z))

-- 8 kHz, type 0, 24 frames of ones, which take two multiframes
pub written_24 : verdict (settings 0 0) (replicate 168 1) (needed (replicate 168 1)) ≡ Ok (needed (replicate 168 1))
unfolding verdict room_answer first_from zero_frame
written_24 = refl

abbrev pub ones24 : Utterance
ones24 = record { settings = settings 0 0; indices = replicate 168 1; small = small_octets (replicate 168 1) refl; written = written_24 }

-- the same with frame 22 of zeros
abbrev pub gap : List ℕ
gap = replicate 147 1 ++ (replicate frame_indices 0 ++ replicate 14 1)

pub written_gap : verdict (settings 0 0) gap (needed gap) ≡ Ok (needed gap)
unfolding verdict room_answer first_from zero_frame
written_gap = refl

abbrev pub gap24 : Utterance
gap24 = record { settings = settings 0 0; indices = gap; small = small_octets gap refl; written = written_gap }

pub zero_22 : frame_at gap 21 ≡ replicate frame_indices 0
unfolding row
zero_22 = refl

-- ---- frames whose indices rise: one of ones, one of twos, and so on, 2n + 1 of them; behind the last, of ones, stands padding
abbrev pub rising : ℕ → List ℕ
rising zero = replicate frame_indices 1
rising (suc n) = replicate frame_indices 1 ++ (replicate frame_indices 2 ++ rising n)

pub written_23 : verdict (settings 0 0) (rising 11) (needed (rising 11)) ≡ Ok (needed (rising 11))
unfolding verdict room_answer first_from zero_frame
written_23 = refl

pub written_47 : verdict (settings 0 0) (rising 23) (needed (rising 23)) ≡ Ok (needed (rising 23))
unfolding verdict room_answer first_from zero_frame
written_47 = refl

pub written_7 : verdict (settings 0 0) (rising 3) (needed (rising 3)) ≡ Ok (needed (rising 3))
unfolding verdict room_answer first_from zero_frame
written_7 = refl

-- 23 frames, one multiframe; 47 frames, two; 7 frames, one multiframe of which most is padding
abbrev pub rises23 : Utterance
rises23 = record { settings = settings 0 0; indices = rising 11; small = small_octets (rising 11) refl; written = written_23 }

abbrev pub rises47 : Utterance
rises47 = record { settings = settings 0 0; indices = rising 23; small = small_octets (rising 23) refl; written = written_47 }

abbrev pub rises7 : Utterance
rises7 = record { settings = settings 0 0; indices = rising 3; small = small_octets (rising 3) refl; written = written_7 }

pub lengths : (multiframes_of rises23 ≡ 1) × (multiframes_of rises47 ≡ 2) × (multiframes_of rises7 ≡ 1)
lengths = (refl, refl, refl)

-- ---- tables under which a pair of these frames is inconsistent: entry 1 of each codebook is one number, every other is another, and all thresholds are 4
abbrev pub stair : ℤ → ℤ → ℕ → List ℤ
stair one other n = other ∷ other ∷ one ∷ one ∷ replicate n other

abbrev pub steps : ℤ → ℤ → Tables
steps one other = tables_of (joined (λ c. stair one other 124) 6 ++ stair one other 508) (replicate threshold_numbers (pos 4))

-- from 0 to 5: each pair rises by 5 from its first frame to its second
abbrev pub stairs : Tables
stairs = steps (pos 0) (pos 5)

-- from 5 to 0: each falls by 5, which counts as much (02, C-12)
abbrev pub drops : Tables
drops = steps (pos 5) (pos 0)

module _ (m : ℕ) (tables : Tables) (right : RightTables tables) where
  lent_by : Lent m tables (index_for m) (report_for m)
  lent_by = record {
    right_tables = right;
    index_room = le_of_eq (sym (length-replicate (index_octets * m) 0));
    report_room = le_of_eq (sym (length-replicate (report_octets * m) 0));
  }

pub lent_stairs : (m : ℕ) → Lent m stairs (index_for m) (report_for m)
lent_stairs m = lent_by m stairs ((refl, refl), none_by_test stairs tt)

pub lent_drops : (m : ℕ) → Lent m drops (index_for m) (report_for m)
lent_drops m = lent_by m drops ((refl, refl), none_by_test drops tt)

-- which pairs are inconsistent: of 23 and of 47 frames all, also the last, whose second frame is padding
abbrev inconsistent_pair : Tables → List ℕ → ℕ → Bool
inconsistent_pair tables idx q = inconsistent tables (frame_at idx (first_frame q)) (frame_at idx (second_frame q))

is_true : (b : Bool) → T b → b ≡ true
is_true true t = refl
is_true false t = absurd t

pub inconsistent_23 : (q : ℕ) → q < 12 → inconsistent stairs (frame_at (rising 11) (first_frame q)) (frame_at (rising 11) (second_frame q)) ≡ true
unfolding inconsistent flags flagged row
inconsistent_23 q h = is_true (inconsistent_pair stairs (rising 11) q) (all_holds (inconsistent_pair stairs (rising 11)) 12 tt q h)

pub inconsistent_47 : (q : ℕ) → q < 24 → inconsistent stairs (frame_at (rising 23) (first_frame q)) (frame_at (rising 23) (second_frame q)) ≡ true
unfolding inconsistent flags flagged row
inconsistent_47 q h = is_true (inconsistent_pair stairs (rising 23) q) (all_holds (inconsistent_pair stairs (rising 23)) 24 tt q h)

-- and where they fall
pub inconsistent_47_falls : (q : ℕ) → q < 24 → inconsistent drops (frame_at (rising 23) (first_frame q)) (frame_at (rising 23) (second_frame q)) ≡ true
unfolding inconsistent flags flagged row
inconsistent_47_falls q h = is_true (inconsistent_pair drops (rising 23) q) (all_holds (inconsistent_pair drops (rising 23)) 24 tt q h)

-- of 7 frames the first four pairs, and not the fifth, which is padding
pub inconsistent_7 : (q : ℕ) → q < 4 → inconsistent stairs (frame_at (rising 3) (first_frame q)) (frame_at (rising 3) (second_frame q)) ≡ true
unfolding inconsistent flags flagged row
inconsistent_7 q h = is_true (inconsistent_pair stairs (rising 3) q) (all_holds (inconsistent_pair stairs (rising 3)) 4 tt q h)

pub consistent_7 : inconsistent stairs (frame_at (rising 3) (first_frame 4)) (frame_at (rising 3) (second_frame 4)) ≡ false
unfolding inconsistent flags flagged row
consistent_7 = refl
