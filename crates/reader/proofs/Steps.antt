-- The last steps of the code's proofs, over lists and numbers alone: what each function's calls and branches give, put together.
-- Assumes nothing.
use Rattle.std.specs.Prelude.{Ok, Err}
use Prim.Native.Nat.{ℕ, zero, suc, ◌+◌, ◌-◌, ◌*◌, ◌≤◌, ◌<◌}
use mathlib.Core.Path.{◌≡◌, refl, ap, ap₂, ◌∙◌}
use mathlib.Core.List.{List, ◌++◌}
use mathlib.Core.Bool.{Bool}
use native.Mathlib.Omega.{arith}
use lib.ListN.{length, get_or, take, drop, length-append}
use lib.Seq.{take_at}
use Rattle.lists.specs.Tests.{when}
use Rattle.lists.specs.Parts.{over, over_in, drop_over, part_left}
use Rattle.layout.specs.Layout.{frame_indices, pair_frames, multiframe_frames, index_octets, report_octets}
use Rattle.choices.specs.declared.Choices.{Choices}
use Rattle.tables.specs.Tables.{Tables}
use Rattle.settings.specs.declared.Settings.{Settings}
use Rattle.frames.specs.Frames.{all_zero, zero_frame}
use Rattle.message.specs.Message.{settings_of}
use Rattle.carrier.specs.Carrier.{received, pair_count}
use Rattle.notes.specs.Laws.{length_all, length_notes}
use Rattle.bad_pairs.specs.BadPairs.{bad_pairs}
use Rattle.bad_pairs.specs.Laws.{Good, some_good, few_bad}
use Rattle.cutting.specs.Cutting.{Ending, whole, refused, Cutting, answered_by, answered, laid}
use Rattle.replacing.specs.Replacing.{pairs_octets, replaced}
use Rattle.replacing.proofs.Laws.{same_replaced}
use Rattle.replacing.specs.Speech.{last_nonzero, speech_of, end_of}
use Rattle.deciding.specs.Deciding.{whole_verdict, received_notes}
use Rattle.report.specs.Report.{report_part}
use Rattle.reader.specs.Reading.{answer_number, answer_values, index_part, summary, Outcome, outcome, finished, reading, received_frames}
use Rattle.deciding.specs.Laws.{whole_accepted}
use Rattle.reader.proofs.ReadingLaws.{length_index}
use Rattle.reader.specs.declared.Summary.{Summary}
use Rattle.refusals.specs.declared.Reading.{Reading as Refusal}
use Rattle.deciding.specs.Types.{Verdict}

-- ---- the index octets, taken apart and then replaced
module _ (octets places ns l m n : List ℕ) (size : length ns ≡ pair_count places) (room : index_octets * length places ≤ length l)
    (em : m ≡ over l 0 (pair_frames * frame_indices * pair_count places) (received_frames octets places)) where
  pub same_octets : pairs_octets (length ns) ≡ pair_frames * frame_indices * pair_count places
  same_octets = ap pairs_octets size ∙ omega arith

  pub replaced_same : Good ns → replaced ns m ≡ index_part octets places ns
  replaced_same g =
      ap (replaced ns) em
      ∙ same_replaced ns g (over l 0 (14 * pair_count places) (received_frames octets places)) (received_frames octets places) (λ t h z.
      let u : t ≡ 0 + t = omega arith in
      ap (λ (k : ℕ). get_or (over l 0 (14 * pair_count places) (received_frames octets places)) k 0) u
      ∙ over_in l (received_frames octets places) 0 (14 * pair_count places) (omega arith) (length_all (received octets places) (pair_count places)) t 0 (omega (arith, same_octets)))

  pub index_is : Good ns → n ≡ over m 0 (pairs_octets (length ns)) (replaced ns m) → n ≡ over l 0 (index_octets * length places) (index_part octets places ns)
  index_is g en =
      let w : pairs_octets (length ns) ≡ 168 * length places = same_octets ∙ omega arith in
      let v : 14 * pair_count places ≡ 168 * length places = omega arith in
      en ∙ ap₂ (λ (k : ℕ) (x : List ℕ). over m 0 k x) w (replaced_same g)
      ∙ ap (λ (x : List ℕ). index_part octets places ns ++ x)
      (ap (λ (x : List ℕ). drop (0 + 168 * length places) x) em
      ∙ drop_over l (received_frames octets places) 0 (14 * pair_count places) (omega arith) (length_all (received octets places) (pair_count places)) (0 + 168 * length places) (omega arith))

-- ---- speech and end look at the front of the index octets only
module _ (l f : List ℕ) (w : ℕ) (size : length f ≡ w) where
  front_frame : (i : ℕ) → frame_indices * i + frame_indices ≤ w → zero_frame (over l 0 w f) i ≡ zero_frame f i
  unfolding zero_frame
  front_frame i h = ap all_zero (part_left f (drop (0 + w) l) (frame_indices * i) frame_indices (omega arith))

  front_place : (i n : ℕ) → frame_indices * (i + n) ≤ w → last_nonzero (over l 0 w f) i n ≡ last_nonzero f i n
  unfolding last_nonzero
  front_place i zero h = refl
  front_place i (suc n) h =
      ap₂ (λ (t : Bool) (k : ℕ). when t k (suc n)) (front_frame (i + n) (omega arith)) (front_place i n (omega arith))

  pub front_speech : (m : ℕ) → 1 ≤ m → index_octets * m ≤ w → speech_of m (over l 0 w f) ≡ speech_of m f
  front_speech m h k = ap (λ (x : ℕ). multiframe_frames * (m - 1) + x) (front_place (multiframe_frames * (m - 1)) multiframe_frames (omega arith))

  pub front_end : (m : ℕ) → 1 ≤ m → index_octets * m ≤ w → end_of m (over l 0 w f) ≡ end_of m f
  front_end m h k = ap (λ (t : Bool). when t 1 0) (front_frame (multiframe_frames * m - 1) (omega arith))

-- ---- the summary of what was written
pub summary_is : (octets places ns : List ℕ) (c : ℕ) (settings : Settings) (speech bad end : ℕ) (l n : List ℕ) → 1 ≤ length places → length ns ≡ pair_count places
    → n ≡ over l 0 (index_octets * length places) (index_part octets places ns)
    → settings ≡ settings_of c → speech ≡ speech_of (length places) n → bad ≡ bad_pairs ns → end ≡ end_of (length places) n
    → record { settings = settings; multiframes = length places; speech = speech; bad = bad; end = end } ≡ summary octets places ns c
summary_is octets places ns c settings speech bad end l n some size en et es eb ee =
    let m = length places in
    let w = length_index octets places ns size in
    let s : speech ≡ speech_of m (index_part octets places ns) = es ∙ ap (speech_of m) en ∙ front_speech l (index_part octets places ns) (index_octets * m) w m some (omega arith) in
    let e : end ≡ end_of m (index_part octets places ns) = ee ∙ ap (end_of m) en ∙ front_end l (index_part octets places ns) (index_octets * m) w m some (omega arith) in
    rw (et, s, eb, e)

-- ---- an accepted reading can be written
pub record Ready (octets : List ℕ) (tables : Tables) (index report : ℕ) (places : List ℕ) : Type 0 where
  pub some : 1 ≤ length places
  pub good : Good (received_notes octets places tables)
  pub index_room : index_octets * length places ≤ index
  pub report_room : report_octets * length places ≤ report

pub ready : (ch : Choices) (octets : List ℕ) (tables : Tables) (index report : ℕ) (places : List ℕ) (c : ℕ)
    → whole_verdict ch octets tables index report places ≡ Ok c → Ready octets tables index report places
ready ch octets tables index report places c e =
    let h = whole_accepted ch octets tables index report places c e in
    let ns = received_notes octets places tables in
    let n = length_notes (received octets places) (pair_count places) tables in
    let roomy = h.1.roomy in
    record {
      some = positive (length places) h.0;
      good = some_good ns (fewer (bad_pairs ns) (length ns) (few_bad ns) (λ z. roomy.not_all (z ∙ n)));
      index_room = roomy.index_room;
      report_room = roomy.report_room;
    }
  where
    positive : (n : ℕ) → (n ≡ 0 → ⊥) → 1 ≤ n
    positive n h = omega arith

    fewer : (a b : ℕ) → a ≤ b → (a ≡ b → ⊥) → a < b
    fewer a b h n = omega arith

module _ (octets : List ℕ) (tables : Tables) (index report places : List ℕ) (v : Verdict) where
  pub finished_refused : (r : Refusal) → v ≡ Err r → outcome (Err r) index report ≡ finished octets tables index report places v
  finished_refused r e = rw e

  pub finished_read : (c : ℕ) (s : Summary) (i r ns : List ℕ) → v ≡ Ok c → ns ≡ received_notes octets places tables → s ≡ summary octets places ns c
      → i ≡ over index 0 (index_octets * length places) (index_part octets places ns) → r ≡ over report 0 (report_octets * length places) (report_part octets places ns c)
      → outcome (Ok s) i r ≡ finished octets tables index report places v
  finished_read c s i r ns ev en es ei er = rw (ev, es, ei, er, en)

-- ---- what cutting answered
pub cut_whole : (w : Cutting) (n : ℕ) → answered w ≡ Ok n → (w.ending ≡ whole) × (n ≡ length w.places)
cut_whole w n e = by w.ending refl e
  where
    by : (x : Ending) → w.ending ≡ x → answered_by (length w.places) x ≡ Ok n → (w.ending ≡ whole) × (n ≡ length w.places)
    by whole p q = (p, cc)
    by (refused r) p q = let z : ◌≡◌ {A = ℕ} 0 1 = cc in absurd (omega arith)

pub cut_refused : (w : Cutting) (r : Refusal) → answered w ≡ Err r → w.ending ≡ refused r
cut_refused w r e = by w.ending refl e
  where
    by : (x : Ending) → w.ending ≡ x → answered_by (length w.places) x ≡ Err r → w.ending ≡ refused r
    by whole a q = let z : ◌≡◌ {A = ℕ} 0 1 = cc in absurd (omega arith)
    by (refused x) a q = a ∙ cc

-- an array whose first n numbers came back has n
pub has_front : (g l : List ℕ) (n : ℕ) → length g ≡ n → n ≤ length (g ++ l)
has_front g l n e = rw length-append (omega arith)

-- the places at the front of the array are those that were cut
pub front_places : (ps l m : List ℕ) (n : ℕ) → m ≡ laid 0 ps l → n ≡ length ps → take n m ≡ ps
front_places ps l m n em en = rw (em, en) (take_at ps (drop (0 + length ps) l) (length ps) refl)

module _ (ch : Choices) (octets : List ℕ) (tables : Tables) (index report : List ℕ) where
  -- what `reading` says of answer and buffers, it says of 01's number and values
  pub in_numbers : {o : Outcome} → o ≡ reading ch octets tables index report
      → (o ≡ reading ch octets tables index report)
      × ((answer_number o.answer ≡ answer_number (reading ch octets tables index report).answer)
      × (answer_values o.answer ≡ answer_values (reading ch octets tables index report).answer))
  in_numbers e = (e, (ap (λ (q : Outcome). answer_number q.answer) e, ap (λ (q : Outcome). answer_values q.answer) e))
