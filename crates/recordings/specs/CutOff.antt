-- A CUT-OFF UTTERANCE TELLS. The first k of its m multiframes alone, if they are read, which by default takes two (02, C-20), give `end` 0, and a cut inside a multiframe is refusal 13: a reading with `end` 1
-- is of no image that was cut off anywhere and is otherwise whole. CutDamaged says what `end` tells with damage besides.
-- Assumes nothing.
use Rattle.std.specs.Prelude.{◌≡◌, refl, Bool, false, ℕ, ◌+◌, ◌-◌, ◌*◌, ◌/◌, ◌%◌, ◌≤◌, ◌<◌, length, take, drop, get_or, Some, None, Ok}
use Rattle.std.proofs.Common.{sym, ◌∙◌, subst, arith, lit<, ne_eqb, lt-ltb, length-drop, length-take-le, take_all, take-add, ext_get_or, get_or-take, get_or-drop}
use Rattle.std.proofs.Math.Path.{ap, ap₂}
use Rattle.std.proofs.Math.Bool.{not}
use mathlib.Core.List.{List, [], ◌∷◌, ◌++◌}
use Rattle.std.proofs.Math.Decide.{ℕ_discrete, dec_lt}
use Rattle.std.specs.Int.Bits.{xor_self}
use Rattle.std.specs.Int.Count.{ones}
use Rattle.std.proofs.lemmas.Nat.{ones-le}
use Rattle.std.proofs.Math.ListN.{replicate}
use Rattle.lists.specs.Parts.{part, over, length_part}
use Rattle.lists.specs.Rows.{each_at, same_joined}
use Rattle.layout.specs.Layout.{frame_indices, data_bits, multiframe_frames, multiframe_pairs, multiframe_octets, most_multiframes, index_octets, report_octets, first_pair, sync, sync_first, sync_second}
use Rattle.choices.specs.declared.Choices.{Choices}
use Rattle.tables.specs.Tables.{Tables, RightTables}
use Rattle.settings.specs.declared.Settings.{Settings}
use Rattle.frames.specs.Frames.{zero_frame}
use Rattle.crc.specs.Crc.{right}
use Rattle.packet.specs.Packet.{packet_of}
use Rattle.packet.proofs.Laws.{get_or_row, packet_of_good}
use Rattle.cutting.specs.declared.Piece.TheVariants.{CutShort}
use Rattle.refusals.specs.declared.Reading.TheVariants as RR
use Rattle.cutting.specs.Cutting.{sync_met, piece_by, piece_of, Cutting, cutting}
use Rattle.cutting.specs.Laws.{octets_of}
use Rattle.cutting.proofs.Laws.{lone_sync, every_length}
use Rattle.message.specs.Message.{settings_of}
use Rattle.message.specs.Message.Laws.{count_back}
use Rattle.header.specs.Types.{Header}
use Rattle.header_readings.specs.Readings.{readings}
use Rattle.header_notes.specs.HeaderNotes.{header_note}
use Rattle.header_readings.specs.Laws.{length_readings}
use Rattle.settling.specs.Laws.{Enough}
use Rattle.settling.proofs.Laws.{settled_enough}
use Rattle.header_notes.specs.Laws.{clean_note}
use Rattle.carrier.specs.Carrier.{received, pair_count}
use Rattle.notes.specs.Notes.{pair_fails}
use Rattle.notes.specs.Laws.{length_notes, length_all, no_failed_crc}
use Rattle.bad_pairs.specs.BadPairs.{bad_pairs}
use Rattle.bad_pairs.specs.Laws.{Good}
use Rattle.replacing.specs.Speech.{speech_of, end_of, place_stop}
use Rattle.deciding.specs.Deciding.{received_notes}
use Rattle.report.specs.Report.{report_part}
use Rattle.reader.specs.Types.{Answer}
use Rattle.reader.specs.Reading.{index_part, summary, Outcome, outcome, reading, received_frames}
use Rattle.reader.specs.ReadingLaws.{Accepted}
use Rattle.reader.specs.declared.Summary.{Summary}
use Rattle.image.specs.Made.{word_in, packet_in}
use Rattle.image.proofs.Laws.{length_image, image_packet}
use Rattle.writer.specs.Utterance.{Utterance, multiframes_of, image_of}
use Rattle.writer.proofs.Utterance.{whole_frames}
use Rattle.damage.specs.Damage.{Damage, header_flips, header_near}
use Rattle.damage.proofs.Damages.{unharmed}
use Rattle.demands.specs.Whole.{row_of, Lent}
use Rattle.demands.proofs.WholeLaws.{nothing_replaced}
use Rattle.demands.specs.Headers.{sent_common}
use Rattle.demands.proofs.HeadersLaws.{can_settle, common_sent, settings_sent}
use Rattle.demands.specs.ReadsBack.{spoken}
use Rattle.demands.proofs.ReadsBackLaws.{reads_image, zeros, zero_rows, none_bad}
use Rattle.demands.specs.WritesAgain as A
use Rattle.demands.proofs.WritesAgainLaws as AL
use Rattle.recordings.specs.Chunks.{multiframe_count, refused_behind, Chunked, chunked, Refuses, cut_refuses}
use Rattle.recordings.specs.First as F

-- ---- THE FIRST k MULTIFRAMES ALONE, fewer than all
-- the success answer: the settings sent, k, all of its frames speech, no bad pair, and no end
abbrev pub heard : Utterance → ℕ → Summary
heard u k = record { settings = u.settings; multiframes = k; speech = multiframe_frames * k; bad = 0; end = 0 }

module _ (ch : Choices) (u : Utterance) (k : ℕ) (some : 0 < k) (less : k < multiframes_of u) where
  abbrev s : List ℕ
  s = image_of u

  abbrev d : Damage (multiframes_of u) s s
  d = unharmed u

  within : k ≤ multiframes_of u
  within = omega arith

  abbrev first : List ℕ
  first = take (multiframe_octets * k) s

  abbrev all : List ℕ
  all = received_frames first (row_of k)

  rows : length (row_of k) ≡ k
  rows = F.rows u s d k within

  sent : (q : ℕ) → q < multiframe_pairs * k → packet_in s q ≡ packet_of u.indices q
  sent q h = image_packet u.settings u.indices (multiframes_of u) q (omega arith)

  no_flips : (i : ℕ) → header_flips s s i ≡ 0
  no_flips i = ap ones (xor_self (word_in s i)) ∙ omega (arith, ones-le 0 0 (lit< tt))

  -- the frames read are the first 24k
  frames_are : all ≡ take (index_octets * k) u.indices
  frames_are =
      let la : length all ≡ index_octets * k = length_all (received first (row_of k)) (pair_count (row_of k)) ∙ omega (arith, rows) in
      let lt : length (take (index_octets * k) u.indices) ≡ index_octets * k = length-take-le (index_octets * k) u.indices (omega (arith, whole_frames u)) in
      ext_get_or 0 all (take (index_octets * k) u.indices) (la ∙ sym lt) (λ i h.
      let j : i % frame_indices < frame_indices = omega arith in
      let z : frame_indices * (i / frame_indices) + i % frame_indices ≡ i = omega arith in
      ap (λ (t : ℕ). get_or all t 0) (sym z) ∙ sym (get_or-take frame_indices (drop (frame_indices * (i / frame_indices)) all) (i % frame_indices) 0 j ∙ get_or-drop (frame_indices * (i / frame_indices)) all (i % frame_indices) 0)
      ∙ ap (λ (f : List ℕ). get_or f (i % frame_indices) 0) (F.frame_first u s d k within (i / frame_indices) (omega (arith, la)) (sent (i / frame_indices / 2) (omega (arith, la))))
      ∙ get_or_row u.indices (frame_indices * (i / frame_indices)) frame_indices (i % frame_indices) j ∙ ap (λ (t : ℕ). get_or u.indices t 0) z ∙ sym (get_or-take (index_octets * k) u.indices i 0 (omega (arith, la))))

  -- the last of them is not zero
  speaks : zero_frame all (multiframe_frames * k - 1) ≡ false
  speaks =
      F.frame_speaks u.indices all (multiframe_frames * k - 1) (F.border_speaks u k some less)
      (F.frame_first u s d k within (multiframe_frames * k - 1) (omega arith) (sent ((multiframe_frames * k - 1) / 2) (omega arith)))

  speech_is : speech_of k all ≡ multiframe_frames * k
  speech_is =
      let z : multiframe_frames * (k - 1) + (multiframe_frames - 1) ≡ multiframe_frames * k - 1 = omega arith in
      ap (λ (n : ℕ). multiframe_frames * (k - 1) + n) (place_stop all (multiframe_frames * (k - 1)) multiframe_frames (omega arith) (ap (zero_frame all) z ∙ speaks)) ∙ omega arith

  end_is : end_of k all ≡ 0
  end_is = rw speaks

  module _ (tables : Tables) where
    abbrev ns : List ℕ
    ns = received_notes first (row_of k) tables

    size : length ns ≡ pair_count (row_of k)
    size = length_notes (received first (row_of k)) (pair_count (row_of k)) tables

    passes : (q : ℕ) → q < pair_count (row_of k) → pair_fails (received first (row_of k)) q ≡ false
    unfolding pair_fails
    passes q h =
        ap (λ (p : List Bool). not (right data_bits p)) (F.packet_first u s d k within q (omega (arith, rows)) ∙ sent q (omega (arith, rows)))
        ∙ ap not (packet_of_good u.indices q)

    quiet : (q : ℕ) → q < length ns → get_or ns q 0 ≡ 0
    quiet q h = no_failed_crc (received first (row_of k)) (pair_count (row_of k)) tables passes q (omega (arith, size))

    index_is : index_part first (row_of k) ns ≡ all
    index_is = nothing_replaced ns all quiet (length_all (received first (row_of k)) (pair_count (row_of k)) ∙ omega (arith, size))

    note_row : (i : ℕ) → i < length (row_of k)
        → header_note (sent_common u) i (get_or (readings first (row_of k)) i None) ∷ part (first_pair i) multiframe_pairs ns ≡ replicate report_octets 0
    note_row i h =
        let p = part (multiframe_pairs * i) multiframe_pairs ns in
        let l : length p ≡ multiframe_pairs = length_part ns (multiframe_pairs * i) multiframe_pairs (omega (arith, size)) in
        let r : get_or (readings first (row_of k)) i None ≡ Some (F.decoded u s d k within i) =
        ap (λ (hs : List Header). get_or hs i None) (F.headers_first u s d k within)
        ∙ each_at (λ i. Some (F.decoded u s d k within i)) k i None (omega (arith, rows)) in
        let z = header_near u s i (omega (arith, rows)) ∙ no_flips i in
        ap₂ (λ (x : ℕ) (y : List ℕ). x ∷ y)
        (ap (header_note (sent_common u) i) r ∙ clean_note (sent_common u) i (F.decoded u s d k within i) z (count_back u.settings (i + 1) 0) (common_sent u i))
        (zeros p (λ j g. get_or-take multiframe_pairs (drop (multiframe_pairs * i) ns) j 0 (omega (arith, l)) ∙ get_or-drop (multiframe_pairs * i) ns j 0 ∙ quiet (multiframe_pairs * i + j) (omega (arith, l, size)))
        ∙ ap (λ (w : ℕ). replicate w 0) l)

    report_is : report_part first (row_of k) ns (sent_common u) ≡ replicate (report_octets * k) 0
    unfolding report_part
    report_is =
        same_joined (λ i. header_note (sent_common u) i (get_or (readings first (row_of k)) i None) ∷ part (first_pair i) multiframe_pairs ns) (λ i. replicate report_octets 0)
        (length (row_of k)) note_row
        ∙ zero_rows report_octets (length (row_of k)) ∙ ap (λ (n : ℕ). replicate (report_octets * n) 0) rows

    make : Settings → ℕ → ℕ → ℕ → ℕ → Summary
    make a b c d e = record { settings = a; multiframes = b; speech = c; bad = d; end = e }

    answer_is : summary first (row_of k) ns (sent_common u) ≡ heard u k
    unfolding make
    answer_is =
        let x : speech_of (length (row_of k)) (index_part first (row_of k) ns) ≡ multiframe_frames * k = ap₂ speech_of rows index_is ∙ speech_is in
        let y : end_of (length (row_of k)) (index_part first (row_of k) ns) ≡ 0 = ap₂ end_of rows index_is ∙ end_is in
        let c = sent_common u in
        let speech = speech_of (length (row_of k)) (index_part first (row_of k) ns) in
        let end = end_of (length (row_of k)) (index_part first (row_of k) ns) in
        let p : make (settings_of c) (length (row_of k)) speech (bad_pairs ns) end ≡ make u.settings k (multiframe_frames * k) 0 0 =
        ap (λ (a : Settings). make a (length (row_of k)) speech (bad_pairs ns) end) (settings_sent u)
        ∙ ap₂ (λ (a b : ℕ). make u.settings a b (bad_pairs ns) end) rows x ∙ ap₂ (λ (a b : ℕ). make u.settings k (multiframe_frames * k) a b) (none_bad ns quiet) y in
        p

    good : Good ns
    good = record { pair = 0; within = omega (arith, size, rows); good = quiet 0 (omega (arith, size, rows)) }

    reads : Enough ch k → (index report : List ℕ) → Lent k tables index report
        → reading ch first tables index report
        ≡ outcome (Ok (heard u k)) (over index 0 (index_octets * k) (take (index_octets * k) u.indices)) (over report 0 (report_octets * k) (replicate (report_octets * k) 0))
    reads sent index report lent =
        F.read_first u s d k within tables ch index report some (can_settle ch k _ sent (no_flips 0)) good lent
        ∙ ap₂ (λ (a : Summary) (i : List ℕ). outcome (Ok a) i (over report 0 (report_octets * length (row_of k)) (report_part first (row_of k) ns (sent_common u)))) answer_is
        (ap₂ (λ (n : ℕ) (l : List ℕ). over index 0 (index_octets * n) l) rows (index_is ∙ frames_are))
        ∙ ap (outcome (Ok (heard u k)) (over index 0 (index_octets * k) (take (index_octets * k) u.indices)))
        (ap₂ (λ (n : ℕ) (l : List ℕ). over report 0 (report_octets * n) l) rows report_is)

-- if k is two or more, or the caller asks for the old rule (02, C-20), with 01's tables and room for k multiframes they are read: the settings sent, k, the frames of these multiframes, no note, and end 0
pub cut_off_reads : (ch : Choices) (u : Utterance) (k : ℕ) → 0 < k → k < multiframes_of u → Enough ch k → (tables : Tables) (index report : List ℕ) → Lent k tables index report
    → reading ch (take (multiframe_octets * k) (image_of u)) tables index report
    ≡ outcome (Ok (heard u k)) (over index 0 (index_octets * k) (take (index_octets * k) u.indices)) (over report 0 (report_octets * k) (replicate (report_octets * k) 0))
cut_off_reads ch u k some less sent tables index report lent = reads ch u k some less tables sent index report lent

-- and whatever the tables and the buffers: if they are read, that is the answer
pub cut_off_answer : (ch : Choices) (u : Utterance) (k : ℕ) → k < multiframes_of u → (tables : Tables) (index report : List ℕ) (given : Summary)
    → (reading ch (take (multiframe_octets * k) (image_of u)) tables index report).answer ≡ Ok given → given ≡ heard u k
cut_off_answer ch u k less tables index report given e =
    elim (dec_lt 0 k) [
      | yes some ↦
          let r : ◌≡◌ {A = Answer} (Ok given) (Ok (heard u k)) = sym e ∙ ap (λ (o : Outcome). o.answer) (reads ch u k some less tables sent index report lent) in
          cc
      | no none ↦ absurd (a.some (rows ∙ omega arith))
    ]
  where
    w : A.WasRead ch (take (multiframe_octets * k) (image_of u)) tables index report [] given
    w = AL.was_read ch (take (multiframe_octets * k) (image_of u)) tables index report [] given e

    a : Accepted ch (take (multiframe_octets * k) (image_of u)) tables (length index) (length report) w.common
    a = w.reader_accepts

    rows : length (cutting (take (multiframe_octets * k) (image_of u))).places ≡ k
    rows = ap (λ (w : Cutting). length w.places) (F.cut_first u (image_of u) (unharmed u) k (omega arith)) ∙ every_length 0 k

    sent : Enough ch k
    sent =
        let f = take (multiframe_octets * k) (image_of u) in
        subst (Enough ch) (length_readings f (cutting f).places ∙ rows) (settled_enough ch (readings f (cutting f).places) w.common a.fitting.settles)

    lent : Lent k tables index report
    lent = record {
      right_tables = a.right_tables;
      index_room = subst (λ (n : ℕ). index_octets * n ≤ length index) rows a.fitting.roomy.index_room;
      report_room = subst (λ (n : ℕ). report_octets * n ≤ length report) rows a.fitting.roomy.report_room;
    }

-- A CUT-OFF UTTERANCE TELLS: if they are read, end is 0
pub cut_off_told : (ch : Choices) (u : Utterance) (k : ℕ) → k < multiframes_of u → (tables : Tables) (index report : List ℕ) (given : Summary)
    → (reading ch (take (multiframe_octets * k) (image_of u)) tables index report).answer ≡ Ok given → given.end ≡ 0
cut_off_told ch u k less tables index report given e = ap (λ (g : Summary). g.end) (cut_off_answer ch u k less tables index report given e)

-- "fewer than all" is needed: all of them, if there are enough to be read, give end 1
pub whole_ends : (ch : Choices) (u : Utterance) → Enough ch (multiframes_of u) → (tables : Tables) (index report : List ℕ) → Lent (multiframes_of u) tables index report
    → ((reading ch (take (multiframe_octets * multiframes_of u) (image_of u)) tables index report).answer ≡ Ok (spoken u)) × ((spoken u).end ≡ 1)
whole_ends ch u sent tables index report lent =
    let m = multiframes_of u in
    let e : take (multiframe_octets * m) (image_of u) ≡ image_of u = take_all (multiframe_octets * m) (image_of u) (omega (arith, length_image u.settings u.indices m)) in
    (ap (λ (l : List ℕ). (reading ch l tables index report).answer) e ∙ ap (λ (o : Outcome). o.answer) (reads_image ch u sent tables index report lent), refl)

-- ---- A CUT INSIDE A MULTIFRAME IS REFUSAL 13, at the place of that multiframe
-- a sync, or its first octet alone, with too few octets
cut_sync : (n a b m : ℕ) → 0 < n → n < multiframe_octets → m < most_multiframes → a ≡ sync_first → (2 ≤ n → b ≡ sync_second) → piece_by n a b m ≡ CutShort
unfolding piece_by sync_met
cut_sync n a b m some less few ea eb =
    elim (ℕ_discrete n 1) [
      | yes e ↦ ap₂ (λ (i j : ℕ). piece_by i j b m) e ea ∙ lone_sync b m
      | no x ↦
          rw (ea, eb (omega arith), ne_eqb n 0 (λ e. omega arith), ne_eqb n 1 x, ne_eqb m most_multiframes (λ e. omega arith), lt-ltb n multiframe_octets less)
    ]

-- the first k multiframes and j octets of the next, of an image with any damage that demand 3 counts
pub cut_inside_damaged : (ch : Choices) (u : Utterance) (s : List ℕ) → Damage (multiframes_of u) (image_of u) s → (k j : ℕ) → k < multiframes_of u → 0 < j → j < multiframe_octets
    → (tables : Tables) (index report : List ℕ) → RightTables tables
    → Refuses (reading ch (take (multiframe_octets * k + j) s) tables index report) index report 13 (multiframe_octets * k)
cut_inside_damaged ch u s d k j less some short tables index report sized =
    subst (Refuses (reading ch (take (multiframe_octets * k + j) s) tables index report) index report 13) place
    (cut_refuses ch (take (multiframe_octets * k + j) s) tables index report sized (RR.CutShort (length (octets_of c.chunks)))
    (ap (λ (l : List ℕ). (cutting l).ending) (take-add (multiframe_octets * k) j s ∙ ap (λ (l : List ℕ). l ++ r) (sym c.octets))
    ∙ refused_behind c.chunks r CutShort (RR.CutShort (length (octets_of c.chunks))) c.proper (omega (arith, count, F.few u s d k (omega arith))) bad (λ v w. refl)))
  where
    r : List ℕ
    r = take j (drop (multiframe_octets * k) s)

    c : Chunked (take (multiframe_octets * k) s) (length (cutting (take (multiframe_octets * k) s)).places)
    c = chunked (take (multiframe_octets * k) s) (ap (λ (w : Cutting). w.ending) (F.cut_first u s d k (omega arith)))

    count : multiframe_count c.chunks ≡ k
    count = c.counted ∙ ap (λ (w : Cutting). length w.places) (F.cut_first u s d k (omega arith)) ∙ every_length 0 k

    place : length (octets_of c.chunks) ≡ multiframe_octets * k
    place = ap length c.octets ∙ F.size_first u s d k (omega arith)

    size : length (take j (drop (multiframe_octets * k) s)) ≡ j
    size = length-take-le j (drop (multiframe_octets * k) s) (omega (arith, length-drop (multiframe_octets * k) s, F.size u s d k (omega arith)))

    octet : (i : ℕ) → i < j → i < 2 → get_or (take j (drop (multiframe_octets * k) s)) i 0 ≡ get_or sync i 0
    octet i h l =
        get_or-take j (drop (multiframe_octets * k) s) i 0 h ∙ sym (get_or-take 2 (drop (multiframe_octets * k) s) i 0 l) ∙ ap (λ (x : List ℕ). get_or x i 0) (F.syncs u s d k (omega arith) k less)

    bad : piece_of (take j (drop (multiframe_octets * k) s)) (multiframe_count c.chunks) ≡ CutShort
    bad =
        cut_sync (length r) (get_or r 0 0) (get_or r 1 0) (multiframe_count c.chunks) (omega (arith, size)) (omega (arith, size)) (omega (arith, count, F.few u s d k (omega arith)))
        (octet 0 some (omega arith)) (λ h. octet 1 (omega (arith, size)) (omega arith))
