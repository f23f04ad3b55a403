-- READS BACK (demand 2) is so: no pair of a written image is bad, so its frames come back as they were written with zeros after them, and all notes
-- are 0. The same holds where only headers were damaged and still settle the settings, but for their notes.
-- Assumes nothing.
use Rattle.std.specs.Prelude.{◌≡◌, Bool, true, false, List, [], ◌∷◌, ◌++◌, eqb, take, drop, get_or, None, Ok}
use Rattle.std.proofs.Math.Path.{refl, ap, ap₂}
use Rattle.std.proofs.Common.{sym, ◌∙◌, subst, mul-zero, mul-suc, arith, lit<, length-append, take_at, ext_get_or, get_or-take, get_or-drop, get_or-append-add, eq-eqb, eqb-true}
use Rattle.std.proofs.Math.Logic.{⊎_elim}
use Prim.Native.Nat.{ℕ, zero, suc, ◌+◌, ◌-◌, ◌*◌, ◌/◌, ◌%◌, ◌≤◌, ◌<◌}
use Rattle.std.proofs.Math.Decide.{ℕ_discrete, dec_lt}
use Rattle.std.specs.Int.Bits.{xor_self}
use Rattle.std.specs.Int.Count.{ones}
use Rattle.std.proofs.lemmas.Nat.{ones-le}
use Rattle.std.proofs.Math.ListN.{length, replicate, get_or-append, get_or-eq_default}
use Rattle.std.proofs.lemmas.List.{length-replicate, get_or-replicate, replicate-append-replicate}
use Rattle.lists.specs.Tests.{true_false, not_false}
use Rattle.lists.specs.Parts.{part, over, length_part}
use Rattle.lists.specs.Rows.{joined, same_joined}
use Rattle.layout.specs.Layout.{frame_indices, multiframe_frames, multiframe_pairs, index_octets, report_octets, first_pair}
use Rattle.choices.specs.declared.Choices.{Choices}
use Rattle.tables.specs.Tables.{Tables}
use Rattle.settings.specs.declared.Settings.{Settings}
use Rattle.frames.specs.Frames.{all_zero, zero_frame, all_zero_at, Nonzero}
use Rattle.packet.specs.Packet.{frame_at}
use Rattle.packet.proofs.Laws.{length_row, get_or_row}
use Rattle.cutting.proofs.Laws.{every_length}
use Rattle.message.specs.Message.{settings_of}
use Rattle.header_readings.specs.Readings.{readings}
use Rattle.header_notes.specs.HeaderNotes.{header_note}
use Rattle.settling.specs.Laws.{Enough}
use Rattle.carrier.specs.Carrier.{received, pair_count}
use Rattle.notes.specs.Laws.{length_notes, length_all}
use Rattle.bad_pairs.specs.BadPairs.{bad, bad_pairs}
use Rattle.replacing.specs.Replacing.{replaced}
use Rattle.replacing.specs.Speech.{last_nonzero, speech_of, end_of, place_le, zero_behind, nonzero_at}
use Rattle.deciding.specs.Deciding.{received_notes}
use Rattle.report.specs.Report.{report_part}
use Rattle.reader.specs.Reading.{index_part, summary, Outcome, outcome, reading, received_frames}
use Rattle.reader.specs.declared.Summary.{Summary}
use Rattle.image.specs.Made.{word_in, packet_in}
use Rattle.image.proofs.Laws.{length_image}
use Rattle.wrong_frames.specs.WrongFrames.{frame_count}
use Rattle.writer.specs.Writing.{needed, writing}
use Rattle.writer.specs.Writing as W
use Rattle.writer.specs.Utterance.{Utterance, multiframes_of, pairs_of, image_of}
use Rattle.writer.proofs.Utterance.{is_accepted, whole_frames, writes}
use Rattle.writer.proofs.Accepted.{last_speaks}
use Rattle.damage.specs.Damage.{DamageUpTo, Damage, loosened, header_flips}
use Rattle.damage.proofs.Damages.{unharmed}
use Rattle.demands.specs.Whole.{row_of, Lent}
use Rattle.demands.proofs.WholeLaws.{nothing_replaced}
use Rattle.demands.specs.Headers.{Settling, CanSettle, sent_common}
use Rattle.demands.proofs.HeadersLaws.{can_settle, enough, note_of_header, settings_sent}
use Rattle.demands.specs.Received.{BadBefore, BadPair, Tells, is_so, not_so}
use Rattle.demands.proofs.ReceivedLaws.{tells_bad}
use Rattle.demands.specs.NamesTheDamage as N
use Rattle.demands.proofs.NamesTheDamageLaws as NL
use Rattle.demands.specs.ReadsBack.{spoken, padded, mended_report, Premises, Back}

-- ---- lists of zeros
pub zeros : (l : List ℕ) → ((i : ℕ) → i < length l → get_or l i 0 ≡ 0) → l ≡ replicate (length l) 0
zeros l h = ext_get_or 0 l (replicate (length l) 0) (sym (length-replicate (length l) 0)) (λ i k. h i k ∙ sym (get_or-replicate (length l) i 0 0 k))

pub none_bad : (l : List ℕ) → ((i : ℕ) → i < length l → get_or l i 0 ≡ 0) → bad_pairs l ≡ 0
none_bad [] h = refl
none_bad (x ∷ l) h = rw (eq-eqb x 0 (h 0 (omega arith))) (none_bad l (λ i k. h (suc i) (omega arith)))

pub zero_rows : (w m : ℕ) → joined {A = ℕ} (λ k. replicate w 0) m ≡ replicate (w * m) 0
zero_rows w zero = ap (λ (n : ℕ). replicate n 0) (sym (mul-zero w))
zero_rows w (suc m) =
    ap (λ (l : List ℕ). l ++ replicate w 0) (zero_rows w m) ∙ replicate-append-replicate (w * m) w 0 ∙ ap (λ (n : ℕ). replicate n 0) (sym (mul-suc w m))

pub no_more : (k i : ℕ) → get_or {A = ℕ} (replicate k 0) i 0 ≡ 0
no_more zero i = refl
no_more (suc k) zero = refl
no_more (suc k) (suc i) = no_more k i

-- ---- the index octets, from what stands at each place
module _ (u : Utterance) where
  abbrev m : ℕ
  m = multiframes_of u

  abbrev n : ℕ
  n = frame_count u.indices

  pub length_padded : length (padded u) ≡ index_octets * m
  length_padded =
      length-append u.indices (replicate (index_octets * m - length u.indices) 0) ∙ ap (λ (k : ℕ). length u.indices + k) (length-replicate (index_octets * m - length u.indices) 0)
      ∙ omega (arith, whole_frames u)

  pub padded_at : (i : ℕ) → get_or (padded u) i 0 ≡ get_or u.indices i 0
  padded_at i =
      elim (dec_lt i (length u.indices)) [
        | yes h ↦ get_or-append u.indices (replicate (index_octets * m - length u.indices) 0) 0 i h
        | no d ↦
            let e : i ≡ length u.indices + (i - length u.indices) = omega arith in
            ap (λ (j : ℕ). get_or (padded u) j 0) e
            ∙ get_or-append-add u.indices (replicate (index_octets * m - length u.indices) 0) (i - length u.indices) 0
            ∙ no_more (index_octets * m - length u.indices) (i - length u.indices) ∙ sym (get_or-eq_default u.indices 0 (omega arith))
      ]

  -- ---- speech and end
  frame_octet : (k j : ℕ) → k < multiframe_frames * m → j < frame_indices → get_or (part (frame_indices * k) frame_indices (padded u)) j 0 ≡ get_or u.indices (frame_indices * k + j) 0
  frame_octet k j h l = get_or-take frame_indices (drop (frame_indices * k) (padded u)) j 0 l ∙ get_or-drop (frame_indices * k) (padded u) j 0 ∙ padded_at (frame_indices * k + j)

  pub padded_frame : (k : ℕ) → k < multiframe_frames * multiframes_of u → part (frame_indices * k) frame_indices (padded u) ≡ frame_at u.indices k
  padded_frame k h =
      let f = part (frame_indices * k) frame_indices (padded u) in
      let lf : length f ≡ frame_indices = length_part (padded u) (frame_indices * k) frame_indices (omega (arith, length_padded)) in
      let lr : length (frame_at u.indices k) ≡ frame_indices = length_row u.indices (frame_indices * k) frame_indices in
      ext_get_or 0 f (frame_at u.indices k) (lf ∙ sym lr) (λ j l. let b : j < frame_indices = omega arith in frame_octet k j h b ∙ sym (get_or_row u.indices (frame_indices * k) frame_indices j b))

  -- past the last frame stand zero frames
  zero_past : (k : ℕ) → n ≤ k → k < multiframe_frames * m → zero_frame (padded u) k ≡ true
  unfolding zero_frame
  zero_past k h l =
      let f = part (frame_indices * k) frame_indices (padded u) in
      let lf : length f ≡ frame_indices = length_part (padded u) (frame_indices * k) frame_indices (omega (arith, length_padded)) in
      ap all_zero (zeros f (λ i j. frame_octet k i l (omega arith) ∙ get_or-eq_default u.indices 0 (omega (arith, whole_frames u))) ∙ ap (λ (w : ℕ). replicate w 0) lf)

  -- the last frame is none
  last_is_not : (k : ℕ) → k + 1 ≡ n → zero_frame (padded u) k ≡ false
  unfolding zero_frame
  last_is_not k e = by (all_zero (part (frame_indices * k) frame_indices (padded u))) refl
    where
      x : Nonzero u.indices k
      x = last_speaks u.settings u.indices (needed u.indices) (needed u.indices) (is_accepted u) k e

      by : (t : Bool) → all_zero (part (frame_indices * k) frame_indices (padded u)) ≡ t → all_zero (part (frame_indices * k) frame_indices (padded u)) ≡ false
      by true z = absurd (x.nonzero (sym (frame_octet k x.place (omega arith) x.within) ∙ all_zero_at (part (frame_indices * k) frame_indices (padded u)) x.place z))
      by false z = z

  -- speech is n
  pub speech_is_n : speech_of m (padded u) ≡ n
  speech_is_n = by (last_nonzero (padded u) (multiframe_frames * (m - 1)) multiframe_frames) refl
    where
      by : (x : ℕ) → last_nonzero (padded u) (multiframe_frames * (m - 1)) multiframe_frames ≡ x → multiframe_frames * (m - 1) + x ≡ n
      by x e = from (dec_lt n (multiframe_frames * (m - 1) + x)) (dec_lt (multiframe_frames * (m - 1) + x) n)
        where
          above : (x : ℕ) → last_nonzero (padded u) (multiframe_frames * (m - 1)) multiframe_frames ≡ x → n < multiframe_frames * (m - 1) + x → ⊥
          above zero e h = omega arith
          above (suc k) e h =
              let l = place_le (padded u) (multiframe_frames * (m - 1)) multiframe_frames in
              true_false (sym (zero_past (multiframe_frames * (m - 1) + k) (omega arith) (omega arith)) ∙ nonzero_at (padded u) (multiframe_frames * (m - 1)) multiframe_frames k e)

          below : multiframe_frames * (m - 1) + x < n → ⊥
          below h =
              let k = n - 1 - multiframe_frames * (m - 1) in
              let z : multiframe_frames * (m - 1) + k ≡ n - 1 = omega arith in
              true_false
              (sym (zero_behind (padded u) (multiframe_frames * (m - 1)) multiframe_frames k (omega arith) (omega arith)) ∙ ap (zero_frame (padded u)) z ∙ last_is_not (n - 1) (omega arith))

          from : Dec (n < multiframe_frames * (m - 1) + x) → Dec (multiframe_frames * (m - 1) + x < n) → multiframe_frames * (m - 1) + x ≡ n
          from (yes h) b = absurd (above x e h)
          from (no a) (yes h) = absurd (below h)
          from (no a) (no b) = omega arith

  -- end is 1
  pub end_is_1 : end_of m (padded u) ≡ 1
  end_is_1 = rw (zero_past (multiframe_frames * m - 1) (omega arith) (omega arith))

-- ---- the image as the reader takes it, with no pair damaged: so none is bad, whatever the tables
module _ (ch : Choices) (u : Utterance) (s : List ℕ) (d : DamageUpTo 3 (multiframes_of u) (image_of u) s) (untouched : (q : ℕ) → q < pairs_of u → packet_in s q ≡ packet_in (image_of u) q)
    (headers : Settling ch u s) (tables : Tables) (index report : List ℕ) (lent : Lent (multiframes_of u) tables index report) where
  abbrev places : List ℕ
  places = row_of (multiframes_of u)

  abbrev ns : List ℕ
  ns = received_notes s places tables

  never_before : (q : ℕ) → q ≤ pairs_of u → BadBefore u s tables q → ⊥
  unfolding BadBefore
  never_before zero h b = b
  never_before (suc q) h b =
      ⊎_elim (λ t. t (untouched q (omega arith))) (λ r. ⊎_elim (λ x. x.1 (untouched (suc q) x.0)) (never_before q (omega arith)) r.1) b

  -- no pair is bad
  pub never_bad : (q : ℕ) → q < pairs_of u → BadPair u s tables q → ⊥
  unfolding BadBefore
  never_bad q h = never_before (suc q) (omega arith)

  premises : N.Wider ch u s tables index report
  premises = record { damage = d; headers = headers; pair = 0; within = omega arith; not_bad = never_bad 0 (omega arith); lent = lent }

  rows : length places ≡ multiframes_of u
  rows = every_length 0 (multiframes_of u)

  notes_size : length ns ≡ pair_count places
  notes_size = length_notes (received s places) (pair_count places) tables

  -- all pair notes are 0
  pair_notes_lem : (q : ℕ) → q < length ns → get_or ns q 0 ≡ 0
  pair_notes_lem q h = by (tells_bad u s d tables q within)
    where
      within : q < pairs_of u
      within = omega (arith, notes_size, rows)

      by : Tells (BadPair u s tables q) (bad (get_or ns q 0)) → get_or ns q 0 ≡ 0
      by (is_so x e) = absurd (never_bad q within x)
      by (not_so x e) = eqb-true (get_or ns q 0) 0 (not_false (eqb (get_or ns q 0) 0) e)

  note_row : (k : ℕ) → k < length places
      → header_note (sent_common u) k (get_or (readings s places) k None) ∷ part (first_pair k) multiframe_pairs ns ≡ header_flips (image_of u) s k ∷ replicate multiframe_pairs 0
  note_row k h =
      let p = part (multiframe_pairs * k) multiframe_pairs ns in
      let l : length p ≡ multiframe_pairs = length_part ns (multiframe_pairs * k) multiframe_pairs (omega (arith, notes_size)) in
      ap₂ (λ (x : ℕ) (y : List ℕ). x ∷ y) (note_of_header u s d.headers k (omega (arith, rows)))
      (zeros p (λ i j. get_or-take multiframe_pairs (drop (multiframe_pairs * k) ns) i 0 (omega (arith, l)) ∙ get_or-drop (multiframe_pairs * k) ns i 0 ∙ pair_notes_lem (multiframe_pairs * k + i) (omega (arith, l, notes_size)))
      ∙ ap (λ (w : ℕ). replicate w 0) l)

  report_is : report_part s places ns (sent_common u) ≡ mended_report u s
  unfolding report_part
  report_is =
      same_joined (λ k. header_note (sent_common u) k (get_or (readings s places) k None) ∷ part (first_pair k) multiframe_pairs ns)
      (λ k. header_flips (image_of u) s k ∷ replicate multiframe_pairs 0) (length places) note_row
      ∙ ap (joined (λ k. header_flips (image_of u) s k ∷ replicate multiframe_pairs 0)) rows

  -- nothing is replaced
  kept : replaced ns (received_frames s places) ≡ received_frames s places
  kept = nothing_replaced ns (received_frames s places) pair_notes_lem (length_all (received s places) (pair_count places) ∙ omega (arith, notes_size))

  -- and every frame is the one written
  frame_is : (k : ℕ) → k < multiframe_frames * multiframes_of u → part (frame_indices * k) frame_indices (received_frames s places) ≡ frame_at u.indices k
  frame_is k h =
      let all = received_frames s places in
      let b = NL.frame_in_pair ch u s tables index report premises (k / 2) (omega arith) (pair_notes_lem (k / 2) (omega (arith, notes_size, rows))) in
      elim (ℕ_discrete (2 * (k / 2)) k) [
        | yes e ↦ subst (λ (j : ℕ). part (frame_indices * j) frame_indices all ≡ frame_at u.indices j) e b.0
        | no x ↦ let e : 2 * (k / 2) + 1 ≡ k = omega arith in subst (λ (j : ℕ). part (frame_indices * j) frame_indices all ≡ frame_at u.indices j) e b.1
      ]

  index_is : index_part s places ns ≡ padded u
  index_is =
      let all = received_frames s places in
      let la : length all ≡ index_octets * multiframes_of u = length_all (received s places) (pair_count places) ∙ omega (arith, rows) in
      kept ∙ ext_get_or 0 all (padded u) (la ∙ sym (length_padded u)) (λ i h.
      let j : i % frame_indices < frame_indices = omega arith in
      let z : frame_indices * (i / frame_indices) + i % frame_indices ≡ i = omega arith in
      ap (λ (t : ℕ). get_or all t 0) (sym z) ∙ sym (get_or-take frame_indices (drop (frame_indices * (i / frame_indices)) all) (i % frame_indices) 0 j ∙ get_or-drop (frame_indices * (i / frame_indices)) all (i % frame_indices) 0)
      ∙ ap (λ (f : List ℕ). get_or f (i % frame_indices) 0) (frame_is (i / frame_indices) (omega (arith, la))) ∙ get_or_row u.indices (frame_indices * (i / frame_indices)) frame_indices (i % frame_indices) j
      ∙ ap (λ (t : ℕ). get_or u.indices t 0) z ∙ sym (padded_at u i))

  make : Settings → ℕ → ℕ → ℕ → ℕ → Summary
  make a b c d e = record { settings = a; multiframes = b; speech = c; bad = d; end = e }

  answer_is : summary s places ns (sent_common u) ≡ spoken u
  unfolding make
  answer_is =
      let x : speech_of (length places) (index_part s places ns) ≡ frame_count u.indices = ap₂ speech_of rows index_is ∙ speech_is_n u in
      let y : end_of (length places) (index_part s places ns) ≡ 1 = ap₂ end_of rows index_is ∙ end_is_1 u in
      let z : bad_pairs ns ≡ 0 = none_bad ns pair_notes_lem in
      let p : make (settings_of (sent_common u)) (length places) (speech_of (length places) (index_part s places ns)) (bad_pairs ns) (end_of (length places) (index_part s places ns))
      ≡ make u.settings (multiframes_of u) (frame_count u.indices) 0 1 =
      ap (λ (a : Settings). make a (length places) (speech_of (length places) (index_part s places ns)) (bad_pairs ns) (end_of (length places) (index_part s places ns))) (settings_sent u)
      ∙ ap₂ (λ (a b : ℕ). make u.settings a b (bad_pairs ns) (end_of (length places) (index_part s places ns))) rows x
      ∙ ap₂ (λ (a b : ℕ). make u.settings (multiframes_of u) (frame_count u.indices) a b) z y in
      p

  -- HEADERS HURT: with no pair damaged and the settings settled, headers of at most three flips cost nothing but their notes
  pub reads_undamaged : reading ch s tables index report
      ≡ outcome (Ok (spoken u)) (over index 0 (index_octets * multiframes_of u) (padded u)) (over report 0 (report_octets * multiframes_of u) (mended_report u s))
  reads_undamaged =
      NL.read_is ch u s tables index report premises
      ∙ ap₂ (λ (a : Summary) (i : List ℕ). outcome (Ok a) i (over report 0 (report_octets * length places) (report_part s places ns (sent_common u)))) answer_is
      (ap₂ (λ (k : ℕ) (l : List ℕ). over index 0 (index_octets * k) l) rows index_is)
      ∙ ap (outcome (Ok (spoken u)) (over index 0 (index_octets * multiframes_of u) (padded u))) (ap₂ (λ (k : ℕ) (l : List ℕ). over report 0 (report_octets * k) l) rows report_is)

-- so where no header has more than two flips, two multiframes are enough, or an untouched only header where the caller asks for the old rule
pub reads_mended : (ch : Choices) (u : Utterance) (s : List ℕ) → Damage (multiframes_of u) (image_of u) s → ((q : ℕ) → q < pairs_of u → packet_in s q ≡ packet_in (image_of u) q)
    → CanSettle ch (multiframes_of u) (header_flips (image_of u) s 0) → (tables : Tables) (index report : List ℕ) → Lent (multiframes_of u) tables index report
    → reading ch s tables index report
    ≡ outcome (Ok (spoken u)) (over index 0 (index_octets * multiframes_of u) (padded u)) (over report 0 (report_octets * multiframes_of u) (mended_report u s))
reads_mended ch u s d untouched headers = reads_undamaged ch u s (loosened (lit< tt) d) untouched (enough ch u s d headers)

-- ---- the image itself: nothing was mended, so its report is zeros
no_flips : (s : List ℕ) (k : ℕ) → header_flips s s k ≡ 0
no_flips s k = ap ones (xor_self (word_in s k)) ∙ omega (arith, ones-le 0 0 (lit< tt))

report_clean : (u : Utterance) → mended_report u (image_of u) ≡ replicate (report_octets * multiframes_of u) 0
report_clean u =
    same_joined (λ k. header_flips (image_of u) (image_of u) k ∷ replicate multiframe_pairs 0) (λ k. replicate report_octets 0) (multiframes_of u)
    (λ k h. ap (λ (x : ℕ). x ∷ replicate multiframe_pairs 0) (no_flips (image_of u) k)) ∙ zero_rows report_octets (multiframes_of u)

pub reads_image : (ch : Choices) (u : Utterance) → Enough ch (multiframes_of u) → (tables : Tables) (index report : List ℕ) → Lent (multiframes_of u) tables index report
    → reading ch (image_of u) tables index report
    ≡ outcome (Ok (spoken u)) (over index 0 (index_octets * multiframes_of u) (padded u)) (over report 0 (report_octets * multiframes_of u) (replicate (report_octets * multiframes_of u) 0))
reads_image ch u sent tables index report lent =
    reads_mended ch u (image_of u) (unharmed u) (λ q h. refl) (can_settle ch (multiframes_of u) _ sent (no_flips (image_of u) 0)) tables index report lent
    ∙ ap (λ (r : List ℕ). outcome (Ok (spoken u)) (over index 0 (index_octets * multiframes_of u) (padded u)) (over report 0 (report_octets * multiframes_of u) r)) (report_clean u)

module _ (ch : Choices) (u : Utterance) (tables : Tables) (output index report : List ℕ) where
  abbrev written : W.Outcome
  written = writing u.settings u.indices output

  abbrev result : Outcome
  result = reading ch (take (needed u.indices) written.output) tables index report

  image_back : needed u.indices ≤ length output → take (needed u.indices) written.output ≡ image_of u
  image_back room =
      let n = needed u.indices in
      ap (λ (o : W.Outcome). take n o.output) (writes u output room)
      ∙ take_at (image_of u) (drop (0 + n) output) n (length_image u.settings u.indices (multiframes_of u))

  back : Premises ch u tables output index report → Back ch u tables output index report
  back p =
      let e : result ≡ outcome (Ok (spoken u)) (over index 0 (index_octets * multiframes_of u) (padded u)) (over report 0 (report_octets * multiframes_of u) (replicate (report_octets * multiframes_of u) 0)) =
      ap (λ (i : List ℕ). reading ch i tables index report) (image_back p.output_room) ∙ reads_image ch u p.headers tables index report p.lent in
      record {
        accepted = ap (λ (o : W.Outcome). o.answer) (writes u output p.output_room);
        succeeds = ap (λ (o : Outcome). o.answer) e;
        notes = ap (λ (o : Outcome). o.report) e;
        frames = ap (λ (o : Outcome). o.index) e;
      }

pub reads_back : (ch : Choices) (u : Utterance) (tables : Tables) (output index report : List ℕ) → Premises ch u tables output index report
    → Back ch u tables output index report
reads_back ch = back ch
