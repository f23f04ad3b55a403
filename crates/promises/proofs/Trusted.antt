-- A LIST WITHOUT A WARNING CAN BE TRUSTED. "Under demand 3's damage, a reading that succeeds with all notes 0 is of the image as written:
-- settings, frames, speech and end are those sent. Neither premise of demand 3 is needed." Nor are its limits on headers: it is enough that one
-- of them has at most five flips, since a header with note 0 is a codeword and two codewords are six bits apart.
-- Assumes nothing.
use Rattle.std.specs.Prelude.{◌≡◌, List, [], ℕ, ◌+◌, ◌*◌, ◌/◌, ◌%◌, ◌≤◌, ◌<◌, length, get_or, replicate, None, Ok}
use Rattle.std.proofs.Common.{sym, ap, ◌∙◌, subst, arith, lit<}
use Rattle.std.proofs.Math.Decide.{ℕ_discrete}
use Rattle.std.specs.Int.Bits.{xor_zero_r}
use Rattle.std.proofs.lemmas.Nat.{ones-le}
use Rattle.lists.specs.Parts.{over}
use Rattle.lists.specs.Rows.{each_at}
use Rattle.layout.specs.Layout.{multiframe_pairs, multiframe_octets, index_octets, report_octets, sync}
use Rattle.choices.specs.declared.Choices.{Choices}
use Rattle.tables.specs.Tables.{Tables}
use Rattle.settings.specs.declared.Settings.{Settings}
use Rattle.packet.specs.Packet.{packet_of}
use Rattle.header_code.specs.Code.{codeword, flips_to}
use Rattle.header_code.specs.Code.Distance.{far_from_one}
use Rattle.message.specs.Message.{message, settings_of}
use Rattle.message.specs.Message.Laws.{message_lt, rate_lt, type_lt, settings_fit_lem, settings_back}
use Rattle.header.specs.Reading as H
use Rattle.header.proofs.Laws.{flips_of}
use Rattle.header.specs.Types.{Header}
use Rattle.cutting.specs.Cutting.{Cutting, cutting}
use Rattle.cutting.proofs.Laws.{every_length}
use Rattle.header_readings.specs.Readings.{readings}
use Rattle.header_notes.specs.HeaderNotes.{header_note}
use Rattle.carrier.specs.Carrier.{received, pair_count}
use Rattle.notes.specs.Laws.{length_notes}
use Rattle.deciding.specs.Deciding.{received_notes}
use Rattle.reader.specs.Types.{Answer}
use Rattle.reader.specs.Reading.{Outcome, outcome, reading}
use Rattle.reader.specs.declared.Summary.{Summary}
use Rattle.image.specs.Made.{sync_in, word_in, packet_in}
use Rattle.image.proofs.Laws.{length_image, image_sync}
use Rattle.header_readings.specs.Laws.{length_readings}
use Rattle.settling.specs.Laws.{Enough}
use Rattle.settling.proofs.Laws.{settled_enough}
use Rattle.writer.proofs.Laws.{few_multiframes}
use Rattle.writer.specs.Utterance.{Utterance, multiframes_of, image_of}
use Rattle.writer.proofs.Utterance.{is_accepted, settings_right_lem}
use Rattle.damage.specs.Damage.{DamageUpTo, Damage, header_bits, loosened, sent_message, header_near, Fate, whole, hit, fate}
use Rattle.demands.specs.Whole.{row_of, Lent, header_note_in, pair_note_in}
use Rattle.demands.proofs.WholeLaws.{readings_are, cut_is, header_note_is, pair_note_is}
use Rattle.demands.proofs.ReceivedLaws.{touched_note}
use Rattle.demands.specs.Noteless.{clean_header, is_image}
use Rattle.demands.specs.ReadsBack.{spoken, padded}
use Rattle.demands.proofs.ReadsBackLaws.{reads_image}
use Rattle.demands.specs.WritesAgain as A
use Rattle.demands.proofs.WritesAgainLaws as AL
use Rattle.promises.specs.Trusted.{result, WithoutWarning, AsWritten, Premises}

module _ (ch : Choices) (u : Utterance) (s : List ℕ) (p : Premises u s) (tables : Tables) (index report : List ℕ) (given : Summary)
    (x : WithoutWarning ch s tables index report given) where
  abbrev m : ℕ
  m = multiframes_of u

  abbrev d : DamageUpTo header_bits m (image_of u) s
  d = p.damage

  size : length s ≡ multiframe_octets * m
  size = d.size ∙ length_image u.settings u.indices m

  syncs : (k : ℕ) → k < m → sync_in s k ≡ sync
  syncs k h = d.syncs k h ∙ image_sync u.settings u.indices m k h

  cut : (cutting s).places ≡ row_of m
  cut = ap (λ (w : Cutting). w.places) (cut_is s m (few_multiframes u.settings u.indices (is_accepted u).sizes) size syncs)

  w : A.WasRead ch s tables index report [] given
  w = AL.was_read ch s tables index report [] given x.succeeds

  abbrev places : List ℕ
  places = (cutting s).places

  abbrev ns : List ℕ
  ns = received_notes s places tables

  abbrev c : ℕ
  c = w.common

  rows : length places ≡ m
  rows = ap length cut ∙ every_length 0 m

  count : given.multiframes ≡ m
  count = ap (λ (g : Summary). g.multiframes) w.given_is ∙ rows

  notes_size : length ns ≡ pair_count places
  notes_size = length_notes (received s places) (pair_count places) tables

  -- each header is a codeword with the settled bits
  settled_word : (k : ℕ) → k < m → word_in s k ≡ codeword (message (settings_of c) (k + 1) 0)
  settled_word k h =
      let r : get_or (readings s places) k None ≡ H.reading (word_in s k) =
      ap (λ (l : List ℕ). get_or (readings s l) k None) cut ∙ ap (λ (l : List Header). get_or l k None) (readings_are s m) ∙ each_at (λ k. H.reading (word_in s k)) m k None h in
      let z : header_note c k (get_or (readings s places) k None) ≡ 0 =
      sym (ap (λ (o : Outcome). header_note_in o.report k) w.result_is ∙ header_note_is s places ns report c (report_octets * length places) notes_size k (omega (arith, rows)))
      ∙ x.notes_0 (report_octets * k) (omega (arith, count)) in
      clean_header c k (word_in s k) w.reader_accepts.fitting.usable.exp (ap (header_note c k) (sym r) ∙ z)

  -- of which one is that near to the one sent
  same_message : message (settings_of c) (p.header + 1) 0 ≡ sent_message u p.header
  same_message =
      let k = p.header in
      let a = message (settings_of c) (k + 1) 0 in
      let z : flips_to (word_in s k) a ≡ 0 =
      ap (λ (x : ℕ). flips_to x a) (settled_word k p.within ∙ sym (xor_zero_r (codeword a))) ∙ flips_of a 0 ∙ omega (arith, ones-le 0 0 (lit< tt)) in
      elim (ℕ_discrete a (sent_message u k)) [
        | yes y ↦ y
        | no n ↦
            absurd
            (omega (
              arith,
              z,
              p.five,
              header_near u s k p.within,
              far_from_one (word_in s k) a (sent_message u k) (message_lt (settings_of c) (k + 1) 0) (message_lt u.settings (k + 1) 0) n,
            ))
      ]

  same_settings : settings_of c ≡ u.settings
  same_settings =
      sym (settings_fit_lem (settings_of c) (p.header + 1) 0 (rate_lt c) (type_lt c)) ∙ ap settings_of same_message
      ∙ settings_back u.settings (p.header + 1) 0 (settings_right_lem u)

  word : (k : ℕ) → k < m → word_in s k ≡ codeword (message u.settings (k + 1) 0)
  word k h = settled_word k h ∙ ap (λ (a : Settings). codeword (message a (k + 1) 0)) same_settings

  -- each packet is the one sent: a damaged one has note 1
  packet : (q : ℕ) → q < multiframe_pairs * m → packet_of u.indices q ≡ packet_in s q
  packet q h = by (fate u s d q h)
    where
      z : get_or ns q 0 ≡ 0
      z =
          sym (ap (λ (o : Outcome). pair_note_in o.report q) w.result_is ∙ pair_note_is s places ns report c (report_octets * length places) notes_size q (omega (arith, rows)))
          ∙ x.notes_0 (report_octets * (q / multiframe_pairs) + 1 + q % multiframe_pairs) (omega (arith, count))

      by : Fate u s d q h → packet_of u.indices q ≡ packet_in s q
      by (whole a r) = sym a
      by (hit t r) =
          let one : get_or ns q 0 ≡ 1 = ap (λ (l : List ℕ). get_or (received_notes s l tables) q 0) cut ∙ touched_note u s d tables q h t in
          let y : ◌≡◌ {A = ℕ} 0 1 = sym z ∙ one in absurd (omega arith)

  is_sent : s ≡ image_of u
  is_sent = sym (is_image s m size d.small syncs u.settings u.indices word packet)

  lent : Lent m tables index report
  lent = record {
    right_tables = w.reader_accepts.right_tables;
    index_room = subst (λ (n : ℕ). index_octets * n ≤ length index) rows w.reader_accepts.fitting.roomy.index_room;
    report_room = subst (λ (n : ℕ). report_octets * n ≤ length report) rows w.reader_accepts.fitting.roomy.report_room;
  }

  -- what was read had enough headers
  enough : Enough ch m
  enough = subst (Enough ch) (length_readings s places ∙ rows) (settled_enough ch (readings s places) c w.reader_accepts.fitting.settles)

  read_is : result ch s tables index report given
      ≡ outcome (Ok (spoken u)) (over index 0 (index_octets * m) (padded u)) (over report 0 (report_octets * m) (replicate (report_octets * m) 0))
  read_is = ap (λ (i : List ℕ). reading ch i tables index report) is_sent ∙ reads_image ch u enough tables index report lent

  proof : AsWritten ch u s tables index report given
  proof = record {
    image = is_sent;
    sent = let r : ◌≡◌ {A = Answer} (Ok given) (Ok (spoken u)) = sym x.succeeds ∙ ap (λ (o : Outcome). o.answer) read_is in cc;
    frames = ap (λ (o : Outcome). o.index) read_is;
    notes = ap (λ (o : Outcome). o.report) read_is;
  }

-- TRUSTED BY ONE HEADER
pub trusted_by_one : (ch : Choices) (u : Utterance) (s : List ℕ) → Premises u s → (tables : Tables) (index report : List ℕ) (given : Summary)
    → WithoutWarning ch s tables index report given → AsWritten ch u s tables index report given
trusted_by_one ch = proof ch

-- TRUSTED: demand 3's damage
pub trusted : (ch : Choices) (u : Utterance) (s : List ℕ) → Damage (multiframes_of u) (image_of u) s → (tables : Tables) (index report : List ℕ) (given : Summary)
    → WithoutWarning ch s tables index report given → AsWritten ch u s tables index report given
trusted ch u s d =
    trusted_by_one ch u s
    (record { damage = loosened (lit< tt) d; header = 0; within = omega arith; five = let l = d.headers 0 (omega arith) in omega arith })
