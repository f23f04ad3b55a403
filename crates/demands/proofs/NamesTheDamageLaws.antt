-- NAMES THE DAMAGE (demand 3) is so: what the reader gives of a damaged image with a good pair, octet by octet, is what demand 3 asks, also where
-- headers have up to three flips, if two of them have at most two (`Wider`).
-- Assumes nothing.
use Rattle.std.specs.Prelude.{◌≡◌, List, ◌++◌, ◌↔◌, ℕ, ◌+◌, ◌*◌, ◌/◌, ◌≤◌, ◌<◌, eqb, length, get_or, Ok}
use Rattle.std.proofs.Common.{sym, ap, ◌∙◌, subst, arith, lit<, take_at, take_all, eqb-true}
use Rattle.std.proofs.Math.Decide.{ℕ_discrete}
use Rattle.lists.specs.Tests.{true_false, not_false}
use Rattle.lists.specs.Parts.{part, over, part_right}
use Rattle.layout.specs.Layout.{frame_indices, multiframe_frames, multiframe_octets, index_octets, report_octets, pair_of, first_frame, second_frame}
use Rattle.choices.specs.declared.Choices.{Choices}
use Rattle.tables.specs.Tables.{Tables}
use Rattle.packet.specs.Packet.{frame_at}
use Rattle.packet.proofs.Laws.{length_row, row_inside, row_past}
use Rattle.cutting.proofs.Laws.{every_length}
use Rattle.header_readings.specs.Readings.{readings}
use Rattle.settling.specs.Settling.{settling}
use Rattle.carrier.specs.Carrier.{received, pair_count}
use Rattle.notes.specs.Laws.{length_notes, length_all, frames_at}
use Rattle.bad_pairs.specs.BadPairs.{bad, bad_pairs}
use Rattle.bad_pairs.specs.Laws.{Good, none_good}
use Rattle.replacing.proofs.Laws.{good_kept}
use Rattle.deciding.specs.Deciding.{received_notes}
use Rattle.report.specs.Report.{report_part}
use Rattle.reader.specs.Reading.{index_part, summary, Outcome, outcome, reading, received_frames}
use Rattle.deciding.specs.Laws.{Fitting}
use Rattle.reader.proofs.ReadingLaws.{length_index}
use Rattle.image.specs.Made.{part_within}
use Rattle.image.proofs.Laws.{length_image, image_sync}
use Rattle.writer.proofs.Laws.{few_multiframes}
use Rattle.writer.specs.Utterance.{Utterance, multiframes_of, pairs_of, image_of}
use Rattle.writer.proofs.Utterance.{is_accepted, rate_not_2, whole_frames}
use Rattle.damage.specs.Damage.{DamageUpTo, loosened, Touched, header_flips}
use Rattle.demands.specs.Whole.{row_of, header_note_in, pair_note_in}
use Rattle.demands.proofs.WholeLaws.{reads_as, header_note_is, pair_note_is, front_part}
use Rattle.demands.specs.Headers.{sent_common}
use Rattle.demands.proofs.HeadersLaws.{enough, settles, note_of_header, settings_sent, rate_sent, exp_sent}
use Rattle.demands.specs.Received.{BadPair, ByRule, Tells, is_so, not_so}
use Rattle.demands.proofs.ReceivedLaws.{tells_rule, tells_bad, touched_note, note_one, note_two, bad_counted, frames_kept}
use Rattle.demands.specs.NamesTheDamage.{Premises, Wider, Named}

module _ (ch : Choices) (u : Utterance) (s : List ℕ) (tables : Tables) (index report : List ℕ) where
  -- the premises of the demand are among the wider ones
  pub wider : Premises ch u s tables index report → Wider ch u s tables index report
  wider p = record {
    damage = loosened (lit< tt) p.damage;
    headers = enough ch u s p.damage p.headers;
    pair = p.pair;
    within = p.within;
    not_bad = p.not_bad;
    lent = p.lent;
  }

  abbrev result : Outcome
  result = reading ch s tables index report

  module _ (p : Wider ch u s tables index report) where
    abbrev m : ℕ
    m = multiframes_of u

    abbrev d : DamageUpTo 3 m (image_of u) s
    d = p.damage

    abbrev ns : List ℕ
    ns = received_notes s (row_of m) tables

    rows : length (row_of m) ≡ m
    rows = every_length 0 m

    notes_size : length ns ≡ pair_count (row_of m)
    notes_size = length_notes (received s (row_of m)) (pair_count (row_of m)) tables

    -- the good pair's note is 0
    good : Good ns
    good = by (tells_bad u s d tables p.pair p.within)
      where
        by : Tells (BadPair u s tables p.pair) (bad (get_or ns p.pair 0)) → Good ns
        by (is_so x e) = absurd (p.not_bad x)
        by (not_so n e) =
            record {
              pair = p.pair;
              within = omega (arith, notes_size, rows, p.within);
              good = eqb-true (get_or ns p.pair 0) 0 (not_false (eqb (get_or ns p.pair 0) 0) e);
            }

    fits_in : Fitting (length (row_of m)) (bad_pairs ns) (pair_count (row_of m)) (length index) (length report) (settling ch (readings s (row_of m))) (sent_common u)
    fits_in = record {
      settles = settles u s d.headers ch p.headers;
      usable = record { rate = λ e. rate_not_2 u (sym (rate_sent u) ∙ e); exp = exp_sent u };
      roomy = record {
        index_room = subst (λ (n : ℕ). index_octets * n ≤ length index) (sym rows) p.lent.index_room;
        report_room = subst (λ (n : ℕ). report_octets * n ≤ length report) (sym rows) p.lent.report_room;
        not_all = λ e. none_good ns (e ∙ sym notes_size) good.pair good.within good.good;
      };
    }

    size : length s ≡ multiframe_octets * m
    size = d.size ∙ length_image u.settings u.indices m

    pub read_is : result
        ≡ outcome (Ok (summary s (row_of m) ns (sent_common u))) (over index 0 (index_octets * length (row_of m)) (index_part s (row_of m) ns))
        (over report 0 (report_octets * length (row_of m)) (report_part s (row_of m) ns (sent_common u)))
    read_is =
        reads_as s m (few_multiframes u.settings u.indices (is_accepted u).sizes) size
        (λ k h. d.syncs k h ∙ image_sync u.settings u.indices m k h) ch tables index report (sent_common u) (omega arith) p.lent fits_in

    -- the report's octets are the notes
    pub pair_note : (q : ℕ) → q < pairs_of u → pair_note_in result.report q ≡ get_or (received_notes s (row_of (multiframes_of u)) tables) q 0
    pair_note q h =
        ap (λ (o : Outcome). pair_note_in o.report q) read_is
        ∙ pair_note_is s (row_of m) ns report (sent_common u) (report_octets * length (row_of m)) notes_size q (omega (arith, rows))

    header_note_lem : (k : ℕ) → k < m → header_note_in result.report k ≡ header_flips (image_of u) s k
    header_note_lem k h =
        ap (λ (o : Outcome). header_note_in o.report k) read_is
        ∙ header_note_is s (row_of m) ns report (sent_common u) (report_octets * length (row_of m)) notes_size k (omega (arith, rows)) ∙ note_of_header u s d.headers k h

    -- a pair whose note is 0 is not damaged
    not_hit : (q : ℕ) → q < pairs_of u → get_or ns q 0 ≡ 0 → Touched (image_of u) s q → ⊥
    not_hit q h z t = let e : ◌≡◌ {A = ℕ} 0 1 = sym z ∙ touched_note u s d tables q h t in omega arith

    -- its frames, before replacing
    pub frame_in_pair : (q : ℕ) → q < pairs_of u → get_or ns q 0 ≡ 0
        → (part (frame_indices * first_frame q) frame_indices (received_frames s (row_of m)) ≡ frame_at u.indices (first_frame q))
        × (part (frame_indices * second_frame q) frame_indices (received_frames s (row_of m)) ≡ frame_at u.indices (second_frame q))
    frame_in_pair q h z =
        let all = received_frames s (row_of m) in
        let f = frame_at u.indices (first_frame q) in
        let g = frame_at u.indices (second_frame q) in
        let lf : length f ≡ frame_indices = length_row u.indices (frame_indices * (2 * q)) frame_indices in
        let lg : length g ≡ frame_indices = length_row u.indices (frame_indices * (2 * q + 1)) frame_indices in
        let pair : part (14 * q) 14 all ≡ f ++ g = frames_at (received s (row_of m)) (pair_count (row_of m)) q (omega (arith, rows)) ∙ frames_kept u s d q h (not_hit q h z) in
        let room : 14 * q + 14 ≤ length all = omega (arith, length_all (received s (row_of m)) (pair_count (row_of m)), rows) in
        let a : frame_indices * (2 * q) ≡ 14 * q + 0 = omega arith in
        let b : frame_indices * (2 * q + 1) ≡ 14 * q + frame_indices = omega arith in (
          ap (λ (i : ℕ). part i frame_indices all) a ∙ part_within all (14 * q) 14 0 frame_indices room (omega arith) ∙ ap (part 0 frame_indices) pair ∙ take_at f g frame_indices lf,
          ap (λ (i : ℕ). part i frame_indices all) b ∙ part_within all (14 * q) 14 frame_indices frame_indices room (omega arith) ∙ ap (part frame_indices frame_indices) pair ∙ part_right f g frame_indices frame_indices lf
              ∙ take_all frame_indices g (omega arith),
        )

    -- and behind it
    pub index_frame : (k : ℕ) → k < multiframe_frames * multiframes_of u → get_or (received_notes s (row_of (multiframes_of u)) tables) (pair_of k) 0 ≡ 0
        → part (frame_indices * k) frame_indices (index_part s (row_of (multiframes_of u)) (received_notes s (row_of (multiframes_of u)) tables)) ≡ frame_at u.indices k
    index_frame k h n =
        let all = received_frames s (row_of m) in
        let b = frame_in_pair (k / 2) (omega arith) n in
        good_kept ns good all k (omega (arith, notes_size, length_all (received s (row_of m)) (pair_count (row_of m)))) (omega (arith, notes_size, rows)) n
        ∙ elim (ℕ_discrete (2 * (k / 2)) k) [
          | yes e ↦ subst (λ (j : ℕ). part (frame_indices * j) frame_indices all ≡ frame_at u.indices j) e b.0
          | no x ↦ let e : 2 * (k / 2) + 1 ≡ k = omega arith in subst (λ (j : ℕ). part (frame_indices * j) frame_indices all ≡ frame_at u.indices j) e b.1
        ]

    frame_kept : (k : ℕ) → k < multiframe_frames * m → pair_note_in result.report (pair_of k) ≡ 0 → part (frame_indices * k) frame_indices result.index ≡ frame_at u.indices k
    frame_kept k h z =
        ap (λ (o : Outcome). part (frame_indices * k) frame_indices o.index) read_is
        ∙ front_part index (index_part s (row_of m) ns) (index_octets * length (row_of m)) (frame_indices * k) frame_indices (omega (arith, length_index s (row_of m) ns notes_size, rows))
        ∙ index_frame k h (sym (pair_note (pair_of k) (omega arith)) ∙ z)

    rule : (q : ℕ) → q < pairs_of u → (Touched (image_of u) s q → ⊥) → (pair_note_in result.report q ≡ 0 → ⊥) ↔ ByRule u s tables q
    rule q h n = by (tells_rule u s d tables q h n)
      where
        by : Tells (ByRule u s tables q) (bad (get_or ns q 0)) → (pair_note_in result.report q ≡ 0 → ⊥) ↔ ByRule u s tables q
        by (is_so r e) = ((λ z. r), (λ x z. true_false (sym e ∙ ap bad (sym (pair_note q h) ∙ z))))
        by (not_so k e) = (
          (λ z. absurd (z (pair_note q h ∙ eqb-true (get_or ns q 0) 0 (not_false (eqb (get_or ns q 0) 0) e)))),
          (λ r. absurd (k r)),
        )

    proof : Named ch u s tables index report
    proof = record {
      given = summary s (row_of m) ns (sent_common u);
      succeeds = ap (λ (o : Outcome). o.answer) read_is;
      names = record {
        settings = settings_sent u;
        multiframes = rows;
        damaged = λ q h. (
          (λ e. note_one u s d tables q h (sym (pair_note q h) ∙ e)),
          (λ t. pair_note q h ∙ touched_note u s d tables q h t),
        );
        others = rule;
        ruled = λ q h n r. pair_note q h ∙ note_two u s d tables q h n r;
        counted = bad_counted u s d tables;
        flips = header_note_lem;
        frames = λ k h z.
            frame_kept k (omega arith) z ∙ row_inside u.indices (frame_indices * k) frame_indices (omega (arith, whole_frames u));
        padding = λ k l h z. frame_kept k h z ∙ row_past u.indices (frame_indices * k) frame_indices (omega (arith, whole_frames u));
      };
    }

pub names_wider : (ch : Choices) (u : Utterance) (s : List ℕ) (tables : Tables) (index report : List ℕ)
    → Wider ch u s tables index report → Named ch u s tables index report
names_wider ch = proof ch

pub names_the_damage : (ch : Choices) (u : Utterance) (s : List ℕ) (tables : Tables) (index report : List ℕ)
    → Premises ch u s tables index report → Named ch u s tables index report
names_the_damage ch u s tables index report p = names_wider ch u s tables index report (wider ch u s tables index report p)
