-- NO PAIR NAMED. "No pair named, headers perhaps mended: frames, then zeros, speech = n, end = 1. And: the last multiframe wholly unnamed gives
-- speech and end as sent." Headers may be lost too, if two are readable.
-- Assumes nothing.
use Rattle.std.specs.Prelude.{◌≡◌, refl, Bool, List, ℕ, zero, suc, ◌+◌, ◌-◌, ◌*◌, ◌/◌, ◌≤◌, ◌<◌, length, Ok}
use Rattle.std.proofs.Math.Path.{sym, ap}
use Rattle.std.proofs.Common.{ap₂, ◌∙◌}
use native.Mathlib.Omega.{arith}
use Rattle.lists.specs.Tests.{when}
use Rattle.lists.specs.Parts.{over}
use Rattle.layout.specs.Layout.{multiframe_frames, index_octets, report_octets, pair_of}
use Rattle.choices.specs.declared.Choices.{Choices}
use Rattle.tables.specs.Tables.{Tables}
use Rattle.frames.specs.Frames.{all_zero, zero_frame}
use Rattle.cutting.proofs.Laws.{every_length}
use Rattle.replacing.specs.Speech.{last_nonzero, speech_of, end_of}
use Rattle.deciding.specs.Deciding.{received_notes}
use Rattle.reader.specs.Types.{Answer}
use Rattle.reader.specs.Reading.{index_part, summary, Outcome, outcome, reading}
use Rattle.reader.specs.declared.Summary.{Summary}
use Rattle.image.specs.Made.{packet_in}
use Rattle.image.proofs.Laws.{image_packet}
use Rattle.wrong_frames.specs.WrongFrames.{frame_count}
use Rattle.writer.specs.Utterance.{Utterance, multiframes_of, pairs_of, image_of}
use Rattle.damage.specs.Damage.{Fate, whole, hit, fate}
use Rattle.demands.specs.Whole.{row_of, pair_note_in}
use Rattle.demands.specs.Headers.{sent_common}
use Rattle.demands.proofs.ReceivedLaws.{touched_note}
use Rattle.demands.specs.NamesTheDamage as N
use Rattle.demands.proofs.NamesTheDamageLaws as NL
use Rattle.demands.specs.ReadsBack.{spoken, padded, mended_report}
use Rattle.demands.proofs.ReadsBackLaws.{padded_frame, speech_is_n, end_is_1, reads_undamaged}
use Rattle.promises.specs.Heard.{LastUnnamed}

-- the last nonzero frame's place depends on which frames are zero, and on nothing else
same_place : (l r : List ℕ) (i n : ℕ) → ((k : ℕ) → k < n → zero_frame l (i + k) ≡ zero_frame r (i + k)) → last_nonzero l i n ≡ last_nonzero r i n
unfolding last_nonzero
same_place l r i zero same = refl
same_place l r i (suc n) same =
    ap₂ (λ (t : Bool) (x : ℕ). when t x (suc n)) (same n (omega arith)) (same_place l r i n (λ k h. same k (omega arith)))

module _ (ch : Choices) (u : Utterance) (s : List ℕ) (tables : Tables) (index report : List ℕ) (p : N.Wider ch u s tables index report) where
  abbrev result : Outcome
  result = reading ch s tables index report

  -- a pair that is not named is as it was sent
  unnamed : (q : ℕ) → q < pairs_of u → pair_note_in result.report q ≡ 0 → packet_in s q ≡ packet_in (image_of u) q
  unnamed q h z = by (fate u s p.damage q h)
    where
      by : Fate u s p.damage q h → packet_in s q ≡ packet_in (image_of u) q
      by (whole e r) = e ∙ sym (image_packet u.settings u.indices (multiframes_of u) q h)
      by (hit t r) =
          let y : ◌≡◌ {A = ℕ} 0 1 = sym z ∙ NL.pair_note ch u s tables index report p q h ∙ touched_note u s p.damage tables q h t in
          absurd (omega arith)

  -- HEARD WHOLE: "frames, then zeros, speech = n, end = 1"; the header notes are the flips, three for a lost one
  pub heard_whole : ((q : ℕ) → q < pairs_of u → pair_note_in (reading ch s tables index report).report q ≡ 0)
      → reading ch s tables index report
      ≡ outcome (Ok (spoken u)) (over index 0 (index_octets * multiframes_of u) (padded u)) (over report 0 (report_octets * multiframes_of u) (mended_report u s))
  heard_whole none = reads_undamaged ch u s p.damage (λ q h. unnamed q h (none q h)) p.headers tables index report p.lent

  abbrev m : ℕ
  m = multiframes_of u

  abbrev all : List ℕ
  all = index_part s (row_of m) (received_notes s (row_of m) tables)

  rows : length (row_of m) ≡ m
  rows = every_length 0 m

  last_zero : LastUnnamed ch u s tables index report p → (k : ℕ) → multiframe_frames * (m - 1) ≤ k → k < multiframe_frames * m → zero_frame all k ≡ zero_frame (padded u) k
  unfolding zero_frame
  last_zero none k l h =
      let q : k / 2 < pairs_of u = omega arith in
      ap all_zero
      (NL.index_frame ch u s tables index report p k h
      (sym (NL.pair_note ch u s tables index report p (pair_of k) q) ∙ none (pair_of k) (omega arith) q)
      ∙ sym (padded_frame u k h))

  last_speech : LastUnnamed ch u s tables index report p → speech_of (length (row_of m)) all ≡ frame_count u.indices
  last_speech none =
      ap (λ (n : ℕ). speech_of n all) rows
      ∙ ap (λ (x : ℕ). multiframe_frames * (m - 1) + x)
      (same_place all (padded u) (multiframe_frames * (m - 1)) multiframe_frames (λ k h. last_zero none (multiframe_frames * (m - 1) + k) (omega arith) (omega arith)))
      ∙ speech_is_n u

  last_end : LastUnnamed ch u s tables index report p → end_of (length (row_of m)) all ≡ 1
  last_end none =
      ap (λ (n : ℕ). end_of n all) rows
      ∙ ap (λ (t : Bool). when t 1 0) (last_zero none (multiframe_frames * m - 1) (omega arith) (omega arith)) ∙ end_is_1 u

  -- LAST HEARD: speech and end are as sent, whatever was named before
  pub last_heard : LastUnnamed ch u s tables index report p → (given : Summary) → (reading ch s tables index report).answer ≡ Ok given
      → (given.speech ≡ frame_count u.indices) × (given.end ≡ 1)
  last_heard none given e =
      let r : ◌≡◌ {A = Answer} (Ok given) (Ok (summary s (row_of m) (received_notes s (row_of m) tables) (sent_common u))) =
      sym e ∙ ap (λ (o : Outcome). o.answer) (NL.read_is ch u s tables index report p) in
      let g : given ≡ summary s (row_of m) (received_notes s (row_of m) tables) (sent_common u) = cc in
      (ap (λ (x : Summary). x.speech) g ∙ last_speech none, ap (λ (x : Summary). x.end) g ∙ last_end none)
