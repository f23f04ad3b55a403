-- Writing and reading back in one call: its three ends are met, and whatever the writer accepts comes back.
-- Assumes nothing.
use Rattle.std.specs.Prelude.{◌≡◌, ℕ, ◌+◌, ◌≤◌, pos, negsuc, drop, replicate, Ok, Err}
use Rattle.std.proofs.Math.Path.{refl, sym, ap}
use Rattle.std.proofs.Common.{◌∙◌, subst, inr, arith}
use mathlib.Core.List.{List, [], ◌∷◌, ◌++◌}
use Rattle.std.proofs.Math.ListN.{length, take}
use Rattle.std.proofs.Math.Seq.{take_at}
use Rattle.lists.specs.Parts.{length_over}
use Rattle.lists.specs.Search.{first_from}
use Rattle.layout.specs.Layout.{codebook_numbers}
use Rattle.choices.specs.Choices.{by_one_header}
use Rattle.tables.specs.Tables.{Tables, tables_of, zero_tables, RightSizes, FirstNegative, sizes_right, admission}
use Rattle.tables.proofs.AdmittedLaws.{wrong_sizes, negative_refused, ten_exactly}
use Rattle.settings.specs.declared.Settings.{Settings}
use Rattle.settings.specs.Settings.{settings}
use Rattle.writer.specs.Writing as W
use Rattle.image.specs.Image.{image}
use Rattle.image.specs.Made.{Small}
use Rattle.image.proofs.Laws.{length_image}
use Rattle.wrong_frames.specs.WrongFrames.{frame_count}
use Rattle.writer.specs.Writing.{needed, multiframes_for, verdict, writing}
use Rattle.writer.proofs.Laws.{accepted, accepts}
use Rattle.writer.specs.Utterance.{Utterance, image_of}
use Rattle.writer.proofs.Utterance.{is_accepted}
use Rattle.writer.specs.Types as WA
use Rattle.refusals.specs.declared.Writing as WR
use Rattle.refusals.specs.declared.Writing.TheVariants.{WrongSettings}
use Rattle.reader.specs.Reading.{Outcome, outcome, reading}
use Rattle.reader.proofs.ReadingLaws.{refusal_keeps}
use Rattle.reader.proofs.FirstTests as S
use Rattle.reader.specs.Types as Ra
use Rattle.refusals.specs.declared.Reading as RR
use Rattle.refusals.specs.declared.Reading.TheVariants.{WrongTables, NegativeThreshold}
use Rattle.demands.proofs.ReadsBackLaws.{reads_image}
use Rattle.damage.specs.Instances.{lone, written_1, says1}
use Rattle.demands_met.specs.Met.{index_for, report_for}
use Rattle.demands_met.proofs.MetLaws.{lent_zeros}
use Rattle.roundtrip.specs.Types.{Trip}
use Rattle.roundtrip.specs.declared.Failure.TheVariants.{NotRead, NotWritten}
use Rattle.roundtrip.specs.Trip.{Made, made, trip_of, after_writing, trip, whole, imaged, frames_back, noteless, IsBack, IsUnread, IsUnwritten}
use Rattle.roundtrip.specs.Trip as Stated

module _ (settings : Settings) (idx : List ℕ) (tables : Tables) (out index report : List ℕ) where
  abbrev ComesBack : Made → Type 0
  ComesBack = Stated.ComesBack settings idx tables out index report

  abbrev Unread : Made → Type 0
  Unread = Stated.Unread settings idx tables out index report

  abbrev Unwritten : Made → Type 0
  Unwritten = Stated.Unwritten settings idx tables out index report

  -- ---- what is accepted is written, and its image is read
  abbrev back : Outcome
  back = reading by_one_header (image settings idx (multiframes_for (frame_count idx))) tables index report

  as_written : (n : ℕ) → verdict settings idx (length out) ≡ Ok n
      → trip settings idx tables out index report ≡ made (trip_of back.answer) (imaged settings idx n out) back.index back.report
  unfolding trip writing
  as_written n e =
      let i = image settings idx (multiframes_for (frame_count idx)) in
      let l : length i ≡ n = length_image settings idx (multiframes_for (frame_count idx)) ∙ sym (accepted settings idx (length out) n e).octets_needed in
      let t : take n (imaged settings idx n out) ≡ i = take_at i (drop (0 + n) out) n l in
      rw e (ap (λ (s : List ℕ). let q = reading by_one_header s tables index report in made (trip_of q.answer) (imaged settings idx n out) q.index q.report) t)

  not_written : (r : WR.Writing) → verdict settings idx (length out) ≡ Err r
      → trip settings idx tables out index report ≡ made (Err (NotWritten r)) out index report
  unfolding trip writing
  not_written r e = rw e

  -- COMES BACK: whatever the writer accepts, with 01's tables and room
  pub comes_back : Small idx → ComesBack (trip settings idx tables out index report)
  comes_back small n e lent =
      let a = accepted settings idx (length out) n e in
      let u : Utterance =
      record {
        settings = settings;
        indices = idx;
        small = small;
        written = accepts settings idx (needed idx) a.sizes a.narrow_indices a.speaks (omega arith);
      } in
      let r = reads_image by_one_header u (inr refl) tables index report lent in
      subst (IsBack settings idx n out index report) (sym (as_written n e))
      record {
        answer = ap (λ (o : Outcome). trip_of o.answer) r;
        image_out = refl;
        frames_back_lem = ap (λ (o : Outcome). o.index) r;
        no_notes = ap (λ (o : Outcome). o.report) r;
      }

  tripped : (y : Ra.Answer) (x : RR.Reading) → trip_of y ≡ Err (NotRead x) → y ≡ Err x
  tripped (Ok s) x e = absurd (let z : ◌≡◌ {A = ℕ} 0 1 = cc in omega arith)
  tripped (Err r) x e = let z : r ≡ x = cc in ap Err z

  abbrev result : Made
  result = trip settings idx tables out index report

  -- the reader refuses: the image is out, and what was lent to the reader is as it came
  pub unread : Unread result
  unread x = by (verdict settings idx (length out)) refl
    where
      by : (v : WA.Answer) → verdict settings idx (length out) ≡ v → result.answer ≡ Err (NotRead x) → IsUnread settings idx tables out index report x result
      by (Ok n) v e =
          let w = as_written n v in
          let y : back.answer ≡ Err x = tripped back.answer x (sym (ap (λ (m : Made). m.answer) w) ∙ e) in
          let k = refusal_keeps by_one_header (image settings idx (multiframes_for (frame_count idx))) tables index report x y in
          subst (IsUnread settings idx tables out index report x) (sym w)
          record { octets = n; written = v; image_out = refl; refused = y; index_stays = ap (λ (q : Outcome). q.index) k; report_stays = ap (λ (q : Outcome). q.report) k }
      by (Err r) v e = absurd (never r x (sym (ap (λ (m : Made). m.answer) (not_written r v)) ∙ e))
        where
          never : (r : WR.Writing) (x : RR.Reading) → ◌≡◌ {A = Trip} (Err (NotWritten r)) (Err (NotRead x)) → ⊥
          never r x e = let z : ◌≡◌ {A = ℕ} 0 1 = cc in omega arith

  -- the writer refuses: all is as it came
  pub unwritten : Unwritten result
  unwritten x = by (verdict settings idx (length out)) refl
    where
      by : (v : WA.Answer) → verdict settings idx (length out) ≡ v → result.answer ≡ Err (NotWritten x) → IsUnwritten settings idx out index report x result
      by (Err r) v e =
          let w = not_written r v in
          let y : ◌≡◌ {A = Trip} (Err (NotWritten r)) (Err (NotWritten x)) = sym (ap (λ (m : Made). m.answer) w) ∙ e in
          let z : r ≡ x = cc in
          subst (IsUnwritten settings idx out index report x) (sym w) record { refused = v ∙ ap Err z; all_stay = (refl, refl, refl) }
      by (Ok n) v e = absurd (never back.answer (sym (ap (λ (m : Made). m.answer) (as_written n v)) ∙ e))
        where
          never : (y : Ra.Answer) → trip_of y ≡ Err (NotWritten x) → ⊥
          never (Ok s) e = let z : ◌≡◌ {A = ℕ} 0 1 = cc in omega arith
          never (Err r) e = let z : ◌≡◌ {A = ℕ} 0 1 = cc in omega arith

  -- what is answered and left as `trip` says meets all four promises
  pub meets : Small idx → {t : Made} → t ≡ result → (t ≡ result) × (ComesBack t × (Unread t × Unwritten t))
  meets small e = (e, (subst ComesBack (sym e) (comes_back small), (subst Unread (sym e) unread, subst Unwritten (sym e) unwritten)))

  -- ---- the code's ends, from what the writer and the reader ensure
  ends : (x : WA.Answer) (o : List ℕ) → W.outcome x o ≡ writing settings idx out
      → after_writing tables index report o x ≡ trip settings idx tables out index report
  unfolding trip
  ends x o e = ap (λ (q : W.Outcome). after_writing tables index report q.output q.answer) e

  pub ends_unwritten : (x : WA.Answer) (o : List ℕ) (r : WR.Writing) → W.outcome x o ≡ writing settings idx out → x ≡ Err r
      → made (Err (NotWritten r)) o index report ≡ trip settings idx tables out index report
  ends_unwritten x o r e ex = ap (after_writing tables index report o) (sym ex) ∙ ends x o e

  pub ends_read : (x : WA.Answer) (o : List ℕ) (n : ℕ) (y : Ra.Answer) (i' r' : List ℕ) (t : Trip) → W.outcome x o ≡ writing settings idx out → x ≡ Ok n
      → outcome y i' r' ≡ reading by_one_header (take n o) tables index report → trip_of y ≡ t
      → made t o i' r' ≡ trip settings idx tables out index report
  ends_read x o n y i' r' t e ex er et =
      ap (λ (z : Trip). made z o i' r') (sym et) ∙ ap (λ (q : Outcome). made (trip_of q.answer) o q.index q.report) er
      ∙ ap (after_writing tables index report o) (sym ex) ∙ ends x o e

  -- what was written lies inside the output
  pub fits_output : (x : WA.Answer) (o : List ℕ) (n : ℕ) → W.outcome x o ≡ writing settings idx out → x ≡ Ok n → n ≤ length o
  unfolding writing
  fits_output x o n e ex =
      let v : verdict settings idx (length out) ≡ Ok n = sym (ap (λ (q : W.Outcome). q.answer) e ∙ answered (verdict settings idx (length out))) ∙ ex in
      let a = accepted settings idx (length out) n v in
      let l : length o ≡ length out = ap (λ (q : W.Outcome). length q.output) e ∙ same_length (verdict settings idx (length out)) refl in
      omega (arith, a.octets_needed, a.room)
    where
      answered : (v : WA.Answer) → (W.finished settings idx out v).answer ≡ v
      answered (Ok k) = refl
      answered (Err r) = refl

      same_length : (v : WA.Answer) → verdict settings idx (length out) ≡ v → length (W.finished settings idx out v).output ≡ length out
      same_length (Ok k) ev =
          let b = accepted settings idx (length out) k ev in
          length_over out (image settings idx (multiframes_for (frame_count idx))) 0 k (omega (arith, b.octets_needed, b.room))
          (length_image settings idx (multiframes_for (frame_count idx)) ∙ sym b.octets_needed)
      same_length (Err r) ev = refl

-- ---- ALL THREE ENDS ARE MET
-- an utterance of one multiframe comes back: 01's frame 1, with just the room that it takes
pub back_1 : (trip (settings 0 0) (lone 1) zero_tables (replicate 144 255) (index_for 1) (report_for 1)).answer
    ≡ Ok (record { settings = settings 0 0; multiframes = 1; speech = 1; bad = 0; end = 1 })
back_1 = (comes_back (settings 0 0) (lone 1) zero_tables (replicate 144 255) (index_for 1) (report_for 1) says1.small 144 written_1 (lent_zeros 1)).answer

-- every utterance that is written and then read with a codebook of another size is unread, with refusal 11
pub wrong_tables_lem : (u : Utterance) (tables : Tables) (out index report : List ℕ) → needed u.indices ≤ length out → (length tables.codebook ≡ codebook_numbers → ⊥)
    → trip u.settings u.indices tables out index report
    ≡ made (Err (NotRead WrongTables)) (imaged u.settings u.indices (needed u.indices) out) index report
wrong_tables_lem u tables out index report room wrong =
    let a = is_accepted u in
    as_written u.settings u.indices tables out index report (needed u.indices)
    (accepts u.settings u.indices (length out) a.sizes a.narrow_indices a.speaks room)
    ∙ ap (λ (q : Outcome). made (trip_of q.answer) (imaged u.settings u.indices (needed u.indices) out) q.index q.report)
    (sym (S.not_admitted by_one_header (image_of u) tables index report WrongTables (wrong_sizes tables (λ r. wrong r.0))))

-- and with a negative threshold, with refusal 10 (02, C-12)
pub negative_threshold_lem : (u : Utterance) (tables : Tables) (out index report : List ℕ) → needed u.indices ≤ length out → RightSizes tables
    → (k : ℕ) → FirstNegative tables k
    → trip u.settings u.indices tables out index report
    ≡ made (Err (NotRead (NegativeThreshold k))) (imaged u.settings u.indices (needed u.indices) out) index report
negative_threshold_lem u tables out index report room sized k first =
    let a = is_accepted u in
    as_written u.settings u.indices tables out index report (needed u.indices)
    (accepts u.settings u.indices (length out) a.sizes a.narrow_indices a.speaks room)
    ∙ ap (λ (q : Outcome). made (trip_of q.answer) (imaged u.settings u.indices (needed u.indices) out) q.index q.report)
    (sym (S.not_admitted by_one_header (image_of u) tables index report (NegativeThreshold k) (negative_refused tables k sized first)))

-- so is 01's frame 1 with no codebook at all: its 144 octets stand in the output, and the octet beyond is as it came
pub unread_1 : trip (settings 0 0) (lone 1) (tables_of [] zero_tables.thresholds) (replicate 145 255) (index_for 1) (report_for 1)
    ≡ made (Err (NotRead WrongTables)) (image_of says1 ++ (255 ∷ [])) (index_for 1) (report_for 1)
unread_1 = wrong_tables_lem says1 (tables_of [] zero_tables.thresholds) (replicate 145 255) (index_for 1) (report_for 1) (omega arith) (λ e. omega arith)

-- and with the last of 14 thresholds negative
pub unread_10 : trip (settings 0 0) (lone 1) (tables_of zero_tables.codebook (replicate 13 (pos 0) ++ (negsuc 0 ∷ []))) (replicate 145 255) (index_for 1) (report_for 1)
    ≡ made (Err (NotRead (NegativeThreshold 13))) (image_of says1 ++ (255 ∷ [])) (index_for 1) (report_for 1)
unfolding admission sizes_right first_from
unread_10 =
    let tables = tables_of zero_tables.codebook (replicate 13 (pos 0) ++ (negsuc 0 ∷ [])) in
    let t = (ten_exactly tables 13).0 refl in
    negative_threshold_lem says1 tables (replicate 145 255) (index_for 1) (report_for 1) (omega arith) t.0 13 t.1

-- and a rate of 2 is not written
pub unwritten_2 : trip (settings 2 0) (lone 1) zero_tables (replicate 145 255) (index_for 1) (report_for 1)
    ≡ made (Err (NotWritten WrongSettings)) (replicate 145 255) (index_for 1) (report_for 1)
unfolding verdict
unwritten_2 = not_written (settings 2 0) (lone 1) zero_tables (replicate 145 255) (index_for 1) (report_for 1) WrongSettings refl
