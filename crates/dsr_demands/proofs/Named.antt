-- DEMAND 3 AT THE ENTRIES, and what the yards are told: each clause of names-the-damage, never-misled, trusted, heard-whole and last-heard, said
-- in the numbers, octets and buffers that a caller of dsr_read has. A report's octets are counted by multiframe and pair, frames by octet.
-- Assumes nothing.
use Rattle.std.specs.Prelude.{◌≡◌, refl, List, [], ◌∷◌, ℕ, ◌+◌, ◌-◌, ◌*◌, ◌/◌, ◌%◌, ◌≤◌, ◌<◌, length, drop, get_or, replicate, Some, Ok}
use Rattle.std.proofs.Common.{sym, ap, ap₂, ◌∙◌, subst, arith, get_or-take, get_or-drop}
use Rattle.std.proofs.Math.ListN.{get_or-eq_default}
use Rattle.lists.specs.Parts.{part, over}
use Rattle.lists.specs.Rows.{length_joined, joined_part}
use Rattle.layout.specs.Layout.{frame_indices, pair_frames, multiframe_pairs, multiframe_frames, index_octets, report_octets}
use Rattle.choices.specs.declared.Choices.{Choices}
use Rattle.tables.specs.Tables.{Tables}
use Rattle.settings.specs.declared.Settings.{Settings}
use Rattle.cutting.specs.Cutting.{cutting}
use Rattle.carrier.specs.Carrier.{received, pair_count}
use Rattle.notes.specs.Laws.{length_notes}
use Rattle.deciding.specs.Deciding.{received_notes}
use Rattle.report.specs.Report.{report_part, length_report}
use Rattle.reader.specs.Reading.{index_part, Outcome, outcome, reading}
use Rattle.reader.proofs.ReadingLaws.{length_index}
use Rattle.reader.specs.declared.Summary.{Summary}
use Rattle.reader.specs.Types.{Answer}
use Rattle.wrong_frames.specs.WrongFrames.{frame_count}
use Rattle.writer.specs.Utterance.{Utterance, multiframes_of, pairs_of, image_of}
use Rattle.writer.proofs.Utterance.{whole_frames}
use Rattle.entries.specs.Entries.{answer_numbers, summary_numbers, Returned, returned, dsr_read}
use Rattle.damage.specs.Damage.{DamageUpTo, header_flips}
use Rattle.demands.specs.Whole.{pair_note_in}
use Rattle.demands.proofs.WholeLaws.{front_at}
use Rattle.demands.specs.Received.{BadPair, Count}
use Rattle.demands.specs.NamesTheDamage as N
use Rattle.demands.proofs.NamesTheDamageLaws as NL
use Rattle.demands.specs.ReadsBack.{spoken, padded, mended_report}
use Rattle.demands.proofs.ReadsBackLaws.{length_padded, padded_at, no_more}
use Rattle.demands.proofs.WritesAgainLaws as A
use Rattle.promises.specs.Misled as M
use Rattle.promises.proofs.Misled.{never_misled}
use Rattle.promises.specs.Trusted as T
use Rattle.promises.proofs.Trusted.{trusted_by_one}
use Rattle.promises.proofs.IfRead as I
use Rattle.dsr_demands.specs.Calls.{beyond, read_success, read_zero}
use Rattle.dsr_demands.specs.Named.{header_note_at, pair_note_at, frame_note_at, Tells}
use Rattle.dsr_demands.specs.Named as Stated

-- octet i of a frame
frame_octet : (l r : List ℕ) (f i : ℕ) → i < frame_indices → part (frame_indices * f) frame_indices l ≡ r → get_or l (frame_indices * f + i) 0 ≡ get_or r i 0
frame_octet l r f i h e = sym (get_or-take frame_indices (drop (frame_indices * f) l) i 0 h ∙ get_or-drop (frame_indices * f) l i 0) ∙ ap (λ (x : List ℕ). get_or x i 0) e

-- every clause of N.Names, where the six numbers stand in the answer
module _ (u : Utterance) (s : List ℕ) (tables : Tables) (g : Summary) (answer index report : List ℕ) (n : N.Names u s tables g index report) where
  there : (k j : ℕ) → j < multiframe_pairs → pair_note_in report (multiframe_pairs * k + j) ≡ pair_note_at report k j
  there k j h =
      let d : report_octets * ((multiframe_pairs * k + j) / multiframe_pairs) + 1 + (multiframe_pairs * k + j) % multiframe_pairs ≡ report_octets * k + 1 + j = omega arith in
      ap (λ (i : ℕ). get_or report i 0) d

  frame_there : (f : ℕ) → pair_note_in report (f / pair_frames) ≡ frame_note_at report f
  frame_there f = let d : report_octets * (f / 2 / multiframe_pairs) + 1 + f / 2 % multiframe_pairs ≡ report_octets * (f / multiframe_frames) + 1 + f / 2 % multiframe_pairs = omega arith in ap (λ (i : ℕ). get_or report i 0) d

  pub tells : (number : ℕ) → number ≡ 0 → get_or answer 0 0 ≡ g.settings.rate → get_or answer 1 0 ≡ g.settings.kind → get_or answer 2 0 ≡ g.multiframes → get_or answer 4 0 ≡ g.bad
      → Tells u s tables number answer index report
  tells number zero a b c d = record {
    success = zero;
    rate = a ∙ ap (λ (x : Settings). x.rate) n.settings;
    kind = b ∙ ap (λ (x : Settings). x.kind) n.settings;
    multiframes = c ∙ n.multiframes;
    bad = subst (Count (BadPair u s tables) (pairs_of u)) (sym d) n.counted;
    damaged = λ k j h l.
        let x = n.damaged (multiframe_pairs * k + j) (omega arith) in ((λ e. x.0 (there k j l ∙ e)), (λ t. sym (there k j l) ∙ x.1 t));
    others = λ k j h l t.
        let x = n.others (multiframe_pairs * k + j) (omega arith) t in ((λ e. x.0 (λ z. e (sym (there k j l) ∙ z))), (λ r z. x.1 r (there k j l ∙ z)));
    ruled = λ k j h l t r. sym (there k j l) ∙ n.ruled (multiframe_pairs * k + j) (omega arith) t r;
    flips = n.flips;
    frames = λ f i h l z.
        frame_octet index (part (frame_indices * f) frame_indices u.indices) f i l (n.frames f h (frame_there f ∙ z)) ∙ get_or-take frame_indices (drop (frame_indices * f) u.indices) i 0 l ∙ get_or-drop (frame_indices * f) u.indices i 0;
    padding = λ f i p h l z. frame_octet index (replicate frame_indices 0) f i l (n.padding f p h (frame_there f ∙ z)) ∙ no_more frame_indices i;
  }

-- octets beyond both parts of a reading are as they came
pub beyond_both : (ch : Choices) (s : List ℕ) (tables : Tables) (index report : List ℕ) (g : Summary) → (reading ch s tables index report).answer ≡ Ok g
    → (drop (index_octets * g.multiframes) (reading ch s tables index report).index ≡ drop (index_octets * g.multiframes) index)
    × (drop (report_octets * g.multiframes) (reading ch s tables index report).report ≡ drop (report_octets * g.multiframes) report)
beyond_both ch s tables index report g e =
    let w = A.was_read ch s tables index report [] g e in
    let places = (cutting s).places in
    let ns = received_notes s places tables in
    let count : length places ≡ g.multiframes = sym (ap (λ (x : Summary). x.multiframes) w.given_is) in
    let size = length_notes (received s places) (pair_count places) tables in (
      subst (λ (n : ℕ). drop (index_octets * n) (reading ch s tables index report).index ≡ drop (index_octets * n) index) count
          (ap (λ (x : Outcome). drop (index_octets * length places) x.index) w.result_is
          ∙ beyond index (index_part s places ns) (index_octets * length places) w.reader_accepts.fitting.roomy.index_room (length_index s places ns size)),
      subst (λ (n : ℕ). drop (report_octets * n) (reading ch s tables index report).report ≡ drop (report_octets * n) report) count
          (ap (λ (x : Outcome). drop (report_octets * length places) x.report) w.result_is
          ∙ beyond report (report_part s places ns w.common) (report_octets * length places) w.reader_accepts.fitting.roomy.report_room (length_report s places ns w.common size)),
    )

module _ (ch : Choices) (s : List ℕ) (tables : Tables) (index report answer : List ℕ) (place : ℕ) where
  abbrev got : Returned
  got = dsr_read s (Some ch) tables index report answer place

  abbrev o : Outcome
  o = reading ch s tables index report

  abbrev Stays : Type 0
  Stays = Stated.Stays ch s tables index report answer place

  module _ (room : answer_numbers ≤ length answer) (g : Summary) (e : o.answer ≡ Ok g) where
    pub got_is : dsr_read s (Some ch) tables index report answer place
        ≡ returned 0 (reading ch s tables index report).index (reading ch s tables index report).report (over answer 0 answer_numbers (summary_numbers g)) place
    got_is = read_success answer place index report o room g e

    pub at : (k : ℕ) → get_or (dsr_read s (Some ch) tables index report answer place).answer k 0 ≡ get_or (over answer 0 answer_numbers (summary_numbers g)) k 0
    at k = ap (λ (x : Returned). get_or x.answer k 0) got_is

    pub stays : Stays
    stays =
        let b = beyond_both ch s tables index report g e in
        record {
          index_beyond = subst (λ (n : ℕ). drop (index_octets * n) got.index ≡ drop (index_octets * n) index) (sym (at 2))
              (ap (λ (x : Returned). drop (index_octets * g.multiframes) x.index) got_is ∙ b.0);
          report_beyond = subst (λ (n : ℕ). drop (report_octets * n) got.report ≡ drop (report_octets * n) report) (sym (at 2))
              (ap (λ (x : Returned). drop (report_octets * g.multiframes) x.report) got_is ∙ b.1);
          answer_beyond = ap (λ (x : Returned). drop answer_numbers x.answer) got_is ∙ beyond answer (summary_numbers g) answer_numbers room refl;
          place_stays = ap (λ (x : Returned). x.place) got_is;
        }

-- NAMES THE DAMAGE at dsr_read
module _ (ch : Choices) (u : Utterance) (s : List ℕ) (tables : Tables) (index report answer : List ℕ) (place : ℕ) where
  abbrev c : Returned
  c = dsr_read s (Some ch) tables index report answer place

  abbrev HearsAll : Type 0
  HearsAll = Stated.HearsAll ch u s tables index report answer place

  named : N.Named ch u s tables index report → answer_numbers ≤ length answer
      → Tells u s tables c.number c.answer c.index c.report × Stays ch s tables index report answer place
  named n room =
      let e = got_is ch s tables index report answer place room n.given n.succeeds in
      let f = at ch s tables index report answer place room n.given n.succeeds in (
        tells u s tables n.given c.answer c.index c.report
            (subst (λ (x : Returned). N.Names u s tables n.given x.index x.report) (sym e) n.names) c.number (ap (λ (x : Returned). x.number) e) (f 0) (f 1) (f 2) (f 4),
        stays ch s tables index report answer place room n.given n.succeeds,
      )

  pub c_names_wider : N.Wider ch u s tables index report → answer_numbers ≤ length answer
      → Tells u s tables c.number c.answer c.index c.report × Stays ch s tables index report answer place
  c_names_wider p = named (NL.names_wider ch u s tables index report p)

  pub c_names_the_damage : N.Premises ch u s tables index report → answer_numbers ≤ length answer
      → Tells u s tables c.number c.answer c.index c.report × Stays ch s tables index report answer place
  c_names_the_damage p = named (NL.names_the_damage ch u s tables index report p)

  -- NEVER MISLED at dsr_read: if it answers 0, rate, type and multiframes are those sent
  pub c_never_misled : M.Premises u s → c.number ≡ 0 → (get_or c.answer 0 0 ≡ u.settings.rate) × ((get_or c.answer 1 0 ≡ u.settings.kind) × (get_or c.answer 2 0 ≡ multiframes_of u))
  c_never_misled p zero =
      let z = read_zero answer place index report (reading ch s tables index report) zero in
      let f = at ch s tables index report answer place z.0 z.1.0 z.1.1 in
      let m = never_misled ch u s p tables index report z.1.0 z.1.1 in
      (f 0 ∙ ap (λ (x : Settings). x.rate) m.settings, (f 1 ∙ ap (λ (x : Settings). x.kind) m.settings, f 2 ∙ m.multiframes))

  hears : (r : List ℕ) → answer_numbers ≤ length answer → reading ch s tables index report ≡ outcome (Ok (spoken u)) (over index 0 (index_octets * multiframes_of u) (padded u)) r → HearsAll
  hears r room e =
      let q = got_is ch s tables index report answer place room (spoken u) (ap (λ (x : Outcome). x.answer) e) in
      let octet : (i : ℕ) → i < index_octets * multiframes_of u → get_or c.index i 0 ≡ get_or u.indices i 0 =
      λ i h. ap (λ (x : Returned). get_or x.index i 0) q ∙ ap (λ (x : Outcome). get_or x.index i 0) e
      ∙ front_at index (padded u) (index_octets * multiframes_of u) i (omega (arith, length_padded u)) ∙ padded_at u i in
      record {
        success = ap (λ (x : Returned). x.number) q;
        numbers = ap (λ (x : Returned). x.answer) q;
        frames = λ i h. octet i (omega (arith, whole_frames u));
        padding = λ i l h. octet i h ∙ get_or-eq_default u.indices 0 l;
      }

  -- A LIST WITHOUT A WARNING CAN BE TRUSTED at dsr_read: 0 and all notes 0, and the octets are the image, and all of it is heard
  pub c_trusted : T.Premises u s → c.number ≡ 0 → ((i : ℕ) → i < report_octets * get_or c.answer 2 0 → get_or c.report i 0 ≡ 0) → (s ≡ image_of u) × HearsAll
  c_trusted p zero clean =
      let z = read_zero answer place index report (reading ch s tables index report) zero in
      let g = z.1.0 in
      let q = got_is ch s tables index report answer place z.0 g z.1.1 in
      let w = trusted_by_one ch u s p tables index report g
      (record {
        succeeds = z.1.1;
        notes_0 = λ i h.
            ap (λ (x : Returned). get_or x.report i 0) (sym q)
            ∙ clean i (subst (λ (n : ℕ). i < report_octets * n) (sym (at ch s tables index report answer place z.0 g z.1.1 2)) h);
      }) in
      let e : reading ch s tables index report
      ≡ outcome (Ok (spoken u)) (over index 0 (index_octets * multiframes_of u) (padded u)) (reading ch s tables index report).report =
      parts (reading ch s tables index report) (z.1.1 ∙ ap Ok w.sent) w.frames in
      (w.image, hears (reading ch s tables index report).report z.0 e)
    where
      parts : (x : Outcome) {b : Answer} {i : List ℕ} → x.answer ≡ b → x.index ≡ i → x ≡ outcome b i x.report
      parts x e f = ap₂ (λ (a : Answer) (j : List ℕ). outcome a j x.report) e f

  -- IF IT IS READ: at most three flips in each header and demand 3's damage to packets; 0 tells all of it
  pub c_names_if_read : DamageUpTo 3 (multiframes_of u) (image_of u) s → c.number ≡ 0 → Tells u s tables c.number c.answer c.index c.report
  c_names_if_read d zero =
      let z = read_zero answer place index report (reading ch s tables index report) zero in
      (named (record { given = z.1.0; succeeds = z.1.1; names = I.names_if_read ch u s d tables index report z.1.0 z.1.1 }) z.0).0

  -- NO PAIR NAMED at dsr_read: all of it is heard, and each header note is the number of flips, three for a lost one
  pub c_heard_whole : DamageUpTo 3 (multiframes_of u) (image_of u) s → c.number ≡ 0
      → ((k j : ℕ) → k < multiframes_of u → j < multiframe_pairs → pair_note_at c.report k j ≡ 0)
      → HearsAll × ((k : ℕ) → k < multiframes_of u → header_note_at c.report k ≡ header_flips (image_of u) s k)
  c_heard_whole d zero none =
      let z = read_zero answer place index report (reading ch s tables index report) zero in
      let q = got_is ch s tables index report answer place z.0 z.1.0 z.1.1 in
      let e = I.heard_if_read ch u s d tables index report z.1.0 z.1.1 (λ i h.
      ap (λ (x : Returned). pair_note_in x.report i) (sym q) ∙ none (i / multiframe_pairs) (i % multiframe_pairs) (omega arith) (omega arith)) in (
        hears (over report 0 (report_octets * multiframes_of u) (mended_report u s)) z.0 e,
        (λ k h. ap (λ (x : Returned). header_note_at x.report k) q ∙ ap (λ (x : Outcome). header_note_at x.report k) e ∙ header_octet k h),
      )
    where
      sizes : (k : ℕ) → k < multiframes_of u → length (header_flips (image_of u) s k ∷ replicate multiframe_pairs 0) ≡ report_octets
      sizes k h = refl

      header_octet : (k : ℕ) → k < multiframes_of u → header_note_at (over report 0 (report_octets * multiframes_of u) (mended_report u s)) k ≡ header_flips (image_of u) s k
      header_octet k h =
          let r = mended_report u s in
          let z : report_octets * k ≡ report_octets * k + 0 = omega arith in
          let l = length_joined (λ k. header_flips (image_of u) s k ∷ replicate multiframe_pairs 0) report_octets (multiframes_of u) sizes in
          front_at report r (report_octets * multiframes_of u) (report_octets * k) (omega arith) ∙ ap (λ (i : ℕ). get_or r i 0) z
          ∙ sym (get_or-take report_octets (drop (report_octets * k) r) 0 0 (omega arith) ∙ get_or-drop (report_octets * k) r 0 0)
          ∙ ap (λ (x : List ℕ). get_or x 0 0) (joined_part (λ k. header_flips (image_of u) s k ∷ replicate multiframe_pairs 0) report_octets (multiframes_of u) k sizes h)

  -- THE LAST MULTIFRAME WHOLLY UNNAMED at dsr_read: speech and end are those sent
  pub c_last_heard : DamageUpTo 3 (multiframes_of u) (image_of u) s → c.number ≡ 0
      → ((j : ℕ) → j < multiframe_pairs → pair_note_at c.report (multiframes_of u - 1) j ≡ 0) → (get_or c.answer 3 0 ≡ frame_count u.indices) × (get_or c.answer 5 0 ≡ 1)
  c_last_heard d zero none =
      let z = read_zero answer place index report (reading ch s tables index report) zero in
      let q = got_is ch s tables index report answer place z.0 z.1.0 z.1.1 in
      let f = at ch s tables index report answer place z.0 z.1.0 z.1.1 in
      let l = I.last_if_read ch u s d tables index report z.1.0 z.1.1 (λ i b h.
      let k : i / multiframe_pairs ≡ multiframes_of u - 1 = omega arith in
      ap (λ (x : Returned). pair_note_in x.report i) (sym q) ∙ ap (λ (x : ℕ). pair_note_at c.report x (i % multiframe_pairs)) k ∙ none (i % multiframe_pairs) (omega arith)) in
      (f 3 ∙ l.0, f 5 ∙ l.1)

-- WHAT STAYS of any input that dsr_read answers with 0
pub c_stays : (ch : Choices) (s : List ℕ) (tables : Tables) (index report answer : List ℕ) (place : ℕ) → (dsr_read s (Some ch) tables index report answer place).number ≡ 0
    → Stays ch s tables index report answer place
c_stays ch s tables index report answer place zero =
    let z = read_zero answer place index report (reading ch s tables index report) zero in
    stays ch s tables index report answer place z.0 z.1.0 z.1.1
