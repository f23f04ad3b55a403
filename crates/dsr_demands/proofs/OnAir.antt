-- AT ANY BIT: reading back, names-the-damage, trusted and never-misled at dsr_read_bits, for an utterance received at any bit with at most two flips in
-- EVERY header and up to 16 - T in each sync, if no place before it and none behind it passes the test: a multiframe whose header is lost is not
-- found there, so the wider limits of the octet reader do not hold (`Missed` in hunting_demands shows it where one header is asked to settle). In the numbers, octets and buffers that a caller
-- in C has.
-- Assumes nothing.
use Rattle.std.specs.Prelude.{◌≡◌, refl, List, ◌∷◌, ℕ, suc, ◌+◌, ◌*◌, ◌≤◌, ◌<◌, length, get_or, drop, replicate, Some, Ok}
use Rattle.std.proofs.Common.{sym, ap, ◌∙◌, subst, inl, inr, arith, lit≤, get_or-take, get_or-drop}
use Rattle.std.proofs.Math.Decide.{dec_lt}
use Rattle.std.proofs.Math.ListN.{get_or-eq_default}
use Rattle.hunting_demands.specs.HuntsBack.{received_flips}
use Rattle.lists.specs.Rows.{joined, length_joined, joined_part}
use Rattle.lists.specs.Parts.{over}
use Rattle.layout.specs.Layout.{index_octets, report_octets, multiframe_pairs}
use Rattle.choices.specs.declared.Choices.{Choices}
use Rattle.tables.specs.Tables.{Tables}
use Rattle.settings.specs.declared.Settings.{Settings}
use Rattle.bits.specs.Bits.{bits}
use Rattle.reader.specs.Reading as R
use Rattle.reader.specs.declared.Summary.{Summary}
use Rattle.gathering.specs.Gathering.{image_of as foundImage, outside_of}
use Rattle.hunting.specs.Hunting as G
use Rattle.hunting.specs.Hunting.{hunting_reading}
use Rattle.hunting.proofs.Says as F
use Rattle.hunting.specs.declared.Counted.{Counted}
use Rattle.writer.specs.Utterance.{Utterance, multiframes_of, image_of}
use Rattle.writer.proofs.Utterance.{whole_frames}
use Rattle.entries.specs.Entries.{Returned}
use Rattle.entries.specs.Bits.{counted_numbers, numbers_of, dsr_read_bits}
use Rattle.damage.specs.Damage.{header_flips}
use Rattle.demands.proofs.WholeLaws.{front_at}
use Rattle.demands.specs.NamesTheDamage as N
use Rattle.demands.specs.ReadsBack.{spoken, padded}
use Rattle.demands.proofs.ReadsBackLaws.{length_padded, padded_at, no_more}
use Rattle.promises.specs.Misled as M
use Rattle.promises.proofs.Misled.{never_misled}
use Rattle.promises.proofs.Trusted.{trusted}
use Rattle.hunting_demands.specs.Standing.{tested_in_row}
use Rattle.hunting_demands.specs.HuntsBack as B
use Rattle.hunting_demands.proofs.HuntsBack as BL
use Rattle.hunting_demands.specs.Radio.{together, Caught, OnAir, received_packet}
use Rattle.hunting_demands.proofs.Radio.{on_air, found_on_air, flips_few, together_size, together_syncs, packet_there, flips_there}
use Rattle.hunting_demands.specs.Radio as Radio
use Rattle.hunting_demands.proofs.Radio as RadioLaws
use Rattle.dsr_demands.specs.Calls.{bits_success, bits_zero, beyond}
use Rattle.dsr_demands.specs.Named.{Tells, header_note_at, pair_note_at}
use Rattle.dsr_demands.proofs.Named.{tells, beyond_both}
use Rattle.dsr_demands.specs.OnAir.{BitsStay}
use Rattle.dsr_demands.specs.OnAir as Stated

module _ (u : Utterance) (s : List ℕ) (from at least : ℕ) (tables : Tables) (index report answer : List ℕ) (place : ℕ) where
  abbrev c : (ch : Choices) → Returned
  c ch = dsr_read_bits s from least (Some ch) tables index report answer place

  abbrev o : (ch : Choices) → G.Outcome
  o ch = hunting_reading ch s from least tables index report

  abbrev Counts : (ch : Choices) → Type 0
  Counts ch = Stated.Counts u s from at least tables index report answer place ch

  abbrev Stood : Type 0
  Stood = Stated.Stood u s from at least tables index report answer place

  abbrev HearsAll : (ch : Choices) → Type 0
  HearsAll ch = Stated.HearsAll u s from at least tables index report answer place ch

  stood : Caught u s from at least → Stood
  stood a = record { packets = packet_there u s from at least a; headers = flips_there u s from at least a }

  -- NAMES THE DAMAGE at dsr_read_bits
  pub c_names_on_air : (ch : Choices) (a : OnAir u s from at least) → Radio.Premises ch u s from at least a tables index report → counted_numbers ≤ length answer
      → Tells u (together u s at) tables (c ch).number (c ch).answer (c ch).index (c ch).report × (Stood × Counts ch)
  c_names_on_air ch a p room =
      let n = RadioLaws.names_on_air ch u s from at least a tables index report p in
      let e = bits_success answer place index report (o ch) room n.given n.succeeds in
      let f : (k : ℕ) → get_or (c ch).answer k 0 ≡ get_or (over answer 0 counted_numbers (numbers_of n.given)) k 0 = λ k. ap (λ (x : Returned). get_or x.answer k 0) e in (
        tells u (together u s at) tables n.given.summary (c ch).answer (c ch).index (c ch).report
            (subst (λ (x : Returned). N.Names u (together u s at) tables n.given.summary x.index x.report) (sym e) n.names) (c ch).number
            (ap (λ (x : Returned). x.number) e) (f 0) (f 1) (f 2) (f 4),
        (stood a.caught, record { outside = f 6 ∙ n.outside; tested = f 7 ∙ n.tested; place_stays = ap (λ (x : Returned). x.place) e }),
      )

  hears : (ch : Choices) → counted_numbers ≤ length answer → (g : Counted) → (o ch).answer ≡ Ok g → g.summary ≡ spoken u → (o ch).index ≡ over index 0 (index_octets * multiframes_of u) (padded u) → HearsAll ch
  hears ch room g eg es ei =
      let e = bits_success answer place index report (o ch) room g eg in
      let f : (k : ℕ) → get_or (c ch).answer k 0 ≡ get_or (over answer 0 counted_numbers (numbers_of g)) k 0 = λ k. ap (λ (x : Returned). get_or x.answer k 0) e in
      let octet : (i : ℕ) → i < index_octets * multiframes_of u → get_or (c ch).index i 0 ≡ get_or u.indices i 0 =
      λ i h. ap (λ (x : Returned). get_or x.index i 0) e ∙ ap (λ (l : List ℕ). get_or l i 0) ei
      ∙ front_at index (padded u) (index_octets * multiframes_of u) i (omega (arith, length_padded u)) ∙ padded_at u i in
      record {
        success = ap (λ (x : Returned). x.number) e;
        rate = f 0 ∙ ap (λ (x : Summary). x.settings.rate) es;
        kind = f 1 ∙ ap (λ (x : Summary). x.settings.kind) es;
        multiframes = f 2 ∙ ap (λ (x : Summary). x.multiframes) es;
        speech = f 3 ∙ ap (λ (x : Summary). x.speech) es;
        bad = f 4 ∙ ap (λ (x : Summary). x.bad) es;
        end = f 5 ∙ ap (λ (x : Summary). x.end) es;
        frames = λ i h. octet i (omega (arith, whole_frames u));
        padding = λ i l h. octet i h ∙ get_or-eq_default u.indices 0 l;
      }

  -- READING BACK at dsr_read_bits: each header note is the number of flips there, and no pair has one
  pub c_hunts_back : (ch : Choices) → B.Premises ch u s from at least tables index report → counted_numbers ≤ length answer
      → HearsAll ch × (((k : ℕ) → k < multiframes_of u → header_note_at (c ch).report k ≡ received_flips u s at k)
      × (((k j : ℕ) → k < multiframes_of u → j < multiframe_pairs → pair_note_at (c ch).report k j ≡ 0) × Counts ch))
  c_hunts_back ch p room =
      let q = BL.hunts_back ch u s from at least tables index report p in
      let g : Counted = record { summary = spoken u; outside = outside_of (bits s) from (multiframes_of u); tested = tested_in_row (bits s) from at (multiframes_of u) } in
      let r : (o ch).answer ≡ Ok g = ap (λ (x : G.Outcome). x.answer) q in
      let e = bits_success answer place index report (o ch) room g r in (
        hears ch room g r refl (ap (λ (x : G.Outcome). x.index) q),
        (
          (λ k h.
              let z : report_octets * k ≡ report_octets * k + 0 = omega arith in
              ap (λ (x : Returned). get_or x.report (report_octets * k) 0) e ∙ ap (λ (x : G.Outcome). get_or x.report (report_octets * k) 0) q ∙ ap (λ (i : ℕ). get_or noted i 0) z ∙ note_octet k 0 h (omega arith)),
          (
            (λ k j h l.
                let z : report_octets * k + 1 + j ≡ report_octets * k + suc j = omega arith in
                ap (λ (x : Returned). get_or x.report (report_octets * k + 1 + j) 0) e ∙ ap (λ (x : G.Outcome). get_or x.report (report_octets * k + 1 + j) 0) q ∙ ap (λ (i : ℕ). get_or noted i 0) z
                ∙ note_octet k (suc j) h (omega arith) ∙ no_more multiframe_pairs j),
            record {
              outside = ap (λ (x : Returned). get_or x.answer 6 0) e;
              tested = ap (λ (x : Returned). get_or x.answer 7 0) e;
              place_stays = ap (λ (x : Returned). x.place) e;
            },
          ),
        ),
      )
    where
      noted : List ℕ
      noted = over report 0 (report_octets * multiframes_of u) (joined (λ k. received_flips u s at k ∷ replicate multiframe_pairs 0) (multiframes_of u))

      note_octet : (k j : ℕ) → k < multiframes_of u → j < report_octets
          → get_or (over report 0 (report_octets * multiframes_of u) (joined (λ k. received_flips u s at k ∷ replicate multiframe_pairs 0) (multiframes_of u))) (report_octets * k + j) 0
          ≡ get_or (received_flips u s at k ∷ replicate multiframe_pairs 0) j 0
      note_octet k j h l =
          let r = joined (λ k. received_flips u s at k ∷ replicate multiframe_pairs 0) (multiframes_of u) in
          let n = length_joined (λ k. received_flips u s at k ∷ replicate multiframe_pairs 0) report_octets (multiframes_of u) (λ k h. refl) in
          front_at report r (report_octets * multiframes_of u) (report_octets * k + j) (omega arith)
          ∙ sym (get_or-take report_octets (drop (report_octets * k) r) j 0 l ∙ get_or-drop (report_octets * k) r j 0)
          ∙ ap (λ (x : List ℕ). get_or x j 0) (joined_part (λ k. received_flips u s at k ∷ replicate multiframe_pairs 0) report_octets (multiframes_of u) k (λ k h. refl) h)

  -- A LIST WITHOUT A WARNING CAN BE TRUSTED at dsr_read_bits: 0 and all notes 0, and what stands there is the utterance as written
  pub c_trusted_on_air : (ch : Choices) → OnAir u s from at least → (c ch).number ≡ 0 → ((i : ℕ) → i < report_octets * get_or (c ch).answer 2 0 → get_or (c ch).report i 0 ≡ 0)
      → (together u s at ≡ image_of u) × HearsAll ch
  c_trusted_on_air ch a zero clean =
      let z = bits_zero answer place index report (o ch) zero in
      let g = z.1.0 in
      let e = bits_success answer place index report (o ch) z.0 g z.1.1 in
      let y : R.reading ch (together u s at) tables index report ≡ R.outcome (Ok g.summary) (o ch).index (o ch).report =
      ap (λ (ps : List ℕ). R.reading ch (foundImage s ps) tables index report) (sym (found_on_air u s from at least a.caught))
      ∙ (F.success ch s from least tables index report g z.1.1).as_01_says in
      let w = trusted ch u (together u s at) (on_air ch u s from at least a) tables index report g.summary
      (record {
        succeeds = ap (λ (x : R.Outcome). x.answer) y;
        notes_0 = λ i h.
            ap (λ (x : R.Outcome). get_or x.report i 0) y ∙ ap (λ (x : Returned). get_or x.report i 0) (sym e)
            ∙ clean i (subst (λ (n : ℕ). i < report_octets * n) (sym (ap (λ (x : Returned). get_or x.answer 2 0) e)) h);
      }) in
      (w.image, hears ch z.0 g z.1.1 w.sent (ap (λ (x : R.Outcome). x.index) (sym y) ∙ w.frames))

  -- NEVER MISLED at dsr_read_bits: with at most two flips in every header, whatever happened to the packets, if it answers 0, rate, type and
  -- multiframes are those sent
  pub c_never_misled_on_air : (ch : Choices) → Caught u s from at least → (c ch).number ≡ 0
      → (get_or (c ch).answer 0 0 ≡ u.settings.rate) × ((get_or (c ch).answer 1 0 ≡ u.settings.kind) × (get_or (c ch).answer 2 0 ≡ multiframes_of u))
  c_never_misled_on_air ch a zero =
      let z = bits_zero answer place index report (o ch) zero in
      let g = z.1.0 in
      let e = bits_success answer place index report (o ch) z.0 g z.1.1 in
      let y : R.reading ch (together u s at) tables index report ≡ R.outcome (Ok g.summary) (o ch).index (o ch).report =
      ap (λ (ps : List ℕ). R.reading ch (foundImage s ps) tables index report) (sym (found_on_air u s from at least a))
      ∙ (F.success ch s from least tables index report g z.1.1).as_01_says in
      let w = never_misled ch u (together u s at) premises tables index report g.summary (ap (λ (x : R.Outcome). x.answer) y) in
      let f : (k : ℕ) → get_or (c ch).answer k 0 ≡ get_or (over answer 0 counted_numbers (numbers_of g)) k 0 = λ k. ap (λ (x : Returned). get_or x.answer k 0) e in
      (f 0 ∙ ap (λ (x : Settings). x.rate) w.settings, (f 1 ∙ ap (λ (x : Settings). x.kind) w.settings, f 2 ∙ w.multiframes))
    where
      most : (k n : ℕ) → k < multiframes_of u → 2 ≤ n → header_flips (image_of u) (together u s at) k ≤ n
      most k n h l = let few = flips_few u s from at least a k h in omega arith

      premises : M.Premises u (together u s at)
      premises = record {
        size = together_size u s from at least a;
        syncs = together_syncs u s from at least a;
        headers = elim (dec_lt (multiframes_of u) 2) [
          | yes l ↦ inr (record { single = omega arith; five = most 0 5 (omega arith) (lit≤ tt) })
          | no n ↦ inl (record { two = omega arith; but = 0; others = λ k h d. most k 3 h (lit≤ tt) })
        ];
      }

-- WHAT STAYS of any input that dsr_read_bits answers with 0
pub c_bits_stay : (ch : Choices) (s : List ℕ) (from least : ℕ) (tables : Tables) (index report answer : List ℕ) (place : ℕ)
    → (dsr_read_bits s from least (Some ch) tables index report answer place).number ≡ 0 → BitsStay ch s from least tables index report answer place
c_bits_stay ch s from least tables index report answer place zero =
    let o = hunting_reading ch s from least tables index report in
    let z = bits_zero answer place index report o zero in
    let g = z.1.0 in
    let e = bits_success answer place index report o z.0 g z.1.1 in
    let y = (F.success ch s from least tables index report g z.1.1).as_01_says in
    let b = beyond_both ch (foundImage s (G.all ch s from least tables index report).places) tables index report g.summary (ap (λ (x : R.Outcome). x.answer) y) in
    let m : get_or (dsr_read_bits s from least (Some ch) tables index report answer place).answer 2 0 ≡ g.summary.multiframes = ap (λ (x : Returned). get_or x.answer 2 0) e in
    record {
      index_beyond = subst (λ (n : ℕ). drop (index_octets * n) (dsr_read_bits s from least (Some ch) tables index report answer place).index ≡ drop (index_octets * n) index) (sym m)
          (ap (λ (x : Returned). drop (index_octets * g.summary.multiframes) x.index) e ∙ sym (ap (λ (x : R.Outcome). drop (index_octets * g.summary.multiframes) x.index) y) ∙ b.0);
      report_beyond = subst (λ (n : ℕ). drop (report_octets * n) (dsr_read_bits s from least (Some ch) tables index report answer place).report ≡ drop (report_octets * n) report) (sym m)
          (ap (λ (x : Returned). drop (report_octets * g.summary.multiframes) x.report) e ∙ sym (ap (λ (x : R.Outcome). drop (report_octets * g.summary.multiframes) x.report) y) ∙ b.1);
      answer_beyond = ap (λ (x : Returned). drop counted_numbers x.answer) e ∙ beyond answer (numbers_of g) counted_numbers z.0 refl;
      place_stays = ap (λ (x : Returned). x.place) e;
    }
