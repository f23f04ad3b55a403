-- Calls that answer 0, for never misled, trusted, if it is read, heard whole, cut off, call to call and on air; the other sentences have their
-- examples below the entries, in promises and hunting_demands.
-- Assumes nothing.
use Rattle.std.specs.Prelude.{◌≡◌, Bool, List, [], ◌∷◌, ℕ, ◌+◌, ◌*◌, ◌/◌, ◌%◌, ◌≤◌, ◌<◌, length, take, get_or, Some, Ok}
use Rattle.std.proofs.Common.{sym, ap, ◌∙◌, subst, arith, lit<, lit≤}
use Rattle.std.specs.Int.Count.{ones}
use Rattle.lists.specs.Parts.{over}
use Rattle.layout.specs.Layout.{packet_bits, multiframe_pairs, multiframe_octets, report_octets}
use Rattle.choices.specs.Choices.{by_one_header}
use Rattle.choices.specs.declared.Choices.{Choices}
use Rattle.hunt.specs.Hunt.{fewest_matches}
use Rattle.reader.specs.Reading.{reading}
use Rattle.reader.specs.declared.Summary.{Summary}
use Rattle.writer.specs.Utterance.{Utterance, multiframes_of, image_of}
use Rattle.settling.specs.Laws.{Enough}
use Rattle.entries.specs.Entries.{answer_numbers, Returned, dsr_read}
use Rattle.entries.specs.Bits.{dsr_read_bits}
use Rattle.damage.specs.Damage.{loosened, header_flips, DamageUpTo}
use Rattle.damage.proofs.Damages.{unharmed}
use Rattle.demands_met.specs.Met.{index_for, report_for, says24}
use Rattle.demands_met.proofs.MetLaws.{lent_zeros}
use Rattle.demands.proofs.NamesTheDamageLaws as N
use Rattle.demands.specs.ReadsBack.{spoken}
use Rattle.promises.specs.Flipped.{flipped, but_one, rate_bits}
use Rattle.promises.specs.Met as P
use Rattle.promises.proofs.MetLaws as PM
use Rattle.recordings.specs.Said.{ones24}
use Rattle.recordings.proofs.CutOff.{first_of_24}
use Rattle.hunting_demands.specs.Met as HM
use Rattle.hunting_demands.proofs.MetLaws as HML
use Rattle.hunting_demands.proofs.MetLaws.{two_ones}
use Rattle.hunting_demands.proofs.HuntsBack.{shifted_hold}
use Rattle.hunting_demands.specs.Aired.{aired}
use Rattle.hunting_demands.proofs.Aired.{aired_on_air, names_aired_24}
use Rattle.dsr_demands.proofs.Linked.{c_link_names}
use Rattle.dsr_demands.specs.Called.{octets_of, count_of, called, octets_are}
use Rattle.dsr_demands.specs.Calls.{read_success}
use Rattle.dsr_demands.specs.Named.{header_note_at, HearsAll, Tells}
use Rattle.dsr_demands.proofs.Named.{got_is, c_never_misled, c_trusted, c_heard_whole, c_names_if_read}
use Rattle.dsr_demands.specs.OnAir as O
use Rattle.dsr_demands.proofs.OnAir as OL
use Rattle.dsr_demands.proofs.Cut.{c_cut_off}
use Rattle.dsr_demands.specs.Met.{six, eight, room_for}
use Rattle.dsr_demands.proofs.MetLaws.{call_met}
use Rattle.tables.specs.Tables.{zero_tables}

-- a reading with tables of zeros and just enough room that succeeds is answered with 0
answers_0 : (ch : Choices) (s : List ℕ) (m : ℕ) (g : Summary) → (reading ch s zero_tables (index_for m) (report_for m)).answer ≡ Ok g
    → (dsr_read s (Some ch) zero_tables (index_for m) (report_for m) six 0).number ≡ 0
answers_0 ch s m g e = ap (λ (x : Returned). x.number) (read_success six 0 (index_for m) (report_for m) (reading ch s zero_tables (index_for m) (report_for m)) (lit≤ tt) g e)

abbrev index48 : List ℕ
index48 = index_for (multiframes_of P.says48)

abbrev report48 : List ℕ
report48 = report_for (multiframes_of P.says48)

-- NEVER MISLED: the incident. Three multiframes at 8 kHz, the second header is that of 11 kHz, and a packet is any 92 bits: the rate is 0
pub incident_told : (ch : Choices) (p : List Bool) → length p ≡ packet_bits
    → ((dsr_read (flipped P.says48 (P.in_second rate_bits 3) (but_one P.says48 0 p)) (Some ch) zero_tables index48 report48 six 0).number ≡ 0)
    × (get_or (dsr_read (flipped P.says48 (P.in_second rate_bits 3) (but_one P.says48 0 p)) (Some ch) zero_tables index48 report48 six 0).answer 0 0 ≡ 0)
incident_told ch p size =
    let h = PM.incident_48 ch p size in
    let s = flipped P.says48 (P.in_second rate_bits 3) (but_one P.says48 0 p) in
    let three : multiframes_of P.says48 ≡ 3 = P.three_multiframes in
    let zero = answers_0 ch s (multiframes_of P.says48) h.given h.succeeds in (
      zero,
      (c_never_misled ch P.says48 s zero_tables index48 report48 six 0 (PM.misled_met P.says48 rate_bits 3 (lit< tt) (lit< tt) (but_one P.says48 0 p) le_of_two (omega arith)) zero).0
          ∙ P.rate_48,
    )
  where
    le_of_two : ones 3 ≤ 3
    le_of_two = omega (arith, two_ones)

-- TRUSTED: every image of two multiframes or more, and every image if the old rule is asked for, is answered with 0 and all notes 0, so it is heard whole
pub trusted_told : (ch : Choices) (u : Utterance) → Enough ch (multiframes_of u)
    → (image_of u ≡ image_of u) × HearsAll ch u (image_of u) zero_tables (index_for (multiframes_of u)) (report_for (multiframes_of u)) six 0
trusted_told ch u enough =
    let m = multiframes_of u in
    let w = PM.without_warning ch u enough zero_tables (index_for m) (report_for m) (lent_zeros m) in
    let e = got_is ch (image_of u) zero_tables (index_for m) (report_for m) six 0 (lit≤ tt) (spoken u) w.succeeds in
    c_trusted ch u (image_of u) zero_tables (index_for m) (report_for m) six 0
    (record {
      damage = loosened (lit≤ tt) (unharmed u);
      header = 0;
      within = omega arith;
      five = let l = (unharmed u).headers 0 (omega arith) in omega arith;
    })
    (ap (λ (x : Returned). x.number) e)
    (λ i h. ap (λ (x : Returned). get_or x.report i 0) e ∙ w.notes_0 i (subst (λ (n : ℕ). i < report_octets * n) (ap (λ (x : Returned). get_or x.answer 2 0) e) h))

-- HEARD WHOLE: three multiframes, headers with two, three and one flips; the second is lost, and its note is 3
pub heard_told : (ch : Choices) → HearsAll ch P.says48 (P.lost_one P.says48) zero_tables index48 report48 six 0
    × ((k : ℕ) → k < multiframes_of P.says48 → header_note_at (dsr_read (P.lost_one P.says48) (Some ch) zero_tables index48 report48 six 0).report k ≡ header_flips (image_of P.says48) (P.lost_one P.says48) k)
heard_told ch =
    let s = P.lost_one P.says48 in
    let three : multiframes_of P.says48 ≡ 3 = P.three_multiframes in
    let w = PM.heard_met ch P.says48 (omega arith) zero_tables index48 report48 (lent_zeros (multiframes_of P.says48)) in
    let e = got_is ch s zero_tables index48 report48 six 0 (lit≤ tt) (spoken P.says48) (PM.heard_48 ch).succeeds in
    c_heard_whole ch P.says48 s zero_tables index48 report48 six 0 w.damage (ap (λ (x : Returned). x.number) e) (λ k j h l.
    let z : report_octets * ((multiframe_pairs * k + j) / multiframe_pairs) + 1 + (multiframe_pairs * k + j) % multiframe_pairs ≡ report_octets * k + 1 + j = omega arith in
    ap (λ (x : Returned). get_or x.report (report_octets * k + 1 + j) 0) e ∙ ap (λ (i : ℕ). get_or (reading ch s zero_tables index48 report48).report i 0) (sym z)
    ∙ PM.none_named ch P.says48 (omega arith) zero_tables index48 report48 (lent_zeros (multiframes_of P.says48)) (multiframe_pairs * k + j) (omega arith))

-- CUT OFF: the first of two multiframes alone, if the old rule is asked for, is answered with 0 and end 0
pub cut_told : (dsr_read (take (multiframe_octets * 1) (image_of ones24)) (Some by_one_header) zero_tables (index_for 1) (report_for 1) six 0).answer ≡ over six 0 answer_numbers (0 ∷ 0 ∷ 1 ∷ 24 ∷ 0 ∷ 0 ∷ [])
cut_told =
    c_cut_off by_one_header zero_tables (index_for 1) (report_for 1) six 0 ones24 1 (omega arith)
    (answers_0 by_one_header (take (multiframe_octets * 1) (image_of ones24)) 1 _ first_of_24)

-- ON AIR: two multiframes at bit 3 with four flips in each sync, two in each header, and damaged packets: the settings are those sent
pub air_told : (ch : Choices) → ((dsr_read_bits (aired says24) 0 fewest_matches (Some ch) zero_tables (index_for (multiframes_of says24)) (report_for (multiframes_of says24)) eight 0).number ≡ 0)
    × (get_or (dsr_read_bits (aired says24) 0 fewest_matches (Some ch) zero_tables (index_for (multiframes_of says24)) (report_for (multiframes_of says24)) eight 0).answer 0 0 ≡ says24.settings.rate)
air_told ch =
    let i = index_for (multiframes_of says24) in
    let r = report_for (multiframes_of says24) in
    let n = (OL.c_names_on_air says24 (aired says24) 0 3 fewest_matches zero_tables i r eight 0 ch (aired_on_air says24) (names_aired_24 ch) (lit≤ tt)).0 in
    (n.success, (OL.c_never_misled_on_air says24 (aired says24) 0 3 fewest_matches zero_tables i r eight 0 ch (aired_on_air says24).caught n.success).0)

-- and every image of two multiframes or more, and every image if the old rule is asked for, shifted by three bits, is read back
pub air_back : (ch : Choices) (u : Utterance) → Enough ch (multiframes_of u) → O.HearsAll u (HM.shifted_octets u) 0 3 fewest_matches zero_tables (index_for (multiframes_of u)) (report_for (multiframes_of u)) eight 0 ch
air_back ch u enough =
    let m = multiframes_of u in
    (OL.c_hunts_back u (HM.shifted_octets u) 0 3 fewest_matches zero_tables (index_for m) (report_for m) eight 0 ch
    (shifted_hold ch u (HM.shifted_octets u) 0 fewest_matches HM.three_zeros HM.five_zeros (HML.shifted_met u ch fewest_matches (lit≤ tt)) enough zero_tables (index_for m) (report_for m) (lit≤ tt) (lit≤ tt) (lent_zeros m)) (lit≤ tt)).0

-- IF IT IS READ: three multiframes, the second header lost, two packets damaged: the notes are told
pub read_told : (ch : Choices) → Tells P.says48 (P.all_hurt P.says48) zero_tables
    (dsr_read (P.all_hurt P.says48) (Some ch) zero_tables index48 report48 six 0).number (dsr_read (P.all_hurt P.says48) (Some ch) zero_tables index48 report48 six 0).answer
    (dsr_read (P.all_hurt P.says48) (Some ch) zero_tables index48 report48 six 0).index (dsr_read (P.all_hurt P.says48) (Some ch) zero_tables index48 report48 six 0).report
read_told ch =
    let three : multiframes_of P.says48 ≡ 3 = P.three_multiframes in
    let w = PM.wider_met ch P.says48 (omega arith) in
    let n = N.names_wider ch P.says48 (P.all_hurt P.says48) zero_tables index48 report48 w in
    c_names_if_read ch P.says48 (P.all_hurt P.says48) zero_tables index48 report48 six 0 w.damage (answers_0 ch (P.all_hurt P.says48) (multiframes_of P.says48) n.given n.succeeds)

-- FROM CALL TO CALL: every utterance of two multiframes or more that dsr_write wrote, and every utterance if the old rule is asked for, undamaged, is
-- answered by dsr_read with 0 and told
module _ (ch : Choices) (u : Utterance) (enough : Enough ch (multiframes_of u)) where
  abbrev sent : List ℕ
  sent = octets_of u.settings.rate u.settings.kind u.indices (room_for u)

  sent_is : octets_of u.settings.rate u.settings.kind u.indices (room_for u) ≡ image_of u
  sent_is = octets_are u.settings.rate u.settings.kind u.indices (room_for u) (call_met u)

  zero : (dsr_read sent (Some ch) zero_tables (index_for (multiframes_of u)) (report_for (multiframes_of u)) six 0).number ≡ 0
  zero =
      ap (λ (l : List ℕ). (dsr_read l (Some ch) zero_tables (index_for (multiframes_of u)) (report_for (multiframes_of u)) six 0).number) sent_is
      ∙ answers_0 ch (image_of u) (multiframes_of u) (spoken u) (PM.without_warning ch u enough zero_tables (index_for (multiframes_of u)) (report_for (multiframes_of u)) (lent_zeros (multiframes_of u))).succeeds

  pub link_told : Tells (called u.settings.rate u.settings.kind u.indices (room_for u) (call_met u)) sent zero_tables
      (dsr_read sent (Some ch) zero_tables (index_for (multiframes_of u)) (report_for (multiframes_of u)) six 0).number
      (dsr_read sent (Some ch) zero_tables (index_for (multiframes_of u)) (report_for (multiframes_of u)) six 0).answer
      (dsr_read sent (Some ch) zero_tables (index_for (multiframes_of u)) (report_for (multiframes_of u)) six 0).index
      (dsr_read sent (Some ch) zero_tables (index_for (multiframes_of u)) (report_for (multiframes_of u)) six 0).report
  link_told =
      c_link_names u.settings.rate u.settings.kind u.indices (room_for u) (call_met u) sent zero_tables (index_for (multiframes_of u)) (report_for (multiframes_of u)) six 0 ch
      (subst (λ (l : List ℕ). DamageUpTo 3 (count_of u.indices) l l) (sym sent_is) (loosened (lit≤ tt) (unharmed u))) zero
