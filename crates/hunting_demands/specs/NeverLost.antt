-- HEADER NOTE 3 NEVER COMES IN A HUNTING READING: each multiframe found has passed the test, so its header is readable.
-- Assumes nothing.
use Rattle.std.specs.Prelude.{ℕ, zero, suc, ◌+◌, ◌*◌, ◌^◌, ◌≤◌, ◌<◌, ◌≡◌, List, [], ◌∷◌, ◌++◌, Bool, true, false, leb, length, take, get_or, Some, None, Ok}
use Rattle.std.proofs.Common.{sym, ap, ◌∙◌, subst, mod-eq_of_lt, arith}
use Rattle.std.proofs.Math.Seq.{drop-append-add}
use Rattle.lists.specs.Tests.{both, true_false}
use Rattle.lists.specs.Parts.{part, length_part, part_left}
use Rattle.lists.specs.Rows.{each_at}
use Rattle.layout.specs.Layout.{sync_octets, header_octets, multiframe_octets, report_octets}
use Rattle.choices.specs.declared.Choices.{Choices}
use Rattle.tables.specs.Tables.{Tables}
use Rattle.bits.specs.Bits.{field, value, bits}
use Rattle.bits.proofs.Laws.{length_field, value_field, value_lt, bits_octets}
use Rattle.header.specs.Reading.{ReadAs, reading}
use Rattle.header.proofs.Laws.{reads}
use Rattle.header.specs.Types.{Header}
use Rattle.cutting.specs.Cutting.{Cutting, cutting}
use Rattle.cutting.proofs.Laws.{every_length}
use Rattle.header_readings.specs.Readings.{readings}
use Rattle.header_notes.specs.HeaderNotes.{header_note}
use Rattle.deciding.specs.Deciding.{received_notes}
use Rattle.carrier.specs.Carrier.{received, pair_count}
use Rattle.header_notes.specs.Laws.{note_flips}
use Rattle.notes.specs.Laws.{length_notes}
use Rattle.reader.specs.Reading as R
use Rattle.hunt.specs.Hunt.{sync_bits, header_bits, multiframe_bits, sync, matches, readable, passes}
use Rattle.hunt.proofs.Laws.{searched_le}
use Rattle.gathering.specs.Gathering.{aligned, image_of}
use Rattle.gathering.specs.Laws.{Apart}
use Rattle.gathering.proofs.Laws.{length_aligned}
use Rattle.hunting.specs.Hunting as G
use Rattle.hunting.specs.Hunting.{hunting_reading}
use Rattle.hunting.proofs.Says.{image_cut, success}
use Rattle.hunting.specs.declared.Counted.{Counted}
use Rattle.image.specs.Made.{word_in, framed, length_framed, framed_header}
use Rattle.demands.specs.Whole.{row_of, header_note_in}
use Rattle.demands.proofs.WholeLaws.{readings_are, header_note_is}
use Rattle.demands.proofs.WritesAgainLaws as A
use Rattle.hunting_demands.specs.Standing.{word_at, stream_at, aligned_framed}

-- the header word of a multiframe at the front of octets
front_word : (w : ℕ) (x : List Bool) (r : List ℕ) → w < 2 ^ header_bits → word_in (framed w x ++ r) 0 ≡ w
front_word w x r h =
    ap (λ (l : List ℕ). value (bits l)) (part_left (framed w x) r sync_octets header_octets (omega (arith, length_framed w x)) ∙ framed_header w x)
    ∙ ap value (bits_octets header_octets (field header_bits w) (length_field header_bits w)) ∙ value_field header_bits w ∙ mod-eq_of_lt h

-- a place that passes has a readable header
passed_readable : (least : ℕ) (l : List Bool) (p : ℕ) → passes least l p ≡ true → readable (reading (word_at l p)) ≡ true
unfolding passes
passed_readable least l p e = by (leb least (matches (part p sync_bits l) sync)) e
  where
    by : (t : Bool) → both t (readable (reading (word_at l p))) ≡ true → readable (reading (word_at l p)) ≡ true
    by true e = e
    by false e = absurd (true_false (sym e))

-- so has each multiframe found, put together
found_readable : (s : List ℕ) (least at : ℕ) (ps : List ℕ) (k : ℕ) → Apart (bits s) least at ps → k < length ps → readable (reading (word_in (image_of s ps) k)) ≡ true
unfolding image_of
found_readable s least at [] k a h = absurd (omega arith)
found_readable s least at (p ∷ ps) zero a h =
    let l = bits s in
    let room : p + multiframe_bits ≤ length l = omega (arith, a.1, searched_le l) in
    let head = part (p + sync_bits) header_bits l in
    let size : length head ≡ header_bits = length_part l (p + sync_bits) header_bits (omega arith) in
    ap (λ (x : List ℕ). readable (reading (word_in (x ++ image_of s ps) 0))) (aligned_framed s p room)
    ∙ ap (λ (w : ℕ). readable (reading w)) (front_word (word_at l p) (stream_at l p) (image_of s ps) (subst (λ (n : ℕ). word_at l p < 2 ^ n) size (value_lt head)))
    ∙ passed_readable least l p a.2
found_readable s least at (p ∷ ps) (suc k) a h =
    let e : multiframe_octets * suc k + sync_octets ≡ length (aligned s p) + (multiframe_octets * k + sync_octets) = omega (arith, length_aligned s p) in
    ap (λ (x : List ℕ). readable (reading (value (bits x))))
    (ap (λ (i : ℕ). part i header_octets (aligned s p ++ image_of s ps)) e ∙ ap (take header_octets) (drop-append-add (aligned s p) (image_of s ps) (multiframe_octets * k + sync_octets)))
    ∙ found_readable s least (p + multiframe_bits) ps k a.3 (omega arith)

-- a readable header's note is not 3
not_three : (c k w : ℕ) → readable (reading w) ≡ true → header_note c k (reading w) ≡ 3 → ⊥
not_three c k w = by (reading w) (reads w)
  where
    by : (h : Header) → ReadAs w h → readable h ≡ true → header_note c k h ≡ 3 → ⊥
    by None r e z = true_false (sym e)
    by (Some d) r e z = omega (arith, note_flips c k d r.2, r.2)

pub never_lost : (ch : Choices) (s : List ℕ) (from least : ℕ) (tables : Tables) (index report : List ℕ) (c : Counted)
    → (hunting_reading ch s from least tables index report).answer ≡ Ok c → (k : ℕ) → k < c.summary.multiframes
    → header_note_in (hunting_reading ch s from least tables index report).report k ≡ 3 → ⊥
never_lost ch s from least tables index report c e k h z =
    let x = success ch s from least tables index report c e in
    let ps = (G.all ch s from least tables index report).places in
    let img = image_of s ps in
    let y = x.as_01_says in
    let w = A.was_read ch img tables index report [] c.summary (ap (λ (o : R.Outcome). o.answer) y) in
    let cut : (cutting img).places ≡ row_of (length ps) = ap (λ (v : Cutting). v.places) (image_cut s ps x.few) in
    let places = (cutting img).places in
    let ns = received_notes img places tables in
    let rows : length places ≡ length ps = ap length cut ∙ every_length 0 (length ps) in
    let inside : k < length ps = omega (arith, x.count) in
    let r : get_or (readings img places) k None ≡ reading (word_in img k) =
    ap (λ (l : List ℕ). get_or (readings img l) k None) cut ∙ ap (λ (l : List Header). get_or l k None) (readings_are img (length ps)) ∙ each_at (λ j. reading (word_in img j)) (length ps) k None inside in
    let n : header_note w.common k (get_or (readings img places) k None) ≡ 3 =
    sym (header_note_is img places ns report w.common (report_octets * length places) (length_notes (received img places) (pair_count places) tables) k (omega arith))
    ∙ sym (ap (λ (o : R.Outcome). header_note_in o.report k) w.result_is) ∙ ap (λ (o : R.Outcome). header_note_in o.report k) y ∙ z in
    not_three w.common k (word_in img k) (found_readable s least from ps k x.stand_apart inside) (ap (header_note w.common k) (sym r) ∙ n)
