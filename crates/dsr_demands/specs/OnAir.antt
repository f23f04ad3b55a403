-- AT ANY BIT: reading back, names-the-damage, trusted and never-misled at dsr_read_bits, for an utterance received at any bit with at most two flips in
-- EVERY header and up to 16 - T in each sync, if no place before it and none behind it passes the test: a multiframe whose header is lost is not
-- found there, so the wider limits of the octet reader do not hold (`Missed` in hunting_demands shows it where one header is asked to settle). In the numbers, octets and buffers that a caller
-- in C has.
-- Assumes nothing.
use Rattle.std.specs.Prelude.{◌≡◌, List, ℕ, ◌*◌, ◌≤◌, ◌<◌, length, get_or, drop, Some}
use Rattle.hunting_demands.specs.HuntsBack.{received_flips}
use Rattle.image.specs.Made.{packet_in}
use Rattle.layout.specs.Layout.{index_octets, report_octets}
use Rattle.choices.specs.declared.Choices.{Choices}
use Rattle.tables.specs.Tables.{Tables}
use Rattle.bits.specs.Bits.{bits}
use Rattle.gathering.specs.Gathering.{outside_of}
use Rattle.wrong_frames.specs.WrongFrames.{frame_count}
use Rattle.writer.specs.Utterance.{Utterance, multiframes_of, image_of, pairs_of}
use Rattle.entries.specs.Entries.{Returned}
use Rattle.entries.specs.Bits.{counted_numbers, dsr_read_bits}
use Rattle.damage.specs.Damage.{header_flips}
use Rattle.hunting_demands.specs.Standing.{tested_in_row}
use Rattle.hunting_demands.specs.Radio.{together, received_packet}

module _ (u : Utterance) (s : List ℕ) (from at least : ℕ) (tables : Tables) (index report answer : List ℕ) (place : ℕ) where
  abbrev c : (ch : Choices) → Returned
  c ch = dsr_read_bits s from least (Some ch) tables index report answer place

  -- the bits outside, the places tested, and the place as it came
  pub record Counts (ch : Choices) : Type 0 where
    pub outside : get_or (c ch).answer 6 0 ≡ outside_of (bits s) from (multiframes_of u)
    pub tested : get_or (c ch).answer 7 0 ≡ tested_in_row (bits s) from at (multiframes_of u)
    pub place_stays : (c ch).place ≡ place

  -- what was put together is what stood there: each packet and each header's flips are those of the bits received
  pub record Stood : Type 0 where
    pub packets : (q : ℕ) → q < pairs_of u → packet_in (together u s at) q ≡ received_packet s at q
    pub headers : (k : ℕ) → k < multiframes_of u → header_flips (image_of u) (together u s at) k ≡ received_flips u s at k

  -- what a caller hears of all of an utterance
  pub record HearsAll (ch : Choices) : Type 0 where
    pub success : (c ch).number ≡ 0
    pub rate : get_or (c ch).answer 0 0 ≡ u.settings.rate
    pub kind : get_or (c ch).answer 1 0 ≡ u.settings.kind
    pub multiframes : get_or (c ch).answer 2 0 ≡ multiframes_of u
    pub speech : get_or (c ch).answer 3 0 ≡ frame_count u.indices
    pub bad : get_or (c ch).answer 4 0 ≡ 0
    pub end : get_or (c ch).answer 5 0 ≡ 1
    pub frames : (i : ℕ) → i < length u.indices → get_or (c ch).index i 0 ≡ get_or u.indices i 0
    pub padding : (i : ℕ) → length u.indices ≤ i → i < index_octets * multiframes_of u → get_or (c ch).index i 0 ≡ 0

-- WHAT STAYS of any input that dsr_read_bits answers with 0: octets beyond both parts, numbers beyond the eight, and the place
module _ (ch : Choices) (s : List ℕ) (from least : ℕ) (tables : Tables) (index report answer : List ℕ) (place : ℕ) where
  abbrev gives : Returned
  gives = dsr_read_bits s from least (Some ch) tables index report answer place

  pub record BitsStay : Type 0 where
    pub index_beyond : drop (index_octets * get_or gives.answer 2 0) gives.index ≡ drop (index_octets * get_or gives.answer 2 0) index
    pub report_beyond : drop (report_octets * get_or gives.answer 2 0) gives.report ≡ drop (report_octets * get_or gives.answer 2 0) report
    pub answer_beyond : drop counted_numbers gives.answer ≡ drop counted_numbers answer
    pub place_stays : gives.place ≡ place
