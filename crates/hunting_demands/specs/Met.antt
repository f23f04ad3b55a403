-- What the utterances that meet the premises of HUNTS BACK (proofs/MetLaws) are carried in: at bit 3, with four flips in every sync, two in every header, and
-- zeros in front and behind; and undamaged, at bit 3.
-- Assumes nothing.
use Rattle.std.specs.Prelude.{ℕ, ◌+◌, ◌*◌, List, ◌++◌, Bool, false, replicate}
use Rattle.layout.specs.Layout.{multiframe_octets}
use Rattle.bits.specs.Bits.{bits, octets}
use Rattle.crc.specs.Crc.{flip}
use Rattle.hunt.specs.Hunt.{sync}
use Rattle.writer.specs.Utterance.{Utterance, multiframes_of, image_of}
use Rattle.demands_met.specs.Met.{index_for, report_for, says24}
use Rattle.hunting_demands.specs.Hurt as H

-- a sync with as many flips as T = 12 allows
abbrev pub worst_sync : List Bool
worst_sync = flip (flip (flip (flip sync 0) 5) 10) 15

abbrev pub three_zeros : List Bool
three_zeros = replicate 3 false

-- ---- an utterance so carried
abbrev pub many_zeros : List Bool
many_zeros = replicate 1205 false

module _ (u : Utterance) where
  abbrev pub carried_octets : List ℕ
  carried_octets = H.hurt u three_zeros (λ k. worst_sync) (λ k. 3) many_zeros 151

-- ---- what is lent for one
abbrev pub index24 : List ℕ
index24 = index_for (multiframes_of says24)

abbrev pub report24 : List ℕ
report24 = report_for (multiframes_of says24)

-- ---- THE SHIFTED IMAGE: every utterance's, behind three zeros and before five
abbrev pub five_zeros : List Bool
five_zeros = replicate 5 false

module _ (u : Utterance) where
  abbrev pub shifted_octets : List ℕ
  shifted_octets = octets (1 + multiframe_octets * multiframes_of u) (three_zeros ++ (bits (image_of u) ++ five_zeros))
