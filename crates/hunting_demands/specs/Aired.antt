-- What the utterances that meet the premises of NAMES THE DAMAGE ON AIR (proofs/Aired) are carried in: at bit 3, with four flips in every sync, two in
-- every header, a burst in the first packet of every multiframe and two flips at distance 14 in the second.
-- Assumes nothing.
use Rattle.std.specs.Prelude.{ℕ, List}
use Rattle.writer.specs.Utterance.{Utterance, multiframes_of}
use Rattle.demands_met.specs.Met.{hurt_word, hurt_stream}
use Rattle.hunting_demands.specs.Laid.{laid_octets}
use Rattle.hunting_demands.specs.Met.{worst_sync, three_zeros, many_zeros}

module _ (u : Utterance) where
  abbrev pub aired : List ℕ
  aired = laid_octets three_zeros (λ k. worst_sync) (hurt_word u) (hurt_stream u) (multiframes_of u) many_zeros 151
