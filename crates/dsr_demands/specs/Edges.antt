-- A CALLER'S CHOICE AT ITS EDGES: each law of Chosen used where it only just holds, so that a law which asked for more would be noticed. 2 is the first
-- number that is no choice, six numbers and eight are room enough, no buffer is needed to be refused, and two multiframes are enough to be read alike.
-- Assumes nothing.
use Rattle.std.specs.Prelude.{◌≡◌, List, [], ℕ}
use Rattle.choices.specs.Choices.{asked}
use Rattle.tables.specs.Tables.{Tables, zero_tables}
use Rattle.writer.specs.Utterance.{image_of}
use Rattle.damage.specs.Instances.{says1}
use Rattle.demands_met.specs.Met.{says24}
use Rattle.entries.specs.Entries.{dsr_read}
use Rattle.entries.specs.Bits.{dsr_read_bits}
use Rattle.dsr_demands.specs.Met.{six, eight}

pub record Edges : Type 0 where
  pub number_2 : dsr_read [] (asked 2) zero_tables [] [] six 5 ≡ record { number = 96; index = []; report = []; answer = six; place = 5 }
  pub bits_number_2 : dsr_read_bits [] 0 16 (asked 2) zero_tables [] [] eight 5 ≡ record { number = 96; index = []; report = []; answer = eight; place = 5 }
  pub one : dsr_read (image_of says1) (asked 0) zero_tables [] [] six 5 ≡ record { number = 16; index = []; report = []; answer = six; place = 0 }
  pub two : (tables : Tables) (index report answer : List ℕ) (place : ℕ)
      → dsr_read (image_of says24) (asked 0) tables index report answer place ≡ dsr_read (image_of says24) (asked 1) tables index report answer place
