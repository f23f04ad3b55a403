-- A CALLER'S CHOICE AT ITS EDGES: each law of Chosen used where it only just holds, so that a law which asked for more would be noticed. 2 is the first
-- number that is no choice, six numbers and eight are room enough, no buffer is needed to be refused, and two multiframes are enough to be read alike.
-- Assumes nothing.
use Rattle.std.specs.Prelude.{◌≡◌, [], length}
use Rattle.std.proofs.Common.{ap, ◌∙◌, arith, lit≤}
use Rattle.tables.specs.Tables.{zero_tables}
use Rattle.cutting.specs.Cutting.{Cutting, whole, cutting}
use Rattle.cutting.proofs.Laws.{every_length}
use Rattle.cutting.proofs.ReachedLaws.{whole_exactly}
use Rattle.image.proofs.Laws.{length_image, image_sync}
use Rattle.writer.proofs.Laws.{few_multiframes}
use Rattle.writer.specs.Utterance.{Utterance, multiframes_of, image_of}
use Rattle.writer.proofs.Utterance.{is_accepted}
use Rattle.reader.specs.RefusalLaws.{CutUp}
use Rattle.demands.specs.Whole.{row_of}
use Rattle.demands.proofs.WholeLaws.{cut_is}
use Rattle.damage.specs.Instances.{says1}
use Rattle.demands_met.specs.Met.{says24, two_multiframes}
use Rattle.demands_met.proofs.MetLaws.{lent_zeros}
use Rattle.dsr_demands.specs.Met.{six, eight}
use Rattle.dsr_demands.proofs.Chosen.{c_other_number, c_bits_other_number, c_one_refused, c_two_alike}
use Rattle.dsr_demands.specs.Edges.{Edges}

-- ---- an image as it was written is cut up to its end, into its multiframes
module _ (u : Utterance) where
  cut : cutting (image_of u) ≡ record { places = row_of (multiframes_of u); ending = whole }
  cut =
      cut_is (image_of u) (multiframes_of u) (few_multiframes u.settings u.indices (is_accepted u).sizes) (length_image u.settings u.indices (multiframes_of u))
      (λ k h. image_sync u.settings u.indices (multiframes_of u) k h)

  count : length (cutting (image_of u)).places ≡ multiframes_of u
  count = ap (λ (w : Cutting). length w.places) cut ∙ every_length 0 (multiframes_of u)

  up : CutUp (image_of u) zero_tables
  up = ((lent_zeros 1).right_tables, (whole_exactly (image_of u)).0 (ap (λ (w : Cutting). w.ending) cut))

pub edges : Edges
edges = record {
  number_2 = c_other_number [] zero_tables [] [] six 5 2 (lit≤ tt) (lit≤ tt);
  bits_number_2 = c_bits_other_number [] zero_tables [] [] eight 5 0 16 2 (lit≤ tt) (lit≤ tt);
  one = c_one_refused (image_of says1) zero_tables [] [] six 5 (lit≤ tt) (up says1) (count says1);
  two = λ tables index report answer place. c_two_alike (image_of says24) tables index report answer place (omega (arith, count says24, two_multiframes));
}
