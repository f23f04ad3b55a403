-- What two headers of damaged octets agree in is what was sent, unless two of them have four flips or more each.
-- Assumes nothing.
use Rattle.std.specs.Prelude.{ℕ, ◌*◌, ◌≤◌, ◌<◌, ◌≡◌, List, [], length}
use Rattle.std.proofs.Common.{ap, ◌∙◌, arith}
use Rattle.std.proofs.Math.Path.{sym}
use Rattle.layout.specs.Layout.{multiframe_octets, sync}
use Rattle.choices.specs.declared.Choices.{Choices}
use Rattle.cutting.specs.Cutting.{whole, Cutting, cutting}
use Rattle.cutting.proofs.Laws.{every_length}
use Rattle.header_readings.specs.Readings.{readings}
use Rattle.settling.specs.Settling.{first_agreeing, settling}
use Rattle.header_readings.specs.Laws.{length_readings}
use Rattle.settling.proofs.Laws.{two_or_more}
use Rattle.image.specs.Made.{sync_in}
use Rattle.writer.specs.Utterance.{Utterance, multiframes_of, image_of}
use Rattle.writer.proofs.Utterance.{is_accepted}
use Rattle.writer.proofs.Laws.{few_multiframes}
use Rattle.damage.specs.Damage.{header_flips}
use Rattle.demands.specs.Headers.{sent_common}
use Rattle.demands.proofs.HeadersLaws.{settles_nothing_else}
use Rattle.demands.specs.Whole.{row_of}
use Rattle.demands.proofs.WholeLaws.{cut_is}
use Rattle.until_settled.specs.Laws.{headers, Agreed}

module _ (ch : Choices) (u : Utterance) (s : List ℕ) (two : 2 ≤ multiframes_of u) (size : length s ≡ multiframe_octets * multiframes_of u)
    (syncs : (k : ℕ) → k < multiframes_of u → sync_in s k ≡ sync) (j : ℕ)
    (others : (k : ℕ) → k < multiframes_of u → (k ≡ j → ⊥) → header_flips (image_of u) s k ≤ 3) where
  pub cut_so : cutting s ≡ record { places = row_of (multiframes_of u); ending = whole }
  cut_so = cut_is s (multiframes_of u) (few_multiframes u.settings u.indices (is_accepted u).sizes) size syncs

  places_are : (cutting s).places ≡ row_of (multiframes_of u)
  places_are = ap (λ (w : Cutting). w.places) cut_so

  pub count : length (cutting s).places ≡ multiframes_of u
  count = ap length places_are ∙ every_length 0 (multiframes_of u)

  pub settled_so : settling ch (headers s) ≡ first_agreeing [] (headers s)
  settled_so = two_or_more ch (headers s) (omega (arith, length_readings s (cutting s).places, count))

  -- what two headers agree in is what was sent
  pub agreed_sent : (c : ℕ) → Agreed s c → c ≡ sent_common u
  agreed_sent c a = settles_nothing_else u s j others ch c two (ap (λ (ps : List ℕ). settling ch (readings s ps)) (sym places_are) ∙ settled_so ∙ a)
