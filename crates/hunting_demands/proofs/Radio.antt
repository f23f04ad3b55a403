-- NAMES THE DAMAGE AT ANY BIT, said of the bits received: an accepted utterance stands at any bit, up to 16 - T bits are flipped in each sync, at
-- most two in each header, and its packets are damaged as demand 3 says; no place before it and none behind it passes the test. Then, with demand 3's
-- premises (two multiframes, or an untouched only header where the caller asks for the old rule; one pair not bad), the hunting reader says of it all that demand 3 asks.
-- Assumes nothing.
use Rattle.std.specs.Prelude.{ℕ, ◌/◌, ◌≤◌, ◌<◌, ◌≡◌, List, Bool, length}
use Rattle.std.proofs.Common.{sym, ap, ◌∙◌, subst, inl, inr, ⊎_elim, arith}
use Rattle.std.specs.Int.Bits.{bit_xor}
use Rattle.std.specs.Int.Count.{ones}
use Rattle.layout.specs.Layout.{multiframe_pairs, most_multiframes}
use Rattle.choices.specs.declared.Choices.{Choices}
use Rattle.tables.specs.Tables.{Tables}
use Rattle.bits.specs.Bits.{bits}
use Rattle.carrier.specs.Carrier.{stream_packet}
use Rattle.crc.specs.Crc.{Damaged}
use Rattle.header.specs.Reading.{reading}
use Rattle.gathering.specs.Gathering.{Gathering, gathering}
use Rattle.image.specs.Made.{sync_in, word_in, packet_in}
use Rattle.image.proofs.Laws.{length_image}
use Rattle.writer.proofs.Laws.{few_multiframes}
use Rattle.image.proofs.Laws as I
use Rattle.writer.specs.Utterance.{Utterance, multiframes_of, pairs_of, image_of}
use Rattle.writer.proofs.Utterance.{is_accepted}
use Rattle.damage.specs.Damage.{Damage, header_flips, header_read_lem}
use Rattle.hunting_demands.specs.Standing.{place_in_row, row, passes_there, InARow, found_in_a_row, image_size, image_small, image_sync, image_word, image_stream}
use Rattle.hunting_demands.specs.AsRead.{Stands}
use Rattle.hunting_demands.specs.AsRead as A
use Rattle.hunting_demands.specs.HuntsBack.{received_flips}
use Rattle.hunting_demands.specs.Radio.{received_packet, together, Caught, OnAir}
use Rattle.hunting_demands.specs.Radio as Stated

-- put together they have whole syncs, and the headers and packets that stand there
module _ (u : Utterance) (s : List ℕ) (from at least : ℕ) (c : Caught u s from at least) where
  abbrev m : ℕ
  m = multiframes_of u

  pub together_size : length (together u s at) ≡ length (image_of u)
  together_size = image_size s at m c.inside ∙ sym (length_image u.settings u.indices m)

  pub together_syncs : (k : ℕ) → k < multiframes_of u → sync_in (together u s at) k ≡ sync_in (image_of u) k
  together_syncs k h = image_sync s at m c.inside k h ∙ sym (I.image_sync u.settings u.indices m k h)

  pub flips_there : (k : ℕ) → k < multiframes_of u → header_flips (image_of u) (together u s at) k ≡ received_flips u s at k
  flips_there k h = ap (λ (w : ℕ). ones (bit_xor w (word_in (image_of u) k))) (image_word s at m c.inside k h)

  pub flips_few : (k : ℕ) → k < multiframes_of u → header_flips (image_of u) (together u s at) k ≤ 2
  flips_few k h = subst (λ (n : ℕ). n ≤ 2) (sym (flips_there k h)) (c.headers k h)

  pub packet_there : (q : ℕ) → q < pairs_of u → packet_in (together u s at) q ≡ received_packet s at q
  packet_there q h = ap (λ (l : List Bool). stream_packet l q) (image_stream s at m c.inside (q / multiframe_pairs) (omega arith))

  in_a_row : InARow (bits s) from at least m
  in_a_row = record {
    begins = c.begins;
    inside = c.inside;
    stand = λ k h.
        passes_there least (bits s) (place_in_row at k) (c.syncs k h)
        (ap reading (sym (image_word s at m c.inside k h)) ∙ header_read_lem u (together u s at) k h (flips_few k h));
    none_before = c.none_before;
    none_behind = c.none_behind;
  }

  -- they are found, and no others
  pub found_on_air : (gathering (bits s) least most_multiframes from).places ≡ row at (multiframes_of u)
  found_on_air =
      ap (λ (g : Gathering). g.places)
      (found_in_a_row (bits s) from at least m in_a_row (omega arith) (few_multiframes u.settings u.indices (is_accepted u).sizes))

module _ (ch : Choices) (u : Utterance) (s : List ℕ) (from at least : ℕ) (o : OnAir u s from at least) where
  abbrev caught : Caught u s from at least
  caught = o.caught

  -- so they are the image with that damage
  pub on_air : Damage (multiframes_of u) (image_of u) (together u s at)
  on_air = record {
    size = together_size u s from at least caught;
    small = image_small s at (multiframes_of u) caught.inside;
    syncs = together_syncs u s from at least caught;
    headers = flips_few u s from at least caught;
    packets = λ q h.
        let e = sym (packet_there u s from at least caught q h) in
        ⊎_elim (λ x. inl (sym e ∙ x)) (λ x. inr (subst (Damaged (packet_in (image_of u) q)) e x)) (o.packets q h);
  }

  there : Stands (together u s at) (multiframes_of u) s at
  there = record {
    words = λ k h. sym (image_word s at (multiframes_of u) caught.inside k h);
    streams = λ k h. sym (image_stream s at (multiframes_of u) caught.inside k h);
  }

  module _ (tables : Tables) (index report : List ℕ) where
    abbrev Premises : Type 0
    Premises = Stated.Premises ch u s from at least o tables index report

    of_radio : Premises → A.Premises ch u (together u s at) s from at least tables index report
    of_radio p = record {
      of_image = record {
        damage = on_air;
        headers = ⊎_elim inl (λ e. inr (e.0, flips_there u s from at least caught 0 (omega arith) ∙ e.1)) p.settled;
        pair = p.pair;
        within = p.within;
        not_bad = p.not_bad;
        lent = p.lent;
      };
      there = there;
      begins = caught.begins;
      inside = caught.inside;
      syncs = caught.syncs;
      none_before = caught.none_before;
      none_behind = caught.none_behind;
      low = caught.low;
    }

    -- NAMES THE DAMAGE ON AIR
    pub names_on_air : Premises → A.Named ch u (together u s at) s from at least tables index report
    names_on_air p = A.names_at_any_bit ch u (together u s at) s from at least tables index report (of_radio p)
