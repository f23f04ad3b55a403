-- READ WHERE IT STANDS: whatever the octet reader says of octets cut in multiframes, damaged or not, the hunting reader says of them where their
-- headers and streams stand in a row at any bit, and adds the bits outside and the places tested; so demand 3 is kept at any bit.
-- Assumes nothing.
use Rattle.std.specs.Prelude.{ℕ, ◌+◌, ◌*◌, ◌≤◌, ◌<◌, ◌≡◌, refl, List, [], ◌∷◌, ◌++◌, Bool, false, length, take, Ok}
use Rattle.std.proofs.Common.{sym, ap, ap₂, ◌∙◌, subst, arith}
use Rattle.std.proofs.Math.Seq.{drop-append-add}
use Rattle.lists.specs.Parts.{part, part_left}
use Rattle.lists.specs.Rows.{same_joined}
use Rattle.layout.specs.Layout.{sync_octets, header_octets, stream_octets, multiframe_octets, most_multiframes, sync_first, sync_second}
use Rattle.choices.specs.declared.Choices.{Choices}
use Rattle.tables.specs.Tables.{Tables, RightTables}
use Rattle.bits.specs.Bits.{value, bits}
use Rattle.bits.proofs.Laws.{length_bits, bits_part}
use Rattle.header.specs.Reading.{reading}
use Rattle.hunt.specs.Hunt.{fewest_matches, sync_bits, header_bits, multiframe_bits, sync, matches, passes, searched}
use Rattle.reader.specs.Reading as R
use Rattle.reader.specs.declared.Summary.{Summary}
use Rattle.reader.specs.Types.{Answer}
use Rattle.gathering.specs.Gathering.{image_of as foundImage, outside_of}
use Rattle.hunting.specs.Hunting as G
use Rattle.hunting.specs.Hunting.{counted, hunting_reading}
use Rattle.hunting.specs.declared.Counted.{Counted}
use Rattle.image.specs.Made.{Small, sync_in, word_in, stream_in, framed, made_again}
use Rattle.image.proofs.Laws.{length_image, image_sync}
use Rattle.writer.proofs.Laws.{few_multiframes}
use Rattle.writer.specs.Utterance.{Utterance, multiframes_of, image_of}
use Rattle.writer.proofs.Utterance.{is_accepted}
use Rattle.damage.specs.Damage.{Damage, header_read_lem}
use Rattle.demands.specs.NamesTheDamage as N
use Rattle.demands.proofs.NamesTheDamageLaws as NL
use Rattle.hunting_demands.specs.Standing.{place_in_row, row, sync_at, word_at, stream_at, at_most_all, passes_there, InARow, tested_in_row, reads_in_a_row, image_made}

-- octets of m multiframes and nothing else, with any headers and any streams
pub record Multiframes (img : List ℕ) (m : ℕ) : Type 0 where
  pub size : length img ≡ multiframe_octets * m
  pub small : Small img
  pub syncs : (k : ℕ) → k < m → sync_in img k ≡ sync_first ∷ sync_second ∷ []

-- their headers and streams, one multiframe behind the other from bit `at` of s on
pub record Stands (img : List ℕ) (m : ℕ) (s : List ℕ) (at : ℕ) : Type 0 where
  pub words : (k : ℕ) → k < m → word_at (bits s) (place_in_row at k) ≡ word_in img k
  pub streams : (k : ℕ) → k < m → stream_at (bits s) (place_in_row at k) ≡ bits (stream_in img k)

module _ (img : List ℕ) (m : ℕ) (w : Multiframes img m) (s : List ℕ) (at : ℕ) (there : Stands img m s at) where
  -- put together they are those octets again
  pub put_together : at + multiframe_bits * m ≤ searched (bits s) → foundImage s (row at m) ≡ img
  put_together inside =
      image_made s at m inside
      ∙ same_joined (λ k. framed (word_at (bits s) (place_in_row at k)) (stream_at (bits s) (place_in_row at k))) (λ k. framed (word_in img k) (bits (stream_in img k))) m
      (λ k h. ap₂ framed (there.words k h) (there.streams k h))
      ∙ made_again img m w.size w.small w.syncs

  -- READ WHERE IT STANDS
  pub as_read : (ch : Choices) (from least : ℕ) (tables : Tables) (index report : List ℕ) → fewest_matches ≤ least → least ≤ sync_bits
      → RightTables tables → InARow (bits s) from at least m → 0 < m → m ≤ most_multiframes
      → hunting_reading ch s from least tables index report
      ≡ counted (R.reading ch img tables index report) (outside_of (bits s) from m) (tested_in_row (bits s) from at m)
  as_read ch from least tables index report low high right r some few =
      reads_in_a_row ch s from least tables index report low high right at m r some few
      ∙ ap (λ (x : List ℕ). counted (R.reading ch x tables index report) (outside_of (bits s) from m) (tested_in_row (bits s) from at m)) (put_together r.inside)

-- ---- octets that are only shifted, with any bits in front and behind, stand there with whole syncs
module _ (img : List ℕ) (m : ℕ) (w : Multiframes img m) (s : List ℕ) (front behind : List Bool) (same : bits s ≡ front ++ (bits img ++ behind)) where
  -- octets of img are bits of s
  bits_of : (i n t : ℕ) → i + n ≤ length img → t ≡ length front + 8 * i → part t (8 * n) (bits s) ≡ bits (part i n img)
  bits_of i n t le e =
      ap₂ (λ (j : ℕ) (l : List Bool). part j (8 * n) l) e same ∙ ap (take (8 * n)) (drop-append-add front (bits img ++ behind) (8 * i))
      ∙ part_left (bits img) behind (8 * i) (8 * n) (omega (arith, length_bits img)) ∙ sym (bits_part i n img le)

  pub shifted_syncs : (k : ℕ) → k < m → sync_at (bits s) (place_in_row (length front) k) ≡ sync
  shifted_syncs k h = bits_of (multiframe_octets * k) sync_octets (length front + multiframe_bits * k) (omega (arith, w.size)) (omega arith) ∙ ap bits (w.syncs k h)

  pub shifted_stands : Stands img m s (length front)
  shifted_stands = record {
    words = λ k h. ap value (bits_of (multiframe_octets * k + sync_octets) header_octets (length front + multiframe_bits * k + sync_bits) (omega (arith, w.size)) (omega arith));
    streams = λ k h. bits_of (multiframe_octets * k + sync_octets + header_octets) stream_octets (length front + multiframe_bits * k + sync_bits + header_bits) (omega (arith, w.size)) (omega arith);
  }

-- ---- NAMES THE DAMAGE AT ANY BIT (demand 3, for 02's C-13)
-- a damaged image is such octets
pub damaged_cut : (u : Utterance) (img : List ℕ) → Damage (multiframes_of u) (image_of u) img → Multiframes img (multiframes_of u)
damaged_cut u img d = record {
  size = d.size ∙ length_image u.settings u.indices (multiframes_of u);
  small = d.small;
  syncs = λ k h. d.syncs k h ∙ image_sync u.settings u.indices (multiframes_of u) k h;
}

module _ (ch : Choices) (u : Utterance) (img s : List ℕ) (from at least : ℕ) (tables : Tables) (index report : List ℕ) where
  pub record Premises : Type 0 where
    -- demand 3's, of the damaged image
    pub of_image : N.Premises ch u img tables index report
    -- which stands at bit `at`, but for its syncs
    pub there : Stands img (multiframes_of u) s at
    pub begins : from ≤ at
    pub inside : at + multiframe_bits * multiframes_of u ≤ searched (bits s)
    -- "at least T of the 16 bits match the sync"
    pub syncs : (k : ℕ) → k < multiframes_of u → least ≤ matches (sync_at (bits s) (place_in_row at k)) sync
    -- no match that could be taken instead, before it or behind
    pub none_before : (t : ℕ) → from ≤ t → t < at → passes least (bits s) t ≡ false
    pub none_behind : (t : ℕ) → at + multiframe_bits * multiframes_of u ≤ t → t + multiframe_bits ≤ searched (bits s) → passes least (bits s) t ≡ false
    -- "T is the caller's, 12 to 16"; the syncs say that it is at most 16
    pub low : fewest_matches ≤ least

  abbrev pub result : G.Outcome
  result = hunting_reading ch s from least tables index report

  -- what the octet reader says of the damaged image, demand 3's sentences, is what is said here, with the bits outside and the places tested
  pub record Named : Type 0 where
    pub given : Counted
    pub succeeds : result.answer ≡ Ok given
    pub names : N.Names u img tables given.summary result.index result.report
    pub outside : given.outside ≡ outside_of (bits s) from (multiframes_of u)
    pub tested : given.tested ≡ tested_in_row (bits s) from at (multiframes_of u)

  module _ (p : Premises) where
    abbrev d : Damage (multiframes_of u) (image_of u) img
    d = p.of_image.damage

    in_a_row : InARow (bits s) from at least (multiframes_of u)
    in_a_row = record {
      begins = p.begins;
      inside = p.inside;
      stand = λ k h.
          passes_there least (bits s) (place_in_row at k) (p.syncs k h)
          (ap reading (p.there.words k h) ∙ header_read_lem u img k h (d.headers k h));
      none_before = p.none_before;
      none_behind = p.none_behind;
    }

    -- the same as the octet reader says of the image
    pub read_there : result
        ≡ counted (R.reading ch img tables index report) (outside_of (bits s) from (multiframes_of u)) (tested_in_row (bits s) from at (multiframes_of u))
    read_there =
        as_read img (multiframes_of u) (damaged_cut u img d) s at p.there ch from least tables index report p.low
        (at_most_all (sync_at (bits s) (place_in_row at 0)) least (p.syncs 0 (omega arith)))
        p.of_image.lent.right_tables in_a_row (omega arith)
        (few_multiframes u.settings u.indices (is_accepted u).sizes)

    pub names_at_any_bit : Named
    names_at_any_bit =
        let n = NL.names_the_damage ch u img tables index report p.of_image in
        record {
          given = record { summary = n.given; outside = outside_of (bits s) from (multiframes_of u); tested = tested_in_row (bits s) from at (multiframes_of u) };
          succeeds = ap (λ (o : G.Outcome). o.answer) read_there
              ∙ ap (λ (a : Answer). G.with_counts a (outside_of (bits s) from (multiframes_of u)) (tested_in_row (bits s) from at (multiframes_of u))) n.succeeds;
          names = ap_names n.given (sym read_there) n.names;
          outside = refl;
          tested = refl;
        }
      where
        ap_names : (g : Summary) {o r : G.Outcome} → o ≡ r → N.Names u img tables g o.index o.report → N.Names u img tables g r.index r.report
        ap_names g e = subst (λ (x : G.Outcome). N.Names u img tables g x.index x.report) e
