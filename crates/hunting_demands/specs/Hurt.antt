-- Any utterance with any sixteen bits for each sync and any flips in each header, behind any bits and before any: what stands where in it, and
-- what is left to ask of it before HUNTS BACK speaks of it.
-- Assumes nothing.
use Rattle.std.specs.Prelude.{ℕ, ◌+◌, ◌-◌, ◌*◌, ◌^◌, ◌≤◌, ◌<◌, ◌≡◌, List, ◌++◌, Bool, true, length, Some, None}
use Rattle.std.proofs.Common.{sym, ap, ◌∙◌, subst, arith}
use Rattle.std.proofs.Math.Path.{ap₂}
use Rattle.std.specs.Int.Bits.{bit_xor}
use Rattle.std.proofs.lemmas.Nat.{xor_lt}
use Rattle.std.specs.Int.Count.{ones}
use Rattle.lists.specs.Parts.{part, part_left}
use Rattle.lists.specs.Rows.{joined}
use Rattle.layout.specs.Layout.{multiframe_pairs, stream_octets, most_multiframes, first_pair}
use Rattle.choices.specs.declared.Choices.{Choices}
use Rattle.tables.specs.Tables.{Tables}
use Rattle.bits.specs.Bits.{bits}
use Rattle.bits.proofs.Laws.{bits_octets}
use Rattle.packet.specs.Packet.{stream}
use Rattle.packet.proofs.Laws.{length_stream}
use Rattle.header_code.specs.Code.{codeword, flips_to}
use Rattle.header_code.specs.Code.Distance.{codeword_lt}
use Rattle.message.specs.Message.Laws.{message_lt}
use Rattle.header.specs.Reading.{decoded_as, reading}
use Rattle.header.proofs.Laws.{near, flips_of, three_lost}
use Rattle.hunt.specs.Hunt.{sync_bits, header_bits, multiframe_bits, sync, matches, passes, searched}
use Rattle.hunt.proofs.Laws.{searched_all}
use Rattle.image.specs.Made.{stream_in}
use Rattle.image.proofs.Laws.{image_word, image_stream}
use Rattle.writer.proofs.Laws.{few_multiframes}
use Rattle.writer.specs.Utterance.{Utterance, multiframes_of, image_of}
use Rattle.writer.proofs.Utterance.{is_accepted}
use Rattle.damage.specs.Damage.{sent_message}
use Rattle.hunting_demands.specs.Standing.{place_in_row, sync_at, word_at, stream_at, passes_there}
use Rattle.hunting_demands.specs.Laid.{laid_multiframe, laid_octets, Sizes, bits_laid, size_laid, laid_behind, laid_sync, laid_word, laid_stream}
use Rattle.hunting_demands.specs.HuntsBack.{received_flips, Premise, Begins, Inside, Syncs, Headers, Streams, NoneBefore, NoneBehind, Low, Settled, TablesAndRoom, Holds}

module _ (u : Utterance) (front : List Bool) (y : ℕ → List Bool) (flips : ℕ → ℕ) (behind : List Bool) (n : ℕ) where
  abbrev pub hurt_word : ℕ → ℕ
  hurt_word k = bit_xor (codeword (sent_message u k)) (flips k)

  abbrev pub kept_stream : ℕ → List Bool
  kept_stream k = stream u.indices (first_pair k) multiframe_pairs

  abbrev pub hurt : List ℕ
  hurt = laid_octets front y hurt_word kept_stream (multiframes_of u) behind n

  pub record Fits : Type 0 where
    pub syncs : (k : ℕ) → length (y k) ≡ sync_bits
    pub headers : (k : ℕ) → flips k < 2 ^ header_bits
    pub around : length front + length behind ≡ 8 * n
    pub few : n ≤ 2 ^ 32

  module _ (f : Fits) where
    abbrev m : ℕ
    m = multiframes_of u

    abbrev at : ℕ
    at = length front

    abbrev l : List Bool
    l = bits hurt

    sizes : Sizes front y hurt_word kept_stream m behind n
    sizes = record {
      syncs = f.syncs;
      words = λ k. xor_lt header_bits (codeword (sent_message u k)) (flips k) (codeword_lt (sent_message u k) (message_lt u.settings (k + 1) 0)) (f.headers k);
      streams = λ k. length_stream u.indices (first_pair k) multiframe_pairs;
      around = f.around;
    }

    pub searched_are : searched (bits hurt) ≡ 8 * n + multiframe_bits * multiframes_of u
    searched_are =
        let size : length l ≡ 8 * n + multiframe_bits * m = size_laid front y hurt_word kept_stream m behind n sizes in
        let few : m ≤ most_multiframes = few_multiframes u.settings u.indices (is_accepted u).sizes in
        searched_all l (omega (arith, f.few)) ∙ size

    pub front_there : (a v : ℕ) → a + v ≤ length front → part a v (bits hurt) ≡ part a v front
    front_there a v h =
        ap (part a v) (bits_laid front y hurt_word kept_stream m behind n sizes)
        ∙ part_left front (joined (λ k. laid_multiframe (y k) (hurt_word k) (kept_stream k)) m ++ behind) a v h

    pub behind_there : (t v : ℕ) → length front + multiframe_bits * multiframes_of u ≤ t
        → part t v (bits hurt) ≡ part (t - (length front + multiframe_bits * multiframes_of u)) v behind
    behind_there = laid_behind front y hurt_word kept_stream m behind n sizes

    module _ (k : ℕ) (h : k < multiframes_of u) where
      pub sync_there : sync_at (bits hurt) (place_in_row (length front) k) ≡ y k
      sync_there = laid_sync front y hurt_word kept_stream m behind n sizes k h

      word_there : word_at l (place_in_row at k) ≡ hurt_word k
      word_there = laid_word front y hurt_word kept_stream m behind n sizes k h

      pub stream_there : stream_at (bits hurt) (place_in_row (length front) k) ≡ bits (stream_in (image_of u) k)
      stream_there =
          laid_stream front y hurt_word kept_stream m behind n sizes k h
          ∙ sym (ap bits (image_stream u.settings u.indices m k h) ∙ bits_octets stream_octets (kept_stream k) (length_stream u.indices (first_pair k) multiframe_pairs))

      pub flips_there : received_flips u hurt (length front) k ≡ ones (flips k)
      unfolding flips_to
      flips_there =
          ap₂ (λ (a b : ℕ). ones (bit_xor a b)) word_there (image_word u.settings u.indices m k h) ∙ flips_of (sent_message u k) (flips k)

      pub near_there : flips_to (word_at (bits hurt) (place_in_row (length front) k)) (sent_message u k) ≡ ones (flips k)
      near_there = ap (λ (w : ℕ). flips_to w (sent_message u k)) word_there ∙ flips_of (sent_message u k) (flips k)

      pub mended_there : ones (flips k) ≤ 2
          → reading (word_at (bits hurt) (place_in_row (length front) k)) ≡ Some (decoded_as (word_at (bits hurt) (place_in_row (length front) k)) (sent_message u k))
      mended_there le = near (word_at l (place_in_row at k)) (sent_message u k) (message_lt u.settings (k + 1) 0) (omega (arith, near_there))

      pub lost_there : ones (flips k) ≡ 3 → reading (word_at (bits hurt) (place_in_row (length front) k)) ≡ None
      lost_there e = ap reading word_there ∙ three_lost (sent_message u k) (flips k) (message_lt u.settings (k + 1) 0) e

      pub match_there : (least : ℕ) → least ≤ matches (y k) sync → least ≤ matches (sync_at (bits hurt) (place_in_row (length front) k)) sync
      match_there least = subst (λ (x : List Bool). least ≤ matches x sync) (sym sync_there)

      pub passes_hurt : (least : ℕ) → least ≤ matches (y k) sync → ones (flips k) ≤ 2 → passes least (bits hurt) (place_in_row (length front) k) ≡ true
      passes_hurt least match le = passes_there least l (place_in_row at k) (match_there least match) (mended_there le)

    pub inside_there : length front + multiframe_bits * multiframes_of u ≤ searched (bits hurt)
    inside_there = omega (arith, searched_are, f.around)

    module _ (from least : ℕ) (tables : Tables) (index report : List ℕ) where
      abbrev Hurt : (ch : Choices) → Premise → Type 0
      Hurt ch p = Holds ch u hurt from (length front) least tables index report p

      -- the premises hold there, if these do
      pub hurt_hold : (ch : Choices) → Hurt ch Begins → Hurt ch Syncs → Hurt ch Headers → Hurt ch NoneBefore → Hurt ch NoneBehind → Hurt ch Low → Hurt ch Settled → Hurt ch TablesAndRoom → (p : Premise) → Hurt ch p
      hurt_hold ch begins syncs headers none_before none_behind low settled lent Begins = begins
      hurt_hold ch begins syncs headers none_before none_behind low settled lent Inside = inside_there
      hurt_hold ch begins syncs headers none_before none_behind low settled lent Syncs = syncs
      hurt_hold ch begins syncs headers none_before none_behind low settled lent Headers = headers
      hurt_hold ch begins syncs headers none_before none_behind low settled lent Streams = stream_there
      hurt_hold ch begins syncs headers none_before none_behind low settled lent NoneBefore = none_before
      hurt_hold ch begins syncs headers none_before none_behind low settled lent NoneBehind = none_behind
      hurt_hold ch begins syncs headers none_before none_behind low settled lent Low = low
      hurt_hold ch begins syncs headers none_before none_behind low settled lent Settled = settled
      hurt_hold ch begins syncs headers none_before none_behind low settled lent TablesAndRoom = lent
