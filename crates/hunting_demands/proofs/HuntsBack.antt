-- HUNTS BACK (demand 2's reading back, for 02's C-13). A written image standing at any bit of octets, behind bits in which no place passes the
-- test and followed by any in which none does, its syncs damaged as far as the test allows and its headers by at most two flips each, is found
-- and read with the same settings, frames and count, and each header's note is the number of bits flipped there: of two multiframes or more, or of one
-- whose header is untouched where the caller asks for the old rule (02, C-20). By default one multiframe is refused.
-- Assumes nothing.
use Rattle.std.specs.Prelude.{ℕ, ◌*◌, ◌/◌, ◌≤◌, ◌<◌, ◌≡◌, refl, List, ◌∷◌, Bool, true, false, length, replicate, Err}
use Rattle.std.proofs.Common.{sym, ap, ◌∙◌, subst, inl, inr, ⊎_elim, arith, lit<}
use Rattle.std.specs.Int.Bits.{bit_xor, xor_self}
use Rattle.std.specs.Int.Count.{ones}
use Rattle.std.proofs.lemmas.Nat.{ones-le}
use Rattle.lists.specs.Tests.{true_false}
use Rattle.lists.specs.Parts.{over}
use Rattle.lists.specs.Rows.{same_joined}
use Rattle.layout.specs.Layout.{multiframe_pairs, most_multiframes, index_octets, report_octets}
use Rattle.choices.specs.Choices.{one_settles}
use Rattle.choices.specs.declared.Choices.{Choices}
use Rattle.tables.specs.Tables.{Tables}
use Rattle.bits.specs.Bits.{bits}
use Rattle.carrier.specs.Carrier.{stream_packet}
use Rattle.header.specs.Reading.{reading}
use Rattle.hunt.specs.Hunt.{fewest_matches, sync_bits, sync, matches, passes}
use Rattle.reader.specs.Reading as R
use Rattle.gathering.specs.Gathering.{image_of as foundImage, outside_of}
use Rattle.hunting.specs.Hunting as G
use Rattle.hunting.specs.Hunting.{counted, outcome, hunting_reading}
use Rattle.refusals.specs.declared.Reading.TheVariants.{Unsettled}
use Rattle.refusals.specs.declared.Hunting.TheVariants.{Octets}
use Rattle.image.specs.Made.{word_in, packet_in}
use Rattle.image.proofs.Laws.{length_image}
use Rattle.settling.specs.Laws.{Enough}
use Rattle.writer.proofs.Laws.{few_multiframes}
use Rattle.image.proofs.Laws as I
use Rattle.writer.specs.Utterance.{Utterance, multiframes_of, pairs_of, image_of}
use Rattle.writer.proofs.Utterance.{is_accepted}
use Rattle.demands.specs.Headers.{CanSettle}
use Rattle.demands.proofs.HeadersLaws.{can_settle}
use Rattle.damage.specs.Damage.{Damage, header_flips, header_read_lem}
use Rattle.damage.proofs.Damages.{unharmed}
use Rattle.demands_met.proofs.NeededLaws.{default_unsettled}
use Rattle.demands.specs.Whole.{Lent}
use Rattle.demands.specs.ReadsBack.{padded}
use Rattle.demands.proofs.ReadsBackLaws.{reads_mended}
use Rattle.hunting_demands.specs.Standing.{place_in_row, row, all_match, at_most_all, passes_there, InARow, tested_in_row, reads_in_a_row, sync_at, image_size, image_small, image_sync, image_word, image_stream}
use Rattle.hunting_demands.specs.AsRead.{Multiframes, Stands, shifted_syncs, shifted_stands, damaged_cut}
use Rattle.hunting_demands.specs.HuntsBack.{received_flips, Premise, Begins, Inside, Syncs, Headers, Streams, NoneBefore, NoneBehind, Low, Settled, TablesAndRoom}
use Rattle.hunting_demands.specs.HuntsBack as Stated

abbrev is_settled : Premise → Bool
is_settled Begins = false
is_settled Inside = false
is_settled Syncs = false
is_settled Headers = false
is_settled Streams = false
is_settled NoneBefore = false
is_settled NoneBehind = false
is_settled Low = false
is_settled Settled = true
is_settled TablesAndRoom = false

-- a written image standing at bit `at` of octets searched from bit `from` on, where a sync must match in `least` bits
module _ (ch : Choices) (u : Utterance) (s : List ℕ) (from at least : ℕ) (tables : Tables) (index report : List ℕ) where
  abbrev Holds : Premise → Type 0
  Holds = Stated.Holds ch u s from at least tables index report

  abbrev Premises : Type 0
  Premises = Stated.Premises ch u s from at least tables index report

  abbrev heard : (ℕ → ℕ) → G.Outcome
  heard = Stated.heard ch u s from at least tables index report

  module _ (inside : Holds Inside) (headers : Holds Headers) (streams : Holds Streams) where
    abbrev m : ℕ
    m = multiframes_of u

    -- the multiframes found, put together
    abbrev got : List ℕ
    got = foundImage s (row at m)

    flips_are : (k : ℕ) → k < m → header_flips (image_of u) got k ≡ received_flips u s at k
    flips_are k h = ap (λ (w : ℕ). ones (bit_xor w (word_in (image_of u) k))) (image_word s at m inside k h)

    packets_kept : (q : ℕ) → q < pairs_of u → packet_in got q ≡ packet_in (image_of u) q
    packets_kept q h =
        let k : q / multiframe_pairs < m = omega arith in
        ap (λ (l : List Bool). stream_packet l q) (image_stream s at m inside (q / multiframe_pairs) k ∙ streams (q / multiframe_pairs) k)

    -- they are the image with damaged headers
    pub damage : Damage m (image_of u) got
    damage = record {
      size = image_size s at m inside ∙ sym (length_image u.settings u.indices m);
      small = image_small s at m inside;
      syncs = λ k h. image_sync s at m inside k h ∙ sym (I.image_sync u.settings u.indices m k h);
      headers = λ k h. subst (λ (n : ℕ). n ≤ 2) (sym (flips_are k h)) (headers k h);
      packets = λ q h. inl (packets_kept q h);
    }

    -- and each passes the test
    stands : Holds Syncs → (k : ℕ) → k < m → passes least (bits s) (place_in_row at k) ≡ true
    stands syncs k h =
        passes_there least (bits s) (place_in_row at k) (syncs k h)
        (ap reading (sym (image_word s at m inside k h)) ∙ header_read_lem u got k h (damage.headers k h))

    pub in_a_row : Holds Begins → Holds Syncs → Holds NoneBefore → Holds NoneBehind → InARow (bits s) from at least m
    in_a_row begins syncs before behind =
        record { begins = begins; inside = inside; stand = stands syncs; none_before = before; none_behind = behind }

  -- ---- the theorem
  pub same_notes : (f g : ℕ → ℕ) → ((k : ℕ) → k < multiframes_of u → f k ≡ g k) → heard f ≡ heard g
  same_notes f g e =
      ap
      (λ (l : List ℕ). outcome (heard f).answer (over index 0 (index_octets * multiframes_of u) (padded u)) (over report 0 (report_octets * multiframes_of u) l))
      (same_joined (λ k. f k ∷ replicate multiframe_pairs 0) (λ k. g k ∷ replicate multiframe_pairs 0) (multiframes_of u)
      (λ k h. ap (λ (x : ℕ). x ∷ replicate multiframe_pairs 0) (e k h)))

  pub hunts_back : Premises → hunting_reading ch s from least tables index report ≡ heard (received_flips u s at)
  hunts_back p =
      let n = multiframes_of u in
      let g = foundImage s (row at n) in
      let few : n ≤ most_multiframes = few_multiframes u.settings u.indices (is_accepted u).sizes in
      let headers : CanSettle ch n (header_flips (image_of u) g 0) = ⊎_elim inl (λ e. inr (e.0, flips_are (p Inside) (p Headers) (p Streams) 0 (omega arith) ∙ e.1)) (p Settled) in
      reads_in_a_row ch s from least tables index report (p Low) (at_most_all (sync_at (bits s) (place_in_row at 0)) least (p Syncs 0 (omega arith))) (p TablesAndRoom).right_tables at n
      (in_a_row (p Inside) (p Headers) (p Streams) (p Begins) (p Syncs) (p NoneBefore) (p NoneBehind)) (omega arith) few
      ∙ ap (λ (o : R.Outcome). counted o (outside_of (bits s) from n) (tested_in_row (bits s) from at n))
      (reads_mended ch u g (damage (p Inside) (p Headers) (p Streams)) (packets_kept (p Inside) (p Headers) (p Streams)) headers tables index report (p TablesAndRoom))
      ∙ same_notes (header_flips (image_of u) g) (received_flips u s at) (flips_are (p Inside) (p Headers) (p Streams))

  -- BY DEFAULT ONE MULTIFRAME, wherever it stands, touched or not, settles nothing: 16 (02, C-20)
  pub one_refused : one_settles ch ≡ false → multiframes_of u ≡ 1 → ((q : Premise) → (q ≡ Settled → ⊥) → Holds q)
      → hunting_reading ch s from least tables index report ≡ outcome (Err (Octets Unsettled)) index report
  one_refused default one p =
      let n = multiframes_of u in
      let g = foundImage s (row at n) in
      let few : n ≤ most_multiframes = few_multiframes u.settings u.indices (is_accepted u).sizes in
      let syncs = p Syncs (apart Syncs refl) in
      let headers = p Headers (apart Headers refl) in
      let inside = p Inside (apart Inside refl) in
      let streams = p Streams (apart Streams refl) in
      let lent = p TablesAndRoom (apart TablesAndRoom refl) in
      reads_in_a_row ch s from least tables index report (p Low (apart Low refl)) (at_most_all (sync_at (bits s) (place_in_row at 0)) least (syncs 0 (omega arith))) lent.right_tables at n
      (in_a_row inside headers streams (p Begins (apart Begins refl)) syncs (p NoneBefore (apart NoneBefore refl)) (p NoneBehind (apart NoneBehind refl))) (omega arith) few
      ∙ ap (λ (o : R.Outcome). counted o (outside_of (bits s) from n) (tested_in_row (bits s) from at n))
      (default_unsettled ch u g (damage inside headers streams) tables index report lent default one)
    where
      apart : (q : Premise) → is_settled q ≡ false → q ≡ Settled → ⊥
      apart q f e = true_false (sym (ap is_settled e) ∙ f)

-- ---- an image that is only shifted: any bits in front of it and behind, and nothing damaged
module _ (ch : Choices) (u : Utterance) (s : List ℕ) (from least : ℕ) (front behind : List Bool) where
  abbrev Shifted : Type 0
  Shifted = Stated.Shifted ch u s from least front behind

  module _ (h : Shifted) where
    abbrev img : List ℕ
    img = image_of u

    cut : Multiframes img (multiframes_of u)
    cut = damaged_cut u img (unharmed u)

    there : Stands img (multiframes_of u) s (length front)
    there = shifted_stands img (multiframes_of u) cut s front behind h.same

    pub no_flips : (k : ℕ) → k < multiframes_of u → received_flips u s (length front) k ≡ 0
    no_flips k l =
        ap (λ (x : ℕ). ones (bit_xor x (word_in img k))) (there.words k l) ∙ ap ones (xor_self (word_in img k)) ∙ omega (arith, ones-le 0 0 (lit< tt))

    module _ (sent : Enough ch (multiframes_of u)) (tables : Tables) (index report : List ℕ) (low : fewest_matches ≤ least) (high : least ≤ sync_bits)
        (lent : Lent (multiframes_of u) tables index report) where
      pub shifted_hold : Premises ch u s from (length front) least tables index report
      shifted_hold Begins = h.begins
      shifted_hold Inside = h.inside
      shifted_hold Syncs = λ k l.
          subst (λ (n : ℕ). least ≤ n) (sym (ap (λ (x : List Bool). matches x sync) (shifted_syncs img (multiframes_of u) cut s front behind h.same k l) ∙ all_match)) high
      shifted_hold Headers = λ k l. omega (arith, no_flips k l)
      shifted_hold Streams = there.streams
      shifted_hold NoneBefore = h.none_before
      shifted_hold NoneBehind = h.none_behind
      shifted_hold Low = low
      shifted_hold Settled = can_settle ch (multiframes_of u) _ sent (no_flips 0 (omega arith))
      shifted_hold TablesAndRoom = lent

      -- it is read with the same settings, frames and count, and all notes 0
      pub hunts_shifted : hunting_reading ch s from least tables index report ≡ heard ch u s from (length front) least tables index report (λ k. 0)
      hunts_shifted =
          hunts_back ch u s from (length front) least tables index report shifted_hold
          ∙ same_notes ch u s from (length front) least tables index report (received_flips u s (length front)) (λ k. 0) no_flips

      -- and one multiframe, by default: 16
      pub one_shifted_refused : (dh : Choices) → one_settles dh ≡ false → multiframes_of u ≡ 1
          → hunting_reading dh s from least tables index report ≡ outcome (Err (Octets Unsettled)) index report
      one_shifted_refused dh default one = one_refused dh u s from (length front) least tables index report default one others
        where
          others : (q : Premise) → (q ≡ Settled → ⊥) → Holds dh u s from (length front) least tables index report q
          others Begins n = shifted_hold Begins
          others Inside n = shifted_hold Inside
          others Syncs n = shifted_hold Syncs
          others Headers n = shifted_hold Headers
          others Streams n = shifted_hold Streams
          others NoneBefore n = shifted_hold NoneBefore
          others NoneBehind n = shifted_hold NoneBehind
          others Low n = shifted_hold Low
          others Settled n = absurd (n refl)
          others TablesAndRoom n = shifted_hold TablesAndRoom
