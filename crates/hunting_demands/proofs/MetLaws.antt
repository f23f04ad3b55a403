-- The premises of HUNTS BACK are met: by every utterance of two multiframes or more, at bit 3, with four flips in every sync, two in every
-- header, and zeros in front and behind; and by every utterance at bit 3, undamaged, if it has two multiframes or
-- the caller asks for the old rule (02, C-20).
-- Assumes nothing.
use Rattle.std.specs.Prelude.{ℕ, zero, suc, ◌+◌, ◌-◌, ◌*◌, ◌≤◌, ◌<◌, ◌≡◌, refl, List, ◌∷◌, ◌++◌, Bool, true, false, length, take, drop, replicate, Ok}
use Rattle.std.proofs.Common.{sym, ap₂, ◌∙◌, subst, inl, inr, le_of_eq, arith, length-append, take-append-drop, take-add, take_at}
use Rattle.std.proofs.Math.Path.{ap}
use Rattle.std.specs.Int.Count.{ones, ones_in}
use Rattle.std.proofs.Math.Dec.{lit<, lit≤}
use Rattle.std.proofs.lemmas.List.{length-replicate, replicate-append-replicate, take-append-le}
use Rattle.polynomials.specs.Light.{ones_in_lem}
use Rattle.lists.specs.Parts.{part, over, part_left, part_right}
use Rattle.lists.specs.Rows.{joined}
use Rattle.layout.specs.Layout.{multiframe_pairs, sync_octets, multiframe_octets, most_multiframes, index_octets, report_octets}
use Rattle.choices.specs.Choices.{one_settles}
use Rattle.choices.specs.declared.Choices.{Choices}
use Rattle.tables.specs.Tables.{Tables, zero_tables}
use Rattle.bits.specs.Bits.{field, fields, bits}
use Rattle.bits.proofs.Laws.{length_bits, bits_part, bits_octets}
use Rattle.hunt.specs.Hunt.{sync_bits, multiframe_bits, fewest_matches, sync, matches, passes, searched}
use Rattle.hunt.proofs.Laws.{searched_all}
use Rattle.gathering.specs.Gathering.{outside_of}
use Rattle.hunting.specs.Hunting.{Outcome, outcome, hunting_reading}
use Rattle.image.proofs.Laws.{length_image, image_sync}
use Rattle.writer.proofs.Laws.{few_multiframes}
use Rattle.writer.specs.Utterance.{Utterance, multiframes_of, image_of}
use Rattle.writer.proofs.Utterance.{is_accepted}
use Rattle.demands.specs.Whole.{Lent}
use Rattle.demands.specs.ReadsBack.{spoken, padded}
use Rattle.demands_met.specs.Met.{says24, two_multiframes}
use Rattle.demands_met.proofs.MetLaws.{lent_zeros}
use Rattle.hunting_demands.specs.Standing.{tested_in_row, sync_at, unlike_fails}
use Rattle.hunting_demands.specs.HuntsBack.{received_flips, Begins, Inside, Syncs, Headers, Streams, NoneBefore, NoneBehind, Low, Settled, TablesAndRoom, Premises, Shifted}
use Rattle.hunting_demands.proofs.HuntsBack.{same_notes, hunts_back, hunts_shifted}
use Rattle.hunting_demands.specs.Hurt as H
use Rattle.hunting_demands.specs.Met.{worst_sync, three_zeros, many_zeros, index24, report24, five_zeros}
use Rattle.hunting_demands.specs.Met as Stated

pub worst_matches : matches worst_sync sync ≡ fewest_matches
unfolding matches fields field
worst_matches = refl

-- behind three zeros, no place before it has twelve matches, nor before a whole sync
pub earlier : (t : ℕ) → t < 3 → matches (part t sync_bits (three_zeros ++ worst_sync)) sync < fewest_matches
unfolding matches fields field
earlier zero h = lit< tt
earlier (suc zero) h = lit< tt
earlier (suc (suc zero)) h = lit< tt
earlier (suc (suc (suc t))) h = absurd (omega arith)

whole_earlier : (t : ℕ) → t < 3 → matches (part t sync_bits (three_zeros ++ sync)) sync < fewest_matches
unfolding matches fields field
whole_earlier zero h = lit< tt
whole_earlier (suc zero) h = lit< tt
whole_earlier (suc (suc zero)) h = lit< tt
whole_earlier (suc (suc (suc t))) h = absurd (omega arith)

-- so no place before it passes, whatever follows
pub fails_before : (l y : List Bool) (least : ℕ) → take 19 l ≡ three_zeros ++ y → length y ≡ sync_bits → fewest_matches ≤ least
    → ((t : ℕ) → t < 3 → matches (part t sync_bits (three_zeros ++ y)) sync < fewest_matches) → (t : ℕ) → 0 ≤ t → t < 3 → passes least l t ≡ false
fails_before l y least head size low unlike t a h =
    let n : length (take 19 l) ≡ 19 = ap length head ∙ length-append three_zeros y ∙ ap (λ (i : ℕ). 3 + i) size in
    let e : sync_at l t ≡ part t sync_bits (three_zeros ++ y) =
    ap (part t sync_bits) (sym (take-append-drop 19 l)) ∙ part_left (take 19 l) (drop 19 l) t sync_bits (omega arith) ∙ ap (part t sync_bits) head in
    unlike_fails least l t (subst (λ (x : List Bool). matches x sync < least) (sym e) (omega (arith, unlike t h)))

-- nor have sixteen zeros twelve
pub zeros_match : matches (replicate sync_bits false) sync < fewest_matches
unfolding matches fields field
zeros_match = lit< tt

pub zeros_part : (n j : ℕ) → j + sync_bits ≤ n → part j sync_bits (replicate n false) ≡ replicate sync_bits false
zeros_part n j h =
    let r = n - j - sync_bits in
    let e : n ≡ j + (sync_bits + r) = omega arith in
    ap (λ (i : ℕ). part j sync_bits (replicate i false)) e ∙ ap (part j sync_bits) (sym (replicate-append-replicate j (sync_bits + r) false))
    ∙ part_right (replicate j false) (replicate (sync_bits + r) false) j sync_bits (length-replicate j false)
    ∙ ap (take sync_bits) (sym (replicate-append-replicate sync_bits r false)) ∙ take_at (replicate sync_bits false) (replicate r false) sync_bits refl

pub sync_size : length sync ≡ sync_bits
unfolding fields field
sync_size = refl

pub two_ones : ones 3 ≡ 2
unfolding ones_in
two_ones = sym (ones_in_lem 2 3 (lit< tt))

-- ---- an utterance so carried
module _ (u : Utterance) where
  abbrev carried_octets : List ℕ
  carried_octets = Stated.carried_octets u

  abbrev m : ℕ
  m = multiframes_of u

  abbrev l : List Bool
  l = bits carried_octets

  fits : H.Fits u three_zeros (λ k. worst_sync) (λ k. 3) many_zeros 151
  unfolding fields field
  fits = record { syncs = λ k. refl; headers = λ k. lit< tt; around = ap (λ (n : ℕ). 3 + n) (length-replicate 1205 false); few = lit≤ tt }

  -- what stands before the first header
  head_is : take 19 l ≡ three_zeros ++ worst_sync
  head_is =
      take-add 3 sync_bits l
      ∙ ap₂ (λ (x y : List Bool). x ++ y) (H.front_there u three_zeros (λ k. worst_sync) (λ k. 3) many_zeros 151 fits 0 3 (lit≤ tt))
      (H.sync_there u three_zeros (λ k. worst_sync) (λ k. 3) many_zeros 151 fits 0 (omega arith))

  not_before : (t : ℕ) → 0 ≤ t → t < 3 → passes fewest_matches l t ≡ false
  not_before = fails_before l worst_sync fewest_matches head_is (fits.syncs 0) (lit≤ tt) earlier

  not_behind : (t : ℕ) → 3 + multiframe_bits * m ≤ t → t + multiframe_bits ≤ searched l → passes fewest_matches l t ≡ false
  not_behind t h r =
      let n = H.searched_are u three_zeros (λ k. worst_sync) (λ k. 3) many_zeros 151 fits in
      let e : sync_at l t ≡ replicate sync_bits false =
      H.behind_there u three_zeros (λ k. worst_sync) (λ k. 3) many_zeros 151 fits t sync_bits h ∙ zeros_part 1205 (t - (3 + multiframe_bits * m)) (omega arith) in
      unlike_fails fewest_matches l t (subst (λ (x : List Bool). matches x sync < fewest_matches) (sym e) zeros_match)

  two_flips : (k : ℕ) → k < m → received_flips u carried_octets 3 k ≡ 2
  two_flips k h = H.flips_there u three_zeros (λ k. worst_sync) (λ k. 3) many_zeros 151 fits k h ∙ two_ones

  module _ (tables : Tables) (index report : List ℕ) where
    pub hunts_back_met : (ch : Choices) → 2 ≤ multiframes_of u → Lent (multiframes_of u) tables index report
        → Premises ch u carried_octets 0 3 fewest_matches tables index report
    hunts_back_met ch two lent =
        H.hurt_hold u three_zeros (λ k. worst_sync) (λ k. 3) many_zeros 151 fits 0 fewest_matches tables index report ch (lit≤ tt)
        (λ k h. H.match_there u three_zeros (λ k. worst_sync) (λ k. 3) many_zeros 151 fits k h fewest_matches (le_of_eq (sym worst_matches))) (λ k h. le_of_eq (two_flips k h))
        not_before not_behind (lit≤ tt) (inl two) lent

    -- two multiframes so carried are read with their settings, frames and count, every header's two flips are noted, 1,208 bits stand outside,
    -- and 59 places were tested: three before them, their two, and the 54 behind them with a multiframe's bits left
    pub two_hunted : (ch : Choices) → multiframes_of u ≡ 2 → Lent (multiframes_of u) tables index report
        → hunting_reading ch carried_octets 0 fewest_matches tables index report
        ≡ outcome (Ok (record { summary = spoken u; outside = 1208; tested = 59 })) (over index 0 (index_octets * 2) (padded u))
        (over report 0 (report_octets * 2) ((2 ∷ replicate multiframe_pairs 0) ++ (2 ∷ replicate multiframe_pairs 0)))
    two_hunted ch two lent =
        let n = H.searched_are u three_zeros (λ k. worst_sync) (λ k. 3) many_zeros 151 fits in
        let out : outside_of l 0 m ≡ 1208 = omega arith in
        let tested : tested_in_row l 0 3 m ≡ 59 = omega arith in
        hunts_back ch u carried_octets 0 3 fewest_matches tables index report (hunts_back_met ch (le_of_eq (sym two)) lent)
        ∙ same_notes ch u carried_octets 0 3 fewest_matches tables index report (received_flips u carried_octets 3) (λ k. 2) two_flips
        ∙ ap₂
        (λ (a b : ℕ). outcome (Ok (record { summary = spoken u; outside = a; tested = b })) (over index 0 (index_octets * m) (padded u))
        (over report 0 (report_octets * m) (joined (λ k. 2 ∷ replicate multiframe_pairs 0) m)))
        out tested
        ∙ ap
        (λ (n : ℕ). outcome (Ok (record { summary = spoken u; outside = 1208; tested = 59 })) (over index 0 (index_octets * n) (padded u))
        (over report 0 (report_octets * n) (joined (λ k. 2 ∷ replicate multiframe_pairs 0) n)))
        two

-- ---- and from a bit that is not the first: bits before it are neither outside nor tested
module _ (ch : Choices) (u : Utterance) (two : multiframes_of u ≡ 2) (tables : Tables) (index report : List ℕ) (lent : Lent (multiframes_of u) tables index report) where
  abbrev there : List ℕ
  there = carried_octets u

  from_0 : Premises ch u there 0 3 fewest_matches tables index report
  from_0 = hunts_back_met u tables index report ch (le_of_eq (sym two)) lent

  from_2 : Premises ch u there 2 3 fewest_matches tables index report
  from_2 Begins = lit≤ tt
  from_2 Inside = from_0 Inside
  from_2 Syncs = from_0 Syncs
  from_2 Headers = from_0 Headers
  from_2 Streams = from_0 Streams
  from_2 NoneBefore = λ t a h. from_0 NoneBefore t (omega arith) h
  from_2 NoneBehind = from_0 NoneBehind
  from_2 Low = lit≤ tt
  from_2 Settled = from_0 Settled
  from_2 TablesAndRoom = lent

  pub hunted_from_2 : (hunting_reading ch (carried_octets u) 2 fewest_matches tables index report).answer
      ≡ Ok (record { summary = spoken u; outside = 1206; tested = 57 })
  hunted_from_2 =
      let n = H.searched_are u three_zeros (λ k. worst_sync) (λ k. 3) many_zeros 151 (fits u) in
      let out : outside_of (bits there) 2 (multiframes_of u) ≡ 1206 = omega arith in
      let tested : tested_in_row (bits there) 2 3 (multiframes_of u) ≡ 57 = omega arith in
      ap (λ (o : Outcome). o.answer) (hunts_back ch u there 2 3 fewest_matches tables index report from_2)
      ∙ ap₂ (λ (a b : ℕ). Ok (record { summary = spoken u; outside = a; tested = b })) out tested

-- ---- and there is such an utterance
pub met_says24 : (ch : Choices) → Premises ch says24 (carried_octets says24) 0 3 fewest_matches zero_tables index24 report24
met_says24 ch = hunts_back_met says24 zero_tables index24 report24 ch (le_of_eq (sym two_multiframes)) (lent_zeros (multiframes_of says24))

pub hunts_says24 : (ch : Choices) → (hunting_reading ch (carried_octets says24) 0 fewest_matches zero_tables index24 report24).answer
    ≡ Ok (record { summary = spoken says24; outside = 1208; tested = 59 })
hunts_says24 ch = ap (λ (o : Outcome). o.answer) (two_hunted says24 zero_tables index24 report24 ch two_multiframes (lent_zeros (multiframes_of says24)))

-- ---- THE SHIFTED IMAGE: every utterance's, behind three zeros and before five
module _ (u : Utterance) where
  abbrev shifted_octets : List ℕ
  shifted_octets = Stated.shifted_octets u

  image_bits : length (bits (image_of u)) ≡ multiframe_bits * multiframes_of u
  image_bits = length_bits (image_of u) ∙ omega (arith, length_image u.settings u.indices (multiframes_of u))

  shifted_size : length (three_zeros ++ (bits (image_of u) ++ five_zeros)) ≡ 8 * (1 + multiframe_octets * multiframes_of u)
  shifted_size =
      length-append three_zeros (bits (image_of u) ++ five_zeros) ∙ omega (arith, length-append (bits (image_of u)) five_zeros, image_bits)

  pub shifted_met : (ch : Choices) (least : ℕ) → fewest_matches ≤ least → Shifted ch u shifted_octets 0 least three_zeros five_zeros
  shifted_met ch least low =
      let same : bits shifted_octets ≡ three_zeros ++ (bits (image_of u) ++ five_zeros) =
      bits_octets (1 + multiframe_octets * multiframes_of u) (three_zeros ++ (bits (image_of u) ++ five_zeros)) shifted_size in
      let few : multiframes_of u ≤ most_multiframes = few_multiframes u.settings u.indices (is_accepted u).sizes in
      let size : length (bits shifted_octets) ≡ 8 * (1 + multiframe_octets * multiframes_of u) = ap length same ∙ shifted_size in
      let all : searched (bits shifted_octets) ≡ 8 * (1 + multiframe_octets * multiframes_of u) = searched_all (bits shifted_octets) (omega arith) ∙ size in
      let first : take sync_bits (bits (image_of u)) ≡ sync =
      sym (bits_part 0 sync_octets (image_of u) (omega (arith, length_image u.settings u.indices (multiframes_of u))))
      ∙ ap bits (image_sync u.settings u.indices (multiframes_of u) 0 (omega arith)) in
      let head : take 19 (bits shifted_octets) ≡ three_zeros ++ sync =
      ap (take 19) same
      ∙ ap (λ (x : List Bool). three_zeros ++ x) (take-append-le sync_bits (bits (image_of u)) five_zeros (omega (arith, image_bits)) ∙ first) in
      record {
        same = same;
        begins = lit≤ tt;
        inside = omega arith;
        none_before = fails_before (bits shifted_octets) sync least head sync_size low whole_earlier;
        none_behind = λ t a h. absurd (omega arith);
      }

  -- so, where the caller asks for the old rule, it is read at every T, with all notes 0, eight bits outside and four places tested if it has one
  -- multiframe
  pub one_shifted : (ch : Choices) → one_settles ch ≡ true → multiframes_of u ≡ 1 → (least : ℕ) → fewest_matches ≤ least → least ≤ sync_bits → (tables : Tables) (index report : List ℕ)
      → Lent (multiframes_of u) tables index report
      → hunting_reading ch shifted_octets 0 least tables index report
      ≡ outcome (Ok (record { summary = spoken u; outside = 8; tested = 4 })) (over index 0 index_octets (padded u)) (over report 0 report_octets (replicate report_octets 0))
  one_shifted ch asked one least low high tables index report lent =
      let same : bits shifted_octets ≡ three_zeros ++ (bits (image_of u) ++ five_zeros) =
      bits_octets (1 + multiframe_octets * multiframes_of u) (three_zeros ++ (bits (image_of u) ++ five_zeros)) shifted_size in
      let size : length (bits shifted_octets) ≡ 8 * (1 + multiframe_octets * multiframes_of u) = ap length same ∙ shifted_size in
      let all : searched (bits shifted_octets) ≡ 8 * (1 + multiframe_octets * multiframes_of u) = searched_all (bits shifted_octets) (omega arith) ∙ size in
      let out : outside_of (bits shifted_octets) 0 (multiframes_of u) ≡ 8 = omega arith in
      let tested : tested_in_row (bits shifted_octets) 0 3 (multiframes_of u) ≡ 4 = omega arith in
      hunts_shifted ch u shifted_octets 0 least three_zeros five_zeros (shifted_met ch least low) (inr asked) tables index report low high lent
      ∙ ap₂
      (λ (a b : ℕ). outcome (Ok (record { summary = spoken u; outside = a; tested = b })) (over index 0 (index_octets * multiframes_of u) (padded u))
      (over report 0 (report_octets * multiframes_of u) (joined (λ k. 0 ∷ replicate multiframe_pairs 0) (multiframes_of u))))
      out tested
      ∙ ap
      (λ (n : ℕ). outcome (Ok (record { summary = spoken u; outside = 8; tested = 4 })) (over index 0 (index_octets * n) (padded u))
      (over report 0 (report_octets * n) (joined (λ k. 0 ∷ replicate multiframe_pairs 0) n)))
      one
