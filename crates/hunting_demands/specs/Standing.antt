-- Multiframes in a row, at any bit of octets, each passing the test, with no place before or behind that passes: all of them are found, and
-- put together on octets they have whole syncs and the headers and streams that stand there.
-- Assumes nothing.
use Prim.Native.Nat.{ℕ, zero, suc, ◌+◌, ◌-◌, ◌*◌, ◌^◌, ◌≤◌, ◌<◌}
use Rattle.std.specs.Prelude.{◌≡◌, Bool, length, take, drop, leb, Some, None}
use Rattle.std.proofs.Math.Path.{refl, ap, ap₂}
use Rattle.std.proofs.Common.{sym, ◌∙◌, subst, arith, drop-drop, take-add, le-leb}
use mathlib.Core.List.{List, [], ◌∷◌, ◌++◌}
use Rattle.std.proofs.Math.Bool.{true, false}
use Rattle.std.proofs.lemmas.Bool.{lt-leb}
use Rattle.lists.specs.Tests.{both}
use Rattle.lists.specs.Parts.{part, length_part}
use Rattle.layout.specs.Layout.{header_octets, stream_octets, multiframe_octets, most_multiframes, sync_first, sync_second}
use Rattle.choices.specs.declared.Choices.{Choices}
use Rattle.tables.specs.Tables.{Tables, RightTables}
use Rattle.tables.proofs.AdmittedLaws.{right_passes}
use Rattle.bits.specs.Bits.{field, fields, value, bits, octets}
use Rattle.bits.proofs.Laws.{field_value, value_lt, bits_octets, octets_append}
use Rattle.header.specs.Reading.{reading}
use Rattle.header.specs.declared.Decoded.{Decoded}
use Rattle.header.specs.Types.{Header}
use Rattle.hunt.specs.Hunt.{fewest_matches, sync_bits, header_bits, multiframe_bits, sync, matches, readable, passes, searched, places_left, hunted_from}
use Rattle.hunt.proofs.Laws.{in_range_lem, searched_le, says, once, nowhere_exactly}
use Rattle.hunt.specs.Types.{Hunted, found_at}
use Rattle.reader.specs.Reading as R
use Rattle.gathering.specs.Gathering.{Ending, whole, ended, prepend, step, last, gathering, outside_of, aligned, image_of}
use Rattle.gathering.proofs.Laws.{image_more}
use Rattle.gathering.proofs.SaysLaws.{nothing_found}
use Rattle.hunting.specs.Hunting.{counted, reading_by, reading_found, hunting_reading}
use Rattle.image.specs.Made.{Small, sync_in, word_in, stream_in, framed, made, length_made, small_made, made_sync, made_word, made_stream}

-- ---- places
-- the k-th of multiframes that stand one behind the other from bit `at` on
abbrev pub place_in_row : ℕ → ℕ → ℕ
place_in_row at k = at + multiframe_bits * k

-- n places from q on, a multiframe apart
abbrev pub row : ℕ → ℕ → List ℕ
row q zero = []
row q (suc n) = q ∷ row (q + multiframe_bits) n

length_row : (q n : ℕ) → length (row q n) ≡ n
length_row q zero = refl
length_row q (suc n) = ap suc (length_row (q + multiframe_bits) n)

row_more : (q n : ℕ) → row q (suc n) ≡ row q n ++ (place_in_row q n ∷ [])
row_more q zero = let z : q ≡ q + multiframe_bits * 0 = omega arith in ap (λ (i : ℕ). i ∷ []) z
row_more q (suc n) =
    let z : q + multiframe_bits + multiframe_bits * n ≡ q + multiframe_bits * suc n = omega arith in
    ap (λ (l : List ℕ). q ∷ l) (row_more (q + multiframe_bits) n) ∙ ap (λ (i : ℕ). q ∷ (row (q + multiframe_bits) n ++ (i ∷ []))) z

-- ---- what stands at a place: sixteen bits where the sync should be, the header's word, and the stream's bits
abbrev pub sync_at : List Bool → ℕ → List Bool
sync_at l p = part p sync_bits l

abbrev pub word_at : List Bool → ℕ → ℕ
word_at l p = value (part (p + sync_bits) header_bits l)

abbrev pub stream_bits : ℕ
stream_bits = 8 * stream_octets

abbrev pub stream_at : List Bool → ℕ → List Bool
stream_at l p = part (p + sync_bits + header_bits) stream_bits l

pub all_match : matches sync sync ≡ sync_bits
unfolding matches fields field
all_match = refl

matches_most : (l m : List Bool) → matches l m ≤ matches m m
unfolding matches
matches_most [] m = omega arith
matches_most (a ∷ l) [] = omega arith
matches_most (true ∷ l) (true ∷ m) = omega (arith, matches_most l m)
matches_most (true ∷ l) (false ∷ m) = omega (arith, matches_most l m)
matches_most (false ∷ l) (true ∷ m) = omega (arith, matches_most l m)
matches_most (false ∷ l) (false ∷ m) = omega (arith, matches_most l m)

-- where a sync matches in T bits, T is at most 16
pub at_most_all : (l : List Bool) (least : ℕ) → least ≤ matches l sync → least ≤ sync_bits
at_most_all l least h = omega (arith, matches_most l sync, all_match)

-- how such a place passes the test, and two ways to fail it
module _ (least : ℕ) (l : List Bool) (p : ℕ) where
  pub passes_there : {d : Decoded} → least ≤ matches (sync_at l p) sync → reading (word_at l p) ≡ Some d → passes least l p ≡ true
  unfolding passes
  passes_there h e = ap₂ both (le-leb least (matches (sync_at l p) sync) h) (ap readable e)

  pub unlike_fails : matches (sync_at l p) sync < least → passes least l p ≡ false
  unfolding passes
  unlike_fails h = rw (lt-leb least (matches (sync_at l p) sync) h)

  pub lost_fails : reading (word_at l p) ≡ None → passes least l p ≡ false
  unfolding passes
  lost_fails e = ap (λ (h : Header). both (leb least (matches (sync_at l p) sync)) (readable h)) e ∙ by (leb least (matches (sync_at l p) sync))
    where
      by : (b : Bool) → both b false ≡ false
      by true = refl
      by false = refl

-- ---- m multiframes of bits l found from bit `from` on: at bit `at` and in a row
pub record InARow (l : List Bool) (from at least m : ℕ) : Type 0 where
  pub begins : from ≤ at
  pub inside : at + multiframe_bits * m ≤ searched l
  pub stand : (k : ℕ) → k < m → passes least l (place_in_row at k) ≡ true
  pub none_before : (t : ℕ) → from ≤ t → t < at → passes least l t ≡ false
  pub none_behind : (t : ℕ) → at + multiframe_bits * m ≤ t → t + multiframe_bits ≤ searched l → passes least l t ≡ false

-- where no place passes, all are tested
none_gathered : (l : List Bool) (from least k : ℕ) → ((t : ℕ) → from ≤ t → t + multiframe_bits ≤ searched l → passes least l t ≡ false)
    → gathering l least k from ≡ ended whole (places_left l from)
unfolding gathering
none_gathered l from least zero none = ap last ((nowhere_exactly least l from).1 none)
none_gathered l from least (suc k) none = nothing_found l least k from none

-- the places tested where m multiframes stand in a row: those before, theirs, and those left behind
abbrev pub tested_in_row : List Bool → ℕ → ℕ → ℕ → ℕ
tested_in_row l from at m = (at - from) + m + places_left l (at + multiframe_bits * m)

module _ (l : List Bool) (from at least m : ℕ) (r : InARow l from at least m) where
  -- from a place on, before which none passes, multiframe j is the next to be taken
  taken_next : (f j k : ℕ) → j < m → f ≤ place_in_row at j → ((t : ℕ) → f ≤ t → t < place_in_row at j → passes least l t ≡ false)
      → gathering l least (suc k) f ≡ prepend (place_in_row at j) (suc (place_in_row at j) - f) (gathering l least k (place_in_row at j + multiframe_bits))
  unfolding gathering
  taken_next f j k h le none =
      let p = at + multiframe_bits * j in
      let room : p + multiframe_bits ≤ searched l = omega (arith, r.inside) in
      ap (λ (x : Hunted). step x (λ p. gathering l least k (p + multiframe_bits)))
      (once least l f (hunted_from l f least) (found_at p (suc p - f)) (says least l f) (le, room, r.stand j h, none, refl))

  -- the multiframes from number j on
  found_on : (n j k : ℕ) → j + n ≡ m → n ≤ k
      → gathering l least k (place_in_row at j) ≡ record { places = row (place_in_row at j) n; ending = whole; tested = n + places_left l (at + multiframe_bits * m) }
  found_on zero j k e h =
      let z : j ≡ m = omega arith in
      ap (λ (i : ℕ). gathering l least k (at + multiframe_bits * i)) z ∙ none_gathered l (at + multiframe_bits * m) least k r.none_behind
      ∙ ap (λ (i : ℕ). record { places = []; ending = whole; tested = i }) (omega arith)
  found_on (suc n) j zero e h = absurd (omega arith)
  found_on (suc n) j (suc k) e h =
      let p = at + multiframe_bits * j in
      let q : p + multiframe_bits ≡ at + multiframe_bits * (j + 1) = omega arith in
      let c : suc p - p + (n + places_left l (at + multiframe_bits * m)) ≡ suc n + places_left l (at + multiframe_bits * m) = omega arith in
      taken_next p j k (omega arith) (omega arith) (λ t a b. absurd (omega arith))
      ∙ ap (λ (i : ℕ). prepend p (suc p - p) (gathering l least k i)) q ∙ ap (prepend p (suc p - p)) (found_on n (j + 1) k (omega arith) (omega arith))
      ∙ ap₂ (λ (x : List ℕ) (i : ℕ). record { places = p ∷ x; ending = whole; tested = i }) (ap (λ (i : ℕ). row i n) (sym q)) c

  -- FOUND IN A ROW: they are taken, and no others
  pub found_in_a_row : 0 < m → m ≤ most_multiframes
      → gathering l least most_multiframes from ≡ record { places = row at m; ending = whole; tested = tested_in_row l from at m }
  found_in_a_row some few = by m refl
    where
      by : (n : ℕ) → n ≡ m → gathering l least most_multiframes from ≡ record { places = row at m; ending = whole; tested = tested_in_row l from at m }
      by zero e = absurd (omega arith)
      by (suc n) e =
          let z : at + multiframe_bits * 0 ≡ at = omega arith in
          let q : at + multiframe_bits * 0 + multiframe_bits ≡ at + multiframe_bits * 1 = omega arith in
          let w : at + multiframe_bits * 1 ≡ at + multiframe_bits = omega arith in
          let c : suc (at + multiframe_bits * 0) - from + (n + places_left l (at + multiframe_bits * m)) ≡ at - from + m + places_left l (at + multiframe_bits * m) = omega (arith, r.begins) in
          taken_next from 0 254 (omega arith) (omega (arith, r.begins)) (λ t a b. r.none_before t a (omega arith))
          ∙ ap (λ (i : ℕ). prepend (at + multiframe_bits * 0) (suc (at + multiframe_bits * 0) - from) (gathering l least 254 i)) q
          ∙ ap (prepend (at + multiframe_bits * 0) (suc (at + multiframe_bits * 0) - from)) (found_on n 1 254 (omega arith) (omega arith))
          ∙ ap₂ (λ (x : List ℕ) (i : ℕ). record { places = x; ending = whole; tested = i })
          (ap₂ (λ (a b : ℕ). a ∷ row b n) z w ∙ ap (row at) e) c

-- ---- the reading
module _ (ch : Choices) (s : List ℕ) (from least : ℕ) (tables : Tables) (index report : List ℕ) (low : fewest_matches ≤ least) (high : least ≤ sync_bits)
    (right : RightTables tables) where
  -- past 11, 10 and 21 what is found decides
  found_next : (ps : List ℕ) (e : Ending) (n : ℕ) → gathering (bits s) least most_multiframes from ≡ record { places = ps; ending = e; tested = n }
      → hunting_reading ch s from least tables index report ≡ reading_by ch s from least tables index report ps n e
  unfolding hunting_reading reading_found
  found_next ps e n g =
      rw (right_passes tables right, in_range_lem least low high, g)

  -- READ IN A ROW: what is put together is read as 01 says, with the bits outside and the places tested
  pub reads_in_a_row : (at m : ℕ) → InARow (bits s) from at least m → 0 < m → m ≤ most_multiframes
      → hunting_reading ch s from least tables index report
      ≡ counted (R.reading ch (image_of s (row at m)) tables index report) (outside_of (bits s) from m) (tested_in_row (bits s) from at m)
  reads_in_a_row at m r some few = found_next (row at m) whole (tested_in_row (bits s) from at m) (found_in_a_row (bits s) from at least m r some few) ∙ by m some
    where
      by : (n : ℕ) → 0 < n → reading_by ch s from least tables index report (row at n) (tested_in_row (bits s) from at m) whole
          ≡ counted (R.reading ch (image_of s (row at n)) tables index report) (outside_of (bits s) from n) (tested_in_row (bits s) from at m)
      by zero h = absurd (omega arith)
      by (suc n) h =
          ap (λ (i : ℕ). counted (R.reading ch (image_of s (row at (suc n))) tables index report) (outside_of (bits s) from i) (tested_in_row (bits s) from at m)) (length_row at (suc n))

-- ---- put together on octets
pub aligned_framed : (s : List ℕ) (p : ℕ) → p + multiframe_bits ≤ length (bits s) → aligned s p ≡ framed (word_at (bits s) p) (stream_at (bits s) p)
unfolding aligned
aligned_framed s p room =
    let l = bits s in
    let head = part (p + sync_bits) header_bits l in
    let size : length head ≡ header_bits = length_part l (p + sync_bits) 32 (omega arith) in
    let parts : part (p + sync_bits) (header_bits + stream_bits) l ≡ head ++ part (p + sync_bits + header_bits) stream_bits l =
    take-add header_bits stream_bits (drop (p + sync_bits) l) ∙ ap (λ (x : List Bool). head ++ take stream_bits x) (drop-drop header_bits (p + sync_bits) l) in
    let again : field header_bits (value head) ≡ head = subst (λ (n : ℕ). field n (value head) ≡ head) size (field_value head) in
    ap (λ (x : List ℕ). (sync_first ∷ sync_second ∷ []) ++ x)
    (ap (octets (header_octets + stream_octets)) parts ∙ octets_append header_octets stream_octets head (part (p + sync_bits + header_bits) stream_bits l) size
    ∙ ap (λ (x : List Bool). octets header_octets x ++ octets stream_octets (part (p + sync_bits + header_bits) stream_bits l)) (sym again))

module _ (s : List ℕ) (at m : ℕ) (inside : at + multiframe_bits * m ≤ searched (bits s)) where
  within : at + multiframe_bits * m ≤ length (bits s)
  within = let h = searched_le (bits s) in omega arith

  abbrev words : ℕ → ℕ
  words k = word_at (bits s) (place_in_row at k)

  abbrev streams : ℕ → List Bool
  streams k = stream_at (bits s) (place_in_row at k)

  made_first : (n : ℕ) → n ≤ m → image_of s (row at n) ≡ made words streams n
  unfolding image_of
  made_first zero h = refl
  made_first (suc n) h =
      ap (image_of s) (row_more at n) ∙ image_more s (row at n) (place_in_row at n)
      ∙ ap₂ (λ (x y : List ℕ). x ++ y) (made_first n (omega arith)) (aligned_framed s (at + multiframe_bits * n) (omega (arith, within)))

  -- PUT TOGETHER they are multiframes made of those headers and streams
  pub image_made : image_of s (row at m) ≡ made (λ k. word_at (bits s) (place_in_row at k)) (λ k. stream_at (bits s) (place_in_row at k)) m
  image_made = made_first m (omega arith)

  pub image_size : length (image_of s (row at m)) ≡ multiframe_octets * m
  image_size = ap length image_made ∙ length_made words streams m

  pub image_small : Small (image_of s (row at m))
  image_small = subst Small (sym image_made) (small_made words streams m)

  module _ (k : ℕ) (h : k < m) where
    pub image_sync : sync_in (image_of s (row at m)) k ≡ sync_first ∷ sync_second ∷ []
    image_sync = ap (λ (x : List ℕ). sync_in x k) image_made ∙ made_sync words streams m k h

    pub image_word : word_in (image_of s (row at m)) k ≡ word_at (bits s) (place_in_row at k)
    image_word =
        let size : length (part (at + multiframe_bits * k + sync_bits) header_bits (bits s)) ≡ header_bits = length_part (bits s) (at + multiframe_bits * k + sync_bits) header_bits (omega (arith, within)) in
        ap (λ (x : List ℕ). word_in x k) image_made
        ∙ made_word words streams m k h (subst (λ (n : ℕ). words k < 2 ^ n) size (value_lt (part (at + multiframe_bits * k + sync_bits) header_bits (bits s))))

    pub image_stream : bits (stream_in (image_of s (row at m)) k) ≡ stream_at (bits s) (place_in_row at k)
    image_stream =
        ap (λ (x : List ℕ). bits (stream_in x k)) image_made ∙ ap bits (made_stream words streams m k h)
        ∙ bits_octets stream_octets (streams k) (length_part (bits s) (at + multiframe_bits * k + sync_bits + header_bits) stream_bits (omega (arith, within)))
