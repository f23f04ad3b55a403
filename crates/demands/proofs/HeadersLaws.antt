-- The headers of a damaged image as the reader takes them: up to two flips are mended and counted, three lose a header, and two that are
-- read settle the settings sent; where the caller asks for the old rule (02, C-20), an only one that is untouched does too. Whatever happened to
-- the pairs.
-- Assumes nothing.
use Rattle.std.specs.Prelude.{◌≡◌, true, false, List, [], ◌∷◌, ◌⊎◌, ℕ, ◌+◌, ◌%◌, ◌≤◌, ◌<◌, length, get_or, Some, None}
use Rattle.std.proofs.Common.{sym, ap, ◌∙◌, subst, inl, inr, arith, eq-eqb, le-leb}
use Rattle.std.proofs.Math.Decide.{dec_lt}
use Rattle.std.proofs.Math.ListN.{get_or-eq_default}
use Rattle.std.proofs.lemmas.Bool.{lt-leb}
use Rattle.choices.specs.declared.Choices.{Choices}
use Rattle.lists.specs.Tests.{true_false}
use Rattle.lists.specs.Rows.{each, length_each, each_at, same_each}
use Rattle.settings.specs.declared.Settings.{Settings}
use Rattle.cutting.proofs.Laws.{every_length}
use Rattle.choices.specs.Choices.{one_settles}
use Rattle.header_code.specs.Code.{flips_to}
use Rattle.message.specs.Message.{message, rate_of, count_of, exp_of, common_bits, settings_of}
use Rattle.message.specs.Message.Laws.{count_back, exp_back, common_exp, common_message, settings_back, common_settings}
use Rattle.header.specs.Reading as H
use Rattle.header.proofs.Laws.{lost_not_read, same_message}
use Rattle.header.specs.declared.Decoded.{Decoded}
use Rattle.header.specs.Types.{Header}
use Rattle.header_readings.specs.Readings.{readings}
use Rattle.settling.specs.Settling.{among, settling}
use Rattle.header_notes.specs.HeaderNotes.{header_note}
use Rattle.header_readings.specs.Laws.{length_readings}
use Rattle.settling.specs.Laws.{Has, Earlier, First, Enough}
use Rattle.settling.proofs.Laws.{settled_first, has_read, read_has, settled_same, two_settle, settled_enough, one_default, only_clean, only_mended, only_lost}
use Rattle.header_notes.specs.Laws.{note_lost}
use Rattle.image.specs.Made.{word_in}
use Rattle.writer.specs.Utterance.{Utterance, multiframes_of, image_of}
use Rattle.writer.proofs.Utterance.{settings_right_lem}
use Rattle.damage.specs.Damage.{Damage, header_flips, sent_message, header_read_lem, header_lost, header_near}
use Rattle.demands.specs.Whole.{row_of}
use Rattle.demands.proofs.WholeLaws.{readings_are}
use Rattle.demands.specs.Headers.{CanSettle, Settling, TwoReadable, heard_as, sent_common}

pub common_sent : (u : Utterance) (k : ℕ) → common_bits (sent_message u k) ≡ sent_common u
common_sent u k = common_message u.settings (k + 1) 0

pub settings_sent : (u : Utterance) → settings_of (sent_common u) ≡ u.settings
settings_sent u = common_settings (message u.settings 0 0) ∙ settings_back u.settings 0 0 (settings_right_lem u)

pub rate_sent : (u : Utterance) → rate_of (sent_common u) ≡ u.settings.rate
rate_sent u = ap (λ (s : Settings). s.rate) (settings_sent u)

pub exp_sent : (u : Utterance) → exp_of (sent_common u) ≡ 0
exp_sent u = common_exp (message u.settings 0 0) ∙ exp_back u.settings 0 0

-- a header read as sent, in step and as settled, has its flips for a note
note_of_read : (u : Utterance) (k w : ℕ) → header_note (sent_common u) k (Some (H.decoded_as w (sent_message u k))) ≡ flips_to w (sent_message u k)
unfolding header_note
note_of_read u k w =
    let f = flips_to w (sent_message u k) in
    let z : f + 0 + 0 ≡ f = omega arith in
    rw (eq-eqb (count_of (sent_message u k)) ((k + 1) % 16) (count_back u.settings (k + 1) 0), eq-eqb (common_bits (sent_message u k)) (sent_common u) (common_sent u k)) z

pub heard_read : (w message : ℕ) → flips_to w message ≤ 2 → heard_as w message ≡ Some (H.decoded_as w message)
heard_read w message few = rw (le-leb (flips_to w message) 2 few)

pub heard_lost : (w message : ℕ) → 2 < flips_to w message → heard_as w message ≡ None
heard_lost w message many = rw (lt-leb (flips_to w message) 2 many)

-- headers that are enough and of which the first is untouched can settle
pub can_settle : (ch : Choices) (m flips : ℕ) → Enough ch m → flips ≡ 0 → CanSettle ch m flips
can_settle ch m flips (inl two) z = inl two
can_settle ch m flips (inr asked) z = inr (asked, z)

-- where no header has more than two flips, that is enough
pub enough : (ch : Choices) (u : Utterance) (s : List ℕ) → Damage (multiframes_of u) (image_of u) s → CanSettle ch (multiframes_of u) (header_flips (image_of u) s 0) → Settling ch u s
enough ch u s d x = by (dec_lt (multiframes_of u) 2) x
  where
    two : 2 ≤ multiframes_of u → Settling ch u s
    two h = inl (record { one = 0; two = 1; order = omega arith; within = omega arith; few_of_one = d.headers 0 (omega arith); few_of_two = d.headers 1 (omega arith) })

    by : Dec (multiframes_of u < 2) → CanSettle ch (multiframes_of u) (header_flips (image_of u) s 0) → Settling ch u s
    by (no n) y = two (omega arith)
    by (yes l) (inl h) = two h
    by (yes l) (inr z) = inr (z.0, (omega arith, z.1))

-- a header of at most three flips is read as it was sent, or is lost
module _ (u : Utterance) (s : List ℕ) (k : ℕ) (h : k < multiframes_of u) (most : header_flips (image_of u) s k ≤ 3) where
  pub heard : H.reading (word_in s k) ≡ heard_as (word_in s k) (sent_message u k)
  heard =
      let e = header_near u s k h in
      elim (dec_lt 2 (header_flips (image_of u) s k)) [
        | yes y ↦ header_lost u s k h (omega arith) ∙ sym (heard_lost (word_in s k) (sent_message u k) (omega arith))
        | no n ↦ header_read_lem u s k h (omega arith) ∙ sym (heard_read (word_in s k) (sent_message u k) (omega arith))
      ]

  -- so where it is read its common bits are those sent
  read_sent : (d : Decoded) → H.reading (word_in s k) ≡ Some d → common_bits d.message ≡ sent_common u
  read_sent d e =
      elim (dec_lt 2 (flips_to (word_in s k) (sent_message u k))) [
        | yes y ↦ absurd (lost_not_read d (sym (heard ∙ heard_lost (word_in s k) (sent_message u k) y) ∙ e))
        | no n ↦
            ap common_bits (same_message d (H.decoded_as (word_in s k) (sent_message u k)) (sym e ∙ heard ∙ heard_read (word_in s k) (sent_message u k) (omega arith)))
            ∙ common_sent u k
      ]

-- all headers but perhaps one, number j, have at most three flips, whatever happened to the pairs
module _ (u : Utterance) (s : List ℕ) (j : ℕ) (others : (k : ℕ) → k < multiframes_of u → (k ≡ j → ⊥) → header_flips (image_of u) s k ≤ 3) where
  abbrev hs : List Header
  hs = readings s (row_of (multiframes_of u))

  length_hs : length hs ≡ multiframes_of u
  length_hs = ap length (readings_are s (multiframes_of u)) ∙ length_each (λ k. H.reading (word_in s k)) (multiframes_of u)

  -- none of those that are read has other common bits than those sent
  pub others_sent : (k d : ℕ) → (k ≡ j → ⊥) → Has (readings s (row_of (multiframes_of u))) k d → d ≡ sent_common u
  others_sent k d n x = by (dec_lt k (multiframes_of u))
    where
      r : (x : Decoded) × ((get_or hs k None ≡ Some x) × (common_bits x.message ≡ d))
      r = has_read hs k d x

      by : Dec (k < multiframes_of u) → d ≡ sent_common u
      by (no o) = absurd (lost_not_read r.0 (sym (get_or-eq_default hs None (omega (arith, length_hs))) ∙ r.1.0))
      by (yes h) =
          sym r.1.1
          ∙ read_sent u s k h (others k h n) r.0
          (sym (ap (λ (l : List Header). get_or l k None) (readings_are s (multiframes_of u)) ∙ each_at (λ k. H.reading (word_in s k)) (multiframes_of u) k None h) ∙ r.1.0)

  -- so of two headers or more nothing else is settled
  pub settles_nothing_else : (ch : Choices) (d : ℕ) → 2 ≤ multiframes_of u → settling ch (readings s (row_of (multiframes_of u))) ≡ Some d → d ≡ sent_common u
  settles_nothing_else ch d two = settled_same hs (sent_common u) j others_sent ch d (omega (arith, length_hs))

-- all headers have at most three flips
module _ (u : Utterance) (s : List ℕ) (most : (k : ℕ) → k < multiframes_of u → header_flips (image_of u) s k ≤ 3) where
  abbrev m : ℕ
  m = multiframes_of u

  abbrev flips : ℕ → ℕ
  flips k = header_flips (image_of u) s k

  -- header k as it is heard
  abbrev heard_at : ℕ → Header
  heard_at k = heard_as (word_in s k) (sent_message u k)

  pub headers_read : readings s (row_of m) ≡ each (λ k. heard_as (word_in s k) (sent_message u k)) m
  headers_read = readings_are s m ∙ same_each (λ k. H.reading (word_in s k)) heard_at m (λ k h. heard u s k h (most k h))

  header_is : (k : ℕ) → k < m → get_or (readings s (row_of m)) k None ≡ heard_at k
  header_is k h = ap (λ (l : List Header). get_or l k None) headers_read ∙ each_at heard_at m k None h

  -- a readable header is read with the common bits sent
  has_sent : (k : ℕ) → k < m → flips k ≤ 2 → Has (readings s (row_of m)) k (sent_common u)
  has_sent k h few =
      subst (Has (readings s (row_of m)) k) (common_sent u k)
      (read_has (readings s (row_of m)) k (H.decoded_as (word_in s k) (sent_message u k))
      (header_is k h ∙ heard_read (word_in s k) (sent_message u k) (omega (arith, header_near u s k h))))

  -- two readable headers settle the common bits sent, and so does an only one that is untouched where the caller asks for it
  pub settles : (ch : Choices) → Settling ch u s → settling ch (readings s (row_of m)) ≡ Some (sent_common u)
  settles ch (inl t) =
      let l = t.order in
      let w = t.within in
      two_settle (readings s (row_of m)) (sent_common u) m (others_sent u s m (λ k h n. most k h)) ch t.one t.two l (has_sent t.one (omega arith) t.few_of_one) (has_sent t.two w t.few_of_two)
  settles ch (inr x) =
      let z : flips_to (word_in s 0) (sent_message u 0) ≡ 0 = header_near u s 0 (omega (arith, x.1.0)) ∙ x.1.1 in
      ap (settling ch) headers_read ∙ ap (λ (n : ℕ). settling ch (each heard_at n)) x.1.0
      ∙ ap (λ (h : Header). settling ch (h ∷ [])) (heard_read (word_in s 0) (sent_message u 0) (omega arith))
      ∙ only_clean ch (H.decoded_as (word_in s 0) (sent_message u 0)) x.0 z ∙ ap Some (common_sent u 0)

  -- and nothing else settles anything: of two headers or more two are readable
  pub settled_readable : (ch : Choices) (c : ℕ) → 2 ≤ multiframes_of u → settling ch (readings s (row_of (multiframes_of u))) ≡ Some c → TwoReadable u s
  settled_readable ch c two e = by f.agrees.with
    where
      hs : List Header
      hs = readings s (row_of (multiframes_of u))

      long : length (readings s (row_of (multiframes_of u))) ≡ multiframes_of u
      long = ap length headers_read ∙ length_each heard_at m

      f : First [] (readings s (row_of (multiframes_of u))) c
      f = settled_first ch (readings s (row_of (multiframes_of u))) c (omega (arith, long)) e

      -- a header that is read is one of them, and has at most two flips
      inside : (k : ℕ) → Has (readings s (row_of (multiframes_of u))) k c → (k < multiframes_of u) × (header_flips (image_of u) s k ≤ 2)
      inside k x = by (dec_lt k m) (dec_lt 2 (flips k))
        where
          r : (x : Decoded) × ((get_or (readings s (row_of (multiframes_of u))) k None ≡ Some x) × (common_bits x.message ≡ c))
          r = has_read (readings s (row_of (multiframes_of u))) k c x

          by : Dec (k < m) → Dec (2 < flips k) → (k < multiframes_of u) × (header_flips (image_of u) s k ≤ 2)
          by (no o) y = absurd (lost_not_read r.0 (sym (get_or-eq_default (readings s (row_of m)) None (omega (arith, long))) ∙ r.1.0))
          by (yes h) (yes y) =
              absurd (lost_not_read r.0 (sym (header_is k h ∙ heard_lost (word_in s k) (sent_message u k) (omega (arith, header_near u s k h))) ∙ r.1.0))
          by (yes h) (no y) = (h, omega arith)

      by : (among c [] ≡ true) ⊎ Earlier (readings s (row_of (multiframes_of u))) f.at c → TwoReadable u s
      by (inl t) = absurd (true_false (sym t))
      by (inr x) = record {
        one = x.at;
        two = f.at;
        order = x.less;
        within = (inside f.at f.agrees.has).0;
        few_of_one = (inside x.at x.has).1;
        few_of_two = (inside f.at f.agrees.has).1;
      }

  -- an only header that is touched settles nothing
  pub touched_unsettles : (ch : Choices) → m ≡ 1 → (flips 0 ≡ 0 → ⊥) → settling ch (readings s (row_of m)) ≡ None
  touched_unsettles ch one n =
      let e = header_near u s 0 (omega (arith, one)) in
      ap (settling ch) headers_read ∙ ap (λ (i : ℕ). settling ch (each heard_at i)) one
      ∙ elim (dec_lt 2 (flips 0)) [
        | yes y ↦ ap (λ (h : Header). settling ch (h ∷ [])) (heard_lost (word_in s 0) (sent_message u 0) (omega arith)) ∙ only_lost ch
        | no y ↦
            ap (λ (h : Header). settling ch (h ∷ [])) (heard_read (word_in s 0) (sent_message u 0) (omega arith))
            ∙ only_mended ch (H.decoded_as (word_in s 0) (sent_message u 0)) (λ z. n (sym e ∙ z))
      ]

  -- each header note is the number of flips there: three are lost, and that is note 3
  pub note_of_header : (k : ℕ) → k < m → header_note (sent_common u) k (get_or (readings s (row_of m)) k None) ≡ flips k
  note_of_header k h =
      let e = header_near u s k h in
      ap (header_note (sent_common u) k) (header_is k h)
      ∙ elim (dec_lt 2 (flips k)) [
        | yes y ↦
            let l = most k h in
            ap (header_note (sent_common u) k) (heard_lost (word_in s k) (sent_message u k) (omega arith)) ∙ note_lost (sent_common u) k ∙ omega arith
        | no y ↦ ap (header_note (sent_common u) k) (heard_read (word_in s k) (sent_message u k) (omega arith)) ∙ note_of_read u k (word_in s k) ∙ e
      ]

-- an only header settles nothing by default, whatever it is (02, C-20)
pub default_unsettles : (ch : Choices) (u : Utterance) (s : List ℕ) → one_settles ch ≡ false → multiframes_of u ≡ 1 → settling ch (readings s (row_of (multiframes_of u))) ≡ None
default_unsettles ch u s o one =
    one_default ch (readings s (row_of (multiframes_of u))) o (length_readings s (row_of (multiframes_of u)) ∙ every_length 0 (multiframes_of u) ∙ one)

-- so what is settled at all had enough headers
pub sent_enough : (ch : Choices) (u : Utterance) (s : List ℕ) (c : ℕ) → settling ch (readings s (row_of (multiframes_of u))) ≡ Some c → Enough ch (multiframes_of u)
sent_enough ch u s c e =
    subst (Enough ch) (length_readings s (row_of (multiframes_of u)) ∙ every_length 0 (multiframes_of u)) (settled_enough ch (readings s (row_of (multiframes_of u))) c e)
