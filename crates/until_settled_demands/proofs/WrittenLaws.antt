-- The settings of a written utterance before its end (02, C-11): "for a written utterance of two multiframes or more it settles at the second, and
-- under demand 3's header damage too". Its first 288 octets are enough, whatever stands behind them and whatever happened to the pairs.
-- Assumes nothing.
use Rattle.std.specs.Prelude.{ℕ, ◌+◌, ◌*◌, ◌≤◌, ◌<◌, ◌≡◌, refl, List, [], ◌∷◌, ◌++◌, length, get_or, take, drop, Some, Ok}
use Rattle.std.proofs.Common.{ap, ◌∙◌, get_or-take, get_or-drop, take-take, length-take-le, arith}
use Rattle.std.proofs.Math.Path.{ap₂, sym}
use Rattle.std.proofs.lemmas.List.{take-append-le}
use borrow.Author.Tests.{eq-eqb}
use Rattle.layout.specs.Layout.{multiframe_octets, sync}
use Rattle.choices.specs.declared.Choices.{Choices}
use Rattle.message.specs.Message.{common_bits}
use Rattle.header.specs.Reading as H
use Rattle.header.specs.declared.Decoded.{Decoded}
use Rattle.header.specs.Types.{Header}
use Rattle.settings.specs.declared.Settings.{Settings}
use Rattle.header_readings.specs.Readings.{readings}
use Rattle.settling.specs.Settling.{first_agreeing}
use Rattle.unfit.specs.Laws.{Usable, fit_is}
use Rattle.image.specs.Made.{word_in}
use Rattle.image.proofs.Laws.{length_image, image_sync}
use Rattle.writer.specs.Utterance.{Utterance, multiframes_of, image_of}
use Rattle.writer.proofs.Utterance.{rate_not_2}
use Rattle.damage.specs.Damage.{Damage, sent_message, header_read_lem}
use Rattle.damage.proofs.Damages.{unharmed}
use Rattle.demands.specs.Headers.{sent_common}
use Rattle.demands.proofs.HeadersLaws.{common_sent, settings_sent, rate_sent, exp_sent}
use Rattle.until_settled.specs.UntilSettled.{read_until, settled_answer, until_settled}
use Rattle.until_settled.specs.Front.{Front, start, met, same_front, same_readings}
use Rattle.until_settled.proofs.Laws.{settles_here}
use Rattle.until_settled_demands.specs.Written.{Begins}

-- the common bits that the writer sends can be used
pub usable : (u : Utterance) → Usable (sent_common u)
usable u = record { rate = λ e. rate_not_2 u (sym (rate_sent u) ∙ e); exp = exp_sent u }

module _ (u : Utterance) (s : List ℕ) (b : Begins u s) where
  in_sync : (k i : ℕ) → k < 2 → i < 2 → get_or s (multiframe_octets * k + i) 0 ≡ get_or sync i 0
  in_sync k i h l =
      sym (get_or-take 2 (drop (multiframe_octets * k) s) i 0 l ∙ get_or-drop (multiframe_octets * k) s i 0) ∙ ap (λ (x : List ℕ). get_or x i 0) (b.syncs k h)

  front : Front s 288 (0 ∷ 144 ∷ [])
  front =
      let n = b.both in
      met (met start (omega arith) (omega arith, in_sync 0 0 (omega arith) (omega arith), in_sync 0 1 (omega arith) (omega arith))) (omega arith)
      (omega arith, in_sync 1 0 (omega arith) (omega arith), in_sync 1 1 (omega arith) (omega arith))

  -- header k as it is read
  abbrev got : ℕ → Decoded
  got k = H.decoded_as (word_in s k) (sent_message u k)

  both_read : readings s (0 ∷ 144 ∷ []) ≡ Some (got 0) ∷ Some (got 1) ∷ []
  unfolding readings
  both_read =
      let n = b.sent in
      ap₂ (λ (g h : Header). g ∷ h ∷ []) (header_read_lem u s 0 (omega arith) (b.headers 0 (omega arith))) (header_read_lem u s 1 (omega arith) (b.headers 1 (omega arith)))

  agree : (first_agreeing [] (Some (got 0) ∷ Some (got 1) ∷ []) ≡ Some (sent_common u)) × (read_until [] (Some (got 0) ∷ Some (got 1) ∷ []) ≡ 2)
  unfolding first_agreeing read_until
  agree =
      let e : common_bits (got 1).message ≡ common_bits (got 0).message = common_sent u 1 ∙ sym (common_sent u 0) in
      let t = eq-eqb (common_bits (got 1).message) (common_bits (got 0).message) e in
      (rw t (ap Some (common_sent u 1)), rw t)

  -- THE SETTINGS WRITTEN, AT THE SECOND MULTIFRAME, whatever was chosen, of all octets that begin with the same 288: of these alone, and of a
  -- recording that has grown since
  pub first_two_settle : (ch : Choices) (t : List ℕ) → take (multiframe_octets * 2) t ≡ take (multiframe_octets * 2) s
      → until_settled ch t ≡ Ok (record { settings = u.settings; multiframes = 2 })
  first_two_settle ch t e =
      let g = same_front s t (multiframe_octets * 2) b.both e front (omega arith) in
      let r = same_readings s t (multiframe_octets * 2) b.both e front (omega arith) ∙ both_read in
      sym (settles_here ch t g (sent_common u) (ap (first_agreeing []) r ∙ agree.0))
      ∙ ap (λ (k : ℕ). settled_answer k (Some (sent_common u))) (ap (read_until []) r ∙ agree.1)
      ∙ rw (fit_is (sent_common u) (usable u)) (ap (λ (x : Settings). Ok (record { settings = x; multiframes = 2 })) (settings_sent u))

  pub settles_at_the_second : (ch : Choices) → until_settled ch s ≡ Ok (record { settings = u.settings; multiframes = 2 })
  settles_at_the_second ch = first_two_settle ch s refl

-- ---- demand 3's damage: "syncs whole" and "at most two bits flipped in each header" are what it takes of it
pub damaged_begins : (u : Utterance) (s : List ℕ) → 2 ≤ multiframes_of u → Damage (multiframes_of u) (image_of u) s → Begins u s
damaged_begins u s two d =
    record {
      sent = two;
      both = omega (arith, d.size ∙ length_image u.settings u.indices (multiframes_of u));
      syncs = λ k h. d.syncs k (omega arith) ∙ image_sync u.settings u.indices (multiframes_of u) k (omega arith);
      headers = λ k h. d.headers k (omega arith);
    }

pub damaged_settles : (ch : Choices) (u : Utterance) (s : List ℕ) → 2 ≤ multiframes_of u → Damage (multiframes_of u) (image_of u) s
    → until_settled ch s ≡ Ok (record { settings = u.settings; multiframes = 2 })
damaged_settles ch u s two d = settles_at_the_second u s (damaged_begins u s two d) ch

-- ---- a written utterance of two multiframes or more
pub written_settles : (ch : Choices) (u : Utterance) → 2 ≤ multiframes_of u → until_settled ch (image_of u) ≡ Ok (record { settings = u.settings; multiframes = 2 })
written_settles ch u two = damaged_settles ch u (image_of u) two (unharmed u)

-- the dispatcher's use: its first 288 octets, while the rest is still being written, and then as much more as there is
pub growing_settles : (ch : Choices) (u : Utterance) → 2 ≤ multiframes_of u → (more : List ℕ)
    → until_settled ch (take (multiframe_octets * 2) (image_of u) ++ more) ≡ Ok (record { settings = u.settings; multiframes = 2 })
growing_settles ch u two more =
    let d = damaged_begins u (image_of u) two (unharmed u) in
    let n : multiframe_octets * 2 ≤ length (take (multiframe_octets * 2) (image_of u)) = omega (arith, length-take-le (multiframe_octets * 2) (image_of u) d.both) in
    first_two_settle u (image_of u) d ch (take (multiframe_octets * 2) (image_of u) ++ more)
    (take-append-le (multiframe_octets * 2) (take (multiframe_octets * 2) (image_of u)) more n ∙ take-take (multiframe_octets * 2) (multiframe_octets * 2) (image_of u) (omega arith))
