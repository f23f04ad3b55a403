-- What happens without a premise of what the yards are told, for the premises tried here; Inverse, CutOff and CutDamaged have their own.
-- What is claimed stands here, and is proved in proofs/Needed.antt. Assumes nothing.
use Rattle.std.specs.Prelude.{◌≡◌, List, [], ◌∷◌, ◌++◌, ◌⊎◌, ℕ, ◌+◌, ◌-◌, ◌*◌, ◌<◌, eqb, leb, take, length, Ok, Err}
use Rattle.lists.specs.Tests.{when}
use Rattle.layout.specs.Layout.{multiframe_frames, multiframe_octets, first_pair, inverse_first, inverse_second}
use Rattle.choices.specs.declared.Choices.{Choices}
use Rattle.tables.specs.Tables.{Tables, zero_tables}
use Rattle.packet.specs.Packet.{packet_of}
use Rattle.reader.specs.Reading.{outcome, reading}
use Rattle.reader.specs.declared.Summary.{Summary}
use Rattle.refusals.specs.declared.Reading.TheVariants.{Unsettled}
use Rattle.image.specs.Made.{sync_in, packet_in}
use Rattle.wrong_frames.specs.WrongFrames.{frame_count}
use Rattle.writer.specs.Utterance.{Utterance, multiframes_of, pairs_of, image_of}
use Rattle.damage.specs.Damage.{DamageUpTo, header_bits, header_flips}
use Rattle.demands.specs.Whole.{header_note_in, pair_note_in}
use Rattle.demands.specs.Headers.{TwoReadable}
use Rattle.demands.specs.Received.{BadPair}
use Rattle.demands.specs.NamesTheDamage as N
use Rattle.demands.specs.ReadsBack.{spoken}
use Rattle.damage.specs.ToldApart.{Alike}
use Rattle.demands_met.specs.Met.{index_for, report_for}
use Rattle.recordings.specs.Inverse.{inverses}
use Rattle.promises.specs.Misled as M
use Rattle.promises.specs.Trusted as T
use Rattle.promises.specs.Flipped.{flipped, at11}
use Rattle.promises.specs.Flipped.{hit}
use Rattle.promises.specs.Flipped.{zero_read}
use Rattle.promises.specs.Met.{lost_one, in_second}

-- ---- NEVER MISLED NEEDS ITS LIMITS ON FLIPS: all premises hold but that on headers, not even a packet is damaged, and 8 kHz is read as 11 kHz
pub record Misleads (ch : Choices) (u : Utterance) (s : List ℕ) (flips : ℕ) (tables : Tables) (index report : List ℕ) : Type 0 where
  pub size : length s ≡ length (image_of u)
  pub syncs : (k : ℕ) → k < multiframes_of u → sync_in s k ≡ sync_in (image_of u) k
  pub packets : (q : ℕ) → q < pairs_of u → packet_in s q ≡ packet_in (image_of u) q
  pub each_header : (k : ℕ) → k < multiframes_of u → header_flips (image_of u) s k ≡ flips
  pub unmet : M.AllButOne u s ⊎ M.OnlyFive u s → ⊥
  pub succeeds : (reading ch s tables index report).answer ≡ Ok (spoken (at11 u))
  pub misled : M.AsSent u s (spoken (at11 u)) → ⊥

-- four of the six bits in which the two rates differ: so two are left to 11 kHz
abbrev pub four_bits : ℕ
four_bits = 0x11010001

abbrev pub four_off : Utterance → List ℕ
four_off u = flipped u (λ k. four_bits) (packet_of u.indices)

-- ---- NEVER MISLED NEEDS THE LENGTH: the image of a longer utterance with the same settings. All other premises hold, and it has more multiframes
pub record Lengthens (ch : Choices) (u v : Utterance) (tables : Tables) (index report : List ℕ) : Type 0 where
  pub syncs : (k : ℕ) → k < multiframes_of u → sync_in (image_of v) k ≡ sync_in (image_of u) k
  pub headers : M.AllButOne u (image_of v) ⊎ M.OnlyFive u (image_of v)
  pub succeeds : (reading ch (image_of v) tables index report).answer ≡ Ok (spoken v)
  pub misled : M.AsSent u (image_of v) (spoken v) → ⊥

-- ---- TRUSTED NEEDS ITS LIMITS: read without a warning, and not of the image as written
pub record Mistrusted (ch : Choices) (u : Utterance) (s : List ℕ) (given : Summary) : Type 0 where
  pub warned_of_nothing : T.WithoutWarning ch s zero_tables (index_for (multiframes_of u)) (report_for (multiframes_of u)) given
  pub not_written : T.AsWritten ch u s zero_tables (index_for (multiframes_of u)) (report_for (multiframes_of u)) given → ⊥

-- THE HEADER NOTES: no pair is damaged and all pair notes are 0, but headers are mended or lost and so not as written
pub record Unlooked (ch : Choices) (u : Utterance) : Type 0 where
  pub premises : T.Premises u (lost_one u)
  pub succeeds : (zero_read ch u (lost_one u)).answer ≡ Ok (spoken u)
  pub pair_notes_lem : (q : ℕ) → q < pairs_of u → pair_note_in (zero_read ch u (lost_one u)).report q ≡ 0
  pub not_written : T.AsWritten ch u (lost_one u) zero_tables (index_for (multiframes_of u)) (report_for (multiframes_of u)) (spoken u) → ⊥

-- ---- NAMES THE DAMAGE WIDER NEEDS TWO READABLE HEADERS: of two multiframes, one header has two flips and the other three, and no pair is
-- damaged. All other premises hold, and the reading is refused with 16, both buffers as they came
abbrev pub one_readable : ℕ → ℕ
one_readable k = when (eqb k 0) 3 7

abbrev pub other_lost : Utterance → List ℕ
other_lost u = flipped u one_readable (packet_of u.indices)

pub record Unsettles (ch : Choices) (u : Utterance) (s : List ℕ) : Type 0 where
  pub damage : DamageUpTo 3 (multiframes_of u) (image_of u) s
  pub first : header_flips (image_of u) s 0 ≡ 2
  pub second : header_flips (image_of u) s 1 ≡ 3
  pub none_bad : (q : ℕ) → q < pairs_of u → BadPair u s zero_tables q → ⊥
  pub refused : zero_read ch u s ≡ outcome (Err Unsettled) (index_for (multiframes_of u)) (report_for (multiframes_of u))
  pub not_named : N.Named ch u s zero_tables (index_for (multiframes_of u)) (report_for (multiframes_of u)) → ⊥

-- ---- NAMES THE DAMAGE WIDER NEEDS THREE: of three multiframes or more the second header has four flips and is read as one of 11 kHz, and no pair is damaged.
-- All other premises hold and the settings are those sent, and yet that header's note is 10 and not its number of flips
pub record Misnotes (ch : Choices) (u : Utterance) (s : List ℕ) : Type 0 where
  pub damage : DamageUpTo 4 (multiframes_of u) (image_of u) s
  pub headers : TwoReadable u s
  pub none_bad : (q : ℕ) → q < pairs_of u → BadPair u s zero_tables q → ⊥
  pub four : header_flips (image_of u) s 1 ≡ 4
  pub note_is_10 : header_note_in (zero_read ch u s).report 1 ≡ 10
  pub given : Summary
  pub succeeds : (zero_read ch u s).answer ≡ Ok given
  pub sent : M.AsSent u s given
  pub not_named : N.Named ch u s zero_tables (index_for (multiframes_of u)) (report_for (multiframes_of u)) → ⊥

abbrev pub second_four : Utterance → List ℕ
second_four u = flipped u (in_second four_bits 0) (packet_of u.indices)

-- ---- TOLD APART BY ONE HEADER NEEDS FIVE: the same frames at 8 and at 11 kHz, and octets whose headers are halfway between. All other premises
-- hold, each header's flips add up to six, and the settings are not equal
pub record Confused (u : Utterance) (s : List ℕ) : Type 0 where
  pub one : DamageUpTo header_bits (multiframes_of u) (image_of u) s
  pub other : DamageUpTo header_bits (multiframes_of (at11 u)) (image_of (at11 u)) s
  pub six : (k : ℕ) → k < multiframes_of u → header_flips (image_of u) s k + header_flips (image_of (at11 u)) s k ≡ 6
  pub not_alike : Alike u (at11 u) s s → ⊥

-- the first pair of the last multiframe
abbrev pub last_first : Utterance → ℕ
last_first u = first_pair (multiframes_of u - 1)

-- one flip in the first packet of the last multiframe: it alone is named, and speech is one more than was sent
abbrev pub end_hurt : Utterance → List ℕ
end_hurt u = flipped u (λ k. 0) (hit u (λ q. eqb q (last_first u)))

pub record OneMore (ch : Choices) (u : Utterance) : Type 0 where
  pub wider : N.Wider ch u (end_hurt u) zero_tables (index_for (multiframes_of u)) (report_for (multiframes_of u))
  pub named : pair_note_in (zero_read ch u (end_hurt u)).report (last_first u) ≡ 1
  pub others : (q : ℕ) → q < pairs_of u → (q ≡ last_first u → ⊥) → pair_note_in (zero_read ch u (end_hurt u)).report q ≡ 0
  pub given : Summary
  pub succeeds : (zero_read ch u (end_hurt u)).answer ≡ Ok given
  pub speech : given.speech ≡ frame_count u.indices + 1

-- one flip in each packet of the last multiframe: all of it is named, speech is a multiframe more than was sent, and the end is gone
abbrev pub end_gone : Utterance → List ℕ
end_gone u = flipped u (λ k. 0) (hit u (λ q. leb (last_first u) q))

pub record NoEnd (ch : Choices) (u : Utterance) : Type 0 where
  pub wider : N.Wider ch u (end_gone u) zero_tables (index_for (multiframes_of u)) (report_for (multiframes_of u))
  pub others : (q : ℕ) → q < last_first u → pair_note_in (zero_read ch u (end_gone u)).report q ≡ 0
  pub given : Summary
  pub succeeds : (zero_read ch u (end_gone u)).answer ≡ Ok given
  pub speech : given.speech ≡ frame_count u.indices + multiframe_frames
  pub end : given.end ≡ 0

-- ---- NEVER MISLED NEEDS THE SYNCS: the last multiframe is overwritten by inverse syncs. All other premises hold, and one multiframe less is
-- counted. 72 inverse syncs are as long as a multiframe; k multiframes are left
abbrev pub overwritten : Utterance → ℕ → List ℕ
overwritten u k = take (multiframe_octets * k) (image_of u) ++ inverses 72

pub record Miscounts (ch : Choices) (u : Utterance) (k : ℕ) (s : List ℕ) : Type 0 where
  pub size : length s ≡ length (image_of u)
  pub headers : M.AllButOne u s
  pub syncs : (i : ℕ) → i < k → sync_in s i ≡ sync_in (image_of u) i
  pub last_sync : sync_in s k ≡ inverse_first ∷ inverse_second ∷ []
  pub given : Summary
  pub succeeds : (zero_read ch u s).answer ≡ Ok given
  pub count : given.multiframes ≡ k
  pub misled : M.AsSent u s given → ⊥
