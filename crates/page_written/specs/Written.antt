-- The writer's answers, case by case (01, "Writing"): each number with its place, each pair of neighbours in the order with both applying, and
-- what is accepted. A line for every output says that it stays as it came. Sizes stand as 01 prints them.
-- Assumes nothing.
use Rattle.std.specs.Prelude.{◌≡◌, refl, List, [], ◌∷◌, ◌++◌, ℕ, ◌*◌, ◌≤◌, length, replicate, Ok}
use Rattle.std.proofs.Common.{ap, lit≤}
use Rattle.std.proofs.Math.Bool.{xor}
use Rattle.lists.specs.Search.{first_from}
use Rattle.layout.specs.Layout.{stream_octets, first_pair, multiframe_pairs}
use Rattle.settings.specs.Settings.{settings}
use Rattle.frames.specs.Frames.{zero_frame}
use Rattle.bits.specs.Bits.{numbers, value, laid, field, octets}
use Rattle.crc.specs.Crc.{crc, after}
use Rattle.packet.specs.Packet.{packet, guarded, row, packet_of, stream}
use Rattle.image.specs.Image.{image}
use Rattle.writer.specs.Writing.{number_of, place_of, room_answer, verdict, writing}
use Rattle.writer.specs.Types.{Answer}
use Rattle.page_images.specs.Headers.{header, multiframe_is}
use Rattle.page_images.specs.Headers as H
use Rattle.page_images.specs.Images.{lent}
use Rattle.page_images.specs.Spoken.{written_ones}

-- what is seen of a call: the answer's number and place, and the output
pub record Seen : Type 0 where
  pub number : ℕ
  pub place : ℕ
  pub output : List ℕ

abbrev pub seen : ℕ → ℕ → List ℕ → Seen
seen n p o = record { number = n; place = p; output = o }

abbrev pub write : ℕ → ℕ → List ℕ → List ℕ → Seen
write rate kind idx out = seen (number_of (writing (settings rate kind) idx out).answer) (place_of (writing (settings rate kind) idx out).answer) (writing (settings rate kind) idx out).output

-- the number and the place alone
abbrev pub told : ℕ → ℕ → List ℕ → List ℕ → ℕ × ℕ
told rate kind idx out = (number_of (writing (settings rate kind) idx out).answer, place_of (writing (settings rate kind) idx out).answer)

-- no frame: a sync, a header and zeros, and two octets beyond
abbrev pub silence : List ℕ → List ℕ
silence header = 0x87 ∷ 0xB2 ∷ (header ++ (replicate 138 0 ++ lent 2))

-- n frames of ones, n frames of zeros, and a frame whose sixth index is too large
abbrev pub ones : ℕ → List ℕ
ones n = replicate (7 * n) 1

abbrev pub zeros : ℕ → List ℕ
zeros n = replicate (7 * n) 0

abbrev pub wide : List ℕ
wide = 1 ∷ 1 ∷ 1 ∷ 1 ∷ 1 ∷ 64 ∷ 1 ∷ []

-- 01's table of the writer's refusals, and the examples of what is accepted
pub record Table : Type 0 where
  -- "1: rate not 0, 1 or 3, or type above 1; place 0"
  pub rate_2 : (out : List ℕ) → write 2 0 [] out ≡ seen 1 0 out
  pub rate_4 : (out : List ℕ) → write 4 0 [] out ≡ seen 1 0 out
  pub rate_255 : (out : List ℕ) → write 255 1 [] out ≡ seen 1 0 out
  pub type_2 : (out : List ℕ) → write 0 2 [] out ≡ seen 1 0 out
  -- "2: index octets no multiple of 7; their number"
  pub octets_8 : (out : List ℕ) → write 0 0 (replicate 8 1) out ≡ seen 2 8 out
  -- "3: more than 6,119 frames; frame count"
  pub frames_6120 : (out : List ℕ) → write 0 0 (replicate 42840 1) out ≡ seen 3 6120 out
  -- "4: one of the first six indices of a frame above 63; first such frame"
  pub wide_first : (out : List ℕ) → write 0 0 (64 ∷ replicate 6 1) out ≡ seen 4 1 out
  pub wide_sixth : (out : List ℕ) → write 0 0 (ones 1 ++ wide) out ≡ seen 4 2 out
  pub wide_twice : (out : List ℕ) → write 0 0 (ones 1 ++ (wide ++ wide)) out ≡ seen 4 2 out
  -- "5: an all-zero frame that is the last, or whose number is a multiple of 24; first such frame"
  pub zero_last : (out : List ℕ) → write 0 0 (ones 2 ++ zeros 1) out ≡ seen 5 3 out
  pub zero_24 : (out : List ℕ) → write 0 0 (ones 23 ++ (zeros 1 ++ ones 1)) out ≡ seen 5 24 out
  pub zero_48 : (out : List ℕ) → write 0 0 (ones 47 ++ (zeros 1 ++ ones 2)) out ≡ seen 5 48 out
  -- "6: output shorter than 144m; octets needed"
  pub short_143 : write 0 0 [] (lent 143) ≡ seen 6 144 (lent 143)
  pub short_287 : write 0 0 (ones 24) (lent 287) ≡ seen 6 288 (lent 287)
  -- "Order is by number": of two neighbours both apply, and 4 is searched over all frames before 5
  pub one_before_two : (out : List ℕ) → write 2 0 (1 ∷ []) out ≡ seen 1 0 out
  pub two_before_three : (out : List ℕ) → write 0 0 (replicate 42841 1) out ≡ seen 2 42841 out
  pub three_before_four : (out : List ℕ) → write 0 0 (replicate 42840 64) out ≡ seen 3 6120 out
  pub four_before_five : (out : List ℕ) → write 0 0 (wide ++ zeros 1) out ≡ seen 4 1 out
  pub four_behind_five : (out : List ℕ) → write 0 0 (ones 23 ++ (zeros 1 ++ wide)) out ≡ seen 4 25 out
  pub five_before_six : write 0 0 (zeros 1) (lent 143) ≡ seen 5 1 (lent 143)
  -- "Success (0) gives 144m; octets beyond that stay": both types and all three rates
  pub set_0_0 : write 0 0 [] (lent 146) ≡ seen 0 144 (silence (0x08 ∷ 0x00 ∷ 0x0E ∷ 0xEE ∷ []))
  pub set_0_1 : write 0 1 [] (lent 146) ≡ seen 0 144 (silence (0x0C ∷ 0x00 ∷ 0x09 ∷ 0x59 ∷ []))
  pub set_1_0 : write 1 0 [] (lent 146) ≡ seen 0 144 (silence (0x09 ∷ 0x00 ∷ 0x0F ∷ 0x3F ∷ []))
  pub set_1_1 : write 1 1 [] (lent 146) ≡ seen 0 144 (silence (0x0D ∷ 0x00 ∷ 0x08 ∷ 0x88 ∷ []))
  pub set_3_0 : write 3 0 [] (lent 146) ≡ seen 0 144 (silence (0x0B ∷ 0x00 ∷ 0x0C ∷ 0x4C ∷ []))
  pub set_3_1 : write 3 1 [] (lent 146) ≡ seen 0 144 (silence (0x0F ∷ 0x00 ∷ 0x0B ∷ 0xFB ∷ []))
  -- "n = 23 gives one multiframe, 24 two, 6,119 gives 255"
  pub frames_23 : told 0 0 (ones 23) (lent 144) ≡ (0, 144)
  pub frames_24 : told 0 0 (ones 24) (lent 288) ≡ (0, 288)
  pub frames_6119 : (out : List ℕ) → 36720 ≤ length out → told 0 0 (replicate 42833 1) out ≡ (0, 36720)
  -- "Index 63 passes", and the seventh index has 8 bits
  pub index_63 : told 0 0 (63 ∷ 63 ∷ 63 ∷ 63 ∷ 63 ∷ 63 ∷ 255 ∷ []) (lent 144) ≡ (0, 144)
  -- a zero frame that is neither the last nor a multiple of 24
  pub zero_2 : told 0 0 (ones 1 ++ (zeros 1 ++ ones 1)) (lent 144) ≡ (0, 144)
  pub zero_23 : told 0 0 (ones 22 ++ (zeros 1 ++ ones 2)) (lent 288) ≡ (0, 288)
  pub zero_25 : told 0 0 (ones 24 ++ (zeros 1 ++ ones 1)) (lent 288) ≡ (0, 288)
  -- a frame speaks by any of its seven indices, and of the first 24 frames the 24th alone has to
  pub last_seventh : told 0 0 (replicate 6 0 ++ (1 ∷ [])) (lent 144) ≡ (0, 144)
  pub zeros_then_24 : told 0 0 (zeros 23 ++ ones 1) (lent 288) ≡ (0, 288)

-- ---- no frame, of any settings
no_stream : octets stream_octets (stream [] (first_pair 0) multiframe_pairs) ≡ replicate 138 0
unfolding numbers value stream packet_of packet guarded crc after laid field xor row
no_stream = refl

silent : (rate kind : ℕ) (h : List ℕ) → verdict (settings rate kind) [] 146 ≡ Ok 144 → header rate kind 1 ≡ h
    → write rate kind [] (lent 146) ≡ seen 0 144 (0x87 ∷ 0xB2 ∷ ((h ++ replicate 138 0) ++ lent 2))
unfolding writing image
silent rate kind h e f = rw e (ap (λ (i : List ℕ). seen 0 144 (i ++ lent 2)) (multiframe_is rate kind [] 0 h (replicate 138 0) f no_stream))

long : (out : List ℕ) → 36720 ≤ length out → told 0 0 (replicate 42833 1) out ≡ (0, 36720)
long out h = ap (λ (a : Answer). (number_of a, place_of a)) (written_ones (settings 0 0) 6119 refl (lit≤ tt) out h)

pub table : Table
unfolding writing verdict room_answer first_from zero_frame
table = record {
  rate_2 = λ out. refl;
  rate_4 = λ out. refl;
  rate_255 = λ out. refl;
  type_2 = λ out. refl;
  octets_8 = λ out. refl;
  frames_6120 = λ out. refl;
  wide_first = λ out. refl;
  wide_sixth = λ out. refl;
  wide_twice = λ out. refl;
  zero_last = λ out. refl;
  zero_24 = λ out. refl;
  zero_48 = λ out. refl;
  short_143 = refl;
  short_287 = refl;
  one_before_two = λ out. refl;
  two_before_three = λ out. refl;
  three_before_four = λ out. refl;
  four_before_five = λ out. refl;
  four_behind_five = λ out. refl;
  five_before_six = refl;
  set_0_0 = silent 0 0 (0x08 ∷ 0x00 ∷ 0x0E ∷ 0xEE ∷ []) refl (H.table).header_0_0;
  set_0_1 = silent 0 1 (0x0C ∷ 0x00 ∷ 0x09 ∷ 0x59 ∷ []) refl (H.table).header_0_1;
  set_1_0 = silent 1 0 (0x09 ∷ 0x00 ∷ 0x0F ∷ 0x3F ∷ []) refl (H.table).header_1_0;
  set_1_1 = silent 1 1 (0x0D ∷ 0x00 ∷ 0x08 ∷ 0x88 ∷ []) refl (H.table).header_1_1;
  set_3_0 = silent 3 0 (0x0B ∷ 0x00 ∷ 0x0C ∷ 0x4C ∷ []) refl (H.table).header_3_0;
  set_3_1 = silent 3 1 (0x0F ∷ 0x00 ∷ 0x0B ∷ 0xFB ∷ []) refl (H.table).header_3_1;
  frames_23 = refl;
  frames_24 = refl;
  frames_6119 = long;
  index_63 = refl;
  zero_2 = refl;
  zero_23 = refl;
  zero_25 = refl;
  last_seventh = refl;
  zeros_then_24 = refl;
}
