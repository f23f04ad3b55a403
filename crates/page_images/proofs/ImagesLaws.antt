-- Images, octet for octet: what the writer's contract promises for two utterances, and the reader's for their octets. The octets come from
-- 01 and from a program outside of Rattle, none from the definitions, and sizes stand as 01 prints them.
-- Assumes nothing.
use Rattle.std.specs.Prelude.{◌≡◌, refl, true, false, List, ◌++◌, ℕ, ◌+◌, ◌^◌, ◌<◌, T, ltb, length, drop, get_or, Ok}
use Rattle.std.proofs.Common.{sym, ap, ap₂, ◌∙◌, subst, inl, inr, arith, ltb→lt, lit<, lit≤}
use Rattle.std.proofs.Math.Bool.{xor}
use Rattle.std.proofs.Math.Decide.{dec_lt}
use Rattle.std.proofs.Math.ListN.{get_or-eq_default}
use Rattle.lists.specs.Tests.{all, all_holds}
use Rattle.lists.specs.Parts.{part}
use Rattle.lists.specs.Search.{first_from}
use Rattle.layout.specs.Layout.{widths, stream_octets, first_pair, multiframe_pairs}
use Rattle.choices.specs.Choices.{by_one_header}
use Rattle.choices.specs.declared.Choices.{Choices}
use Rattle.tables.specs.Tables.{zero_tables}
use Rattle.tables.proofs.AdmittedLaws.{zero_right}
use Rattle.settings.specs.Settings.{settings}
use Rattle.frames.specs.Frames.{zero_frame as isZeroFrame}
use Rattle.bits.specs.Bits.{numbers, value, laid, field, fields, bits, octets}
use Rattle.crc.specs.Crc.{crc, after}
use Rattle.packet.specs.Packet.{packet, guarded, row, packet_of, stream}
use Rattle.packet.specs.Examples.{one_frame, zero_frame}
use Rattle.header_code.specs.Code.{codeword}
use Rattle.header_code.specs.Code.Distance.{codeword_lt}
use Rattle.header_code.specs.Code.Examples as C
use Rattle.message.specs.Message.{message}
use Rattle.message.specs.Message.Laws.{message_lt, message_nothing, message_rate_1, count_mod}
use Rattle.image.specs.Image.{image}
use Rattle.image.specs.Made.{Small, header_in}
use Rattle.image.proofs.Laws.{image_header}
use Rattle.writer.specs.Writing.{room_answer, verdict, outcome}
use Rattle.writer.specs.Utterance.{Utterance}
use Rattle.writer.proofs.Utterance.{writes}
use Rattle.reader.specs.Reading.{reading}
use Rattle.worked_examples.specs.Examples.{header8}
use Rattle.worked_examples.specs.Examples as E
use Rattle.damage.specs.Instances.{says1}
use Rattle.demands.proofs.ReadsBackLaws.{reads_image}
use Rattle.page_images.specs.Headers.{same_octets, multiframe_is}
use Rattle.page_images.specs.Headers as H
use Rattle.page_images.specs.Images.{Table, dsrlist_input, lent, said, said_first, said_second, spoken_behind}

-- ---- the streams, computed
one_stream : octets stream_octets (stream one_frame (first_pair 0) multiframe_pairs) ≡ drop 6 dsrlist_input
unfolding numbers value stream packet_of packet guarded crc after laid field xor row
one_stream = refl

first_stream : octets stream_octets (stream said (first_pair 0) multiframe_pairs) ≡ drop 6 said_first
unfolding numbers value stream packet_of packet guarded crc after laid field xor row
first_stream = refl

second_stream : octets stream_octets (stream said (first_pair 1) multiframe_pairs) ≡ drop 6 said_second
unfolding numbers value stream packet_of packet guarded crc after laid field xor row
second_stream = refl

-- ---- the images
-- of 01's one frame, with any settings
pub spoken_image : (rate kind : ℕ) (h : List ℕ) → H.header rate kind 1 ≡ h → image (settings rate kind) one_frame 1 ≡ spoken_behind h
unfolding image
spoken_image rate kind h e = multiframe_is rate kind one_frame 0 h (drop 6 dsrlist_input) e one_stream

one_image : image (settings 0 0) one_frame 1 ≡ dsrlist_input
one_image = spoken_image 0 0 (part 2 4 dsrlist_input) (H.table).header_0_0

said_image : image (settings 3 1) said 2 ≡ said_first ++ said_second
unfolding image
said_image =
    ap₂ (λ (x y : List ℕ). x ++ y) (multiframe_is 3 1 said 0 (part 2 4 said_first) (drop 6 said_first) (H.table).header_3_1 first_stream)
    (multiframe_is 3 1 said 1 (part 2 4 said_second) (drop 6 said_second) (H.table).second_3_1 second_stream)

header_at : (rate kind : ℕ) (idx : List ℕ) (m k : ℕ) → k < m → header_in (image (settings rate kind) idx m) k ≡ C.octets (codeword (message (settings rate kind) (k + 1) 0))
header_at rate kind idx m k h =
    let x = message (settings rate kind) (k + 1) 0 in
    image_header (settings rate kind) idx m k h ∙ same_octets (codeword x) (codeword_lt x (message_lt (settings rate kind) (k + 1) 0))

header_in_lem : (idx : List ℕ) (m k : ℕ) → k < m → header_in (image (settings 0 0) idx m) k ≡ header8 (k + 1)
header_in_lem = header_at 0 0

-- ---- the utterance of 25 frames
small_list : (l : List ℕ) → T (all (λ i. ltb (get_or l i 0) 256) (length l)) → Small l
small_list l t i =
    elim (dec_lt i (length l)) [
      | yes h ↦ ltb→lt (get_or l i 0) 256 (all_holds (λ j. ltb (get_or l j 0) 256) (length l) t i h)
      | no d ↦ subst (λ (x : ℕ). x < 2 ^ 8) (sym (get_or-eq_default l 0 (omega arith))) (lit< tt)
    ]

written_25 : verdict (settings 3 1) said 288 ≡ Ok 288
unfolding verdict room_answer first_from isZeroFrame
written_25 = refl

says25 : Utterance
says25 = record { settings = settings 3 1; indices = said; small = small_list said tt; written = written_25 }

packet_in_lem : part 48 92 (bits dsrlist_input) ≡ packet widths one_frame zero_frame
unfolding fields field packet guarded crc after laid xor
packet_in_lem = refl

bit_in : get_or (bits dsrlist_input) (48 + 90) false ≡ true
unfolding fields field
bit_in = refl

pub table : (ch : Choices) → Table ch
unfolding says25
table ch = record {
  one_written = writes says1 (lent 146) (lit≤ tt) ∙ ap (λ (i : List ℕ). outcome (Ok 144) (i ++ lent 2)) one_image;
  one_read = ap (λ (i : List ℕ). reading by_one_header i zero_tables (lent 170) (lent 15)) (sym one_image)
      ∙ reads_image by_one_header says1 (inr refl) zero_tables (lent 170) (lent 15) (record { right_tables = zero_right; index_room = lit≤ tt; report_room = lit≤ tt });
  header_1 = λ idx m h. header_in_lem idx m 0 h ∙ (E.table).header_count_1;
  header_2 = λ idx m h. header_in_lem idx m 1 h ∙ (E.table).header_count_2;
  header_3 = λ idx m h. header_in_lem idx m 2 h ∙ (E.table).header_count_3;
  header_16 = λ idx m h. header_in_lem idx m 15 h ∙ ap (λ (x : ℕ). C.octets (codeword x)) (sym (count_mod (settings 0 0) 16 0) ∙ message_nothing) ∙ ap C.octets C.codeword_0;
  header_17 = λ idx m h. header_in_lem idx m 16 h ∙ ap (λ (x : ℕ). C.octets (codeword x)) (sym (count_mod (settings 0 0) 17 0)) ∙ (E.table).header_count_1;
  rate_1_alone = λ idx m h. header_at 1 0 idx m 15 h ∙ ap (λ (x : ℕ). C.octets (codeword x)) (sym (count_mod (settings 1 0) 16 0) ∙ message_rate_1) ∙ C.rate_1;
  first_packet = ap (λ (i : List ℕ). part 48 92 (bits i)) one_image ∙ packet_in_lem;
  stream_bit_90 = ap (λ (i : List ℕ). get_or (bits i) (48 + 90) false) one_image ∙ bit_in;
  octet_17 = ap (λ (i : List ℕ). get_or i 17 0) one_image;
  two_written = writes says25 (lent 290) (lit≤ tt) ∙ ap (λ (i : List ℕ). outcome (Ok 288) (i ++ lent 2)) said_image;
  two_read = λ tables right.
      ap (λ (i : List ℕ). reading ch i tables (lent 338) (lent 28)) (sym said_image)
      ∙ reads_image ch says25 (inl (lit≤ tt)) tables (lent 338) (lent 28) (record { right_tables = ((right.0, right.1), right.2); index_room = lit≤ tt; report_room = lit≤ tt });
}
