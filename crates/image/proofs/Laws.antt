-- The image's length, and what stands where in it.
-- Assumes nothing.
use Rattle.std.specs.Prelude.{◌≡◌, length}
use Rattle.std.proofs.Math.Path.{refl, ap}
use Rattle.std.proofs.Common.{sym, ◌∙◌, subst, arith, length-append}
use mathlib.Core.List.{List, ◌++◌}
use Prim.Native.Nat.{ℕ, zero, suc, ◌+◌, ◌*◌, ◌%◌, ◌<◌}
use Rattle.lists.specs.Parts.{part}
use Rattle.settings.specs.declared.Settings.{Settings}
use Rattle.layout.specs.Layout.{multiframe_pairs, multiframe_octets, header_octets, stream_octets, multiframe_of, first_pair, sync}
use Rattle.bits.specs.Bits.{field, octets}
use Rattle.packet.specs.Packet.{stream, packet_of}
use Rattle.packet.proofs.Laws.{stream_part, length_stream}
use Rattle.header_code.specs.Code.{codeword}
use Rattle.header_code.specs.Code.Distance.{codeword_lt}
use Rattle.message.specs.Message.{message}
use Rattle.message.specs.Message.Laws.{message_lt}
use Rattle.image.specs.Image.{multiframe, image, words, streams}
use Rattle.image.specs.Made.{sync_in, header_in, word_in, stream_in, packet_in, framed, made, Small, length_framed, made_part, made_sync, made_header, made_word, made_stream, made_packet, small_made}

-- ---- its length
pub length_multiframe : (settings : Settings) (idx : List ℕ) (k : ℕ) → length (multiframe settings idx k) ≡ multiframe_octets
unfolding multiframe
length_multiframe settings idx k = length_framed _ _

pub length_image : (settings : Settings) (idx : List ℕ) (m : ℕ) → length (image settings idx m) ≡ multiframe_octets * m
unfolding image
length_image settings idx zero = refl
length_image settings idx (suc m) = rw (length-append, length_image settings idx m, length_multiframe settings idx m) (omega arith)

-- ---- the image is so made
module _ (settings : Settings) (idx : List ℕ) where
  pub image_made : (m : ℕ) → image settings idx m ≡ made (words settings idx) (streams settings idx) m
  unfolding image multiframe
  image_made zero = refl
  image_made (suc m) = ap (λ (l : List ℕ). l ++ framed (words settings idx m) (streams settings idx m)) (image_made m)

  -- ITS k-TH MULTIFRAME
  pub image_part : (m k : ℕ) → k < m → part (multiframe_octets * k) multiframe_octets (image settings idx m) ≡ multiframe settings idx k
  unfolding multiframe
  image_part m k h = ap (part (multiframe_octets * k) multiframe_octets) (image_made m) ∙ made_part (words settings idx) (streams settings idx) m k h

  pub image_small : (m : ℕ) → Small (image settings idx m)
  image_small m = subst Small (sym (image_made m)) (small_made (words settings idx) (streams settings idx) m)

  module _ (m k : ℕ) (h : k < m) where
    -- EACH MULTIFRAME BEGINS WITH THE SYNC
    pub image_sync : sync_in (image settings idx m) k ≡ sync
    image_sync = ap (λ (s : List ℕ). sync_in s k) (image_made m) ∙ made_sync (words settings idx) (streams settings idx) m k h

    -- ITS HEADER IS THE CODEWORD of the settings and the counter, 1 in the first
    pub image_header : header_in (image settings idx m) k ≡ octets header_octets (field 32 (codeword (message settings (k + 1) 0)))
    image_header = ap (λ (s : List ℕ). header_in s k) (image_made m) ∙ made_header (words settings idx) (streams settings idx) m k h

    pub image_word : word_in (image settings idx m) k ≡ codeword (message settings (k + 1) 0)
    image_word =
        ap (λ (s : List ℕ). word_in s k) (image_made m)
        ∙ made_word (words settings idx) (streams settings idx) m k h (codeword_lt (message settings (k + 1) 0) (message_lt settings (k + 1) 0))

    pub image_stream : stream_in (image settings idx m) k ≡ octets stream_octets (stream idx (first_pair k) multiframe_pairs)
    image_stream = ap (λ (s : List ℕ). stream_in s k) (image_made m) ∙ made_stream (words settings idx) (streams settings idx) m k h

  -- ITS PACKETS are those of the pairs, which run on through all multiframes
  pub image_packet : (m q : ℕ) → q < multiframe_pairs * m → packet_in (image settings idx m) q ≡ packet_of idx q
  image_packet m q h =
      let e : first_pair (multiframe_of q) + q % multiframe_pairs ≡ q = omega arith in
      let l : q % multiframe_pairs < multiframe_pairs = omega arith in
      ap (λ (s : List ℕ). packet_in s q) (image_made m) ∙ made_packet (words settings idx) (streams settings idx) m q h (length_stream idx (first_pair (multiframe_of q)) multiframe_pairs)
      ∙ stream_part idx (first_pair (multiframe_of q)) multiframe_pairs (q % multiframe_pairs) l ∙ ap (packet_of idx) e
