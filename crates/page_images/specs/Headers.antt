-- The octets of the headers that the literal images have. The header code is shut: each word comes from its laws, the words of matrix 6.2 first.
-- Assumes nothing.
use Rattle.std.specs.Prelude.{◌≡◌, refl, List, [], ◌∷◌, ◌++◌, ℕ, zero, suc, ◌+◌, ◌*◌, ◌/◌, ◌%◌, ◌^◌, ◌≤◌, ◌<◌, get_or, Some}
use Rattle.std.proofs.Common.{sym, ap, ap₂, ◌∙◌, mod-eq_of_lt, add-one, arith, lit<}
use Rattle.std.specs.Int.Bits.{bit_and, bit_or, bit_xor}
use Rattle.std.specs.Int.Count.{ones, ones_in}
use Rattle.polynomials.specs.Light.{ones_in_lem}
use Rattle.layout.specs.Layout.{header_octets, stream_octets, first_pair, multiframe_pairs}
use Rattle.settings.specs.Settings.{settings}
use Rattle.bits.specs.Bits.{numbers, value, field, octets}
use Rattle.bits.proofs.Laws.{take_field, drop_field, value_field}
use Rattle.packet.specs.Packet.{stream}
use Rattle.header_code.specs.Code.{parity, codeword, flips_to}
use Rattle.header_code.specs.Code.Distance.{codeword_lt, itself_near}
use Rattle.header_code.specs.Code.Parity.{parity_zero, parity_next, words, words_right, codeword_packed}
use Rattle.header_code.specs.Code.Examples as E
use Rattle.message.specs.Message.{message, settings_of}
use Rattle.message.specs.Message.Laws.{message_lt, message_back, rate_masked, type_masked, count_masked, exp_shifted}
use Rattle.header.specs.Reading as R
use Rattle.header.proofs.Laws.{near, flips_of}
use Rattle.image.specs.Image.{multiframe}

-- ---- the octets of a word
four_octets : (w : ℕ)
    → octets header_octets (field 32 w) ≡ w % 2 ^ 8 ∷ w / 2 ^ 8 % 2 ^ 8 ∷ w / 2 ^ 8 / 2 ^ 8 % 2 ^ 8 ∷ w / 2 ^ 8 / 2 ^ 8 / 2 ^ 8 % 2 ^ 8 ∷ []
unfolding numbers
four_octets w =
    let a = w / 2 ^ 8 in
    let b = a / 2 ^ 8 in
    let c = b / 2 ^ 8 in
    rw (take_field 8 24 w, drop_field 8 24 w, take_field 8 16 a, drop_field 8 16 a, take_field 8 8 b, drop_field 8 8 b, value_field 8 w, value_field 8 a)
    (rw (value_field 8 b, take_field 8 0 c, value_field 8 c))

-- as an image lays them, they are those of 01's (P) examples
pub same_octets : (w : ℕ) → w < 2 ^ 32 → octets header_octets (field 32 w) ≡ E.octets w
same_octets w h =
    let a : w / 2 ^ 8 / 2 ^ 8 % 2 ^ 8 ≡ w / 65536 % 256 = omega arith in
    let b : w / 2 ^ 8 / 2 ^ 8 / 2 ^ 8 % 2 ^ 8 ≡ w / 16777216 = omega arith in
    four_octets w ∙ ap₂ (λ (x y : ℕ). w % 2 ^ 8 ∷ w / 2 ^ 8 % 2 ^ 8 ∷ x ∷ y ∷ []) a b

-- ---- the header of a message, computed: P1 to P15 from the words of its bits, then P16
sum : ℕ → ℕ → ℕ
sum m zero = 0
sum m (suc i) = bit_xor (sum m i) (get_or words i 0 * (m / 2 ^ i % 2))

parity_sum : (m i : ℕ) → i ≤ 16 → parity (m % 2 ^ i) ≡ sum m i
unfolding sum
parity_sum m zero h = ap parity (omega arith) ∙ parity_zero
parity_sum m (suc i) h =
    ap (λ (n : ℕ). parity (m % 2 ^ n)) (sym (add-one i)) ∙ parity_next m i
    ∙ ap₂ bit_xor (parity_sum m i (omega arith)) (ap (λ (w : ℕ). w * (m / 2 ^ i % 2)) (sym (words_right i (omega arith))))

front : ℕ → ℕ
front m = bit_or (sum m 16 * 2 ^ 16 % 2 ^ 32) m

word : ℕ → ℕ
word m = bit_or (bit_and (ones_in 31 (front m)) 1 * 2 ^ 31 % 2 ^ 32) (front m)

codeword_is : (m : ℕ) → m < 2 ^ 16 → front m < 2 ^ 31 → codeword m ≡ word m
unfolding front word
codeword_is m h l =
    sym (codeword_packed m (sum m 16) h (sym (parity_sum m 16 (omega arith)) ∙ ap parity (mod-eq_of_lt h)))
    ∙ ap (λ (x : ℕ). bit_or (bit_and x 1 * 2 ^ 31 % 2 ^ 32) (front m)) (sym (ones_in_lem 31 (front m) l))

message_is : (m : ℕ) → m < 2 ^ 16 → message (settings (bit_and m 3) (bit_and (m / 4) 1)) (bit_and (m / 8) 15) (m / 128) ≡ m
message_is m h =
    ap₂ (λ (r t : ℕ). message (settings r t) (bit_and (m / 8) 15) (m / 128)) (rate_masked m) (type_masked m)
    ∙ ap₂ (λ (c e : ℕ). message (settings_of m) c e) (count_masked m) (exp_shifted m h) ∙ message_back m h

-- the header of these settings and this counter, as an image has it
abbrev pub header : ℕ → ℕ → ℕ → List ℕ
header rate kind count = octets header_octets (field 32 (codeword (message (settings rate kind) count 0)))

header_is : (m : ℕ) → m < 2 ^ 16 → front m < 2 ^ 31 → m / 128 ≡ 0
    → header (bit_and m 3) (bit_and (m / 4) 1) (bit_and (m / 8) 15) ≡ octets header_octets (field 32 (word m))
header_is m h l z =
    ap (λ (w : ℕ). octets header_octets (field 32 w))
    (ap (λ (e : ℕ). codeword (message (settings (bit_and m 3) (bit_and (m / 4) 1)) (bit_and (m / 8) 15) e)) (sym z) ∙ ap codeword (message_is m h) ∙ codeword_is m h l)

-- a multiframe from its header and its stream
pub multiframe_is : (rate kind : ℕ) (idx : List ℕ) (k : ℕ) (h b : List ℕ) → header rate kind (k + 1) ≡ h
    → octets stream_octets (stream idx (first_pair k) multiframe_pairs) ≡ b → multiframe (settings rate kind) idx k ≡ 0x87 ∷ 0xB2 ∷ (h ++ b)
unfolding multiframe
multiframe_is rate kind idx k h b eh eb = ap₂ (λ (x y : List ℕ). 0x87 ∷ 0xB2 ∷ (x ++ y)) eh eb

-- the octets, as a program outside of Rattle gives them
pub record Table : Type 0 where
  -- the first header of each of the six settings: 8, 11 and 16 kHz, standard and noise robust
  pub header_0_0 : header 0 0 1 ≡ 0x08 ∷ 0x00 ∷ 0x0E ∷ 0xEE ∷ []
  pub header_0_1 : header 0 1 1 ≡ 0x0C ∷ 0x00 ∷ 0x09 ∷ 0x59 ∷ []
  pub header_1_0 : header 1 0 1 ≡ 0x09 ∷ 0x00 ∷ 0x0F ∷ 0x3F ∷ []
  pub header_1_1 : header 1 1 1 ≡ 0x0D ∷ 0x00 ∷ 0x08 ∷ 0x88 ∷ []
  pub header_3_0 : header 3 0 1 ≡ 0x0B ∷ 0x00 ∷ 0x0C ∷ 0x4C ∷ []
  pub header_3_1 : header 3 1 1 ≡ 0x0F ∷ 0x00 ∷ 0x0B ∷ 0xFB ∷ []
  -- of rate 2, which is undefined
  pub header_2_0 : header 2 0 1 ≡ 0x0A ∷ 0x00 ∷ 0x0D ∷ 0x9D ∷ []
  -- of 11 kHz in the fourth place
  pub fourth_1_0 : header 1 0 4 ≡ 0x21 ∷ 0x00 ∷ 0x3B ∷ 0xCB ∷ []
  -- and a second header
  pub second_3_1 : header 3 1 2 ≡ 0x17 ∷ 0x00 ∷ 0x18 ∷ 0x18 ∷ []

pub table : Table
unfolding front word sum words numbers value field ones_in
table = record {
  header_0_0 = header_is 8 (lit< tt) (lit< tt) refl;
  header_0_1 = header_is 12 (lit< tt) (lit< tt) refl;
  header_1_0 = header_is 9 (lit< tt) (lit< tt) refl;
  header_1_1 = header_is 13 (lit< tt) (lit< tt) refl;
  header_3_0 = header_is 11 (lit< tt) (lit< tt) refl;
  header_3_1 = header_is 15 (lit< tt) (lit< tt) refl;
  header_2_0 = header_is 10 (lit< tt) (lit< tt) refl;
  fourth_1_0 = header_is 33 (lit< tt) (lit< tt) refl;
  second_3_1 = header_is 23 (lit< tt) (lit< tt) refl;
}

-- ---- as they are read
-- the codeword from the header's octets
pub word_of : (rate kind count a b c d : ℕ) → header rate kind count ≡ a ∷ b ∷ c ∷ d ∷ [] → codeword (message (settings rate kind) count 0) ≡ a + 256 * b + 65536 * c + 16777216 * d
word_of rate kind count a b c d e =
    let m = message (settings rate kind) count 0 in
    E.of_octets (codeword m) a b c d (sym (same_octets (codeword m) (codeword_lt m (message_lt (settings rate kind) count 0))) ∙ e)

-- a word is read as this message, with so many flips
abbrev pub ReadsAs : ℕ → ℕ → ℕ → Type 0
ReadsAs w m f = (R.reading w ≡ Some (R.decoded_as w m)) × (flips_to w m ≡ f)

-- a codeword is read as itself
pub clean : (m w : ℕ) → m < 2 ^ 16 → codeword m ≡ w → ReadsAs w m 0
clean m w h e =
    let z = itself_near w m e in
    (near w m h (omega arith), z)

-- and with the bits of f flipped, at most two, as that codeword and their number
pub flips : (m w f k : ℕ) → m < 2 ^ 16 → codeword m ≡ w → ones f ≡ k → k ≤ 2 → ReadsAs (bit_xor w f) m k
flips m w f k h e o l =
    let z : flips_to (bit_xor w f) m ≡ k = ap (λ (x : ℕ). flips_to (bit_xor x f) m) (sym e) ∙ flips_of m f ∙ o in
    (near (bit_xor w f) m h (omega arith), z)
