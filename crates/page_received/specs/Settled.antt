-- Settings before the end, literally (02, C-11): octets, and what is answered of them. `headed` is a whole multiframe with a header, `count1` and
-- `count2` are 8 kHz, type 0, `eleven` is 11 kHz, type 0.
-- Assumes nothing.
use Rattle.std.specs.Prelude.{ℕ, zero, suc, ◌+◌, ◌-◌, ◌*◌, ◌≤◌, ◌<◌, ◌≡◌, refl, true, false, List, [], ◌∷◌, ◌++◌, length, get_or, take, drop, eqb, Some, None, Ok, Err}
use Rattle.std.proofs.Common.{ap, ap₂, sym, ◌∙◌, subst, inl, inr, length-append, drop_at, take_at, lit<, lit≤, arith, eq-eqb, ne_eqb}
use Rattle.lists.specs.Parts.{part_left}
use Rattle.lists.specs.Rows.{each, length_each, each_at, same_each}
use Rattle.layout.specs.Layout.{multiframe_octets}
use Rattle.choices.specs.Choices.{by_default, by_one_header}
use Rattle.choices.specs.declared.Choices.{Choices}
use Rattle.settings.specs.Settings.{settings}
use Rattle.settings.specs.declared.Settings.{Settings}
use Rattle.bits.specs.Bits.{value, bits, fields, field}
use Rattle.carrier.specs.Carrier.{header_word}
use Rattle.message.specs.Message.{message, rate_of, common_bits, settings_of}
use Rattle.message.specs.Message.Laws.{common_rate, common_exp, exp_shifted, rate_back, exp_back, common_settings, settings_back, message_counts, message_lt}
use Rattle.header.specs.Reading as H
use Rattle.header.specs.declared.Decoded.{Decoded}
use Rattle.header.specs.Types.{Header}
use Rattle.refusals.specs.declared.Reading.{Reading as Refusal}
use Rattle.refusals.specs.declared.Reading.TheVariants.{Unknown, CutShort, Empty, TooMany, Unsettled, Unfit}
use Rattle.cutting.specs.Cutting.{piece_by, sync_met, last_met, Ending, whole, refused, Cutting, ended, walk, cutting}
use Rattle.cutting.specs.Laws.{every}
use Rattle.cutting.proofs.Laws.{every_length, every_at}
use Rattle.header_readings.specs.Readings.{readings}
use Rattle.settling.specs.Settling.{first_agreeing, settling}
use Rattle.settling.proofs.Laws.{not_one, only_clean, only_mended, only_default}
use Rattle.unfit.specs.Laws.{Usable, fit_is, unfit_is}
use Rattle.settling.specs.Types.{Settlement}
use Rattle.until_settled.specs.Types.{Answer}
use Rattle.until_settled.specs.UntilSettled.{read_until, settled_answer, end_answer, answer_by, until_settled}
use Rattle.until_settled.specs.Front.{Front, start, met}
use Rattle.until_settled.specs.Laws.{headers, settling_end}
use Rattle.until_settled.proofs.Laws.{only_the_front, longer, ends_here}
use Rattle.page_images.specs.Headers.{ReadsAs, clean, word_of}
use Rattle.page_images.specs.Headers as Headers
use Rattle.page_received.specs.Received.{headed, count1, count2, flipped, lost, exp9, rate2, one, two, again, length_again, part_again, octet_again, all_lost, read_1, read_2, read_exp, read_flipped, read_rate_2, read_lost, usable_8, common_16, cut_one, head_one, cut_two, heads_two, cut_twice, heads_twice, cut_exp_twice, heads_exp_twice, read_flipped_2}

-- the first header of 11 kHz, type 0
abbrev pub eleven : List ℕ
eleven = 0x09 ∷ 0x00 ∷ 0x0F ∷ 0x3F ∷ []

-- the first header of 16 kHz, type 1
abbrev pub sixteen1 : List ℕ
sixteen1 = 0x0F ∷ 0x00 ∷ 0x0B ∷ 0xFB ∷ []

-- count2 with its first two bits flipped
abbrev pub flipped2 : List ℕ
flipped2 = 0x13 ∷ 0x00 ∷ 0x1D ∷ 0x0D ∷ []

-- these settings, of so many multiframes
abbrev pub told : ℕ → ℕ → ℕ → Answer
told rate kind m = Ok (record { settings = settings rate kind; multiframes = m })

pub record Table (ch : Choices) : Type 0 where
  -- "it settles at the second", and what begins nothing known behind it is not met
  pub at_the_second : until_settled ch two ≡ told 0 0 2
  pub whatever_behind : (more : List ℕ) → until_settled ch (two ++ more) ≡ told 0 0 2
  -- an octet fewer is 13, "sync with too few octets", where the second multiframe begins; with 143 octets where the first does
  pub octets_287 : until_settled ch (take 287 two) ≡ Err (CutShort 144)
  pub octets_143 : until_settled ch (take 143 two) ≡ Err (CutShort 0)
  -- the first two that agree settle: neither the first header nor the last decides, and a lost one is passed over and counted
  pub eight_eleven_eight : until_settled ch (headed count1 ++ (headed eleven ++ (headed count2 ++ headed eleven))) ≡ told 0 0 3
  pub eleven_eight_eight : until_settled ch (headed eleven ++ (headed count1 ++ headed count2)) ≡ told 0 0 3
  -- and the front up to the third decides it, whatever stands behind
  pub front_of_three : (more : List ℕ) → until_settled ch (take 432 (headed count1 ++ (headed eleven ++ (headed count2 ++ headed eleven))) ++ more) ≡ told 0 0 3
  pub lost_between : until_settled ch (headed count1 ++ (headed lost ++ headed count2)) ≡ told 0 0 3
  pub lost_first_lem : until_settled ch (headed lost ++ (headed count1 ++ headed count2)) ≡ told 0 0 3
  pub at_the_fifth : until_settled ch (headed count1 ++ (headed lost ++ (headed lost ++ (headed lost ++ headed count2)))) ≡ told 0 0 5
  -- an inverse sync between them is stepped over, and not counted
  pub inverse_between : until_settled ch (headed count1 ++ (0x78 ∷ 0x4D ∷ headed count2)) ≡ told 0 0 2
  -- another rate and the other type
  pub sixteen_robust : until_settled ch (headed sixteen1 ++ headed sixteen1) ≡ told 3 1 2
  -- mended headers settle: one flip in the first, two in the second
  pub mended_twice : until_settled ch (headed flipped ++ headed flipped2) ≡ told 0 0 2
  -- 17 at once, although what stands behind begins nothing known
  pub rate_2_twice : (more : List ℕ) → until_settled ch ((headed rate2 ++ headed rate2) ++ more) ≡ Err Unfit
  pub exp_9_twice : (more : List ℕ) → until_settled ch ((headed exp9 ++ headed exp9) ++ more) ≡ Err Unfit
  -- an only multiframe, known to be the only one at the end alone: by default 16; by the old rule its settings, or 17, or 16 if it was mended
  pub one_by_default : until_settled by_default one ≡ Err Unsettled
  pub one_asked : until_settled by_one_header one ≡ told 0 0 1
  pub mended_asked : until_settled by_one_header (headed flipped) ≡ Err Unsettled
  pub rate_2_asked : until_settled by_one_header (headed rate2) ≡ Err Unfit
  pub exp_9_asked : until_settled by_one_header (headed exp9) ≡ Err Unfit
  pub inverse_before : until_settled by_one_header (0x78 ∷ 0x4D ∷ one) ≡ told 0 0 1
  -- one of two is not the only one, whether the other is readable or lost
  pub two_unlike : until_settled ch (headed count1 ++ headed eleven) ≡ Err Unsettled
  pub both_lost : until_settled ch (headed lost ++ headed lost) ≡ Err Unsettled
  pub two_flips_asked : until_settled by_one_header (headed flipped2) ≡ Err Unsettled
  pub one_and_lost : until_settled ch (headed count1 ++ headed lost) ≡ Err Unsettled
  pub inverse_behind : until_settled by_one_header (one ++ (0x78 ∷ 0x4D ∷ [])) ≡ told 0 0 1
  pub inverse_by_default : until_settled by_default (one ++ (0x78 ∷ 0x4D ∷ [])) ≡ Err Unsettled
  -- and by the old rule the answer can change as the recording grows: 11 kHz of one multiframe, 8 kHz of three that begin with it (`eleven_eight_eight`)
  pub eleven_asked : until_settled by_one_header (headed eleven) ≡ told 1 0 1
  -- so octets behind it that begin nothing known refuse, also by the old rule
  pub unknown_behind : until_settled ch (one ++ (0x00 ∷ [])) ≡ Err (Unknown 144)
  pub unknown_behind_inverse : until_settled ch (one ++ (0x78 ∷ 0x4D ∷ 0x00 ∷ [])) ≡ Err (Unknown 146)
  pub lone_behind_inverse : until_settled ch (one ++ (0x78 ∷ 0x4D ∷ 0x78 ∷ [])) ≡ Err (CutShort 146)
  pub cut_behind : until_settled ch (one ++ (0x87 ∷ [])) ≡ Err (CutShort 144)
  pub lone_78_behind : until_settled ch (one ++ (0x78 ∷ [])) ≡ Err (CutShort 144)
  pub rate_2_unknown_behind : until_settled ch (headed rate2 ++ (0x00 ∷ [])) ≡ Err (Unknown 144)
  -- 15, "a sync after 255 multiframes, even a cut one", of which no header can be read
  pub sync_256 : until_settled ch (again 255 (headed lost) ++ (0x87 ∷ 0xB2 ∷ [])) ≡ Err (TooMany 36720)
  -- 14, "no multiframe", the octet count
  pub nothing : until_settled ch [] ≡ Err (Empty 0)
  pub only_inverse : until_settled ch (0x78 ∷ 0x4D ∷ []) ≡ Err (Empty 2)
  pub inverse_thrice : until_settled ch (0x78 ∷ 0x4D ∷ 0x78 ∷ 0x4D ∷ 0x78 ∷ 0x4D ∷ []) ≡ Err (Empty 6)
  pub unknown_at_2 : until_settled ch (0x78 ∷ 0x4D ∷ 0x00 ∷ []) ≡ Err (Unknown 2)

-- ---- of octets that are cut so, with headers that are read so
by_parts : (ch : Choices) (s ps : List ℕ) (e : Ending) → cutting s ≡ record { places = ps; ending = e } → (hs : List Header) → readings s ps ≡ hs
    → until_settled ch s ≡ answer_by ch (length s) hs e (first_agreeing [] hs)
unfolding until_settled
by_parts ch s ps e cut hs eh =
    ap (λ (w : Cutting). answer_by ch (length s) (readings s w.places) w.ending (first_agreeing [] (readings s w.places))) cut
    ∙ ap (λ (l : List Header). answer_by ch (length s) l e (first_agreeing [] l)) eh

-- the headers, read
abbrev h1 : Header
h1 = Some (H.decoded_as 0xEE0E0008 8)

abbrev h2 : Header
h2 = Some (H.decoded_as 0x0D1D0010 16)

abbrev m11 : ℕ
m11 = message (settings 1 0) 1 0

abbrev h11 : Header
h11 = Some (H.decoded_as 0x3F0F0009 m11)

read_11 : ReadsAs 0x3F0F0009 m11 0
read_11 = clean m11 0x3F0F0009 (message_lt (settings 1 0) 1 0) (word_of 1 0 1 0x09 0x00 0x0F 0x3F (Headers.table).header_1_0)

-- 8 kHz, type 0, in the common bits of 8 and 16; 11 kHz is another rate
eight_is : 8 ≡ message (settings 0 0) 1 0
eight_is = sym message_counts.0

settings_8 : settings_of (common_bits 8) ≡ settings 0 0
settings_8 = common_settings 8 ∙ ap settings_of eight_is ∙ settings_back (settings 0 0) 1 0 refl

apart : common_bits m11 ≡ common_bits 8 → ⊥
apart e =
    let a : rate_of (common_bits m11) ≡ 1 = common_rate m11 ∙ rate_back (settings 1 0) 1 0 in
    let b : rate_of (common_bits 8) ≡ 0 = common_rate 8 ∙ ap rate_of eight_is ∙ rate_back (settings 0 0) 1 0 in
    let z : ◌≡◌ {A = ℕ} 1 0 = sym a ∙ ap rate_of e ∙ b in
    omega arith

-- what settles 8 kHz
eight_of : (m : ℕ) → settled_answer m (Some (common_bits 8)) ≡ told 0 0 m
eight_of m = rw (fit_is (common_bits 8) usable_8) (ap (λ (x : Settings). Ok (record { settings = x; multiframes = m })) settings_8)

-- and 11 kHz
eleven_of : (m : ℕ) → settled_answer m (Some (common_bits m11)) ≡ told 1 0 m
eleven_of m =
    let r : rate_of (common_bits m11) ≡ 1 = common_rate m11 ∙ rate_back (settings 1 0) 1 0 in
    let u : Usable (common_bits m11) = record { rate = λ e. (let z : ◌≡◌ {A = ℕ} 1 2 = sym r ∙ e in omega arith); exp = common_exp m11 ∙ exp_back (settings 1 0) 1 0 } in
    rw (fit_is (common_bits m11) u) (ap (λ (x : Settings). Ok (record { settings = x; multiframes = m })) (common_settings m11 ∙ settings_back (settings 1 0) 1 0 refl))

-- the tests of common bits
t16_8 : eqb (common_bits 16) (common_bits 8) ≡ true
t16_8 = eq-eqb (common_bits 16) (common_bits 8) common_16

t11_8 : eqb (common_bits m11) (common_bits 8) ≡ false
t11_8 = ne_eqb (common_bits m11) (common_bits 8) apart

t8_11 : eqb (common_bits 8) (common_bits m11) ≡ false
t8_11 = ne_eqb (common_bits 8) (common_bits m11) (λ e. apart (sym e))

t16_11 : eqb (common_bits 16) (common_bits m11) ≡ false
t16_11 = ne_eqb (common_bits 16) (common_bits m11) (λ e. apart (sym e ∙ common_16))

-- ---- two that agree
agreed_two : (first_agreeing [] (h1 ∷ h2 ∷ []) ≡ Some (common_bits 8)) × (read_until [] (h1 ∷ h2 ∷ []) ≡ 2)
unfolding first_agreeing read_until
agreed_two = (rw t16_8 (ap Some common_16), rw t16_8)

two_read : readings two (cutting two).places ≡ h1 ∷ h2 ∷ []
two_read = ap (λ (w : Cutting). readings two w.places) cut_two ∙ heads_two ∙ ap₂ (λ (g h : Header). g ∷ h ∷ []) read_1.0 read_2.0

second : (ch : Choices) → until_settled ch two ≡ told 0 0 2
second ch =
    by_parts ch two (0 ∷ 144 ∷ []) whole cut_two (h1 ∷ h2 ∷ []) (heads_two ∙ ap₂ (λ (g h : Header). g ∷ h ∷ []) read_1.0 read_2.0)
    ∙ rw (agreed_two.0, agreed_two.1) (eight_of 2)

behind_it : (ch : Choices) (more : List ℕ) → until_settled ch (two ++ more) ≡ told 0 0 2
behind_it ch more = longer two (common_bits 8) (ap (first_agreeing []) two_read ∙ agreed_two.0) ch more ∙ second ch

-- ---- three or four headers of which the first two that agree are not the first two
abbrev mixed : List ℕ
mixed = headed count1 ++ (headed eleven ++ (headed count2 ++ headed eleven))

cut_mixed : cutting mixed ≡ record { places = 0 ∷ 144 ∷ 288 ∷ 432 ∷ []; ending = whole }
unfolding walk piece_by sync_met last_met
cut_mixed = refl

heads_mixed : readings mixed (0 ∷ 144 ∷ 288 ∷ 432 ∷ []) ≡ H.reading 0xEE0E0008 ∷ H.reading 0x3F0F0009 ∷ H.reading 0x0D1D0010 ∷ H.reading 0x3F0F0009 ∷ []
unfolding readings value fields field
heads_mixed = refl

agreed_mixed : (first_agreeing [] (h1 ∷ h11 ∷ h2 ∷ h11 ∷ []) ≡ Some (common_bits 8)) × (read_until [] (h1 ∷ h11 ∷ h2 ∷ h11 ∷ []) ≡ 3)
unfolding first_agreeing read_until
agreed_mixed = (rw (t11_8, t16_11, t16_8) (ap Some common_16), rw (t11_8, t16_11, t16_8))

third : (ch : Choices) → until_settled ch mixed ≡ told 0 0 3
third ch =
    by_parts ch mixed (0 ∷ 144 ∷ 288 ∷ 432 ∷ []) whole cut_mixed (h1 ∷ h11 ∷ h2 ∷ h11 ∷ [])
    (heads_mixed ∙ ap₂ (λ (g h : Header). g ∷ H.reading 0x3F0F0009 ∷ h ∷ H.reading 0x3F0F0009 ∷ []) read_1.0 read_2.0 ∙ ap (λ (h : Header). h1 ∷ h ∷ h2 ∷ h ∷ []) read_11.0)
    ∙ rw (agreed_mixed.0, agreed_mixed.1) (eight_of 3)

mixed_read : headers mixed ≡ h1 ∷ h11 ∷ h2 ∷ h11 ∷ []
mixed_read =
    ap (λ (w : Cutting). readings mixed w.places) cut_mixed ∙ heads_mixed
    ∙ ap₂ (λ (g h : Header). g ∷ H.reading 0x3F0F0009 ∷ h ∷ H.reading 0x3F0F0009 ∷ []) read_1.0 read_2.0 ∙ ap (λ (h : Header). h1 ∷ h ∷ h2 ∷ h ∷ []) read_11.0

end_mixed : settling_end mixed ≡ 432
end_mixed =
    ap₂ (λ (ps : List ℕ) (k : ℕ). get_or ps (k - 1) 0 + multiframe_octets) (ap (λ (w : Cutting). w.places) cut_mixed) (ap (read_until []) mixed_read ∙ agreed_mixed.1)

front_three : (ch : Choices) (more : List ℕ) → until_settled ch (take 432 mixed ++ more) ≡ told 0 0 3
front_three ch more =
    only_the_front mixed (common_bits 8) (ap (first_agreeing []) mixed_read ∙ agreed_mixed.0) ch (take 432 mixed ++ more)
    (subst (λ (k : ℕ). take k (take 432 mixed ++ more) ≡ take k mixed) (sym end_mixed) (take_at (take 432 mixed) more 432 refl)) ∙ third ch

abbrev later : List ℕ
later = headed eleven ++ (headed count1 ++ headed count2)

cut_later : cutting later ≡ record { places = 0 ∷ 144 ∷ 288 ∷ []; ending = whole }
unfolding walk piece_by sync_met last_met
cut_later = refl

heads_later : readings later (0 ∷ 144 ∷ 288 ∷ []) ≡ H.reading 0x3F0F0009 ∷ H.reading 0xEE0E0008 ∷ H.reading 0x0D1D0010 ∷ []
unfolding readings value fields field
heads_later = refl

agreed_later : (first_agreeing [] (h11 ∷ h1 ∷ h2 ∷ []) ≡ Some (common_bits 8)) × (read_until [] (h11 ∷ h1 ∷ h2 ∷ []) ≡ 3)
unfolding first_agreeing read_until
agreed_later = (rw (t8_11, t16_8) (ap Some common_16), rw (t8_11, t16_8))

not_the_first : (ch : Choices) → until_settled ch later ≡ told 0 0 3
not_the_first ch =
    by_parts ch later (0 ∷ 144 ∷ 288 ∷ []) whole cut_later (h11 ∷ h1 ∷ h2 ∷ [])
    (heads_later ∙ ap₂ (λ (g h : Header). H.reading 0x3F0F0009 ∷ g ∷ h ∷ []) read_1.0 read_2.0 ∙ ap (λ (h : Header). h ∷ h1 ∷ h2 ∷ []) read_11.0)
    ∙ rw (agreed_later.0, agreed_later.1) (eight_of 3)

abbrev gap : List ℕ
gap = headed count1 ++ (headed lost ++ headed count2)

cut_gap : cutting gap ≡ record { places = 0 ∷ 144 ∷ 288 ∷ []; ending = whole }
unfolding walk piece_by sync_met last_met
cut_gap = refl

heads_gap : readings gap (0 ∷ 144 ∷ 288 ∷ []) ≡ H.reading 0xEE0E0008 ∷ H.reading 0x01010001 ∷ H.reading 0x0D1D0010 ∷ []
unfolding readings value fields field
heads_gap = refl

agreed_gap : (first_agreeing [] (h1 ∷ None ∷ h2 ∷ []) ≡ Some (common_bits 8)) × (read_until [] (h1 ∷ None ∷ h2 ∷ []) ≡ 3)
unfolding first_agreeing read_until
agreed_gap = (rw t16_8 (ap Some common_16), rw t16_8)

past_the_lost : (ch : Choices) → until_settled ch gap ≡ told 0 0 3
past_the_lost ch =
    by_parts ch gap (0 ∷ 144 ∷ 288 ∷ []) whole cut_gap (h1 ∷ None ∷ h2 ∷ [])
    (heads_gap ∙ ap₂ (λ (g h : Header). g ∷ H.reading 0x01010001 ∷ h ∷ []) read_1.0 read_2.0 ∙ ap (λ (h : Header). h1 ∷ h ∷ h2 ∷ []) read_lost)
    ∙ rw (agreed_gap.0, agreed_gap.1) (eight_of 3)

-- ---- rate 2 twice
abbrev m2 : ℕ
m2 = message (settings 2 0) 1 0

abbrev h22 : Header
h22 = Some (H.decoded_as 0x9D0D000A m2)

agreed_rate_2 : first_agreeing [] (h22 ∷ h22 ∷ []) ≡ Some (common_bits m2)
unfolding first_agreeing
agreed_rate_2 = rw (eq-eqb (common_bits m2) (common_bits m2) refl)

rate_2_read : readings (headed rate2 ++ headed rate2) (cutting (headed rate2 ++ headed rate2)).places ≡ h22 ∷ h22 ∷ []
rate_2_read = ap (λ (w : Cutting). readings (headed rate2 ++ headed rate2) w.places) cut_twice ∙ heads_twice ∙ ap (λ (h : Header). h ∷ h ∷ []) read_rate_2.0

rate_2_unfit : (m : ℕ) → settled_answer m (Some (common_bits m2)) ≡ Err Unfit
rate_2_unfit m = rw (unfit_is (common_bits m2) (inl (common_rate m2 ∙ rate_back (settings 2 0) 1 0)))

seventeen : (ch : Choices) (more : List ℕ) → until_settled ch ((headed rate2 ++ headed rate2) ++ more) ≡ Err Unfit
seventeen ch more =
    let s = headed rate2 ++ headed rate2 in
    longer s (common_bits m2) (ap (first_agreeing []) rate_2_read ∙ agreed_rate_2) ch more
    ∙ by_parts ch s (0 ∷ 144 ∷ []) whole cut_twice (h22 ∷ h22 ∷ []) (heads_twice ∙ ap (λ (h : Header). h ∷ h ∷ []) read_rate_2.0) ∙ rw agreed_rate_2 (rate_2_unfit _)

-- ---- one multiframe, with nothing behind it or with a rest
alone : (h : Header) → first_agreeing [] (h ∷ []) ≡ None
unfolding first_agreeing
alone None = refl
alone (Some d) = refl

-- cut so behind its place, its header read so
module _ (ch : Choices) (s : List ℕ) (e : Ending) (cut : cutting s ≡ record { places = 0 ∷ []; ending = e }) (h : Header) (eh : readings s (0 ∷ []) ≡ h ∷ []) where
  only_refused : (r : Refusal) → e ≡ refused r → until_settled ch s ≡ Err r
  only_refused r er = by_parts ch s (0 ∷ []) e cut (h ∷ []) eh ∙ rw (alone h, er)

  only_settles : e ≡ whole → (x : Settlement) → settling ch (h ∷ []) ≡ x → until_settled ch s ≡ settled_answer 1 x
  unfolding end_answer
  only_settles ee x ex = by_parts ch s (0 ∷ []) e cut (h ∷ []) eh ∙ rw (alone h, ee, ex)

one_read : readings one (0 ∷ []) ≡ h1 ∷ []
unfolding value fields field
one_read = head_one 0x08 0x00 0x0E 0xEE ∙ ap (λ (h : Header). h ∷ []) read_1.0

flipped_read : readings (headed flipped) (0 ∷ []) ≡ Some (H.decoded_as 0xEE0E0009 8) ∷ []
unfolding value fields field
flipped_read = head_one 0x09 0x00 0x0E 0xEE ∙ ap (λ (h : Header). h ∷ []) read_flipped.0

rate_2_alone : readings (headed rate2) (0 ∷ []) ≡ h22 ∷ []
unfolding value fields field
rate_2_alone = head_one 0x0A 0x00 0x0D 0x9D ∙ ap (λ (h : Header). h ∷ []) read_rate_2.0

cut_inverse : cutting (one ++ (0x78 ∷ 0x4D ∷ [])) ≡ record { places = 0 ∷ []; ending = whole }
unfolding walk piece_by sync_met last_met
cut_inverse = refl

cut_unknown : cutting (one ++ (0x00 ∷ [])) ≡ record { places = 0 ∷ []; ending = refused (Unknown 144) }
unfolding walk piece_by sync_met last_met
cut_unknown = refl

cut_lone : cutting (one ++ (0x87 ∷ [])) ≡ record { places = 0 ∷ []; ending = refused (CutShort 144) }
unfolding walk piece_by sync_met last_met
cut_lone = refl

cut_287 : cutting (take 287 two) ≡ record { places = 0 ∷ []; ending = refused (CutShort 144) }
unfolding walk piece_by sync_met last_met
cut_287 = refl

cut_78 : cutting (one ++ (0x78 ∷ [])) ≡ record { places = 0 ∷ []; ending = refused (CutShort 144) }
unfolding walk piece_by sync_met last_met
cut_78 = refl

cut_rate_2 : cutting (headed rate2 ++ (0x00 ∷ [])) ≡ record { places = 0 ∷ []; ending = refused (Unknown 144) }
unfolding walk piece_by sync_met last_met
cut_rate_2 = refl

head_rate_2 : readings (headed rate2 ++ (0x00 ∷ [])) (0 ∷ []) ≡ H.reading 0x9D0D000A ∷ []
unfolding readings value fields field
head_rate_2 = refl

head_eleven : readings (headed eleven) (0 ∷ []) ≡ h11 ∷ []
unfolding value fields field
head_eleven = head_one 0x09 0x00 0x0F 0x3F ∙ ap (λ (h : Header). h ∷ []) read_11.0

-- the header of each is the same
headed_so : (s : List ℕ) → readings s (0 ∷ []) ≡ H.reading 0xEE0E0008 ∷ [] → readings s (0 ∷ []) ≡ h1 ∷ []
headed_so s e = e ∙ ap (λ (h : Header). h ∷ []) read_1.0

head_inverse : readings (one ++ (0x78 ∷ 0x4D ∷ [])) (0 ∷ []) ≡ H.reading 0xEE0E0008 ∷ []
unfolding readings value fields field
head_inverse = refl

head_unknown : readings (one ++ (0x00 ∷ [])) (0 ∷ []) ≡ H.reading 0xEE0E0008 ∷ []
unfolding readings value fields field
head_unknown = refl

head_lone : readings (one ++ (0x87 ∷ [])) (0 ∷ []) ≡ H.reading 0xEE0E0008 ∷ []
unfolding readings value fields field
head_lone = refl

head_78 : readings (one ++ (0x78 ∷ [])) (0 ∷ []) ≡ H.reading 0xEE0E0008 ∷ []
unfolding readings value fields field
head_78 = refl

head_287 : readings (take 287 two) (0 ∷ []) ≡ H.reading 0xEE0E0008 ∷ []
unfolding readings value fields field
head_287 = refl

-- ---- no multiframe
none : (ch : Choices) (s : List ℕ) (e : Ending) → cutting s ≡ record { places = []; ending = e } → until_settled ch s ≡ answer_by ch (length s) [] e None
unfolding first_agreeing readings
none ch s e cut = by_parts ch s [] e cut [] refl

cut_143 : cutting (take 143 two) ≡ record { places = []; ending = refused (CutShort 0) }
unfolding walk piece_by sync_met last_met
cut_143 = refl

cut_empty : cutting [] ≡ record { places = []; ending = whole }
unfolding walk
cut_empty = refl

cut_only : cutting (0x78 ∷ 0x4D ∷ []) ≡ record { places = []; ending = whole }
unfolding walk piece_by sync_met last_met
cut_only = refl

empties : (ch : Choices) (s : List ℕ) → cutting s ≡ record { places = []; ending = whole } → until_settled ch s ≡ Err (Empty (length s))
unfolding end_answer
empties ch s cut = none ch s whole cut

-- ---- 255 multiframes of which no header can be read, and a sync
abbrev many : List ℕ
many = again 255 (headed lost) ++ (0x87 ∷ 0xB2 ∷ [])

length_many : length many ≡ 36722
length_many = length-append (again 255 (headed lost)) (0x87 ∷ 0xB2 ∷ []) ∙ ap (λ (n : ℕ). n + 2) (length_again (headed lost) refl 255)

every_more : (q n : ℕ) → every q (suc n) ≡ every q n ++ ((q + multiframe_octets * n) ∷ [])
every_more q zero = ap (λ (k : ℕ). k ∷ []) (omega arith)
every_more q (suc n) = ap (λ (l : List ℕ). q ∷ l) (every_more (q + multiframe_octets) n ∙ ap (λ (k : ℕ). every (q + multiframe_octets) n ++ (k ∷ [])) (omega arith))

octet_many : (k i : ℕ) → k < 255 → i < multiframe_octets → get_or many (multiframe_octets * k + i) 0 ≡ get_or (headed lost) i 0
octet_many k i h l = octet_again (headed lost) refl 255 k i (0x87 ∷ 0xB2 ∷ []) h l

many_front : (k : ℕ) → k ≤ 255 → Front many (multiframe_octets * k) (every 0 k)
many_front zero h = start
many_front (suc k) h =
    let f = many_front k (omega arith) in
    let z : multiframe_octets * k + 0 ≡ multiframe_octets * k = omega arith in
    let e : multiframe_octets * k + multiframe_octets ≡ multiframe_octets * suc k = omega arith in
    let p : 0 + multiframe_octets * k ≡ multiframe_octets * k = omega arith in
    let g = met f (omega (arith, every_length 0 k)) (omega (arith, length_many), ap (λ (i : ℕ). get_or many i 0) (sym z) ∙ octet_many k 0 (omega arith) (lit< tt), octet_many k 1 (omega arith) (lit< tt)) in
    subst (λ (ps : List ℕ). Front many (multiframe_octets * suc k) ps) (sym (every_more 0 k ∙ ap (λ (i : ℕ). every 0 k ++ (i ∷ [])) p)) (subst (λ (i : ℕ). Front many i (every 0 k ++ ((multiframe_octets * k) ∷ []))) e g)

word_many : (k : ℕ) → k < 255 → H.reading (header_word many (multiframe_octets * k)) ≡ None
unfolding value fields field
word_many k h =
    ap (λ (l : List ℕ). H.reading (value (bits l)))
    (part_left (again 255 (headed lost)) (0x87 ∷ 0xB2 ∷ []) (multiframe_octets * k + 2) 4 (omega (arith, length_again (headed lost) refl 255)) ∙ part_again (headed lost) refl 255 k 2 4 h (lit< tt))
    ∙ read_lost

many_lost : readings many (every 0 255) ≡ each (λ k. None) 255
unfolding readings
many_lost =
    ap (each (λ k. H.reading (header_word many (get_or (every 0 255) k 0)))) (every_length 0 255)
    ∙ same_each (λ k. H.reading (header_word many (get_or (every 0 255) k 0))) (λ k. None) 255 (λ k h.
    let z : 0 + multiframe_octets * k ≡ multiframe_octets * k = omega arith in
    ap (λ (i : ℕ). H.reading (header_word many i)) (every_at 0 255 k h ∙ z) ∙ word_many k h)

many_none : first_agreeing [] (readings many (every 0 255)) ≡ None
many_none =
    ap (first_agreeing []) many_lost
    ∙ all_lost (each (λ k. None) 255) (λ k l. each_at (λ k. None) 255 k None (omega (arith, length_each {A = Header} (λ k. None) 255))) []

rest_many : (m : ℕ) → m ≡ 255 → walk 0 (drop 36720 many) 36720 m ≡ ended (refused (TooMany 36720))
unfolding walk piece_by sync_met last_met
rest_many m e = ap (λ (l : List ℕ). walk 0 l 36720 m) (drop_at (again 255 (headed lost)) (0x87 ∷ 0xB2 ∷ []) 36720 (length_again (headed lost) refl 255)) ∙ rw e

fifteen : (ch : Choices) → until_settled ch many ≡ Err (TooMany 36720)
fifteen ch = sym (ends_here ch many (many_front 255 (lit≤ tt)) (refused (TooMany 36720)) (rest_many (length (every 0 255)) (every_length 0 255)) many_none)

-- ---- two that agree, in other places
two_of : (ch : Choices) (s : List ℕ) (p q : ℕ) → cutting s ≡ record { places = p ∷ q ∷ []; ending = whole } → (g h : Header) → readings s (p ∷ q ∷ []) ≡ g ∷ h ∷ []
    → (c : ℕ) → (first_agreeing [] (g ∷ h ∷ []) ≡ Some c) × (read_until [] (g ∷ h ∷ []) ≡ 2) → until_settled ch s ≡ settled_answer 2 (Some c)
two_of ch s p q cut g h eh c a = by_parts ch s (p ∷ q ∷ []) whole cut (g ∷ h ∷ []) eh ∙ rw (a.0, a.1)

abbrev lost_first : List ℕ
lost_first = headed lost ++ (headed count1 ++ headed count2)

cut_lost_first : cutting lost_first ≡ record { places = 0 ∷ 144 ∷ 288 ∷ []; ending = whole }
unfolding walk piece_by sync_met last_met
cut_lost_first = refl

heads_lost_first : readings lost_first (0 ∷ 144 ∷ 288 ∷ []) ≡ H.reading 0x01010001 ∷ H.reading 0xEE0E0008 ∷ H.reading 0x0D1D0010 ∷ []
unfolding readings value fields field
heads_lost_first = refl

agreed_lost_first : (first_agreeing [] (None ∷ h1 ∷ h2 ∷ []) ≡ Some (common_bits 8)) × (read_until [] (None ∷ h1 ∷ h2 ∷ []) ≡ 3)
unfolding first_agreeing read_until
agreed_lost_first = (rw t16_8 (ap Some common_16), rw t16_8)

behind_the_lost : (ch : Choices) → until_settled ch lost_first ≡ told 0 0 3
behind_the_lost ch =
    by_parts ch lost_first (0 ∷ 144 ∷ 288 ∷ []) whole cut_lost_first (None ∷ h1 ∷ h2 ∷ [])
    (heads_lost_first ∙ ap₂ (λ (g h : Header). H.reading 0x01010001 ∷ g ∷ h ∷ []) read_1.0 read_2.0 ∙ ap (λ (h : Header). h ∷ h1 ∷ h2 ∷ []) read_lost)
    ∙ rw (agreed_lost_first.0, agreed_lost_first.1) (eight_of 3)

abbrev five : List ℕ
five = headed count1 ++ (headed lost ++ (headed lost ++ (headed lost ++ headed count2)))

cut_five : cutting five ≡ record { places = 0 ∷ 144 ∷ 288 ∷ 432 ∷ 576 ∷ []; ending = whole }
unfolding walk piece_by sync_met last_met
cut_five = refl

heads_five : readings five (0 ∷ 144 ∷ 288 ∷ 432 ∷ 576 ∷ [])
    ≡ H.reading 0xEE0E0008 ∷ H.reading 0x01010001 ∷ H.reading 0x01010001 ∷ H.reading 0x01010001 ∷ H.reading 0x0D1D0010 ∷ []
unfolding readings value fields field
heads_five = refl

agreed_five : (first_agreeing [] (h1 ∷ None ∷ None ∷ None ∷ h2 ∷ []) ≡ Some (common_bits 8)) × (read_until [] (h1 ∷ None ∷ None ∷ None ∷ h2 ∷ []) ≡ 5)
unfolding first_agreeing read_until
agreed_five = (rw t16_8 (ap Some common_16), rw t16_8)

fifth : (ch : Choices) → until_settled ch five ≡ told 0 0 5
fifth ch =
    by_parts ch five (0 ∷ 144 ∷ 288 ∷ 432 ∷ 576 ∷ []) whole cut_five (h1 ∷ None ∷ None ∷ None ∷ h2 ∷ [])
    (heads_five
    ∙ ap₂ (λ (g h : Header). g ∷ H.reading 0x01010001 ∷ H.reading 0x01010001 ∷ H.reading 0x01010001 ∷ h ∷ []) read_1.0 read_2.0
    ∙ ap (λ (h : Header). h1 ∷ h ∷ h ∷ h ∷ h2 ∷ []) read_lost)
    ∙ rw (agreed_five.0, agreed_five.1) (eight_of 5)

abbrev between : List ℕ
between = headed count1 ++ (0x78 ∷ 0x4D ∷ headed count2)

cut_between : cutting between ≡ record { places = 0 ∷ 146 ∷ []; ending = whole }
unfolding walk piece_by sync_met last_met
cut_between = refl

heads_between : readings between (0 ∷ 146 ∷ []) ≡ H.reading 0xEE0E0008 ∷ H.reading 0x0D1D0010 ∷ []
unfolding readings value fields field
heads_between = refl

over_an_inverse : (ch : Choices) → until_settled ch between ≡ told 0 0 2
over_an_inverse ch =
    two_of ch between 0 146 cut_between h1 h2 (heads_between ∙ ap₂ (λ (g h : Header). g ∷ h ∷ []) read_1.0 read_2.0) (common_bits 8) agreed_two ∙ eight_of 2

-- ---- 16 kHz, type 1
abbrev m16 : ℕ
m16 = message (settings 3 1) 1 0

abbrev h16 : Header
h16 = Some (H.decoded_as 0xFB0B000F m16)

read_16 : ReadsAs 0xFB0B000F m16 0
read_16 = clean m16 0xFB0B000F (message_lt (settings 3 1) 1 0) (word_of 3 1 1 0x0F 0x00 0x0B 0xFB (Headers.table).header_3_1)

cut_16 : cutting (headed sixteen1 ++ headed sixteen1) ≡ record { places = 0 ∷ 144 ∷ []; ending = whole }
unfolding walk piece_by sync_met last_met
cut_16 = refl

heads_16 : readings (headed sixteen1 ++ headed sixteen1) (0 ∷ 144 ∷ []) ≡ H.reading 0xFB0B000F ∷ H.reading 0xFB0B000F ∷ []
unfolding readings value fields field
heads_16 = refl

twice : (d : Decoded) → (first_agreeing [] (Some d ∷ Some d ∷ []) ≡ Some (common_bits d.message)) × (read_until [] (Some d ∷ Some d ∷ []) ≡ 2)
unfolding first_agreeing read_until
twice d = let t = eq-eqb (common_bits d.message) (common_bits d.message) refl in (rw t, rw t)

usable_16 : Usable (common_bits m16)
usable_16 = record {
  rate = λ e. (let z : ◌≡◌ {A = ℕ} 3 2 = sym (common_rate m16 ∙ rate_back (settings 3 1) 1 0) ∙ e in omega arith);
  exp = common_exp m16 ∙ exp_back (settings 3 1) 1 0;
}

robust : (ch : Choices) → until_settled ch (headed sixteen1 ++ headed sixteen1) ≡ told 3 1 2
robust ch =
    two_of ch (headed sixteen1 ++ headed sixteen1) 0 144 cut_16 h16 h16 (heads_16 ∙ ap (λ (h : Header). h ∷ h ∷ []) read_16.0) (common_bits m16) (twice (H.decoded_as 0xFB0B000F m16))
    ∙ rw (fit_is (common_bits m16) usable_16)
    (ap (λ (x : Settings). Ok (record { settings = x; multiframes = 2 })) (common_settings m16 ∙ settings_back (settings 3 1) 1 0 refl))

-- ---- mended
cut_mended : cutting (headed flipped ++ headed flipped2) ≡ record { places = 0 ∷ 144 ∷ []; ending = whole }
unfolding walk piece_by sync_met last_met
cut_mended = refl

heads_mended : readings (headed flipped ++ headed flipped2) (0 ∷ 144 ∷ []) ≡ H.reading 0xEE0E0009 ∷ H.reading 0x0D1D0013 ∷ []
unfolding readings value fields field
heads_mended = refl

agreed_mended : (first_agreeing [] (Some (H.decoded_as 0xEE0E0009 8) ∷ Some (H.decoded_as 0x0D1D0013 16) ∷ []) ≡ Some (common_bits 8))
    × (read_until [] (Some (H.decoded_as 0xEE0E0009 8) ∷ Some (H.decoded_as 0x0D1D0013 16) ∷ []) ≡ 2)
unfolding first_agreeing read_until
agreed_mended = (rw t16_8 (ap Some common_16), rw t16_8)

mended : (ch : Choices) → until_settled ch (headed flipped ++ headed flipped2) ≡ told 0 0 2
mended ch =
    two_of ch (headed flipped ++ headed flipped2) 0 144 cut_mended (Some (H.decoded_as 0xEE0E0009 8)) (Some (H.decoded_as 0x0D1D0013 16))
    (heads_mended ∙ ap₂ (λ (g h : Header). g ∷ h ∷ []) read_flipped.0 read_flipped_2.0) (common_bits 8) agreed_mended ∙ eight_of 2

-- ---- EXP9 twice
exp_unfit : (m : ℕ) → settled_answer m (Some (common_bits 32768)) ≡ Err Unfit
exp_unfit m =
    rw (unfit_is (common_bits 32768) (inr (λ e. (let z : ◌≡◌ {A = ℕ} 256 0 = exp_shifted 32768 (lit< tt) ∙ sym (common_exp 32768) ∙ e in omega arith))))

exp_read : readings (headed exp9 ++ headed exp9) (cutting (headed exp9 ++ headed exp9)).places ≡ Some (H.decoded_as 0xE8808000 32768) ∷ Some (H.decoded_as 0xE8808000 32768) ∷ []
exp_read = ap (λ (w : Cutting). readings (headed exp9 ++ headed exp9) w.places) cut_exp_twice ∙ heads_exp_twice ∙ ap (λ (h : Header). h ∷ h ∷ []) read_exp.0

exp_17_always : (ch : Choices) (more : List ℕ) → until_settled ch ((headed exp9 ++ headed exp9) ++ more) ≡ Err Unfit
exp_17_always ch more =
    let s = headed exp9 ++ headed exp9 in
    let h = Some (H.decoded_as 0xE8808000 32768) in
    longer s (common_bits 32768) (ap (first_agreeing []) exp_read ∙ (twice (H.decoded_as 0xE8808000 32768)).0) ch more
    ∙ two_of ch s 0 144 cut_exp_twice h h (heads_exp_twice ∙ ap (λ (x : Header). x ∷ x ∷ []) read_exp.0) (common_bits 32768) (twice (H.decoded_as 0xE8808000 32768)) ∙ exp_unfit 2

exp_alone : readings (headed exp9) (0 ∷ []) ≡ Some (H.decoded_as 0xE8808000 32768) ∷ []
unfolding value fields field
exp_alone = head_one 0x00 0x80 0x80 0xE8 ∙ ap (λ (h : Header). h ∷ []) read_exp.0

-- ---- two that do not agree
unlike_two : (ch : Choices) (s : List ℕ) (g h : Header) → cutting s ≡ record { places = 0 ∷ 144 ∷ []; ending = whole } → readings s (0 ∷ 144 ∷ []) ≡ g ∷ h ∷ []
    → first_agreeing [] (g ∷ h ∷ []) ≡ None → until_settled ch s ≡ Err Unsettled
unfolding end_answer
unlike_two ch s g h cut eh none =
    by_parts ch s (0 ∷ 144 ∷ []) whole cut (g ∷ h ∷ []) eh ∙ rw (none, not_one ch (g ∷ h ∷ []) (λ e. omega arith) ∙ none)

cut_unlike : cutting (headed count1 ++ headed eleven) ≡ record { places = 0 ∷ 144 ∷ []; ending = whole }
unfolding walk piece_by sync_met last_met
cut_unlike = refl

heads_unlike : readings (headed count1 ++ headed eleven) (0 ∷ 144 ∷ []) ≡ H.reading 0xEE0E0008 ∷ H.reading 0x3F0F0009 ∷ []
unfolding readings value fields field
heads_unlike = refl

none_unlike : (first_agreeing [] (h1 ∷ h11 ∷ []) ≡ None) × (first_agreeing [] (h1 ∷ None ∷ []) ≡ None)
unfolding first_agreeing
none_unlike = (rw t11_8, refl)

none_lost : first_agreeing [] (None ∷ None ∷ []) ≡ None
unfolding first_agreeing
none_lost = refl

cut_both_lost : cutting (headed lost ++ headed lost) ≡ record { places = 0 ∷ 144 ∷ []; ending = whole }
unfolding walk piece_by sync_met last_met
cut_both_lost = refl

heads_both_lost : readings (headed lost ++ headed lost) (0 ∷ 144 ∷ []) ≡ H.reading 0x01010001 ∷ H.reading 0x01010001 ∷ []
unfolding readings value fields field
heads_both_lost = refl

flipped2_read : readings (headed flipped2) (0 ∷ []) ≡ Some (H.decoded_as 0x0D1D0013 16) ∷ []
unfolding value fields field
flipped2_read = head_one 0x13 0x00 0x1D 0x0D ∙ ap (λ (h : Header). h ∷ []) read_flipped_2.0

cut_and_lost : cutting (headed count1 ++ headed lost) ≡ record { places = 0 ∷ 144 ∷ []; ending = whole }
unfolding walk piece_by sync_met last_met
cut_and_lost = refl

heads_and_lost : readings (headed count1 ++ headed lost) (0 ∷ 144 ∷ []) ≡ H.reading 0xEE0E0008 ∷ H.reading 0x01010001 ∷ []
unfolding readings value fields field
heads_and_lost = refl

-- ---- behind and before inverse syncs
cut_unknown_inverse : cutting (one ++ (0x78 ∷ 0x4D ∷ 0x00 ∷ [])) ≡ record { places = 0 ∷ []; ending = refused (Unknown 146) }
unfolding walk piece_by sync_met last_met
cut_unknown_inverse = refl

head_unknown_inverse : readings (one ++ (0x78 ∷ 0x4D ∷ 0x00 ∷ [])) (0 ∷ []) ≡ H.reading 0xEE0E0008 ∷ []
unfolding readings value fields field
head_unknown_inverse = refl

cut_lone_inverse : cutting (one ++ (0x78 ∷ 0x4D ∷ 0x78 ∷ [])) ≡ record { places = 0 ∷ []; ending = refused (CutShort 146) }
unfolding walk piece_by sync_met last_met
cut_lone_inverse = refl

head_lone_inverse : readings (one ++ (0x78 ∷ 0x4D ∷ 0x78 ∷ [])) (0 ∷ []) ≡ H.reading 0xEE0E0008 ∷ []
unfolding readings value fields field
head_lone_inverse = refl

cut_before : cutting (0x78 ∷ 0x4D ∷ one) ≡ record { places = 2 ∷ []; ending = whole }
unfolding walk piece_by sync_met last_met
cut_before = refl

head_before : readings (0x78 ∷ 0x4D ∷ one) (2 ∷ []) ≡ H.reading 0xEE0E0008 ∷ []
unfolding readings value fields field
head_before = refl

before_settles : until_settled by_one_header (0x78 ∷ 0x4D ∷ one) ≡ told 0 0 1
unfolding end_answer
before_settles =
    by_parts by_one_header (0x78 ∷ 0x4D ∷ one) (2 ∷ []) whole cut_before (h1 ∷ []) (head_before ∙ ap (λ (h : Header). h ∷ []) read_1.0)
    ∙ rw (alone h1, only_clean by_one_header (H.decoded_as 0xEE0E0008 8) refl read_1.1) (eight_of 1)

cut_thrice : cutting (0x78 ∷ 0x4D ∷ 0x78 ∷ 0x4D ∷ 0x78 ∷ 0x4D ∷ []) ≡ record { places = []; ending = whole }
unfolding walk piece_by sync_met last_met
cut_thrice = refl

cut_at_2 : cutting (0x78 ∷ 0x4D ∷ 0x00 ∷ []) ≡ record { places = []; ending = refused (Unknown 2) }
unfolding walk piece_by sync_met last_met
cut_at_2 = refl

-- ---- all of them
pub table : (ch : Choices) → Table ch
table ch = record {
  at_the_second = second ch;
  whatever_behind = behind_it ch;
  octets_287 = only_refused ch (take 287 two) (refused (CutShort 144)) cut_287 h1 (headed_so (take 287 two) head_287) (CutShort 144) refl;
  octets_143 = none ch (take 143 two) (refused (CutShort 0)) cut_143;
  eight_eleven_eight = third ch;
  eleven_eight_eight = not_the_first ch;
  front_of_three = front_three ch;
  lost_between = past_the_lost ch;
  lost_first_lem = behind_the_lost ch;
  at_the_fifth = fifth ch;
  inverse_between = over_an_inverse ch;
  sixteen_robust = robust ch;
  mended_twice = mended ch;
  rate_2_twice = seventeen ch;
  exp_9_twice = exp_17_always ch;
  one_by_default = only_settles by_default one whole (cut_one 0x08 0x00 0x0E 0xEE) h1 one_read refl None (only_default by_default h1 refl);
  one_asked = only_settles by_one_header one whole (cut_one 0x08 0x00 0x0E 0xEE) h1 one_read refl (Some (common_bits 8)) (only_clean by_one_header (H.decoded_as 0xEE0E0008 8) refl read_1.1) ∙ eight_of 1;
  mended_asked = only_settles by_one_header (headed flipped) whole (cut_one 0x09 0x00 0x0E 0xEE) (Some (H.decoded_as 0xEE0E0009 8)) flipped_read refl None
      (only_mended by_one_header (H.decoded_as 0xEE0E0009 8) (λ e. omega (arith, read_flipped.1)));
  rate_2_asked = only_settles by_one_header (headed rate2) whole (cut_one 0x0A 0x00 0x0D 0x9D) h22 rate_2_alone refl (Some (common_bits m2)) (only_clean by_one_header (H.decoded_as 0x9D0D000A m2) refl read_rate_2.1)
      ∙ rate_2_unfit 1;
  exp_9_asked = only_settles by_one_header (headed exp9) whole (cut_one 0x00 0x80 0x80 0xE8) (Some (H.decoded_as 0xE8808000 32768)) exp_alone refl (Some (common_bits 32768)) (only_clean by_one_header (H.decoded_as 0xE8808000 32768) refl read_exp.1)
      ∙ exp_unfit 1;
  inverse_before = before_settles;
  two_unlike = unlike_two ch (headed count1 ++ headed eleven) h1 h11 cut_unlike (heads_unlike ∙ ap₂ (λ (g h : Header). g ∷ h ∷ []) read_1.0 read_11.0) none_unlike.0;
  both_lost = unlike_two ch (headed lost ++ headed lost) None None cut_both_lost (heads_both_lost ∙ ap (λ (h : Header). h ∷ h ∷ []) read_lost) none_lost;
  two_flips_asked = only_settles by_one_header (headed flipped2) whole (cut_one 0x13 0x00 0x1D 0x0D) (Some (H.decoded_as 0x0D1D0013 16)) flipped2_read refl None
      (only_mended by_one_header (H.decoded_as 0x0D1D0013 16) (λ e. omega (arith, read_flipped_2.1)));
  one_and_lost = unlike_two ch (headed count1 ++ headed lost) h1 None cut_and_lost (heads_and_lost ∙ ap₂ (λ (g h : Header). g ∷ h ∷ []) read_1.0 read_lost) none_unlike.1;
  inverse_behind = only_settles by_one_header (one ++ (0x78 ∷ 0x4D ∷ [])) whole cut_inverse h1 (headed_so (one ++ (0x78 ∷ 0x4D ∷ [])) head_inverse) refl (Some (common_bits 8))
      (only_clean by_one_header (H.decoded_as 0xEE0E0008 8) refl read_1.1) ∙ eight_of 1;
  inverse_by_default = only_settles by_default (one ++ (0x78 ∷ 0x4D ∷ [])) whole cut_inverse h1 (headed_so (one ++ (0x78 ∷ 0x4D ∷ [])) head_inverse) refl None (only_default by_default h1 refl);
  eleven_asked = only_settles by_one_header (headed eleven) whole (cut_one 0x09 0x00 0x0F 0x3F) h11 head_eleven refl (Some (common_bits m11)) (only_clean by_one_header (H.decoded_as 0x3F0F0009 m11) refl read_11.1) ∙ eleven_of 1;
  lone_78_behind = only_refused ch (one ++ (0x78 ∷ [])) (refused (CutShort 144)) cut_78 h1 (headed_so (one ++ (0x78 ∷ [])) head_78) (CutShort 144) refl;
  rate_2_unknown_behind = only_refused ch (headed rate2 ++ (0x00 ∷ [])) (refused (Unknown 144)) cut_rate_2 h22 (head_rate_2 ∙ ap (λ (h : Header). h ∷ []) read_rate_2.0) (Unknown 144) refl;
  sync_256 = fifteen ch;
  unknown_behind = only_refused ch (one ++ (0x00 ∷ [])) (refused (Unknown 144)) cut_unknown h1 (headed_so (one ++ (0x00 ∷ [])) head_unknown) (Unknown 144) refl;
  unknown_behind_inverse = only_refused ch (one ++ (0x78 ∷ 0x4D ∷ 0x00 ∷ [])) (refused (Unknown 146)) cut_unknown_inverse h1 (headed_so (one ++ (0x78 ∷ 0x4D ∷ 0x00 ∷ [])) head_unknown_inverse) (Unknown 146) refl;
  lone_behind_inverse = only_refused ch (one ++ (0x78 ∷ 0x4D ∷ 0x78 ∷ [])) (refused (CutShort 146)) cut_lone_inverse h1 (headed_so (one ++ (0x78 ∷ 0x4D ∷ 0x78 ∷ [])) head_lone_inverse) (CutShort 146) refl;
  cut_behind = only_refused ch (one ++ (0x87 ∷ [])) (refused (CutShort 144)) cut_lone h1 (headed_so (one ++ (0x87 ∷ [])) head_lone) (CutShort 144) refl;
  nothing = empties ch [] cut_empty;
  only_inverse = empties ch (0x78 ∷ 0x4D ∷ []) cut_only;
  inverse_thrice = empties ch (0x78 ∷ 0x4D ∷ 0x78 ∷ 0x4D ∷ 0x78 ∷ 0x4D ∷ []) cut_thrice;
  unknown_at_2 = none ch (0x78 ∷ 0x4D ∷ 0x00 ∷ []) (refused (Unknown 2)) cut_at_2;
}
