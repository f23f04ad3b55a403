-- The reader's table of refusals (01, "Reading"), case by case: each number with its place, literally, and both buffers as they came; each pair of
-- neighbours in the order with both applying; and success with every setting. 01's numbers stand bare here: this is the page that the
-- definitions are held to. Octets are in sending order.
-- Assumes nothing.
use Rattle.std.specs.Prelude.{◌≡◌, Bool, true, List, [], ◌∷◌, ◌++◌, ℕ, zero, suc, ◌+◌, ◌*◌, ◌≤◌, ◌<◌, drop, get_or, replicate, Some, None, Ok, Err}
use Rattle.std.proofs.Math.Path.{refl, sym}
use Rattle.std.proofs.Common.{ap, ap₂, ◌∙◌, subst, inl, inr, arith, lit<, length-append, length-drop, drop_at, get_or-take, get_or-drop}
use Rattle.std.proofs.Math.Bool.{xor}
use Rattle.std.specs.Int.Count.{ones, ones_in}
use Rattle.std.proofs.Math.ListN.{length, get_or-append}
use borrow.Author.Tests.{eq-eqb, ne_eqb, lt-ltb, le-ltb}
use Rattle.polynomials.specs.Light.{ones_in_lem}
use Rattle.lists.specs.Parts.{part}
use Rattle.lists.specs.Rows.{joined, each, length_each, each_at, same_each, length_joined, joined_part}
use Rattle.lists.specs.Search.{first_from}
use Rattle.layout.specs.Layout.{multiframe_octets, most_multiframes, index_octets, report_octets, sync_first, sync_second}
use Rattle.choices.specs.Choices.{by_default, by_one_header}
use Rattle.choices.specs.declared.Choices.{Choices}
use Rattle.tables.specs.Tables.{Tables}
use Rattle.tables.proofs.AdmittedLaws.{right_passes, wrong_sizes}
use Rattle.settings.specs.Settings.{settings}
use Rattle.frames.specs.Frames.{zero_frame}
use Rattle.bits.specs.Bits.{value, bits, field, fields}
use Rattle.crc.specs.Crc.{after, crc, alike, right}
use Rattle.header_code.specs.Code.{codeword}
use Rattle.header_code.specs.Code.Examples.{of_octets, count_1, count_2, exp_9, three_from_zero}
use Rattle.message.specs.Message.{message, rate_of, exp_of, common_bits}
use Rattle.message.specs.Message.Laws.{message_lt, message_counts, rate_back, rate_masked, exp_shifted, common_rate, common_exp, common_message}
use Rattle.header.specs.Reading as H
use Rattle.header.proofs.Laws.{lost_at_three}
use Rattle.header.specs.Types.{Header}
use Rattle.cutting.specs.Cutting.{sync_met, last_met, piece_by, piece_of, Ending, whole, refused, Cutting, walk, cutting}
use Rattle.cutting.specs.declared.Piece.TheVariants.{Multiframe}
use Rattle.cutting.proofs.Laws.{multiframe_met, at_place, every_length}
use Rattle.header_readings.specs.Readings.{readings}
use Rattle.settling.specs.Settling.{first_agreeing, only_one, settling}
use Rattle.header_readings.specs.Laws.{length_readings}
use Rattle.settling.proofs.Laws.{neither, one_default, only_clean, only_mended, all_agree}
use Rattle.unfit.specs.Laws.{Usable, fit_is, unfit_is}
use Rattle.carrier.specs.Carrier.{received, pair_count}
use Rattle.settling.specs.Types.{Settlement}
use Rattle.notes.specs.Notes.{pair_fails, pair_notes, pair_inconsistent}
use Rattle.bad_pairs.specs.BadPairs.{note_by, notes, bad_pairs}
use Rattle.deciding.specs.Deciding.{room_verdict, settled_verdict, whole_verdict, received_notes}
use Rattle.reader.specs.Reading.{answer_number, answer_values, Outcome, outcome, finished, reading}
use Rattle.reader.proofs.FirstTests.{not_admitted, not_cut, whole_reading}
use Rattle.refusals.specs.Refusals.{reading_number, reading_place}
use Rattle.refusals.specs.declared.Reading.{Reading as Refusal}
use Rattle.refusals.specs.declared.Reading.TheVariants.{WrongTables, Empty, Unsettled, Unfit, IndexShort, ReportShort, AllBad}
use Rattle.image.specs.Made.{word_in, part_within}
use Rattle.writer.specs.Writing.{room_answer, verdict, needed}
use Rattle.writer.specs.Utterance.{Utterance}
use Rattle.demands.specs.Whole.{row_of}
use Rattle.demands.proofs.WholeLaws.{cut_is, readings_are}
use Rattle.demands.proofs.ReadsBackLaws.{reads_image}
use Rattle.damage.specs.Instances.{lone, small_lone}
use Rattle.page_images.specs.Headers.{header, word_of, ReadsAs, clean, flips}
use Rattle.page_images.specs.Headers as Headers
use Rattle.page_images.specs.Images.{Right, spoken_behind}
use Rattle.page_images.proofs.ImagesLaws.{spoken_image}

-- ---- what a line of the table says
-- the reading is refused with this number and this place, which `reading_number` and `reading_place` give of its refusal, and both buffers are as they came
pub record Refuses (ch : Choices) (octets : List ℕ) (tables : Tables) (index report : List ℕ) (number place : ℕ) : Type 0 where
  pub number_is : answer_number (reading ch octets tables index report).answer ≡ number
  pub place_is : answer_values (reading ch octets tables index report).answer ≡ place ∷ []
  pub index_stays : (reading ch octets tables index report).index ≡ index
  pub report_stays : (reading ch octets tables index report).report ≡ report

-- of a codebook of c numbers and t thresholds, whatever they are, and any buffers
abbrev pub Tabled : (ch : Choices) → List ℕ → ℕ → ℕ → ℕ → ℕ → Type 0
Tabled ch octets c t number place =
    (tables : Tables) → length tables.codebook ≡ c → length tables.thresholds ≡ t → (index report : List ℕ) → Refuses ch octets tables index report number place

-- of tables that nothing turns away and any buffers
abbrev pub Always : (ch : Choices) → List ℕ → ℕ → ℕ → Type 0
Always ch octets number place = (tables : Tables) → Right tables → (index report : List ℕ) → Refuses ch octets tables index report number place

-- of such tables and buffers of i and r octets, whatever they hold
abbrev pub Sized : (ch : Choices) → List ℕ → ℕ → ℕ → ℕ → ℕ → Type 0
Sized ch octets i r number place =
    (tables : Tables) → Right tables → (index report : List ℕ) → length index ≡ i → length report ≡ r
    → Refuses ch octets tables index report number place

-- the reading succeeds, with these values; frames and notes stand at the buffers' fronts, and octets beyond are as they came
pub record Reads (ch : Choices) (octets : List ℕ) (tables : Tables) (index report values frames notes : List ℕ) : Type 0 where
  pub number_is : answer_number (reading ch octets tables index report).answer ≡ 0
  pub values_are : answer_values (reading ch octets tables index report).answer ≡ values
  pub index_is : (reading ch octets tables index report).index ≡ frames ++ drop (length frames) index
  pub report_is : (reading ch octets tables index report).report ≡ notes ++ drop (length notes) report

-- with such tables and room
abbrev pub Succeeds : (ch : Choices) → List ℕ → List ℕ → List ℕ → List ℕ → Type 0
Succeeds ch octets values frames notes =
    (tables : Tables) → Right tables → (index report : List ℕ) → length frames ≤ length index
    → length notes ≤ length report → Reads ch octets tables index report values frames notes

-- ---- the octets
-- a whole multiframe: sync, header, and a stream of zeros
abbrev pub headed : List ℕ → List ℕ
headed header = 0x87 ∷ 0xB2 ∷ (header ++ replicate 138 0x00)

-- 01's headers of 8 kHz, type 0, count 1 and count 2; the first of them with its first bit flipped; 01's lost header; EXP9 alone
abbrev pub count1 : List ℕ
count1 = 0x08 ∷ 0x00 ∷ 0x0E ∷ 0xEE ∷ []

abbrev pub count2 : List ℕ
count2 = 0x10 ∷ 0x00 ∷ 0x1D ∷ 0x0D ∷ []

abbrev pub flipped : List ℕ
flipped = 0x09 ∷ 0x00 ∷ 0x0E ∷ 0xEE ∷ []

abbrev pub lost : List ℕ
lost = 0x01 ∷ 0x00 ∷ 0x01 ∷ 0x01 ∷ []

abbrev pub exp9 : List ℕ
exp9 = 0x00 ∷ 0x80 ∷ 0x80 ∷ 0xE8 ∷ []

-- the header of rate 2, type 0, count 1
abbrev pub rate2 : List ℕ
rate2 = 0x0A ∷ 0x00 ∷ 0x0D ∷ 0x9D ∷ []

-- two packets, of each of which the first bit is one and the others are zero
abbrev pub two_bad : List ℕ
two_bad = 0x01 ∷ (replicate 10 0x00 ++ (0x10 ∷ replicate 11 0x00))

abbrev pub all_bad : List ℕ
all_bad = 0x87 ∷ 0xB2 ∷ (count1 ++ (two_bad ++ (two_bad ++ (two_bad ++ (two_bad ++ (two_bad ++ two_bad))))))

-- one multiframe, and two
abbrev pub one : List ℕ
one = headed count1

abbrev pub two : List ℕ
two = headed count1 ++ headed count2

-- n multiframes alike
unfoldable pub again : ℕ → List ℕ → List ℕ
again n f = joined (λ k. f) n

-- ---- the table
pub record Table (ch : Choices) : Type 0 where
  -- 11, "codebook not 1,280 or thresholds not 14", 0. "11 comes first": whatever the octets and the buffers
  pub codebook_1279 : (s : List ℕ) → Tabled ch s 1279 14 11 0
  pub codebook_1281 : (s : List ℕ) → Tabled ch s 1281 14 11 0
  pub thresholds_13 : (s : List ℕ) → Tabled ch s 1280 13 11 0
  pub thresholds_15 : (s : List ℕ) → Tabled ch s 1280 15 11 0
  -- 12, "octets at p begin nothing known", p: at the front, a half sync, a half inverse sync, behind an inverse sync, behind a multiframe
  pub unknown_at_0 : Always ch (0x00 ∷ []) 12 0
  pub half_sync : Always ch (0x87 ∷ 0x00 ∷ []) 12 0
  pub half_inverse : Always ch (0x78 ∷ 0x00 ∷ []) 12 0
  pub unknown_at_2 : Always ch (0x78 ∷ 0x4D ∷ 0x00 ∷ []) 12 2
  pub unknown_at_144 : Always ch (one ++ (0x00 ∷ [])) 12 144
  -- 13, "sync with too few octets, or a lone last 87 or 78", p. "Received 143 octets that open with a sync: 13."
  pub octets_143 : Always ch (0x87 ∷ 0xB2 ∷ replicate 141 0x00) 13 0
  pub lone_87 : Always ch (0x87 ∷ []) 13 0
  pub lone_78_at_2 : Always ch (0x78 ∷ 0x4D ∷ 0x78 ∷ []) 13 2
  pub cut_at_144 : Always ch (one ++ (0x87 ∷ 0xB2 ∷ [])) 13 144
  -- 14, "no multiframe", octet count. "Nothing: 14, place 0."
  pub nothing : Always ch [] 14 0
  pub only_inverse : Always ch (0x78 ∷ 0x4D ∷ 0x78 ∷ 0x4D ∷ []) 14 4
  -- 15, "a sync after 255 multiframes, even a cut one", p
  pub multiframe_256 : Always ch (again 255 one ++ one) 15 36720
  pub cut_256 : Always ch (again 255 one ++ (0x87 ∷ 0xB2 ∷ [])) 15 36720
  -- 16, "settings not settled", 0: of an only header with one flip
  pub one_flip : Always ch (headed flipped) 16 0
  -- and by default of any only header, a codeword too: "By default an only multiframe is now refused as unsettled" (02, C-20)
  pub one_by_default : Always by_default one 16 0
  pub lost_by_default : Always by_default (headed lost) 16 0
  -- between inverse syncs it is an only multiframe too
  pub between_by_default : Always by_default (0x78 ∷ 0x4D ∷ (one ++ (0x78 ∷ 0x4D ∷ []))) 16 0
  -- 17, "settled rate is 2 or any EXP is 1", 0: of one multiframe where the caller asks for the old rule, and of two whatever it chose
  pub settled_rate_2 : Always by_one_header (headed rate2) 17 0
  pub settled_exp_9 : Always by_one_header (headed exp9) 17 0
  pub rate_2_twice : Always ch (headed rate2 ++ headed rate2) 17 0
  pub exp_9_twice : Always ch (headed exp9 ++ headed exp9) 17 0
  -- 18, "index buffer under 168m", octets needed
  pub index_167 : Sized by_one_header one 167 13 18 168
  pub index_335 : Sized ch two 335 26 18 336
  -- 19, "report buffer under 13m", octets needed
  pub report_12 : Sized by_one_header one 168 12 19 13
  pub report_25 : Sized ch two 336 25 19 26
  -- 20, "every pair bad", 0
  pub every_pair_bad : Sized by_one_header all_bad 168 13 20 0
  -- "11 comes first": before 12, 13 and 14
  pub first_before_12 : Tabled ch (0x00 ∷ []) 1279 14 11 0
  pub first_before_13 : Tabled ch (0x87 ∷ []) 1279 14 11 0
  pub first_before_14 : Tabled ch [] 1280 13 11 0
  -- "12, 13 and 15 come as cutting meets them": 12 at 2 before 13 at 3; 13 at 0 before 12 at 2; both before 14, there being no multiframe
  pub at_2_before_3 : Always ch (0x78 ∷ 0x4D ∷ 0x00 ∷ 0x87 ∷ []) 12 2
  pub at_0_before_2 : Always ch (0x87 ∷ 0xB2 ∷ 0x00 ∷ []) 13 0
  -- after 255 multiframes a cut sync is 15, not 13, and a lone 87, which is no sync yet, 13. 14 and 15 cannot both apply
  pub cut_after_255 : Always ch (again 255 (headed lost) ++ (0x87 ∷ 0xB2 ∷ [])) 15 36720
  pub lone_after_255 : Always ch (again 255 (headed lost) ++ (0x87 ∷ [])) 13 36720
  -- "the rest follow by number": without that sync the same 255 multiframes, of which no header can be read, are 16. 14 is before 16 in `nothing`
  pub unsettled_255 : Always ch (again 255 (headed lost)) 16 0
  -- 12 and 13 before 16, 18 and 19: settings not settled, and no room at all
  pub unknown_before_16 : Sized ch (headed flipped ++ (0x00 ∷ [])) 0 0 12 144
  pub short_before_16 : Sized ch (headed flipped ++ (0x87 ∷ [])) 0 0 13 144
  -- 16 before 18; 17 before 18. 16 and 17 cannot both apply, since 17 is of settled settings
  pub unsettled_before_18 : Sized ch (headed flipped) 0 0 16 0
  pub unfit_before_18 : Sized by_one_header (headed exp9) 0 0 17 0
  -- by default an only multiframe is 16 before 18 to 20, and where the old rule has 17 or 20
  pub default_before_18 : Sized by_default one 0 0 16 0
  pub default_not_17 : Always by_default (headed rate2) 16 0
  pub default_not_20 : Always by_default all_bad 16 0
  -- 18 before 19, and 19 before 20
  pub index_before_19 : Sized by_one_header one 167 12 18 168
  pub report_before_20 : Sized by_one_header all_bad 168 12 19 13
  -- the same of two multiframes, whatever the caller chose
  pub unfit_before_18_twice : Sized ch (headed exp9 ++ headed exp9) 0 0 17 0
  pub index_before_19_of_two : Sized ch two 335 25 18 336
  pub report_before_20_of_two : Sized ch (all_bad ++ all_bad) 336 25 19 26
  -- "Success (0) gives settings; m; speech, ..; the number of bad pairs; end, ..": 87 B2, the header of each rate and type, 01, ten 00, 04, 126
  -- times 00 give the frame 1,0,0,0,0,0,0, and all notes are 0
  pub rate_0_type_0 : Succeeds by_one_header (spoken_behind (0x08 ∷ 0x00 ∷ 0x0E ∷ 0xEE ∷ [])) (0 ∷ 0 ∷ 1 ∷ 1 ∷ 0 ∷ 1 ∷ []) (1 ∷ replicate 167 0) (replicate 13 0)
  pub rate_1_type_0 : Succeeds by_one_header (spoken_behind (0x09 ∷ 0x00 ∷ 0x0F ∷ 0x3F ∷ [])) (1 ∷ 0 ∷ 1 ∷ 1 ∷ 0 ∷ 1 ∷ []) (1 ∷ replicate 167 0) (replicate 13 0)
  pub rate_3_type_0 : Succeeds by_one_header (spoken_behind (0x0B ∷ 0x00 ∷ 0x0C ∷ 0x4C ∷ [])) (3 ∷ 0 ∷ 1 ∷ 1 ∷ 0 ∷ 1 ∷ []) (1 ∷ replicate 167 0) (replicate 13 0)
  pub rate_0_type_1 : Succeeds by_one_header (spoken_behind (0x0C ∷ 0x00 ∷ 0x09 ∷ 0x59 ∷ [])) (0 ∷ 1 ∷ 1 ∷ 1 ∷ 0 ∷ 1 ∷ []) (1 ∷ replicate 167 0) (replicate 13 0)
  pub rate_1_type_1 : Succeeds by_one_header (spoken_behind (0x0D ∷ 0x00 ∷ 0x08 ∷ 0x88 ∷ [])) (1 ∷ 1 ∷ 1 ∷ 1 ∷ 0 ∷ 1 ∷ []) (1 ∷ replicate 167 0) (replicate 13 0)
  pub rate_3_type_1 : Succeeds by_one_header (spoken_behind (0x0F ∷ 0x00 ∷ 0x0B ∷ 0xFB ∷ [])) (3 ∷ 1 ∷ 1 ∷ 1 ∷ 0 ∷ 1 ∷ []) (1 ∷ replicate 167 0) (replicate 13 0)

-- ---- from an outcome to a line
pub refuses : (ch : Choices) (s : List ℕ) (tables : Tables) (index report : List ℕ) (r : Refusal) → reading ch s tables index report ≡ outcome (Err r) index report
    → Refuses ch s tables index report (reading_number r) (reading_place r)
refuses ch s tables index report r e =
    record {
      number_is = ap (λ (o : Outcome). answer_number o.answer) e;
      place_is = ap (λ (o : Outcome). answer_values o.answer) e;
      index_stays = ap (λ (o : Outcome). o.index) e;
      report_stays = ap (λ (o : Outcome). o.report) e;
    }

-- of any buffers is of buffers of some size
sized : (ch : Choices) {s : List ℕ} {n p : ℕ} → Always ch s n p → (i r : ℕ) → Sized ch s i r n p
sized ch a i r tables right index report li lr = a tables right index report

-- ---- 11
module _ (ch : Choices) (s : List ℕ) where
  no_codebook : (c t : ℕ) → (c ≡ 1280 → ⊥) → Tabled ch s c t 11 0
  no_codebook c t h tables sc st index report =
      refuses ch s tables index report WrongTables (sym (not_admitted ch s tables index report WrongTables (wrong_sizes tables (λ r. h (sym sc ∙ r.0)))))

  no_thresholds : (t : ℕ) → (t ≡ 14 → ⊥) → Tabled ch s 1280 t 11 0
  no_thresholds t h tables sc st index report =
      refuses ch s tables index report WrongTables (sym (not_admitted ch s tables index report WrongTables (wrong_sizes tables (λ r. h (sym st ∙ r.1)))))

-- ---- 12, 13 and 15: as cutting ends
abbrev Cut : (ch : Choices) → List ℕ → Ending → Type 0
Cut ch s whole = Unit
Cut ch s (refused r) = Always ch s (reading_number r) (reading_place r)

is_cut : (ch : Choices) (s : List ℕ) (e : Ending) → (cutting s).ending ≡ e → Cut ch s e
is_cut ch s whole h = tt
is_cut ch s (refused r) h = λ tables right index report.
    refuses ch s tables index report r (sym (not_cut ch s tables index report (right_passes tables ((right.0, right.1), right.2)) r h))

-- ---- 14 and 16 to 20, of octets that are cut into multiframes at places
module _ (ch : Choices) (s ps : List ℕ) (cut : cutting s ≡ record { places = ps; ending = whole }) where
  is_14 : length ps ≡ 0 → Always ch s 14 (length s)
  unfolding whole_verdict
  is_14 z tables right index report =
      refuses ch s tables index report (Empty (length s))
      (sym (whole_reading ch s tables index report (right_passes tables ((right.0, right.1), right.2)) (outcome (Err (Empty (length s))) index report) ps
      (ap (λ (w : Cutting). w.ending) cut) (sym (ap (λ (w : Cutting). w.places) cut)) (rw (eq-eqb (length ps) 0 z))))

  module _ (some : length ps ≡ 0 → ⊥) (x : Settlement) (settles : settling ch (readings s ps) ≡ x) where
    -- past 10 to 15 the settings decide
    next : (tables : Tables) → Right tables → (index report : List ℕ)
        → reading ch s tables index report
        ≡ finished s tables index report ps
        (settled_verdict (length ps) (bad_pairs (received_notes s ps tables)) (pair_count ps) (length index) (length report) x)
    unfolding whole_verdict
    next tables right index report =
        sym (whole_reading ch s tables index report (right_passes tables ((right.0, right.1), right.2))
        (finished s tables index report ps (settled_verdict (length ps) (bad_pairs (received_notes s ps tables)) (pair_count ps) (length index) (length report) x)) ps
        (ap (λ (w : Cutting). w.ending) cut) (sym (ap (λ (w : Cutting). w.places) cut)) (rw (ne_eqb (length ps) 0 some, settles)))

  module _ (some : length ps ≡ 0 → ⊥) where
    is_16 : settling ch (readings s ps) ≡ None → Always ch s 16 0
    unfolding settled_verdict
    is_16 e tables right index report = refuses ch s tables index report Unsettled (next some None e tables right index report)

    module _ (c : ℕ) (e : settling ch (readings s ps) ≡ Some c) where
      is_17_rate : rate_of c ≡ 2 → Always ch s 17 0
      unfolding settled_verdict
      is_17_rate h tables right index report =
          refuses ch s tables index report Unfit (next some (Some c) e tables right index report ∙ rw (unfit_is c (inl h)))

      is_17_exp : (rate_of c ≡ 2 → ⊥) → (exp_of c ≡ 0 → ⊥) → Always ch s 17 0
      unfolding settled_verdict
      is_17_exp r h tables right index report =
          refuses ch s tables index report Unfit
          (next some (Some c) e tables right index report ∙ rw (unfit_is c (inr h)))

      module _ (u : Usable c) (i r : ℕ) where
        is_18 : i < index_octets * length ps → Sized ch s i r 18 (index_octets * length ps)
        unfolding settled_verdict room_verdict
        is_18 h tables right index report li lr =
            refuses ch s tables index report (IndexShort (index_octets * length ps))
            (next some (Some c) e tables right index report
            ∙ rw (fit_is c u, lt-ltb (length index) (index_octets * length ps) (omega arith)))

        is_19 : index_octets * length ps ≤ i → r < report_octets * length ps → Sized ch s i r 19 (report_octets * length ps)
        unfolding settled_verdict room_verdict
        is_19 hi h tables right index report li lr =
            refuses ch s tables index report (ReportShort (report_octets * length ps))
            (next some (Some c) e tables right index report
            ∙ rw (
              fit_is c u,
              le-ltb (length index) (index_octets * length ps) (omega arith),
              lt-ltb (length report) (report_octets * length ps) (omega arith),
            ))

        is_20 : index_octets * length ps ≤ i → report_octets * length ps ≤ r
            → ((tables : Tables) → bad_pairs (received_notes s ps tables) ≡ pair_count ps) → Sized ch s i r 20 0
        unfolding settled_verdict room_verdict
        is_20 hi hr bad tables right index report li lr =
            refuses ch s tables index report AllBad
            (next some (Some c) e tables right index report
            ∙ rw (
              fit_is c u,
              le-ltb (length index) (index_octets * length ps) (omega arith),
              le-ltb (length report) (report_octets * length ps) (omega arith),
              eq-eqb (bad_pairs (received_notes s ps tables)) (pair_count ps) (bad tables),
            ))

-- ---- the headers, by the laws of their code: it is shut here
one_one : ones 1 ≡ 1
unfolding ones_in
one_one = sym (ones_in_lem 1 1 (lit< tt))

pub read_1 : ReadsAs 0xEE0E0008 8 0
read_1 = clean 8 0xEE0E0008 (lit< tt) (of_octets (codeword 8) 0x08 0x00 0x0E 0xEE count_1)

pub read_2 : ReadsAs 0x0D1D0010 16 0
read_2 = clean 16 0x0D1D0010 (lit< tt) (of_octets (codeword 16) 0x10 0x00 0x1D 0x0D count_2)

pub read_exp : ReadsAs 0xE8808000 32768 0
read_exp = clean 32768 0xE8808000 (lit< tt) (of_octets (codeword 32768) 0x00 0x80 0x80 0xE8 exp_9)

pub read_flipped : ReadsAs 0xEE0E0009 8 1
read_flipped = flips 8 0xEE0E0008 1 1 (lit< tt) (of_octets (codeword 8) 0x08 0x00 0x0E 0xEE count_1) one_one (lit< tt)

two_ones : ones 3 ≡ 2
unfolding ones_in
two_ones = sym (ones_in_lem 2 3 (lit< tt))

-- count2 with its first two bits flipped
pub read_flipped_2 : ReadsAs 0x0D1D0013 16 2
read_flipped_2 = flips 16 0x0D1D0010 3 2 (lit< tt) (of_octets (codeword 16) 0x10 0x00 0x1D 0x0D count_2) two_ones (lit< tt)

pub read_rate_2 : ReadsAs 0x9D0D000A (message (settings 2 0) 1 0) 0
read_rate_2 = clean (message (settings 2 0) 1 0) 0x9D0D000A (message_lt (settings 2 0) 1 0) (word_of 2 0 1 0x0A 0x00 0x0D 0x9D (Headers.table).header_2_0)

pub read_lost : H.reading 0x01010001 ≡ None
read_lost = lost_at_three 0x01010001 0 (lit< tt) three_from_zero

-- their common bits
usable : (m : ℕ) → rate_of m ≡ 0 → exp_of m ≡ 0 → Usable (common_bits m)
usable m r e = record { rate = λ z. (let y : ◌≡◌ {A = ℕ} 0 2 = sym (common_rate m ∙ r) ∙ z in omega arith); exp = common_exp m ∙ e }

pub usable_8 : Usable (common_bits 8)
usable_8 = usable 8 (sym (rate_masked 8)) (sym (exp_shifted 8 (lit< tt)))

pub common_16 : common_bits 16 ≡ common_bits 8
common_16 =
    ap common_bits (sym message_counts.1) ∙ common_message (settings 0 0) 2 0 ∙ sym (common_message (settings 0 0) 1 0) ∙ ap common_bits message_counts.0

-- ---- one multiframe with a header, and two
module _ (a b c d : ℕ) where
  pub cut_one : cutting (headed (a ∷ b ∷ c ∷ d ∷ [])) ≡ record { places = 0 ∷ []; ending = whole }
  unfolding walk piece_by sync_met last_met
  cut_one = refl

  pub head_one : readings (headed (a ∷ b ∷ c ∷ d ∷ [])) (0 ∷ []) ≡ H.reading (value (bits (a ∷ b ∷ c ∷ d ∷ []))) ∷ []
  unfolding readings
  head_one = refl

settles_one : settling by_one_header (readings one (0 ∷ [])) ≡ Some (common_bits 8)
unfolding value fields field
settles_one = ap (settling by_one_header) (head_one 0x08 0x00 0x0E 0xEE ∙ ap (λ (h : Header). h ∷ []) read_1.0) ∙ only_clean by_one_header (H.decoded_as 0xEE0E0008 8) refl read_1.1

settles_flipped : (ch : Choices) → settling ch (readings (headed flipped) (0 ∷ [])) ≡ None
unfolding value fields field
settles_flipped ch = ap (settling ch) (head_one 0x09 0x00 0x0E 0xEE ∙ ap (λ (h : Header). h ∷ []) read_flipped.0) ∙ only_mended ch (H.decoded_as 0xEE0E0009 8) (λ e. omega (arith, read_flipped.1))

settles_rate_2 : settling by_one_header (readings (headed rate2) (0 ∷ [])) ≡ Some (common_bits (message (settings 2 0) 1 0))
unfolding value fields field
settles_rate_2 = ap (settling by_one_header) (head_one 0x0A 0x00 0x0D 0x9D ∙ ap (λ (h : Header). h ∷ []) read_rate_2.0) ∙ only_clean by_one_header (H.decoded_as 0x9D0D000A (message (settings 2 0) 1 0)) refl read_rate_2.1

settles_exp : settling by_one_header (readings (headed exp9) (0 ∷ [])) ≡ Some (common_bits 32768)
unfolding value fields field
settles_exp = ap (settling by_one_header) (head_one 0x00 0x80 0x80 0xE8 ∙ ap (λ (h : Header). h ∷ []) read_exp.0) ∙ only_clean by_one_header (H.decoded_as 0xE8808000 32768) refl read_exp.1

pub cut_two : cutting two ≡ record { places = 0 ∷ 144 ∷ []; ending = whole }
unfolding walk piece_by sync_met last_met
cut_two = refl

pub heads_two : readings two (0 ∷ 144 ∷ []) ≡ H.reading 0xEE0E0008 ∷ H.reading 0x0D1D0010 ∷ []
unfolding readings value fields field
heads_two = refl

settles_two : (ch : Choices) → settling ch (readings two (0 ∷ 144 ∷ [])) ≡ Some (common_bits 8)
settles_two ch =
    ap (settling ch) (heads_two ∙ ap₂ (λ (g h : Header). g ∷ h ∷ []) read_1.0 read_2.0)
    ∙ all_agree ch (Some (H.decoded_as 0xEE0E0008 8) ∷ Some (H.decoded_as 0x0D1D0010 16) ∷ []) (common_bits 8) (omega arith) (refl, (common_16, tt))

-- ---- every pair bad
cut_bad : cutting all_bad ≡ record { places = 0 ∷ []; ending = whole }
unfolding walk piece_by sync_met last_met
cut_bad = refl

head_bad : readings all_bad (0 ∷ []) ≡ H.reading 0xEE0E0008 ∷ []
unfolding readings value fields field
head_bad = refl

settles_bad : settling by_one_header (readings all_bad (0 ∷ [])) ≡ Some (common_bits 8)
settles_bad = ap (settling by_one_header) (head_bad ∙ ap (λ (h : Header). h ∷ []) read_1.0) ∙ only_clean by_one_header (H.decoded_as 0xEE0E0008 8) refl read_1.1

fails_bad : each (pair_fails (received all_bad (0 ∷ []))) 12 ≡ replicate 12 true
unfolding pair_fails fields field right alike crc after xor
fails_bad = refl

bad_bad : (tables : Tables) → bad_pairs (received_notes all_bad (0 ∷ []) tables) ≡ 12
unfolding pair_notes note_by
bad_bad tables = ap (λ (l : List Bool). bad_pairs (notes l (each (pair_inconsistent (received all_bad (0 ∷ [])) tables) 12))) fails_bad

-- ---- behind n multiframes alike
module _ (f : List ℕ) (size : length f ≡ multiframe_octets) where
  pub length_again : (n : ℕ) → length (again n f) ≡ multiframe_octets * n
  unfolding again
  length_again n = length_joined (λ k. f) multiframe_octets n (λ k h. size)

  again_part : (n k : ℕ) → k < n → part (multiframe_octets * k) multiframe_octets (again n f) ≡ f
  unfolding again
  again_part n k h = joined_part (λ k. f) multiframe_octets n k (λ i l. size) h

  pub part_again : (n k a v : ℕ) → k < n → a + v ≤ multiframe_octets → part (multiframe_octets * k + a) v (again n f) ≡ part a v f
  part_again n k a v h l =
      part_within (again n f) (multiframe_octets * k) multiframe_octets a v (omega (arith, length_again n)) l ∙ ap (part a v) (again_part n k h)

  pub octet_again : (n k i : ℕ) (rest : List ℕ) → k < n → i < multiframe_octets → get_or (again n f ++ rest) (multiframe_octets * k + i) 0 ≡ get_or f i 0
  octet_again n k i rest h l =
      get_or-append (again n f) rest 0 (144 * k + i) (omega (arith, length_again n))
      ∙ sym (get_or-take 144 (drop (144 * k) (again n f)) i 0 l ∙ get_or-drop (144 * k) (again n f) i 0) ∙ ap (λ (x : List ℕ). get_or x i 0) (again_part n k h)

-- a whole multiframe at octet p
met : (s : List ℕ) (p m : ℕ) → p + multiframe_octets ≤ length s → m < most_multiframes → get_or s p 0 ≡ sync_first → get_or s (p + 1) 0 ≡ sync_second
    → piece_of (drop p s) m ≡ Multiframe
met s p m room few first second =
    let z : p + 0 ≡ p = omega arith in
    let a : get_or (drop p s) 0 0 ≡ sync_first = get_or-drop p s 0 0 ∙ ap (λ (k : ℕ). get_or s k 0) z ∙ first in
    let b : get_or (drop p s) 1 0 ≡ sync_second = get_or-drop p s 1 0 ∙ second in
    rw (a, b) (multiframe_met (length (drop p s)) m (omega (arith, length-drop p s)) few)

-- cutting goes on behind n of them
passed : (s : List ℕ) (n p m : ℕ) → m + n ≤ most_multiframes → p + multiframe_octets * n ≤ length s
    → ((k : ℕ) → k < n → (get_or s (p + multiframe_octets * k) 0 ≡ sync_first) × (get_or s (p + multiframe_octets * k + 1) 0 ≡ sync_second))
    → (walk 0 (drop p s) p m).ending ≡ (walk 0 (drop (p + multiframe_octets * n) s) (p + multiframe_octets * n) (m + n)).ending
passed s zero p m few room syncs =
    let z : p ≡ p + 144 * 0 = omega arith in
    let y : m ≡ m + 0 = omega arith in
    ap₂ (λ (q k : ℕ). (walk 0 (drop q s) q k).ending) z y
passed s (suc n) p m few room syncs =
    let here = syncs 0 (omega arith) in
    let z : p + 144 * 0 ≡ p = omega arith in
    let ahead : (k : ℕ) → p + 144 * suc k ≡ p + 144 + 144 * k = λ k. omega arith in
    let x : p + 144 + 144 * n ≡ p + 144 * suc n = sym (ahead n) in
    let y : m + 1 + n ≡ m + suc n = omega arith in
    ap (λ (w : Cutting). w.ending) (at_place s p m Multiframe (met s p m (omega arith) (omega arith) (rw z at here.0) (rw z at here.1)))
    ∙ passed s n (p + 144) (m + 1) (omega arith) (omega arith) (λ k h.
    subst (λ (i : ℕ). (get_or s i 0 ≡ sync_first) × (get_or s (i + 1) 0 ≡ sync_second)) (ahead k) (syncs (suc k) (omega arith)))
    ∙ ap₂ (λ (q k : ℕ). (walk 0 (drop q s) q k).ending) x y

module _ (header : List ℕ) (four : length (headed header) ≡ multiframe_octets) where
  behind : (n : ℕ) (rest : List ℕ) → n ≤ most_multiframes → (cutting (again n (headed header) ++ rest)).ending ≡ (walk 0 rest (multiframe_octets * n) n).ending
  behind n rest few =
      let f = headed header in
      let s = again n f ++ rest in
      let l : length s ≡ 144 * n + length rest = length-append (again n f) rest ∙ ap (λ (k : ℕ). k + length rest) (length_again f four n) in
      let x : 0 + 144 * n ≡ 144 * n = omega arith in
      let y : 0 + n ≡ n = omega arith in
      passed s n 0 0 (omega arith) (omega arith) (λ k h.
      let z : 144 * k + 0 ≡ 0 + 144 * k = omega arith in
      let t : 144 * k + 1 ≡ 0 + 144 * k + 1 = omega arith in
      (ap (λ (i : ℕ). get_or s i 0) (sym z) ∙ octet_again f four n k 0 rest h (lit< tt), ap (λ (i : ℕ). get_or s i 0) (sym t) ∙ octet_again f four n k 1 rest h (lit< tt)))
      ∙ ap₂ (λ (q k : ℕ). (walk 0 (drop q s) q k).ending) x y ∙ ap (λ (r : List ℕ). (walk 0 r (144 * n) n).ending) (drop_at (again n f) rest (144 * n) (length_again f four n))

-- ---- n multiframes of which no header can be read
pub all_lost : (hs : List Header) → ((k : ℕ) → k < length hs → get_or hs k None ≡ None) → (seen : List ℕ) → first_agreeing seen hs ≡ None
unfolding first_agreeing
all_lost [] h seen = refl
all_lost (x ∷ hs) h seen =
    subst (λ (y : Header). first_agreeing seen (y ∷ hs) ≡ None) (sym (h 0 (omega arith))) (all_lost hs (λ k l. h (suc k) (omega arith)) seen)

only_lost : (hs : List Header) → ((k : ℕ) → k < length hs → get_or hs k None ≡ None) → only_one hs ≡ None
unfolding only_one
only_lost [] h = refl
only_lost (x ∷ hs) h = subst (λ (y : Header). only_one (y ∷ hs) ≡ None) (sym (h 0 (omega arith))) refl

lost_unsettled : (ch : Choices) (n : ℕ) → settling ch (each (λ k. None) n) ≡ None
lost_unsettled ch n =
    let h : (k : ℕ) → k < length (each (λ k. None) n) → get_or (each (λ k. None) n) k None ≡ None = λ k l. let z = length_each {A = Header} (λ k. None) n in each_at (λ k. None) n k None (omega (arith, z, l)) in
    neither ch (each (λ k. None) n) (all_lost (each (λ k. None) n) h []) (only_lost (each (λ k. None) n) h)

word_lost : (n k : ℕ) → k < n → H.reading (word_in (again n (headed lost)) k) ≡ None
unfolding value fields field
word_lost n k h = ap (λ (l : List ℕ). H.reading (value (bits l))) (part_again (headed lost) refl n k 2 4 h (lit< tt)) ∙ read_lost

many_lost : (ch : Choices) (n : ℕ) → 0 < n → n ≤ most_multiframes → Always ch (again n (headed lost)) 16 0
many_lost ch n h few =
    let s = again n (headed lost) in
    let z : (k : ℕ) → 144 * k ≡ 144 * k + 0 = λ k. omega arith in
    is_16 ch s (row_of n)
    (cut_is s n few (length_again (headed lost) refl n) (λ k l. ap (λ (i : ℕ). part i 2 s) (z k) ∙ part_again (headed lost) refl n k 0 2 l (lit< tt)))
    (λ e. omega (arith, every_length 0 n))
    (ap (settling ch) (readings_are s n ∙ same_each (λ k. H.reading (word_in s k)) (λ k. None) n (word_lost n)) ∙ lost_unsettled ch n)

-- ---- success, by the theorem "reads back"
speaks : (rate kind : ℕ) (h : List ℕ) → header rate kind 1 ≡ h → verdict (settings rate kind) (lone 1) (needed (lone 1)) ≡ Ok (needed (lone 1))
    → Succeeds by_one_header (spoken_behind h) (rate ∷ kind ∷ 1 ∷ 1 ∷ 0 ∷ 1 ∷ []) (1 ∷ replicate 167 0) (replicate 13 0)
speaks rate kind h x w tables right index report hi hr =
    let u : Utterance = record { settings = settings rate kind; indices = lone 1; small = small_lone 1 (lit< tt); written = w } in
    let e =
    ap (λ (i : List ℕ). reading by_one_header i tables index report) (sym (spoken_image rate kind h x))
    ∙ reads_image by_one_header u (inr refl) tables index report record { right_tables = ((right.0, right.1), right.2); index_room = hi; report_room = hr } in
    record {
      number_is = ap (λ (o : Outcome). answer_number o.answer) e;
      values_are = ap (λ (o : Outcome). answer_values o.answer) e;
      index_is = ap (λ (o : Outcome). o.index) e;
      report_is = ap (λ (o : Outcome). o.report) e;
    }

-- ---- the lines
flipped_16 : (ch : Choices) → Always ch (headed flipped) 16 0
flipped_16 ch = is_16 ch (headed flipped) (0 ∷ []) (cut_one 0x09 0x00 0x0E 0xEE) (λ e. omega arith) (settles_flipped ch)

-- an only multiframe with any header, by default
default_16 : (s : List ℕ) (a b c d : ℕ) → headed (a ∷ b ∷ c ∷ d ∷ []) ≡ s → Always by_default s 16 0
default_16 s a b c d e =
    subst (λ (x : List ℕ). Always by_default x 16 0) e
    (is_16 by_default (headed (a ∷ b ∷ c ∷ d ∷ [])) (0 ∷ []) (cut_one a b c d) (λ e. omega arith)
    (one_default by_default (readings (headed (a ∷ b ∷ c ∷ d ∷ [])) (0 ∷ [])) refl (length_readings (headed (a ∷ b ∷ c ∷ d ∷ [])) (0 ∷ []))))

rate_17 : Always by_one_header (headed rate2) 17 0
rate_17 =
    let m = message (settings 2 0) 1 0 in
    is_17_rate by_one_header (headed rate2) (0 ∷ []) (cut_one 0x0A 0x00 0x0D 0x9D) (λ e. omega arith) (common_bits m) settles_rate_2 (common_rate m ∙ rate_back (settings 2 0) 1 0)

-- twice the same header settles, whatever the caller chose
pub cut_twice : cutting (headed rate2 ++ headed rate2) ≡ record { places = 0 ∷ 144 ∷ []; ending = whole }
unfolding walk piece_by sync_met last_met
cut_twice = refl

pub heads_twice : readings (headed rate2 ++ headed rate2) (0 ∷ 144 ∷ []) ≡ H.reading 0x9D0D000A ∷ H.reading 0x9D0D000A ∷ []
unfolding readings value fields field
heads_twice = refl

rate_17_twice : (ch : Choices) → Always ch (headed rate2 ++ headed rate2) 17 0
rate_17_twice ch =
    let m = message (settings 2 0) 1 0 in
    let h = Some (H.decoded_as 0x9D0D000A m) in
    is_17_rate ch (headed rate2 ++ headed rate2) (0 ∷ 144 ∷ []) cut_twice (λ e. omega arith) (common_bits m)
    (ap (settling ch) (heads_twice ∙ ap (λ (x : Header). x ∷ x ∷ []) read_rate_2.0) ∙ all_agree ch (h ∷ h ∷ []) (common_bits m) (omega arith) (refl, (refl, tt)))
    (common_rate m ∙ rate_back (settings 2 0) 1 0)

exp_17 : Always by_one_header (headed exp9) 17 0
exp_17 =
    is_17_exp by_one_header (headed exp9) (0 ∷ []) (cut_one 0x00 0x80 0x80 0xE8) (λ e. omega arith) (common_bits 32768) settles_exp
    (λ e. let z : ◌≡◌ {A = ℕ} 0 2 = rate_masked 32768 ∙ sym (common_rate 32768) ∙ e in omega arith)
    (λ e. let z : ◌≡◌ {A = ℕ} 256 0 = exp_shifted 32768 (lit< tt) ∙ sym (common_exp 32768) ∙ e in omega arith)

pub cut_exp_twice : cutting (headed exp9 ++ headed exp9) ≡ record { places = 0 ∷ 144 ∷ []; ending = whole }
unfolding walk piece_by sync_met last_met
cut_exp_twice = refl

pub heads_exp_twice : readings (headed exp9 ++ headed exp9) (0 ∷ 144 ∷ []) ≡ H.reading 0xE8808000 ∷ H.reading 0xE8808000 ∷ []
unfolding readings value fields field
heads_exp_twice = refl

exp_17_twice : (ch : Choices) → Always ch (headed exp9 ++ headed exp9) 17 0
exp_17_twice ch =
    let h = Some (H.decoded_as 0xE8808000 32768) in
    is_17_exp ch (headed exp9 ++ headed exp9) (0 ∷ 144 ∷ []) cut_exp_twice (λ e. omega arith) (common_bits 32768)
    (ap (settling ch) (heads_exp_twice ∙ ap (λ (x : Header). x ∷ x ∷ []) read_exp.0) ∙ all_agree ch (h ∷ h ∷ []) (common_bits 32768) (omega arith) (refl, (refl, tt)))
    (λ e. let z : ◌≡◌ {A = ℕ} 0 2 = rate_masked 32768 ∙ sym (common_rate 32768) ∙ e in omega arith)
    (λ e. let z : ◌≡◌ {A = ℕ} 256 0 = exp_shifted 32768 (lit< tt) ∙ sym (common_exp 32768) ∙ e in omega arith)

cut_bad_twice : cutting (all_bad ++ all_bad) ≡ record { places = 0 ∷ 144 ∷ []; ending = whole }
unfolding walk piece_by sync_met last_met
cut_bad_twice = refl

heads_bad_twice : readings (all_bad ++ all_bad) (0 ∷ 144 ∷ []) ≡ H.reading 0xEE0E0008 ∷ H.reading 0xEE0E0008 ∷ []
unfolding readings value fields field
heads_bad_twice = refl

settles_bad_twice : (ch : Choices) → settling ch (readings (all_bad ++ all_bad) (0 ∷ 144 ∷ [])) ≡ Some (common_bits 8)
settles_bad_twice ch =
    let h = Some (H.decoded_as 0xEE0E0008 8) in
    ap (settling ch) (heads_bad_twice ∙ ap (λ (x : Header). x ∷ x ∷ []) read_1.0) ∙ all_agree ch (h ∷ h ∷ []) (common_bits 8) (omega arith) (refl, (refl, tt))

one_18 : (i r : ℕ) → i < 168 → Sized by_one_header one i r 18 168
one_18 i r = is_18 by_one_header one (0 ∷ []) (cut_one 0x08 0x00 0x0E 0xEE) (λ e. omega arith) (common_bits 8) settles_one usable_8 i r

bad_19 : Sized by_one_header all_bad 168 12 19 13
bad_19 = is_19 by_one_header all_bad (0 ∷ []) cut_bad (λ e. omega arith) (common_bits 8) settles_bad usable_8 168 12 (lit< tt) (lit< tt)

pub table : (ch : Choices) → Table ch
unfolding walk piece_by sync_met last_met verdict room_answer first_from zero_frame
table ch = record {
  codebook_1279 = λ s. no_codebook ch s 1279 14 (λ e. omega arith);
  codebook_1281 = λ s. no_codebook ch s 1281 14 (λ e. omega arith);
  thresholds_13 = λ s. no_thresholds ch s 13 (λ e. omega arith);
  thresholds_15 = λ s. no_thresholds ch s 15 (λ e. omega arith);
  unknown_at_0 = is_cut ch (0x00 ∷ []) _ refl;
  half_sync = is_cut ch (0x87 ∷ 0x00 ∷ []) _ refl;
  half_inverse = is_cut ch (0x78 ∷ 0x00 ∷ []) _ refl;
  unknown_at_2 = is_cut ch (0x78 ∷ 0x4D ∷ 0x00 ∷ []) _ refl;
  unknown_at_144 = is_cut ch (one ++ (0x00 ∷ [])) _ refl;
  octets_143 = is_cut ch (0x87 ∷ 0xB2 ∷ replicate 141 0x00) _ refl;
  lone_87 = is_cut ch (0x87 ∷ []) _ refl;
  lone_78_at_2 = is_cut ch (0x78 ∷ 0x4D ∷ 0x78 ∷ []) _ refl;
  cut_at_144 = is_cut ch (one ++ (0x87 ∷ 0xB2 ∷ [])) _ refl;
  nothing = is_14 ch [] [] refl refl;
  only_inverse = is_14 ch (0x78 ∷ 0x4D ∷ 0x78 ∷ 0x4D ∷ []) [] refl refl;
  multiframe_256 = is_cut ch (again 255 one ++ one) _ (behind count1 refl 255 one (lit< tt));
  cut_256 = is_cut ch (again 255 one ++ (0x87 ∷ 0xB2 ∷ [])) _ (behind count1 refl 255 (0x87 ∷ 0xB2 ∷ []) (lit< tt));
  one_flip = flipped_16 ch;
  one_by_default = default_16 one 0x08 0x00 0x0E 0xEE refl;
  lost_by_default = default_16 (headed lost) 0x01 0x00 0x01 0x01 refl;
  between_by_default = is_16 by_default (0x78 ∷ 0x4D ∷ (one ++ (0x78 ∷ 0x4D ∷ []))) (2 ∷ []) refl (λ e. omega arith)
      (one_default by_default (readings (0x78 ∷ 0x4D ∷ (one ++ (0x78 ∷ 0x4D ∷ []))) (2 ∷ [])) refl (length_readings (0x78 ∷ 0x4D ∷ (one ++ (0x78 ∷ 0x4D ∷ []))) (2 ∷ [])));
  settled_rate_2 = rate_17;
  settled_exp_9 = exp_17;
  rate_2_twice = rate_17_twice ch;
  exp_9_twice = exp_17_twice ch;
  index_167 = one_18 167 13 (lit< tt);
  index_335 = is_18 ch two (0 ∷ 144 ∷ []) cut_two (λ e. omega arith) (common_bits 8) (settles_two ch) usable_8 335 26 (lit< tt);
  report_12 = is_19 by_one_header one (0 ∷ []) (cut_one 0x08 0x00 0x0E 0xEE) (λ e. omega arith) (common_bits 8) settles_one usable_8 168 12 (lit< tt) (lit< tt);
  report_25 = is_19 ch two (0 ∷ 144 ∷ []) cut_two (λ e. omega arith) (common_bits 8) (settles_two ch) usable_8 336 25 (lit< tt) (lit< tt);
  every_pair_bad = is_20 by_one_header all_bad (0 ∷ []) cut_bad (λ e. omega arith) (common_bits 8) settles_bad usable_8 168 13 (lit< tt) (lit< tt) bad_bad;
  first_before_12 = no_codebook ch (0x00 ∷ []) 1279 14 (λ e. omega arith);
  first_before_13 = no_codebook ch (0x87 ∷ []) 1279 14 (λ e. omega arith);
  first_before_14 = no_thresholds ch [] 13 (λ e. omega arith);
  at_2_before_3 = is_cut ch (0x78 ∷ 0x4D ∷ 0x00 ∷ 0x87 ∷ []) _ refl;
  at_0_before_2 = is_cut ch (0x87 ∷ 0xB2 ∷ 0x00 ∷ []) _ refl;
  cut_after_255 = is_cut ch (again 255 (headed lost) ++ (0x87 ∷ 0xB2 ∷ [])) _ (behind lost refl 255 (0x87 ∷ 0xB2 ∷ []) (lit< tt));
  lone_after_255 = is_cut ch (again 255 (headed lost) ++ (0x87 ∷ [])) _ (behind lost refl 255 (0x87 ∷ []) (lit< tt));
  unsettled_255 = many_lost ch 255 (lit< tt) (lit< tt);
  unknown_before_16 = sized ch (is_cut ch (headed flipped ++ (0x00 ∷ [])) _ refl) 0 0;
  short_before_16 = sized ch (is_cut ch (headed flipped ++ (0x87 ∷ [])) _ refl) 0 0;
  unsettled_before_18 = sized ch (flipped_16 ch) 0 0;
  unfit_before_18 = sized by_one_header exp_17 0 0;
  default_before_18 = sized by_default (default_16 one 0x08 0x00 0x0E 0xEE refl) 0 0;
  default_not_17 = default_16 (headed rate2) 0x0A 0x00 0x0D 0x9D refl;
  default_not_20 = is_16 by_default all_bad (0 ∷ []) cut_bad (λ e. omega arith) (one_default by_default (readings all_bad (0 ∷ [])) refl (length_readings all_bad (0 ∷ [])));
  index_before_19 = one_18 167 12 (lit< tt);
  report_before_20 = bad_19;
  unfit_before_18_twice = sized ch (exp_17_twice ch) 0 0;
  index_before_19_of_two = is_18 ch two (0 ∷ 144 ∷ []) cut_two (λ e. omega arith) (common_bits 8) (settles_two ch) usable_8 335 25 (lit< tt);
  report_before_20_of_two = is_19 ch (all_bad ++ all_bad) (0 ∷ 144 ∷ []) cut_bad_twice (λ e. omega arith) (common_bits 8) (settles_bad_twice ch) usable_8 336 25 (lit< tt) (lit< tt);
  rate_0_type_0 = speaks 0 0 (0x08 ∷ 0x00 ∷ 0x0E ∷ 0xEE ∷ []) (Headers.table).header_0_0 refl;
  rate_1_type_0 = speaks 1 0 (0x09 ∷ 0x00 ∷ 0x0F ∷ 0x3F ∷ []) (Headers.table).header_1_0 refl;
  rate_3_type_0 = speaks 3 0 (0x0B ∷ 0x00 ∷ 0x0C ∷ 0x4C ∷ []) (Headers.table).header_3_0 refl;
  rate_0_type_1 = speaks 0 1 (0x0C ∷ 0x00 ∷ 0x09 ∷ 0x59 ∷ []) (Headers.table).header_0_1 refl;
  rate_1_type_1 = speaks 1 1 (0x0D ∷ 0x00 ∷ 0x08 ∷ 0x88 ∷ []) (Headers.table).header_1_1 refl;
  rate_3_type_1 = speaks 3 1 (0x0F ∷ 0x00 ∷ 0x0B ∷ 0xFB ∷ []) (Headers.table).header_3_1 refl;
}
