-- NEVER MISLED. "Syncs whole, pairs damaged in any way whatsoever. If of two multiframes or more at most one header has more than three flips,
-- or an only header has at most five, a reading that succeeds gives the settings and the count sent." So 8 kHz never goes to the 11 kHz model.
-- An only header settles only where the caller asks for the old rule; by default no reading of one multiframe succeeds (02, C-20).
-- Assumes nothing.
use Rattle.std.specs.Prelude.{◌≡◌, List, [], false, ℕ, ◌<◌, length, Some, Ok}
use Rattle.std.proofs.Common.{sym, ap, ◌∙◌, subst, ⊎_elim, arith}
use Rattle.std.proofs.Math.Decide.{ℕ_discrete}
use Rattle.choices.specs.Choices.{one_settles}
use Rattle.choices.specs.declared.Choices.{Choices}
use Rattle.lists.specs.Rows.{each}
use Rattle.tables.specs.Tables.{Tables}
use Rattle.cutting.specs.Cutting.{Cutting, cutting}
use Rattle.cutting.proofs.Laws.{every_length}
use Rattle.header_code.specs.Code.Distance.{far_from_one}
use Rattle.message.specs.Message.{settings_of, common_bits}
use Rattle.message.specs.Message.Laws.{message_lt}
use Rattle.header.specs.Reading as H
use Rattle.header.proofs.Laws.{flips_counted, reads}
use Rattle.header.specs.Types.{Header}
use Rattle.header_readings.specs.Readings.{readings}
use Rattle.settling.specs.Settling.{settling}
use Rattle.settling.proofs.Laws.{only_settles}
use Rattle.reader.specs.Reading.{reading}
use Rattle.reader.specs.declared.Summary.{Summary}
use Rattle.reader.proofs.Chosen.{default_two}
use Rattle.image.specs.Made.{sync_in, word_in}
use Rattle.image.proofs.Laws.{length_image, image_sync}
use Rattle.writer.proofs.Laws.{few_multiframes}
use Rattle.writer.specs.Utterance.{Utterance, multiframes_of, image_of}
use Rattle.writer.proofs.Utterance.{is_accepted}
use Rattle.damage.specs.Damage.{sent_message, header_near}
use Rattle.demands.specs.Headers.{sent_common}
use Rattle.demands.proofs.HeadersLaws.{common_sent, settings_sent, settles_nothing_else}
use Rattle.demands.specs.Whole.{row_of}
use Rattle.demands.proofs.WholeLaws.{readings_are, cut_is}
use Rattle.demands.specs.WritesAgain as A
use Rattle.demands.proofs.WritesAgainLaws as AL
use Rattle.promises.specs.Misled.{OnlyFive, Premises, AsSent}

module _ (ch : Choices) (u : Utterance) (s : List ℕ) (p : Premises u s) where
  abbrev m : ℕ
  m = multiframes_of u

  cut : (cutting s).places ≡ row_of m
  cut =
      ap (λ (w : Cutting). w.places)
      (cut_is s m (few_multiframes u.settings u.indices (is_accepted u).sizes) (p.size ∙ length_image u.settings u.indices m)
      (λ k h. p.syncs k h ∙ image_sync u.settings u.indices m k h))

  -- an only header that is a codeword and has at most five flips is the one sent: six bits lie between two codewords
  only_sent : OnlyFive u s → (d : ℕ) → settling ch (readings s (row_of m)) ≡ Some d → d ≡ sent_common u
  only_sent o d e =
      let x = only_settles ch (H.reading (word_in s 0)) d (sym (ap (settling ch) (readings_are s m) ∙ ap (λ (n : ℕ). settling ch (each (λ k. H.reading (word_in s k)) n)) o.single) ∙ e) in
      let r : H.ReadAs (word_in s 0) (Some x.decoded) = read x.read_as in
      sym x.bits
      ∙ elim (ℕ_discrete x.decoded.message (sent_message u 0)) [
        | yes y ↦ ap common_bits y ∙ common_sent u 0
        | no n ↦
            absurd
            (omega (
              arith,
              flips_counted (word_in s 0) x.decoded r.1,
              x.clean,
              o.five,
              header_near u s 0 (omega arith),
              far_from_one (word_in s 0) x.decoded.message (sent_message u 0) r.0 (message_lt u.settings 1 0) n,
            ))
      ]
    where
      read : {h : Header} → H.reading (word_in s 0) ≡ h → H.ReadAs (word_in s 0) h
      read e = subst (H.ReadAs (word_in s 0)) e (reads (word_in s 0))

  settled_sent : (d : ℕ) → settling ch (readings s (row_of m)) ≡ Some d → d ≡ sent_common u
  settled_sent d e = ⊎_elim (λ a. settles_nothing_else u s a.but (λ k h n. let l = a.others k h n in omega arith) ch d a.two e) (λ o. only_sent o d e) p.headers

  module _ (tables : Tables) (index report : List ℕ) (given : Summary) (e : (reading ch s tables index report).answer ≡ Ok given) where
    w : A.WasRead ch s tables index report [] given
    w = AL.was_read ch s tables index report [] given e

    common : w.common ≡ sent_common u
    common = settled_sent w.common (sym (ap (λ (ps : List ℕ). settling ch (readings s ps)) cut) ∙ w.reader_accepts.fitting.settles)

    proof : AsSent u s given
    proof = record {
      settings = ap (λ (g : Summary). g.settings) w.given_is ∙ ap settings_of common ∙ settings_sent u;
      multiframes = ap (λ (g : Summary). g.multiframes) w.given_is ∙ ap length cut ∙ every_length 0 m;
    }

pub never_misled : (ch : Choices) (u : Utterance) (s : List ℕ) → Premises u s → (tables : Tables) (index report : List ℕ) (given : Summary)
    → (reading ch s tables index report).answer ≡ Ok given → AsSent u s given
never_misled ch = proof ch

-- BY DEFAULT ONE MULTIFRAME MISLEADS NOBODY, whatever its header is: no reading of it succeeds (02, C-20)
pub none_by_default : (ch : Choices) (u : Utterance) (s : List ℕ) → one_settles ch ≡ false → multiframes_of u ≡ 1 → length s ≡ length (image_of u)
    → ((k : ℕ) → k < multiframes_of u → sync_in s k ≡ sync_in (image_of u) k) → (tables : Tables) (index report : List ℕ) (given : Summary)
    → (reading ch s tables index report).answer ≡ Ok given → ⊥
none_by_default ch u s default one size syncs tables index report given e =
    let m = multiframes_of u in
    let w = AL.was_read ch s tables index report [] given e in
    let c = cut_is s m (few_multiframes u.settings u.indices (is_accepted u).sizes) (size ∙ length_image u.settings u.indices m)
    (λ k h. syncs k h ∙ image_sync u.settings u.indices m k h) in
    let n : given.multiframes ≡ 1 =
    ap (λ (g : Summary). g.multiframes) w.given_is ∙ ap (λ (x : Cutting). length x.places) c ∙ every_length 0 m ∙ one in
    omega (arith, n, default_two s tables index report ch default given e)
