-- IF IT IS READ: with at most three flips in each header and demand 3's damage to packets, a reading that succeeds says all that names-the-damage
-- says. The premises on headers and on a good pair, which no caller can see, follow from the success: 16 and 20 would have come else.
-- Assumes nothing.
use Rattle.std.specs.Prelude.{◌≡◌, List, [], ℕ, ◌*◌, ◌≤◌, ◌<◌, length, get_or, Some, Ok}
use Rattle.std.proofs.Common.{sym, ap, ◌∙◌, subst, inl, inr, ⊎_elim, arith}
use Rattle.std.proofs.Math.Decide.{ℕ_discrete, dec_lt}
use Rattle.lists.specs.Tests.{true_false}
use Rattle.lists.specs.Parts.{over}
use Rattle.layout.specs.Layout.{index_octets, report_octets, sync}
use Rattle.choices.specs.declared.Choices.{Choices}
use Rattle.tables.specs.Tables.{Tables}
use Rattle.cutting.specs.Cutting.{Cutting, cutting}
use Rattle.cutting.proofs.Laws.{every_length}
use Rattle.header_readings.specs.Readings.{readings}
use Rattle.settling.specs.Settling.{settling}
use Rattle.carrier.specs.Carrier.{received, pair_count}
use Rattle.notes.specs.Laws.{length_notes}
use Rattle.bad_pairs.specs.BadPairs.{bad, bad_pairs}
use Rattle.bad_pairs.specs.Laws.{few_bad, Good, some_good}
use Rattle.deciding.specs.Deciding.{received_notes}
use Rattle.reader.specs.Types.{Answer}
use Rattle.reader.specs.Reading.{Outcome, outcome, reading}
use Rattle.reader.specs.declared.Summary.{Summary}
use Rattle.image.specs.Made.{sync_in}
use Rattle.image.proofs.Laws.{length_image, image_sync}
use Rattle.wrong_frames.specs.WrongFrames.{frame_count}
use Rattle.writer.proofs.Laws.{few_multiframes}
use Rattle.writer.specs.Utterance.{Utterance, multiframes_of, pairs_of, image_of}
use Rattle.writer.proofs.Utterance.{is_accepted}
use Rattle.damage.specs.Damage.{DamageUpTo, header_flips}
use Rattle.demands.specs.Headers.{Settling}
use Rattle.demands.proofs.HeadersLaws.{sent_enough, settled_readable, touched_unsettles}
use Rattle.demands.specs.Received.{BadPair, Tells, is_so, not_so}
use Rattle.demands.proofs.ReceivedLaws.{tells_bad}
use Rattle.demands.specs.Whole.{row_of, pair_note_in}
use Rattle.demands.proofs.WholeLaws.{cut_is}
use Rattle.demands.specs.NamesTheDamage as N
use Rattle.demands.proofs.NamesTheDamageLaws as NL
use Rattle.demands.specs.ReadsBack.{spoken, padded, mended_report}
use Rattle.demands.specs.WritesAgain as A
use Rattle.demands.proofs.WritesAgainLaws as AL
use Rattle.promises.specs.Heard as H
use Rattle.promises.proofs.Heard.{heard_whole, last_heard}

module _ (ch : Choices) (u : Utterance) (s : List ℕ) (d : DamageUpTo 3 (multiframes_of u) (image_of u) s) (tables : Tables) (index report : List ℕ) (given : Summary)
    (e : (reading ch s tables index report).answer ≡ Ok given) where
  abbrev m : ℕ
  m = multiframes_of u

  w : A.WasRead ch s tables index report [] given
  w = AL.was_read ch s tables index report [] given e

  syncs : (k : ℕ) → k < m → sync_in s k ≡ sync
  syncs k h = d.syncs k h ∙ image_sync u.settings u.indices m k h

  cut : (cutting s).places ≡ row_of m
  cut =
      ap (λ (x : Cutting). x.places)
      (cut_is s m (few_multiframes u.settings u.indices (is_accepted u).sizes) (d.size ∙ length_image u.settings u.indices m) syncs)

  rows : length (cutting s).places ≡ m
  rows = ap length cut ∙ every_length 0 m

  settled : settling ch (readings s (row_of m)) ≡ Some w.common
  settled = sym (ap (λ (ps : List ℕ). settling ch (readings s ps)) cut) ∙ w.reader_accepts.fitting.settles

  -- what settled them
  heads : Settling ch u s
  heads =
      elim (dec_lt m 2) [
        | no n ↦ inl (settled_readable u s d.headers ch w.common (omega arith) settled)
        | yes l ↦
            elim (ℕ_discrete (header_flips (image_of u) s 0) 0) [
              | yes z ↦ ⊎_elim (λ two. absurd (omega arith)) (λ asked. inr (asked, (omega arith, z))) (sent_enough ch u s w.common settled)
              | no n ↦ let x = sym (touched_unsettles u s d.headers ch (omega arith) n) ∙ settled in let z : ◌≡◌ {A = ℕ} 0 1 = cc in absurd (omega arith)
            ]
      ]

  abbrev ns : List ℕ
  ns = received_notes s (row_of m) tables

  -- a pair that is not bad
  good : Good ns
  good =
      some_good ns
      (below (bad_pairs ns) (length ns) (few_bad ns)
      (λ x. subst (λ (ps : List ℕ). bad_pairs (received_notes s ps tables) ≡ pair_count ps → ⊥) cut w.reader_accepts.fitting.roomy.not_all
      (x ∙ length_notes (received s (row_of m)) (pair_count (row_of m)) tables)))
    where
      below : (a b : ℕ) → a ≤ b → (a ≡ b → ⊥) → a < b
      below a b h n = omega arith

  inside : good.pair < pairs_of u
  inside = let l = good.within in omega (arith, length_notes (received s (row_of m)) (pair_count (row_of m)) tables, every_length 0 m)

  not_bad : BadPair u s tables good.pair → ⊥
  not_bad b = by (tells_bad u s d tables good.pair inside)
    where
      by : Tells (BadPair u s tables good.pair) (bad (get_or ns good.pair 0)) → ⊥
      by (is_so x t) = true_false (sym t ∙ ap bad good.good)
      by (not_so n t) = n b

  -- so the premises hold
  pub wider_if_read : N.Wider ch u s tables index report
  wider_if_read = record {
    damage = d;
    headers = heads;
    pair = good.pair;
    within = inside;
    not_bad = not_bad;
    lent = record {
      right_tables = w.reader_accepts.right_tables;
      index_room = subst (λ (n : ℕ). index_octets * n ≤ length index) rows w.reader_accepts.fitting.roomy.index_room;
      report_room = subst (λ (n : ℕ). report_octets * n ≤ length report) rows w.reader_accepts.fitting.roomy.report_room;
    };
  }

  abbrev result : Outcome
  result = reading ch s tables index report

  -- NAMES THE DAMAGE, IF IT IS READ
  pub names_if_read : N.Names u s tables given (reading ch s tables index report).index (reading ch s tables index report).report
  names_if_read =
      let n = NL.names_wider ch u s tables index report wider_if_read in
      let r : ◌≡◌ {A = Answer} (Ok n.given) (Ok given) = sym n.succeeds ∙ e in
      let g : n.given ≡ given = cc in
      subst (λ (x : Summary). N.Names u s tables x result.index result.report) g n.names

  -- HEARD WHOLE, IF IT IS READ: no pair named
  pub heard_if_read : ((q : ℕ) → q < pairs_of u → pair_note_in (reading ch s tables index report).report q ≡ 0)
      → reading ch s tables index report
      ≡ outcome (Ok (spoken u)) (over index 0 (index_octets * multiframes_of u) (padded u)) (over report 0 (report_octets * multiframes_of u) (mended_report u s))
  heard_if_read = heard_whole ch u s tables index report wider_if_read

  -- LAST HEARD, IF IT IS READ: no pair of the last multiframe named
  pub last_if_read : H.LastUnnamed ch u s tables index report wider_if_read → (given.speech ≡ frame_count u.indices) × (given.end ≡ 1)
  last_if_read none = last_heard ch u s tables index report wider_if_read none given e
