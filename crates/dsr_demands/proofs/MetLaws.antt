-- The premises of the theorems at the entries are met: by every utterance where they can be, and else by one with damage of each kind.
-- Assumes nothing.
use Rattle.std.specs.Prelude.{◌≡◌, List, ℕ, ◌+◌, ◌*◌, ◌≤◌, ◌<◌, take, drop, get_or, Some, Ok}
use Rattle.std.proofs.Common.{sym, ap, ap₂, ◌∙◌, subst, le_of_eq, arith, lit<, lit≤, take_at}
use Rattle.std.proofs.lemmas.List.{length-replicate}
use Rattle.lists.specs.Parts.{over}
use Rattle.layout.specs.Layout.{frame_indices, multiframe_octets, report_octets}
use Rattle.choices.specs.declared.Choices.{Choices}
use Rattle.hunt.specs.Hunt.{fewest_matches}
use Rattle.reader.specs.Reading.{reading}
use Rattle.writer.specs.Writing as W
use Rattle.image.proofs.Laws.{length_image}
use Rattle.writer.specs.Writing.{needed, writing}
use Rattle.writer.specs.Utterance.{Utterance, multiframes_of, image_of}
use Rattle.writer.proofs.Utterance.{writes}
use Rattle.settling.specs.Laws.{Enough}
use Rattle.entries.specs.Entries.{answer_numbers, summary_numbers, Returned, returned, dsr_write, dsr_read}
use Rattle.entries.specs.Bits.{dsr_read_bits}
use Rattle.damage.specs.Damage.{DamageUpTo, header_bits, loosened, header_flips}
use Rattle.damage.specs.Instances.{says1, says2, hurt1}
use Rattle.damage.proofs.Instances.{equal_images}
use Rattle.demands_met.specs.Met.{index_for, report_for, says24, hurt_image}
use Rattle.demands_met.proofs.MetLaws.{lent_zeros, writes_again_met, names_says24}
use Rattle.demands.specs.ReadsBack.{spoken}
use Rattle.hunting_demands.specs.Aired.{aired}
use Rattle.hunting_demands.proofs.Aired.{aired_on_air, names_aired_24}
use Rattle.hunting_demands.specs.Radio.{together}
use Rattle.dsr_demands.specs.Calls.{read_success}
use Rattle.dsr_demands.specs.Back.{BackPremises, AgainPremises}
use Rattle.dsr_demands.specs.Named.{Tells}
use Rattle.dsr_demands.proofs.Named.{c_names_the_damage}
use Rattle.dsr_demands.proofs.OnAir.{c_names_on_air}
use Rattle.dsr_demands.specs.Called.{Call, octets_of}
use Rattle.dsr_demands.specs.Apart.{Meet}
use Rattle.tables.specs.Tables.{zero_tables}
use Rattle.dsr_demands.specs.Met.{eight, six}
use Rattle.dsr_demands.specs.Met as Stated

module _ (u : Utterance) where
  abbrev room_for : List ℕ
  room_for = Stated.room_for u

  wrote_is : writing u.settings u.indices room_for ≡ W.outcome (Ok (needed u.indices)) (over room_for 0 (needed u.indices) (image_of u))
  wrote_is = writes u room_for (le_of_eq (sym (length-replicate (needed u.indices) 0)))

  pub call_met : Call u.settings.rate u.settings.kind u.indices room_for
  call_met = record { small = u.small; written = ap (λ (o : W.Outcome). W.number_of o.answer) wrote_is }

  -- READS BACK: every utterance of two multiframes or more, and every utterance if the old rule is asked for
  pub back_met : (ch : Choices) → Enough ch (multiframes_of u) → BackPremises ch u.settings.rate u.settings.kind u.indices room_for zero_tables (index_for (multiframes_of u)) (report_for (multiframes_of u)) six 0
  back_met ch sent = record { small = u.small; written = call_met.written; headers = sent; lent = lent_zeros (multiframes_of u); numbers = lit≤ tt }

  -- WRITES AGAIN: every image that is read
  pub again_met : (ch : Choices) → Enough ch (multiframes_of u) → AgainPremises ch (image_of u) zero_tables (index_for (multiframes_of u)) (report_for (multiframes_of u)) six 0 room_for
  again_met ch sent =
      let a = writes_again_met ch u sent in
      let i = index_for (multiframes_of u) in
      let r = report_for (multiframes_of u) in
      let o = reading ch (image_of u) zero_tables i r in
      let e : dsr_read (image_of u) (Some ch) zero_tables i r six 0 ≡ returned 0 o.index o.report (over six 0 answer_numbers (summary_numbers (spoken u))) 0 =
      read_success six 0 i r o (lit≤ tt) (spoken u) a.succeeds in
      let f : (k : ℕ) → get_or (dsr_read (image_of u) (Some ch) zero_tables i r six 0).answer k 0 ≡ get_or (over six 0 answer_numbers (summary_numbers (spoken u))) k 0 =
      λ k. ap (λ (x : Returned). get_or x.answer k 0) e in
      record {
        small = a.small;
        number = ap (λ (x : Returned). x.number) e;
        notes_0 = λ k h. ap (λ (x : Returned). get_or x.report k 0) e ∙ a.notes_0 k (subst (λ (n : ℕ). k < report_octets * n) (f 2) h);
        ended = f 5;
        no_inverses = a.no_inverses ∙ ap (λ (n : ℕ). multiframe_octets * n) (sym (f 2));
        accepts =
            ap₂ (λ (x y : ℕ). (dsr_write x y (take (frame_indices * get_or (dsr_read (image_of u) (Some ch) zero_tables i r six 0).answer 3 0) (dsr_read (image_of u) (Some ch) zero_tables i r six 0).index) room_for).number) (f 0) (f 1)
            ∙ ap₂ (λ (n : ℕ) (l : List ℕ). (dsr_write u.settings.rate u.settings.kind (take (frame_indices * n) l) room_for).number) (f 3) (ap (λ (x : Returned). x.index) e)
            ∙ ap W.number_of a.accepts;
      }

  octets_met : octets_of u.settings.rate u.settings.kind u.indices room_for ≡ image_of u
  octets_met =
      ap (λ (o : W.Outcome). take (W.place_of o.answer) o.output) wrote_is
      ∙ take_at (image_of u) (drop (0 + needed u.indices) room_for) (needed u.indices) (length_image u.settings u.indices (multiframes_of u))

-- NAMES THE DAMAGE: two multiframes with two flips in each header, a burst and two flips at distance 14 in packets of each, at dsr_read
pub named_24 : (ch : Choices) → Tells says24 (hurt_image says24) zero_tables
    (dsr_read (hurt_image says24) (Some ch) zero_tables (index_for (multiframes_of says24)) (report_for (multiframes_of says24)) six 0).number
    (dsr_read (hurt_image says24) (Some ch) zero_tables (index_for (multiframes_of says24)) (report_for (multiframes_of says24)) six 0).answer
    (dsr_read (hurt_image says24) (Some ch) zero_tables (index_for (multiframes_of says24)) (report_for (multiframes_of says24)) six 0).index
    (dsr_read (hurt_image says24) (Some ch) zero_tables (index_for (multiframes_of says24)) (report_for (multiframes_of says24)) six 0).report
named_24 ch = (c_names_the_damage ch says24 (hurt_image says24) zero_tables (index_for (multiframes_of says24)) (report_for (multiframes_of says24)) six 0 (names_says24 ch) (lit≤ tt)).0

-- and at dsr_read_bits, at bit 3, with four flips in each sync besides
pub aired_24 : (ch : Choices) → Tells says24 (together says24 (aired says24) 3) zero_tables
    (dsr_read_bits (aired says24) 0 fewest_matches (Some ch) zero_tables (index_for (multiframes_of says24)) (report_for (multiframes_of says24)) eight 0).number
    (dsr_read_bits (aired says24) 0 fewest_matches (Some ch) zero_tables (index_for (multiframes_of says24)) (report_for (multiframes_of says24)) eight 0).answer
    (dsr_read_bits (aired says24) 0 fewest_matches (Some ch) zero_tables (index_for (multiframes_of says24)) (report_for (multiframes_of says24)) eight 0).index
    (dsr_read_bits (aired says24) 0 fewest_matches (Some ch) zero_tables (index_for (multiframes_of says24)) (report_for (multiframes_of says24)) eight 0).report
aired_24 ch =
    (c_names_on_air says24 (aired says24) 0 3 fewest_matches zero_tables (index_for (multiframes_of says24)) (report_for (multiframes_of says24)) eight 0 ch (aired_on_air says24)
    (names_aired_24 ch) (lit≤ tt)).0

-- TOLD APART: two calls with different frames, and octets that both outputs can be damaged into
pub meet_met : Meet 0 0 says1.indices (room_for says1) 0 0 says2.indices (room_for says2) hurt1
meet_met =
    let e1 = octets_met says1 in
    let e2 = octets_met says2 in
    let d1 = equal_images.one in
    let d2 = subst (DamageUpTo 2 (multiframes_of says2) (image_of says2)) (sym equal_images.equal) equal_images.other in
    let a = d1.headers 0 (lit< tt) in
    let b = d2.headers 0 (lit< tt) in
    record {
      call = call_met says1;
      call' = call_met says2;
      damage = subst (λ (l : List ℕ). DamageUpTo header_bits 1 l hurt1) (sym e1) (loosened (lit≤ tt) d1);
      damage' = subst (λ (l : List ℕ). DamageUpTo header_bits 1 l hurt1) (sym e2) (loosened (lit≤ tt) d2);
      header = 0;
      within = lit< tt;
      five = subst (λ (l : List ℕ). header_flips (octets_of 0 0 says1.indices (room_for says1)) hurt1 0 + header_flips l hurt1 0 ≤ 5) (sym e2)
          (subst (λ (l : List ℕ). header_flips l hurt1 0 + header_flips (image_of says2) hurt1 0 ≤ 5) (sym e1) (omega arith));
    }
