-- The settings before the end and the full reading of the same octets (02, C-11): "Its answer equals the full reading's settings whenever the full
-- reading succeeds. Where the full reading refuses further on, this call still gives the settings, or 17. If nothing settles before the end it
-- refuses as the full reading does, with 11 and 18 to 20 not applying."
-- Assumes nothing.
use Rattle.std.specs.Prelude.{ℕ, ◌≤◌, ◌≡◌, ◌⊎◌, List, [], Bool, true, false, length, Some, None, Ok, Err}
use Rattle.std.proofs.Math.Path.{refl}
use Rattle.std.proofs.Common.{ap, sym, ◌∙◌, subst, inl, inr, arith}
use Rattle.lists.specs.Tests.{true_false}
use Rattle.choices.specs.declared.Choices.{Choices}
use Rattle.tables.specs.Tables.{Tables, RightTables}
use Rattle.message.specs.Message.{settings_of}
use Rattle.refusals.specs.declared.Reading.{Reading as Refusal}
use Rattle.refusals.specs.declared.Reading.TheVariants.{WrongTables, NegativeThreshold, Unknown, CutShort, Empty, TooMany, Unsettled, Unfit, IndexShort, ReportShort, AllBad}
use Rattle.cutting.specs.Cutting.{whole, refused, cutting}
use Rattle.cutting.proofs.ReachedLaws.{ends_exactly, whole_exactly}
use Rattle.header_readings.specs.Readings.{readings}
use Rattle.settling.specs.Settling.{first_agreeing, settling}
use Rattle.unfit.specs.Unfit.{unfit}
use Rattle.header_readings.specs.Laws.{length_readings}
use Rattle.unfit.specs.Laws.{Usable, Unusable, fit_is, unfit_is, fit_says, unfit_says}
use Rattle.settling.specs.Types.{Settlement}
use Rattle.deciding.specs.Types.{Verdict}
use Rattle.reader.specs.Reading.{verdict, finished, reading}
use Rattle.reader.proofs.ReadingLaws.{accepted}
use Rattle.reader.specs.RefusalLaws.{Fit, Given}
use Rattle.reader.proofs.RefusalLaws.{decided_exactly, refused_exactly}
use Rattle.reader.specs.declared.Summary.{Summary}
use Rattle.reader.specs.Types as Ra
use Rattle.until_settled.specs.Types.{Answer}
use Rattle.until_settled.specs.declared.Beginning.{Beginning}
use Rattle.until_settled.specs.UntilSettled.{until_settled}
use Rattle.until_settled.proofs.Agreeing.{front_enough}
use Rattle.until_settled.specs.Laws.{headers, Agreed, multiframes_read}
use Rattle.until_settled.proofs.Laws.{settled_read, settled_unfit, refuses_cut, refuses_empty, whole_settles}
use Rattle.until_settled_demands.specs.Full.{Answers, CutSays, FullSays, GivesSettled}

module _ (ch : Choices) (s : List ℕ) where
  -- ---- octets that are cut up to their end, with a multiframe
  abbrev places : List ℕ
  places = (cutting s).places

  agreed_settles : (c : ℕ) → Agreed s c → settling ch (headers s) ≡ Some c
  unfolding settling
  agreed_settles c a = rw a

  same_bits : (c d : ℕ) → Some c ≡ Some d → c ≡ d
  same_bits c d e = cc

  module _ (uncut : (cutting s).ending ≡ whole) (some : length (cutting s).places ≡ 0 → ⊥) where
    -- settled in full, settled before the end
    module _ (c : ℕ) (settles : settling ch (headers s) ≡ Some c) where
      usable_answers : (x : Settlement) → first_agreeing [] (headers s) ≡ x → Usable c → Answers ch s (settings_of c) (length (cutting s).places)
      usable_answers (Some d) a u =
          let e : d ≡ c = same_bits d c (sym (agreed_settles d a) ∙ settles) in
          record {
            multiframes = multiframes_read s;
            answer = settled_read s c (a ∙ ap Some e) ch u;
            few = subst (λ (k : ℕ). multiframes_read s ≤ k) (length_readings s places) (front_enough [] (headers s) d a).1;
          }
      usable_answers None a u =
          record { multiframes = length places; answer = whole_settles ch s a uncut some (Some c) settles ∙ rw (fit_is c u); few = omega arith }

      unusable_answers : (x : Settlement) → first_agreeing [] (headers s) ≡ x → Unusable c → until_settled ch s ≡ Err Unfit
      unusable_answers (Some d) a u = let e : d ≡ c = same_bits d c (sym (agreed_settles d a) ∙ settles) in settled_unfit s c (a ∙ ap Some e) ch u
      unusable_answers None a u = whole_settles ch s a uncut some (Some c) settles ∙ rw (unfit_is c u)

    unsettled_answers : (x : Settlement) → first_agreeing [] (headers s) ≡ x → settling ch (headers s) ≡ None → until_settled ch s ≡ Err Unsettled
    unsettled_answers (Some d) a e = absurd (let u : Some d ≡ None = sym (agreed_settles d a) ∙ e in let z : ◌≡◌ {A = ℕ} 0 1 = cc in omega arith)
    unsettled_answers None a e = whole_settles ch s a uncut some None e

  empty_answers : (cutting s).ending ≡ whole → length (cutting s).places ≡ 0 → until_settled ch s ≡ Err (Empty (length s))
  unfolding first_agreeing readings
  empty_answers uncut z = refuses_empty ch s (rw z) uncut z

  -- ---- what cutting refuses
  cut_answers : (r : Refusal) → (cutting s).ending ≡ refused r → CutSays ch s r
  cut_answers r e = by (first_agreeing [] (headers s)) refl
    where
      given : (c : ℕ) → Agreed s c → (t : Bool) → unfit c ≡ t
          → (Usable c × (until_settled ch s ≡ Ok (record { settings = settings_of c; multiframes = multiframes_read s }))) ⊎ (Unusable c × (until_settled ch s ≡ Err Unfit))
      given c a false h = let u = fit_says c h in inl (u, settled_read s c a ch u)
      given c a true h = let u = unfit_says c h in inr (u, settled_unfit s c a ch u)

      by : (x : Settlement) → first_agreeing [] (headers s) ≡ x → CutSays ch s r
      by (Some c) a = inl (record { common = c; agreed = a; answer = given c a (unfit c) refl })
      by None a = inr (a, refuses_cut ch s a r e)

-- ---- THE FULL READING'S ANSWER, FOR EVERY TABLE AND ROOM, SAYS WHAT IS ANSWERED BEFORE THE END
module _ (ch : Choices) (s : List ℕ) (tables : Tables) (index report : List ℕ) where
  fit_gives : Fit ch s tables (length index) (length report) → GivesSettled ch s (length (cutting s).places)
  fit_gives f =
      let c = f.1.0 in
      record {
        common = c;
        settled = f.1.1.0;
        usable = f.1.1.1;
        answers = usable_answers ch s ((whole_exactly s).1 f.0.0.1) f.0.1 c f.1.1.0 (first_agreeing [] (headers s)) refl f.1.1.1;
      }

  refused_says : (r : Refusal) → Given ch s tables (length index) (length report) r → FullSays ch s (Err r)
  refused_says WrongTables g = tt
  refused_says (NegativeThreshold k) g = tt
  refused_says (Unknown p) g = cut_answers ch s (Unknown p) ((ends_exactly s (refused (Unknown p))).1 g.1)
  refused_says (CutShort p) g = cut_answers ch s (CutShort p) ((ends_exactly s (refused (CutShort p))).1 g.1)
  refused_says (TooMany p) g = cut_answers ch s (TooMany p) ((ends_exactly s (refused (TooMany p))).1 g.1)
  refused_says (Empty n) g = empty_answers ch s ((whole_exactly s).1 g.0.1) g.1 ∙ ap (λ (k : ℕ). Err (Empty k)) (sym g.2)
  refused_says Unsettled g = unsettled_answers ch s ((whole_exactly s).1 g.0.0.1) g.0.1 (first_agreeing [] (headers s)) refl g.1
  refused_says Unfit g = unusable_answers ch s ((whole_exactly s).1 g.0.0.1) g.0.1 g.1.0 g.1.1.0 (first_agreeing [] (headers s)) refl g.1.1.1
  refused_says (IndexShort n) g = fit_gives g.0
  refused_says (ReportShort n) g = fit_gives g.0.0
  refused_says AllBad g = fit_gives g.0.0.0

  decided : (v : Verdict) → verdict ch s tables (length index) (length report) ≡ v → FullSays ch s (finished s tables index report (cutting s).places v).answer
  decided (Err r) e = refused_says r ((decided_exactly ch s tables (length index) (length report) r).0 e)
  decided (Ok c) e =
      let a = accepted ch s tables (length index) (length report) c e in
      usable_answers ch s a.uncut a.some c a.fitting.settles (first_agreeing [] (headers s)) refl a.fitting.usable

  pub full : FullSays ch s (reading ch s tables index report).answer
  unfolding reading
  full = decided (verdict ch s tables (length index) (length report)) refl

  -- "ITS ANSWER EQUALS THE FULL READING'S SETTINGS WHENEVER THE FULL READING SUCCEEDS"
  pub full_settings : (g : Summary) → (reading ch s tables index report).answer ≡ Ok g → Answers ch s g.settings g.multiframes
  full_settings g e = subst (FullSays ch s) e full

  -- "IF NOTHING SETTLES BEFORE THE END IT REFUSES AS THE FULL READING DOES", if the tables are right: 11 and 10 come first there
  pub refuses_as_full : RightTables tables → first_agreeing [] (headers s) ≡ None → (r : Refusal) → until_settled ch s ≡ Err r
      → (reading ch s tables index report).answer ≡ Err r
  refuses_as_full right none r e = by (reading ch s tables index report).answer refl full
    where
      differ : (b : Beginning) → until_settled ch s ≡ Ok b → ⊥
      differ b x = let u : Ok b ≡ Err r = sym x ∙ e in let z : ◌≡◌ {A = ℕ} 0 1 = cc in omega arith

      same : (q : Refusal) → until_settled ch s ≡ Err q → ◌≡◌ {A = Ra.Answer} (Err q) (Err r)
      same q x = let u : ◌≡◌ {A = Answer} (Err q) (Err r) = sym x ∙ e in let y : q ≡ r = cc in ap Err y

      cut : (q : Refusal) → CutSays ch s q → ◌≡◌ {A = Ra.Answer} (Err q) (Err r)
      cut q (inr x) = same q x.1
      cut q (inl x) = absurd (let u : None ≡ Some x.common = sym none ∙ x.agreed in let z : ◌≡◌ {A = ℕ} 0 1 = cc in omega arith)

      by : (a : Ra.Answer) → (reading ch s tables index report).answer ≡ a → FullSays ch s a → a ≡ Err r
      by (Ok g) ea h = absurd (differ _ h.answer)
      by (Err WrongTables) ea h = absurd ((refused_exactly ch s tables index report WrongTables).0 ea right.0)
      by (Err (NegativeThreshold k)) ea h =
          let g = (refused_exactly ch s tables index report (NegativeThreshold k)).0 ea in absurd (true_false (sym g.1.1 ∙ right.1 k g.1.0))
      by (Err (Unknown p)) ea h = cut (Unknown p) h
      by (Err (CutShort p)) ea h = cut (CutShort p) h
      by (Err (TooMany p)) ea h = cut (TooMany p) h
      by (Err (Empty n)) ea h = same (Empty n) h
      by (Err Unsettled) ea h = same Unsettled h
      by (Err Unfit) ea h = same Unfit h
      by (Err (IndexShort n)) ea h = absurd (differ _ h.answers.answer)
      by (Err (ReportShort n)) ea h = absurd (differ _ h.answers.answer)
      by (Err AllBad) ea h = absurd (differ _ h.answers.answer)
