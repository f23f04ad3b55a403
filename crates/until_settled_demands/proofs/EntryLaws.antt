-- SETTINGS BEFORE THE END, as a caller in C has them (02, C-11): what dsr_settle answers, leaves and promises, said in the numbers of dsr.h.
-- Assumes nothing.
use Rattle.std.specs.Prelude.{ℕ, ◌*◌, ◌≤◌, ◌<◌, ◌≡◌, Bool, ◌⊎◌, length, get_or, take, ltb, Some, None, Ok, Err}
use Rattle.std.proofs.Math.Path.{refl}
use Rattle.std.proofs.Common.{ap, sym, ◌∙◌, subst, inl, inr, ⊎_elim, le-ltb, lt-ltb}
use mathlib.Core.List.{List, [], ◌∷◌, ◌++◌}
use Rattle.std.proofs.Math.Bool.{true, false}
use native.Mathlib.Omega.{arith}
use Rattle.lists.specs.Tests.{when, by_test}
use Rattle.lists.specs.Parts.{over}
use Rattle.layout.specs.Layout.{multiframe_octets}
use Rattle.choices.specs.Choices.{one_settles}
use Rattle.choices.specs.declared.Choices.{Choices}
use Rattle.choices.specs.Types.{Asked}
use Rattle.tables.specs.Tables.{Tables, RightTables}
use Rattle.refusals.specs.Refusals.{no_such_choice, no_room, reading_number}
use Rattle.refusals.specs.declared.Reading.{Reading as Refusal}
use Rattle.refusals.specs.declared.Reading.TheVariants.{WrongTables, NegativeThreshold, Unknown, CutShort, Empty, TooMany, Unsettled, Unfit, IndexShort, ReportShort, AllBad}
use Rattle.settling.specs.Settling.{first_agreeing}
use Rattle.writer.specs.Utterance.{Utterance}
use Rattle.reader.specs.Reading.{reading}
use Rattle.entries.specs.Entries.{answer_numbers, summary_numbers, Returned, returned, returning, unchosen, answered, dsr_read}
use Rattle.entries.specs.Settle.{settle_numbers, beginning_numbers, settle_told, settle_given, dsr_settle}
use Rattle.demands.proofs.WholeLaws.{front_at}
use Rattle.until_settled.specs.declared.Beginning.{Beginning}
use Rattle.until_settled.specs.Types.{Answer}
use Rattle.until_settled.specs.UntilSettled.{until_settled}
use Rattle.until_settled.specs.Laws.{headers, Agreed, settling_end, Comes}
use Rattle.until_settled.proofs.Laws.{only_the_front, comes}
use Rattle.until_settled.specs.Lasting.{OfTwo}
use Rattle.until_settled.proofs.Lasting.{stays_longer, unknown_stays, too_many_stays}
use Rattle.dsr_demands.specs.Calls.{told_no_room, told_keeps, read_zero, read_success, read_refused}
use Rattle.dsr_demands.specs.Called.{Call, called, octets_of, count_of, octets_are}
use Rattle.until_settled_demands.specs.Entry.{AsRead}
use Rattle.until_settled_demands.specs.Written.{Begins}
use Rattle.until_settled_demands.proofs.FullLaws.{full_settings, refuses_as_full}
use Rattle.until_settled_demands.proofs.WrittenLaws.{first_two_settle, growing_settles}
use Rattle.until_settled_demands.proofs.Numbers.{c_settled, c_settle_refused, settle_zero}

module _ (octets answer : List ℕ) (place : ℕ) where
  -- the same answer is the same call
  same : (ch : Choices) (more : List ℕ) → until_settled ch (octets ++ more) ≡ until_settled ch octets → dsr_settle (octets ++ more) (Some ch) answer place ≡ dsr_settle octets (Some ch) answer place
  same ch more e = ap (λ (x : Answer). returning settle_numbers answer place [] [] (settle_given x)) e

  -- ---- 99, and then 96: all stays, the place too
  pub c_settle_no_room : (q : Asked) → length answer < settle_numbers → dsr_settle octets q answer place ≡ returned no_room [] [] answer place
  unfolding unchosen
  c_settle_no_room (Some ch) h = told_no_room settle_numbers answer place [] [] (settle_given (until_settled ch octets)) h
  c_settle_no_room None h = rw (lt-ltb (length answer) settle_numbers h)

  pub c_settle_no_such_choice : settle_numbers ≤ length answer → dsr_settle octets None answer place ≡ returned no_such_choice [] [] answer place
  unfolding unchosen
  c_settle_no_such_choice h = rw (le-ltb (length answer) settle_numbers h)

  -- WHATEVER IS ASKED FOR, any other number than 0 leaves the answer as it came
  pub c_settle_keeps : (q : Asked) → ((dsr_settle octets q answer place).number ≡ 0 → ⊥) → (dsr_settle octets q answer place).answer ≡ answer
  unfolding unchosen
  c_settle_keeps (Some ch) n = (told_keeps settle_numbers answer place [] [] (settle_given (until_settled ch octets)) (λ k m e. (refl, refl)) n).1.1
  c_settle_keeps None n = by (ltb (length answer) settle_numbers)
    where
      by : (t : Bool) → (when t (returned no_room [] [] answer place) (returned no_such_choice [] [] answer place)).answer ≡ answer
      by true = refl
      by false = refl

  -- NEITHER 11, 10 NOR 18 TO 20 IS EVER RETURNED: no tables and no buffers are lent
  abbrev Never : ℕ → Type 0
  Never n = (n ≡ 10 → ⊥) × (n ≡ 11 → ⊥) × (n ≡ 18 → ⊥) × (n ≡ 19 → ⊥) × (n ≡ 20 → ⊥)

  comes_never : (r : Refusal) → Comes r → Never (reading_number r)
  comes_never WrongTables c = absurd c
  comes_never (NegativeThreshold k) c = absurd c
  comes_never (Unknown p) c = (λ e. omega arith, λ e. omega arith, λ e. omega arith, λ e. omega arith, λ e. omega arith)
  comes_never (CutShort p) c = (λ e. omega arith, λ e. omega arith, λ e. omega arith, λ e. omega arith, λ e. omega arith)
  comes_never (Empty n) c = (λ e. omega arith, λ e. omega arith, λ e. omega arith, λ e. omega arith, λ e. omega arith)
  comes_never (TooMany p) c = (λ e. omega arith, λ e. omega arith, λ e. omega arith, λ e. omega arith, λ e. omega arith)
  comes_never Unsettled c = (λ e. omega arith, λ e. omega arith, λ e. omega arith, λ e. omega arith, λ e. omega arith)
  comes_never Unfit c = (λ e. omega arith, λ e. omega arith, λ e. omega arith, λ e. omega arith, λ e. omega arith)
  comes_never (IndexShort n) c = absurd c
  comes_never (ReportShort n) c = absurd c
  comes_never AllBad c = absurd c

  answered_never : (ch : Choices) (x : Answer) → until_settled ch octets ≡ x → Never (answered settle_numbers answer place [] [] (settle_told x)).number
  answered_never ch (Ok b) e = (λ e. omega arith, λ e. omega arith, λ e. omega arith, λ e. omega arith, λ e. omega arith)
  answered_never ch (Err r) e = comes_never r (comes ch octets r e)

  pub c_settle_never : (q : Asked) → Never (dsr_settle octets q answer place).number
  unfolding returning unchosen
  c_settle_never (Some ch) =
      by_test (λ (x : Returned). Never x.number) (ltb (length answer) settle_numbers) (λ h. (λ e. omega arith, λ e. omega arith, λ e. omega arith, λ e. omega arith, λ e. omega arith))
      (λ h. answered_never ch (until_settled ch octets) refl)
  c_settle_never None =
      by_test (λ (x : Returned). Never x.number) (ltb (length answer) settle_numbers) (λ h. (λ e. omega arith, λ e. omega arith, λ e. omega arith, λ e. omega arith, λ e. omega arith))
      (λ h. (λ e. omega arith, λ e. omega arith, λ e. omega arith, λ e. omega arith, λ e. omega arith))

  -- ---- THE OCTETS BEHIND THE SETTLING MULTIFRAME DO NOT COUNT, whatever is asked for and lent
  pub c_only_the_front : (c : ℕ) → Agreed octets c → (t : List ℕ) → take (settling_end octets) t ≡ take (settling_end octets) octets
      → (q : Asked) → dsr_settle t q answer place ≡ dsr_settle octets q answer place
  c_only_the_front c a t e (Some ch) = ap (λ (x : Answer). returning settle_numbers answer place [] [] (settle_given x)) (only_the_front octets c a ch t e)
  c_only_the_front c a t e None = refl

  -- ---- WHAT STAYS HOWEVER THE RECORDING GROWS: a call that answered 0, if nothing was asked for or its third number is two or more; 17, if nothing was asked for; 12
  -- and 15
  pub c_settle_stays : (ch : Choices) → (dsr_settle octets (Some ch) answer place).number ≡ 0 → (one_settles ch ≡ false) ⊎ (2 ≤ get_or (dsr_settle octets (Some ch) answer place).answer 2 0)
      → (more : List ℕ) → dsr_settle (octets ++ more) (Some ch) answer place ≡ dsr_settle octets (Some ch) answer place
  c_settle_stays ch z t more =
      let r = settle_zero octets answer place ch z in
      let b = r.1.0 in
      let s = c_settled octets answer place ch r.0 b r.1.1 in
      let third : get_or (dsr_settle octets (Some ch) answer place).answer 2 0 ≡ b.multiframes =
      ap (λ (x : Returned). get_or x.answer 2 0) s ∙ front_at answer (beginning_numbers b) settle_numbers 2 (omega arith) in
      same ch more (stays_longer ch octets (subst (OfTwo ch) (sym r.1.1) (⊎_elim (λ o. inl o) (λ h. inr (subst (λ (k : ℕ). 2 ≤ k) third h)) t)) more)

  pub c_settle_17_stays : (ch : Choices) → one_settles ch ≡ false → until_settled ch octets ≡ Err Unfit → (more : List ℕ) → dsr_settle (octets ++ more) (Some ch) answer place ≡ dsr_settle octets (Some ch) answer place
  c_settle_17_stays ch o e more = same ch more (stays_longer ch octets (subst (OfTwo ch) (sym e) o) more)

  pub c_settle_12_stays : (ch : Choices) (p : ℕ) → until_settled ch octets ≡ Err (Unknown p) → (more : List ℕ) → dsr_settle (octets ++ more) (Some ch) answer place ≡ dsr_settle octets (Some ch) answer place
  c_settle_12_stays ch p e more = same ch more (unknown_stays ch octets more p e ∙ sym e)

  pub c_settle_15_stays : (ch : Choices) (p : ℕ) → until_settled ch octets ≡ Err (TooMany p) → (more : List ℕ) → dsr_settle (octets ++ more) (Some ch) answer place ≡ dsr_settle octets (Some ch) answer place
  c_settle_15_stays ch p e more = same ch more (too_many_stays ch octets more p e ∙ sym e)

  -- ---- AS dsr_read: where that answers 0, by the same choice, dsr_settle answers 0 too, with its rate and type
  module _ (ch : Choices) (tables : Tables) (index report six : List ℕ) (at : ℕ) where
    abbrev full : Returned
    full = dsr_read octets (Some ch) tables index report six at

    abbrev soon : Returned
    soon = dsr_settle octets (Some ch) answer place

    pub c_as_read : settle_numbers ≤ length answer → (dsr_read octets (Some ch) tables index report six at).number ≡ 0 → AsRead octets answer place ch tables index report six at
    c_as_read room z =
        let r = read_zero six at index report (reading ch octets tables index report) z in
        let g = r.1.0 in
        let e = read_success six at index report (reading ch octets tables index report) r.0 g r.1.1 in
        let a = full_settings ch octets tables index report g r.1.1 in
        let b : Beginning = record { settings = g.settings; multiframes = a.multiframes } in
        let s = c_settled octets answer place ch room b a.answer in
        let here : (k : ℕ) → k < 3 → get_or soon.answer k 0 ≡ get_or (beginning_numbers b) k 0 =
        λ k h. ap (λ (x : Returned). get_or x.answer k 0) s ∙ front_at answer (beginning_numbers b) settle_numbers k h in
        let there : (k : ℕ) → k < 6 → get_or full.answer k 0 ≡ get_or (summary_numbers g) k 0 =
        λ k h. ap (λ (x : Returned). get_or x.answer k 0) e ∙ front_at six (summary_numbers g) answer_numbers k h in
        record {
          number = ap (λ (x : Returned). x.number) s;
          rate = here 0 (omega arith) ∙ sym (there 0 (omega arith));
          type = here 1 (omega arith) ∙ sym (there 1 (omega arith));
          multiframes = subst (λ (k : ℕ). k ≤ get_or full.answer 2 0) (sym (here 2 (omega arith))) (subst (λ (k : ℕ). a.multiframes ≤ k) (sym (there 2 (omega arith))) a.few);
        }

    -- REFUSES AS dsr_read DOES: where no two headers agree and the tables are right, what dsr_settle refuses with 12 to 17 dsr_read refuses with the same number and place
    pub c_refuses_as_read : RightTables tables → first_agreeing [] (headers octets) ≡ None → answer_numbers ≤ length six → settle_numbers ≤ length answer → (r : Refusal)
        → until_settled ch octets ≡ Err r
        → ((dsr_read octets (Some ch) tables index report six at).number ≡ (dsr_settle octets (Some ch) answer place).number) × ((dsr_read octets (Some ch) tables index report six at).place ≡ (dsr_settle octets (Some ch) answer place).place)
    c_refuses_as_read right none room-six room r e =
        let f = read_refused ch octets tables index report six at r room-six (refuses_as_full ch octets tables index report right none r e) in
        let g = c_settle_refused octets answer place ch room r e in
        (ap (λ (x : Returned). x.number) f ∙ sym (ap (λ (x : Returned). x.number) g), ap (λ (x : Returned). x.place) f ∙ sym (ap (λ (x : Returned). x.place) g))

  -- ---- A WRITTEN UTTERANCE OF TWO MULTIFRAMES OR MORE: the settings written, at the second, of all octets that begin with its first 288 or with these
  -- 288 after up to two flips in each of their headers
  pub c_settles_written : (u : Utterance) (s : List ℕ) → Begins u s → take (multiframe_octets * 2) octets ≡ take (multiframe_octets * 2) s → (ch : Choices) → settle_numbers ≤ length answer
      → dsr_settle octets (Some ch) answer place ≡ returned 0 [] [] (over answer 0 settle_numbers (u.settings.rate ∷ u.settings.kind ∷ 2 ∷ [])) place
  c_settles_written u s b e ch room = c_settled octets answer place ch room (record { settings = u.settings; multiframes = 2 }) (first_two_settle u s b ch octets e)

-- ---- WHAT dsr_write WROTE, while it is being sent: of its first 288 octets, and of these with anything behind them, dsr_settle gives rate and type
pub c_settles_growing : (rate kind : ℕ) (indices out : List ℕ) → Call rate kind indices out → 2 ≤ count_of indices → (more answer : List ℕ) (place : ℕ) (ch : Choices) → settle_numbers ≤ length answer
    → dsr_settle (take (multiframe_octets * 2) (octets_of rate kind indices out) ++ more) (Some ch) answer place ≡ returned 0 [] [] (over answer 0 settle_numbers (rate ∷ kind ∷ 2 ∷ [])) place
c_settles_growing rate kind indices out c two more answer place ch room =
    let u = called rate kind indices out c in
    c_settled (take (multiframe_octets * 2) (octets_of rate kind indices out) ++ more) answer place ch room (record { settings = u.settings; multiframes = 2 })
    (ap (λ (s : List ℕ). until_settled ch (take (multiframe_octets * 2) s ++ more)) (octets_are rate kind indices out c) ∙ growing_settles ch u two more)

-- ---- where dsr_read answers 0 of more octets that begin with these, rate and type that were given stand, if nothing was asked for or two multiframes or more were read
pub c_as_read_later : (octets more answer : List ℕ) (place : ℕ) (ch : Choices) (tables : Tables) (index report six : List ℕ) (at : ℕ) → (dsr_settle octets (Some ch) answer place).number ≡ 0
    → (one_settles ch ≡ false) ⊎ (2 ≤ get_or (dsr_settle octets (Some ch) answer place).answer 2 0) → (dsr_read (octets ++ more) (Some ch) tables index report six at).number ≡ 0
    → (get_or (dsr_settle octets (Some ch) answer place).answer 0 0 ≡ get_or (dsr_read (octets ++ more) (Some ch) tables index report six at).answer 0 0)
    × (get_or (dsr_settle octets (Some ch) answer place).answer 1 0 ≡ get_or (dsr_read (octets ++ more) (Some ch) tables index report six at).answer 1 0)
c_as_read_later octets more answer place ch tables index report six at z t e =
    let s = c_settle_stays octets answer place ch z t more in
    let r = c_as_read (octets ++ more) answer place ch tables index report six at (settle_zero octets answer place ch z).0 e in
    (ap (λ (x : Returned). get_or x.answer 0 0) (sym s) ∙ r.rate, ap (λ (x : Returned). get_or x.answer 1 0) (sym s) ∙ r.type)
