-- PAIRS THAT THE CONSISTENCY RULE MAKES BAD (01, "Bad pairs"), where one pair is damaged: the inconsistent pair before it, and the inconsistent pairs behind
-- it, one after the other, up to the first consistent one. The premises of `names_the_damage` are met with such pairs, of one multiframe (by the old rule, 02, C-20) and of two, and a
-- pair that is only undamaged is not enough for them. The tables are not zero, and no threshold is negative.
-- Assumes nothing.
use Rattle.std.specs.Prelude.{◌≡◌, refl, List, Err}
use Rattle.std.proofs.Common.{sym, ◌∙◌, subst, arith}
use Rattle.std.proofs.Math.Logic.{inl, inr, ⊎_elim}
use Prim.Native.Nat.{ℕ, zero, suc, ◌+◌, ◌-◌, ◌≤◌, ◌<◌}
use Rattle.std.proofs.Math.Decide.{ℕ_discrete, dec_lt}
use Rattle.choices.specs.Choices.{by_one_header}
use Rattle.choices.specs.declared.Choices.{Choices}
use Rattle.lists.specs.Tests.{true_false}
use Rattle.tables.specs.Tables.{Tables}
use Rattle.reader.specs.Reading.{outcome, reading}
use Rattle.refusals.specs.declared.Reading.TheVariants.{AllBad}
use Rattle.settling.specs.Laws.{Enough}
use Rattle.writer.specs.Utterance.{Utterance, multiframes_of, pairs_of, image_of}
use Rattle.demands.proofs.HeadersLaws.{can_settle}
use Rattle.damage.specs.Damage.{Touched}
use Rattle.demands.specs.Whole.{Lent, pair_note_in}
use Rattle.demands.specs.Received.{Inconsistent, BadBefore, ByRule, BadPair, Count}
use Rattle.demands.proofs.ReceivedLaws.{count_once, count_one, count_none}
use Rattle.demands_met.specs.Met.{index_for, report_for}
use Rattle.demands_met.proofs.NeededLaws.{all_bad_refuses}
use Rattle.demands.specs.NamesTheDamage as N
use Rattle.demands.proofs.NamesTheDamageLaws as NL
use Rattle.recordings.specs.Hit.{hit_image, hits, is_hit, not_hit, clean_header}
use Rattle.recordings.specs.Said.{rises23, rises47, rises7, stairs, drops, lent_stairs, lent_drops, inconsistent_23, inconsistent_47, inconsistent_47_falls, inconsistent_7, consistent_7}
use Rattle.promises.specs.Ruled.{Chain, Stops}

-- ---- which pairs are bad where pair p alone is damaged, whatever the utterance and the tables
module _ (u : Utterance) (p : ℕ) (inside : p < pairs_of u) (tables : Tables) where
  abbrev s : List ℕ
  s = hit_image u p

  -- the pair before it, if it is inconsistent
  pub ruled_before : (q : ℕ) → suc q ≡ p → Inconsistent u s tables q → ByRule u s tables q
  ruled_before q e inconsistent = (inconsistent, inl (omega arith, subst (λ (x : ℕ). Touched (image_of u) s x) (sym e) (is_hit u p inside)))

  -- THE CHAIN: each pair behind it, if that and all between are inconsistent
  bad_behind : (q : ℕ) → p < q → ((i : ℕ) → p < i → i < q → Inconsistent u s tables i) → BadBefore u s tables q
  unfolding BadBefore
  bad_behind zero h inconsistent = absurd (omega arith)
  bad_behind (suc q) h inconsistent =
      elim (ℕ_discrete q p) [
        | yes e ↦ inl (subst (λ (x : ℕ). Touched (image_of u) s x) (sym e) (is_hit u p inside))
        | no n ↦ inr (inconsistent q (omega arith) (omega arith), inr (bad_behind q (omega arith) (λ i a b. inconsistent i a (omega arith))))
      ]

  pub ruled_behind : (q : ℕ) → p < q → ((i : ℕ) → p < i → i ≤ q → Inconsistent u s tables i) → ByRule u s tables q
  ruled_behind q h inconsistent = (inconsistent q h (omega arith), inr (bad_behind q h (λ i a b. inconsistent i a (omega arith))))

  -- no pair before that is bad, however inconsistent
  none_from : (q : ℕ) → q < p → BadBefore u s tables q → ⊥
  unfolding BadBefore
  none_from zero h b = b
  none_from (suc q) h b =
      ⊎_elim (not_hit u p q (omega arith) (λ e. omega arith))
      (λ r. ⊎_elim (λ t. not_hit u p (suc q) t.0 (λ e. omega arith) t.1) (none_from q (omega arith)) r.1) b

  pub good_before : (q : ℕ) → suc q < p → BadPair u s tables q → ⊥
  good_before q h b =
      ⊎_elim (not_hit u p q (omega arith) (λ e. omega arith))
      (λ r. ⊎_elim (λ t. not_hit u p (suc q) t.0 (λ e. omega arith) t.1) (none_from q (omega arith)) r.1) b

  -- and the chain stops at the first consistent pair r: neither it nor any behind it is bad
  none_past : (r : ℕ) → p < r → (Inconsistent u s tables r → ⊥) → (q : ℕ) → r < q → q ≤ pairs_of u → BadBefore u s tables q → ⊥
  unfolding BadBefore
  none_past r h consistent zero l i b = absurd (omega arith)
  none_past r h consistent (suc q) l i b =
      ⊎_elim (not_hit u p q (omega arith) (λ e. omega arith))
      (λ x. ⊎_elim (λ t. not_hit u p (suc q) t.0 (λ e. omega arith) t.1)
      (λ y. elim (ℕ_discrete q r) [
        | yes e ↦ consistent (subst (λ (j : ℕ). Inconsistent u s tables j) e x.0)
        | no n ↦ none_past r h consistent q (omega arith) (omega arith) y
      ]) x.1) b

  pub good_past : (r : ℕ) → p < r → (Inconsistent u s tables r → ⊥) → (q : ℕ) → r ≤ q → q < pairs_of u → BadPair u s tables q → ⊥
  unfolding BadBefore
  good_past r h consistent q l i = none_past r h consistent (suc q) (omega arith) (omega arith)

  -- any pair that is not bad meets the premises of NAMES THE DAMAGE, where the caller asks for the old rule also of one multiframe, since no header is
  -- touched
  pub met : (ch : Choices) → Enough ch (multiframes_of u) → (index report : List ℕ) → Lent (multiframes_of u) tables index report → (q : ℕ) → q < pairs_of u → (BadPair u s tables q → ⊥)
      → N.Premises ch u s tables index report
  met ch sent index report lent q h good = record { damage = hits u p; headers = can_settle ch (multiframes_of u) _ sent (clean_header u p 0 (omega arith)); pair = q; within = h; not_bad = good; lent = lent }

-- the first a numbers are not so, and the b behind them are
count_behind : (P : ℕ → Type 0) (a b : ℕ) → ((q : ℕ) → q < a → P q → ⊥) → ((q : ℕ) → a ≤ q → q < a + b → P q) → Count P (b + a) b
unfolding Count
count_behind P zero zero f g = refl
count_behind P (suc a) zero f g =
    let e : suc (0 + a) ≡ 0 + suc a = omega arith in
    let x : 0 + a < suc a = omega arith in
    subst (λ (n : ℕ). Count P n 0) e (count_none P (0 + a) 0 (count_behind P a zero (λ q h. f q (omega arith)) (λ q h l. absurd (omega arith))) (f (0 + a) x))
count_behind P a (suc b) f g =
    let e : suc (b + a) ≡ suc b + a = omega arith in
    subst (λ (n : ℕ). Count P n (suc b)) e
    (count_one P (b + a) b (count_behind P a b f (λ q h l. g q h (omega arith))) (g (b + a) (omega arith) (omega arith)))

-- if it is not one of the first two pairs, so that one is good
pub chain : (ch : Choices) (u : Utterance) → Enough ch (multiframes_of u) → (p : ℕ) (tables : Tables) (index report : List ℕ) → ((q : ℕ) → q < pairs_of u → Inconsistent u (hit_image u p) tables q)
    → 2 ≤ p → p < pairs_of u → Lent (multiframes_of u) tables index report → Chain ch u p tables index report
chain ch u sent p tables index report inconsistent two inside lent = record {
  alone = not_hit u p;
  premises = premises;
  given = named.given;
  is_read = named.succeeds;
  hit = (named.names.damaged p inside).1 (is_hit u p inside);
  before = λ q e. note_2 q (omega arith) (λ x. omega arith) (ruled_before u p inside tables q e (inconsistent q (omega arith)));
  behind = λ q h l. note_2 q l (λ x. omega arith) (ruled_behind u p inside tables q h (λ i a b. inconsistent i (omega arith)));
  earlier = λ q h. elim (ℕ_discrete (note q) 0) [
    | yes z ↦ z
    | no z ↦ absurd (good_before u p inside tables q h (inr ((named.names.others q (omega arith) (not_hit u p q (omega arith) (λ e. omega arith))).0 z)))
  ];
  count = omega (arith, count_once (BadPair u (hit_image u p) tables) (pairs_of u) named.given.bad (pairs_of u - (p - 1)) named.names.counted all_behind);
}
  where
    premises : N.Premises ch u (hit_image u p) tables index report
    premises = met u p inside tables ch sent index report lent 0 (omega arith) (good_before u p inside tables 0 (omega arith))

    named : N.Named ch u (hit_image u p) tables index report
    named = NL.names_the_damage ch u (hit_image u p) tables index report premises

    note : ℕ → ℕ
    note q = pair_note_in (reading ch (hit_image u p) tables index report).report q

    note_2 : (q : ℕ) → q < pairs_of u → (q ≡ p → ⊥) → ByRule u (hit_image u p) tables q
        → pair_note_in (reading ch (hit_image u p) tables index report).report q ≡ 2
    note_2 q h n r = named.names.ruled q h (not_hit u p q h n) r

    bad_from : (q : ℕ) → p - 1 ≤ q → q < pairs_of u → BadPair u (hit_image u p) tables q
    bad_from q l h = by (dec_lt q p) (dec_lt p q)
      where
        by : Dec (q < p) → Dec (p < q) → BadPair u (hit_image u p) tables q
        by (yes a) b = inr (ruled_before u p inside tables q (omega arith) (inconsistent q h))
        by (no a) (yes b) = inr (ruled_behind u p inside tables q b (λ i x y. inconsistent i (omega arith)))
        by (no a) (no b) = let e : p ≡ q = omega arith in inl (subst (λ (x : ℕ). Touched (image_of u) (hit_image u p) x) e (is_hit u p inside))

    all_behind : Count (BadPair u (hit_image u p) tables) (pairs_of u) (pairs_of u - (p - 1))
    all_behind =
        let e : pairs_of u - (p - 1) + (p - 1) ≡ pairs_of u = omega arith in
        subst (λ (n : ℕ). Count (BadPair u (hit_image u p) tables) n (pairs_of u - (p - 1))) e
        (count_behind (BadPair u (hit_image u p) tables) (p - 1) (pairs_of u - (p - 1)) (λ q h. good_before u p inside tables q (omega arith))
        (λ q l h. bad_from q l (omega arith)))

-- it is so of one multiframe, where the caller asks for the old rule
pub chain_23 : Chain by_one_header rises23 5 stairs (index_for 1) (report_for 1)
chain_23 = chain by_one_header rises23 (inr refl) 5 stairs (index_for 1) (report_for 1) inconsistent_23 (omega arith) (omega arith) (lent_stairs 1)

-- of two, where the chain runs on from the first into the second
pub chain_47 : (ch : Choices) → Chain ch rises47 10 stairs (index_for 2) (report_for 2)
chain_47 ch = chain ch rises47 (inl (omega arith)) 10 stairs (index_for 2) (report_for 2) inconsistent_47 (omega arith) (omega arith) (lent_stairs 2)

-- and where every pair falls: a fall counts as much as a rise (02, C-12)
pub chain_47_falls : (ch : Choices) → Chain ch rises47 10 drops (index_for 2) (report_for 2)
chain_47_falls ch = chain ch rises47 (inl (omega arith)) 10 drops (index_for 2) (report_for 2) inconsistent_47_falls (omega arith) (omega arith) (lent_drops 2)

pub stops_7 : Stops
stops_7 = record {
  premises = met rises7 0 (omega arith) stairs by_one_header (inr refl) (index_for 1) (report_for 1) (lent_stairs 1) 4 (omega arith) (good 4 (omega arith) (omega arith));
  hit = is_hit rises7 0 (omega arith);
  ruled = λ q h l. ruled_behind rises7 0 (omega arith) stairs q h (λ i a b. inconsistent_7 i (omega arith));
  good = good;
}
  where
    good : (q : ℕ) → 4 ≤ q → q < 12 → BadPair rises7 (hit_image rises7 0) stairs q → ⊥
    good = good_past rises7 0 (omega arith) stairs 4 (omega arith) (λ e. true_false (sym e ∙ consistent_7))

-- ---- ONE UNDAMAGED PAIR IS NOT ENOUGH: only the first pair is damaged, every other is bad by the rule, and the reading is refused, 20
pub undamaged_not_enough : (ch : Choices) (u : Utterance) → Enough ch (multiframes_of u) → (tables : Tables) (index report : List ℕ) → ((q : ℕ) → q < pairs_of u → Inconsistent u (hit_image u 0) tables q)
    → Lent (multiframes_of u) tables index report
    → ((q : ℕ) → 0 < q → q < pairs_of u → Touched (image_of u) (hit_image u 0) q → ⊥)
    × (reading ch (hit_image u 0) tables index report ≡ outcome (Err AllBad) index report)
undamaged_not_enough ch u sent tables index report inconsistent lent = (
  (λ q h l. not_hit u 0 q l (λ e. omega arith)),
  all_bad_refuses ch u (hit_image u 0) (hits u 0) tables index report lent (can_settle ch (multiframes_of u) _ sent (clean_header u 0 0 (omega arith))) every,
)
  where
    every : (q : ℕ) → q < pairs_of u → BadPair u (hit_image u 0) tables q
    every zero h = inl (is_hit u 0 h)
    every (suc q) h = inr (ruled_behind u 0 (omega arith) tables (suc q) (omega arith) (λ i a b. inconsistent i (omega arith)))

-- it is so of one multiframe, where the caller asks for the old rule, and of two
pub all_but_one : reading by_one_header (hit_image rises23 0) stairs (index_for 1) (report_for 1) ≡ outcome (Err AllBad) (index_for 1) (report_for 1)
all_but_one = (undamaged_not_enough by_one_header rises23 (inr refl) stairs (index_for 1) (report_for 1) inconsistent_23 (lent_stairs 1)).1

pub all_but_one_47 : (ch : Choices) → reading ch (hit_image rises47 0) stairs (index_for 2) (report_for 2) ≡ outcome (Err AllBad) (index_for 2) (report_for 2)
all_but_one_47 ch = (undamaged_not_enough ch rises47 (inl (omega arith)) stairs (index_for 2) (report_for 2) inconsistent_47 (lent_stairs 2)).1
