-- What a dispatcher would ask of settings that come before the end (02, C-11): the octets behind the settling multiframe do not count, a longer
-- recording gives the same answer once it settled, and each refusal comes where it must.
-- Assumes nothing.
use Rattle.std.specs.Prelude.{ℕ, suc, ◌+◌, ◌-◌, ◌≤◌, ◌<◌, Bool, length, get_or, take, drop, eqb, Some, None, Ok, Err}
use Rattle.std.proofs.Math.Path.{◌≡◌, refl, ap, sym}
use Rattle.std.proofs.Common.{◌∙◌, subst, take-append-drop, take-take, take_at, length-take-le, arith}
use mathlib.Core.List.{List, [], ◌++◌, append-nil}
use Rattle.std.proofs.Math.Bool.{true, false}
use Rattle.std.proofs.Math.ListN.{get_or-append}
use Rattle.std.proofs.lemmas.List.{take-append-le}
use Rattle.std.proofs.Math.Seq.{take-length}
use Rattle.std.proofs.Math.Decide.{dec_lt}
use borrow.Author.Tests.{eq-eqb, ne_eqb, eqb-false, le-ltb}
use Rattle.lists.specs.Tests.{when, by_test}
use Rattle.layout.specs.Layout.{multiframe_octets, most_multiframes}
use Rattle.choices.specs.declared.Choices.{Choices}
use Rattle.settings.specs.Settings.{settings_right}
use Rattle.message.specs.Message.{rate_of, type_of, settings_of}
use Rattle.message.specs.Message.Laws.{rate_lt, type_lt}
use Rattle.refusals.specs.declared.Reading.{Reading as Refusal}
use Rattle.refusals.specs.declared.Reading.TheVariants.{WrongTables, NegativeThreshold, Unknown, CutShort, Empty, TooMany, Unsettled, Unfit, IndexShort, ReportShort, AllBad}
use Rattle.header.specs.Types.{Header}
use Rattle.cutting.specs.Cutting.{Ending, whole, refused, Cutting, ended, walk, cutting}
use Rattle.cutting.proofs.Laws.{places_placed, at_most_255}
use Rattle.cutting.specs.Reached.{Reason}
use Rattle.cutting.proofs.ReachedLaws.{ends_exactly}
use Rattle.header_readings.specs.Readings.{readings}
use Rattle.settling.specs.Settling.{first_agreeing, settling}
use Rattle.unfit.specs.Unfit.{unfit}
use Rattle.header_readings.specs.Laws.{length_readings}
use Rattle.settling.proofs.Laws.{not_one}
use Rattle.unfit.specs.Laws.{Usable, Unusable, fit_is, unfit_is, fit_says}
use Rattle.settling.specs.Types.{Settlement}
use Rattle.until_settled.specs.declared.Beginning.{Beginning}
use Rattle.until_settled.specs.Types.{Answer}
use Rattle.until_settled.specs.UntilSettled.{read_until, settled_answer, end_answer, unsettled_answer, answer_by, until_settled}
use Rattle.until_settled.proofs.Agreeing.{front_settles, front_enough, two_read, not_before}
use Rattle.until_settled.specs.Front.{Front, got, goes, front_place, same_front, same_readings, readings_more}
use Rattle.until_settled.specs.Laws.{Agreed, Comes, headers, multiframes_read, settling_end}

-- ---- what settles in front, and where cutting ends
module _ (ch : Choices) (s : List ℕ) {p : ℕ} {ps : List ℕ} (f : Front s p ps) where
  abbrev rest : Cutting
  rest = walk 0 (drop p s) p (length ps)

  all_readings : headers s ≡ readings s ps ++ readings s rest.places
  all_readings = ap (readings s) (goes s f).all ∙ readings_more s ps rest.places

  -- two headers in front that agree make the answer, whatever stands behind
  pub settles_here : (c : ℕ) → first_agreeing [] (readings s ps) ≡ Some c → settled_answer (read_until [] (readings s ps)) (Some c) ≡ until_settled ch s
  unfolding until_settled
  settles_here c e =
      let g = front_settles [] (readings s ps) (readings s rest.places) c e in
      sym (ap (λ (hs : List Header). answer_by ch (length s) hs (cutting s).ending (first_agreeing [] hs)) all_readings ∙ rw (g.0, g.1))

  -- where cutting ends and no two agree, it makes the answer
  pub ends_here : (e : Ending) → rest ≡ ended e → first_agreeing [] (readings s ps) ≡ None → unsettled_answer ch (length s) (readings s ps) e ≡ until_settled ch s
  unfolding until_settled readings
  ends_here e w none =
      let nothing : rest.places ≡ [] = ap (λ (v : Cutting). v.places) w in
      let hs : headers s ≡ readings s ps = all_readings ∙ ap (λ (l : List ℕ). readings s ps ++ readings s l) nothing ∙ append-nil (readings s ps) in
      let close : (cutting s).ending ≡ e = (goes s f).close ∙ ap (λ (v : Cutting). v.ending) w in
      sym (rw (hs, close, none))

-- ---- the front that settles: the multiframes that are read
first_of : (s ps : List ℕ) (k : ℕ) → k ≤ length ps → take k (readings s ps) ≡ readings s (take k ps)
first_of s ps k h =
    ap (λ (l : List ℕ). take k (readings s l)) (sym (take-append-drop k ps)) ∙ ap (take k) (readings_more s (take k ps) (drop k ps))
    ∙ take_at (readings s (take k ps)) (readings s (drop k ps)) k (length_readings s (take k ps) ∙ length-take-le k ps h)

module _ (s : List ℕ) (c : ℕ) (a : Agreed s c) where
  abbrev m : ℕ
  m = multiframes_read s

  abbrev ps : List ℕ
  ps = take m (cutting s).places

  few : (1 ≤ m) × (m ≤ length (cutting s).places)
  few = let e = front_enough [] (headers s) c a in (e.2, subst (λ (k : ℕ). m ≤ k) (length_readings s (cutting s).places) e.1)

  pub settling_front : Front s (settling_end s) ps
  settling_front =
      let z : suc (m - 1) ≡ m = omega (arith, few.0) in
      subst (λ (k : ℕ). Front s (settling_end s) (take k (cutting s).places)) z (got s (m - 1) (omega (arith, few.0, few.1)))

  pub end_inside : settling_end s ≤ length s
  end_inside = places_placed s (m - 1) (omega (arith, few.0, few.1))

  settles_there : first_agreeing [] (readings s ps) ≡ Some c
  settles_there = ap (first_agreeing []) (sym (first_of s (cutting s).places m few.1)) ∙ (front_enough [] (headers s) c a).0

  -- THE ANSWER DOES NOT DEPEND ON OCTETS BEHIND THE SETTLING MULTIFRAME: any octets that begin as these do, up to its end, have the same answer
  pub only_the_front : (ch : Choices) (t : List ℕ) → take (settling_end s) t ≡ take (settling_end s) s → until_settled ch t ≡ until_settled ch s
  only_the_front ch t e =
      let q = settling_end s in
      let g = same_front s t q end_inside e settling_front (omega arith) in
      let r = same_readings s t q end_inside e settling_front (omega arith) in
      sym (settles_here ch t g c (ap (first_agreeing []) r ∙ settles_there)) ∙ ap (λ (hs : List Header). settled_answer (read_until [] hs) (Some c)) r ∙ settles_here ch s settling_front c settles_there

  -- A LONGER RECORDING THAT BEGINS WITH THE SAME OCTETS GIVES THE SAME ANSWER
  pub longer : (ch : Choices) (more : List ℕ) → until_settled ch (s ++ more) ≡ until_settled ch s
  longer ch more = only_the_front ch (s ++ more) (take-append-le (settling_end s) s more end_inside)

  -- and so do the octets up to the settling multiframe's end alone
  pub front_alone : (ch : Choices) → until_settled ch (take (settling_end s) s) ≡ until_settled ch s
  front_alone ch = only_the_front ch (take (settling_end s) s) (take-take (settling_end s) (settling_end s) s (omega arith))

  -- whatever was chosen
  pub settled_alike : (ch dh : Choices) → until_settled ch s ≡ until_settled dh s
  unfolding until_settled
  settled_alike ch dh = rw a

  -- at least two multiframes are read
  pub at_least_two : 2 ≤ multiframes_read s
  at_least_two = two_read (headers s) c a

  -- the settings, or 17 at once
  pub settled_read : (ch : Choices) → Usable c → until_settled ch s ≡ Ok (record { settings = settings_of c; multiframes = multiframes_read s })
  unfolding until_settled
  settled_read ch u = rw (a, fit_is c u)

  pub settled_unfit : (ch : Choices) → Unusable c → until_settled ch s ≡ Err Unfit
  unfolding until_settled
  settled_unfit ch u = rw (a, unfit_is c u)

-- ---- no two headers agree
module _ (ch : Choices) (s : List ℕ) (none : first_agreeing [] (headers s) ≡ None) where
  -- 12, 13 AND 15 AS CUTTING MEETS THEM, whatever was chosen: an only multiframe is not known to be the only one before the octets end
  pub refuses_cut : (r : Refusal) → (cutting s).ending ≡ refused r → until_settled ch s ≡ Err r
  unfolding until_settled
  refuses_cut r e = rw (none, e)

  -- 14
  pub refuses_empty : (cutting s).ending ≡ whole → length (cutting s).places ≡ 0 → until_settled ch s ≡ Err (Empty (length s))
  unfolding until_settled end_answer
  refuses_empty e z = rw (none, e, eq-eqb (length (headers s)) 0 (length_readings s (cutting s).places ∙ z))

  -- 16, or what one header alone settles
  pub whole_settles : (cutting s).ending ≡ whole → (length (cutting s).places ≡ 0 → ⊥) → (x : Settlement) → settling ch (headers s) ≡ x
      → until_settled ch s ≡ settled_answer (length (cutting s).places) x
  unfolding until_settled end_answer
  whole_settles e some x ex =
      rw (none, e, ne_eqb (length (headers s)) 0 (λ z. some (sym (length_readings s (cutting s).places) ∙ z)), ex)
      (ap (λ (k : ℕ). settled_answer k x) (length_readings s (cutting s).places))

-- ---- with octets missing of the settling multiframe no two headers agree yet: no fewer octets are enough
module _ (s : List ℕ) (c : ℕ) (a : Agreed s c) (k : ℕ) (cut : k < settling_end s) where
  abbrev t : List ℕ
  t = take k s

  abbrev qs : List ℕ
  qs = (cutting t).places

  long : k ≤ length s
  long = omega (arith, end_inside s c a)

  none_met : length qs ≡ 0 → first_agreeing [] (headers t) ≡ None
  unfolding first_agreeing readings
  none_met z = rw z

  -- what is met in front of octet k is met of all the octets
  module _ (some : 1 ≤ length qs) where
    abbrev q : ℕ
    q = get_or qs (length qs - 1) 0 + multiframe_octets

    within : q ≤ k
    within = omega (arith, places_placed t (length qs - 1) (omega arith), length-take-le k s long)

    met_front : Front t q qs
    met_front =
        let z : suc (length qs - 1) ≡ length qs = omega arith in
        subst (Front t q) (ap (λ (i : ℕ). take i qs) z ∙ take-length qs) (got t (length qs - 1) (omega arith))

    alike : take q s ≡ take q t
    alike = sym (take-take q k s within)

    inside : q ≤ length t
    inside = omega (arith, within, length-take-le k s long)

    also : Front s q qs
    also = same_front t s q inside alike met_front (omega arith)

    read_alike : readings s qs ≡ headers t
    read_alike = same_readings t s q inside alike met_front (omega arith)

    fewer : length qs < multiframes_read s
    fewer =
        elim (dec_lt (length qs) (multiframes_read s)) [
          | yes y ↦ y
          | no y ↦
              let two = at_least_two s c a in
              let here = front_place s also (multiframes_read s - 1) (omega arith) in
              let same : get_or (cutting s).places (multiframes_read s - 1) 0 ≡ get_or qs (multiframes_read s - 1) 0 =
              ap (λ (l : List ℕ). get_or l (multiframes_read s - 1) 0) (goes s also).all ∙ get_or-append qs (walk 0 (drop q s) q (length qs)).places 0 (multiframes_read s - 1) (omega arith) in
              absurd (omega (arith, within))
        ]

    some_met : first_agreeing [] (headers t) ≡ None
    some_met =
        let front : take (length qs) (headers s) ≡ readings s qs =
        ap (take (length qs)) (ap (readings s) (goes s also).all ∙ readings_more s qs (walk 0 (drop q s) q (length qs)).places)
        ∙ take_at (readings s qs) (readings s (walk 0 (drop q s) q (length qs)).places) (length qs) (length_readings s qs) in
        ap (first_agreeing []) (sym (front ∙ read_alike)) ∙ not_before [] (headers s) (length qs) fewer

  pub no_sooner : first_agreeing [] (headers (take k s)) ≡ None
  no_sooner =
      elim (dec_lt 0 (length qs)) [
        | yes y ↦ some_met (omega arith)
        | no y ↦ none_met (omega arith)
      ]

abbrev AnswerComes : Answer → Type 0
AnswerComes (Ok b) = Unit
AnswerComes (Err r) = Comes r

reason_comes : (s : List ℕ) (r : Refusal) → Reason s r → Comes r
reason_comes s WrongTables h = h
reason_comes s (NegativeThreshold k) h = h
reason_comes s (Unknown p) h = tt
reason_comes s (CutShort p) h = tt
reason_comes s (Empty n) h = tt
reason_comes s (TooMany p) h = tt
reason_comes s Unsettled h = tt
reason_comes s Unfit h = tt
reason_comes s (IndexShort n) h = h
reason_comes s (ReportShort n) h = h
reason_comes s AllBad h = h

settled_comes : (m : ℕ) (x : Settlement) → AnswerComes (settled_answer m x)
settled_comes m (Some c) = by_test AnswerComes (unfit c) (λ e. tt) (λ e. tt)
settled_comes m None = tt

module _ (ch : Choices) (s : List ℕ) where
  ending_comes : (e : Ending) → (cutting s).ending ≡ e → AnswerComes (unsettled_answer ch (length s) (headers s) e)
  unfolding end_answer
  ending_comes (refused r) e = reason_comes s r ((ends_exactly s (refused r)).0 e)
  ending_comes whole e = by_test AnswerComes (eqb (length (headers s)) 0) (λ z. tt) (λ z. settled_comes (length (headers s)) (settling ch (headers s)))

  answer_comes : (x : Settlement) → AnswerComes (answer_by ch (length s) (headers s) (cutting s).ending x)
  answer_comes (Some c) = settled_comes (multiframes_read s) (Some c)
  answer_comes None = ending_comes (cutting s).ending refl

  comes_by : AnswerComes (until_settled ch s)
  unfolding until_settled
  comes_by = answer_comes (first_agreeing [] (headers s))

  pub comes : (r : Refusal) → until_settled ch s ≡ Err r → Comes r
  comes r e = subst AnswerComes e comes_by

-- ---- what is answered at all
module _ (ch : Choices) (s : List ℕ) where
  -- which settings, of how many multiframes: settled bits that can be used, of those that cutting met, one at least
  abbrev ReadSays : Answer → Type 0
  ReadSays (Err r) = Unit
  ReadSays (Ok b) = (1 ≤ b.multiframes) × (b.multiframes ≤ length (cutting s).places) × ((c : ℕ) × ((settling ch (headers s) ≡ Some c) × Usable c × (b.settings ≡ settings_of c)))

  settled_says : (m c : ℕ) → 1 ≤ m → m ≤ length (cutting s).places → settling ch (headers s) ≡ Some c → ReadSays (settled_answer m (Some c))
  settled_says m c some most e = by_test ReadSays (unfit c) (λ h. tt) (λ h. (some, most, (c, (e, fit_says c h, refl))))

  end_says : (x : Settlement) → settling ch (headers s) ≡ x → (length (headers s) ≡ 0 → ⊥) → ReadSays (settled_answer (length (headers s)) x)
  end_says None e n = tt
  end_says (Some c) e n = settled_says (length (headers s)) c (omega (arith, n)) (omega (arith, length_readings s (cutting s).places)) e

  answer_says : (x : Settlement) → first_agreeing [] (headers s) ≡ x → (e : Ending) → ReadSays (answer_by ch (length s) (headers s) e x)
  unfolding end_answer settling
  answer_says (Some c) a e =
      let f = front_enough [] (headers s) c a in
      settled_says (multiframes_read s) c f.2 (subst (λ (k : ℕ). multiframes_read s ≤ k) (length_readings s (cutting s).places) f.1) (rw a)
  answer_says None a (refused r) = tt
  answer_says None a whole = by_test ReadSays (eqb (length (headers s)) 0) (λ z. tt) (λ z. end_says (settling ch (headers s)) refl (eqb-false (length (headers s)) 0 z))

  read_says : ReadSays (until_settled ch s)
  unfolding until_settled
  read_says = answer_says (first_agreeing [] (headers s)) refl (cutting s).ending

  module _ (b : Beginning) (e : until_settled ch s ≡ Ok b) where
    said : ReadSays (Ok b)
    said = subst ReadSays e read_says

    -- the settings are what all the headers that were met would settle, and can be used
    pub read_settled : (c : ℕ) × ((settling ch (headers s) ≡ Some c) × Usable c × (b.settings ≡ settings_of c))
    read_settled = said.2

    -- they are settings that the writer takes: rate 0, 1 or 3, type 0 or 1
    pub read_right : settings_right b.settings ≡ true
    read_right = rw read_settled.1.2 (right_of read_settled.0 read_settled.1.1)
      where
        right_of : (c : ℕ) → Usable c → settings_right (settings_of c) ≡ true
        right_of c u =
            let r = rate_lt c in
            let t = type_lt c in
            rw (le-ltb 3 (rate_of c) (omega arith), ne_eqb (rate_of c) 2 u.rate, le-ltb 1 (type_of c) (omega arith))

    -- of 1 to 255 multiframes
    pub read_some : 1 ≤ b.multiframes
    read_some = said.0

    pub read_few : b.multiframes ≤ most_multiframes
    read_few = let m = at_most_255 s in omega (arith, said.1)

    -- where two headers agree, of as many as were read
    pub read_count : (c : ℕ) → Agreed s c → b.multiframes ≡ multiframes_read s
    unfolding until_settled
    read_count c a = by (unfit c) (rw a at e)
      where
        by : (t : Bool) → when t (Err Unfit) (Ok (record { settings = settings_of c; multiframes = multiframes_read s })) ≡ Ok b → b.multiframes ≡ multiframes_read s
        by true q = absurd (let z : ◌≡◌ {A = ℕ} 0 1 = cc in omega arith)
        by false q = let y : ◌≡◌ {A = Beginning} (record { settings = settings_of c; multiframes = multiframes_read s }) b = cc in ap (λ (g : Beginning). g.multiframes) (sym y)

-- ---- WHAT THE CHOICE CHANGES (C-20): an only multiframe, and nothing else. Any other number of them, whatever their headers, is answered alike
pub not_one_alike : (s : List ℕ) → (length (cutting s).places ≡ 1 → ⊥) → (ch dh : Choices) → until_settled ch s ≡ until_settled dh s
unfolding until_settled end_answer
not_one_alike s n ch dh = by (first_agreeing [] (headers s)) refl (cutting s).ending
  where
    other : length (headers s) ≡ 1 → ⊥
    other e = n (sym (length_readings s (cutting s).places) ∙ e)

    by : (x : Settlement) → first_agreeing [] (headers s) ≡ x → (e : Ending) → answer_by ch (length s) (headers s) e x ≡ answer_by dh (length s) (headers s) e x
    by (Some c) a e = refl
    by None a (refused r) = refl
    by None a whole =
        ap (λ (y : Settlement). when (eqb (length (headers s)) 0) (Err (Empty (length s))) (settled_answer (length (headers s)) y))
        (not_one ch (headers s) other ∙ sym (not_one dh (headers s) other))
