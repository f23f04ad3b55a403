-- ANY NUMBER OF INVERSE SYNCS before, between and behind the multiframes of an image changes nothing; the premises of specs/Inverse.antt are met, and they
-- are needed.
-- Assumes nothing.
use Rattle.std.specs.Prelude.{◌≡◌, refl, take, get_or, Err}
use Rattle.std.proofs.Math.Path.{sym, ap}
use Rattle.std.proofs.Common.{ap₂, ◌∙◌, subst, length-append, length-drop, drop-drop, get_or-take}
use mathlib.Core.List.{List, [], ◌∷◌, ◌++◌, append-nil}
use Prim.Native.Nat.{ℕ, zero, suc, ◌+◌, ◌-◌, ◌*◌, ◌≤◌, ◌<◌}
use native.Mathlib.Omega.{arith}
use Rattle.std.proofs.Math.ListN.{length, drop, take-append-drop}
use Rattle.std.proofs.Math.Seq.{drop-length}
use Rattle.lists.specs.Parts.{part, length_part}
use Rattle.layout.specs.Layout.{multiframe_octets, sync_octets, most_multiframes, sync, sync_first, sync_second, inverse_first, inverse_second}
use Rattle.choices.specs.declared.Choices.{Choices}
use Rattle.tables.specs.Tables.{Tables, RightTables, zero_tables}
use Rattle.cutting.specs.declared.Piece.TheVariants.{CutShort, TooMany}
use Rattle.cutting.specs.Cutting.{piece_of, Cutting, whole, cutting}
use Rattle.cutting.specs.Laws.{Chunk, multiframe, inverse, octets_of, places_of, Proper}
use Rattle.cutting.proofs.Laws.{one_too_many, lone_sync, every_length, cut_chunks}
use Rattle.refusals.specs.Refusals.{reading_place}
use Rattle.refusals.specs.declared.Reading.TheVariants as RR
use Rattle.reader.specs.Types.{Answer}
use Rattle.reader.specs.Reading.{Outcome, reading}
use Rattle.image.specs.Made.{sync_in}
use Rattle.image.proofs.Laws.{length_image, image_sync}
use Rattle.writer.proofs.Laws.{few_multiframes}
use Rattle.writer.specs.Utterance.{Utterance, multiframes_of, image_of}
use Rattle.writer.proofs.Utterance.{is_accepted}
use Rattle.damage.specs.Damage.{Damage}
use Rattle.demands.specs.Whole.{row_of}
use Rattle.demands.proofs.WholeLaws.{cut_is}
use Rattle.demands_met.specs.Met.{index_for, report_for, hurt_image, says24, two_multiframes}
use Rattle.demands_met.proofs.MetLaws.{lent_zeros, hurts, names_says24}
use Rattle.demands.specs.NamesTheDamage as N
use Rattle.demands.proofs.NamesTheDamageLaws as NL
use Rattle.recordings.specs.First as F
use Rattle.recordings.specs.Chunks.{multiframe_count, inverse_count, chunk_octets, refused_behind, Refuses, cut_refuses, none_refuses}
use Rattle.recordings.specs.Inverse.{plain, inverses_change_nothing, found, inverses, spaced_from, spaced, apart24, Apart24, blanks}
use Rattle.recordings.proofs.Inverse.{one_inverse}

-- so before any multiframe of an image of any accepted utterance, with any damage that demand 3 counts, and behind the last
pub one_in_image : (ch : Choices) (u : Utterance) (s : List ℕ) → Damage (multiframes_of u) (image_of u) s → (k : ℕ) → k ≤ multiframes_of u → (tables : Tables) (index report : List ℕ)
    → reading ch (take (multiframe_octets * k) s ++ (inverse_first ∷ inverse_second ∷ drop (multiframe_octets * k) s)) tables index report
    ≡ reading ch s tables index report
one_in_image ch u s d k within tables index report =
    one_inverse ch (take (multiframe_octets * k) s) (drop (multiframe_octets * k) s) (ap (λ (w : Cutting). w.ending) front) (ap (λ (w : Cutting). w.ending) back) (omega (arith, n)) (omega (arith, n, few))
    tables index report
    ∙ ap (λ (l : List ℕ). reading ch l tables index report) (take-append-drop (multiframe_octets * k) s)
  where
    few : multiframes_of u ≤ most_multiframes
    few = F.few u s d k within

    front : cutting (take (multiframe_octets * k) s) ≡ record { places = row_of k; ending = whole }
    front = F.cut_first u s d k within

    syncs : (i : ℕ) → i < multiframes_of u - k → sync_in (drop (multiframe_octets * k) s) i ≡ sync
    syncs i h =
        let e : multiframe_octets * k + multiframe_octets * i ≡ multiframe_octets * (k + i) = omega arith in
        ap (take 2) (drop-drop (multiframe_octets * i) (multiframe_octets * k) s ∙ ap (λ (j : ℕ). drop j s) e) ∙ F.syncs u s d k within (k + i) (omega arith)

    back : cutting (drop (multiframe_octets * k) s) ≡ record { places = row_of (multiframes_of u - k); ending = whole }
    back = cut_is (drop (multiframe_octets * k) s) (multiframes_of u - k) (omega (arith, few)) (length-drop (multiframe_octets * k) s ∙ omega (arith, F.size u s d k within)) syncs

    n : found (take (multiframe_octets * k) s) + found (drop (multiframe_octets * k) s) ≡ multiframes_of u
    n =
        ap₂ ◌+◌ (ap (λ (w : Cutting). length w.places) front ∙ every_length 0 k) (ap (λ (w : Cutting). length w.places) back ∙ every_length 0 (multiframes_of u - k))
        ∙ omega arith

-- the same as chunks
quiet : ℕ → List Chunk → List Chunk
quiet zero cs = cs
quiet (suc n) cs = inverse ∷ quiet n cs

spaced_chunks : (ℕ → ℕ) → List ℕ → ℕ → ℕ → List Chunk
spaced_chunks g s k zero = quiet (g k) []
spaced_chunks g s k (suc n) = quiet (g k) (multiframe (part (multiframe_octets * k) multiframe_octets s) ∷ spaced_chunks g s (suc k) n)

quiet_octets : (n : ℕ) (cs : List Chunk) → octets_of (quiet n cs) ≡ inverses n ++ octets_of cs
unfolding quiet
quiet_octets zero cs = refl
quiet_octets (suc n) cs = ap (λ (l : List ℕ). inverse_first ∷ inverse_second ∷ l) (quiet_octets n cs)

quiet_plain : (n : ℕ) (cs : List Chunk) → plain (quiet n cs) ≡ plain cs
unfolding quiet
quiet_plain zero cs = refl
quiet_plain (suc n) cs = quiet_plain n cs

quiet_proper : (n : ℕ) (cs : List Chunk) → Proper cs → Proper (quiet n cs)
unfolding quiet
quiet_proper zero cs ok = ok
quiet_proper (suc n) cs ok = quiet_proper n cs ok

quiet_count : (n : ℕ) (cs : List Chunk) → multiframe_count (quiet n cs) ≡ multiframe_count cs
unfolding quiet
quiet_count zero cs = refl
quiet_count (suc n) cs = quiet_count n cs

quiet_places : (n p : ℕ) → places_of p (quiet n []) ≡ []
unfolding quiet
quiet_places zero p = refl
quiet_places (suc n) p = quiet_places n (p + sync_octets)

pub inverses_length : (n : ℕ) → length (inverses n) ≡ sync_octets * n
inverses_length zero = refl
inverses_length (suc n) = let h = inverses_length n in omega arith

module _ (g : ℕ → ℕ) (s : List ℕ) where
  spaced_octets : (k n : ℕ) → octets_of (spaced_chunks g s k n) ≡ spaced_from g s k n
  unfolding spaced_chunks
  spaced_octets k zero = quiet_octets (g k) [] ∙ append-nil (inverses (g k))
  spaced_octets k (suc n) =
      quiet_octets (g k) (multiframe (part (multiframe_octets * k) multiframe_octets s) ∷ spaced_chunks g s (suc k) n)
      ∙ ap (λ (l : List ℕ). inverses (g k) ++ (part (multiframe_octets * k) multiframe_octets s ++ l)) (spaced_octets (suc k) n)

  spaced_plain : (k n : ℕ) → length s ≡ multiframe_octets * (k + n) → octets_of (plain (spaced_chunks g s k n)) ≡ drop (multiframe_octets * k) s
  unfolding spaced_chunks
  spaced_plain k zero size =
      let e : multiframe_octets * k ≡ length s = omega arith in
      ap octets_of (quiet_plain (g k) []) ∙ sym (ap (λ (i : ℕ). drop i s) e ∙ drop-length s)
  spaced_plain k (suc n) size =
      let e : multiframe_octets * suc k ≡ multiframe_octets * k + multiframe_octets = omega arith in
      ap octets_of (quiet_plain (g k) (multiframe (part (multiframe_octets * k) multiframe_octets s) ∷ spaced_chunks g s (suc k) n))
      ∙ ap (λ (l : List ℕ). part (multiframe_octets * k) multiframe_octets s ++ l)
      (spaced_plain (suc k) n (omega arith) ∙ ap (λ (i : ℕ). drop i s) e ∙ sym (drop-drop multiframe_octets (multiframe_octets * k) s))
      ∙ take-append-drop multiframe_octets (drop (multiframe_octets * k) s)

  spaced_count : (k n : ℕ) → multiframe_count (spaced_chunks g s k n) ≡ n
  unfolding spaced_chunks
  spaced_count k zero = quiet_count (g k) []
  spaced_count k (suc n) = quiet_count (g k) (multiframe (part (multiframe_octets * k) multiframe_octets s) ∷ spaced_chunks g s (suc k) n) ∙ ap suc (spaced_count (suc k) n)

  module _ (m : ℕ) (size : length s ≡ multiframe_octets * m) (syncs : (k : ℕ) → k < m → sync_in s k ≡ sync) where
    in_sync : (k i : ℕ) → k < m → i < 2 → get_or (part (multiframe_octets * k) multiframe_octets s) i 0 ≡ get_or sync i 0
    in_sync k i h l =
        get_or-take multiframe_octets (drop (multiframe_octets * k) s) i 0 (omega arith) ∙ sym (get_or-take 2 (drop (multiframe_octets * k) s) i 0 l) ∙ ap (λ (x : List ℕ). get_or x i 0) (syncs k h)

    spaced_proper : (k n : ℕ) → k + n ≡ m → Proper (spaced_chunks g s k n)
    unfolding spaced_chunks
    spaced_proper k zero e = quiet_proper (g k) [] tt
    spaced_proper k (suc n) e =
        let h : k < m = omega arith in
        quiet_proper (g k) (multiframe (part (multiframe_octets * k) multiframe_octets s) ∷ spaced_chunks g s (suc k) n)
        (length_part s (multiframe_octets * k) multiframe_octets (omega arith), in_sync k 0 h (omega arith), in_sync k 1 h (omega arith), spaced_proper (suc k) n (omega arith))

-- they change nothing of the reading of m multiframes, each with its sync
pub spaced_same : (ch : Choices) (s : List ℕ) (m : ℕ) → 0 < m → m ≤ most_multiframes → length s ≡ multiframe_octets * m
    → ((k : ℕ) → k < m → sync_in s k ≡ sync) → (g : ℕ → ℕ) (tables : Tables) (index report : List ℕ)
    → reading ch (spaced g s m) tables index report ≡ reading ch s tables index report
spaced_same ch s m some few size syncs g tables index report =
    let z : 0 + m ≡ m = omega arith in
    let n = spaced_count g s 0 m in
    ap (λ (l : List ℕ). reading ch l tables index report) (sym (spaced_octets g s 0 m))
    ∙ inverses_change_nothing ch (spaced_chunks g s 0 m) (spaced_proper g s m size syncs 0 m z) (omega (arith, n)) (omega (arith, n)) tables index report
    ∙ ap (λ (l : List ℕ). reading ch l tables index report) (spaced_plain g s 0 m (omega arith))

-- inverse syncs alone are cut to their end, and no multiframe is found in them
inverses_cut : (n : ℕ) → cutting (inverses n) ≡ record { places = []; ending = whole }
inverses_cut n =
    ap cutting (sym (quiet_octets n [] ∙ append-nil (inverses n))) ∙ cut_chunks (quiet n []) (quiet_proper n [] tt) (omega (arith, ap length (quiet_places n 0)))
    ∙ ap (λ (l : List ℕ). record { places = l; ending = whole }) (quiet_places n 0)

-- any number of them behind octets that are cut to their end changes nothing
pub inverses_behind : (ch : Choices) (a : List ℕ) → (cutting a).ending ≡ whole → 0 < found a → found a ≤ most_multiframes → (n : ℕ) (tables : Tables) (index report : List ℕ)
    → reading ch (a ++ inverses n) tables index report ≡ reading ch a tables index report
inverses_behind ch a ca some few zero tables index report = ap (λ (l : List ℕ). reading ch l tables index report) (append-nil a)
inverses_behind ch a ca some few (suc n) tables index report =
    let c = inverses_cut n in
    let none : found (inverses n) ≡ 0 = ap (λ (w : Cutting). length w.places) c in
    one_inverse ch a (inverses n) ca (ap (λ (w : Cutting). w.ending) c) (omega (arith, none)) (omega (arith, none)) tables index report
    ∙ inverses_behind ch a ca some few n tables index report

-- nor of an image of any accepted utterance, with any damage that demand 3 counts
pub spaced_image : (ch : Choices) (u : Utterance) (s : List ℕ) → Damage (multiframes_of u) (image_of u) s → (g : ℕ → ℕ) (tables : Tables) (index report : List ℕ)
    → reading ch (spaced g s (multiframes_of u)) tables index report ≡ reading ch s tables index report
spaced_image ch u s d =
    let m = multiframes_of u in
    spaced_same ch s m (omega arith) (few_multiframes u.settings u.indices (is_accepted u).sizes)
    (d.size ∙ length_image u.settings u.indices m) (λ k h. d.syncs k h ∙ image_sync u.settings u.indices m k h)

pub apart_24 : (ch : Choices) → Apart24 ch (index_for 2) (report_for 2)
apart_24 ch = record {
  longer = sizes;
  same = same;
  given = named.given;
  is_read = ap (λ (o : Outcome). o.answer) same ∙ named.succeeds;
  multiframes_2 = named.names.multiframes ∙ two_multiframes;
}
  where
    size : length (hurt_image says24) ≡ 288
    size = (hurts says24).size ∙ length_image says24.settings says24.indices (multiframes_of says24) ∙ ap (λ (n : ℕ). multiframe_octets * n) two_multiframes

    sizes : length apart24 ≡ length (hurt_image says24) + 12
    sizes =
        let a = part 0 multiframe_octets (hurt_image says24) in
        let b = part multiframe_octets multiframe_octets (hurt_image says24) in
        let three : List ℕ = 0x78 ∷ 0x4D ∷ 0x78 ∷ 0x4D ∷ 0x78 ∷ 0x4D ∷ [] in
        let la : length a ≡ multiframe_octets = length_part (hurt_image says24) 0 multiframe_octets (omega (arith, size)) in
        let lb : length b ≡ multiframe_octets = length_part (hurt_image says24) multiframe_octets multiframe_octets (omega (arith, size)) in
        omega (arith, length-append a (0x78 ∷ 0x4D ∷ 0x78 ∷ 0x4D ∷ (b ++ three)), length-append b three, size)

    same : reading ch apart24 zero_tables (index_for 2) (report_for 2) ≡ reading ch (hurt_image says24) zero_tables (index_for 2) (report_for 2)
    same =
        ap (λ (n : ℕ). reading ch (spaced suc (hurt_image says24) n) zero_tables (index_for 2) (report_for 2)) (sym two_multiframes)
        ∙ spaced_image ch says24 (hurt_image says24) (hurts says24) suc zero_tables (index_for 2) (report_for 2)

    named : N.Named ch says24 (hurt_image says24) zero_tables (index_for 2) (report_for 2)
    named = NL.names_the_damage ch says24 (hurt_image says24) zero_tables (index_for 2) (report_for 2)
        (subst (λ (n : ℕ). N.Premises ch says24 (hurt_image says24) zero_tables (index_for n) (report_for n)) two_multiframes (names_says24 ch))

-- ---- the premises are needed
-- outcomes that are refused at different places are different
moved : (o₁ o₂ : Outcome) (index report : List ℕ) (n p q : ℕ) → Refuses o₁ index report n p → Refuses o₂ index report n q → (p ≡ q → ⊥) → o₁ ≡ o₂ → ⊥
moved o₁ o₂ index report n p q x y d e =
    let r : ◌≡◌ {A = Answer} (Err x.refusal) (Err y.refusal) = ap (λ (o : Outcome). o.answer) (sym x.is_refused ∙ e ∙ y.is_refused) in
    let f : x.refusal ≡ y.refusal = cc in
    d (sym x.place_is ∙ ap reading_place f ∙ y.place_is)

module _ (ch : Choices) (tables : Tables) (index report : List ℕ) (sized : RightTables tables) where
  abbrev pub read : List ℕ → Outcome
  read s = reading ch s tables index report

  -- NO MULTIFRAME: refusal 14 gives the number of octets, so inverse syncs alone change it
  pub none_moves : (n : ℕ) → Refuses (read (inverses n)) index report 14 (sync_octets * n)
  none_moves n =
      subst (Refuses (read (inverses n)) index report 14) (inverses_length n) (none_refuses ch (inverses n) tables index report sized (inverses_cut n))

  -- one inverse sync is refused at place 2, nothing at place 0, and these outcomes differ
  pub one_sync_14 : Refuses (read (0x78 ∷ 0x4D ∷ [])) index report 14 2
  one_sync_14 = none_moves 1

  pub nothing_14 : Refuses (read []) index report 14 0
  nothing_14 = none_moves 0

  pub not_without_multiframes : read (0x78 ∷ 0x4D ∷ []) ≡ read [] → ⊥
  not_without_multiframes = moved (read (0x78 ∷ 0x4D ∷ [])) (read []) index report 14 2 0 one_sync_14 nothing_14 (λ e. omega arith)

  -- A SYNC AFTER 255 MULTIFRAMES: refusal 15 gives its place, which each inverse sync before it moves by 2
  pub too_many : (cs : List Chunk) (r : List ℕ) → Proper cs → multiframe_count cs ≡ most_multiframes
      → Refuses (read (octets_of cs ++ (sync_first ∷ sync_second ∷ r))) index report 15 (multiframe_octets * most_multiframes + sync_octets * inverse_count cs)
  too_many cs r ok all =
      let s = octets_of cs ++ (sync_first ∷ sync_second ∷ r) in
      let n : length (octets_of cs) ≡ 36720 + 2 * inverse_count cs = chunk_octets cs ok ∙ omega arith in
      let bad : piece_of (sync_first ∷ sync_second ∷ r) (multiframe_count cs) ≡ TooMany = rw all (one_too_many (length (sync_first ∷ sync_second ∷ r)) (omega arith)) in
      subst (Refuses (read s) index report 15) n
      (cut_refuses ch s tables index report sized (RR.TooMany (length (octets_of cs)))
      (refused_behind cs (sync_first ∷ sync_second ∷ r) TooMany (RR.TooMany (length (octets_of cs))) ok (omega arith) bad (λ v w. refl)))

  -- of 255 multiframes and a sync it is 36,720, with one inverse sync in front 36,722, and these outcomes differ
  pub place_36720 : (cs : List Chunk) (r : List ℕ) → Proper cs → multiframe_count cs ≡ most_multiframes → inverse_count cs ≡ 0
      → Refuses (read (octets_of cs ++ (sync_first ∷ sync_second ∷ r))) index report 15 36720
  place_36720 cs r ok all none = subst (Refuses (read (octets_of cs ++ (sync_first ∷ sync_second ∷ r))) index report 15) (omega arith) (too_many cs r ok all)

  pub place_36722 : (cs : List Chunk) (r : List ℕ) → Proper cs → multiframe_count cs ≡ most_multiframes → inverse_count cs ≡ 0
      → Refuses (read (inverse_first ∷ inverse_second ∷ (octets_of cs ++ (sync_first ∷ sync_second ∷ r)))) index report 15 36722
  place_36722 cs r ok all none =
      subst (Refuses (read (inverse_first ∷ inverse_second ∷ (octets_of cs ++ (sync_first ∷ sync_second ∷ r)))) index report 15) (omega arith) (too_many (inverse ∷ cs) r ok all)

  pub not_past_255 : (cs : List Chunk) (r : List ℕ) → Proper cs → multiframe_count cs ≡ most_multiframes → inverse_count cs ≡ 0
      → read (inverse_first ∷ inverse_second ∷ (octets_of cs ++ (sync_first ∷ sync_second ∷ r))) ≡ read (octets_of cs ++ (sync_first ∷ sync_second ∷ r)) → ⊥
  not_past_255 cs r ok all none =
      moved (read (inverse_first ∷ inverse_second ∷ (octets_of cs ++ (sync_first ∷ sync_second ∷ r)))) (read (octets_of cs ++ (sync_first ∷ sync_second ∷ r))) index report 15 36722 36720
      (place_36722 cs r ok all none) (place_36720 cs r ok all none) (λ e. omega arith)

  -- WHOLE MULTIFRAMES: what cutting refuses behind them is refused at its place, which each inverse sync before it moves by 2
  pub lone_moves : (cs : List Chunk) → Proper cs → multiframe_count cs ≤ most_multiframes
      → Refuses (read (octets_of cs ++ (sync_first ∷ []))) index report 13 (multiframe_octets * multiframe_count cs + sync_octets * inverse_count cs)
  lone_moves cs ok few =
      let s = octets_of cs ++ (sync_first ∷ []) in
      subst (Refuses (read s) index report 13) (chunk_octets cs ok)
      (cut_refuses ch s tables index report sized (RR.CutShort (length (octets_of cs)))
      (refused_behind cs (sync_first ∷ []) CutShort (RR.CutShort (length (octets_of cs))) ok few (lone_sync 0 (multiframe_count cs)) (λ v w. refl)))

  -- 78 4D 87 is refused at place 2, and 87 at place 0
  pub not_cut : read (0x78 ∷ 0x4D ∷ 0x87 ∷ []) ≡ read (0x87 ∷ []) → ⊥
  not_cut = moved (read (0x78 ∷ 0x4D ∷ 0x87 ∷ [])) (read (0x87 ∷ [])) index report 13 2 0 (lone_moves (inverse ∷ []) tt (omega arith)) (lone_moves [] tt (omega arith)) (λ e. omega arith)

-- each is whole, and there are n of them and no inverse sync
pub blanks_proper : (n : ℕ) → Proper (blanks n)
blanks_proper zero = tt
blanks_proper (suc n) = (refl, refl, refl, blanks_proper n)

pub blanks_count : (n : ℕ) → (multiframe_count (blanks n) ≡ n) × (inverse_count (blanks n) ≡ 0)
blanks_count zero = (refl, refl)
blanks_count (suc n) = (ap suc (blanks_count n).0, (blanks_count n).1)

-- so with 255 of them and a sync an inverse sync changes the outcome
pub past_255 : (ch : Choices) (index report : List ℕ)
    → reading ch (inverse_first ∷ inverse_second ∷ (octets_of (blanks most_multiframes) ++ sync)) zero_tables index report
    ≡ reading ch (octets_of (blanks most_multiframes) ++ sync) zero_tables index report → ⊥
past_255 ch index report =
    not_past_255 ch zero_tables index report (lent_zeros 1).right_tables (blanks most_multiframes) []
    (blanks_proper most_multiframes) (blanks_count most_multiframes).0 (blanks_count most_multiframes).1
