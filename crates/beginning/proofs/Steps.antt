-- The turns of `read`: what was met so far is the front of what cutting meets, its headers stand in the array, and no two of them agree.
-- Assumes nothing.
use Rattle.std.specs.Prelude.{Some, None, Err}
use Prim.Native.Nat.{ℕ, suc, ◌+◌, ◌≤◌, ◌<◌}
use mathlib.Core.Path.{◌≡◌, refl, ap, ap₂, sym, ◌∙◌, subst}
use mathlib.Core.List.{List, [], ◌∷◌, ◌++◌}
use lib.ListN.{length, get_or, set, take, drop, length-append, length-set, get_or-append}
use lib.Seq.{take-suc-set, get_or-append_seam, length-take-le}
use native.Mathlib.Numerals.{add-one}
use native.Mathlib.Omega.{arith}
use borrow.Author.Tests.{eq-eqb, ne_eqb}
use Rattle.lists.specs.Rows.{each, length_each, same_each}
use Rattle.layout.specs.Layout.{multiframe_octets, sync_octets, most_multiframes}
use Rattle.choices.specs.declared.Choices.{Choices}
use Rattle.carrier.specs.Carrier.{header_word}
use Rattle.refusals.specs.declared.Reading.TheVariants as R
use Rattle.header.specs.Reading.{reading}
use Rattle.header.specs.Types.{Header}
use Rattle.cutting.specs.declared.Piece.{Piece}
use Rattle.cutting.specs.declared.Piece.TheVariants.{Multiframe, Inverse}
use Rattle.cutting.specs.Cutting.{piece_of, Ending, Cutting, ended, step, walk}
use Rattle.cutting.proofs.Laws.{at_place}
use Rattle.cutting.specs.Reached.{Here}
use Rattle.cutting.proofs.ReachedLaws.{here_says}
use Rattle.header_readings.specs.Readings.{readings}
use Rattle.settling.specs.Settling.{first_agreeing, settling}
use Rattle.header_readings.specs.Stored.{packed, opened, open_all, length_open, opened_packed, mended}
use Rattle.settling.specs.Steps.{seen_before, settled_by}
use Rattle.settling.specs.Types.{Settlement}
use Rattle.until_settled.specs.Types.{Answer}
use Rattle.until_settled.specs.UntilSettled.{read_until, settled_answer, end_answer, unsettled_answer, until_settled}
use Rattle.until_settled.proofs.Agreeing.{one_more, one_more_read}
use Rattle.until_settled.specs.Front.{Front, start, met, stepped, readings_more}
use Rattle.until_settled.proofs.Laws.{settles_here, ends_here}

-- ---- the stored readings, opened, with one more
open_more : (l : List ℕ) (x : ℕ) → open_all (l ++ (x ∷ [])) ≡ open_all l ++ (opened x ∷ [])
unfolding open_all
open_more l x =
    let f : ℕ → Header = λ k. opened (get_or (l ++ (x ∷ [])) k 0) in
    let n : length (l ++ (x ∷ [])) ≡ suc (length l) = length-append l (x ∷ []) ∙ omega arith in
    ap (each f) n
    ∙ ap₂ (λ (a : List Header) (h : Header). a ++ (h ∷ [])) (same_each f (λ k. opened (get_or l k 0)) (length l) (λ k h. ap opened (get_or-append l (x ∷ []) 0 k h)))
    (ap opened (get_or-append_seam l x [] 0))

-- ---- the end of the octets
module _ (ch : Choices) (n : ℕ) (l : List ℕ) where
  pub ended_empty : length l ≡ 0 → Err (R.Empty n) ≡ end_answer ch n (open_all l)
  unfolding end_answer
  ended_empty z = rw (eq-eqb (length (open_all l)) 0 (length_open l ∙ z))

  pub ended_by : (length l ≡ 0 → ⊥) → (x : Settlement) → x ≡ settling ch (open_all l) → (r : Answer) → r ≡ settled_answer (length l) x → r ≡ end_answer ch n (open_all l)
  unfolding end_answer
  ended_by some x ex r er =
      rw (ne_eqb (length (open_all l)) 0 (λ z. some (sym (length_open l) ∙ z)))
      (er ∙ ap (λ (k : ℕ). settled_answer k x) (sym (length_open l)) ∙ ap (settled_answer (length (open_all l))) ex)

-- so many of the array as were stored
pub front_length : (l : List ℕ) (k : ℕ) → k ≤ length l → k ≡ length (take k l)
front_length l k h = sym (length-take-le k l h)

pub last_inside : (l : List ℕ) (k : ℕ) → k + 1 ≤ length l → k < length (take (k + 1) l)
last_inside l k h = omega (arith, length-take-le (k + 1) l h)

-- ---- m multiframes of s were met, and p is the next octet
pub record Going (s headers : List ℕ) (p m : ℕ) : Type 0 where
  pub places : List ℕ
  pub front : Front s p places
  pub count : length places ≡ m
  pub within : p ≤ length s
  pub few : m ≤ most_multiframes
  pub room : length headers ≡ most_multiframes
  pub stored : open_all (take m headers) ≡ readings s places
  pub none : first_agreeing [] (readings s places) ≡ None

pub begun : (s headers : List ℕ) → length headers ≡ most_multiframes → Going s headers 0 0
unfolding open_all readings first_agreeing
begun s headers h = record { places = []; front = start; count = refl; within = omega arith; few = omega arith; room = h; stored = refl; none = refl }

-- ---- the answers that end `read`
module _ (ch : Choices) (s headers : List ℕ) (p m : ℕ) (g : Going s headers p m) where
  abbrev ps : List ℕ
  ps = g.places

  piece_there : (q : Piece) → piece_of (drop p s) m ≡ q → Here s p m q
  piece_there q e = subst (Here s p m) e (here_says s p m (drop p s) refl)

  turns : (q : Piece) → piece_of (drop p s) m ≡ q
      → walk 0 (drop p s) p (length ps) ≡ step q p (walk 0 (drop (p + multiframe_octets) s) (p + multiframe_octets) (length ps + 1)) (walk 0 (drop (p + sync_octets) s) (p + sync_octets) (length ps))
  turns q e = at_place s p (length ps) q (ap (piece_of (drop p s)) g.count ∙ e)

  -- where cutting ends
  pub ends : (q : Piece) (e : Ending) → piece_of (drop p s) m ≡ q → ((v w : Cutting) → step q p v w ≡ ended e)
      → unsettled_answer ch (length s) (open_all (take m headers)) e ≡ until_settled ch s
  ends q e eq stops =
      ap (λ (hs : List Header). unsettled_answer ch (length s) hs e) g.stored ∙ ends_here ch s g.front e (turns q eq ∙ stops _ _) g.none

  -- an inverse sync is stepped over
  pub steps : piece_of (drop p s) m ≡ Inverse → (p + sync_octets ≤ length s) × Going s headers (p + sync_octets) m
  steps e =
      let h = piece_there Inverse e in
      let w : p + sync_octets ≤ length s = omega (arith, g.within, h.0) in (
        w,
        record {
          places = ps;
          front = stepped g.front (w, h.1, h.2);
          count = g.count;
          within = w;
          few = g.few;
          room = g.room;
          stored = g.stored;
          none = g.none;
        },
      )

  -- a multiframe: its header's reading x is stored
  module _ (e : piece_of (drop p s) m ≡ Multiframe) where
    here : Here s p m Multiframe
    here = piece_there Multiframe e

    pub below : m < most_multiframes
    below = less m g.few here.1
      where
        less : (m : ℕ) → m ≤ 255 → (m ≡ 255 → ⊥) → m < 255
        less m h k = omega arith

    pub inside : p + multiframe_octets ≤ length s
    inside = omega (arith, g.within, here.0)

    on : Front s (p + multiframe_octets) (ps ++ (p ∷ []))
    on = met g.front (omega (arith, below, g.count)) (inside, here.2, here.3)

    module _ (x : ℕ) (ex : x ≡ packed (reading (header_word s p))) where
      pub room_for_it : m + 1 ≤ length (set headers m x)
      room_for_it = omega (arith, below, g.room, length-set headers m x)

      -- one more reading stands in the array
      more_stored : open_all (take (m + 1) (set headers m x)) ≡ readings s (ps ++ (p ∷ []))
      unfolding readings
      more_stored =
          let h : opened x ≡ reading (header_word s p) = ap opened ex ∙ opened_packed (reading (header_word s p)) (mended (header_word s p)) in
          rw (add-one m, take-suc-set headers m x (omega (arith, below, g.room)), open_more (take m headers) x, g.stored, h) (sym (readings_more s ps (p ∷ [])))

      read_one : readings s (ps ++ (p ∷ [])) ≡ readings s ps ++ (reading (header_word s p) ∷ [])
      unfolding readings
      read_one = readings_more s ps (p ∷ [])

      length_read : length (readings s ps) ≡ m
      unfolding readings
      length_read = length_each (λ k. reading (header_word s (get_or ps k 0))) (length ps) ∙ g.count

      -- what `agreed` answers of it
      module _ (r : Settlement) (er : r ≡ settled_by (get_or (open_all (take (m + 1) (set headers m x))) m None) (seen_before (open_all (take (m + 1) (set headers m x))) m)) where
        found : first_agreeing [] (readings s (ps ++ (p ∷ []))) ≡ r
        found =
            let hs = readings s ps in
            let gs = hs ++ (reading (header_word s p) ∷ []) in
            let all : open_all (take (m + 1) (set headers m x)) ≡ gs = more_stored ∙ read_one in
            ap (first_agreeing []) read_one ∙ one_more hs (reading (header_word s p)) g.none ∙ ap (λ (k : ℕ). settled_by (get_or gs k None) (seen_before gs k)) length_read
            ∙ sym (ap (λ (l : List Header). settled_by (get_or l m None) (seen_before l m)) all) ∙ sym er

        pub settles : (c : ℕ) → r ≡ Some c → settled_answer (m + 1) (Some c) ≡ until_settled ch s
        settles c e =
            let n : read_until [] (readings s (ps ++ (p ∷ []))) ≡ m + 1 =
            ap (read_until []) read_one ∙ one_more_read (readings s ps) (reading (header_word s p)) g.none ∙ ap (λ (k : ℕ). k + 1) length_read in
            ap (λ (k : ℕ). settled_answer k (Some c)) (sym n) ∙ settles_here ch s on c (found ∙ e)

        pub goes_on : r ≡ None → Going s (set headers m x) (p + multiframe_octets) (m + 1)
        goes_on e =
            record {
              places = ps ++ (p ∷ []);
              front = on;
              count = length-append ps (p ∷ []) ∙ ap (λ (k : ℕ). k + 1) g.count;
              within = inside;
              few = omega (arith, below);
              room = simp length-set g.room;
              stored = more_stored;
              none = found ∙ e;
            }
