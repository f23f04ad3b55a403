-- Cutting up as far as an octet (01, "Cutting up"), with the places of the multiframes met so far. The octets in front of it decide that: whatever
-- stands behind changes neither the places nor the headers read there.
-- Assumes nothing.
use Rattle.std.specs.Prelude.{ℕ, zero, suc, ◌+◌, ◌≤◌, ◌<◌, ◌≡◌, refl, List, [], ◌∷◌, ◌++◌, length, get_or, take, drop}
use Rattle.std.proofs.Math.Path.{ap}
use Rattle.std.proofs.Common.{ap₂, sym, ◌∙◌, subst, append_assoc, append-nil, length-append, take-append-drop, get_or-append-add, get_or-take, length-take-le, take_all, arith}
use Rattle.std.proofs.Math.ListN.{get_or-append}
use Rattle.std.proofs.Math.Seq.{get_or-append_seam}
use Rattle.std.proofs.Math.Decide.{dec_lt}
use Rattle.lists.specs.Parts.{part, part_left}
use Rattle.lists.specs.Rows.{each, each_add, same_each}
use Rattle.layout.specs.Layout.{multiframe_octets, sync_octets, header_octets, most_multiframes}
use Rattle.bits.specs.Bits.{value, bits}
use Rattle.carrier.specs.Carrier.{header_word, word_at, in_places}
use Rattle.header.specs.Reading.{reading}
use Rattle.header.specs.Types.{Header}
use Rattle.cutting.specs.declared.Piece.{Piece}
use Rattle.cutting.specs.declared.Piece.TheVariants.{End, Multiframe, Inverse, Unknown, CutShort, TooMany}
use Rattle.cutting.specs.Cutting.{piece_of, Cutting, step, walk, cutting}
use Rattle.cutting.proofs.Laws.{at_place}
use Rattle.cutting.specs.Reached.{MultiframeAt, InverseAt, Reached, Here}
use Rattle.cutting.proofs.ReachedLaws.{here_piece, here_says, reached_within, reached_few}
use Rattle.cutting.specs.Reached as C
use Rattle.header_readings.specs.Readings.{readings}

-- `Front s p ps`: cutting gets to octet p of s, and ps are the places of the multiframes that it met: 01's sentences, as in `Reached`
pub data Front (s : List ℕ) : ℕ → List ℕ → Type 0 where
  start : Front s 0 []
  met : {p : ℕ} {ps : List ℕ} → Front s p ps → length ps < most_multiframes → MultiframeAt s p → Front s (p + multiframe_octets) (ps ++ (p ∷ []))
  stepped : {p : ℕ} {ps : List ℕ} → Front s p ps → InverseAt s p → Front s (p + sync_octets) ps

length_more : (ps : List ℕ) (p : ℕ) → length (ps ++ (p ∷ [])) ≡ length ps + 1
length_more ps p = length-append ps (p ∷ [])

pub front_reached : (s : List ℕ) {p : ℕ} {ps : List ℕ} → Front s p ps → Reached s p (length ps)
front_reached s start = C.start
front_reached s (met {p} {ps} f few at) = subst (Reached s (p + multiframe_octets)) (sym (length_more ps p)) (C.met (front_reached s f) few at)
front_reached s (stepped f at) = C.stepped (front_reached s f) at

pub front_within : (s : List ℕ) {p : ℕ} {ps : List ℕ} → Front s p ps → p ≤ length s
front_within s f = reached_within (front_reached s f)

-- and whatever is reached has such a front
pub reached_front : (s : List ℕ) {p m : ℕ} → Reached s p m → (ps : List ℕ) × (Front s p ps × (length ps ≡ m))
reached_front s C.start = ([], (start, refl))
reached_front s (C.met {p} r few at) =
    let i = reached_front s r in
    (i.0 ++ (p ∷ []), (met i.1.0 (omega (arith, i.1.1)) at, length_more i.0 p ∙ ap (λ (k : ℕ). k + 1) i.1.1))
reached_front s (C.stepped r at) = let i = reached_front s r in (i.0, (stepped i.1.0 at, i.1.1))

-- ---- cutting goes on from there: its places are these and those met behind
module _ (s : List ℕ) where
  abbrev onward : ℕ → ℕ → Cutting
  onward p m = walk 0 (drop p s) p m

  pub record Goes (p : ℕ) (ps : List ℕ) : Type 0 where
    pub all : (cutting s).places ≡ ps ++ (onward p (length ps)).places
    pub close : (cutting s).ending ≡ (onward p (length ps)).ending

  pub goes : {p : ℕ} {ps : List ℕ} → Front s p ps → Goes p ps
  goes start = record { all = refl; close = refl }
  goes (met {p} {ps} f few at) =
      let e = at_place s p (length ps) Multiframe (here_piece s p (length ps) Multiframe (omega (arith, at.0), λ k. omega arith, at.1, at.2)) in
      let i = goes f in
      let n = sym (length_more ps p) in
      record {
        all = i.all ∙ ap (λ (w : Cutting). ps ++ w.places) e ∙ sym (append_assoc ps (p ∷ []) (onward (p + multiframe_octets) (length ps + 1)).places)
            ∙ ap (λ (m : ℕ). (ps ++ (p ∷ [])) ++ (onward (p + multiframe_octets) m).places) n;
        close = i.close ∙ ap (λ (w : Cutting). w.ending) e ∙ ap (λ (m : ℕ). (onward (p + multiframe_octets) m).ending) n;
      }
  goes (stepped {p} {ps} f at) =
      let e = at_place s p (length ps) Inverse (here_piece s p (length ps) Inverse (omega (arith, at.0), at.1, at.2)) in
      let i = goes f in
      record { all = i.all ∙ ap (λ (w : Cutting). ps ++ w.places) e; close = i.close ∙ ap (λ (w : Cutting). w.ending) e }

-- ---- cutting gets to the end of each multiframe that it meets: behind the first j of them, if j is not 0, at the end of the last
module _ (s : List ℕ) where
  -- at octet p, or at the end of the last of the j places that stand behind p
  abbrev pub end_of : ℕ → List ℕ → ℕ → ℕ
  end_of p qs zero = p
  end_of p qs (suc j) = get_or qs j 0 + multiframe_octets

  end_next : (p q : ℕ) (qs : List ℕ) (j : ℕ) → end_of (p + multiframe_octets) qs j ≡ end_of q (p ∷ qs) (suc j)
  end_next p q qs zero = refl
  end_next p q qs (suc j) = refl

  end_past : (p q : ℕ) (qs : List ℕ) (j : ℕ) → end_of p qs (suc j) ≡ end_of q qs (suc j)
  end_past p q qs j = refl

  abbrev Gets : ℕ → List ℕ → ℕ → List ℕ → Type 0
  Gets p ps j qs = Front s (end_of p qs j) (ps ++ take j qs)

  -- one turn, if it goes on from every later octet that cutting gets to
  module _ {p : ℕ} {ps : List ℕ} (f : Front s p ps)
      (later : (q : ℕ) (qs : List ℕ) → Front s q qs → p + sync_octets ≤ q → (j : ℕ) → j ≤ length (onward s q (length qs)).places → Gets q qs j (onward s q (length qs)).places) where
    abbrev m : ℕ
    m = length ps

    turn : (j : ℕ) (q : Piece) → Here s p m q → (w : Cutting) → w ≡ step q p (onward s (p + multiframe_octets) (m + 1)) (onward s (p + sync_octets) m) → suc j ≤ length w.places
        → Gets p ps (suc j) w.places
    turn j End h w e n = absurd (omega (arith, ap (λ (v : Cutting). length v.places) e))
    turn j Unknown h w e n = absurd (omega (arith, ap (λ (v : Cutting). length v.places) e))
    turn j CutShort h w e n = absurd (omega (arith, ap (λ (v : Cutting). length v.places) e))
    turn j TooMany h w e n = absurd (omega (arith, ap (λ (v : Cutting). length v.places) e))
    turn j Inverse h w e n =
        let g = stepped f (omega (arith, h.0), h.1, h.2) in
        let c = ap (λ (v : Cutting). v.places) e in
        subst (Gets p ps (suc j)) (sym c) (later (p + sync_octets) ps g (omega arith) (suc j) (subst (λ (l : List ℕ). suc j ≤ length l) c n))
    turn j Multiframe h w e n =
        let r = reached_few (front_reached s f) in
        let g = met f (omega (arith, r, h.1)) (omega (arith, h.0), h.2, h.3) in
        let qs = (onward s (p + multiframe_octets) (length (ps ++ (p ∷ [])))).places in
        let c : w.places ≡ p ∷ qs = ap (λ (v : Cutting). v.places) e ∙ ap (λ (k : ℕ). p ∷ (onward s (p + multiframe_octets) k).places) (sym (length_more ps p)) in
        let i = later (p + multiframe_octets) (ps ++ (p ∷ [])) g (omega arith) j (omega (arith, subst (λ (l : List ℕ). suc j ≤ length l) c n)) in
        subst (Gets p ps (suc j)) (sym c) (subst (λ (k : ℕ). Front s k (ps ++ (p ∷ take j qs))) (end_next p p qs j) (subst (Front s (end_of (p + multiframe_octets) qs j)) (append_assoc ps (p ∷ []) (take j qs)) i))

    first : (j : ℕ) → j ≤ length (onward s p m).places → Gets p ps j (onward s p m).places
    first zero h = subst (Front s p) (sym (append-nil ps)) f
    first (suc j) h = turn j (piece_of (drop p s) m) (here_says s p m (drop p s) refl) (onward s p m) (at_place s p m (piece_of (drop p s) m) refl) h

  -- n is enough for all octets that are left
  gets : (n : ℕ) {p : ℕ} {ps : List ℕ} → Front s p ps → length s ≤ p + n → (j : ℕ) → j ≤ length (onward s p (length ps)).places → Gets p ps j (onward s p (length ps)).places
  gets zero f room j h = first f (λ q qs g d i k. absurd (omega (arith, front_within s g))) j h
  gets (suc n) f room j h = first f (λ q qs g d i k. gets n g (omega arith) i k) j h

  -- behind the first j + 1 multiframes that cutting meets
  pub got : (j : ℕ) → j < length (cutting s).places → Front s (get_or (cutting s).places j 0 + multiframe_octets) (take (suc j) (cutting s).places)
  got j h = gets (length s) start (omega arith) (suc j) h

-- ---- what was met stands in front
pub front_place : (s : List ℕ) {p : ℕ} {ps : List ℕ} → Front s p ps → (k : ℕ) → k < length ps → get_or ps k 0 + multiframe_octets ≤ p
front_place s start k h = absurd (omega arith)
front_place s (stepped f at) k h = let i = front_place s f k h in omega arith
front_place s (met {p} {ps} f few at) k h =
    elim (dec_lt k (length ps)) [
      | yes y ↦ let i = front_place s f k y in rw (get_or-append ps (p ∷ []) 0 k y) (omega arith)
      | no y ↦
          let e : k ≡ length ps = omega (arith, length_more ps p) in
          let g : get_or (ps ++ (p ∷ [])) k 0 ≡ p = ap (λ (i : ℕ). get_or (ps ++ (p ∷ [])) i 0) e ∙ get_or-append_seam ps p [] 0 in
          rw g (omega arith)
    ]

-- ---- other octets with the same front
module _ (s t : List ℕ) (q : ℕ) (enough : q ≤ length s) (alike : take q t ≡ take q s) where
  pub as_long : q ≤ length t
  as_long =
      elim (dec_lt (length t) q) [
        | yes y ↦ absurd (omega (arith, ap length (sym (take_all q t (omega arith)) ∙ alike) ∙ length-take-le q s enough))
        | no y ↦ omega arith
      ]

  same_octet : (i : ℕ) → i < q → get_or t i 0 ≡ get_or s i 0
  same_octet i h = sym (get_or-take q t i 0 h) ∙ ap (λ (l : List ℕ). get_or l i 0) alike ∙ get_or-take q s i 0 h

  -- are cut up alike
  pub same_front : {p : ℕ} {ps : List ℕ} → Front s p ps → p ≤ q → Front t p ps
  same_front start h = start
  same_front (met {p} f few at) h =
      met (same_front f (omega arith)) few (omega (arith, as_long), same_octet p (omega arith) ∙ at.1, same_octet (p + 1) (omega arith) ∙ at.2)
  same_front (stepped {p} f at) h =
      stepped (same_front f (omega arith)) (omega (arith, as_long), same_octet p (omega arith) ∙ at.1, same_octet (p + 1) (omega arith) ∙ at.2)

  part_front : (u : List ℕ) (a v : ℕ) → q ≤ length u → a + v ≤ q → part a v u ≡ part a v (take q u)
  part_front u a v long h =
      ap (part a v) (sym (take-append-drop q u)) ∙ part_left (take q u) (drop q u) a v (omega (arith, length-take-le q u long))

  same_word : (p : ℕ) → p + multiframe_octets ≤ q → header_word t p ≡ header_word s p
  same_word p h =
      ap (λ (l : List ℕ). value (bits l))
      (part_front t (p + sync_octets) header_octets as_long (omega arith) ∙ ap (part (p + sync_octets) header_octets) alike ∙ sym (part_front s (p + sync_octets) header_octets enough (omega arith)))

  -- and their headers there are read alike
  pub same_readings : {p : ℕ} {ps : List ℕ} → Front s p ps → p ≤ q → readings t ps ≡ readings s ps
  unfolding readings
  same_readings {p} {ps} f h =
      same_each (λ k. reading (word_at t (in_places ps) k)) (λ k. reading (word_at s (in_places ps) k)) (length ps) (λ k i.
      ap reading (same_word (get_or ps k 0) (omega (arith, front_place s f k i))))

-- ---- readings of some places and of more
pub readings_more : (s ps qs : List ℕ) → readings s (ps ++ qs) ≡ readings s ps ++ readings s qs
unfolding readings
readings_more s ps qs =
    let f : ℕ → Header = λ k. reading (header_word s (get_or (ps ++ qs) k 0)) in
    ap (each f) (length-append ps qs) ∙ each_add f (length ps) (length qs)
    ∙ ap₂ (λ (a b : List Header). a ++ b)
    (same_each f (λ k. reading (header_word s (get_or ps k 0))) (length ps) (λ k h. ap (λ (n : ℕ). reading (header_word s n)) (get_or-append ps qs 0 k h)))
    (same_each (λ k. f (length ps + k)) (λ k. reading (header_word s (get_or qs k 0))) (length qs) (λ k h. ap (λ (n : ℕ). reading (header_word s n)) (get_or-append-add ps qs k 0)))
