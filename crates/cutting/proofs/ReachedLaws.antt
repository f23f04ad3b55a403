-- The laws of `Reached`: what is reached is within the octets, in one way, and cutting ends exactly where what it gets to is what 01 says of
-- that case.
-- Assumes nothing.
use Rattle.std.specs.Prelude.{ℕ, zero, suc, ◌+◌, ◌-◌, ◌*◌, ◌≤◌, ◌≡◌, refl, ◌↔◌, List, [], ◌∷◌, length, get_or, drop}
use Rattle.std.proofs.Common.{ap, sym, ◌∙◌, subst, inl, length-drop, drop-drop, get_or-drop, add-one, arith, lt-ltb, le-ltb}
use Rattle.layout.specs.Layout.{multiframe_octets, sync_octets, most_multiframes}
use Rattle.refusals.specs.declared.Reading.TheVariants as R
use Rattle.cutting.specs.declared.Piece.{Piece}
use Rattle.cutting.specs.declared.Piece.TheVariants.{End, Multiframe, Inverse, Unknown, CutShort, TooMany}
use Rattle.cutting.specs.Cutting.{sync_met, last_met, piece_by, piece_of, Ending, whole, refused, Cutting, ended, step, walk, cutting}
use Rattle.cutting.specs.Laws.{Stand}
use Rattle.cutting.proofs.Laws.{says, said, at_place, sound_walk}
use Rattle.cutting.specs.Reached.{Reached, start, met, stepped, Here, Meets, Told, before, Ends, Synced}

-- ---- what is reached is within the octets, behind 255 multiframes at most
pub reached_within : {s : List ℕ} {p m : ℕ} → Reached s p m → p ≤ length s
reached_within start = omega arith
reached_within (met r few at) = omega (arith, at.0)
reached_within (stepped r at) = omega (arith, at.0)

pub reached_few : {s : List ℕ} {p m : ℕ} → Reached s p m → m ≤ most_multiframes
reached_few start = omega arith
reached_few (met r few at) = omega arith
reached_few (stepped r at) = reached_few r

-- ---- the piece that stands at octet p
module _ (s : List ℕ) (p m : ℕ) where
  piece_here : piece_of (drop p s) m ≡ piece_by (length s - p) (get_or s p 0) (get_or s (p + 1) 0) m
  piece_here =
      let z : p + 0 ≡ p = omega arith in
      let a : get_or (drop p s) 0 0 ≡ get_or s p 0 = get_or-drop p s 0 0 ∙ ap (λ (k : ℕ). get_or s k 0) z in
      rw (length-drop p s, a, get_or-drop p s 1 0)

  pub here_piece : (q : Piece) → Here s p m q → piece_of (drop p s) m ≡ q
  here_piece q h = piece_here ∙ said (length s - p) (get_or s p 0) (get_or s (p + 1) 0) m q h

  pub here_says : (l : List ℕ) → drop p s ≡ l → Here s p m (piece_of l m)
  here_says l e = subst (λ (x : List ℕ). Here s p m (piece_of x m)) e (subst (Here s p m) (sym piece_here) (says (length s - p) (get_or s p 0) (get_or s (p + 1) 0) m))

  -- what cutting does from there on
  abbrev onward : Cutting
  onward = walk 0 (drop p s) p m

-- ---- cutting goes on from what is reached
record Goes (s : List ℕ) (p m : ℕ) : Type 0 where
  close : (cutting s).ending ≡ (onward s p m).ending
  count : length (cutting s).places ≡ m + length (onward s p m).places
  counted : (q : ℕ) → p ≤ q → before q (cutting s).places ≡ m + before q (onward s p m).places

goes : (s : List ℕ) {p m : ℕ} → Reached s p m → Goes s p m
goes s start = record { close = refl; count = omega arith; counted = λ q h. omega arith }
goes s (met {p} {m} r few at) =
    let e = at_place s p m Multiframe (here_piece s p m Multiframe (omega (arith, at.0), λ k. omega arith, at.1, at.2)) in
    let i = goes s r in
    record {
      close = i.close ∙ ap (λ (w : Cutting). w.ending) e;
      count = i.count ∙ ap (λ (w : Cutting). m + length w.places) e ∙ omega arith;
      counted = λ q h. i.counted q (omega arith) ∙ ap (λ (w : Cutting). m + before q w.places) e ∙ rw (lt-ltb p q (omega arith)) (omega arith);
    }
goes s (stepped {p} {m} r at) =
    let e = at_place s p m Inverse (here_piece s p m Inverse (omega (arith, at.0), at.1, at.2)) in
    let i = goes s r in
    record {
      close = i.close ∙ ap (λ (w : Cutting). w.ending) e;
      count = i.count ∙ ap (λ (w : Cutting). m + length w.places) e;
      counted = λ q h. i.counted q (omega arith) ∙ ap (λ (w : Cutting). m + before q w.places) e;
    }

-- ---- m is the number of multiframes before p, so there is one m for each p
none_before : (s : List ℕ) (p q : ℕ) (ps : List ℕ) → p ≤ q → Stand s q ps → before p ps ≡ 0
none_before s p q [] h a = refl
none_before s p q (x ∷ ps) h a = rw (le-ltb x p (omega (arith, a.0))) (none_before s p (x + multiframe_octets) ps (omega (arith, a.0)) a.4)

pub reached_behind : (s : List ℕ) {p m : ℕ} → Reached s p m → m ≡ before p (cutting s).places
reached_behind s {p} {m} r =
    let n = none_before s p (p + 0) (onward s p m).places (omega arith) (sound_walk s 0 (drop p s) p m (reached_within r) refl).stand in
    let c = (goes s r).counted p (omega arith) in
    omega arith

pub reached_once : (s : List ℕ) {p m n : ℕ} → Reached s p m → Reached s p n → m ≡ n
reached_once s r t = reached_behind s r ∙ sym (reached_behind s t)

-- ---- where a piece ends cutting, it ends so, behind all its multiframes
module _ (s : List ℕ) {p m : ℕ} (r : Reached s p m) (q : Piece) (h : Here s p m q) (e : Ending) (stops : (v w : Cutting) → step q p v w ≡ ended e) where
  there : onward s p m ≡ ended e
  there = at_place s p m q (here_piece s p m q h) ∙ stops _ _

  ends_so : (cutting s).ending ≡ e
  ends_so = (goes s r).close ∙ ap (λ (w : Cutting). w.ending) there

  behind_all : m ≡ length (cutting s).places
  behind_all = let c = (goes s r).count in let z = ap (λ (w : Cutting). length w.places) there in omega arith

-- the m multiframes behind which cutting ends are all that it gives
pub reached_all : (s : List ℕ) {p m : ℕ} → Reached s p m → (q : Piece) → Ends q → Here s p m q → m ≡ length (cutting s).places
reached_all s r End u h = behind_all s r End h whole (λ v w. refl)
reached_all s r Multiframe u h = absurd u
reached_all s r Inverse u h = absurd u
reached_all s {p} r Unknown u h = behind_all s r Unknown h (refused (R.Unknown p)) (λ v w. refl)
reached_all s {p} r CutShort u h = behind_all s r CutShort h (refused (R.CutShort p)) (λ v w. refl)
reached_all s {p} r TooMany u h = behind_all s r TooMany h (refused (R.TooMany p)) (λ v w. refl)

told_ends : (s : List ℕ) (e : Ending) → Told s e → (cutting s).ending ≡ e
told_ends s whole (m, r) = ends_so s r End (omega arith) whole (λ v w. refl)
told_ends s (refused R.WrongTables) t = absurd t
told_ends s (refused (R.NegativeThreshold k)) t = absurd t
told_ends s (refused (R.Unknown p)) (m, (r, h)) = ends_so s r Unknown h (refused (R.Unknown p)) (λ v w. refl)
told_ends s (refused (R.CutShort p)) (m, (r, h)) = ends_so s r CutShort h (refused (R.CutShort p)) (λ v w. refl)
told_ends s (refused (R.Empty n)) t = absurd t
told_ends s (refused (R.TooMany p)) (m, (r, h)) = ends_so s r TooMany h (refused (R.TooMany p)) (λ v w. refl)
told_ends s (refused R.Unsettled) t = absurd t
told_ends s (refused R.Unfit) t = absurd t
told_ends s (refused (R.IndexShort n)) t = absurd t
told_ends s (refused (R.ReportShort n)) t = absurd t
told_ends s (refused R.AllBad) t = absurd t

-- ---- and cutting ends only where it has got to
told_next : (s : List ℕ) {p m : ℕ} → Reached s p m → (q : Piece) → Here s p m q → (v w : Cutting)
    → (Reached s (p + multiframe_octets) (m + 1) → Told s v.ending) → (Reached s (p + sync_octets) m → Told s w.ending) → Told s (step q p v w).ending
told_next s {p} {m} r End h v w f g =
    let i = reached_within r in
    let e : p ≡ length s = omega arith in
    (m, subst (λ (k : ℕ). Reached s k m) e r)
told_next s r Multiframe h v w f g =
    let i = reached_few r in f (met r (omega (arith, i, h.1)) (omega (arith, h.0), h.2, h.3))
told_next s r Inverse h v w f g = g (stepped r (omega (arith, h.0), h.1, h.2))
told_next s {p} {m} r Unknown h v w f g = (m, (r, h))
told_next s {p} {m} r CutShort h v w f g = (m, (r, h))
told_next s {p} {m} r TooMany h v w f g = (m, (r, h))

told_walk : (s : List ℕ) (k : ℕ) (l : List ℕ) (p m : ℕ) → p ≤ length s → drop p s ≡ l → Reached s (p + k) m → Told s (walk k l p m).ending
unfolding walk
told_walk s k [] p m within e r =
    let i = reached_within r in
    let n : 0 ≡ length s - p = sym (ap length e) ∙ length-drop p s in
    let c : p + k ≡ length s = omega arith in
    (m, subst (λ (q : ℕ). Reached s q m) c r)
told_walk s (suc k) (x ∷ l) p m within e r =
    let n : suc (length l) ≡ length s - p = sym (ap length e) ∙ length-drop p s in
    let d : drop (p + 1) s ≡ l = sym (drop-drop 1 p s) ∙ ap (drop 1) e in
    let c : p + suc k ≡ p + 1 + k = omega arith in
    told_walk s k l (p + 1) m (omega arith) d (subst (λ (q : ℕ). Reached s q m) c r)
told_walk s zero (x ∷ l) p m within e r =
    let n : suc (length l) ≡ length s - p = sym (ap length e) ∙ length-drop p s in
    let d : drop (p + 1) s ≡ l = sym (drop-drop 1 p s) ∙ ap (drop 1) e in
    let z : p + 0 ≡ p = omega arith in
    let a : p + multiframe_octets ≡ p + 1 + (multiframe_octets - 1) = omega arith in
    let b : p + sync_octets ≡ p + 1 + (sync_octets - 1) = omega arith in
    told_next s (subst (λ (q : ℕ). Reached s q m) z r) (piece_of (x ∷ l) m) (here_says s p m (x ∷ l) e) (walk (multiframe_octets - 1) l (p + 1) (m + 1)) (walk (sync_octets - 1) l (p + 1) m)
    (λ t. told_walk s (multiframe_octets - 1) l (p + 1) (m + 1) (omega arith) d (subst (λ (q : ℕ). Reached s q (m + 1)) a t))
    (λ t. told_walk s (sync_octets - 1) l (p + 1) m (omega arith) d (subst (λ (q : ℕ). Reached s q m) b t))

-- how cutting ends, and why: the end of the octets, 12, 13 and 15, each exactly where it is reached
pub ends_exactly : (s : List ℕ) (e : Ending) → ((cutting s).ending ≡ e) ↔ Told s e
ends_exactly s e = (λ k. subst (Told s) k (told_walk s 0 s 0 0 (omega arith) refl start), told_ends s e)

-- the end is reached behind all the multiframes that cutting gives
pub whole_exactly : (s : List ℕ) → ((cutting s).ending ≡ whole) ↔ Reached s (length s) (length (cutting s).places)
whole_exactly s = (λ e. all ((ends_exactly s whole).0 e), λ r. (ends_exactly s whole).1 (length (cutting s).places, r))
  where
    all : Told s whole → Reached s (length s) (length (cutting s).places)
    all (m, r) = subst (Reached s (length s)) (reached_all s r End tt (omega arith)) r

-- ---- literally: behind an inverse sync 00 is 12 at octet 2, a lone 87 is 13 at octet 2, and nothing more is the end
pub behind_inverse : ((cutting (0x78 ∷ 0x4D ∷ 0x00 ∷ [])).ending ≡ refused (R.Unknown 2)) × ((cutting (0x78 ∷ 0x4D ∷ 0x87 ∷ [])).ending ≡ refused (R.CutShort 2)) × ((cutting (0x78 ∷ 0x4D ∷ [])).ending ≡ whole)
unfolding walk piece_by sync_met last_met
behind_inverse = (refl, refl, refl)

-- and by 01's sentences alone
pub reached_literally : Meets (0x78 ∷ 0x4D ∷ 0x00 ∷ []) 2 Unknown × Meets (0x78 ∷ 0x4D ∷ 0x87 ∷ []) 2 CutShort × Reached (0x78 ∷ 0x4D ∷ []) 2 0
reached_literally = (
  (0, (stepped start (omega arith, refl, refl), (omega arith, λ e. absurd (omega arith), λ e. absurd (omega arith)))),
  (0, (stepped start (omega arith, refl, refl), (omega arith, inl (refl, inl refl)))),
  stepped start (omega arith, refl, refl),
)

reached_every : (s : List ℕ) (k : ℕ) → k ≤ most_multiframes → multiframe_octets * k ≤ length s → Synced s k → Reached s (multiframe_octets * k) k
reached_every s zero few room h = start
reached_every s (suc k) few room h =
    let r = reached_every s k (omega arith) (omega arith) (λ i b. h i (omega arith)) in
    let a : multiframe_octets * k + multiframe_octets ≡ multiframe_octets * suc k = omega arith in
    let here = h k (omega arith) in
    subst (λ (p : ℕ). Reached s p (suc k)) a (rw add-one at (met r (omega arith) (omega arith, here.0, here.1)))

pub fifteen_met : (s : List ℕ) → 36722 ≤ length s → Synced s 256 → (cutting s).ending ≡ refused (R.TooMany 36720)
fifteen_met s room h =
    let here = h 255 (omega arith) in
    let r = reached_every s 255 (omega arith) (omega arith) (λ i b. h i (omega arith)) in
    (ends_exactly s (refused (R.TooMany 36720))).1 (255, (r, (omega arith, omega arith, refl, here.0, here.1)))
