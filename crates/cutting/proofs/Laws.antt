-- The laws by which others use `cutting`: the recursion as 01 has it, what each place says of the octets, and what an image of whole
-- multiframes is cut into.
-- Assumes nothing.
use Rattle.std.specs.Prelude.{ℕ, zero, suc, ◌+◌, ◌-◌, ◌*◌, ◌≤◌, ◌<◌, ◌≡◌, refl, ◌⊎◌, List, [], ◌∷◌, ◌++◌, length, get_or, drop, take, ltb, eqb}
use Rattle.std.proofs.Common.{ap, ap₂, sym, ◌∙◌, subst, inl, inr, length-drop, length-append, take_all, drop-drop, drop_at, get_or-drop, add-one, arith}
use Rattle.std.proofs.Math.ListN.{get_or-append}
use Rattle.std.proofs.Math.Seq.{drop-length}
use Rattle.std.proofs.Math.Decide.{ℕ_discrete}
use borrow.Author.Tests.{lt-ltb, le-ltb, eq-eqb, ne_eqb, ltb-true, ltb-false, eqb-true, eqb-false}
use Rattle.lists.specs.Tests.{when, by_test}
use Rattle.layout.specs.Layout.{multiframe_octets, sync_octets, most_multiframes, sync_first, sync_second, inverse_first, inverse_second}
use Rattle.cutting.specs.declared.Piece.{Piece}
use Rattle.cutting.specs.declared.Piece.TheVariants.{End, Multiframe, Inverse, Unknown, CutShort, TooMany}
use Rattle.cutting.specs.Cutting.{sync_met, last_met, piece_by, piece_of, whole, Cutting, prepend, step, walk, cutting}
use Rattle.cutting.specs.Laws.{Says, Stand, Sound, Placed, every, Chunk, multiframe, inverse, octets_of, places_of, Proper}

-- ---- the pieces

-- a sync after 255 multiframes is 15, however few octets follow
pub one_too_many : (n : ℕ) → 2 ≤ n → piece_by n sync_first sync_second most_multiframes ≡ TooMany
unfolding piece_by last_met sync_met
one_too_many n h = rw (ne_eqb n 0 (λ e. omega arith), ne_eqb n 1 (λ e. omega arith))

-- a lone last 87 or 78 is 13, wherever it stands
pub lone_sync : (b m : ℕ) → piece_by 1 sync_first b m ≡ CutShort
unfolding piece_by last_met
lone_sync b m = refl

pub lone_inverse : (b m : ℕ) → piece_by 1 inverse_first b m ≡ CutShort
unfolding piece_by last_met
lone_inverse b m = refl

-- 87 and something else than B2 begins nothing known
pub half_sync : (n b m : ℕ) → 2 ≤ n → (b ≡ sync_second → ⊥) → piece_by n sync_first b m ≡ Unknown
unfolding piece_by last_met
half_sync n b m h k = rw (ne_eqb n 0 (λ e. omega arith), ne_eqb n 1 (λ e. omega arith), ne_eqb b sync_second k)

-- a whole multiframe, and an inverse sync, are taken for what they are
pub multiframe_met : (n m : ℕ) → multiframe_octets ≤ n → m < most_multiframes → piece_by n sync_first sync_second m ≡ Multiframe
unfolding piece_by last_met sync_met
multiframe_met n m h k =
    rw (ne_eqb n 0 (λ e. omega arith), ne_eqb n 1 (λ e. omega arith), ne_eqb m most_multiframes (λ e. omega arith), le-ltb n multiframe_octets h)

pub inverse_met : (n m : ℕ) → sync_octets ≤ n → piece_by n inverse_first inverse_second m ≡ Inverse
unfolding piece_by last_met sync_met
inverse_met n m h = rw (ne_eqb n 0 (λ e. omega arith), ne_eqb n 1 (λ e. omega arith))

pub says : (n a b m : ℕ) → Says n a b m (piece_by n a b m)
unfolding piece_by last_met sync_met
says n a b m =
    let P = Says n a b m in
    by_test P (eqb n 0) (λ h. eqb-true n 0 h) (λ n0.
    let some : 0 < n = more n (eqb-false n 0 n0) in
    by_test P (eqb n 1)
    (λ n1.
    let lone = eqb-true n 1 n1 in
    by_test P (eqb a sync_first) (λ h. (some, inl (lone, inl (eqb-true a sync_first h))))
    (λ h. by_test P (eqb a inverse_first) (λ k. (some, inl (lone, inr (eqb-true a inverse_first k))))
    (λ k. (some, λ e. absurd (eqb-false a sync_first h e), λ e. absurd (eqb-false a inverse_first k e)))))
    (λ n1.
    let more = two n (eqb-false n 0 n0) (eqb-false n 1 n1) in
    by_test P (eqb a sync_first)
    (λ ha.
    let first = eqb-true a sync_first ha in
    by_test P (eqb b sync_second)
    (λ hb.
    let second = eqb-true b sync_second hb in
    by_test P (eqb m most_multiframes) (λ h. (some, more, eqb-true m most_multiframes h, first, second))
    (λ few.
    by_test P (ltb n multiframe_octets) (λ h. (some, inr (more, ltb-true n multiframe_octets h, eqb-false m most_multiframes few, first, second)))
    (λ h. (ltb-false n multiframe_octets h, eqb-false m most_multiframes few, first, second))))
    (λ h. (some, λ e. (more, eqb-false b sync_second h), λ e. absurd (apart (sym first ∙ e)))))
    (λ h.
    by_test P (eqb a inverse_first)
    (λ ha.
    by_test P (eqb b inverse_second) (λ hb. (more, eqb-true a inverse_first ha, eqb-true b inverse_second hb))
    (λ hb. (some, λ e. absurd (eqb-false a sync_first h e), λ e. (more, eqb-false b inverse_second hb))))
    (λ k. (some, λ e. absurd (eqb-false a sync_first h e), λ e. absurd (eqb-false a inverse_first k e))))))
  where
    more : (n : ℕ) → (n ≡ 0 → ⊥) → 0 < n
    more n h = omega arith

    two : (n : ℕ) → (n ≡ 0 → ⊥) → (n ≡ 1 → ⊥) → 2 ≤ n
    two n h k = omega arith

    apart : sync_first ≡ inverse_first → ⊥
    apart e = omega arith

-- and says of no other: what it says is met is met
module _ (n a b m : ℕ) where
  many : 2 ≤ n → piece_by n a b m ≡ when (eqb a sync_first) (when (eqb b sync_second) (sync_met n m) Unknown) (when (eqb a inverse_first) (when (eqb b inverse_second) Inverse Unknown) Unknown)
  unfolding piece_by
  many h = rw (ne_eqb n 0 (λ e. omega arith), ne_eqb n 1 (λ e. omega arith))

  sync_there : 2 ≤ n → a ≡ sync_first → b ≡ sync_second → piece_by n a b m ≡ sync_met n m
  sync_there h ea eb = many h ∙ rw (eq-eqb a sync_first ea, eq-eqb b sync_second eb)

  nothing_known : 2 ≤ n → (a ≡ sync_first → (2 ≤ n) × (b ≡ sync_second → ⊥)) → (a ≡ inverse_first → (2 ≤ n) × (b ≡ inverse_second → ⊥)) → piece_by n a b m ≡ Unknown
  nothing_known h f g =
      let P : Piece → Type 0 = λ q. q ≡ Unknown in
      many h ∙ by_test P (eqb a sync_first) (λ e. rw (ne_eqb b sync_second (f (eqb-true a sync_first e)).1))
      (λ e. by_test P (eqb a inverse_first) (λ k. rw (ne_eqb b inverse_second (g (eqb-true a inverse_first k)).1)) (λ k. refl))

  lone_unknown : n ≡ 1 → (a ≡ sync_first → ⊥) → (a ≡ inverse_first → ⊥) → piece_by n a b m ≡ Unknown
  unfolding piece_by last_met
  lone_unknown e f g = rw (e, ne_eqb a sync_first f, ne_eqb a inverse_first g)

  lone_cut : n ≡ 1 → (a ≡ sync_first) ⊎ (a ≡ inverse_first) → piece_by n a b m ≡ CutShort
  lone_cut e (inl h) = ap₂ (λ (k c : ℕ). piece_by k c b m) e h ∙ lone_sync b m
  lone_cut e (inr h) = ap₂ (λ (k c : ℕ). piece_by k c b m) e h ∙ lone_inverse b m

  pub said : (q : Piece) → Says n a b m q → piece_by n a b m ≡ q
  unfolding piece_by sync_met
  said End h = rw h
  said Multiframe h = sync_there (omega (arith, h.0)) h.2 h.3 ∙ rw (ne_eqb m most_multiframes h.1, le-ltb n multiframe_octets h.0)
  said Inverse h = many h.0 ∙ rw (h.1, h.2)
  said TooMany h = sync_there h.1 h.3 h.4 ∙ rw (eq-eqb m most_multiframes h.2)
  said CutShort h = cut h.1
    where
      cut : ((n ≡ 1) × ((a ≡ sync_first) ⊎ (a ≡ inverse_first))) ⊎ ((2 ≤ n) × (n < multiframe_octets) × (m ≡ most_multiframes → ⊥) × (a ≡ sync_first) × (b ≡ sync_second)) → piece_by n a b m ≡ CutShort
      cut (inl l) = lone_cut l.0 l.1
      cut (inr s) = sync_there s.0 s.3 s.4 ∙ rw (ne_eqb m most_multiframes s.2, lt-ltb n multiframe_octets s.1)
  said Unknown h =
      elim (ℕ_discrete n 1) [
        | yes e ↦ lone_unknown e (λ f. omega (arith, (h.1 f).0)) (λ f. omega (arith, (h.2 f).0))
        | no d ↦ nothing_known (omega (arith, h.0)) h.1 h.2
      ]

-- ---- the recursion as 01 has it: 144 octets on, and 2 octets on
pub walk_skip : (k : ℕ) (l : List ℕ) (p m : ℕ) → walk k l p m ≡ walk 0 (drop k l) (p + k) m
unfolding walk
walk_skip zero [] p m = refl
walk_skip (suc k) [] p m = refl
walk_skip zero (x ∷ l) p m = ap (λ (q : ℕ). walk 0 (x ∷ l) q m) (omega arith)
walk_skip (suc k) (x ∷ l) p m = walk_skip k l (p + 1) m ∙ ap (λ (q : ℕ). walk 0 (drop k l) q m) (omega arith)

pub walk_step : (l : List ℕ) (p m : ℕ)
    → walk 0 l p m ≡ step (piece_of l m) p (walk 0 (drop multiframe_octets l) (p + multiframe_octets) (m + 1)) (walk 0 (drop sync_octets l) (p + sync_octets) m)
unfolding walk piece_by
walk_step [] p m = refl
walk_step (x ∷ l) p m =
    let a : walk (multiframe_octets - 1) l (p + 1) (m + 1) ≡ walk 0 (drop (multiframe_octets - 1) l) (p + multiframe_octets) (m + 1)
    = walk_skip (multiframe_octets - 1) l (p + 1) (m + 1) ∙ ap (λ (q : ℕ). walk 0 (drop (multiframe_octets - 1) l) q (m + 1)) (omega arith) in
    let b : walk 1 l (p + 1) m ≡ walk 0 (drop 1 l) (p + 2) m = walk_skip 1 l (p + 1) m ∙ ap (λ (q : ℕ). walk 0 (drop 1 l) q m) (omega arith) in
    ap₂ (step (piece_of (x ∷ l) m) p) a b

-- the same with the octets kept whole: what stands at octet p of s
pub at_place : (s : List ℕ) (p m : ℕ) (q : Piece) → piece_of (drop p s) m ≡ q
    → walk 0 (drop p s) p m ≡ step q p (walk 0 (drop (p + multiframe_octets) s) (p + multiframe_octets) (m + 1)) (walk 0 (drop (p + sync_octets) s) (p + sync_octets) m)
at_place s p m q e = walk_step (drop p s) p m ∙ rw (e, drop-drop multiframe_octets p s, drop-drop sync_octets p s)

-- all that is left, as a program's `&s[p..]` has it
pub rest_of : (s : List ℕ) (p : ℕ) → take (length s - p) (drop p s) ≡ drop p s
rest_of s p = take_all (length s - p) (drop p s) (omega (arith, length-drop p s))

-- ---- there are at most 255 multiframes
few_next : (q : Piece) (n a b m p : ℕ) (v w : Cutting) → m ≤ most_multiframes → Says n a b m q
    → (m + 1 ≤ most_multiframes → m + 1 + length v.places ≤ most_multiframes) → m + length w.places ≤ most_multiframes
    → m + length (step q p v w).places ≤ most_multiframes
few_next End n a b m p v w h s f g = omega arith
few_next Multiframe n a b m p v w h s f g = let k = f (next m h s.1) in omega arith
  where
    next : (m : ℕ) → m ≤ 255 → (m ≡ 255 → ⊥) → m + 1 ≤ 255
    next m h k = omega arith
few_next Inverse n a b m p v w h s f g = g
few_next Unknown n a b m p v w h s f g = omega arith
few_next CutShort n a b m p v w h s f g = omega arith
few_next TooMany n a b m p v w h s f g = omega arith

few : (k : ℕ) (l : List ℕ) (p m : ℕ) → m ≤ most_multiframes → m + length (walk k l p m).places ≤ most_multiframes
unfolding walk
few k [] p m h = omega arith
few (suc k) (x ∷ l) p m h = few k l (p + 1) m h
few zero (x ∷ l) p m h =
    few_next (piece_of (x ∷ l) m) (length (x ∷ l)) (get_or (x ∷ l) 0 0) (get_or (x ∷ l) 1 0) m p (walk (multiframe_octets - 1) l (p + 1) (m + 1)) (walk 1 l (p + 1) m) h
    (says (length (x ∷ l)) (get_or (x ∷ l) 0 0) (get_or (x ∷ l) 1 0) m) (λ k. few (multiframe_octets - 1) l (p + 1) (m + 1) k) (few 1 l (p + 1) m h)

pub at_most_255 : (s : List ℕ) → length (cutting s).places ≤ most_multiframes
at_most_255 s = let h = few 0 s 0 0 (omega arith) in omega arith

-- ---- the places: whole multiframes with their sync, each 144 octets or more behind the one before

earlier : (s : List ℕ) (q r : ℕ) (ps : List ℕ) → q ≤ r → Stand s r ps → Stand s q ps
earlier s q r [] h a = tt
earlier s q r (p ∷ ps) h a = (omega arith, a.1, a.2, a.3, a.4)

module _ (s l : List ℕ) (p : ℕ) (within : p ≤ length s) (left : drop p s ≡ l) where
  left_length : length l ≡ length s - p
  left_length = sym (ap length left) ∙ length-drop p s

  left_at : (i : ℕ) → get_or s (p + i) 0 ≡ get_or l i 0
  left_at i = sym (get_or-drop p s i 0) ∙ ap (λ (x : List ℕ). get_or x i 0) left

  sound_next : (q : Piece) (m : ℕ) (v w : Cutting) → Says (length l) (get_or l 0 0) (get_or l 1 0) m q
      → Sound s (p + multiframe_octets) v → Sound s (p + sync_octets) w → Sound s p (step q p v w)
  sound_next End m v w h f g = record { stand = tt }
  sound_next Multiframe m v w h f g =
      let z : p ≡ p + 0 = omega arith in
      record { stand = (omega arith, omega (arith, h.0, left_length), ap (λ (k : ℕ). get_or s k 0) z ∙ left_at 0 ∙ h.2, left_at 1 ∙ h.3, f.stand) }
  sound_next Inverse m v w h f g = record { stand = earlier s p (p + 2) w.places (omega arith) g.stand }
  sound_next Unknown m v w h f g = record { stand = tt }
  sound_next CutShort m v w h f g = record { stand = tt }
  sound_next TooMany m v w h f g = record { stand = tt }

pub sound_walk : (s : List ℕ) (k : ℕ) (l : List ℕ) (p m : ℕ) → p ≤ length s → drop p s ≡ l → Sound s (p + k) (walk k l p m)
unfolding walk
sound_walk s k [] p m h e = record { stand = tt }
sound_walk s (suc k) (x ∷ l) p m h e =
    let n : suc (length l) ≡ length s - p = left_length s (x ∷ l) p h e in
    let d : drop (p + 1) s ≡ l = sym (drop-drop 1 p s) ∙ ap (drop 1) e in
    let c : p + 1 + k ≡ p + suc k = omega arith in
    subst (λ (q : ℕ). Sound s q (walk k l (p + 1) m)) c (sound_walk s k l (p + 1) m (omega arith) d)
sound_walk s zero (x ∷ l) p m h e =
    let n : suc (length l) ≡ length s - p = left_length s (x ∷ l) p h e in
    let d : drop (p + 1) s ≡ l = sym (drop-drop 1 p s) ∙ ap (drop 1) e in
    let z : p ≡ p + 0 = omega arith in
    let a : p + 1 + (multiframe_octets - 1) ≡ p + multiframe_octets = omega arith in
    let b : p + 1 + 1 ≡ p + 2 = omega arith in
    subst (λ (q : ℕ). Sound s q (walk zero (x ∷ l) p m)) z
    (sound_next s (x ∷ l) p h e (piece_of (x ∷ l) m) m (walk (multiframe_octets - 1) l (p + 1) (m + 1)) (walk 1 l (p + 1) m)
    (says (length (x ∷ l)) (get_or (x ∷ l) 0 0) (get_or (x ∷ l) 1 0) m)
    (subst (λ (q : ℕ). Sound s q (walk (multiframe_octets - 1) l (p + 1) (m + 1))) a (sound_walk s (multiframe_octets - 1) l (p + 1) (m + 1) (omega arith) d))
    (subst (λ (q : ℕ). Sound s q (walk 1 l (p + 1) m)) b (sound_walk s 1 l (p + 1) m (omega arith) d)))

-- the places that cutting gives, of any octets whatsoever (how it ends: `ends_exactly` in Reached)
pub sound : (s : List ℕ) → Sound s 0 (cutting s)
sound s = sound_walk s 0 s 0 0 (omega arith) refl

-- the same of the k-th place
pub place_stands : (s : List ℕ) (q : ℕ) (ps : List ℕ) → Stand s q ps → (k : ℕ) → k < length ps
    → (q + multiframe_octets * k ≤ get_or ps k 0) × (get_or ps k 0 + multiframe_octets ≤ length s) × (get_or s (get_or ps k 0) 0 ≡ sync_first) × (get_or s (get_or ps k 0 + 1) 0 ≡ sync_second)
place_stands s q [] a k h = absurd (omega arith)
place_stands s q (p ∷ ps) a zero h = (omega (arith, a.0), a.1, a.2, a.3)
place_stands s q (p ∷ ps) a (suc k) h = let b = place_stands s (p + multiframe_octets) ps a.4 k (omega arith) in (omega (arith, a.0, b.0), b.1, b.2, b.3)

pub places_placed : (s : List ℕ) → Placed s (cutting s).places
places_placed s k h = (place_stands s 0 (cutting s).places (sound s).stand k h).1

ascend : (s : List ℕ) (q : ℕ) (ps : List ℕ) → Stand s q ps → (k : ℕ) → suc k < length ps → get_or ps k 0 + multiframe_octets ≤ get_or ps (suc k) 0
ascend s q [] a k h = absurd (omega arith)
ascend s q (p ∷ []) a k h = absurd (omega arith)
ascend s q (p ∷ r ∷ ps) a zero h = a.4.0
ascend s q (p ∷ r ∷ ps) a (suc k) h = ascend s (p + multiframe_octets) (r ∷ ps) a.4 k (omega arith)

pub places_ascend : (s : List ℕ) (q : ℕ) (ps : List ℕ) → Stand s q ps → (k : ℕ) → k + 1 < length ps → get_or ps k 0 + multiframe_octets ≤ get_or ps (k + 1) 0
places_ascend s q ps a k h = rw add-one (ascend s q ps a k (omega arith))

-- ---- an image without inverse syncs is cut every 144 octets

pub every_length : (q n : ℕ) → length (every q n) ≡ n
every_length q zero = refl
every_length q (suc n) = ap suc (every_length (q + multiframe_octets) n)

pub every_at : (q n k : ℕ) → k < n → get_or (every q n) k 0 ≡ q + multiframe_octets * k
every_at q zero k h = absurd (omega arith)
every_at q (suc n) zero h = omega arith
every_at q (suc n) (suc k) h = let e = every_at (q + multiframe_octets) n k (omega arith) in e ∙ omega arith

piece_at : (s : List ℕ) (p m : ℕ) → p + multiframe_octets ≤ length s → m < most_multiframes → get_or s p 0 ≡ sync_first → get_or s (p + 1) 0 ≡ sync_second
    → piece_of (drop p s) m ≡ Multiframe
piece_at s p m room few first second =
    let z : p + 0 ≡ p = omega arith in
    let a : get_or (drop p s) 0 0 ≡ sync_first = get_or-drop p s 0 0 ∙ ap (λ (k : ℕ). get_or s k 0) z ∙ first in
    let b : get_or (drop p s) 1 0 ≡ sync_second = get_or-drop p s 1 0 ∙ second in
    rw (a, b) (multiframe_met (length (drop p s)) m (omega (arith, length-drop p s)) few)

taken : (s : List ℕ) (n p m : ℕ) → m + n ≤ most_multiframes → length s ≡ p + multiframe_octets * n
    → ((k : ℕ) → k < n → (get_or s (p + multiframe_octets * k) 0 ≡ sync_first) × (get_or s (p + multiframe_octets * k + 1) 0 ≡ sync_second))
    → walk 0 (drop p s) p m ≡ record { places = every p n; ending = whole }
unfolding walk
taken s zero p m few size syncs =
    let e : p ≡ length s = omega arith in
    ap (λ (l : List ℕ). walk 0 l p m) (ap (λ (k : ℕ). drop k s) e ∙ drop-length s)
taken s (suc n) p m few size syncs =
    let here = syncs 0 (omega arith) in
    let z : p + multiframe_octets * 0 ≡ p = omega arith in
    let ahead : (k : ℕ) → p + multiframe_octets * suc k ≡ p + multiframe_octets + multiframe_octets * k = λ k. omega arith in
    at_place s p m Multiframe (piece_at s p m (omega arith) (omega arith) (rw z at here.0) (rw z at here.1))
    ∙ ap (prepend p) (taken s n (p + multiframe_octets) (m + 1) (omega arith) (omega arith) (λ k h.
    subst (λ (i : ℕ). (get_or s i 0 ≡ sync_first) × (get_or s (i + 1) 0 ≡ sync_second)) (ahead k) (syncs (suc k) (omega arith))))

-- m multiframes one after another, each with its sync, and nothing else
pub whole_image : (s : List ℕ) (m : ℕ) → m ≤ most_multiframes → length s ≡ multiframe_octets * m
    → ((k : ℕ) → k < m → (get_or s (multiframe_octets * k) 0 ≡ sync_first) × (get_or s (multiframe_octets * k + 1) 0 ≡ sync_second))
    → cutting s ≡ record { places = every 0 m; ending = whole }
whole_image s m few size syncs =
    let z : (k : ℕ) → multiframe_octets * k ≡ 0 + multiframe_octets * k = λ k. omega arith in
    taken s m 0 0 (omega arith) (omega arith) (λ k h. subst (λ (i : ℕ). (get_or s i 0 ≡ sync_first) × (get_or s (i + 1) 0 ≡ sync_second)) (z k) (syncs k h))

-- and the other way round: octets that are no longer than their multiframes hold nothing else
room_for : (s : List ℕ) (q : ℕ) (ps : List ℕ) → q ≤ length s → Stand s q ps → q + multiframe_octets * length ps ≤ length s
room_for s q [] h a = omega arith
room_for s q (p ∷ ps) h a = let b = room_for s (p + multiframe_octets) ps a.1 a.4 in omega (arith, a.0)

tight : (s : List ℕ) (q : ℕ) (ps : List ℕ) → length s ≡ q + multiframe_octets * length ps → Stand s q ps → ps ≡ every q (length ps)
tight s q [] size a = refl
tight s q (p ∷ ps) size a =
    let b = room_for s (p + multiframe_octets) ps a.1 a.4 in
    let e : p ≡ q = omega (arith, a.0, b) in
    let r : ps ≡ every (p + multiframe_octets) (length ps) = tight s (p + multiframe_octets) ps (omega (arith, e)) a.4 in
    ap (λ (l : List ℕ). p ∷ l) r ∙ ap (λ (k : ℕ). k ∷ every (k + multiframe_octets) (length ps)) e

pub no_inverse : (s : List ℕ) → length s ≡ multiframe_octets * length (cutting s).places → (cutting s).places ≡ every 0 (length (cutting s).places)
no_inverse s size = tight s 0 (cutting s).places (omega arith) (sound s).stand

chunks : (cs : List Chunk) (p m : ℕ) → Proper cs → m + length (places_of p cs) ≤ most_multiframes
    → walk 0 (octets_of cs) p m ≡ record { places = places_of p cs; ending = whole }
unfolding walk
chunks [] p m ok few = refl
chunks (multiframe f ∷ cs) p m ok few =
    let l = octets_of cs in
    let a : get_or (f ++ l) 0 0 ≡ sync_first = get_or-append f l 0 0 (omega (arith, ok.0)) ∙ ok.1 in
    let b : get_or (f ++ l) 1 0 ≡ sync_second = get_or-append f l 0 1 (omega (arith, ok.0)) ∙ ok.2 in
    let n : multiframe_octets ≤ length (f ++ l) = rw length-append (omega (arith, ok.0)) in
    let q : piece_of (f ++ l) m ≡ Multiframe = rw (a, b) (multiframe_met (length (f ++ l)) m n (omega arith)) in
    walk_step (f ++ l) p m ∙ rw (q, drop_at f l multiframe_octets ok.0) (ap (prepend p) (chunks cs (p + multiframe_octets) (m + 1) ok.3 (omega arith)))
chunks (inverse ∷ cs) p m ok few =
    let l = octets_of cs in
    let n : 2 ≤ length (inverse_first ∷ inverse_second ∷ l) = omega arith in
    walk_step (inverse_first ∷ inverse_second ∷ l) p m ∙ rw (inverse_met (length (inverse_first ∷ inverse_second ∷ l)) m n) (chunks cs (p + 2) m ok few)

pub cut_chunks : (cs : List Chunk) → Proper cs → length (places_of 0 cs) ≤ most_multiframes
    → cutting (octets_of cs) ≡ record { places = places_of 0 cs; ending = whole }
cut_chunks cs ok few = chunks cs 0 0 ok (omega arith)
