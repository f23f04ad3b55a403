-- The pairs of a damaged image as the reader takes them: the notes name the damaged ones and those that 01's consistency rule makes bad, and
-- the undamaged ones are the frames written. Whatever happened to the headers.
-- Assumes nothing.
use Rattle.std.specs.Prelude.{◌≡◌, Bool, true, ◌⊎◌, eqb, take, drop, get_or}
use Rattle.std.proofs.Math.Path.{refl, ap, ap₂}
use Rattle.std.proofs.Common.{sym, ◌∙◌, subst, inl, inr, arith, take_at, drop_at}
use Rattle.std.proofs.Math.Bool.{false, not}
use mathlib.Core.List.{List, [], ◌∷◌, ◌++◌}
use Rattle.std.proofs.Math.Logic.{⊎_elim}
use Prim.Native.Nat.{ℕ, zero, suc, ◌*◌, ◌≤◌, ◌<◌}
use Rattle.std.proofs.Math.Decide.{dec_lt}
use Rattle.std.proofs.Math.ListN.{length, get_or-eq_default}
use Rattle.lists.specs.Tests.{when, true_false}
use Rattle.lists.specs.Rows.{each, length_each, each_at}
use Rattle.layout.specs.Layout.{widths, frame_indices, data_bits, multiframe_pairs, first_frame, second_frame}
use Rattle.tables.specs.Tables.{Tables}
use Rattle.crc.specs.Crc.{right}
use Rattle.packet.specs.Packet.{apart, frame_at}
use Rattle.packet.proofs.Laws.{length_row, packet_of_back}
use Rattle.consistency.specs.Consistency.{inconsistent}
use Rattle.cutting.proofs.Laws.{every_length}
use Rattle.deciding.specs.Deciding.{received_notes}
use Rattle.carrier.specs.Carrier.{received, pair_count}
use Rattle.notes.specs.Notes.{pair_fails, frames_of, pair_inconsistent, pair_notes}
use Rattle.notes.specs.Laws.{length_notes}
use Rattle.bad_pairs.specs.BadPairs.{bad, bad_pairs, note_by, notes}
use Rattle.bad_pairs.specs.Laws.{bad_before, note_at, failed_is_1}
use Rattle.image.specs.Made.{packet_in}
use Rattle.writer.specs.Utterance.{Utterance, multiframes_of, pairs_of, image_of}
use Rattle.writer.proofs.Utterance.{fits_each_frame}
use Rattle.damage.specs.Damage.{DamageUpTo, Touched, Fate, whole, hit, fate, not_touched}
use Rattle.demands.specs.Whole.{row_of}
use Rattle.demands.proofs.WholeLaws.{packet_at_lem}
use Rattle.demands.specs.Received.{NextTouched, Inconsistent, BadBefore, ByRule, BadPair, Tells, is_so, not_so, Count}

-- a pair whose CRC is right has note 0 or 2
zero_or_two : (b o a : Bool) → (note_by b false o a ≡ 0) ⊎ (note_by b false o a ≡ 2)
unfolding note_by
zero_or_two b false a = inl refl
zero_or_two b true true = inr refl
zero_or_two true true false = inr refl
zero_or_two false true false = inl refl

-- ---- a count: there is only one number of those that are so
pub count_once : (P : ℕ → Type 0) (n a b : ℕ) → Count P n a → Count P n b → a ≡ b
unfolding Count
count_once P zero a b x y = x ∙ sym y
count_once P (suc n) zero zero x y = refl
count_once P (suc n) zero (suc b) x (inl y) = absurd (x.0 y.0)
count_once P (suc n) zero (suc b) x (inr y) = count_once (λ k. P (suc k)) n zero (suc b) x.1 y.1
count_once P (suc n) (suc a) zero (inl x) y = absurd (y.0 x.0)
count_once P (suc n) (suc a) zero (inr x) y = count_once (λ k. P (suc k)) n (suc a) zero x.1 y.1
count_once P (suc n) (suc a) (suc b) (inl x) (inl y) = ap suc (count_once (λ k. P (suc k)) n a b x.1 y.1)
count_once P (suc n) (suc a) (suc b) (inl x) (inr y) = absurd (y.0 x.0)
count_once P (suc n) (suc a) (suc b) (inr x) (inl y) = absurd (x.0 y.0)
count_once P (suc n) (suc a) (suc b) (inr x) (inr y) = count_once (λ k. P (suc k)) n (suc a) (suc b) x.1 y.1

-- one number more, which is so or is not
pub count_one : (P : ℕ → Type 0) (n c : ℕ) → Count P n c → P n → Count P (suc n) (suc c)
unfolding Count
count_one P zero c x p = inl (p, x)
count_one P (suc n) zero x p = inr (x.0, count_one (λ k. P (suc k)) n zero x.1 p)
count_one P (suc n) (suc c) (inl x) p = inl (x.0, count_one (λ k. P (suc k)) n c x.1 p)
count_one P (suc n) (suc c) (inr x) p = inr (x.0, count_one (λ k. P (suc k)) n (suc c) x.1 p)

pub count_none : (P : ℕ → Type 0) (n c : ℕ) → Count P n c → (P n → ⊥) → Count P (suc n) c
unfolding Count
count_none P zero zero x f = (f, x)
count_none P zero (suc c) x f = inr (f, x)
count_none P (suc n) zero x f = (x.0, count_none (λ k. P (suc k)) n zero x.1 f)
count_none P (suc n) (suc c) (inl x) f = inl (x.0, count_none (λ k. P (suc k)) n c x.1 f)
count_none P (suc n) (suc c) (inr x) f = inr (x.0, count_none (λ k. P (suc k)) n (suc c) x.1 f)

not_first : (P : ℕ → Type 0) (n c : ℕ) → (P 0 → ⊥) → Count (λ k. P (suc k)) n c → Count P (suc n) c
unfolding Count
not_first P n zero f x = (f, x)
not_first P n (suc c) f x = inr (f, x)

-- notes that tell which pairs are so count them
count_bad : (P : ℕ → Type 0) (ns : List ℕ) → ((q : ℕ) → q < length ns → Tells (P q) (bad (get_or ns q 0))) → Count P (length ns) (bad_pairs ns)
unfolding Count
count_bad P [] t = refl
count_bad P (x ∷ ns) t = by (eqb x 0) refl (t 0 (omega arith)) (count_bad (λ k. P (suc k)) ns (λ q h. t (suc q) (omega arith)))
  where
    by : (b : Bool) → eqb x 0 ≡ b → Tells (P 0) (not (eqb x 0)) → Count (λ k. P (suc k)) (length ns) (bad_pairs ns)
        → Count P (suc (length ns)) (when b (bad_pairs ns) (suc (bad_pairs ns)))
    by true e (is_so p y) i = absurd (true_false (sym y ∙ ap not e))
    by true e (not_so n y) i = not_first P (length ns) (bad_pairs ns) n i
    by false e (is_so p y) i = inl (p, i)
    by false e (not_so n y) i = absurd (true_false (sym (ap not e) ∙ y))

ruled : (b o a : Bool) (B O A : Type 0) → Tells B b → Tells O o → Tells A a → Tells (O × (A ⊎ B)) (bad (note_by b false o a))
unfolding note_by
ruled b o a B O A tb (not_so x eo) ta = not_so (λ t. x t.0) (rw eo)
ruled b o a B O A tb (is_so x eo) (is_so y ea) = is_so (x, inl y) (rw (eo, ea))
ruled b o a B O A (is_so z eb) (is_so x eo) (not_so n ea) = is_so (x, inr z) (rw (eo, ea, eb))
ruled b o a B O A (not_so m eb) (is_so x eo) (not_so n ea) = not_so (λ t. ⊎_elim n m t.1) (rw (eo, ea, eb))

-- ---- pairs
module _ {most : ℕ} (u : Utterance) (s : List ℕ) (d : DamageUpTo most (multiframes_of u) (image_of u) s) where
  abbrev m : ℕ
  m = multiframes_of u

  pairs_are : pair_count (row_of m) ≡ pairs_of u
  pairs_are = ap (λ (n : ℕ). multiframe_pairs * n) (every_length 0 m)

  module _ (q : ℕ) (h : q < pairs_of u) where
    fails_is : pair_fails (received s (row_of m)) q ≡ not (right data_bits (packet_in s q))
    unfolding pair_fails
    fails_is = ap (λ (p : List Bool). not (right data_bits p)) (packet_at_lem s m q h)

    -- the CRC tells whether a pair is damaged
    pub tells_touched : Tells (Touched (image_of u) s q) (pair_fails (received s (row_of m)) q)
    tells_touched = by (fate u s d q h)
      where
        by : Fate u s d q h → Tells (Touched (image_of u) s q) (pair_fails (received s (row_of m)) q)
        by (whole e r) = not_so (not_touched u s d q h e) (fails_is ∙ ap not r)
        by (hit t r) = is_so t (fails_is ∙ ap not r)

    -- an undamaged pair's frames are those written
    pub frames_kept : (Touched (image_of u) s q → ⊥) → frames_of (received s (row_of m)) q ≡ frame_at u.indices (first_frame q) ++ frame_at u.indices (second_frame q)
    unfolding frames_of
    frames_kept n = by (fate u s d q h)
      where
        by : Fate u s d q h → apart widths (received s (row_of m) q) ≡ frame_at u.indices (first_frame q) ++ frame_at u.indices (second_frame q)
        by (whole e r) =
            ap (apart widths) (packet_at_lem s m q h ∙ e) ∙ packet_of_back u.indices q (fits_each_frame u (first_frame q)) (fits_each_frame u (second_frame q))
        by (hit t r) = absurd (n t)

    module _ (tables : Tables) where
      inconsistent_kept : (Touched (image_of u) s q → ⊥) → pair_inconsistent (received s (row_of m)) tables q
          ≡ inconsistent tables (frame_at u.indices (first_frame q)) (frame_at u.indices (second_frame q))
      unfolding pair_inconsistent
      inconsistent_kept n =
          let f = frame_at u.indices (first_frame q) in
          let g = frame_at u.indices (second_frame q) in
          let lf : length f ≡ frame_indices = length_row u.indices (frame_indices * first_frame q) frame_indices in
          ap (λ (l : List ℕ). inconsistent tables (take frame_indices l) (drop frame_indices l)) (frames_kept n)
          ∙ ap₂ (inconsistent tables) (take_at f g frame_indices lf) (drop_at f g frame_indices lf)

      tells_inconsistent : (Touched (image_of u) s q → ⊥) → Tells (Inconsistent u s tables q) (pair_inconsistent (received s (row_of m)) tables q)
      tells_inconsistent n = by (inconsistent tables (frame_at u.indices (first_frame q)) (frame_at u.indices (second_frame q))) refl
        where
          by : (t : Bool) → inconsistent tables (frame_at u.indices (first_frame q)) (frame_at u.indices (second_frame q)) ≡ t
              → Tells (Inconsistent u s tables q) (pair_inconsistent (received s (row_of m)) tables q)
          by true e = is_so e (inconsistent_kept n ∙ e)
          by false e = not_so (λ y. true_false (sym y ∙ e)) (inconsistent_kept n ∙ e)

  module _ (tables : Tables) where
    abbrev fs : List Bool
    fs = each (pair_fails (received s (row_of m))) (pair_count (row_of m))

    abbrev os : List Bool
    os = each (pair_inconsistent (received s (row_of m)) tables) (pair_count (row_of m))

    abbrev ns : List ℕ
    ns = received_notes s (row_of m) tables

    tells_next : (q : ℕ) → Tells (NextTouched u s tables q) (get_or fs (suc q) false)
    tells_next q =
        elim (dec_lt (suc q) (pairs_of u)) [
          | yes h ↦ by h (tells_touched (suc q) h)
          | no n ↦
              let l : length fs ≤ suc q = omega (arith, length_each (pair_fails (received s (row_of m))) (pair_count (row_of m)), pairs_are) in
              not_so (λ t. n t.0) (get_or-eq_default fs false l)
        ]
      where
        at : suc q < pairs_of u → get_or fs (suc q) false ≡ pair_fails (received s (row_of m)) (suc q)
        at h = each_at (pair_fails (received s (row_of m))) (pair_count (row_of m)) (suc q) false (omega (arith, pairs_are))

        by : suc q < pairs_of u → Tells (Touched (image_of u) s (suc q)) (pair_fails (received s (row_of m)) (suc q)) → Tells (NextTouched u s tables q) (get_or fs (suc q) false)
        by h (is_so t e) = is_so (h, t) (at h ∙ e)
        by h (not_so n e) = not_so (λ t. n t.1) (at h ∙ e)

    note_is : (q : ℕ) → q < pairs_of u
        → get_or ns q 0 ≡ note_by (bad_before false ns q) (pair_fails (received s (row_of m)) q) (pair_inconsistent (received s (row_of m)) tables q) (get_or fs (suc q) false)
    unfolding pair_notes
    note_is q h =
        let n = pair_count (row_of m) in
        let l : q < n = omega (arith, pairs_are) in
        note_at false fs os q (omega (arith, length_each (pair_fails (received s (row_of m))) n))
        ∙ ap₂ (λ (x y : Bool). note_by (bad_before false (notes fs os) q) x y (get_or fs (suc q) false)) (each_at (pair_fails (received s (row_of m))) n q false l)
        (each_at (pair_inconsistent (received s (row_of m)) tables) n q false l)

    -- the note of a damaged pair is 1
    pub touched_note : (q : ℕ) → q < pairs_of u → Touched (image_of u) s q → get_or ns q 0 ≡ 1
    touched_note q h t = by (tells_touched q h)
      where
        by : Tells (Touched (image_of u) s q) (pair_fails (received s (row_of m)) q) → get_or ns q 0 ≡ 1
        by (is_so x e) =
            note_is q h ∙ ap (λ (f : Bool). note_by (bad_before false ns q) f (pair_inconsistent (received s (row_of m)) tables q) (get_or fs (suc q) false)) e
            ∙ failed_is_1 (bad_before false ns q) (pair_inconsistent (received s (row_of m)) tables q) (get_or fs (suc q) false)
        by (not_so n e) = absurd (n t)

    -- and of any other tells whether the rule makes it bad
    rule_note : (q : ℕ) → q < pairs_of u → (Touched (image_of u) s q → ⊥) → Tells (BadBefore u s tables q) (bad_before false ns q)
        → Tells (ByRule u s tables q) (bad (get_or ns q 0))
    rule_note q h n b = by (tells_touched q h)
      where
        by : Tells (Touched (image_of u) s q) (pair_fails (received s (row_of m)) q) → Tells (ByRule u s tables q) (bad (get_or ns q 0))
        by (is_so x e) = absurd (n x)
        by (not_so x e) =
            subst (λ (i : ℕ). Tells (ByRule u s tables q) (bad i))
            (sym (note_is q h ∙ ap (λ (f : Bool). note_by (bad_before false ns q) f (pair_inconsistent (received s (row_of m)) tables q) (get_or fs (suc q) false)) e))
            (ruled (bad_before false ns q) (pair_inconsistent (received s (row_of m)) tables q) (get_or fs (suc q) false) (BadBefore u s tables q) (Inconsistent u s tables q)
            (NextTouched u s tables q) b (tells_inconsistent q h tables n) (tells_next q))

    -- so the notes tell which pairs are bad
    tells_before : (q : ℕ) → q ≤ pairs_of u → Tells (BadBefore u s tables q) (bad_before false ns q)
    unfolding BadBefore
    tells_before zero h = not_so (λ x. x) refl
    tells_before (suc q) h = by (tells_touched q (omega arith)) (tells_before q (omega arith))
      where
        by : Tells (Touched (image_of u) s q) (pair_fails (received s (row_of m)) q) → Tells (BadBefore u s tables q) (bad_before false ns q)
            → Tells (BadPair u s tables q) (bad (get_or ns q 0))
        by (is_so t e) b = is_so (inl t) (ap bad (touched_note q (omega arith) t))
        by (not_so n e) b = from (rule_note q (omega arith) n b)
          where
            from : Tells (ByRule u s tables q) (bad (get_or ns q 0)) → Tells (BadPair u s tables q) (bad (get_or ns q 0))
            from (is_so r x) = is_so (inr r) x
            from (not_so k x) = not_so (λ z. ⊎_elim n k z) x

    pub tells_rule : (q : ℕ) → q < pairs_of u → (Touched (image_of u) s q → ⊥) → Tells (ByRule u s tables q) (bad (get_or ns q 0))
    tells_rule q h n = rule_note q h n (tells_before q (omega arith))

    pub tells_bad : (q : ℕ) → q < pairs_of u → Tells (BadPair u s tables q) (bad (get_or ns q 0))
    unfolding BadBefore
    tells_bad q h = tells_before (suc q) (omega arith)

    -- ---- exact notes
    other_note : (q : ℕ) → q < pairs_of u → (Touched (image_of u) s q → ⊥)
        → get_or ns q 0 ≡ note_by (bad_before false ns q) false (pair_inconsistent (received s (row_of m)) tables q) (get_or fs (suc q) false)
    other_note q h n = by (tells_touched q h)
      where
        by : Tells (Touched (image_of u) s q) (pair_fails (received s (row_of m)) q)
            → get_or ns q 0 ≡ note_by (bad_before false ns q) false (pair_inconsistent (received s (row_of m)) tables q) (get_or fs (suc q) false)
        by (is_so t x) = absurd (n t)
        by (not_so k x) = note_is q h ∙ ap (λ (f : Bool). note_by (bad_before false ns q) f (pair_inconsistent (received s (row_of m)) tables q) (get_or fs (suc q) false)) x

    -- the note is 1 of no other pair than a damaged one
    pub note_one : (q : ℕ) → q < pairs_of u → get_or ns q 0 ≡ 1 → Touched (image_of u) s q
    note_one q h e = by (tells_touched q h)
      where
        by : Tells (Touched (image_of u) s q) (pair_fails (received s (row_of m)) q) → Touched (image_of u) s q
        by (is_so t x) = t
        by (not_so n x) =
            absurd (⊎_elim (λ z. let y : ◌≡◌ {A = ℕ} 0 1 = sym z ∙ sym (other_note q h n) ∙ e in omega arith) (λ z. let y : ◌≡◌ {A = ℕ} 2 1 = sym z ∙ sym (other_note q h n) ∙ e in omega arith)
            (zero_or_two (bad_before false ns q) (pair_inconsistent (received s (row_of m)) tables q) (get_or fs (suc q) false)))

    -- and an undamaged pair that the rule makes bad has note 2
    pub note_two : (q : ℕ) → q < pairs_of u → (Touched (image_of u) s q → ⊥) → ByRule u s tables q → get_or ns q 0 ≡ 2
    note_two q h n r = by (tells_rule q h n)
      where
        by : Tells (ByRule u s tables q) (bad (get_or ns q 0)) → get_or ns q 0 ≡ 2
        by (not_so l y) = absurd (l r)
        by (is_so l y) =
            ⊎_elim (λ z. absurd (true_false (sym y ∙ ap bad (other_note q h n ∙ z)))) (λ z. other_note q h n ∙ z)
            (zero_or_two (bad_before false ns q) (pair_inconsistent (received s (row_of m)) tables q) (get_or fs (suc q) false))

    -- the number of bad pairs
    pub bad_counted : Count (BadPair u s tables) (pairs_of u) (bad_pairs ns)
    bad_counted =
        subst (λ (n : ℕ). Count (BadPair u s tables) n (bad_pairs ns)) (length_notes (received s (row_of m)) (pair_count (row_of m)) tables ∙ pairs_are)
        (count_bad (BadPair u s tables) ns (λ q h. tells_bad q (omega (arith, length_notes (received s (row_of m)) (pair_count (row_of m)) tables, pairs_are))))
