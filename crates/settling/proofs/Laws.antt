-- What a reader of 01 would ask of the settings.
-- Assumes nothing.
use Rattle.std.specs.Prelude.{ℕ, zero, suc, ◌≤◌, ◌<◌, ◌≡◌, ◌⊎◌, Bool, true, false, length, get_or, eqb, Some, None}
use Rattle.std.proofs.Math.Path.{refl, ap}
use Rattle.std.proofs.Common.{sym, ◌∙◌, subst, inl, ⊎_elim, arith}
use Rattle.std.proofs.Math.Logic.{inr}
use mathlib.Core.List.{List, [], ◌∷◌}
use Rattle.std.proofs.Math.Decide.{ℕ_discrete}
use borrow.Author.Tests.{eq-eqb, ne_eqb, eqb-true}
use Rattle.lists.specs.Tests.{when, true_false}
use Rattle.message.specs.Message.{common_bits}
use Rattle.choices.specs.Choices.{one_settles}
use Rattle.choices.specs.declared.Choices.{Choices}
use Rattle.header.proofs.Laws.{lost_not_read, same_message}
use Rattle.header.specs.declared.Decoded.{Decoded}
use Rattle.header.specs.Types.{Header}
use Rattle.settling.specs.Laws.{Has, Earlier, Agrees, First, Says, AllHave, Enough, OnlySettles}
use Rattle.settling.specs.Settling.{among, first_agreeing, only_one, or_else, settling}
use Rattle.settling.specs.Types.{Settlement}

-- ---- the settled common bits are those of two headers, and of the first two that agree

-- one header on, with its common bits seen
module _ (x : Decoded) (seen : List ℕ) (hs : List Header) where
  among_more : (c : ℕ) → (c ≡ common_bits x.message) ⊎ (among c seen ≡ true) → among c (common_bits x.message ∷ seen) ≡ true
  among_more c (inl e) = rw (eq-eqb c (common_bits x.message) e)
  among_more c (inr h) = by (eqb c (common_bits x.message))
    where
      by : (t : Bool) → when t true (among c seen) ≡ true
      by true = refl
      by false = h

  among_less : (c : ℕ) → among c (common_bits x.message ∷ seen) ≡ true → (c ≡ common_bits x.message) ⊎ (among c seen ≡ true)
  among_less c h = by (eqb c (common_bits x.message)) refl h
    where
      by : (t : Bool) → eqb c (common_bits x.message) ≡ t → when t true (among c seen) ≡ true → (c ≡ common_bits x.message) ⊎ (among c seen ≡ true)
      by true e h = inl (eqb-true c (common_bits x.message) e)
      by false e h = inr h

  back : (k c : ℕ) → Agrees (common_bits x.message ∷ seen) hs k c → Agrees seen (Some x ∷ hs) (suc k) c
  back k c a =
      record {
        has = a.has;
        with = ⊎_elim (λ h. ⊎_elim (λ e. inr (record { at = 0; less = omega arith; has = sym e })) (λ e. inl e) (among_less c h))
            (λ e. inr (record { at = suc e.at; less = omega (arith, e.less); has = e.has })) a.with;
      }

  ahead : (k c : ℕ) → Agrees seen (Some x ∷ hs) (suc k) c → Agrees (common_bits x.message ∷ seen) hs k c
  ahead k c a = record { has = a.has; with = ⊎_elim (λ h. inl (among_more c (inr h))) (λ e. from e.at e.less e.has) a.with }
    where
      from : (j : ℕ) → j < suc k → Has (Some x ∷ hs) j c → (among c (common_bits x.message ∷ seen) ≡ true) ⊎ Earlier hs k c
      from zero l h = inl (among_more c (inl (sym h)))
      from (suc j) l h = inr (record { at = j; less = omega arith; has = h })

  -- the header itself agrees only with what was seen
  itself : (c : ℕ) → Agrees seen (Some x ∷ hs) 0 c → among (common_bits x.message) seen ≡ true
  itself c a = ⊎_elim (λ h. ap (λ (x : ℕ). among x seen) a.has ∙ h) (λ e. absurd (omega (arith, e.less))) a.with

-- past a lost header
module _ (seen : List ℕ) (hs : List Header) where
  past : (k c : ℕ) → Agrees seen hs k c → Agrees seen (None ∷ hs) (suc k) c
  past k c a = record { has = a.has; with = ⊎_elim (λ h. inl h) (λ e. inr (record { at = suc e.at; less = omega (arith, e.less); has = e.has })) a.with }

  over_lost : (k c : ℕ) → Agrees seen (None ∷ hs) (suc k) c → Agrees seen hs k c
  over_lost k c a = record { has = a.has; with = ⊎_elim (λ h. inl h) (λ e. from e.at e.less e.has) a.with }
    where
      from : (j : ℕ) → j < suc k → Has (None ∷ hs) j c → (among c seen ≡ true) ⊎ Earlier hs k c
      from zero l h = absurd h
      from (suc j) l h = inr (record { at = j; less = omega arith; has = h })

lost_on : (seen : List ℕ) (hs : List Header) (s : Settlement) → Says seen hs s → Says seen (None ∷ hs) s
lost_on seen hs (Some c) r = record { at = suc r.at; agrees = past seen hs r.at c r.agrees; none = λ i d h a. before i d h a }
  where
    before : (i d : ℕ) → i < suc r.at → Agrees seen (None ∷ hs) i d → ⊥
    before zero d h a = a.has
    before (suc i) d h a = r.none i d (omega arith) (over_lost seen hs i d a)
lost_on seen hs None r = λ k d a. nowhere k d a
  where
    nowhere : (k d : ℕ) → Agrees seen (None ∷ hs) k d → ⊥
    nowhere zero d a = a.has
    nowhere (suc k) d a = r k d (over_lost seen hs k d a)

read_on : (x : Decoded) (seen : List ℕ) (hs : List Header) (s : Settlement) → among (common_bits x.message) seen ≡ false → Says (common_bits x.message ∷ seen) hs s
    → Says seen (Some x ∷ hs) s
read_on x seen hs (Some c) new r = record { at = suc r.at; agrees = back x seen hs r.at c r.agrees; none = λ i d h a. before i d h a }
  where
    before : (i d : ℕ) → i < suc r.at → Agrees seen (Some x ∷ hs) i d → ⊥
    before zero d h a = true_false (sym (itself x seen hs d a) ∙ new)
    before (suc i) d h a = r.none i d (omega arith) (ahead x seen hs i d a)
read_on x seen hs None new r = λ k d a. nowhere k d a
  where
    nowhere : (k d : ℕ) → Agrees seen (Some x ∷ hs) k d → ⊥
    nowhere zero d a = true_false (sym (itself x seen hs d a) ∙ new)
    nowhere (suc k) d a = r k d (ahead x seen hs k d a)

-- THE FIRST READABLE HEADER THAT AGREES WITH AN EARLIER READABLE ONE; unsettled exactly if none does
pub first_agreeing_lem : (seen : List ℕ) (hs : List Header) → Says seen hs (first_agreeing seen hs)
unfolding first_agreeing
first_agreeing_lem seen [] = λ k d a. a.has
first_agreeing_lem seen (None ∷ hs) = lost_on seen hs (first_agreeing seen hs) (first_agreeing_lem seen hs)
first_agreeing_lem seen (Some x ∷ hs) = by (among (common_bits x.message) seen) refl (first_agreeing_lem (common_bits x.message ∷ seen) hs)
  where
    by : (t : Bool) → among (common_bits x.message) seen ≡ t → Says (common_bits x.message ∷ seen) hs (first_agreeing (common_bits x.message ∷ seen) hs)
        → Says seen (Some x ∷ hs) (when t (Some (common_bits x.message)) (first_agreeing (common_bits x.message ∷ seen) hs))
    by true e r = record { at = 0; agrees = record { has = refl; with = inl e }; none = λ i d h a. absurd (omega arith) }
    by false e r = read_on x seen hs (first_agreeing (common_bits x.message ∷ seen) hs) e r

seen_true : (x : ℕ) (l : List ℕ) (y : ℕ) → x ≡ y → among x (y ∷ l) ≡ true
seen_true x l y e = rw (eq-eqb x y e)

again : (hs : List Header) (seen : List ℕ) (c : ℕ) → 0 < length hs → AllHave hs c → among c seen ≡ true → first_agreeing seen hs ≡ Some c
unfolding first_agreeing
again [] seen c n a e = absurd (omega arith)
again (None ∷ hs) seen c n a e = absurd a
again (Some d ∷ hs) seen c n a e =
    let t : among (common_bits d.message) seen ≡ true = ap (λ (x : ℕ). among x seen) a.0 ∙ e in
    rw t (ap Some a.0)

-- two headers or more, all read with the same common bits, settle them, whatever the caller chose
pub all_agree : (ch : Choices) (hs : List Header) (c : ℕ) → 2 ≤ length hs → AllHave hs c → settling ch hs ≡ Some c
unfolding settling first_agreeing
all_agree ch [] c n a = absurd (omega arith)
all_agree ch (None ∷ hs) c n a = absurd a
all_agree ch (Some d ∷ hs) c n a =
    ap (λ (s : Settlement). or_else s (when (one_settles ch) (only_one (Some d ∷ hs)) None))
    (again hs (common_bits d.message ∷ []) c (omega arith) a.1 (seen_true c [] (common_bits d.message) (sym a.0)))

-- where no two agree and one alone would not settle, nothing is settled, whatever the caller chose
pub neither : (ch : Choices) (hs : List Header) → first_agreeing [] hs ≡ None → only_one hs ≡ None → settling ch hs ≡ None
unfolding settling
neither ch hs none one = rw (none, one) (by (one_settles ch))
  where
    by : (t : Bool) → when {A = Settlement} t None None ≡ None
    by true = refl
    by false = refl

-- ---- an only header: by default it settles nothing (02, C-20); where the caller asks for it, exactly if it is a codeword
pub only_default : (ch : Choices) (h : Header) → one_settles ch ≡ false → settling ch (h ∷ []) ≡ None
unfolding settling first_agreeing
only_default ch None o = rw o
only_default ch (Some d) o = rw o

pub one_default : (ch : Choices) (hs : List Header) → one_settles ch ≡ false → length hs ≡ 1 → settling ch hs ≡ None
one_default ch [] o e = absurd (omega arith)
one_default ch (h ∷ []) o e = only_default ch h o
one_default ch (h ∷ x ∷ hs) o e = absurd (omega arith)

none_settle : (ch : Choices) → settling ch [] ≡ None
unfolding first_agreeing only_one
none_settle ch = neither ch [] refl refl

module _ (ch : Choices) where
  pub only_clean : (d : Decoded) → one_settles ch ≡ true → d.flips ≡ 0 → settling ch (Some d ∷ []) ≡ Some (common_bits d.message)
  unfolding settling first_agreeing only_one
  only_clean d o z = rw (o, eq-eqb d.flips 0 z)

  pub only_mended : (d : Decoded) → (d.flips ≡ 0 → ⊥) → settling ch (Some d ∷ []) ≡ None
  unfolding first_agreeing only_one
  only_mended d n = neither ch (Some d ∷ []) refl (rw (ne_eqb d.flips 0 n))

  pub only_lost : settling ch (None ∷ []) ≡ None
  unfolding first_agreeing only_one
  only_lost = neither ch (None ∷ []) refl refl

-- ---- what is settled
is_settled : Settlement → Bool
is_settled (Some c) = true
is_settled None = false

not_settled : (d : ℕ) → None ≡ Some d → ⊥
unfolding is_settled
not_settled d e = true_false (sym (ap is_settled e))

bits_in : Settlement → ℕ
bits_in (Some c) = c
bits_in None = 0

settled_bits : (c d : ℕ) → Some c ≡ Some d → c ≡ d
unfolding bits_in
settled_bits c d e = ap bits_in e

-- the rule for an only multiframe speaks of no other number
pub not_only : (hs : List Header) → (length hs ≡ 1 → ⊥) → only_one hs ≡ None
unfolding only_one
not_only [] n = refl
not_only (None ∷ hs) n = refl
not_only (Some d ∷ []) n = absurd (n refl)
not_only (Some d ∷ x ∷ hs) n = refl

-- so the choice changes nothing there: they settle what the first of them that agrees with an earlier one says
pub not_one : (ch : Choices) (hs : List Header) → (length hs ≡ 1 → ⊥) → settling ch hs ≡ first_agreeing [] hs
unfolding settling
not_one ch hs n = by (first_agreeing [] hs) (one_settles ch)
  where
    by : (s : Settlement) (t : Bool) → or_else s (when t (only_one hs) None) ≡ s
    by (Some x) t = refl
    by None true = not_only hs n
    by None false = refl

pub two_or_more : (ch : Choices) (hs : List Header) → 2 ≤ length hs → settling ch hs ≡ first_agreeing [] hs
two_or_more ch hs two = not_one ch hs (λ e. omega arith)

pub settled_first : (ch : Choices) (hs : List Header) (c : ℕ) → 2 ≤ length hs → settling ch hs ≡ Some c → First [] hs c
settled_first ch hs c two e = by (first_agreeing [] hs) (first_agreeing_lem [] hs) (sym (two_or_more ch hs two) ∙ e)
  where
    by : (s : Settlement) → Says [] hs s → s ≡ Some c → First [] hs c
    by None x e = absurd (not_settled c e)
    by (Some x) f e = subst (First [] hs) (settled_bits x c e) f

-- ---- all readable headers but perhaps one, number j, have the common bits c
module _ (hs : List Header) (c j : ℕ) (same : (k d : ℕ) → (k ≡ j → ⊥) → Has hs k d → d ≡ c) where
  -- so two that agree have them
  agreed : (d : ℕ) → First [] hs d → d ≡ c
  agreed d f =
      ⊎_elim (λ t. absurd (true_false (sym t)))
      (λ (e : Earlier hs f.at d).
      elim (ℕ_discrete f.at j) [
        | yes z ↦ same e.at d (λ w. omega (arith, e.less)) e.has
        | no n ↦ same f.at d n f.agrees.has
      ])
      f.agrees.with

  -- of two headers or more nothing else is settled
  pub settled_same : (ch : Choices) (d : ℕ) → 2 ≤ length hs → settling ch hs ≡ Some d → d ≡ c
  settled_same ch d two e = agreed d (settled_first ch hs d two e)

  -- and two headers that are read with them settle them
  pub two_settle : (ch : Choices) (a b : ℕ) → a < b → Has hs a c → Has hs b c → settling ch hs ≡ Some c
  unfolding settling
  two_settle ch a b h ha hb = by (first_agreeing [] hs) (first_agreeing_lem [] hs)
    where
      by : (s : Settlement) → Says [] hs s → or_else s (when (one_settles ch) (only_one hs) None) ≡ Some c
      by None x = absurd (x b c (record { has = hb; with = inr (record { at = a; less = h; has = ha }) }))
      by (Some x) f = ap Some (agreed x f)

pub only_settles : (ch : Choices) (h : Header) (c : ℕ) → settling ch (h ∷ []) ≡ Some c → OnlySettles ch h c
only_settles ch h c e = by (one_settles ch) refl h e
  where
    by : (t : Bool) → one_settles ch ≡ t → (h : Header) → settling ch (h ∷ []) ≡ Some c → OnlySettles ch h c
    by false o h e = absurd (not_settled c (sym (only_default ch h o) ∙ e))
    by true o None e = absurd (not_settled c (sym (only_lost ch) ∙ e))
    by true o (Some d) e =
        elim (ℕ_discrete d.flips 0) [
          | yes z ↦ record { asked_for = o; decoded = d; read_as = refl; clean = z; bits = settled_bits (common_bits d.message) c (sym (only_clean ch d o z) ∙ e) }
          | no n ↦ absurd (not_settled c (sym (only_mended ch d n) ∙ e))
        ]

-- what is settled had two headers or more, or one where the caller asks for it
pub settled_enough : (ch : Choices) (hs : List Header) (c : ℕ) → settling ch hs ≡ Some c → Enough ch (length hs)
settled_enough ch [] c e = absurd (not_settled c (sym (none_settle ch) ∙ e))
settled_enough ch (h ∷ []) c e = inr (only_settles ch h c e).asked_for
settled_enough ch (h ∷ x ∷ hs) c e = inl (omega arith)

-- ---- header k of a list, as `Has` and as `get_or` take it
pub has_read : (hs : List Header) (k c : ℕ) → Has hs k c → (d : Decoded) × ((get_or hs k None ≡ Some d) × (common_bits d.message ≡ c))
has_read [] k c x = absurd x
has_read (None ∷ hs) zero c x = absurd x
has_read (Some d ∷ hs) zero c x = (d, (refl, x))
has_read (None ∷ hs) (suc k) c x = has_read hs k c x
has_read (Some d ∷ hs) (suc k) c x = has_read hs k c x

pub read_has : (hs : List Header) (k : ℕ) (d : Decoded) → get_or hs k None ≡ Some d → Has hs k (common_bits d.message)
read_has [] k d e = absurd (lost_not_read d e)
read_has (None ∷ hs) zero d e = absurd (lost_not_read d e)
read_has (Some x ∷ hs) zero d e = ap common_bits (same_message x d e)
read_has (None ∷ hs) (suc k) d e = read_has hs k d e
read_has (Some x ∷ hs) (suc k) d e = read_has hs k d e
