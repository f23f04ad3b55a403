-- How text is put behind text, and the last step of each method.
-- Assumes nothing.
use Rattle.std.specs.Prelude.{◌≡◌, refl, List, [], ◌∷◌, ◌++◌, ℕ, ◌+◌, ◌/◌, ◌%◌, ◌≤◌, ◌<◌, length}
use Rattle.std.proofs.Common.{sym, ap, ◌∙◌, add-one, arith, length-append}
use Rattle.lists.specs.Parts.{over, behind, over_none}
use Rattle.lists.specs.Rows.{joined}
use Rattle.text.specs.Text.{digit, decimal, decimal_small, decimal_large, Put}
use Rattle.text.specs.Adds.{HasRoom, Adds}
use Rattle.text.specs.declared.Text.{Text}

-- one text behind another
pub put_on : {f g l m n : List ℕ} {at a b : ℕ} → at + length f ≤ length l → Put f l at m a → Put g m a n b → Put (f ++ g) l at n b
put_on {f} {g} {l} {m} {n} {at} {a} {b} room p q =
    record {
      laid =
          behind l at (length f) (length g) f g room refl p.laid (q.laid ∙ ap (λ (x : ℕ). over m x (length g) g) p.ends)
          ∙ ap (λ (w : ℕ). over l at w (f ++ g)) (sym (length-append f g));
      ends = omega (arith, p.ends, q.ends, length-append f g);
    }

-- nothing
pub adds_none : (a : Text) → HasRoom 0 a → Adds [] a a
adds_none a room = record {
  put = record { laid = over_none a.room.now a.end; ends = omega arith };
  within = omega arith;
  same_length = refl;
  same_room = refl;
}

pub adds_on : {f g : List ℕ} {a b c : Text} → Adds f a b → Adds g b c → Adds (f ++ g) a c
adds_on p q = record {
  put = put_on (omega (arith, p.put.ends, p.within, p.same_length)) p.put q.put;
  within = q.within;
  same_length = cc;
  same_room = cc;
}

-- the next of texts in a row
pub adds_next : {a b c : Text} (f : ℕ → List ℕ) (k : ℕ) → Adds (joined f k) a b → Adds (f k) b c → Adds (joined f (k + 1)) a c
adds_next f k p q = rw (add-one k) (adds_on p q)

-- ---- a number
pub length_small : (n : ℕ) → n < 10 → length (decimal n) ≡ 1
length_small n h = rw (decimal_small n h)

pub length_large : (n : ℕ) → 10 ≤ n → length (decimal n) ≡ length (decimal (n / 10)) + 1
length_large n h = rw (decimal_large n h, length-append)

pub number_small : (n d : ℕ) {a b : Text} → n < 10 → d ≡ digit (n % 10) → Adds (d ∷ []) a b → Adds (decimal n) a b
number_small n d h e p =
    let z : n % 10 ≡ n = omega arith in
    rw (decimal_small n h, ← z, ← e) p

pub number_large : (n d : ℕ) {a b c : Text} → 10 ≤ n → d ≡ digit (n % 10) → Adds (decimal (n / 10)) a b → Adds (d ∷ []) b c → Adds (decimal n) a c
number_large n d h e p q = rw (decimal_large n h, ← e) (adds_on p q)
