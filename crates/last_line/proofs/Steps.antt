-- Texts put one behind the other are a total, or a refusal's line, wherever each was put by itself.
-- Assumes nothing.
use mathlib.Core.Path.{◌≡◌, refl, ap, subst, ap₂, ◌∙◌}
use mathlib.Core.List.{List, ◌++◌, append_assoc}
use Prim.Native.Nat.{ℕ, ◌+◌, ◌*◌, ◌≤◌}
use native.Mathlib.Omega.{arith}
use lib.ListN.{length}
use Rattle.refusals.specs.Refusals.{reading_number, reading_place}
use Rattle.refusals.specs.declared.Reading.{Reading}
use Rattle.reader.specs.declared.Summary.{Summary}
use Rattle.text.specs.Text.{number_digits, field, Put}
use Rattle.text.proofs.Steps.{put_on}
use Rattle.lists.specs.Parts.{length_over}
use Rattle.lines.specs.Lines.{newline, space}
use Rattle.last_line.specs.LastLine.{rate_word, type_word, multiframes_word, speech_word, bad_word, end_word, refused_word, most_total, total, refusal}

-- a buffer keeps its length
put_length : {f l m : List ℕ} {at a : ℕ} → at + length f ≤ length l → Put f l at m a → length m ≡ length l
put_length {f} {l} {m} {at} room p = ap length p.laid ∙ length_over l f at (length f) room refl

regroup : (a b c d e f g : List ℕ) → (a ++ b) ++ ((c ++ d) ++ ((e ++ f) ++ g)) ≡ a ++ (b ++ (c ++ (d ++ (e ++ (f ++ g)))))
regroup a b c d e f g = simp append_assoc

pub total_done : (s : Summary) (l m₁ m₂ m₃ m₄ : List ℕ) (at a b c e : ℕ) → at + most_total ≤ length l
    → Put (field rate_word s.settings.rate ++ field type_word s.settings.kind) l at m₁ a → a ≤ at + 5 + 6 + 2 * number_digits
    → Put (field multiframes_word s.multiframes ++ field speech_word s.speech) m₁ a m₂ b → b ≤ a + 13 + 8 + 2 * number_digits
    → Put (field bad_word s.bad ++ field end_word s.end) m₂ b m₃ c → c ≤ b + 5 + 5 + 2 * number_digits
    → Put newline m₃ c m₄ e → Put (total s) l at m₄ e
unfolding total
total_done s l m₁ m₂ m₃ m₄ at a b c e room p u q v r w z =
    let k₁ = put_length (omega (arith, p.ends)) p in
    let k₂ = put_length (omega (arith, q.ends)) q in
    subst (λ (x : List ℕ). Put x l at m₄ e)
    (regroup (field rate_word s.settings.rate) (field type_word s.settings.kind) (field multiframes_word s.multiframes) (field speech_word s.speech)
    (field bad_word s.bad) (field end_word s.end) newline)
    (put_on (omega (arith, p.ends)) p (put_on (omega (arith, q.ends)) q (put_on (omega (arith, r.ends)) r z)))

pub refusal_done : (r : Reading) (n d : ℕ) (l m₁ m₂ : List ℕ) (at a e : ℕ) → at + most_total ≤ length l → n ≡ reading_number r → d ≡ reading_place r
    → Put (field refused_word n ++ field space d) l at m₁ a → a ≤ at + 8 + 1 + 2 * number_digits → Put newline m₁ a m₂ e → Put (refusal r) l at m₂ e
unfolding refusal
refusal_done r n d l m₁ m₂ at a e room en ed p u q =
    let z : Put ((field refused_word n ++ field space d) ++ newline) l at m₂ e = put_on (omega (arith, p.ends)) p q in
    subst (λ (x : List ℕ). Put x l at m₂ e)
    (append_assoc (field refused_word n) (field space d) newline ∙ ap₂ (λ (i j : ℕ). field refused_word i ++ (field space j ++ newline)) en ed) z
