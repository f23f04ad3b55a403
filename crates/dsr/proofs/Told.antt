-- How an entry that reads ends: with no choice that it can take nothing is read, and all stays; with one the reading's answer is told. Assumes nothing.
use Rattle.std.proofs.Common.{◌≡◌, List, [], ℕ, length, inl, inr, ap, ◌∙◌}
use Rattle.choices.specs.declared.Choices.{Choices}
use Rattle.choices.specs.Types.{Asked}
use Rattle.entries.specs.Entries.{Told, Given, given, returned, answered, choosing, Chosen, Unchosen}
use Rattle.entries.specs.Laws.{returns_no_room, returns_unchosen, returns_chosen, returns_told}

-- of w numbers; g is what each choice gives
module _ (w : ℕ) (a : List ℕ) (p : ℕ) (i r : List ℕ) (g : Choices → Given) (q : Asked) where
  pub not_read : (n : ℕ) → Unchosen w (length a) q n → returned n i r a p ≡ choosing w a p i r g q
  not_read n (inl (h, e)) = ap (λ (x : ℕ). returned x i r a p) e ∙ returns_no_room w a p i r g h q
  not_read n (inr (h, e, k)) = ap (λ (x : ℕ). returned x i r a p) k ∙ returns_unchosen w a p i r g h q e

  pub read : (ch : Choices) → Chosen w (length a) q ch → (t : Told) (i' r' a' : List ℕ) (n k : ℕ) → given t i' r' ≡ g ch → returned n [] [] a' k ≡ answered w a p [] [] t
      → returned n i' r' a' k ≡ choosing w a p i r g q
  read ch (h, e) t i' r' a' n k eg et = returns_chosen w a p i r g q ch e _ (returns_told w a p i r (g ch) h t i' r' a' n k eg et)
