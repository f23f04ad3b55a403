-- How counting the bad pairs goes on by one note, and so to the end: what is counted and what is still to be counted make the whole.
-- Assumes nothing.
use Rattle.std.specs.Prelude.{ℕ, zero, suc, ◌+◌, ◌<◌, ◌≤◌, ◌≡◌, List, not, length, get_or, take, drop, count_by}
use Rattle.std.proofs.Common.{sym, ap, ◌∙◌, drop-cons, add-one, arith, eq-eqb, ne_eqb}
use Rattle.std.proofs.lemmas.List.{take_all}
use Rattle.std.proofs.Math.Seq.{drop-length}
use Rattle.std.proofs.lemmas.List.Sums.{count_by_more_no, count_by_more_yes}
use Rattle.std.proofs.Math.Decide.{ℕ_discrete}
use Rattle.bad_pairs.specs.BadPairs.{bad, bad_pairs}

-- counting goes on by one pair
pub counted : (k n : ℕ) (ns : List ℕ) → k < length ns → (get_or ns k 0 ≡ 0 → ⊥) → n + bad_pairs (drop k ns) ≡ n + 1 + bad_pairs (drop (k + 1) ns)
counted k n ns h b = rw (drop-cons ns k 0 h, ne_eqb (get_or ns k 0) 0 b, add-one k) (omega arith)

pub passed : (k n : ℕ) (ns : List ℕ) → k < length ns → get_or ns k 0 ≡ 0 → n + bad_pairs (drop k ns) ≡ n + bad_pairs (drop (k + 1) ns)
passed k n ns h b = rw (drop-cons ns k 0 h, eq-eqb (get_or ns k 0) 0 b, add-one k)

-- the first k pairs are counted in the library's words, the others are still to be counted
pub counting : (ns : List ℕ) (k : ℕ) → k ≤ length ns → count_by bad (take k ns) + bad_pairs (drop k ns) ≡ bad_pairs ns
counting ns zero h = omega arith
counting ns (suc k) h =
    let n = count_by bad (take k ns) in
    let room : k < length ns = omega arith in
    let on : count_by bad (take (k + 1) ns) + bad_pairs (drop (k + 1) ns) ≡ n + bad_pairs (drop k ns) =
    elim (ℕ_discrete (get_or ns k 0) 0) [
      | yes z ↦ ap (λ (m : ℕ). m + bad_pairs (drop (k + 1) ns)) (count_by_more_no bad ns k 0 room (ap not (eq-eqb (get_or ns k 0) 0 z))) ∙ sym (passed k n ns room z)
      | no b ↦ ap (λ (m : ℕ). m + bad_pairs (drop (k + 1) ns)) (count_by_more_yes bad ns k 0 room (ap not (ne_eqb (get_or ns k 0) 0 b))) ∙ sym (counted k n ns room b)
    ] in
    rw (← add-one k) (on ∙ counting ns k (omega arith))

-- the count in the library's words, which say what the code's chain of iterators gives: once all are counted, none is left
pub bad_pairs_is : (ns : List ℕ) → count_by bad ns ≡ bad_pairs ns
bad_pairs_is ns =
    let all : count_by bad (take (length ns) ns) ≡ count_by bad ns = ap (count_by bad) (take_all (length ns) ns (omega arith)) in
    let none : bad_pairs (drop (length ns) ns) ≡ 0 = ap bad_pairs (drop-length ns) in
    omega (arith, all, none, counting ns (length ns) (omega arith))
