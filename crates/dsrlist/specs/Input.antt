-- What a read of the input may answer. Assumes nothing.
use Rattle.std.specs.Prelude.{ℕ, ◌≤◌, ◌≡◌, Result, Ok, IfOk}
use Rattle.std.proofs.Common.{subst}

-- no more octets came than there is room for
abbrev pub Within : {E : Type 0} → ℕ → Result ℕ E → Type 0
Within room r = IfOk r (λ n. n ≤ room)

pub within_came : {E : Type 0} {room n : ℕ} {x : Result ℕ E} → Within room x → x ≡ Ok n → n ≤ room
within_came {E} {room} {n} {x} h e = subst (Within room) e h
