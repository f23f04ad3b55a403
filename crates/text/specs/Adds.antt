-- The text in a lent buffer: what room there is behind it, and what is put there.
-- Assumes nothing.
use Rattle.std.specs.Prelude.{◌≡◌, List, ℕ, ◌+◌, ◌≤◌, length}
use Rattle.text.specs.Text.{Put}
use Rattle.text.specs.declared.Text.{Text}

-- there is room for n octets behind the text
abbrev pub HasRoom : ℕ → Text → Type 0
HasRoom n text = text.end + n ≤ length text.room.now

-- what was put where the text ended, inside the buffer; that is the one that was lent, and as long as it was
pub record Adds (what : List ℕ) (before after : Text) : Type 0 where
  pub put : Put what before.room.now before.end after.room.now after.end
  pub within : after.end ≤ length after.room.now
  pub same_length : length after.room.now ≡ length before.room.now
  pub same_room : after.room.ghost_name ≡ before.room.ghost_name
