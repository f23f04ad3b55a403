-- The image of an utterance: its multiframes, one behind the other (01, "Multiframe", "Writing"). Multiframes count from 0.
-- Assumes nothing.
use Rattle.std.specs.Prelude.{ℕ, zero, suc, ◌+◌, Bool, List, [], ◌++◌}
use Rattle.settings.specs.declared.Settings.{Settings}
use Rattle.layout.specs.Layout.{multiframe_pairs, header_octets, stream_octets, first_pair, sync}
use Rattle.bits.specs.Bits.{field, octets}
use Rattle.packet.specs.Packet.{stream}
use Rattle.header_code.specs.Code.{codeword}
use Rattle.message.specs.Message.{message}

-- multiframe k: sync 87 B2, the header's codeword with the counter 1 in the first and stepping modulo 16, and twelve packets; frames past
-- the last are zeros
unfoldable pub multiframe : Settings → List ℕ → ℕ → List ℕ
multiframe settings idx k =
    sync
    ++ (octets header_octets (field 32 (codeword (message settings (k + 1) 0))) ++ octets stream_octets (stream idx (first_pair k) multiframe_pairs))

-- m multiframes, one behind the other
unfoldable pub image : Settings → List ℕ → ℕ → List ℕ
image settings idx zero = []
image settings idx (suc m) = image settings idx m ++ multiframe settings idx m

-- the header words and the streams of its multiframes
module _ (settings : Settings) (idx : List ℕ) where
  abbrev pub words : ℕ → ℕ
  words k = codeword (message settings (k + 1) 0)

  abbrev pub streams : ℕ → List Bool
  streams k = stream idx (first_pair k) multiframe_pairs
