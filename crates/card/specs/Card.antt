-- The transfer card: document 02, request 07, whose words card, block, check and padding are.
use Rattle.std.specs.Prelude.{ℕ, ◌+◌, ◌-◌, ◌/◌, List, ◌++◌, length}
use Rattle.wire.specs.Number.{be_bytes}
use Rattle.wire.specs.Parts.{part, parts}
use Rattle.table.specs.Table.{filled}
use Rattle.checksum.specs.Checksum.{check_of}

-- a block of this number and data: "block number (4 bytes, from 0), 504 bytes of file, and a 4-byte check, all big-endian", the check
-- that of "the first 508 bytes"
unfoldable pub block_with : ℕ → List ℕ → List ℕ
block_with i x = (be_bytes 4 i ++ x) ++ be_bytes 4 (check_of (be_bytes 4 i ++ x))

-- the data of block i of a file: "The last block is padded with zeros"
unfoldable pub data_of : List ℕ → ℕ → List ℕ
data_of f i = filled (part 504 f i) 504

-- block i of a file, "from 0"
unfoldable pub block_of : List ℕ → ℕ → List ℕ
block_of f i =
    block_with i (data_of f i)

-- how many blocks n bytes take: 504 a block, "and always block 0"
unfoldable pub blocks_for : ℕ → ℕ
blocks_for n =
    (n - 1) / 504 + 1

-- the card of a file: its blocks, one after the other
unfoldable pub card_of : List ℕ → List ℕ
card_of f = parts (block_of f) (blocks_for (length f))
