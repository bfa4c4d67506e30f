-- CRC-8, polynomial 07, start 0, highest bit first: bit by bit, as it is defined.
use Rattle.std.specs.Prelude.{ℕ, ◌*◌, ◌%◌, ◌<◌, ◌≡◌, List, ltb, get_or}
use Rattle.std.specs.Int.Bits.{bit_xor}
use Rattle.std.specs.List.{fold}
use Rattle.base.specs.Choice.{pick}

-- one bit: the register goes left, and takes the polynomial where the bit that leaves it was set
unfoldable pub crc_bit : ℕ → ℕ
crc_bit x = pick (ltb x 128) (x * 2) (bit_xor (x * 2 % 256) 0x07)

-- the eight bits of one byte
unfoldable pub crc_bits : ℕ → ℕ
crc_bits x = crc_bit (crc_bit (crc_bit (crc_bit (crc_bit (crc_bit (crc_bit (crc_bit x)))))))

-- the register after one byte more
unfoldable pub crc_byte : ℕ → ℕ → ℕ
crc_byte crc b = crc_bits (bit_xor crc b)

-- the register after more bytes, one after the other
unfoldable pub crc_from : ℕ → List ℕ → ℕ
crc_from crc bytes = fold crc_byte crc bytes

unfoldable pub crc_of : List ℕ → ℕ
crc_of bytes = crc_from 0 bytes

-- the rule of the table: at each byte stands what its eight bits make of an empty register
pub record CrcTabled (table : List ℕ) : Type 0 where
  pub rule : (byte : ℕ) → byte < 256 → get_or table byte 0 ≡ crc_bits byte
