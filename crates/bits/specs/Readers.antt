-- What the contracts of `BitReader` cite. Assumes nothing.
--     bytes_of r             the bytes that the reader r was lent
--     place_of r             how many bits lie before its place
--     available r w          a field of w bits can be taken: at most 64, and all of them are there
use Rattle.std.specs.Prelude.{ℕ, ◌+◌, ◌*◌, Bool, ◌&&◌, List, length, nat_le}
use Rattle.bits.specs.declared.reader.BitReader.{BitReader}

-- They are lent and not changed.
abbrev pub bytes_of : BitReader → List ℕ
bytes_of r = r.bytes.now

-- The next field begins there.
abbrev pub place_of : BitReader → ℕ
place_of r = r.place

-- A number has at most 64 bits.
abbrev pub available : BitReader → ℕ → Bool
available r w = nat_le w 64 && nat_le (place_of r + w) (8 * length (bytes_of r))
