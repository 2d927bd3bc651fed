-- What the contracts of `Log` cite. Assumes nothing.
--     entries l             the rows written since the last clearing, in their order
--     room l                how many rows the lent memory has
--     lender l              the name of the lent memory, by which its owner knows it again
--     no_such_entry         the refusal of a row that is not there
--     full l                no row is free
use Rattle.std.specs.Borrow.{GName}
use Rattle.std.specs.Prelude.{ℕ, Bool, List, length, take, None, nat_le}
use Rattle.fault.specs.declared.Cause.TheVariants.{NoSuchEntry}
use Rattle.fault.specs.declared.Fault.{Fault}
use Rattle.fault.specs.declared.Layer.TheVariants.{Run}
use Rattle.row_log.specs.declared.journal.Log.{Log}

-- They stand at the front of the lent memory.
abbrev pub entries : {T : Type 0} → Log T → List T
entries l = take l.used l.rows.now

-- No call changes it.
abbrev pub room : {T : Type 0} → Log T → ℕ
room l = length l.rows.now

-- What the memory holds after the log is what the log left there.
abbrev pub lender : {T : Type 0} → Log T → GName
lender l = l.rows.ghost_name

-- As many rows are written as there is room for.
abbrev pub full : {T : Type 0} → Log T → Bool
full l = nat_le (room l) (length (entries l))

-- It names no row and no bit.
abbrev pub no_such_entry : Fault
no_such_entry = record { layer = Run; cause = NoSuchEntry; row = None; bit = None }
