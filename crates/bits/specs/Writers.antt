-- What the contracts of `FieldWriter` cite. Assumes nothing.
--     out_of w               the bytes that the writer w was lent
--     next_of w              how many bits lie before its place
--     puttable w v n         the number v can be put into the next n bits: at most 64, v has no more, and all of them are there
--     IfRoom w v n P         P holds, if v can be put into the next n bits of w
--     Puts w w' v n          what becomes of the writer w, which is w' after, when v is put into n bits
use Rattle.std.specs.Prelude.{◌≡◌, ℕ, ◌+◌, ◌*◌, ◌^◌, ◌<◌, ◌≤◌, Bool, false, ◌&&◌, List, length, nat_le, nat_lt}
use Rattle.bits.specs.Bits.{spelled}
use Rattle.bits.specs.declared.writer.FieldWriter.{FieldWriter}

abbrev pub out_of : FieldWriter → List ℕ
out_of w = w.out.now

abbrev pub next_of : FieldWriter → ℕ
next_of w = w.place

-- A number has at most n bits if it is below 2 ^ n.
abbrev pub puttable : FieldWriter → ℕ → ℕ → Bool
puttable w v n = nat_le n 64 && (nat_lt v (2 ^ n) && nat_le (next_of w + n) (8 * length (out_of w)))

-- The three parts of `puttable`, as facts that P hangs on.
abbrev pub IfRoom : FieldWriter → ℕ → ℕ → Type 0 → Type 0
IfRoom w v n P = n ≤ 64 → v < 2 ^ n → next_of w + n ≤ 8 * length (out_of w) → P

-- A number that can be put stands in the next n bits, and the place moves behind them; one that cannot changes nothing.
-- Each field that lies wholly before the place, or wholly behind those n bits, spells what it spelled.
pub record Puts (before after : FieldWriter) (v n : ℕ) : Type 0 where
  pub place : IfRoom before v n (next_of after ≡ next_of before + n)
  pub field : IfRoom before v n (spelled (out_of after) (next_of before) n ≡ v)
  pub refused : puttable before v n ≡ false → (out_of after ≡ out_of before) × (next_of after ≡ next_of before)
  pub earlier : (a w : ℕ) → a + w ≤ next_of before → spelled (out_of after) a w ≡ spelled (out_of before) a w
  pub later : (a w : ℕ) → next_of before + n ≤ a → spelled (out_of after) a w ≡ spelled (out_of before) a w
  pub size : length (out_of after) ≡ length (out_of before)
  pub lender : after.out.ghost_name ≡ before.out.ghost_name
