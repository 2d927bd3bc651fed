-- The marks of the tasks. Assumes nothing.
--     zero_mark         no line kept, and no credit
--     keeping s k       the mark k, with the lines s in the place of those it keeps
--     changed ms i f    the marks ms, with mark i as f makes it
use Rattle.std.specs.Prelude.{ℕ, List, slice_index_or, slice_set}
use Rattle.delay.specs.declared.mark.Mark.{Mark}

abbrev pub zero_mark : Mark
zero_mark = record { kept = record { lines = 0 }; credit = 0 }

abbrev pub keeping : ℕ → Mark → Mark
keeping s k = record { kept = record { lines = s }; credit = k.credit }

-- A number past the last mark changes nothing.
abbrev pub changed : List Mark → ℕ → (Mark → Mark) → List Mark
changed ms i f = slice_set ms i (f (slice_index_or ms i zero_mark))
